use Rattle.std.proofs.Common.{◌≡◌, ℕ, ◌+◌, ◌<◌, ◌≤◌, ◌⊎◌, inl, inr, length, min, refl, ◌∙◌, ap, arith}
use Rattle.fb_verify.specs.{Turns.WentOn, declared.stack.Walk.Walk}
use Rattle.fb_verify.proofs.Turning.{slowly, under_way, over_from, wrong_from}
use Rattle.fb_verify.proofs.stack.Walk.go_slowly.Goals.{then-waiting-frames, else-waiting-frames+then-depth-frames, In-Ok-Some, In_default}
use Rattle.fb_verify.proofs.stack.Walk.go_slowly.Goals as goal

-- On numbers.

room_below : (waiting n d : ℕ) → (waiting + 1 < n) ⊎ (d ≤ n) → min d (waiting + 2) ≤ n
room_below waiting n d (inl h) = omega arith
room_below waiting n d (inr h) = omega arith

-- a walk that went on from there began where it did
kept_on : (w : Walk) {mid then : Walk} → mid ≡ record w { tables = mid.tables; deepest = mid.deepest } → then ≡ record mid { tables = then.tables; deepest = then.deepest } → then ≡ record w { tables = then.tables; deepest = then.deepest }
kept_on w {then = then} h k = k ∙ ap (λ (x : Walk). record x { tables = then.tables; deepest = then.deepest }) h

pub turn_by_units-requires : goal.turn_by_units-requires
turn_by_units-requires g c =
    let i = c.loop-waiting.invariant.goes in
    let room : (c.loop-waiting.waiting + 1 < length c.loop-waiting.frames) ⊎ ((c.loop-waiting.self.limits).depth ≤ length c.loop-waiting.frames) =
    elim c.if-waiting-frames.branch [
      | then-waiting-frames w ↦ inl w.if-waiting-frames.true
      | else-waiting-frames+then-depth-frames w ↦ inr (rw w.depth.ensures.value at w.if-depth-frames.true)
    ] in
    (refl, (i.walking, (room_below _ _ _ room, omega (arith, i.few))))

-- a unit was passed
turned : (g : _) (c : In-Ok-Some g) → WentOn c.loop-waiting.self c.turn_by_units.new.self c.loop-waiting.loan c.turn_by_units.new.loan g.start c.loop-waiting.frames c.loop-waiting.waiting c.turn_by_units.new.frames c.in-Ok-Some.after 1
turned g c = rw (c.in-Ok-Some.is, c.in-Ok-Some.field-0-is) at c.turn_by_units.ensures

pub walk_on-requires : goal.walk_on-requires
walk_on-requires g c =
    let t = turned g (goal.at.walk_on-requires g c).In-Ok-Some in
    (t.walking, t.top)

-- and then the walk went on quickly
walked : (g : _) (c : In_default g) → WentOn c.turn_by_units.new.self c.walk_on.new.self c.turn_by_units.new.loan c.walk_on.new.loan g.start c.turn_by_units.new.frames c.in-Ok-Some.after c.walk_on.new.frames c.walk_on.new.waiting 0
walked g c = slowly _ _ c.walk_on.result c.in_default.not-Up c.in_default.not-Halt c.walk_on.ensures

pub loop-waiting-preserved : goal.loop-waiting-preserved
loop-waiting-preserved g c =
    let i = c.loop-waiting.invariant in
    let t = turned g (goal.at.loop-waiting-preserved g c).In-Ok-Some in
    let on = walked g (goal.at.loop-waiting-preserved g c).In_default in
    record {
      same = kept_on c.args.self.now (kept_on c.args.self.now i.same t.same) on.same;
      bytes = on.bytes ∙ t.bytes ∙ i.bytes;
      goes = under_way on (under_way t (i.goes).few).few;
    }

pub loop-waiting-smaller : goal.loop-waiting-smaller
loop-waiting-smaller g c =
    let i = c.loop-waiting.invariant in
    let t = turned g (goal.at.loop-waiting-smaller g c).In-Ok-Some in
    let on = walked g (goal.at.loop-waiting-smaller g c).In_default in
    let kept = kept_on c.args.self.now i.same t.same in
    omega (arith, rw (ap (λ (x : Walk). x.schema) i.same, ap (λ (x : Walk). x.limits) i.same) at t.falls, rw (ap (λ (x : Walk). x.schema) kept, ap (λ (x : Walk). x.limits) kept) at on.falls, t.grows, on.grows)

-- The walk is over, or stops, or has used the frames up.

pub returns-in-Ok-None : goal.returns-in-Ok-None
returns-in-Ok-None g c = over_from c.loop-waiting.invariant.same c.loop-waiting.invariant.bytes (rw (c.in-Ok-None.is, c.in-Ok-None.field-0-is) at c.turn_by_units.ensures)

pub returns-in-Err : goal.returns-in-Err
returns-in-Err g c = wrong_from c.loop-waiting.invariant.same c.loop-waiting.invariant.bytes c.in-Err.ensures

pub returns-in-Up : goal.returns-in-Up
returns-in-Up g c =
    let i = c.loop-waiting.invariant in
    let t = turned g (goal.at.returns-in-Up g c).In-Ok-Some in
    over_from (kept_on c.args.self.now i.same t.same) (t.bytes ∙ i.bytes) c.in-Up.ensures

pub returns-in-Halt : goal.returns-in-Halt
returns-in-Halt g c =
    let i = c.loop-waiting.invariant in
    let t = turned g (goal.at.returns-in-Halt g c).In-Ok-Some in
    wrong_from (kept_on c.args.self.now i.same t.same) (t.bytes ∙ i.bytes) c.in-Halt.ensures

pub returns : goal.returns
returns g c =
    let i = c.loop-waiting.invariant in
    record { goes = i.goes; less = rw (c.depth.ensures.value, ap (λ (x : Walk). (x.limits).depth) i.same) at c.if-depth-frames.false; same = i.same; bytes = i.bytes }
