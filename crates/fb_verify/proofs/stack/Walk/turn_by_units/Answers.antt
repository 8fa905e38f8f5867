use Rattle.std.proofs.Common.{◌≡◌, length, get_or, refl, sym, ◌∙◌, ap, subst, arith}
use Rattle.std.proofs.lemmas.List.{length-take}
use Rattle.fb_verify.specs.{Stack.blank, Stack.IsWalking, declared.scratch.Frame.Frame}
use Rattle.fb_verify.proofs.Turning.{AreParted, stands, went_over, goes_above, goes_below, passed_work, stays_on, stops_behind, stops_in_field}
use Rattle.fb_verify.proofs.stack.Walk.turn_by_units.Goals.{After-split_at_mut-low}
use Rattle.fb_verify.proofs.stack.Walk.turn_by_units.Goals as goal

-- the frames in two parts
parted : (g : _) (c : After-split_at_mut-low g) → AreParted g.under c.args.frames.now c.split_at_mut-low.result.0.now c.split_at_mut-low.result.1.now c.args.waiting
parted g c = record { parts = c.split_at_mut-low.ensures.value; front = c.split_at_mut-low.ensures.front_len; below = c.requires.0 }

-- The next word of the top is passed.

pub returns-in-Ok-true : goal.returns-in-Ok-true
returns-in-Ok-true g c = goes_below (parted g (goal.at.returns-in-Ok-true g c).After-split_at_mut-low) c.pass_one.new.top c.pass_one.new.room c.requires.1.1.0 c.pass_one.auto.room (rw (c.in-Ok-true.is, c.in-Ok-true.field-0-test) at c.pass_one.ensures)

pub returns-in-Ok-false : goal.returns-in-Ok-false
returns-in-Ok-false g c = stays_on (parted g (goal.at.returns-in-Ok-false g c).After-split_at_mut-low) c.pass_one.new.top c.pass_one.new.room (rw (c.in-Ok-false.is, c.in-Ok-false.field-0-test) at c.pass_one.ensures)

pub returns-in-Err : goal.returns-in-Err
returns-in-Err g c = rw c.halt.ensures (stops_behind (parted g (goal.at.returns-in-Err g c).After-split_at_mut-low) c.pass_one.new.top c.pass_one.new.room (c.requires.1.0).links c.in-Err.ensures)

-- Its fields are passed.

pub returns-in-Ok-true-pass_each : goal.returns-in-Ok-true-pass_each
returns-in-Ok-true-pass_each g c = stays_on (parted g (goal.at.returns-in-Ok-true-pass_each g c).After-split_at_mut-low) c.pass_each.new.top c.split_at_mut-low.result.1.now (rw (c.in-Ok-true-pass_each.is, c.in-Ok-true-pass_each.field-0-test) at c.pass_each.ensures)

pub returns-then-waiting-eq0 : goal.returns-then-waiting-eq0
returns-then-waiting-eq0 g c =
    let h = rw (c.in-Ok-false-pass_each.is, c.in-Ok-false-pass_each.field-0-test) at c.pass_each.ensures in
    let b = (h.0).between in
    went_over g.under c.pass_each.new.top refl b.walking (c.requires.0 ∙ rw c.if-waiting-eq0.true refl) b.rests h.1 (h.0).bytes

pub returns-else-waiting-eq0 : goal.returns-else-waiting-eq0
returns-else-waiting-eq0 g c =
    let h = rw (c.in-Ok-false-pass_each.is, c.in-Ok-false-pass_each.field-0-test) at c.pass_each.ensures in
    let b = (h.0).between in
    goes_above (parted g (goal.at.returns-else-waiting-eq0 g c).After-split_at_mut-low) c.pass_each.new.top c.split_at_mut-low.result.1.now (omega (arith, c.if-waiting-eq0.false)) refl b.walking b.rests h.1 (passed_work h.0 _) (h.0).grows (h.0).bytes

pub returns-in-Err-pass_each : goal.returns-in-Err-pass_each
returns-in-Err-pass_each g c = rw c.halt-in-Err-pass_each.ensures (stops_in_field (parted g (goal.at.returns-in-Err-pass_each g c).After-split_at_mut-low) c.pass_each.new.top c.split_at_mut-low.result.1.now (c.requires.1.0).links c.in-Err-pass_each.ensures)

-- What these calls need.

top_was : (g : _) (c : After-split_at_mut-low g) → IsWalking c.args.self.now c.args.loan.now (g.under).start (g.under).frames (get_or c.split_at_mut-low.result.0.now c.args.waiting blank)
top_was g c = subst (λ (x : Frame). IsWalking c.args.self.now c.args.loan.now (g.under).start (g.under).frames x) (sym (stands (parted g c))) c.requires.1.0

pub pass_each-requires : goal.pass_each-requires
pass_each-requires g c = (record { walking = top_was g (goal.at.pass_each-requires g c).After-split_at_mut-low; rests = omega (arith, c.if-top-gt0.false) }, c.requires.1.1.1)

pub pass_one-requires : goal.pass_one-requires
pass_one-requires g c =
    let wait : c.args.waiting ≡ length (g.under).frames = omega (arith, ap length c.requires.0, length-take c.args.waiting c.args.frames.now, (c.requires.1.0).links, c.requires.1.1.0) in
    (wait, (top_was g (goal.at.pass_one-requires g c).After-split_at_mut-low, (c.if-top-gt0.true, (omega (arith, c.requires.1.1.0, c.split_at_mut-low.ensures.back_len), c.requires.1.1.1))))
