use Rattle.std.proofs.Common.{◌≡◌, ℕ, ◌<◌, List, [], length, refl, sym, ◌∙◌, ap, arith, Option, Result}
use Rattle.std.proofs.{Math.ListN.length-set, lemmas.List.get_or-set_same, lemmas.List.Elements.All-nil}
use Rattle.fb_bytes.specs.Word.{Lent}
use Rattle.fb_rules.specs.{Told.stopped, Told.way_at, declared.site.Halt.Halt, declared.table.Table.Table}
use Rattle.fb_verify.specs.{Turns.GoneOn, Turns.UsedUp, Stack.blank, Stack.opened, Stack.IsFrame, Stack.IsLinked, Stack.IsUnderWay, Stack.Origin, Stack.StopsIn, Stack.work}
use Rattle.fb_verify.specs.declared.{scratch.Frame.Frame, stack.Walk.Walk}
use Rattle.fb_rules.proofs.Few.{head_few}
use Rattle.fb_verify.proofs.{Frames.frame_opened, Frames.work_opened, Standings.begin, Standings.stop_at_root}
use Rattle.fb_verify.proofs.Turning.{gone_from, over_from, ran_deeper, slowly, wrong_from}
use Rattle.fb_verify.proofs.stack.Walk.run.Goals.{In-Err, In-Ok, In-Ok-Some, After-go_on, Joined-is_plain, then-is_plain+in_default, else-is_plain}
use Rattle.fb_verify.proofs.stack.Walk.run.Goals as goal

-- where the root table can't be opened, no frame leads there
fails_at_root : (g : _) (c : In-Err g) → StopsIn c.args.self.now.checks c.args.loan.now.bytes c.args.self.now.schema.now c.args.self.now.limits g.start [] [] (stopped c.in-Err.stop c.open_table.new.loan.count)
fails_at_root g c =
    let ch = c.args.self.now.checks in
    let b = c.args.loan.now.bytes in
    let S = c.args.self.now.schema.now in
    let s : Origin = record { object = c.args.root.object; position = c.args.root.at; way = way_at 0 c.args.self.now.tables c.args.self.now.deepest c.args.loan.now.count c.args.site } in
    let stops = stop_at_root ch b S c.args.self.now.limits s c.args.root.at c.args.site c.args.self.now.tables c.args.self.now.deepest c.args.loan.now.count _ refl refl c.requires.1.1.1.1.1.1.0 c.requires.1.1.1.1.1.1.1.0 c.requires.1.1.1.1.1.1.1.1.0 c.in-Err.ensures.err in
    rw c.requires.0 (record { along = stops; linked = All-nil (IsLinked ch b S) })

pub returns-in-Err : goal.returns-in-Err
returns-in-Err g c =
    let e = fails_at_root g (goal.at.returns-in-Err g c).In-Err in
    rw c.halt.ensures (record { rows = []; wrong = record { deep = omega arith; err = e; bytes = c.in-Err.ensures.bytes }; along = λ _. e })

-- the root table wasn't passed before
kept : (g : _) (c : Joined-is_plain g) → (c.if-is_plain.self ≡ c.open_table.new.self) × (c.if-is_plain.loan ≡ c.open_table.new.loan)
kept g c = elim c.if-is_plain.branch [
  | then-is_plain+in_default w ↦
      let k = slowly _ _ w.pass_root.result w.in_default.not-Up w.in_default.not-Halt w.pass_root.ensures in
      (rw w.self-is k.0, rw w.loan-is k.1)
  | else-is_plain w ↦ (rw w.self-is refl, rw w.loan-is refl)
]

-- the root table is opened
begun : (g : _) (c : In-Ok g) → IsUnderWay c.args.self.now.checks c.args.loan.now.bytes c.args.self.now.schema.now c.args.self.now.limits g.start [] (opened c.in-Ok.table) c.open_table.new.self.tables c.open_table.new.self.deepest c.open_table.new.loan.count
begun g c =
    let b = c.args.loan.now.bytes in
    let S = c.args.self.now.schema.now in
    let L = c.args.self.now.limits in
    let ch = c.args.self.now.checks in
    let s : Origin = record { object = c.args.root.object; position = c.args.root.at; way = way_at 0 c.args.self.now.tables c.args.self.now.deepest c.args.loan.now.count c.args.site } in
    let table = c.in-Ok.table in
    let t = c.in-Ok.ensures.table in
    let object = ap (λ (x : Table). x.object) t in
    let at = ap (λ (x : Table). x.at) t in
    let h = begin ch b S L s table c.args.self.now.deepest refl refl object at (rw (sym at) at c.in-Ok.ensures.ok) in
    let frame = frame_opened ch b S table (rw (sym object) at c.requires.1.1.0) (rw (sym at) at c.requires.1.1.1.0) (rw (sym at) at c.in-Ok.ensures.head) in
    rw (c.in-Ok.ensures.opened, c.in-Ok.ensures.counted)
    (record {
      served = c.requires.1.0;
      tables = omega (arith, c.in-Ok.ensures.allowed.fewer);
      deepest = omega (arith, c.in-Ok.ensures.allowed.deep, c.requires.1.1.1.1.1.1.1.0);
      reads = rw c.in-Ok.ensures.counted at c.in-Ok.ensures.reads;
      links = c.in-Ok.ensures.allowed.deep;
      low = omega arith;
      frames = All-nil (IsFrame ch b S);
      frame = frame;
      standing = rw c.requires.0 h;
    })

pub pass_root-requires : goal.pass_root-requires
pass_root-requires g c =
    let d = (goal.at.pass_root-requires g c).In-Ok in
    let object = ap (λ (x : Table). x.object) c.in-Ok.ensures.table in
    (refl, (rw (c.in-Ok.ensures.opened, c.in-Ok.ensures.counted) (rw (c.in-Ok.ensures.opened, c.in-Ok.ensures.counted) at (begun g d)), (refl, rw object (sym c.is_plain.ensures ∙ c.if-is_plain.true))))

pub go_on-requires : goal.go_on-requires
unfolding work
go_on-requires g c =
    let d = (goal.at.go_on-requires g c).In-Ok in
    let k = kept g (goal.at.go_on-requires g c).Joined-is_plain in
    let xs = c.args.frames.now in
    let table = c.in-Ok.table in
    let new = work_opened c.args.self.now.checks c.args.loan.now.bytes c.args.self.now.schema.now table c.requires.1.0 in
    let some : 0 < length xs = omega (arith, c.in-Ok.ensures.allowed.deep, c.requires.1.1.1.1.0) in
    let top = get_or-set_same xs 0 c.opened.result blank some in
    rw (c.again-walk.ensures, c.hand_on-rest.ensures.same, k.0, k.1, c.in-Ok.ensures.opened, c.in-Ok.ensures.counted)
    (record {
      walking = rw (top, c.opened.ensures) (rw (c.in-Ok.ensures.opened, c.in-Ok.ensures.counted) at (begun g d));
      top = omega (arith, length-set xs 0 c.opened.result, some);
      few = rw (top, c.opened.ensures) (omega (arith, new, head_few c.args.self.now.checks, c.requires.1.1.1.1.1.1.1.1.1, c.in-Ok.ensures.allowed.fewer, c.in-Ok.ensures.allowed.small));
    })

-- The walk goes on below the root table.

gone : (g : _) (c : Joined-is_plain g) (then : Walk) (new : Lent) (frames : List Frame) (r : Result (Option ℕ) Halt) → GoneOn c.if-is_plain.self then c.if-is_plain.loan new g.start frames r
    → GoneOn c.args.self.now then c.args.loan.now new g.start frames r
gone g c then new frames r h = let k = kept g c in gone_from _ _ _ _ _ _ _ (k.0 ∙ c.in-Ok.ensures.opened) (ap (λ (x : Lent). x.bytes) k.1 ∙ c.in-Ok.ensures.bytes) _ r h

-- what it came to
came : (g : _) (c : After-go_on g) → GoneOn c.args.self.now c.go_on.new.self c.args.loan.now c.go_on.new.loan g.start c.go_on.new.frames c.go_on.result
came g c = gone g (goal.at.After-go_on g c).Joined-is_plain _ _ _ c.go_on.result (rw (c.again-walk.ensures, c.hand_on-rest.ensures.same) at c.go_on.ensures)

pub returns-in-Ok-None : goal.returns-in-Ok-None
returns-in-Ok-None g c = rw (c.in-Ok-None.is, c.in-Ok-None.field-0-is) at (came g (goal.at.returns-in-Ok-None g c).After-go_on)

pub returns-in-Err-go_on : goal.returns-in-Err-go_on
returns-in-Err-go_on g c =
    let e = rw c.in-Err-go_on.is at (came g (goal.at.returns-in-Err-go_on g c).After-go_on) in
    record { rows = c.go_on.new.frames; wrong = e; along = λ _. e.err }

-- where these frames are used up, and it goes on in more
used : (g : _) (c : In-Ok-Some g) → UsedUp c.args.self.now c.go_on.new.self c.args.loan.now c.go_on.new.loan g.start c.go_on.new.frames c.in-Ok-Some.waiting
used g c = rw (c.in-Ok-Some.is, c.in-Ok-Some.field-0-is) at (came g (goal.at.In-Ok-Some g c).After-go_on)

pub returns-in-Ok-Some : goal.returns-in-Ok-Some
returns-in-Ok-Some g c =
    let u = used g (goal.at.returns-in-Ok-Some g c).In-Ok-Some in
    ran_deeper _ _ _ _ _ _ _ u.same u.bytes c.go_on.new.frames c.go_deeper-answer.result u.less c.go_deeper-answer.ensures

pub go_deeper-answer-requires : goal.go_deeper-answer-requires
go_deeper-answer-requires g c =
    let u = used g (goal.at.go_deeper-answer-requires g c).In-Ok-Some in
    let limits = ap (λ (x : Walk). (x.limits).depth) u.same in
    let kept = c.go_on.auto.frames in
    let set = length-set c.args.frames.now 0 c.opened.result in
    (u.goes, (omega (arith, u.less, c.requires.1.1.1.1.1.0, kept, set), omega (arith, limits, u.less, c.requires.1.1.1.1.1.0, kept, set)))

-- Where the root table is passed whole, or the walk stops in it.

pub returns-in-Up : goal.returns-in-Up
returns-in-Up g c = over_from c.in-Ok.ensures.opened c.in-Ok.ensures.bytes c.in-Up.ensures

pub returns-in-Halt : goal.returns-in-Halt
returns-in-Halt g c =
    let e = c.in-Halt.ensures in
    let stops = wrong_from c.in-Ok.ensures.opened c.in-Ok.ensures.bytes e.0 in
    record { rows = []; wrong = stops; along = λ _. rw e.1 (rw e.1 at stops.err) }
