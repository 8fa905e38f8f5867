use Rattle.std.proofs.Common.{◌≡◌, ◌-◌, ℕ, List, length, get_or, refl, sym, ap, subst, arith}
use Rattle.std.proofs.Math.ListN.{length-set}
use Rattle.fb_bytes.specs.Word.{Lent}
use Rattle.fb_strict.specs.{Asked.Demand, Passing.blank, Passing.frame_links, Passing.IsPassing, Passing.IsRoom, Passing.IsLeft, Passing.GoesDown, Passing.wants_of}
use Rattle.fb_rules.specs.declared.link.Link.{Link}
use Rattle.fb_strict.proofs.Stacks.{top_of, stays_turned, up_turned, in_turned, stops_turned, has_frame, its_table, its_object, its_reads, its_paid, open_stops, down_turned}
use Rattle.fb_strict.proofs.pass.Pass.turn.Goals as goal
use Rattle.fb_strict.proofs.pass.Pass.turn.Goals.{After-open-arg-1}

-- src/pass.rt
pub step-requires-clause-left : goal.step-requires-clause-left
step-requires-clause-left g c =
    let t = top_of c.args.self.now c.args.reads.now.bytes c.args.frames.now c.args.many (c.args.many - 1) c.requires.left.0 c.requires.some refl c.requires.left.1 in
    (length c.args.frames.now - (c.args.many - 1), frame_links (wants_of c.args.self.now) c.args.reads.now.bytes c.args.self.now.rows c.args.frames.now (c.args.many - 1), t.own, t.left)

pub returns-in-Ok-Here : goal.returns-in-Ok-Here
returns-in-Ok-Here g c ds stack =
    stays_turned c.args.self.now c.args.reads.now c.step.new.reads c.args.frames.now c.args.many (c.args.many - 1) c.requires.some c.requires.within refl ds stack c.step.new.top
    (λ room via own l. rw (c.in-Ok-Here.is, c.in-Ok-Here.field-0-is) at (c.step.ensures room via own l))

pub returns-in-Ok-Up : goal.returns-in-Ok-Up
returns-in-Ok-Up g c ds stack =
    up_turned c.args.self.now c.args.reads.now c.step.new.reads c.args.frames.now c.args.many (c.args.many - 1) c.requires.some c.requires.within refl ds stack c.step.new.top
    (λ room via own l. rw (c.in-Ok-Up.is, c.in-Ok-Up.field-0-is) at (c.step.ensures room via own l))

pub returns-in-Ok-In : goal.returns-in-Ok-In
returns-in-Ok-In g c ds stack =
    in_turned c.args.self.now c.args.reads.now c.step.new.reads c.args.frames.now c.args.many (c.args.many - 1) c.requires.some c.requires.within refl ds stack c.step.new.top c.in-Ok-In.inner
    (λ room via own l. rw (c.in-Ok-In.is, c.in-Ok-In.field-0-is) at (c.step.ensures room via own l))

pub returns-in-Err : goal.returns-in-Err
returns-in-Err g c ds stack =
    stops_turned c.args.self.now c.args.reads.now c.step.new.reads c.args.frames.now c.args.many (c.args.many - 1) c.requires.some c.requires.within refl ds stack c.step.new.top c.in-Err.halt
    (λ room via own l. rw c.in-Err.is at (c.step.ensures room via own l))

-- what the step leaves of a frame that goes down
down : (g : _) (c : After-open-arg-1 g) (room : ℕ) (via : List Link) (own : List Demand) → IsLeft c.args.self.now c.args.reads.now.bytes room via (get_or c.args.frames.now (c.args.many - 1) blank) own
    → GoesDown c.args.self.now c.args.reads.now c.step.new.reads room via own (get_or c.args.frames.now (c.args.many - 1) blank) c.step.new.top c.step.new.child
down g c room via own l = rw (c.in-Ok-Down.is, c.in-Ok-Down.field-0-is) at (c.step.ensures room via own l)

pub bounds-frames-at-in-Ok-Down : goal.bounds-frames-at-in-Ok-Down
bounds-frames-at-in-Ok-Down g c =
    let h = has_frame c.args.self.now c.args.reads.now c.step.new.reads c.args.frames.now c.args.many (c.args.many - 1) c.requires.some c.requires.within refl c.requires.left.0 c.requires.left.1 c.step.new.reads c.step.new.top c.step.new.child (down g c) c.requires.passing in
    omega (arith, h, length-set c.args.frames.now (c.args.many - 1) c.step.new.top)

-- its reads
on : (g : _) (c : After-open-arg-1 g) → c.step.new.reads ≡ record c.args.reads.now { count = c.step.new.reads.count }
on g c = (its_reads c.args.self.now c.args.reads.now c.step.new.reads c.args.frames.now c.args.many (c.args.many - 1) c.requires.some c.requires.within refl c.requires.left.0 c.requires.left.1 c.step.new.reads c.step.new.top c.step.new.child (down g c) c.requires.passing).same

same_bytes : (g : _) (c : After-open-arg-1 g) → c.step.new.reads.bytes ≡ c.args.reads.now.bytes
same_bytes g c = ap (λ (x : Lent). x.bytes) (on g c)

pub open-requires-clause-room : goal.open-requires-clause-room
open-requires-clause-room g c =
    let o = (goal.at.open-requires-clause-room g c).After-open-arg-1 in
    subst (λ n. IsRoom c.args.self.now.limits n c.args.room) (sym (ap (λ (x : Lent). x.base) (on g o))) c.requires.room

pub open-requires-clause-few : goal.open-requires-clause-few
open-requires-clause-few g c =
    let o = (goal.at.open-requires-clause-few g c).After-open-arg-1 in
    let paid = its_paid c.args.self.now c.args.reads.now c.step.new.reads c.args.frames.now c.args.many (c.args.many - 1) c.requires.some c.requires.within refl c.requires.left.0 c.requires.left.1 c.step.new.reads c.step.new.top c.step.new.child (down g o) c.requires.passing in
    let base = ap (λ (x : Lent). x.base) (on g o) in
    omega (arith, paid, base, c.requires.few)

pub open-requires-clause-passing : goal.open-requires-clause-passing
open-requires-clause-passing g c =
    let o = (goal.at.open-requires-clause-passing g c).After-open-arg-1 in
    subst (IsPassing c.args.self.now) (sym (same_bytes g o)) c.requires.passing

pub open-requires-clause-object : goal.open-requires-clause-object
open-requires-clause-object g c =
    let o = (goal.at.open-requires-clause-object g c).After-open-arg-1 in
    its_object c.args.self.now c.args.reads.now c.step.new.reads c.args.frames.now c.args.many (c.args.many - 1) c.requires.some c.requires.within refl c.requires.left.0 c.requires.left.1 c.step.new.reads c.step.new.top c.step.new.child (down g o) c.requires.passing

pub open-requires-clause-table : goal.open-requires-clause-table
open-requires-clause-table g c =
    let o = (goal.at.open-requires-clause-table g c).After-open-arg-1 in
    rw (same_bytes g o) (its_table c.args.self.now c.args.reads.now c.step.new.reads c.args.frames.now c.args.many (c.args.many - 1) c.requires.some c.requires.within refl c.requires.left.0 c.requires.left.1 c.step.new.reads c.step.new.top c.step.new.child (down g o) c.requires.passing)

pub overflow_add-result : goal.overflow_add-result
overflow_add-result g c = omega (arith, c.requires.within, c.requires.small)

pub returns-in-Ok : goal.returns-in-Ok
returns-in-Ok g c ds stack =
    let o = (goal.at.returns-in-Ok g c).After-open-arg-1 in
    down_turned c.args.self.now c.args.reads.now c.open.new.reads c.args.frames.now c.args.many (c.args.many - 1) c.requires.some c.requires.within refl ds stack c.step.new.reads c.step.new.top c.step.new.child (down g o) c.requires.passing c.in-Ok.ensures.opens _ (rw (same_bytes g o) at c.in-Ok.ensures.head) c.open.new.frame c.in-Ok.ensures.frame

pub returns-in-Err-open : goal.returns-in-Err-open
returns-in-Err-open g c ds stack =
    let o = (goal.at.returns-in-Err-open g c).After-open-arg-1 in
    open_stops c.args.self.now c.args.reads.now c.open.new.reads c.args.frames.now c.args.many (c.args.many - 1) c.requires.some c.requires.within refl ds stack c.step.new.reads c.step.new.top c.step.new.child (down g o) c.requires.passing c.in-Err-open.stop c.in-Err-open.ensures.opens c.open.new.frame c.halt.result c.halt.ensures
