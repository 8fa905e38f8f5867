use Rattle.std.proofs.Common.{◌≡◌, ℕ, List, ◌++◌, take, get_or, arith, length-append}
use Rattle.std.proofs.{Math.ListN.get_or-append, lemmas.List.take-append-le}
use Rattle.fb_bytes.specs.Word.{Lent}
use Rattle.fb_verify.specs.{Stack.blank, Stack.Origin, Turns.IsUnderWayOver, declared.scratch.Frame.Frame, declared.stack.Walk.Walk}
use Rattle.fb_verify.proofs.stack.Walk.go_deeper.Goals as goal

-- a walk goes on over the same frames and more behind them
over_more : (w : Walk) (m : Lent) (s : Origin) (xs ys : List Frame) (n : ℕ) → IsUnderWayOver w m s xs n → IsUnderWayOver w m s (xs ++ ys) n
over_more w m s xs ys n h =
    let below : take n (xs ++ ys) ≡ take n xs = take-append-le n xs ys (omega (arith, h.top)) in
    let top : get_or (xs ++ ys) n blank ≡ get_or xs n blank = get_or-append xs ys blank n h.top in
    record { walking = rw (below, top) h.walking; top = omega (arith, length-append xs ys, h.top); few = rw (below, top) h.few }

pub split_at_mut-first-requires : goal.split_at_mut-first-requires
split_at_mut-first-requires g c = c.requires.1.0

pub go_on-requires : goal.go_on-requires
go_on-requires g c =
    let same : c.copy_from_slice.new.self ≡ c.args.frames.now = c.copy_from_slice.ensures.after in
    rw same (over_more c.args.self.now c.args.loan.now g.start c.args.frames.now c.split_at_mut-first.result.1.now c.args.waiting c.requires.0)

pub unreachable-requires : goal.unreachable-requires
unreachable-requires g c =
    let used = rw (c.in-Ok-Some.is, c.in-Ok-Some.field-0-is) at c.go_on.ensures in
    omega (arith, used.less, length-append c.copy_from_slice.new.self c.split_at_mut-first.result.1.now)

pub returns-in-Err : goal.returns-in-Err
returns-in-Err g c = (_, c.in-Err.ensures)

pub returns-in-Ok-None : goal.returns-in-Ok-None
returns-in-Ok-None g c = rw (c.in-Ok-None.is, c.in-Ok-None.field-0-is) at c.go_on.ensures
