use Rattle.std.proofs.Common.{◌+◌, Ok, Err, sym, subst, refl, ap, ◌∙◌, arith}
use Rattle.fb_rules.specs.OffsetRows.{AreTypesNear}
use Rattle.fb_strict.specs.Passing.{IsRoom}
use Rattle.fb_strict.proofs.Typed.{PassedSoFar, none_passed, its_bytes, its_base, its_count, its_types, its_place, one_passed, one_asked, all_passed}
use Rattle.fb_strict.proofs.pass.Pass.pass_types.Goals as goal

-- src/uoffsets.rt
pub loop-row-init : goal.loop-row-init
loop-row-init g c = (none_passed c.args.self.now c.args.reads.now c.args.top.now c.args.union c.args.first c.requires.typed, refl)

pub pass_typed-passed-requires-clause-room : goal.pass_typed-passed-requires-clause-room
pass_typed-passed-requires-clause-room g c =
    let l = c.requires.left in
    let base = its_base c.args.self.now c.args.reads.now c.loop-row.reads c.requires.passing c.args.top.now c.args.union c.loop-row.types c.loop-row.row c.loop-row.invariant.0 l.0 l.1 l.2 l.3 in
    subst (λ n. IsRoom c.args.self.now.limits n c.args.room) (sym base) c.requires.room

pub pass_typed-passed-requires-clause-few : goal.pass_typed-passed-requires-clause-few
pass_typed-passed-requires-clause-few g c =
    let l = c.requires.left in
    let base = its_base c.args.self.now c.args.reads.now c.loop-row.reads c.requires.passing c.args.top.now c.args.union c.loop-row.types c.loop-row.row c.loop-row.invariant.0 l.0 l.1 l.2 l.3 in
    let count = its_count c.args.self.now c.args.reads.now c.loop-row.reads c.requires.passing c.args.top.now c.args.union c.loop-row.types c.loop-row.row c.loop-row.invariant.0 l.0 l.1 l.2 l.3 in
    omega (arith, base, count, c.requires.few)

pub pass_typed-passed-requires-clause-typed : goal.pass_typed-passed-requires-clause-typed
pass_typed-passed-requires-clause-typed g c =
    let l = c.requires.left in
    its_types c.args.self.now c.args.reads.now c.loop-row.reads c.requires.passing c.args.top.now c.args.union c.loop-row.types c.loop-row.row c.loop-row.invariant.0 l.0 l.1 l.2 l.3 (omega (arith, c.loop-row-test.true))

pub pass_typed-passed-requires-clause-near : goal.pass_typed-passed-requires-clause-near
pass_typed-passed-requires-clause-near g c =
    let l = c.requires.left in
    let near = its_place c.args.self.now c.args.reads.now c.loop-row.reads c.requires.passing c.args.top.now c.args.union c.loop-row.types c.loop-row.row c.loop-row.invariant.0 l.0 l.1 l.2 l.3 in
    omega (arith, near)

pub advance-requires-clause-near : goal.advance-requires-clause-near
advance-requires-clause-near g c =
    let l = c.requires.left in
    let near = its_place c.args.self.now c.args.reads.now c.loop-row.reads c.requires.passing c.args.top.now c.args.union c.loop-row.types c.loop-row.row c.loop-row.invariant.0 l.0 l.1 l.2 l.3 in
    omega (arith, near)

pub advance-requires-clause-types : goal.advance-requires-clause-types
advance-requires-clause-types g c =
    let l = c.requires.left in
    let types = its_types c.args.self.now c.args.reads.now c.loop-row.reads c.requires.passing c.args.top.now c.args.union c.loop-row.types c.loop-row.row c.loop-row.invariant.0 l.0 l.1 l.2 l.3 (omega (arith, c.loop-row-test.true)) in
    let bytes = its_bytes c.args.self.now c.args.reads.now c.loop-row.reads c.requires.passing c.args.top.now c.args.union c.loop-row.types c.loop-row.row c.loop-row.invariant.0 l.0 l.1 l.2 l.3 in
    let short = rw (sym bytes) at c.requires.passing.short in
    subst AreTypesNear (sym c.loop-row.invariant.0.leads) (omega (arith, types, short))

pub overflow_add-types : goal.overflow_add-types
overflow_add-types g c =
    let l = c.requires.left in
    let types = its_types c.args.self.now c.args.reads.now c.loop-row.reads c.requires.passing c.args.top.now c.args.union c.loop-row.types c.loop-row.row c.loop-row.invariant.0 l.0 l.1 l.2 l.3 (omega (arith, c.loop-row-test.true)) in
    let bytes = its_bytes c.args.self.now c.args.reads.now c.loop-row.reads c.requires.passing c.args.top.now c.args.union c.loop-row.types c.loop-row.row c.loop-row.invariant.0 l.0 l.1 l.2 l.3 in
    let short = rw (sym bytes) at c.requires.passing.short in
    omega (arith, types, short)

pub loop-row-preserved : goal.loop-row-preserved
loop-row-preserved g c = (
  subst (λ row. PassedSoFar c.args.self.now c.args.reads.now c.pass_typed-passed.new.reads c.args.top.now c.args.union row (c.loop-row.types + 1)) (sym c.advance.ensures)
      (one_passed c.args.self.now c.args.reads.now c.loop-row.reads c.requires.passing c.args.top.now c.args.union c.loop-row.types c.loop-row.row c.loop-row.invariant.0 (omega (arith, c.loop-row-test.true)) c.pass_typed-passed.new.reads c.pass_typed-passed.result
      (c.in-Ok.is ∙ ap Ok c.in-Nothing.is) (rw c.site-site.ensures at c.pass_typed-passed.ensures)),
  c.loop-row.invariant.1,
)

pub returns-in_default : goal.returns-in_default
returns-in_default g c room via ds l =
    rw (c.advance.ensures, c.loop-row.invariant.1) (one_asked c.args.self.now c.args.reads.now c.loop-row.reads c.requires.passing c.args.top.now c.args.union c.loop-row.types c.loop-row.row c.loop-row.invariant.0 (omega (arith, c.loop-row-test.true)) c.pass_typed-passed.new.reads (Ok c.in-Ok.referent)
    (rw (c.site-site.ensures, c.in-Ok.is) at c.pass_typed-passed.ensures) room via ds l)

pub returns-in-Err : goal.returns-in-Err
returns-in-Err g c room via ds l =
    rw (c.advance.ensures, c.loop-row.invariant.1) (one_asked c.args.self.now c.args.reads.now c.loop-row.reads c.requires.passing c.args.top.now c.args.union c.loop-row.types c.loop-row.row c.loop-row.invariant.0 (omega (arith, c.loop-row-test.true)) c.pass_typed-passed.new.reads (Err c.in-Err.stop)
    (rw (c.site-site.ensures, c.in-Err.is) at c.pass_typed-passed.ensures) room via ds l)

pub returns : goal.returns
returns g c room via ds l =
    rw c.loop-row.invariant.1 (all_passed c.args.self.now c.args.reads.now c.loop-row.reads c.requires.passing c.args.top.now c.args.union c.loop-row.types c.loop-row.row c.loop-row.invariant.0 (omega (arith, c.loop-row-test.false)) room via ds l)
