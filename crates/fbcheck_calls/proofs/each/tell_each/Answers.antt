use Rattle.std.proofs.Common.{arith}
use Rattle.fbcheck_calls.proofs.EachLemmas.{all_told, count_told, err_is, none_begins, vector_fits}
use Rattle.fbcheck_calls.proofs.each.tell_each.Goals as goal

pub tell_elements-requires-clause-fit : goal.tell_elements-requires-clause-fit
tell_elements-requires-clause-fit c =
    let around = c.in-Some.ensures in
    let found = rw c.in-Ok-Some.field-0-is at c.in-Ok-Some.ensures in
    vector_fits _ _ _ _ _ c.requires.fits _ _ around.before around.after _ _ found

pub returns-in_err-tell_elements-in-Ok-Some : goal.returns-in_err-tell_elements-in-Ok-Some
returns-in_err-tell_elements-in-Ok-Some c =
    let around = c.in-Some.ensures in
    let found = rw c.in-Ok-Some.field-0-is at c.in-Ok-Some.ensures in
    let told = c.in_err-tell_elements-in-Ok-Some.ensures in
    let within = told.1 in
    err_is _ _ _ _ c.from_residual.ensures.1 (
      all_told _ _ _ _ _ c.requires.fits _ _ around.before around.after _ _ found c.args.first _ _ _ told.0,
      omega arith,
      found.other told.2,
    )

pub unreachable-requires-in-Ok-None : goal.unreachable-requires-in-Ok-None
unreachable-requires-in-Ok-None c =
    let around = c.in-Some.ensures in
    let none = rw c.in-Ok-None.field-0-is at c.in-Ok-None.ensures in
    none_begins c.args.window.now _ c.args.start _ _ c.requires.fits _ _ around.before around.after none

pub returns-in_ok-tell_elements-in-Ok-Some : goal.returns-in_ok-tell_elements-in-Ok-Some
returns-in_ok-tell_elements-in-Ok-Some c =
    let around = c.in-Some.ensures in
    let found = rw c.in-Ok-Some.field-0-is at c.in-Ok-Some.ensures in (
      count_told _ _ _ _ _ c.requires.fits _ _ around.before around.after _ _ found,
      all_told _ _ _ _ _ c.requires.fits _ _ around.before around.after _ _ found c.args.first _ _ _ c.in_ok-tell_elements-in-Ok-Some.ensures,
    )
