use Rattle.fb_run.proofs.RunLemmas.{err_is}
use Rattle.fbcheck_serve.proofs.StrictLemmas.{planned_not, planned_so, unmarked_by}
use Rattle.fbcheck_serve.proofs.strict.planned_by.Goals as goal

pub returns-in_err-test_marks-clause-no : goal.returns-in_err-test_marks-clause-no
returns-in_err-test_marks-clause-no c =
    rw (err_is _ _ c.from_residual-in_err-test_marks.ensures.1)
    (unmarked_by c.args.bytes.now c.args.schema.now c.in_ok-marks.marks c.in_ok-marks.ensures.yes _ c.in_err-test_marks.ensures.no)

pub returns-clause-plan : goal.returns-clause-plan
returns-clause-plan c =
    planned_so c.args.bytes.now c.args.schema.now c.in_ok-marks.marks c.in_ok-marks.ensures.yes c.in_ok-test_marks.ensures.ok c.args.settings.now c.planned.result c.requires.nested
    (rw (c.as_slice.ensures.value, c.demanded.ensures) at c.planned.ensures.plan) (rw (c.as_slice.ensures.value, c.demanded.ensures) at c.planned.ensures.found)

pub returns-clause-no : goal.returns-clause-no
returns-clause-no c =
    planned_not c.args.bytes.now c.args.schema.now c.in_ok-marks.marks c.in_ok-marks.ensures.yes c.in_ok-test_marks.ensures.ok c.planned.result (rw c.as_slice.ensures.value at c.planned.ensures.no)
