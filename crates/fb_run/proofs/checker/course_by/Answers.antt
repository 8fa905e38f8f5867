use Rattle.std.proofs.Common.{◌∙◌, None, Some, ap, sym}
use Rattle.fb_run.specs.Job.{course_by, is_brief, job_of}
use Rattle.fb_run.proofs.checker.course_by.Goals as goal

pub returns-in-true-None : goal.returns-in-true-None
returns-in-true-None c rows = ap (λ b. course_by b None) (c.in-true-None.ensures rows) ∙ ap (course_by (is_brief (job_of rows c.args.options.now))) (sym c.in-true-None.is-1)

pub returns-in-true-Some : goal.returns-in-true-Some
returns-in-true-Some c rows =
    ap (λ b. course_by b (Some c.in-true-Some.field-0-1)) (c.in-true-Some.ensures rows) ∙ ap (course_by (is_brief (job_of rows c.args.options.now))) (sym c.in-true-Some.is-1)

pub returns-in-false-default : goal.returns-in-false-default
returns-in-false-default c rows = ap (λ b. course_by b c.args.options.now.plan) (c.in-false-default.ensures rows)
