use Rattle.std.proofs.Common.{IfErr, IfOk, List, ℕ, subst}
use Rattle.fb_bfbs.specs.Marks.{AreMarks, IsMarksFault}
use Rattle.fb_bfbs.proofs.marks.load_marks.Goals as goal

pub returns-clause-yes : goal.returns-clause-yes
returns-clause-yes c = subst (λ (b : List ℕ). IfOk c.marks_by.result (AreMarks b c.args.limits)) c.in-Ok.ensures.meter.0 c.marks_by.ensures.yes

pub returns-clause-no : goal.returns-clause-no
returns-clause-no c = subst (λ (b : List ℕ). IfErr c.marks_by.result (IsMarksFault b c.args.limits)) c.in-Ok.ensures.meter.0 c.marks_by.ensures.no
