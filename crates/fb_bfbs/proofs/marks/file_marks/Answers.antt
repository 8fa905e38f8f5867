use Rattle.std.proofs.Common.{◌≡◌, ℕ, Bool, true, false, sym, ◌∙◌, Option, Some, None}
use Rattle.std.proofs.lemmas.Bool.{false≢true}
use Rattle.fb_bfbs.specs.{Says.Says, Tags.AreToldMarks, Tags.IsToldPaid, Tags.AreMarksRead, declared.marks.Marks.Marks}
use Rattle.fb_bfbs.proofs.Counts.{past}
use Rattle.fb_bfbs.proofs.marks.file_marks.Goals as goal

-- rows that are paid for or aren't
paid_marks : (D : Says) (paying : Option ℕ) (paid : Bool) (marks : Marks) → IsToldPaid D paying paid → paid ≡ true → AreToldMarks D marks → AreMarksRead D paying (Some marks)
paid_marks D None paid marks told e says = says
paid_marks D (Some n) paid marks told e says = (says, record { rows = told.rows; has = told.has; few = told.told.0 e })

no_marks : (D : Says) (paying : Option ℕ) (paid : Bool) → IsToldPaid D paying paid → paid ≡ false → AreMarksRead D paying None
no_marks D None paid told e = absurd (false≢true (sym e ∙ told))
no_marks D (Some n) paid told e = record { rows = told.rows; has = told.has; many = past paid _ _ told.told e }

pub returns-then-not-is_paid : goal.returns-then-not-is_paid
returns-then-not-is_paid c = no_marks _ _ _ (rw c.at_root-place.ensures at c.is_paid.ensures) c.if-not-is_paid.true

pub returns : goal.returns
returns c = paid_marks _ _ _ _ (rw c.at_root-place.ensures at c.is_paid.ensures) c.if-not-is_paid.false (rw c.at_root-place.ensures at c.in_ok-marks_at.ensures)
