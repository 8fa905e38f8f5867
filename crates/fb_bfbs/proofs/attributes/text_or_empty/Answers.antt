use Rattle.std.proofs.Common.{inl, inr, refl}
use Rattle.fb_bfbs.proofs.attributes.text_or_empty.Goals as goal

pub returns-in-Some : goal.returns-in-Some
returns-in-Some c = inl (rw c.in-Some.is at c.text_or_none.ensures)

pub returns-in-None : goal.returns-in-None
returns-in-None c = inr (rw c.in-None.is at c.text_or_none.ensures, refl)
