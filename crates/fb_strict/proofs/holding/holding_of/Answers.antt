use Rattle.std.proofs.Common.{sym, ◌∙◌, refl}
use Rattle.fb_bfbs.specs.Marks.{marked}
use Rattle.fb_strict.proofs.Holds.{bytes_within, lost_here}
use Rattle.fb_strict.proofs.holding.holding_of.Goals as goal

-- src/holding.rt
pub meant-requires : goal.meant-requires
meant-requires g c = bytes_within c.args.schema.now c.args.mark.now.object c.args.mark.now.slot (sym c.has_bytes.ensures ∙ c.if-not-has_bytes.false)

pub returns-in-None-clause-lost : goal.returns-in-None-clause-lost
returns-in-None-clause-lost g c = (0, marked c.args.mark.now, refl, lost_here c.args.schema.now (marked c.args.mark.now) (sym c.has_bytes.ensures ∙ c.if-not-has_bytes.false) (sym c.in_ok-held.ensures ∙ c.in-None.is), refl, refl)
