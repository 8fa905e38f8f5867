use Rattle.std.proofs.Common.{◌∙◌, ap, is_some}
use Rattle.fb_access.proofs.StepKinds.{leads_where_allowed}
use Rattle.fb_access.proofs.place.Place.allows.Goals as goal

pub returns : goal.returns
returns c = c.is_some.ensures ∙ ap is_some c.next.ensures ∙ leads_where_allowed _ _ _ _
