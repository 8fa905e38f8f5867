use Rattle.fb_rules.proofs.LastLinks.{links_end_in_field}
use Rattle.fb_rules.proofs.link_laws.links_end_in_field.Goals as goal

pub returns : goal.returns
returns c = links_end_in_field
