use Rattle.fb_rules.proofs.OneFault.{leads_one_way}
use Rattle.fb_rules.proofs.laws.leads_one_way.Goals as goal

pub returns : goal.returns
returns c = leads_one_way
