use Rattle.std.proofs.Common.{rules}
use Rattle.fb_access.proofs.Walks.{root_placed}
use Rattle.fb_access.proofs.place.at_root.Goals as goal

pub invariant_of-result : goal.invariant_of-result
invariant_of-result c = search (rules, root_placed)

pub returns : goal.returns
returns c = search (rules, root_placed)
