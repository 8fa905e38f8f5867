use Rattle.std.proofs.Common.{rules}
use Rattle.fb_strict.proofs.unions.read_places.Goals as goal

pub returns-clause-places : goal.returns-clause-places
returns-clause-places c = search rules

pub returns-clause-counted : goal.returns-clause-counted
returns-clause-counted c = search rules
