use Rattle.fb_strict.proofs.Asking.{demands_tell, first_tells}
use Rattle.fb_strict.proofs.laws.demands_tell.Goals as goal

-- src/laws.rt
pub returns-clause-strict : goal.returns-clause-strict
returns-clause-strict c = demands_tell

-- src/laws.rt
pub returns-clause-first : goal.returns-clause-first
returns-clause-first c = first_tells
