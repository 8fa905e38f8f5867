use Rattle.fb_strict.proofs.Inside.{inside_is_good, good_is_strict}
use Rattle.fb_strict.proofs.laws.buffers_inside_are_good.Goals as goal

-- src/laws.rt
pub returns-clause-inside : goal.returns-clause-inside
returns-clause-inside c = inside_is_good

-- src/laws.rt
pub returns-clause-strict : goal.returns-clause-strict
returns-clause-strict c = good_is_strict
