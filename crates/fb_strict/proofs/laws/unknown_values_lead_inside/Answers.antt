use Rattle.fb_strict.proofs.Reading.{value_inside, element_inside}
use Rattle.fb_strict.proofs.laws.unknown_values_lead_inside.Goals as goal

-- src/laws.rt
pub returns-clause-values : goal.returns-clause-values
returns-clause-values c = value_inside

-- src/laws.rt
pub returns-clause-elements : goal.returns-clause-elements
returns-clause-elements c = element_inside
