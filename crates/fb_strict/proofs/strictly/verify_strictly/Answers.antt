use Rattle.fb_strict.proofs.{Bounded.strict_cost_is_bounded, Bounded.strict_reads_are_bounded, OneVerdict.stops_has_none}
use Rattle.fb_strict.proofs.strictly.verify_strictly.Goals as goal

-- src/strictly.rt
pub returns-in-Ok-clause-price_of_yes : goal.returns-in-Ok-clause-price_of_yes
returns-in-Ok-clause-price_of_yes g c = strict_cost_is_bounded c.args.plan.now c.args.question.now c.args.meter.bytes c.in-Ok.strict.report c.in-Ok.ensures.yes

pub returns-in-Err-clause-none : goal.returns-in-Err-clause-none
returns-in-Err-clause-none g c = stops_has_none c.args.plan.now c.args.question.now c.args.meter.bytes c.in-Err.located.fault c.in-Err.ensures.no

pub returns-in-Err-clause-price_of_no : goal.returns-in-Err-clause-price_of_no
returns-in-Err-clause-price_of_no g c = strict_reads_are_bounded c.args.plan.now c.args.question.now c.args.meter.bytes c.in-Err.located.fault c.in-Err.ensures.no
