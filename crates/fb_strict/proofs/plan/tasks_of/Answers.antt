use Rattle.std.proofs.Common.{sym, ◌∙◌, ap}
use Rattle.fb_strict.specs.{Demanded.demanded, Planned.all_wants, Planned.tasks_in}
use Rattle.fb_strict.proofs.Marks.{no_fields}
use Rattle.fb_strict.proofs.plan.tasks_of.Goals as goal

-- src/plan.rt
pub returns : goal.returns
returns g c = c.new.ensures.items ∙ ap (tasks_in (all_wants (demanded c.args.demands c.args.holdings.now) c.args.marks.now) c.args.schema.now c.args.object) (sym (no_fields c.args.schema.now c.args.object (sym c.is_table.ensures ∙ c.if-is_table.false)))
