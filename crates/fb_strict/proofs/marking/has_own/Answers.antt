use Rattle.std.proofs.Common.{[], ◌∙◌}
use Rattle.fb_strict.specs.Demanded.{demanded}
use Rattle.fb_strict.proofs.Marks.{same_own}
use Rattle.fb_strict.proofs.marking.has_own.Goals as goal

-- src/marking.rt
pub returns : goal.returns
returns c = c.has_asked.ensures ∙ same_own (demanded c.args.demands c.args.holdings.now) c.args.schema.now [] c.args.object
