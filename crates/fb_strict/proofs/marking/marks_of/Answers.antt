use Rattle.fb_strict.specs.Demanded.{demanded}
use Rattle.fb_strict.proofs.Marks.{exact}
use Rattle.fb_strict.proofs.marking.marks_of.Goals as goal

-- src/marking.rt
pub returns : goal.returns
returns g c = exact (demanded c.args.demands c.args.holdings.now) c.args.schema.now c.follow_all.new.self.marks.items c.in_ok-follow_all.ensures.founded c.in_ok-follow_all.ensures.closed c.in_ok-follow_all.ensures.long
