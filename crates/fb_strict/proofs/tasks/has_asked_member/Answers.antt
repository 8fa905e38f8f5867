use Rattle.std.proofs.Common.{sym, ap, refl, ◌∙◌}
use Rattle.fb_strict.specs.{Demanded.demanded, Skipped.is_member_asked, Planned.all_wants}
use Rattle.fb_strict.proofs.Queues.{no_member_yet, has_member, no_more_member}
use Rattle.fb_strict.proofs.tasks.has_asked_member.Goals as goal

-- src/tasks.rt
pub loop-value-init : goal.loop-value-init
loop-value-init c = no_member_yet (demanded c.args.demands c.args.holdings.now) c.args.schema.now (all_wants (demanded c.args.demands c.args.holdings.now) c.args.marks.now).asks c.args.union

-- src/tasks.rt
pub returns-then-is_member_asked : goal.returns-then-is_member_asked
returns-then-is_member_asked c =
    let w = all_wants (demanded c.args.demands c.args.holdings.now) c.args.marks.now in
    sym (has_member (demanded c.args.demands c.args.holdings.now) c.args.schema.now (all_wants (demanded c.args.demands c.args.holdings.now) c.args.marks.now).asks c.args.union 256 c.loop-value.value c.loop-value-test.true (ap (is_member_asked w) (sym c.member_of.ensures) ∙ sym c.is_member_asked.ensures ∙ c.if-is_member_asked.true))

-- src/tasks.rt
pub loop-value-preserved : goal.loop-value-preserved
loop-value-preserved c =
    let w = all_wants (demanded c.args.demands c.args.holdings.now) c.args.marks.now in
    no_more_member (demanded c.args.demands c.args.holdings.now) c.args.schema.now (all_wants (demanded c.args.demands c.args.holdings.now) c.args.marks.now).asks c.args.union c.loop-value.value _ refl c.loop-value.invariant (ap (is_member_asked w) (sym c.member_of.ensures) ∙ sym c.is_member_asked.ensures ∙ c.if-is_member_asked.false)
