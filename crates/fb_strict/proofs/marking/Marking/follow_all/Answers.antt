use Rattle.std.proofs.Common.{◌≡◌, Some, slice_get, sym, ap, ◌∙◌, arith}
use Rattle.std.proofs.lemmas.Option.{slice_get-get_or}
use Rattle.fb_strict.specs.{Demanded.demanded, Leading.Leads}
use Rattle.fb_strict.proofs.Queues.{first_none, from_within, first_more, first_all}
use Rattle.fb_strict.proofs.marking.Marking.follow_all.Goals as goal

-- src/marking.rt
pub loop-passed-init : goal.loop-passed-init
loop-passed-init g c =
    first_none (demanded c.args.demands c.args.holdings.now) c.args.schema.now (Leads c.args.leads.now.tables.lasts.items c.args.leads.now.tables.edges.items c.args.leads.now.unions.lasts.items c.args.leads.now.unions.edges.items c.args.leads.now.members.lasts.items c.args.leads.now.members.edges.items) c.requires.leads.whole c.requires.leads.only c.args.self.now.marks.items c.args.self.now.queue.items c.requires.own

-- src/marking.rt
pub follow_back-requires-clause-within : goal.follow_back-requires-clause-within
follow_back-requires-clause-within g c =
    from_within (demanded c.args.demands c.args.holdings.now) c.args.schema.now (Leads c.args.leads.now.tables.lasts.items c.args.leads.now.tables.edges.items c.args.leads.now.unions.lasts.items c.args.leads.now.unions.edges.items c.args.leads.now.members.lasts.items c.args.leads.now.members.edges.items) c.requires.leads.whole c.requires.leads.only c.loop-passed.self.marks.items c.loop-passed.self.queue.items
    c.loop-passed.passed c.loop-passed.invariant c.index-object.result.now

-- src/marking.rt
pub loop-passed-preserved : goal.loop-passed-preserved
loop-passed-preserved g c =
    let queue = c.loop-passed.self.queue.items in
    let n = c.loop-passed.passed in
    let object = c.index-object.result.now in
    let got : slice_get queue n ≡ Some object = slice_get-get_or queue n _ (omega (arith, c.loop-passed-test.true, c.len.ensures)) ∙ ap Some (sym c.index-object.ensures) in
    first_more (demanded c.args.demands c.args.holdings.now) c.args.schema.now (Leads c.args.leads.now.tables.lasts.items c.args.leads.now.tables.edges.items c.args.leads.now.unions.lasts.items c.args.leads.now.unions.edges.items c.args.leads.now.members.lasts.items c.args.leads.now.members.edges.items) c.requires.leads.whole c.requires.leads.only c.loop-passed.self.marks.items queue
    n c.loop-passed.invariant object got c.follow_back.new.self.marks.items c.follow_back.new.self.queue.items c.in_ok-follow_back.ensures

-- src/marking.rt
pub returns-clause-closed : goal.returns-clause-closed
returns-clause-closed g c =
    first_all (demanded c.args.demands c.args.holdings.now) c.args.schema.now (Leads c.args.leads.now.tables.lasts.items c.args.leads.now.tables.edges.items c.args.leads.now.unions.lasts.items c.args.leads.now.unions.edges.items c.args.leads.now.members.lasts.items c.args.leads.now.members.edges.items) c.requires.leads.whole c.requires.leads.only c.loop-passed.self.marks.items c.loop-passed.self.queue.items
    c.loop-passed.passed c.loop-passed.invariant (omega (arith, c.loop-passed-test.false, c.len.ensures))
