use Rattle.std.proofs.Common.{arith}
use Rattle.fb_strict.proofs.Leading.{leads_alone, leads_all}
use Rattle.fb_strict.proofs.leads.Leads.of.Goals as goal

-- src/leads.rt
pub returns-then-demands : goal.returns-then-demands
returns-then-demands g c =
    leads_alone c.args.demands c.args.schema.now c.in_ok-tables.tables.lasts.items c.in_ok-tables.tables.edges.items c.in_ok-tables.ensures
    c.new-unions.result.lasts.items c.new-unions.result.edges.items c.new-members.result.lasts.items c.new-members.result.edges.items c.if-demands.true c.new-unions.ensures c.new-members.ensures

pub returns : goal.returns
returns g c =
    leads_all c.args.demands c.args.schema.now c.in_ok-tables.tables.lasts.items c.in_ok-tables.tables.edges.items c.in_ok-tables.ensures
    c.in_ok-unions.unions.lasts.items c.in_ok-unions.unions.edges.items c.in_ok-members.members.lasts.items c.in_ok-members.members.edges.items c.len.result c.if-demands.false c.in_ok-unions.ensures (omega (arith, c.len.ensures)) c.in_ok-members.ensures
