use Rattle.std.proofs.Common.{sym, ◌∙◌, arith}
use Rattle.fb_strict.specs.Leading.{Names}
use Rattle.fb_strict.proofs.Leading.{none_have, have_more, have_same, have_all, no_names, none_past}
use Rattle.fb_strict.proofs.leads.Chains.of_fields.Goals as goal
use Rattle.fb_strict.proofs.leads.Chains.of_fields.Goals.{then-is_table+in_ok-add_fields, else-is_table}

-- src/leads.rt
pub loop-object-init : goal.loop-object-init
loop-object-init g c = none_have (Names c.args.ends c.args.schema.now) c.new-chains.result.lasts.items c.new-chains.result.edges.items c.new-chains.ensures

pub loop-object-preserved : goal.loop-object-preserved
loop-object-preserved g c =
    let Q = Names c.args.ends c.args.schema.now in
    let n = c.loop-object.object in
    let lasts = c.loop-object.chains.lasts.items in
    let edges = c.loop-object.chains.edges.items in
    elim c.if-is_table.branch [
      | then-is_table+in_ok-add_fields w ↦ rw (w.chains-is) (have_more Q n lasts edges c.loop-object.invariant w.add_fields.new.self.lasts.items w.add_fields.new.self.edges.items w.in_ok-add_fields.ensures)
      | else-is_table w ↦ rw (w.chains-is) (have_same Q n lasts edges c.loop-object.invariant (λ t. no_names c.args.ends c.args.schema.now n t (sym c.is_table.ensures ∙ w.if-is_table.false)))
    ]

pub returns : goal.returns
returns g c =
    have_all (Names c.args.ends c.args.schema.now) c.loop-object.object c.loop-object.chains.lasts.items c.loop-object.chains.edges.items c.loop-object.invariant
    (none_past c.args.ends c.args.schema.now c.loop-object.object (omega (arith, c.loop-object-test.false, c.object_count-object-end.ensures)))
