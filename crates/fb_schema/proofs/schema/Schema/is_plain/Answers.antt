use Rattle.std.proofs.Common.{◌∙◌, IsTrue, Some, length, ap, subst, sym, arith}
use Rattle.std.proofs.lemmas.List.{length-map}
use Rattle.fb_schema.specs.{Steps.is_plain, Steps.sorts_of, Live.live_in, FlatRows.flat_rows, Rows.is_table}
use Rattle.fb_schema.proofs.LookLemmas.{sorts_read, table_listed}
use Rattle.fb_schema.proofs.schema.Schema.is_plain.Goals as goal

pub returns : goal.returns
returns g c =
    let s = c.self.inside in
    let n = c.args.n in
    ap (λ x. x.plain) (sorts_read (flat_rows s.rows) s.index.live.sorts.items n c.index.result.now c.self.invariant.fields.sorts (subst (λ r. IsTrue (is_table r n)) (sym c.self.view_is) c.requires) c.index.ensures)
    ∙ ap (λ r. is_plain r n) c.self.view_is

pub index-requires : goal.index-requires
index-requires g c =
    let s = c.self.inside in
    let rows = flat_rows s.rows in
    let lt = table_listed s.index.live.sorts.items rows c.args.self.now c.args.n (ap length c.self.invariant.fields.sorts ∙ length-map rows.objects (λ o. sorts_of (live_in rows (Some o)))) c.self.view_is c.requires in
    omega (arith, lt, s.index.live.sorts.ok.0)
