use Rattle.std.proofs.Common.{◌≤◌, length, slice_get, sym, ap, subst, ◌∙◌}
use Rattle.fb_schema.specs.{FlatRows.object_in, Rows.is_table, Rows.is_some_table}
use Rattle.fb_schema.proofs.{LookLemmas.past_mapped, NextRequired.item_lent, NextRequired.no_item_lent, WalkLemmas.mapped_at}
use Rattle.fb_schema.proofs.schema.Schema.is_table.Goals as goal

pub returns-in-Some : goal.returns-in-Some
returns-in-Some g c =
    let s = c.self.inside in
    let n = c.args.n in
    let at = ap (λ xs. slice_get xs n) (sym c.deref.ensures.value) ∙ item_lent c.deref.result.now n c.get.result c.in-Some.object c.get.ensures.lookup c.in-Some.is in
    sym (ap is_some_table (mapped_at (object_in s.rows.fields.items) s.rows.objects.items n c.in-Some.object.now at)) ∙ ap (λ r. is_table r n) c.self.view_is

pub returns-in-None : goal.returns-in-None
returns-in-None g c =
    let s = c.self.inside in
    let n = c.args.n in
    let past = subst (λ xs. length xs ≤ n) c.deref.ensures.value (no_item_lent c.deref.result.now n c.get.result c.get.ensures.lookup c.in-None.is) in
    sym (ap is_some_table (past_mapped (object_in s.rows.fields.items) s.rows.objects.items n past)) ∙ ap (λ r. is_table r n) c.self.view_is
