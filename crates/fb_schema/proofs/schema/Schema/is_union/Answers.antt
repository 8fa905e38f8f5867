use Rattle.std.proofs.Common.{◌≤◌, length, slice_get, sym, ap, subst, ◌∙◌}
use Rattle.fb_schema.specs.{FlatRows.enum_in, Rows.is_union, Rows.is_some_union}
use Rattle.fb_schema.proofs.{LookLemmas.past_mapped, NextRequired.item_lent, NextRequired.no_item_lent, WalkLemmas.mapped_at}
use Rattle.fb_schema.proofs.schema.Schema.is_union.Goals as goal

pub returns-in-Some : goal.returns-in-Some
returns-in-Some g c =
    let s = c.self.inside in
    let n = c.args.e in
    let at = ap (λ xs. slice_get xs n) (sym c.deref.ensures.value) ∙ item_lent c.deref.result.now n c.get.result c.in-Some.row c.get.ensures.lookup c.in-Some.is in
    sym (ap is_some_union (mapped_at (enum_in s.rows.members.items) s.rows.enums.items n c.in-Some.row.now at)) ∙ ap (λ r. is_union r n) c.self.view_is

pub returns-in-None : goal.returns-in-None
returns-in-None g c =
    let s = c.self.inside in
    let n = c.args.e in
    let past = subst (λ xs. length xs ≤ n) c.deref.ensures.value (no_item_lent c.deref.result.now n c.get.result c.get.ensures.lookup c.in-None.is) in
    sym (ap is_some_union (past_mapped (enum_in s.rows.members.items) s.rows.enums.items n past)) ∙ ap (λ r. is_union r n) c.self.view_is
