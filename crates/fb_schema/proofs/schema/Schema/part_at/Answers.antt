use Rattle.std.proofs.Common.{List, slice_get, sym, ◌∙◌, ap, option_and_then}
use Rattle.fb_schema.proofs.{LookLemmas.lent_same, LookLemmas.past_mapped, NextRequired.item_lent, NextRequired.no_item_lent, WalkLemmas.mapped_at}
use Rattle.fb_schema.specs.{Parts.part_at, Parts.part_of, Rows.Field, Rows.Rows, Rows.field_of}
use Rattle.fb_schema.proofs.schema.Schema.part_at.Goals as goal

pub returns-in-Some : goal.returns-in-Some
unfolding part_at
returns-in-Some g c =
    let field = c.in-Some.field in
    let is = c.lists.ensures in
    let same = lent_same c.self.inside.rows c.lists.result is.objects is.fields is.enums is.members ∙ c.self.view_is in
    let at = item_lent c.parts_of.result.now c.args.i c.get.result field c.get.ensures.lookup c.in-Some.is in
    c.part_of.ensures ∙ ap (λ (r : Rows). part_of r (field_of field.now)) same
    ∙ sym (ap (option_and_then (part_of c.args.self.now)) (mapped_at field_of c.parts_of.result.now c.args.i field.now at))
    ∙ ap (λ (fs : List Field). option_and_then (part_of c.args.self.now) (slice_get fs c.args.i)) c.parts_of.ensures.value

pub returns-in-None : goal.returns-in-None
unfolding part_at
returns-in-None g c =
    sym (ap (option_and_then (part_of c.args.self.now)) (past_mapped field_of c.parts_of.result.now c.args.i (no_item_lent c.parts_of.result.now c.args.i c.get.result c.get.ensures.lookup c.in-None.is)))
    ∙ ap (λ (fs : List Field). option_and_then (part_of c.args.self.now) (slice_get fs c.args.i)) c.parts_of.ensures.value
