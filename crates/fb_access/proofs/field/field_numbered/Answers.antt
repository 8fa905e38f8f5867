use Rattle.std.proofs.Common.{◌≡◌, slice_get, option_map, Some, sym, ap, subst, ◌∙◌}
use Rattle.std.proofs.lemmas.Option.{slice_get-get_or, slice_get-map}
use Rattle.fb_schema.specs.Live.{live_fields, live_of_view}
use Rattle.fb_access.specs.Fitting.{numbered}
use Rattle.fb_access.proofs.NumberedFields.{found_by_number}
use Rattle.fb_access.proofs.field.field_numbered.Goals as goal

pub returns-in-Some : goal.returns-in-Some
returns-in-Some c =
    let rows = c.args.schema.now in
    let f = live_of_view c.in-Some.field.now in
    let fields = c.fields_of-fields.result.now in
    let there = c.in-Some.ensures.lookup in
    let is : slice_get fields c.args.number ≡ Some c.in-Some.field.now = slice_get-get_or fields c.args.number c.in-Some.field.now there.3.0 ∙ ap Some (sym there.1) in
    let at : slice_get (live_fields rows c.args.object) c.args.number ≡ Some f =
    ap (λ fs. slice_get fs c.args.number) (sym c.fields_of-fields.ensures.value) ∙ slice_get-map live_of_view fields c.args.number ∙ ap (option_map live_of_view) is in
    sym (subst (λ n. numbered rows c.args.object n ≡ Some f) c.if-field-number.true (found_by_number rows c.lawful.ensures.served c.args.object c.args.number f at))
