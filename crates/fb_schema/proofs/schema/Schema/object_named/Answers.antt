use Rattle.std.proofs.Common.{map, ap, ◌∙◌, position, refl, bytes_eq}
use Rattle.fb_schema.specs.{Sorting.name_cmp, Sorting.object_name, FlatRows.flat_rows, FlatRows.object_in, Rows.Object, Rows.Rows}
use Rattle.fb_schema.proofs.{PlaceLemmas.place_position, LegalLemmas.legal_clear, OwnerLemmas.no_object_again, WalkLemmas.names_agree, WalkLemmas.names_total}
use Rattle.fb_schema.proofs.schema.Schema.object_named.Goals as goal

pub returns : goal.returns
returns g c =
    let s = c.self.inside in
    let rows = flat_rows s.rows in
    let name = c.args.name in
    let found = c.place_of.ensures (map object_name s.rows.objects.items) (rw c.deref.ensures.value c.self.invariant.names) in
    place_position name_cmp names_total object_name (object_in s.rows.fields.items) s.rows.objects.items name (λ (o : Object). bytes_eq o.name name.now) (λ k o at. names_agree o.name.now name.now)
    (λ q. no_object_again rows s.rows.fields.items s.rows.objects.items refl q (legal_clear rows c.self.invariant.legal 0 q 0)) c.place_of.result found
    ∙ ap (λ (r : Rows). position (λ (o : Object). bytes_eq o.name name.now) r.objects) c.self.view_is
