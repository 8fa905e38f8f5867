use Rattle.std.proofs.Common.{◌<◌, length, option_map, slice_get, Some, FitsSigned, w32, sym, ap, subst, ◌∙◌, rules}
use Rattle.std.proofs.lemmas.{List.length-map, Option.slice_get-get_or, Int.to_z-of_z}
use Rattle.fb_schema.specs.{FlatRows.object_in, Heads.head_of}
use Rattle.fb_schema.proofs.WalkLemmas.{mapped_at}
use Rattle.fb_schema.proofs.schema.Schema.object.Goals as goal
use Rattle.fb_schema.proofs.schema.Schema.object.Goals.{After-self}

within : (g : _) (c : After-self g) → c.args.n < length c.self.inside.rows.objects.items
within g c =
    let s = c.self.inside in
    rw (sym (length-map s.rows.objects.items (object_in s.rows.fields.items))) (subst (λ r. c.args.n < length r.objects) (sym c.self.view_is) c.requires)

pub returns : goal.returns
returns g c =
    let s = c.self.inside in
    let n = c.args.n in
    let parts = s.rows.objects.items in
    let x = c.index-object.result.now in
    let lt = within g (goal.at.returns g c).After-self in
    let align : FitsSigned w32 x.minalign = search rules in
    let size : FitsSigned w32 x.bytesize = search rules in
    let a = sym (to_z-of_z w32 x.minalign align) in
    let z = sym (to_z-of_z w32 x.bytesize size) in
    sym (ap (λ r. option_map head_of (slice_get r.objects n)) c.self.view_is)
    ∙ ap (option_map head_of) (mapped_at (object_in s.rows.fields.items) parts n x (slice_get-get_or parts n x lt ∙ ap Some (sym c.index-object.ensures)))
    ∙ (λ i. Some (record { name = x.name.now; is_struct = x.is_struct; minalign = a i; bytesize = z i }))
