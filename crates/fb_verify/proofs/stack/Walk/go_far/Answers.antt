use Rattle.std.proofs.Common.{◌≡◌, ℕ, ◌<◌, List, map, length, get_or, option_map, sym, ◌∙◌, ap, subst, arith, Some}
use Rattle.std.proofs.lemmas.Option.{same_Some, slice_get-get_or, slice_get-map, slice_get_within}
use Rattle.std.specs.Prelude.{slice_get}
use Rattle.fb_bytes.specs.Word.{Lent}
use Rattle.fb_schema.specs.{Live.Live, Live.live_fields, Live.live_of_view, declared.views.FieldView.FieldView}
use Rattle.fb_verify.specs.{Stack.Waiting, Turns.IsAtFarField, Turns.IsAtOpenField, Turns.IsFar, declared.scratch.Frame.Frame, declared.stack.Walk.Walk}
use Rattle.fb_verify.proofs.{Frames.length_map, IntoField.far_turned}
use Rattle.fb_verify.proofs.stack.Walk.go_far.Goals as goal

-- a field that stands there is one that the schema lends
module _ {w : Walk} {m : Lent} {under : Waiting} {waiting : ℕ} {top : Frame} {place : ℕ} (xs : List FieldView) where
  fields_within : map live_of_view xs ≡ live_fields w.schema.now (top.table).object → IsAtFarField w m under waiting top place → top.next < length xs
  fields_within its h = omega (arith, slice_get_within (map live_of_view xs) top.next h.0 (rw its (h.1).here), length_map live_of_view xs)

  lent_field : (d : FieldView) → map live_of_view xs ≡ live_fields w.schema.now (top.table).object → IsAtFarField w m under waiting top place
      → IsAtOpenField w m under waiting top place (live_of_view (get_or xs top.next d)) × IsFar (get_or xs top.next d).kind
  lent_field d its h =
      let found : slice_get (map live_of_view xs) top.next ≡ Some h.0 = rw its (h.1).here in
      let x = slice_get-get_or xs top.next d (fields_within its h) in
      let same : live_of_view (get_or xs top.next d) ≡ h.0 = same_Some _ _ (sym (slice_get-map live_of_view xs top.next ∙ ap (option_map live_of_view) x) ∙ found) in
      (subst (λ (y : Live). IsAtOpenField w m under waiting top place y) (sym same) h.1, subst (λ (y : Live). IsFar y.kind) (sym same) h.2)

pub bounds-fields_of-top : goal.bounds-fields_of-top
bounds-fields_of-top g c = fields_within c.fields_of.result.now c.fields_of.ensures.value c.requires

pub go_far_by_checks-requires : goal.go_far_by_checks-requires
go_far_by_checks-requires g c =
    let far = lent_field c.fields_of.result.now _ c.fields_of.ensures.value c.requires in
    (far.0, far.1)

pub go_to_union-requires : goal.go_to_union-requires
go_to_union-requires g c = ((lent_field c.fields_of.result.now _ c.fields_of.ensures.value c.requires).0, (c.in-Union.is, sym (c.are_published.ensures c.if-not-are_published.false)))

pub put_far-requires : goal.put_far-requires
put_far-requires g c =
    let far = lent_field c.fields_of.result.now _ c.fields_of.ensures.value c.requires in
    (far.0, (far.1, sym (c.are_published.ensures c.if-not-are_published.false)))

pub pass_row_by-requires : goal.pass_row_by-requires
pass_row_by-requires g c =
    let e = c.in-Down.ensures in
    rw e.same (e.row, sym (c.are_published.ensures c.if-not-are_published.false))

pub returns-in-Down : goal.returns-in-Down
returns-in-Down g c = far_turned _ _ _ _ c.in-Down.ensures c.pass_row_by.result c.pass_row_by.ensures
