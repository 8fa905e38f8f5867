-- A live field is found by its number.
use Rattle.std.proofs.Common.{◌≡◌, ℕ, ◌==◌, get_or, slice_get, Some, refl, ◌∙◌, ap}
use Rattle.std.proofs.lemmas.{Bool.Decides.Decides-eqb, Option.slice_get-get_or, Option.get_or_from_slice_get, Option.slice_get_within}
use Rattle.fb_schema.specs.{Live.Live, Live.live_fields, Rows.Rows, Served.IsServed}
use Rattle.fb_schema.proofs.FindLemmas.{found_item}
use Rattle.fb_access.specs.Fitting.{numbered}

pub found_by_number : (rows : Rows) → IsServed rows → (k i : ℕ) (f : Live) → slice_get (live_fields rows k) i ≡ Some f → numbered rows k f.number ≡ Some f
found_by_number rows served k i f at =
    let fs = live_fields rows k in
    let here : get_or fs i f ≡ f = get_or_from_slice_get fs i f f at in
    found_item (λ g. g.number == f.number) fs i f (slice_get_within fs i f at) (ap (λ (g : Live). g.number == f.number) here ∙ (Decides-eqb f.number f.number).1 refl) (λ j within e.
    let there = slice_get-get_or fs j f within in
    served.numbers k j i (get_or fs j f) f there at ((Decides-eqb (get_or fs j f).number f.number).0 e))
    ∙ ap Some here
