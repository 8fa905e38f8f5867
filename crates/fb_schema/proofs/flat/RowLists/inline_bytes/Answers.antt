use Rattle.std.proofs.Common.{◌≡◌, pos, ◌*ℤ◌, Some, FitsSigned, w32, w64, sym, ap, ◌∙◌, rules}
use Rattle.std.proofs.lemmas.Int.{to_z-of_z}
use Rattle.fb_schema.specs.declared.kinds.Shape.TheVariants.{One, Array}
use Rattle.fb_schema.specs.{FlatRows.borrowed_rows, Rows.entry_at, Kinds.shape_of, Demands.element_bytes, Demands.shape_bytes, Demands.inline_bytes}
use Rattle.fb_schema.proofs.flat.RowLists.inline_bytes.Goals as goal

pub returns-in-Some-Array : goal.returns-in-Some-Array
unfolding inline_bytes
returns-in-Some-Array c =
    let objects = (borrowed_rows c.args.self.now).objects in
    let ty = c.args.ty in
    let each = c.element_bytes-in-Some-Array.result in
    let fits : FitsSigned w64 c.array_bytes.result = search rules in
    let narrow : FitsSigned w32 each = search rules in
    let index : FitsSigned w32 ty.index = search rules in
    let found : shape_of ty ≡ Some (Array c.in-Some-Array.element) = search rules in
    to_z-of_z w64 c.array_bytes.result fits ∙ c.array_bytes.ensures
    ∙ ap (λ z. pos ty.fixed_length *ℤ z) (to_z-of_z w32 each narrow ∙ c.element_bytes-in-Some-Array.ensures ∙ ap (λ i. element_bytes (entry_at objects i) c.in-Some-Array.element) (to_z-of_z w32 ty.index index))
    ∙ sym (ap (shape_bytes ty.fixed_length (entry_at objects ty.index)) found)

pub returns-in-Some-One : goal.returns-in-Some-One
unfolding inline_bytes
returns-in-Some-One c =
    let objects = (borrowed_rows c.args.self.now).objects in
    let ty = c.args.ty in
    let each = c.element_bytes.result in
    let fits : FitsSigned w64 c.from.result = search rules in
    let narrow : FitsSigned w32 each = search rules in
    let index : FitsSigned w32 ty.index = search rules in
    let found : shape_of ty ≡ Some (One c.in-Some-One.element) = search rules in
    to_z-of_z w64 c.from.result fits ∙ c.from.ensures ∙ to_z-of_z w32 each narrow ∙ c.element_bytes.ensures
    ∙ ap (λ i. element_bytes (entry_at objects i) c.in-Some-One.element) (to_z-of_z w32 ty.index index)
    ∙ sym (ap (shape_bytes ty.fixed_length (entry_at objects ty.index)) found)
