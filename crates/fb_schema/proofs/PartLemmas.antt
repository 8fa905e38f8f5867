-- The fields of the structs of legal rows lie in them.
use Rattle.std.proofs.Common.{◌≡◌, ◌<◌, ℕ, suc, ◌+◌, ◌*◌, ◌≤◌, ℤ, pos, negsuc, ◌+ℤ◌, ◌*ℤ◌, Bool, true, false, not, ◌&&◌, ◌||◌, int_lt, length, slice_get, Option, Some, None, refl, sym, ◌∙◌, ap, subst, arith, unsigned_abs, IfSome, option_map}
use Rattle.fb_schema.proofs.KindWords.{Kind, Struct, Table, Structs, Tables, Element, OfScalar, OfObject, Shape, One, Vector, Array}
use Rattle.fb_schema.proofs.{KindLemmas.object_kinds, Numbers.not_false, DemandLaws.clear_line, LegalLemmas.legal_clear}
use Rattle.std.proofs.lemmas.{Option.slice_get_within, Bool.Decides.nat_tests, Option.same_Some, Option.option_and_then_some}
use Rattle.fb_schema.specs.{declared.views.PartView.PartView, Demands.IsLegal, Demands.first_code, Demands.object_demands, Demands.struct_field_demands, Demands.stands_before}
use Rattle.fb_schema.specs.Demands.{same_field_name, is_inline, is_object, is_alignment, shape_bytes, element_bytes, inline_bytes, bytes_in, names_table}
use Rattle.fb_schema.specs.{Kinds.scalar_size, Kinds.struct_size, Kinds.size_in, Kinds.shape_of, Kinds.shape_kind, Kinds.object_kind, Parts.PartFits, Parts.part_at}
use Rattle.fb_schema.specs.{Parts.part_count, Parts.part_kind, Parts.part_of, Parts.parts_in, Parts.parts_of, Rows.Field, Rows.Object, Rows.Rows, Rows.entry_at, Rows.is_some_table}

-- the field at place i of struct k, with its object
record IsPartRow (rows : Rows) (k i : ℕ) (f : Field) : Type 0 where
  pub object : Object
  pub at : slice_get rows.objects k ≡ Some object
  pub struct : object.is_struct ≡ true
  pub here : slice_get object.fields i ≡ Some f

row_of : (rows : Rows) (k i : ℕ) (f : Field) (o : Option Object) → slice_get rows.objects k ≡ o → slice_get (parts_in o) i ≡ Some f → IsPartRow rows k i f
row_of rows k i f None at e = absurd (let w : None ≡ Some f = e in cc)
row_of rows k i f (Some o) at e = record { object = o; at = at; struct = grind (arith, e); here = grind (arith, e) }

-- what is demanded of it, in an order that begins with its name
abbrev IsAskedOf : Rows → Object → Field → ℕ → Type 0
IsAskedOf rows o f i = first_code (struct_field_demands rows o.bytesize f (stands_before same_field_name o.fields i f)) ≡ None

asked : (rows : Rows) → IsLegal rows → (k i : ℕ) (f : Field) (r : IsPartRow rows k i f) → IsAskedOf rows r.object f i
asked rows legal k i f r = rw (r.at, r.struct, r.here) at (legal_clear rows legal 0 k (suc i))

-- a struct of legal rows has a size
positive : (z : ℤ) (unaligned : Bool) → (int_lt z (pos 1) || unaligned) ≡ false → (m : ℕ) × (z ≡ pos m)
positive (pos m) unaligned h = (m, refl)
positive (negsuc m) unaligned h = absurd (let w : true ≡ false = h in cc)

struct_bytes : (rows : Rows) → IsLegal rows → (k : ℕ) (o : Object) → slice_get rows.objects k ≡ Some o → o.is_struct ≡ true → (m : ℕ) × (o.bytesize ≡ pos m)
struct_bytes rows legal k o at struct =
    positive o.bytesize (not (is_alignment o.minalign)) (rw struct at (clear_line (object_demands o _) (rw at at (legal_clear rows legal 0 k 0)) 1 _ refl))

not_past : (bytes : ℤ) (n : ℕ) → int_lt bytes (pos n) ≡ false → n ≤ unsigned_abs bytes
not_past (pos b) n h = grind (arith, nat_tests, h)
not_past (negsuc b) n h = absurd (let w : true ≡ false = h in cc)

module _ (rows : Rows) (legal : IsLegal rows) (bytes : ℤ) (place count : ℕ) where
  abbrev Fits : Kind → Type 0
  Fits kind = PartFits rows (unsigned_abs bytes) (record { place = place; kind = kind; count = count }) kind

  -- so many bytes that end in it, in whole numbers that may be negative
  abbrev EndsAt : ℤ → Type 0
  EndsAt all = int_lt bytes (pos place +ℤ all) ≡ false

  ends : (m : ℕ) (all : ℤ) → all ≡ pos (count * m) → EndsAt all → place + count * m ≤ unsigned_abs bytes
  ends m all e h = not_past bytes (place + count * m) (sym (ap (λ z. int_lt bytes (pos place +ℤ z)) e) ∙ h)

  -- a struct, or so many, of the size that its object has
  struct_fits : (j : ℕ) (o : Object) (all : ℤ → ℤ) → ((m : ℕ) → all (pos m) ≡ pos (count * m)) → slice_get rows.objects j ≡ Some o → o.is_struct ≡ true → EndsAt (all o.bytesize) → (j < length rows.objects) × (place + count * struct_size rows j ≤ unsigned_abs bytes)
  struct_fits j o all times at struct h =
      let m = struct_bytes rows legal j o at struct in
      let size : struct_size rows j ≡ m.0 = ap size_in at ∙ ap unsigned_abs m.1 in
      (slice_get_within rows.objects j o at, subst (λ n. place + count * n ≤ unsigned_abs bytes) (sym size) (ends m.0 (all o.bytesize) (ap all m.1 ∙ times m.0) h))

  module _ (struct table : ℕ → Kind) (all : ℤ → ℤ) (times : (m : ℕ) → all (pos m) ≡ pos (count * m)) (fits : (j : ℕ) → (j < length rows.objects) × (place + count * struct_size rows j ≤ unsigned_abs bytes) → Fits (struct j)) where
    of_object : (index : ℤ) → is_some_table (entry_at rows.objects index) ≡ false → EndsAt (all (bytes_in (entry_at rows.objects index))) → IfSome (object_kind index struct table (entry_at rows.objects index)) Fits
    of_object index no_table h = object_kinds rows Fits struct table index
        (λ j o here at is. fits j (struct_fits j o all times at is (subst (λ x. EndsAt (all (bytes_in x))) here h)))
        (λ j o here at is. absurd (let w : true ≡ false = sym (ap is_some_table here ∙ ap not is) ∙ no_table in cc))

-- by what a type is one, or an array, of
module _ (rows : Rows) (legal : IsLegal rows) (index bytes : ℤ) (place length : ℕ) where
  abbrev one_times : (m : ℕ) → pos m ≡ pos (1 * m)
  one_times m = ap pos (let w : m ≡ 1 * m = omega arith in w)

  of_one : (e : Element) → is_inline (Some (One e)) ≡ true → (is_object (Some (One e)) && is_some_table (entry_at rows.objects index)) ≡ false
      → EndsAt rows legal bytes place 1 (element_bytes (entry_at rows.objects index) e) → IfSome (shape_kind rows index (Some (One e))) (Fits rows legal bytes place 1)
  of_one (OfScalar s) inline no_table h = let w = ends rows legal bytes place 1 (scalar_size s) (pos (scalar_size s)) (one_times (scalar_size s)) h in omega (arith, w)
  of_one OfObject inline no_table h = of_object rows legal bytes place 1 Struct Table (λ z. z) one_times (λ j f. (f.0, omega (arith, f.1))) index no_table h
  of_one e inline no_table h = absurd (let w : false ≡ true = inline in cc)

  of_array : (e : Element) → is_inline (Some (Array e)) ≡ true → (is_object (Some (Array e)) && is_some_table (entry_at rows.objects index)) ≡ false
      → EndsAt rows legal bytes place length (pos length *ℤ element_bytes (entry_at rows.objects index) e) → IfSome (shape_kind rows index (Some (Vector e))) (Fits rows legal bytes place length)
  of_array (OfScalar s) inline no_table h = ends rows legal bytes place length (scalar_size s) (pos length *ℤ pos (scalar_size s)) refl h
  of_array OfObject inline no_table h = of_object rows legal bytes place length Structs Tables (λ z. pos length *ℤ z) (λ m. refl) (λ j f. f) index no_table h
  of_array e inline no_table h = absurd (let w : false ≡ true = inline in cc)

  of_shape : (shape : Option Shape) → is_inline shape ≡ true → (is_object shape && is_some_table (entry_at rows.objects index)) ≡ false
      → int_lt bytes (pos place +ℤ shape_bytes length (entry_at rows.objects index) shape) ≡ false → IfSome (part_kind rows index shape) (Fits rows legal bytes place (part_count length shape))
  of_shape (Some (One x)) inline no_table h = of_one x inline no_table h
  of_shape (Some (Array x)) inline no_table h = of_array x inline no_table h
  of_shape shape inline no_table h = absurd (let w : false ≡ true = inline in cc)

part_fits : (rows : Rows) → IsLegal rows → (k i : ℕ) (f : Field) (r : IsPartRow rows k i f) (part : PartView) → part_of rows f ≡ Some part → PartFits rows (struct_size rows k) part part.kind
unfolding inline_bytes names_table
part_fits rows legal k i f r part e =
    let o = r.object in
    let ds = struct_field_demands rows o.bytesize f (stands_before same_field_name o.fields i f) in
    let clear = asked rows legal k i f r in
    let kinds = of_shape rows legal f.ty.index o.bytesize f.slot f.ty.fixed_length (shape_of f.ty) (not_false (is_inline (shape_of f.ty)) (clear_line ds clear 1 _ refl)) (clear_line ds clear 3 _ refl) (clear_line ds clear 4 _ refl) in
    let size : struct_size rows k ≡ unsigned_abs o.bytesize = ap size_in r.at in
    subst (λ (n : ℕ). PartFits rows n part part.kind) (sym size) (go (part_kind rows f.ty.index (shape_of f.ty)) kinds e) where
      count : ℕ
      count = part_count f.ty.fixed_length (shape_of f.ty)

      go : (kind : Option Kind) → IfSome kind (Fits rows legal (r.object).bytesize f.slot count) → option_map (λ kind. record { place = f.slot; kind = kind; count = count }) kind ≡ Some part → PartFits rows (unsigned_abs (r.object).bytesize) part part.kind
      go None h e = absurd (let w : None ≡ Some part = e in cc)
      go (Some kind) h e = subst (λ (p : PartView). PartFits rows (unsigned_abs (r.object).bytesize) p p.kind) (same_Some _ part e) h

-- the fields of structs of legal rows lie in them
pub parts_fit : (rows : Rows) → IsLegal rows → (k i : ℕ) (part : PartView) → part_at rows k i ≡ Some part → PartFits rows (struct_size rows k) part part.kind
unfolding part_at
parts_fit rows legal k i part e = option_and_then_some (part_of rows) (slice_get (parts_of rows k) i) part e (λ f here. part_fits rows legal k i f (row_of rows k i f (slice_get rows.objects k) refl here) part)
