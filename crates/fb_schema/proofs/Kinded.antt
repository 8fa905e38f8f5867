-- The live fields of legal rows have a kind.
use Rattle.std.proofs.Common.{◌≡◌, ℕ, ℤ, pos, negsuc, true, false, not, ◌&&◌, List, slice_get, Option, Some, None, is_none, length, option_map, option_and_then, is_some, refl, sym, ◌∙◌, ap, arith, IsSome}
use Rattle.fb_schema.specs.Demands.{IsLegal, table_field_demands, is_supported, is_object, is_union_shape, names_no_object, names_no_union}
use Rattle.fb_schema.specs.{Kinds.kind_of, Kinds.shape_of, Kinds.shape_kind, Kinds.object_kind, Kinds.union_kind, Live.Live, Live.live_rows, Live.live_as, Live.live_of}
use Rattle.fb_schema.specs.{Live.live_in, Live.live_fields, Live.AreKinded, Rows.Rows, Rows.Field, Rows.Object, Rows.entry_at, Rows.is_some_union, Served.IsSized, Served.HaveKinds}
use Rattle.fb_schema.proofs.KindWords.{Kind, Struct, Table, Union, Structs, Tables, Unions, OfObject, OfUnion, Shape, One, Vector}
use Rattle.fb_schema.proofs.{DemandLaws.clear_line, Kept.kept_from, Kept.kept_long, Kept.kept_at, RowLemmas.IsRowOf, RowLemmas.row_in, RowLemmas.asked, RowLemmas.live_line}
use Rattle.std.proofs.lemmas.Option.{option_and_then_some}

-- a kind of an object that is there, and of a union that is

object_has_kind : (rows : Rows) (index : ℤ) (struct table : ℕ → Kind) → is_none (entry_at rows.objects index) ≡ false → IsSome (object_kind index struct table (entry_at rows.objects index))
object_has_kind rows (negsuc n) struct table h = absurd (let w : true ≡ false = h in cc)
object_has_kind rows (pos n) struct table h = grind (arith, h)

union_has_kind : (rows : Rows) (index : ℤ) (union : ℕ → Kind) → not (is_some_union (entry_at rows.enums index)) ≡ false → IsSome (union_kind index union (entry_at rows.enums index))
union_has_kind rows (negsuc n) union h = absurd (let w : true ≡ false = h in cc)
union_has_kind rows (pos n) union h = grind (arith, h)

shape_has_kind : (rows : Rows) (index : ℤ) (s : Option Shape) → is_supported s ≡ true → (is_object s && is_none (entry_at rows.objects index)) ≡ false → (is_union_shape s && not (is_some_union (entry_at rows.enums index))) ≡ false → IsSome (shape_kind rows index s)
shape_has_kind rows index (Some (One OfObject)) h o u = object_has_kind rows index Struct Table o
shape_has_kind rows index (Some (One OfUnion)) h o u = union_has_kind rows index Union u
shape_has_kind rows index (Some (Vector OfObject)) h o u = object_has_kind rows index Structs Tables o
shape_has_kind rows index (Some (Vector OfUnion)) h o u = union_has_kind rows index Unions u
shape_has_kind rows index (Some (One e)) h o u = refl
shape_has_kind rows index (Some (Vector e)) h o u = refl
shape_has_kind rows index s h o u = absurd (let w : false ≡ true = h in cc)

some_in : {A : Type 0} (x : Option A) → IsSome x → (a : A) × (x ≡ Some a)
some_in None h = absurd (let w : false ≡ true = h in cc)
some_in (Some a) h = (a, refl)

pub field_has_kind : (rows : Rows) → IsLegal rows → (k i : ℕ) (o : Object) (g : Field) → IsRowOf rows k i o g → (kind : Kind) × (kind_of rows g.ty ≡ Some kind)
unfolding kind_of names_no_object names_no_union
field_has_kind rows legal k i o g r =
    let clear = asked rows legal k i o g r in
    let type_line = clear_line (table_field_demands rows g _ _ _ _) clear 2 _ refl in
    let object_line = clear_line (table_field_demands rows g _ _ _ _) clear 3 _ refl in
    let union_line = clear_line (table_field_demands rows g _ _ _ _) clear 4 _ refl in
    let s = shape_of g.ty in
    let live = r.live in
    let fits : is_supported s ≡ true = grind (arith, type_line, live) in
    let there = live_line g.deprecated (is_object s && is_none (entry_at rows.objects g.ty.index)) object_line r.live in
    let joined = live_line g.deprecated (is_union_shape s && not (is_some_union (entry_at rows.enums g.ty.index))) union_line r.live in
    some_in _ (shape_has_kind rows g.ty.index s fits there joined)

-- A legal table's live fields are its live rows, one by one.
module _ (rows : Rows) (legal : IsLegal rows) (k : ℕ) (o : Object) (at : slice_get rows.objects k ≡ Some o) where
  pub rows_kinded : AreKinded rows (live_rows o)
  rows_kinded = record { at = λ i g here. ap is_some (field_has_kind rows legal k i o g (row_in rows k i o g at here)).1 }

  each : (i : ℕ) (g : Field) → slice_get (live_rows o) i ≡ Some g → (f : Live) × (live_of rows (live_rows o) g ≡ Some f)
  each i g here = let kind = field_has_kind rows legal k i o g (row_in rows k i o g at here) in (_, ap (option_map (live_as rows (live_rows o) g)) kind.1)

  pub live_long : length (live_in rows (Some o)) ≡ length (live_rows o)
  live_long = kept_long (live_of rows (live_rows o)) (live_rows o) each

  pub live_at : (i : ℕ) → slice_get (live_in rows (Some o)) i ≡ option_and_then (live_of rows (live_rows o)) (slice_get (live_rows o) i)
  live_at = kept_at (live_of rows (live_rows o)) (live_rows o) each

  -- the live field of a row
  pub listed : (i : ℕ) (g : Field) (kind : Kind) → slice_get (live_rows o) i ≡ Some g → kind_of rows g.ty ≡ Some kind → slice_get (live_fields rows k) i ≡ Some (live_as rows (live_rows o) g kind)
  unfolding live_fields
  listed i g kind here is =
      ap (λ x. slice_get (live_in rows x) i) at ∙ live_at i ∙ ap (option_and_then (live_of rows (live_rows o))) here
      ∙ ap (option_map (live_as rows (live_rows o) g)) is

-- each live field has a kind
pub have_kinds : (rows : Rows) → IsLegal rows → HaveKinds rows
have_kinds rows legal = record {
  at = λ k i o g at here.
      let h = field_has_kind rows legal k i o g (row_in rows k i o g at here) in
      record { kind = h.0; is = h.1; listed = listed rows legal k o at i g h.0 here h.1 };
}

-- a live field with its row and its kind
pub record IsLiveOf (rows : Rows) (k i : ℕ) (f : Live) : Type 0 where
  pub object : Object
  pub field : Field
  pub kind : Kind
  pub row : IsRowOf rows k i object field
  pub kind_is : kind_of rows field.ty ≡ Some kind
  pub same : f ≡ live_as rows (live_rows object) field kind

pub row_of : (rows : Rows) → IsLegal rows → (k i : ℕ) (f : Live) → slice_get (live_fields rows k) i ≡ Some f → IsLiveOf rows k i f
unfolding live_fields
row_of rows legal k i f e = go (slice_get rows.objects k) refl e where
  kinded : (o : Object) (g : Field) (r : IsRowOf rows k i o g) → live_of rows (live_rows o) g ≡ Some f → IsLiveOf rows k i f
  kinded o g r e =
      let h = field_has_kind rows legal k i o g r in
      let w : Some (live_as rows (live_rows o) g h.0) ≡ Some f = sym (ap (option_map (live_as rows (live_rows o) g)) h.1) ∙ e in
      record { object = o; field = g; kind = h.0; row = r; kind_is = h.1; same = cc }

  go : (o : Option Object) → slice_get rows.objects k ≡ o → slice_get (live_in rows o) i ≡ Some f → IsLiveOf rows k i f
  go None at e = absurd (let w : None ≡ Some f = e in cc)
  go (Some o) at e = option_and_then_some (live_of rows (live_rows o)) (slice_get (live_rows o) i) f (sym (live_at rows legal k o at i) ∙ e) (λ g here. kinded o g (row_in rows k i o g at here))

kind_sized : (rows : Rows) (live : List Field) (g : Field) (f : Live) (kind : Option Kind) → option_map (live_as rows live g) kind ≡ Some f → IsSized rows f
kind_sized rows live g f kind e = record { size = grind (arith, e); align = grind (arith, e) }

-- a live field of any rows has its kind's size and alignment
pub field_sized : (rows : Rows) (k i : ℕ) (f : Live) → slice_get (live_fields rows k) i ≡ Some f → IsSized rows f
unfolding live_fields
field_sized rows k i f e = go (slice_get rows.objects k) e where
  go : (o : Option Object) → slice_get (live_in rows o) i ≡ Some f → IsSized rows f
  go None e = absurd (let w : None ≡ Some f = e in cc)
  go (Some o) e = let g = kept_from (live_of rows (live_rows o)) (live_rows o) i f e in kind_sized rows (live_rows o) g.0 f (kind_of rows (g.0).ty) g.1
