-- What the live fields of legal rows give.
use Rattle.std.proofs.Common.{◌≡◌, ℕ, zero, suc, ◌+◌, ◌*◌, ◌<◌, ◌≤◌, ◌==◌, ◌%◌, ℤ, Bool, true, false, not, ◌&&◌, List, [], ◌∷◌, slice_get, filter, Option, Some, None, refl, sym, ◌∙◌, ap, subst, arith, cond, if◌then◌else◌}
use Rattle.std.proofs.lemmas.{List.Folds.Any-from_list_any, Bool.Decides.nat_tests}
use Rattle.std.specs.List.{Contains, list_any}
use Rattle.fb_schema.specs.declared.kinds.{Scalar.TheVariants.UType, TypeField.TypeField, TypeField.TheVariants.ForUnion, TypeField.TheVariants.ForUnions}
use Rattle.fb_schema.specs.Demands.{IsLegal, table_field_demands, stands_below, is_type_field, lacks_type_field, names_no_union}
use Rattle.fb_schema.specs.{Kinds.kind_of, Kinds.shape_of, Kinds.shape_kind, Kinds.kind_size, Kinds.kind_align, Kinds.scalar_size, Live.Live, Live.live_fields, Live.live_rows}
use Rattle.fb_schema.specs.{Live.live_as, Live.by_slot, Live.is_live, Live.widest, Live.AreSpaced, Rows.Rows, Rows.Field, Rows.Object, Served.IsAlignment, Served.KindHolds}
use Rattle.fb_schema.specs.Served.{HasTypeField, IsTyped, IsServed}
use Rattle.fb_schema.proofs.KindWords.{Kind, Scalar, Struct, Union, Scalars, Structs, Unions, OfScalar, Shape, One, Vector}
use Rattle.fb_schema.proofs.{DemandLaws.clear_line, Kinded.listed, Kinded.row_of, Kinded.field_sized, LiveLemmas.Rises, LiveLemmas.sorted_members, LookLemmas.within_widest}
use Rattle.fb_schema.proofs.{PartLemmas.parts_fit, KindLemmas.NamesObject, KindLemmas.NamesUnion, KindLemmas.member_holds, KindLemmas.power_of, KindLemmas.HasAsked}
use Rattle.fb_schema.proofs.{KindLemmas.is_named, Numbers.neither_below, RowLemmas.contains_at, RowLemmas.place_in, RowLemmas.rises_at, RowLemmas.IsRowOf, RowLemmas.row_in}
use Rattle.fb_schema.proofs.RowLemmas.{asked, live_line, rows_rise}

filter_keeps : {X : Type 0} (p : X → Bool) (xs : List X) (k : ℕ) (z : X) → slice_get xs k ≡ Some z → p z ≡ true → Contains (filter p xs) z
filter_keeps p [] k z e q = absurd (let w : None ≡ Some z = e in cc)
filter_keeps p (x ∷ xs) zero z e q = go (p x) (ap p (let w : x ≡ z = cc in w) ∙ q) (let w : x ≡ z = cc in w) where
  go : (b : Bool) → b ≡ true → x ≡ z → Contains (cond b (x ∷ filter p xs) (filter p xs)) z
  go true e same = (0, omega arith, same)
  go false e same = absurd (let w : false ≡ true = e in cc)
filter_keeps p (x ∷ xs) (suc k) z e q = go (p x) (filter_keeps p xs k z e q) where
  go : (b : Bool) → Contains (filter p xs) z → Contains (cond b (x ∷ filter p xs) (filter p xs)) z
  go true c = (suc c.0, omega (arith, c.1), c.2)
  go false c = c

place_below : (fs : List Field) → Rises fs → (i j : ℕ) (f g : Field) → slice_get fs i ≡ Some f → slice_get fs j ≡ Some g → g.slot < f.slot → j < i
place_below fs r i j f g a b lt = grind (arith, rises_at fs r i j f g a b)

scalar_aligned : (s : _) → IsAlignment (scalar_size s)
scalar_aligned s = power_of (scalar_size s) (0 ∷ 1 ∷ 2 ∷ 3 ∷ []) (is_one s) where
  is_one : (s : _) → list_any (λ a. scalar_size s == a) (1 ∷ 2 ∷ 4 ∷ 8 ∷ []) ≡ true
  is_one UType = refl
  is_one s = refl

kind_holds : (rows : Rows) (f : Live) (kind : Kind) → f.align ≡ kind_align rows kind → NamesObject rows kind → NamesUnion rows kind → KindHolds rows f kind
kind_holds rows f (Scalar s) e h u = subst IsAlignment (sym e) (scalar_aligned s)
kind_holds rows f (Scalars s) e h u = subst IsAlignment (sym e) (scalar_aligned s)
kind_holds rows f (Struct k) e h u = subst IsAlignment (sym e) h.1
kind_holds rows f (Structs k) e h u = subst IsAlignment (sym e) h.1
kind_holds rows f (Union k) e h u = u
kind_holds rows f (Unions k) e h u = u
kind_holds rows f kind e h u = h

-- the union of a live field is there
union_named : (rows : Rows) → IsLegal rows → (k i : ℕ) (o : Object) (g : Field) → IsRowOf rows k i o g → (kind : Kind) → kind_of rows g.ty ≡ Some kind → NamesUnion rows kind
unfolding names_no_union
union_named rows legal k i o g r kind e =
    (is_named rows legal g.ty false false kind e).1 (live_line g.deprecated _ (clear_line (table_field_demands rows g _ _ _ _) (asked rows legal k i o g r) 4 _ refl) r.live)

-- what a live field's kind names is there
pub field_holds : (rows : Rows) → IsLegal rows → (k i : ℕ) (f : Live) → slice_get (live_fields rows k) i ≡ Some f → KindHolds rows f f.kind
field_holds rows legal k i f e =
    let r = row_of rows legal k i f e in
    subst (λ (f : Live). KindHolds rows f f.kind) (sym r.same)
    (kind_holds rows (live_as rows (live_rows r.object) r.field r.kind) r.kind refl (is_named rows legal r.field.ty false false r.kind r.kind_is).0 (union_named rows legal k i r.object r.field r.row r.kind r.kind_is))

-- the kind of a type field
abbrev type_kind : TypeField → Kind
type_kind ForUnion = Scalar UType
type_kind ForUnions = Scalars UType

type_shape : (rows : Rows) (index : ℤ) (wanted : TypeField) (s : Option Shape) → is_type_field wanted s ≡ true → shape_kind rows index s ≡ Some (type_kind wanted)
type_shape rows index ForUnion (Some (One (OfScalar UType))) h = refl
type_shape rows index ForUnions (Some (Vector (OfScalar UType))) h = refl
type_shape rows index wanted s h = absurd (let w : false ≡ true = h in cc)

size_of_type : (rows : Rows) (wanted : TypeField) → kind_size rows (type_kind wanted) ≡ 1
size_of_type rows wanted = grind arith

-- a live row has a place among the live rows
live_place : (o : Object) (h : Field) → o.is_struct ≡ false → Contains o.fields h → is_live h ≡ true → (j : ℕ) × (slice_get (live_rows o) j ≡ Some h)
live_place o h table c live =
    let p = place_in o.fields h c in
    let q = place_in (by_slot (filter is_live o.fields)) h ((sorted_members h (filter is_live o.fields)).1 (filter_keeps is_live o.fields p.0 h p.1 live)) in
    (q.0, ap (λ b. slice_get (if b then [] else by_slot (filter is_live o.fields)) q.0) table ∙ q.1)

type_before : (rows : Rows) → IsLegal rows → (k i : ℕ) (o : Object) (g : Field) → IsRowOf rows k i o g → (wanted : TypeField) → stands_below wanted o.fields g.slot ≡ true → HasTypeField (live_fields rows k) i g.slot (type_kind wanted)
unfolding kind_of
type_before rows legal k i o g r wanted stands =
    let found = Any-from_list_any (λ h. not h.deprecated && (h.slot + 2 == g.slot) && is_type_field wanted (shape_of h.ty)) o.fields stands in
    let h = found.1 in
    let is : (is_live h ≡ true) × (h.slot + 2 ≡ g.slot) × (is_type_field wanted (shape_of h.ty) ≡ true) = (grind (arith, found.4), grind (arith, nat_tests, found.4), grind (arith, found.4)) in
    let p = live_place o h r.table (found.0, found.2, found.3) is.0 in
    record {
      place = p.0;
      lower = place_below (live_rows o) (rows_rise rows legal k o r.at) i p.0 g h r.here p.1 (omega (arith, is.1));
      field = live_as rows (live_rows o) h (type_kind wanted);
      found = listed rows legal k o r.at p.0 h (type_kind wanted) p.1 (type_shape rows h.ty.index wanted (shape_of h.ty) is.2);
      below = is.1;
      kind_is = refl;
      size_is = size_of_type rows wanted;
    }

kind_typed : (fs : List Live) (i slot : ℕ) (byte vector : Bool) (kind : Kind) → HasAsked byte vector kind → (byte ≡ true → HasTypeField fs i slot (Scalar UType)) → (vector ≡ true → HasTypeField fs i slot (Scalars UType)) → IsTyped fs i slot kind
kind_typed fs i slot byte vector (Union e) h one many = one h
kind_typed fs i slot byte vector (Unions e) h one many = many h
kind_typed fs i slot byte vector kind h one many = tt

row_typed : (rows : Rows) → IsLegal rows → (k i : ℕ) (o : Object) (g : Field) → IsRowOf rows k i o g → (kind : Kind) → kind_of rows g.ty ≡ Some kind → IsTyped (live_fields rows k) i g.slot kind
row_typed rows legal k i o g r kind e =
    let byte = stands_below ForUnion o.fields g.slot in
    let vector = stands_below ForUnions o.fields g.slot in
    let line = live_line g.deprecated (lacks_type_field (shape_of g.ty) byte vector) (clear_line (table_field_demands rows g _ _ _ _) (asked rows legal k i o g r) 5 _ refl) r.live in
    kind_typed (live_fields rows k) i g.slot byte vector kind ((is_named rows legal g.ty byte vector kind e).2 line) (type_before rows legal k i o g r ForUnion) (type_before rows legal k i o g r ForUnions)

-- a live union has its type field before it
pub field_typed : (rows : Rows) → IsLegal rows → (k i : ℕ) (f : Live) → slice_get (live_fields rows k) i ≡ Some f → IsTyped (live_fields rows k) i f.slot f.kind
field_typed rows legal k i f e =
    let r = row_of rows legal k i f e in
    subst (λ (f : Live). IsTyped (live_fields rows k) i f.slot f.kind) (sym r.same) (row_typed rows legal k i r.object r.field r.row r.kind r.kind_is)

-- Slots.
row_slot : (rows : Rows) → IsLegal rows → (k i : ℕ) (o : Object) (f : Field) → IsRowOf rows k i o f → (f.slot % 2 ≡ 0) × (4 ≤ f.slot)
row_slot rows legal k i o f r = let line = clear_line (table_field_demands rows f _ _ _ _) (asked rows legal k i o f r) 1 _ refl in (grind (arith, nat_tests, line), grind (arith, nat_tests, line))

spaced_from : (low : ℕ) (fs : List Field) → low % 2 ≡ 0 → Rises fs → ((f : Field) → Contains fs f → (f.slot % 2 ≡ 0) × (low ≤ f.slot)) → (i : ℕ) (f : Field) → slice_get fs i ≡ Some f → low + 2 * i ≤ f.slot
spaced_from low [] even r all i f e = absurd (let w : None ≡ Some f = e in cc)
spaced_from low (x ∷ xs) even r all zero f e = let h = (all f (contains_at (x ∷ xs) 0 f e)).1 in omega arith
spaced_from low (x ∷ xs) even r all (suc i) f e =
    let here = all x (0, omega arith, refl) in
    let a = here.0 in
    let later = spaced_from (x.slot + 2) xs (omega (arith, a)) r.1 (λ g c. let there = all g (suc c.0, omega (arith, c.1), c.2) in let p = there.0 in let lt = r.0 g c in (p, omega (arith, p, lt, a))) i f e in
    omega (arith, here.1, later)

-- the slots of a legal table's live fields rise by two at least
pub rows_spaced : (rows : Rows) → IsLegal rows → (k : ℕ) (o : Object) → slice_get rows.objects k ≡ Some o → AreSpaced (live_rows o)
rows_spaced rows legal k o at = record {
  at = spaced_from 4 (live_rows o) refl (rows_rise rows legal k o at) (λ f c. let p = place_in (live_rows o) f c in row_slot rows legal k p.0 o f (row_in rows k p.0 o f at p.1));
}

-- the slots of a legal table's live fields rise
fields_rise : (rows : Rows) → IsLegal rows → (k i j : ℕ) (f g : Live) → slice_get (live_fields rows k) i ≡ Some f → slice_get (live_fields rows k) j ≡ Some g → i < j → f.slot < g.slot
fields_rise rows legal k i j f g a b lt =
    let p = row_of rows legal k i f a in
    let q = row_of rows legal k j g b in
    let same : p.object ≡ q.object = let w : Some p.object ≡ Some q.object = sym (p.row).at ∙ (q.row).at in cc in
    let there = subst (λ o. slice_get (live_rows o) j ≡ Some q.field) (sym same) (q.row).here in
    let less = rises_at (live_rows p.object) (rows_rise rows legal k p.object (p.row).at) i j p.field q.field (p.row).here there lt in
    omega (arith, less, ap (λ (x : Live). x.slot) p.same, ap (λ (x : Live). x.slot) q.same)

-- the slot of a field follows from its number
slot_numbered : (rows : Rows) → IsLegal rows → (k i : ℕ) (f : Live) → slice_get (live_fields rows k) i ≡ Some f → f.slot ≡ 2 * f.number + 4
slot_numbered rows legal k i f e =
    let p = row_of rows legal k i f e in
    let s = row_slot rows legal k i p.object p.field p.row in
    omega (arith, s.0, s.1, ap (λ (x : Live). x.slot) p.same, ap (λ (x : Live). x.number) p.same)

-- two live fields of one number stand in one place
numbers_apart : (rows : Rows) → IsLegal rows → (k i j : ℕ) (f g : Live) → slice_get (live_fields rows k) i ≡ Some f → slice_get (live_fields rows k) j ≡ Some g → f.number ≡ g.number → i ≡ j
numbers_apart rows legal k i j f g a b e =
    let s = slot_numbered rows legal k i f a in
    let t = slot_numbered rows legal k j g b in
    neither_below i j (λ lt. let w = fields_rise rows legal k i j f g a b lt in omega arith) (λ lt. let w = fields_rise rows legal k j i g f b a lt in omega arith)

-- What legal rows give, where no table has more live fields than slots.
pub served_by : (rows : Rows) → IsLegal rows → widest rows ≤ 32766 → IsServed rows
served_by rows legal few = record {
  few = λ k. (let w = within_widest rows k in omega arith);
  kinds = field_holds rows legal;
  typed = field_typed rows legal;
  sized = field_sized rows;
  rising = fields_rise rows legal;
  even = λ k i f e. (let s = slot_numbered rows legal k i f e in omega arith);
  slots = slot_numbered rows legal;
  numbers = numbers_apart rows legal;
  members = member_holds rows legal;
  parts = parts_fit rows legal;
}
