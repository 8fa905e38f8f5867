-- The files of the examples describe their rows, table by table.
use Rattle.std.proofs.Common.{◌≡◌, ℕ, ℤ, zero, suc, List, [], ◌∷◌, length, refl, sym, subst, Option, Some, None, option_map, inl, inr}
use Rattle.std.specs.Prelude.{slice_get}
use Rattle.fb_bytes.specs.Word.{word}
use Rattle.fb_schema.specs.{Rows.Field, Rows.Object, Rows.Enum, Kinds.shape_of, Kinds.kind_of, Kinds.base_types, Live.live_fields, declared.rows.TypeRow.TypeRow}
use Rattle.fb_rules.specs.Places.{has_vtable, vtable, field_place}
use Rattle.fb_access.specs.declared.{step.Step.Step, step.Step.TheVariants.Field as ToField, step.Step.TheVariants.Element, spot.Spot.Spot, spot.Spot.TheVariants.AtTable}
use Rattle.fb_access.specs.{declared.spot.Spot.TheVariants.AtTables, Spots.present_spot, Spots.absent_spot, Spots.spot_of_element, Spots.member_spot, Denotes.Shown, Denotes.Leads}
use Rattle.fb_access.specs.Denotes.{next_spot, truth, signed, unsigned, text, vector, number, inline_value, default_value, value}
use Rattle.fb_access.specs.Here.{Shows}
use Rattle.fb_access.proofs.StepLaws.{some_same}
use Rattle.fb_bfbs.specs.{Fixed.fixed, Says.Says, Says.after, Says.AreRows, Says.IsDouble, Says.HasDouble, Loads.told, Examples.RealFile, Examples.DetailedFile}
use Rattle.fb_bfbs.specs.Describes.{IsTypeRow, IsDefault, is_float, IsFieldRow, IsObjectRow, IsMemberRow, IsEnumRow, Describes}
use Rattle.fb_bfbs.specs.Samples.{plain, hp_field, name_field, monster_object, plain_rows, reals, float_field, double_field, real_object, real_rows, detailed, old_field, far_field, struct_object, no_member, one_member, a_union, an_enum, detailed_rows}
use Rattle.fb_bfbs.proofs.Composed.{Carries, type_within, field_within, object_within, member_within, enum_within, rows_within}

-- all that is computed
unfoldable pub computing : ℕ
unfolding fixed word live_fields shape_of kind_of base_types has_vtable vtable field_place present_spot absent_spot spot_of_element member_spot next_spot number inline_value default_value value
computing = 0

-- what is said from a spot on
abbrev pub From : List ℕ → Spot → Says
From b p = λ steps x. Shows b fixed p steps x

-- what is said from the next spot on is said from here, one step further on
pub onward : {Row : Type 0} (Is : Says → Row → Type 0) → Carries Is → (b : List ℕ) (p q : Spot) (s : Step) (r : Row) → Leads b fixed p s q → Is (From b q) r → Is (after (From b p) s) r
onward Is carries b p q s r l h = carries (From b q) (after (From b p) s) r (λ steps x i. (i.0, (q, l, i.1), i.2)) h

-- something holds of each row of a list at its place
abbrev AllAt : {Row : Type 0} → (ℕ → Row → Type 0) → List Row → Type 0
AllAt P [] = Unit {0}
AllAt P (r ∷ rows) = P 0 r × AllAt (λ j. P (suc j)) rows

each_of : {Row : Type 0} (P : ℕ → Row → Type 0) (rows : List Row) → AllAt P rows → (j : ℕ) (r : Row) → slice_get rows j ≡ Some r → P j r
each_of P [] a j r e = absurd cc
each_of P (x ∷ xs) a zero r e = subst (P 0) (some_same e) a.0
each_of P (x ∷ xs) a (suc j) r e = each_of (λ k. P (suc k)) xs a.1 j r e

-- the value to which a field of the table here leads
abbrev pub told_by : List ℕ → Spot → ℕ → Option Shown
told_by b p n = option_map (value b fixed) (next_spot b fixed p (ToField n))

pub said : (b : List ℕ) (p : Spot) (n : ℕ) (x : Shown) → told_by b p n ≡ Some x → From b p (ToField n ∷ []) x
said b p n x h = go (next_spot b fixed p (ToField n)) refl h where
  go : (q : Option Spot) → next_spot b fixed p (ToField n) ≡ q → option_map (value b fixed) q ≡ Some x → From b p (ToField n ∷ []) x
  go None e h = absurd cc
  go (Some q) e h = (q, (q, e, refl), sym (some_same h))

-- a table Type of a file, by the values of its fields
type_row : (b : List ℕ) (t : ℕ) (ty : TypeRow) → (told_by b (AtTable 0 t) 0 ≡ Some (signed ty.base)) × (told_by b (AtTable 0 t) 1 ≡ Some (signed ty.element)) × (told_by b (AtTable 0 t) 2 ≡ Some (signed ty.index)) × (told_by b (AtTable 0 t) 3 ≡ Some (unsigned ty.fixed_length)) → IsTypeRow (From b (AtTable 0 t)) ty
type_row b t ty (base, element, index, length) = record { base = said b _ 0 _ base; element = said b _ 1 _ element; index = said b _ 2 _ index; fixed_length = said b _ 3 _ length }

-- a table Field of a file, by the values of its fields and by its Type at t
field_row : (b : List ℕ) (p t : ℕ) (f : Field) → Leads b fixed (AtTable 4 p) (ToField 1) (AtTable 0 t) → IsTypeRow (From b (AtTable 0 t)) f.ty
    → (told_by b (AtTable 4 p) 0 ≡ Some (text f.name)) × (told_by b (AtTable 4 p) 3 ≡ Some (unsigned f.slot)) × IsDefault (From b (AtTable 4 p)) (is_float (f.ty).base) f.default
    → (told_by b (AtTable 4 p) 6 ≡ Some (truth f.deprecated)) × (told_by b (AtTable 4 p) 7 ≡ Some (truth f.required)) × (told_by b (AtTable 4 p) 11 ≡ Some (truth f.optional)) × (told_by b (AtTable 4 p) 13 ≡ Some (truth f.offset64))
    → IsFieldRow (From b (AtTable 4 p)) f
field_row b p t f to ty (name, slot, default) (deprecated, required, optional, offset64) = record {
  name = said b _ 0 _ name;
  ty = onward IsTypeRow type_within b (AtTable 4 p) (AtTable 0 t) (ToField 1) f.ty to ty;
  slot = said b _ 3 _ slot;
  default = default;
  deprecated = said b _ 6 _ deprecated;
  required = said b _ 7 _ required;
  optional = said b _ 11 _ optional;
  offset64 = said b _ 13 _ offset64;
}

-- its default: an integer, or the bits of a real one
whole : (b : List ℕ) (p : ℕ) (d : ℤ) → told_by b (AtTable 4 p) 4 ≡ Some (signed d) → From b (AtTable 4 p) (ToField 4 ∷ []) (signed d)
whole b p d e = said b _ 4 _ e

real : (b : List ℕ) (p bits : ℕ) (x : Shown) → told_by b (AtTable 4 p) 5 ≡ Some x → IsDouble x bits → HasDouble (after (From b (AtTable 4 p)) (ToField 5)) bits
real b p bits x e is = (x, said b _ 5 _ e, is)

-- a table Object of a file, by the values of its fields and by its vector of fields at l
object_row : (b : List ℕ) (p l : ℕ) (o : Object) → Leads b fixed (AtTable 5 p) (ToField 1) (AtTables 4 l) → AreRows IsFieldRow (From b (AtTables 4 l)) o.fields
    → (told_by b (AtTable 5 p) 0 ≡ Some (text o.name)) × (told_by b (AtTable 5 p) 2 ≡ Some (truth o.is_struct)) × (told_by b (AtTable 5 p) 3 ≡ Some (signed o.minalign)) × (told_by b (AtTable 5 p) 4 ≡ Some (signed o.bytesize))
    → IsObjectRow (From b (AtTable 5 p)) o
object_row b p l o to fields (name, is_struct, minalign, bytesize) = record {
  name = said b _ 0 _ name;
  fields = onward (AreRows IsFieldRow) (rows_within IsFieldRow field_within) b (AtTable 5 p) (AtTables 4 l) (ToField 1) o.fields to fields;
  is_struct = said b _ 2 _ is_struct;
  minalign = said b _ 3 _ minalign;
  bytesize = said b _ 4 _ bytesize;
}

-- a table Enum of a file, by the values of its fields and by its vector of members at l
enum_row : (b : List ℕ) (p l : ℕ) (e : Enum) → Leads b fixed (AtTable 3 p) (ToField 1) (AtTables 2 l) → AreRows IsMemberRow (From b (AtTables 2 l)) e.members
    → (told_by b (AtTable 3 p) 0 ≡ Some (text e.name)) × (told_by b (AtTable 3 p) 2 ≡ Some (truth e.is_union))
    → IsEnumRow (From b (AtTable 3 p)) e
enum_row b p l e to members (name, is_union) = record {
  name = said b _ 0 _ name;
  members = onward (AreRows IsMemberRow) (rows_within IsMemberRow member_within) b (AtTable 3 p) (AtTables 2 l) (ToField 1) e.members to members;
  is_union = said b _ 2 _ is_union;
}

-- tables of a vector of a file at l, each said at its place
pub some_rows : {Row : Type 0} (Is : Says → Row → Type 0) (b : List ℕ) (k l : ℕ) (rows : List Row) → vector (length rows) ≡ value b fixed (AtTables k l)
    → AllAt (λ j r. Is (after (From b (AtTables k l)) (Element j)) r) rows → AreRows Is (From b (AtTables k l)) rows
some_rows Is b k l rows count each = record { count = (_, refl, count); each = each_of (λ j r. Is (after (From b (AtTables k l)) (Element j)) r) rows each }

-- two of them
pub two_rows : {Row : Type 0} (Is : Says → Row → Type 0) → Carries Is → (b : List ℕ) (k l p q : ℕ) (x y : Row) → vector 2 ≡ value b fixed (AtTables k l)
    → Leads b fixed (AtTables k l) (Element 0) (AtTable k p) → Leads b fixed (AtTables k l) (Element 1) (AtTable k q)
    → Is (From b (AtTable k p)) x → Is (From b (AtTable k q)) y → AreRows Is (From b (AtTables k l)) (x ∷ y ∷ [])
two_rows Is carries b k l p q x y two to_x to_y here there =
    some_rows Is b k l (x ∷ y ∷ []) two (onward Is carries b _ _ (Element 0) x to_x here, (onward Is carries b _ _ (Element 1) y to_y there, tt))

-- The plain file.

plain_objects : AreRows IsObjectRow (From plain (AtTables 5 44)) (monster_object ∷ [])
unfolding computing
plain_objects = some_rows IsObjectRow plain 5 44 (monster_object ∷ []) refl (
  onward IsObjectRow object_within plain (AtTables 5 44) (AtTable 5 60) (Element 0) monster_object refl (object_row plain 60 80 monster_object refl (two_rows IsFieldRow field_within plain 4 80 112 172 hp_field name_field refl refl refl
      (field_row plain 112 152 hp_field refl (type_row plain 152 hp_field.ty (refl, refl, refl, refl)) (refl, refl, whole plain 112 hp_field.default refl) (refl, refl, refl, refl)) (field_row plain 172 200 name_field refl (type_row plain 200 name_field.ty (refl, refl, refl, refl)) (refl, refl, whole plain 172 name_field.default refl) (refl, refl, refl, refl))) (refl, refl, refl, refl)),
  tt,
)

pub plain_described : Describes (told plain) plain_rows
unfolding computing
plain_described = record {
  objects = onward (AreRows IsObjectRow) (rows_within IsObjectRow object_within) plain (AtTable 9 24) (AtTables 5 44) (ToField 0) plain_rows.objects refl plain_objects;
  enums = onward (AreRows IsEnumRow) (rows_within IsEnumRow enum_within) plain (AtTable 9 24) (AtTables 3 40) (ToField 1) plain_rows.enums refl (some_rows IsEnumRow plain 3 40 [] refl tt);
}

-- The file with real defaults.

real_objects : AreRows IsObjectRow (From reals (AtTables 5 44)) (real_object ∷ [])
unfolding computing
real_objects = some_rows IsObjectRow reals 5 44 (real_object ∷ []) refl (
  onward IsObjectRow object_within reals (AtTables 5 44) (AtTable 5 60) (Element 0) real_object refl (object_row reals 60 80 real_object refl (two_rows IsFieldRow field_within reals 4 80 112 172 float_field double_field refl refl refl
      (field_row reals 112 152 float_field refl (type_row reals 152 float_field.ty (refl, refl, refl, refl)) (refl, refl, (_, real reals 112 0x3fb999999999999a _ refl refl, refl)) (refl, refl, refl, refl))
      (field_row reals 172 200 double_field refl (type_row reals 200 double_field.ty (refl, refl, refl, refl)) (refl, refl, (_, real reals 172 0 _ refl refl, refl)) (refl, refl, refl, refl))) (refl, refl, refl, refl)),
  tt,
)

pub real_file : RealFile
unfolding computing
real_file = record {
  rows = record {
    objects = onward (AreRows IsObjectRow) (rows_within IsObjectRow object_within) reals (AtTable 9 24) (AtTables 5 44) (ToField 0) real_rows.objects refl real_objects;
    enums = onward (AreRows IsEnumRow) (rows_within IsEnumRow enum_within) reals (AtTable 9 24) (AtTables 3 40) (ToField 1) real_rows.enums refl (some_rows IsEnumRow reals 3 40 [] refl tt);
  };
}

-- The detailed file.

detailed_objects : AreRows IsObjectRow (From detailed (AtTables 5 36)) (struct_object ∷ [])
unfolding computing
detailed_objects = some_rows IsObjectRow detailed 5 36 (struct_object ∷ []) refl (
  onward IsObjectRow object_within detailed (AtTables 5 36) (AtTable 5 84) (Element 0) struct_object refl (object_row detailed 84 116 struct_object refl (two_rows IsFieldRow field_within detailed 4 116 160 260 old_field far_field refl refl refl
      (field_row detailed 160 216 old_field refl (type_row detailed 216 old_field.ty (refl, refl, refl, refl)) (refl, refl, whole detailed 160 old_field.default refl) (refl, refl, refl, refl)) (field_row detailed 260 296 far_field refl (type_row detailed 296 far_field.ty (refl, refl, refl, refl)) (refl, refl, whole detailed 260 far_field.default refl) (refl, refl, refl, refl))) (refl, refl, refl, refl)),
  tt,
)

no_member_row : IsMemberRow (From detailed (AtTable 2 360)) no_member
unfolding computing
no_member_row = record { name = (_, (_, refl, refl), refl); value = (_, (_, refl, refl), refl); ty = inr ((_, (_, refl, refl), refl), refl) }

one_member_row : IsMemberRow (From detailed (AtTable 2 392)) one_member
unfolding computing
one_member_row = record {
  name = (_, (_, refl, refl), refl);
  value = (_, (_, refl, refl), refl);
  ty = inl ((_, (_, refl, refl), refl), onward IsTypeRow type_within detailed (AtTable 2 392) (AtTable 0 432) (ToField 3) one_member.ty refl (type_row detailed 432 one_member.ty (refl, refl, refl, refl)));
}

detailed_enums : AreRows IsEnumRow (From detailed (AtTables 3 44)) (a_union ∷ an_enum ∷ [])
unfolding computing
detailed_enums = two_rows IsEnumRow enum_within detailed 3 44 316 452 a_union an_enum refl refl refl
    (enum_row detailed 316 340 a_union refl (two_rows IsMemberRow member_within detailed 2 340 360 392 no_member one_member refl refl refl no_member_row one_member_row) (refl, refl))
    (enum_row detailed 452 472 an_enum refl (some_rows IsMemberRow detailed 2 472 [] refl tt) (refl, refl))

pub detailed_described : Describes (told detailed) detailed_rows
unfolding computing
detailed_described = record {
  objects = onward (AreRows IsObjectRow) (rows_within IsObjectRow object_within) detailed (AtTable 9 20) (AtTables 5 36) (ToField 0) detailed_rows.objects refl detailed_objects;
  enums = onward (AreRows IsEnumRow) (rows_within IsEnumRow enum_within) detailed (AtTable 9 20) (AtTables 3 44) (ToField 1) detailed_rows.enums refl detailed_enums;
}

pub detailed_file : DetailedFile
unfolding computing
detailed_file = record { rows = detailed_described; root = (_, (_, refl, refl), refl); ident = (_, (_, refl, refl), refl) }
