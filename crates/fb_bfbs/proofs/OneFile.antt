-- A schema file describes one list of rows.
use Rattle.std.proofs.Common.{◌≡◌, ℕ, ℤ, Bool, true, false, zero, suc, List, [], ◌∷◌, length, refl, sym, ◌∙◌, ap, subst, arith, Some, inl, inr, w64}
use Rattle.std.specs.Int.{cast_signed}
use Rattle.std.specs.Prelude.{slice_get}
use Rattle.fb_schema.specs.{Rows.Field, declared.rows.TypeRow.TypeRow}
use Rattle.fb_access.specs.declared.{step.Step.Step, step.Step.TheVariants.Field as ToField, step.Step.TheVariants.Element}
use Rattle.fb_access.specs.Denotes.{Shown, nothing, truth, signed, unsigned, text, table, vector}
use Rattle.fb_bfbs.specs.Says.{Says, after, AreRows, IsDouble, HasDouble}
use Rattle.fb_bfbs.specs.Describes.{IsTypeRow, IsDefault, is_float, IsFieldRow, IsObjectRow, IsTypeOrNone, IsMemberRow, IsEnumRow, Describes}

-- steps lead to one value at most
abbrev pub IsSingle : Says → Type 0
IsSingle D = (steps : List Step) (x y : Shown) → D steps x → D steps y → x ≡ y

-- one row at most is such a row
abbrev pub IsOnly : {R : Type 0} → (Says → R → Type 0) → Type 1
IsOnly {R} Is = (D : Says) (r s : R) → IsSingle D → Is D r → Is D s → r ≡ s

pub single_after : (D : Says) (s : Step) → IsSingle D → IsSingle (after D s)
single_after D s h = λ steps x y. h (s ∷ steps) x y

-- rows that are one another's, place by place, are the same
same_rows : {R : Type 0} (xs ys : List R) → length xs ≡ length ys → ((j : ℕ) (x y : R) → slice_get xs j ≡ Some x → slice_get ys j ≡ Some y → x ≡ y) → xs ≡ ys
same_rows [] [] e h = refl
same_rows [] (y ∷ ys) e h = absurd cc
same_rows (x ∷ xs) [] e h = absurd cc
same_rows (x ∷ xs) (y ∷ ys) e h =
    let first = h zero x y refl refl in
    let rest = same_rows xs ys (let l : suc (length xs) ≡ suc (length ys) = e in cc) (λ j. h (suc j)) in
    cc

pub only_rows : {R : Type 0} (Is : Says → R → Type 0) → IsOnly Is → IsOnly (AreRows Is)
only_rows {R} Is only D rows others h a b =
    let count : vector (length rows) ≡ vector (length others) = h [] (vector (length rows)) (vector (length others)) a.count b.count in
    let same : length rows ≡ length others = cc in
    let each : (j : ℕ) (r s : R) → slice_get rows j ≡ Some r → slice_get others j ≡ Some s → r ≡ s =
    λ j r s e f. only (after D (Element j)) r s (single_after D (Element j) h) (a.each j r e) (b.each j s f) in
    same_rows rows others same each

-- one value of each form is said
module _ (D : Says) (single : IsSingle D) (steps : List Step) where
  pub one_truth : {x y : _} → D steps (truth x) → D steps (truth y) → x ≡ y
  one_truth {x} {y} a b = let e = single steps (truth x) (truth y) a b in cc

  pub one_signed : {x y : _} → D steps (signed x) → D steps (signed y) → x ≡ y
  one_signed {x} {y} a b = let e = single steps (signed x) (signed y) a b in cc

  pub one_unsigned : {x y : ℕ} → D steps (unsigned x) → D steps (unsigned y) → x ≡ y
  one_unsigned {x} {y} a b = let e = single steps (unsigned x) (unsigned y) a b in cc

  pub one_text : {x y : List ℕ} → D steps (text x) → D steps (text y) → x ≡ y
  one_text {x} {y} a b = let e = single steps (text x) (text y) a b in cc

  -- a text is not nothing, nor is a table
  pub text_is_something : {x : List ℕ} → D steps (text x) → D steps nothing → ⊥
  text_is_something {x} a b = let e = single steps (text x) nothing a b in cc

  pub table_is_something : D steps table → D steps nothing → ⊥
  table_is_something a b = let e = single steps table nothing a b in cc

only_type : IsOnly IsTypeRow
only_type D r s h a b =
    let base = one_signed D h _ a.base b.base in
    let element = one_signed D h _ a.element b.element in
    let index = one_signed D h _ a.index b.index in
    let fixed_length = one_unsigned D h _ a.fixed_length b.fixed_length in
    λ i. record { base = base i; element = element i; index = index i; fixed_length = fixed_length i }

only_type_or_none : IsOnly IsTypeOrNone
only_type_or_none D r s h (inl a) (inl b) = only_type D r s h a.1 b.1
only_type_or_none D r s h (inl a) (inr b) = absurd (table_is_something D h [] a.0 b.0)
only_type_or_none D r s h (inr a) (inl b) = absurd (table_is_something D h [] b.0 a.0)
only_type_or_none D r s h (inr a) (inr b) = a.1 ∙ sym b.1

same_bits : (x : Shown) (m n : ℕ) → IsDouble x m → IsDouble x n → m ≡ n
same_bits x m n h i = grind arith

one_double : (D : Says) → IsSingle D → (m n : ℕ) → HasDouble D m → HasDouble D n → m ≡ n
one_double D h m n (x, here, is) (y, there, are) = same_bits y m n (subst (λ z. IsDouble z m) (h [] x y here there) is) are

one_default : (D : Says) → IsSingle D → (float : Bool) (d e : ℤ) → IsDefault D float d → IsDefault D float e → d ≡ e
one_default D h true d e (m, real, is) (n, other, are) = is ∙ ap (cast_signed w64) (one_double (after D (ToField 5)) (single_after D (ToField 5) h) m n real other) ∙ sym are
one_default D h false d e a b = one_signed D h _ a b

same_default : (D : Says) → IsSingle D → (r s : Field) → r.ty ≡ s.ty → IsDefault D (is_float (r.ty).base) r.default → IsDefault D (is_float (s.ty).base) s.default → r.default ≡ s.default
same_default D h r s e a b = one_default D h (is_float (s.ty).base) r.default s.default (subst (λ (t : TypeRow). IsDefault D (is_float t.base) r.default) e a) b

only_field : IsOnly IsFieldRow
only_field D r s h a b =
    let name = one_text D h _ a.name b.name in
    let ty = only_type (after D (ToField 1)) r.ty s.ty (single_after D (ToField 1) h) a.ty b.ty in
    let slot = one_unsigned D h _ a.slot b.slot in
    let default = same_default D h r s ty a.default b.default in
    let deprecated = one_truth D h _ a.deprecated b.deprecated in
    let required = one_truth D h _ a.required b.required in
    let optional = one_truth D h _ a.optional b.optional in
    let offset64 = one_truth D h _ a.offset64 b.offset64 in
    λ i. record { name = name i; ty = ty i; slot = slot i; default = default i; deprecated = deprecated i; required = required i; optional = optional i; offset64 = offset64 i }

only_object : IsOnly IsObjectRow
only_object D r s h a b =
    let name = one_text D h _ a.name b.name in
    let fields = only_rows IsFieldRow only_field (after D (ToField 1)) r.fields s.fields (single_after D (ToField 1) h) a.fields b.fields in
    let is_struct = one_truth D h _ a.is_struct b.is_struct in
    let minalign = one_signed D h _ a.minalign b.minalign in
    let bytesize = one_signed D h _ a.bytesize b.bytesize in
    λ i. record { name = name i; fields = fields i; is_struct = is_struct i; minalign = minalign i; bytesize = bytesize i }

only_member : IsOnly IsMemberRow
only_member D r s h a b =
    let name = one_text D h _ a.name b.name in
    let value = one_signed D h _ a.value b.value in
    let ty = only_type_or_none (after D (ToField 3)) r.ty s.ty (single_after D (ToField 3) h) a.ty b.ty in
    λ i. record { name = name i; value = value i; ty = ty i }

only_enum : IsOnly IsEnumRow
only_enum D r s h a b =
    let name = one_text D h _ a.name b.name in
    let members = only_rows IsMemberRow only_member (after D (ToField 1)) r.members s.members (single_after D (ToField 1) h) a.members b.members in
    let is_union = one_truth D h _ a.is_union b.is_union in
    λ i. record { name = name i; members = members i; is_union = is_union i }

pub describes_once : IsOnly Describes
describes_once D r s h a b =
    let objects = only_rows IsObjectRow only_object (after D (ToField 0)) r.objects s.objects (single_after D (ToField 0) h) a.objects b.objects in
    let enums = only_rows IsEnumRow only_enum (after D (ToField 1)) r.enums s.enums (single_after D (ToField 1) h) a.enums b.enums in
    λ i. record { objects = objects i; enums = enums i }
