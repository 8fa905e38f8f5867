-- Keys in order, each with its place in the list that it comes from.
use Rattle.std.specs.Prelude.{◌≡◌, ◌==◌, ◌+◌, ℕ, ℤ, pos, Bool, suc, ◌<◌, List, [], ◌∷◌, length, slice_index_or, IsPermutation, Option, MatchOption, IsSorted}
use Rattle.std.specs.{Borrow.Bor, Cmp.Lexicographic.slice_cmp, List.list_any, Ordering.nat_cmp, Ordering.bool_cmp, Ordering.int_eq, Ordering.ordering_then}
use Rattle.std.specs.declared.cmp.Ordering.{Ordering, TheVariants.Equal}
use Rattle.fb_schema.specs.{declared.kinds.TypeField.TypeField, declared.flat.ObjectPart.ObjectPart, declared.rows.FieldRow.FieldRow, declared.rows.MemberRow.MemberRow, Rows.Field}
use Rattle.fb_schema.specs.Demands.{stands_below}

-- by key, and then by place
abbrev pub entry_cmp : {K : Type 0} → (K → K → Ordering) → K × ℕ → K × ℕ → Ordering
entry_cmp R a b = ordering_then (R a.0 b.0) (nat_cmp a.1 b.1)

-- each key with its place, from n on
abbrev pub numbered : {K : Type 0} → ℕ → List K → List (K × ℕ)
numbered n [] = []
numbered n (key ∷ keys) = (key, n) ∷ numbered (suc n) keys

-- the keys in order, each with its place
pub record IsOrderOf {K : Type 0} (R : K → K → Ordering) (keys : List K) (order : List (K × ℕ)) : Type 0 where
  pub same : IsPermutation (numbered 0 keys) order
  pub rises : IsSorted (entry_cmp R) order

-- a key like the one at k stands before it
pub record IsAgain {K : Type 0} (R : K → K → Ordering) (keys : List K) (k : ℕ) : Type 0 where
  pub earlier : ℕ
  pub before : earlier < k
  pub within : k < length keys
  pub alike : (d : K) → R (slice_index_or keys earlier d) (slice_index_or keys k d) ≡ Equal

-- the first place with a key like one before it
abbrev pub IsFirstAgain : {K : Type 0} → (K → K → Ordering) → List K → Option ℕ → Type 0
IsFirstAgain R keys first = MatchOption first ((k : ℕ) → IsAgain R keys k → ⊥) (λ k. IsAgain R keys k × ((j : ℕ) → j < k → IsAgain R keys j → ⊥))

-- names in memory by their bytes
abbrev pub name_cmp : Bor (List ℕ) → Bor (List ℕ) → Ordering
name_cmp a b = slice_cmp nat_cmp a.now b.now

-- the union without a value apart from the members, these by name
abbrev pub member_cmp : Bool × Bor (List ℕ) → Bool × Bor (List ℕ) → Ordering
member_cmp a b = ordering_then (bool_cmp a.0 b.0) (name_cmp a.1 b.1)

abbrev pub object_name : ObjectPart → Bor (List ℕ)
object_name o = o.name

abbrev pub field_name : FieldRow → Bor (List ℕ)
field_name f = f.name

abbrev pub field_slot : FieldRow → ℕ
field_slot f = f.slot

abbrev pub member_value : MemberRow → ℤ
member_value m = m.value

abbrev pub member_key : MemberRow → Bool × Bor (List ℕ)
member_key m = (int_eq m.value (pos 0), m.name)

-- the slots of the live type fields, in order
pub record AreTypeSlots (wanted : TypeField) (fields : List Field) (slots : List ℕ) : Type 0 where
  pub rises : IsSorted nat_cmp slots
  pub same : (slot : ℕ) → list_any (λ s. s + 2 == slot) slots ≡ stands_below wanted fields slot

-- a place of a key like this one, or no key is like it
abbrev pub IsPlaceOf : {K : Type 0} → (K → K → Ordering) → List K → K → Option ℕ → Type 0
IsPlaceOf {K} R keys key place = MatchOption place ((k : ℕ) (d : K) → k < length keys → R (slice_index_or keys k d) key ≡ Equal → ⊥)
    (λ k. (k < length keys) × ((d : K) → R (slice_index_or keys k d) key ≡ Equal))
