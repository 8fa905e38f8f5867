-- The kind of a union's member is told from where it leads.
use Rattle.std.proofs.Common.{◌≡◌, ℕ, suc, ℤ, pos, negsuc, Bool, true, false, ◌&&◌, List, [], ◌∷◌, slice_get, filter, Option, Some, None, refl, sym, ◌∙◌, ap, find, arith, option_and_then, int_eq, inl, inr}
use Rattle.fb_schema.proofs.{KindWords.Kind, KindWords.Shape, KindWords.One, KindWords.OfText, KindWords.OfObject, Numbers.both_true, DemandLaws.clear_line, FindLemmas.find_filter}
use Rattle.fb_schema.proofs.{UnionLemmas.real_not_zero, LegalLemmas.legal_clear, MemberLemmas.is_true_or_false}
use Rattle.fb_schema.specs.{Demands.IsLegal, Demands.first_code, Demands.members_asked, Demands.member_demands, Demands.demands_of_member, Demands.is_for_member, Kinds.kind_of}
use Rattle.fb_schema.specs.{Kinds.shape_of, Kinds.shape_kind, Rows.Rows, Rows.Member, Rows.Enum, Members.is_member_value, Members.member_of, Members.members_in, Targets.target_of}
use Rattle.fb_schema.specs.Targets.{kind_to, kind_among}

-- what is found passes the test and stands in the list
found_with : {X : Type 0} (p : X → Bool) (P : X → Type 0) (xs : List X) → ((j : ℕ) (x : X) → slice_get xs j ≡ Some x → p x ≡ true → P x) → (m : X) → find p xs ≡ Some m → P m
found_with p P [] h m e = absurd (let w : None ≡ Some m = e in cc)
found_with p P (x ∷ xs) h m e = grind (arith, e, h 0 x, found_with p P xs (λ j. h (suc j)) m)

shape_told : (rows : Rows) (index : ℤ) (s : Option Shape) → is_for_member s ≡ true → kind_to (target_of rows (shape_kind rows index s)) ≡ shape_kind rows index s
shape_told rows index None h = refl
shape_told rows index (Some (One OfText)) h = refl
shape_told rows (negsuc k) (Some (One OfObject)) h = refl
shape_told rows (pos k) (Some (One OfObject)) h = grind arith
shape_told rows index s h = absurd (let w : false ≡ true = h in cc)

type_told : (rows : Rows) (m : Member) → is_for_member (shape_of m.ty) ≡ true → kind_to (target_of rows (kind_of rows m.ty)) ≡ kind_of rows m.ty
unfolding kind_of
type_told rows m h = shape_told rows (m.ty).index (shape_of m.ty) h

-- of members that break no demand, the kind of the one with a value is told by its target
pub told_again : (rows : Rows) (members : List Member) → ((q : ℕ) → first_code (members_asked rows members q) ≡ None) → (value : ℕ) → kind_to (target_of rows (kind_among rows members value)) ≡ kind_among rows members value
told_again rows members clear value =
    ap (λ m. kind_to (target_of rows (option_and_then (λ (m : Member). kind_of rows m.ty) m))) same ∙ go (find test members) refl ∙ sym (ap (option_and_then (λ (m : Member). kind_of rows m.ty)) same) where
      test : Member → Bool
      test y = is_member_value y.value && int_eq y.value (pos value)

      same : find (λ m. int_eq m.value (pos value)) (filter (λ m. is_member_value m.value) members) ≡ find test members
      same = find_filter (λ m. int_eq m.value (pos value)) (λ m. is_member_value m.value) members

      holds : (j : ℕ) (m : Member) → slice_get members j ≡ Some m → test m ≡ true → is_for_member (shape_of m.ty) ≡ true
      holds j m at t =
          let c = ap first_code (sym (ap (demands_of_member rows members j) at)) ∙ clear j in
          let real = real_not_zero m.value (both_true (is_member_value m.value) (int_eq m.value (pos value)) t).0 in
          let line = clear_line (member_demands rows m _ _) c 2 _ refl in
          grind (arith, real, line)

      go : (found : Option Member) → find test members ≡ found → kind_to (target_of rows (option_and_then (λ (m : Member). kind_of rows m.ty) found)) ≡ option_and_then (λ (m : Member). kind_of rows m.ty) found
      go None e = refl
      go (Some m) e = type_told rows m (found_with test (λ m. is_for_member (shape_of m.ty) ≡ true) members holds m e)

abbrev kind_in : Rows → ℕ → Option Enum → Option Kind
kind_in rows value e = option_and_then (λ m. kind_of rows m.ty) (find (λ m. int_eq m.value (pos value)) (members_in e))

told_in : (rows : Rows) → IsLegal rows → (n value : ℕ) (e : Option Enum) → slice_get rows.enums n ≡ e → kind_to (target_of rows (kind_in rows value e)) ≡ kind_in rows value e
told_in rows legal n value None at = refl
told_in rows legal n value (Some e) at = elim (is_true_or_false e.is_union) [
  | inl union ↦ rw union (told_again rows e.members (λ q. rw (at, union) at (legal_clear rows legal 1 n (suc q))) value)
  | inr other ↦ rw other refl
]

-- the same of legal rows
pub told_of : (rows : Rows) → IsLegal rows → (n value : ℕ) → kind_to (target_of rows (member_of rows n value)) ≡ member_of rows n value
unfolding member_of
told_of rows legal n value = told_in rows legal n value (slice_get rows.enums n) refl
