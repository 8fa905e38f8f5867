-- No member of a union has a value that no byte is.
use Rattle.std.proofs.Common.{◌≡◌, ℕ, ◌≤◌, ℤ, pos, Bool, true, false, ◌&&◌, List, [], ◌∷◌, filter, Option, Some, None, ap, ◌∙◌, arith, find, int_eq, option_and_then, if◌then◌else◌, refl}
use Rattle.std.proofs.lemmas.Bool.Decides.{nat_tests}
use Rattle.std.specs.Cmp.{signed_Decides}
use Rattle.std.specs.Prelude.{slice_get}
use Rattle.fb_schema.specs.{Rows.Rows, Rows.Member, Rows.Enum, Kinds.kind_of, Members.is_member_value, Members.members_in, Members.member_of}
use Rattle.fb_schema.proofs.FindLemmas.{find_filter}

module _ (v : ℕ) (large : 256 ≤ v) where
  not_large : is_member_value (pos v) ≡ false
  not_large = grind (arith, nat_tests, large)

  not_both : (z : ℤ) → (x : Bool) → int_eq z (pos v) ≡ x → (is_member_value z && x) ≡ false
  not_both z true is = let at = (signed_Decides z (pos v)).0 is in let none : is_member_value z ≡ false = ap is_member_value at ∙ not_large in grind (arith, none)
  not_both z false is = grind arith

  none_at : (ms : List Member) → find (λ (m : Member). is_member_value m.value && int_eq m.value (pos v)) ms ≡ None
  none_at [] = refl
  none_at (m ∷ ms) = let no = not_both m.value (int_eq m.value (pos v)) refl in rw no (none_at ms)

  none_among : (ms : List Member) → find (λ (m : Member). int_eq m.value (pos v)) (filter (λ (m : Member). is_member_value m.value) ms) ≡ None
  none_among ms = find_filter (λ (m : Member). int_eq m.value (pos v)) (λ (m : Member). is_member_value m.value) ms ∙ none_at ms

  none_in : (S : Rows) (o : Option Enum) → option_and_then (λ (m : Member). kind_of S m.ty) (find (λ (m : Member). int_eq m.value (pos v)) (members_in o)) ≡ None
  none_in S None = refl
  none_in S (Some e) = by e.is_union refl
    where
      by : (x : Bool) → e.is_union ≡ x → option_and_then (λ (m : Member). kind_of S m.ty) (find (λ (m : Member). int_eq m.value (pos v)) (if x then filter (λ (m : Member). is_member_value m.value) e.members else [])) ≡ None
      by true is = ap (option_and_then (λ (m : Member). kind_of S m.ty)) (none_among e.members)
      by false is = refl

  pub no_such_member : (S : Rows) (e : ℕ) → member_of S e v ≡ None
  unfolding member_of
  no_such_member S e = none_in S (slice_get S.enums e)
