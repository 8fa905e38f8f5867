-- What is no union has no member.
use Rattle.std.proofs.Common.{◌≡◌, ℕ, pos, Bool, true, false, if◌then◌else◌, [], filter, find, slice_get, Option, Some, None, refl, ap}
use Rattle.std.specs.{Option.option_and_then, Ordering.int_eq}
use Rattle.fb_schema.specs.{Kinds.kind_of, Members.is_member_value, Members.member_of, Members.members_in, Rows.Enum, Rows.Member, Rows.Rows, Rows.is_some_union, Rows.is_union}

no_members : (e : Option Enum) → is_some_union e ≡ false → members_in e ≡ []
no_members None h = refl
no_members (Some e) h = go e.is_union h where
  go : (b : Bool) → b ≡ false → (if b then filter (λ m. is_member_value m.value) e.members else []) ≡ []
  go true h = absurd (let w : true ≡ false = h in cc)
  go false h = refl

pub no_kind_of_other : (rows : Rows) (n v : ℕ) → is_union rows n ≡ false → member_of rows n v ≡ None
unfolding member_of
no_kind_of_other rows n v h = ap (λ ms. option_and_then (λ (m : Member). kind_of rows m.ty) (find (λ m. int_eq m.value (pos v)) ms)) (no_members (slice_get rows.enums n) h)
