-- Which steps lead on from what is here, and to what kind.
use Rattle.std.proofs.Common.{arith, ◌≡◌, ℕ, ◌+◌, ◌==◌, nat_lt, Bool, if◌then◌else◌, IsTrue, List, subst, refl, Option, Some, None, is_some, inl, inr}
use Rattle.std.specs.Prelude.{option_map}
use Rattle.fb_schema.specs.declared.kinds.Kind.TheVariants.{Scalar as AScalar, Text, Struct, Table, Union, Scalars, Texts, Structs, Tables, Unions}
use Rattle.fb_schema.specs.{Rows.Rows, Live.Live, Members.member_of, Parts.part_at, declared.kinds.Kind.Kind, declared.views.PartView.PartView}
use Rattle.fb_access.specs.declared.{step.Step.Step, step.Step.TheVariants.Field, step.Step.TheVariants.Element, step.Step.TheVariants.Member, spot.Spot.Spot}
use Rattle.fb_access.specs.declared.spot.Spot.TheVariants.{AtTable, AtStruct, AtScalars, AtStructs, AtScalarArray, AtStructArray, AtTexts, AtTables, AtUnions, AtUnion, AtAbsent, AtNoElement, AtOtherMember}
use Rattle.fb_access.specs.{Fitting.numbered, Fitting.next_kind, Denotes.next_spot, Denotes.Leads, Denotes.allows, Here.IsHere, Here.MayBeHere, Here.IsOfKind, Here.KindsGoOn}
use Rattle.fb_access.specs.Spots.{kind_at, present_spot, absent_spot, field_spot, part_spot, spot_of_field, spot_of_part, if_element, spot_of_element, member_spot, spot_of_member}

-- a step leads on exactly where it is allowed
pub leads_where_allowed : (b : List ℕ) (S : Rows) (p : Spot) (s : Step) → is_some (next_spot b S p s) ≡ allows S p s
unfolding next_spot spot_of_element next_kind
leads_where_allowed b S p s = grind arith

pub allowed_leads : (b : List ℕ) (S : Rows) (p : Spot) (s : Step) → IsTrue (allows S p s) → next_spot b S p s ≡ None → ⊥
allowed_leads b S p s h e = grind (arith, leads_where_allowed)

module _ (b : List ℕ) (t o : ℕ) where
  pub present_kind : (p : ℕ) (kind : Kind) → IsHere (present_spot b t o p kind) kind
  unfolding present_spot
  present_kind p kind = grind arith

-- a field is of its kind, or absent
pub field_kind : (b : List ℕ) (t : ℕ) (f : Live) → MayBeHere (field_spot b t f) f.kind
unfolding present_spot absent_spot
field_kind b t f = grind arith

-- a field of a struct is of its kind
part_here : (p n : ℕ) (kind : Kind) → IsOfKind (spot_of_part p n kind) kind
unfolding spot_of_part
part_here p n kind = grind arith

may_be_of : (q : Spot) (kind : Kind) → MayBeHere q kind → IsOfKind q kind
may_be_of q kind h = grind arith

along : (q r : Spot) (kind onward : Kind) → IsOfKind q kind → Some q ≡ Some r → Some kind ≡ Some onward → IsOfKind r onward
along q r kind onward h e i = let e1 : q ≡ r = cc in let i1 : kind ≡ onward = cc in subst (λ k. IsOfKind r k) i1 (subst (λ x. IsOfKind x kind) e1 h)

-- a member of a union is of its kind
member_here : (b : List ℕ) (p : ℕ) (kind : Kind) → IsOfKind (member_spot b p kind) kind
unfolding member_spot
member_here b p kind = grind arith

-- one of two spots, of which the other has no kind
chosen : (t : Bool) (x o : Spot) (kind : Kind) → IsOfKind x kind → kind_at o ≡ None → IsOfKind (if t then x else o) kind
chosen t x o kind h n = grind arith

module _ (b : List ℕ) (S : Rows) where
  -- from what is here
  numbered_kind : (t : ℕ) (o : Option Live) (q : Spot) (onward : Kind) → option_map (λ f. f.kind) o ≡ Some onward → option_map (field_spot b t) o ≡ Some q → IsOfKind q onward
  numbered_kind t None q onward e l = absurd cc
  numbered_kind t (Some f) q onward e l = along (field_spot b t f) q f.kind onward (may_be_of (field_spot b t f) f.kind (field_kind b t f)) l e

  placed_kind : (p : ℕ) (o : Option PartView) (q : Spot) (onward : Kind) → option_map (λ (part : PartView). part.kind) o ≡ Some onward → option_map (part_spot p) o ≡ Some q → IsOfKind q onward
  placed_kind p None q onward e l = absurd cc
  placed_kind p (Some part) q onward e l = along (part_spot p part) q part.kind onward (part_here (p + part.place) part.count part.kind) l e

  field_kinds : (p : Spot) (n : ℕ) (q : Spot) (kind onward : Kind) → IsHere p kind → next_kind S kind (Field n) ≡ Some onward → spot_of_field b S p n ≡ Some q → IsOfKind q onward
  unfolding next_kind
  field_kinds (AtTable k t) n q kind onward h e l = let i : kind ≡ Table k = cc in numbered_kind t (numbered S k n) q onward (rw i at e) l
  field_kinds (AtStruct k p) n q kind onward h e l = let i : kind ≡ Struct k = cc in placed_kind p (part_at S k n) q onward (rw i at e) l
  field_kinds p n q kind onward h e l = absurd cc

  -- an element is of its kind, or there is none
  element_kind_at : (n j : ℕ) (x q : Spot) (kind onward : Kind) → IsHere x kind → Some (if_element n j x) ≡ Some q → Some kind ≡ Some onward → IsOfKind q onward
  element_kind_at n j x q kind onward here l e = along (if_element n j x) q kind onward (chosen (nat_lt j n) x AtNoElement kind (inl here) refl) l e

  element_kinds : (p : Spot) (j : ℕ) (q : Spot) (kind onward : Kind) → IsHere p kind → next_kind S kind (Element j) ≡ Some onward → spot_of_element b S p j ≡ Some q → IsOfKind q onward
  unfolding next_kind spot_of_element
  element_kinds (AtScalars s c) j q kind onward h e l = let i : kind ≡ Scalars s = cc in element_kind_at _ j _ q (AScalar s) onward refl l (rw i at e)
  element_kinds (AtStructs k c) j q kind onward h e l = let i : kind ≡ Structs k = cc in element_kind_at _ j _ q (Struct k) onward refl l (rw i at e)
  element_kinds (AtScalarArray s m p) j q kind onward h e l = let i : kind ≡ Scalars s = cc in element_kind_at _ j _ q (AScalar s) onward refl l (rw i at e)
  element_kinds (AtStructArray k m p) j q kind onward h e l = let i : kind ≡ Structs k = cc in element_kind_at _ j _ q (Struct k) onward refl l (rw i at e)
  element_kinds (AtTexts c) j q kind onward h e l = let i : kind ≡ Texts = cc in element_kind_at _ j _ q Text onward refl l (rw i at e)
  element_kinds (AtTables k c) j q kind onward h e l = let i : kind ≡ Tables k = cc in element_kind_at _ j _ q (Table k) onward refl l (rw i at e)
  element_kinds (AtUnions u t c) j q kind onward h e l = let i : kind ≡ Unions u = cc in element_kind_at _ j _ q (Union u) onward refl l (rw i at e)
  element_kinds p j q kind onward h e l = absurd cc

  -- a member is of its kind, or another is there
  member_kind_at : (y m p : ℕ) (o : Option Kind) (q : Spot) (onward : Kind) → o ≡ Some onward → option_map (λ kind. if y == m then member_spot b p kind else AtOtherMember) o ≡ Some q → IsOfKind q onward
  member_kind_at y m p None q onward e l = absurd cc
  member_kind_at y m p (Some kind) q onward e l = along (if y == m then member_spot b p kind else AtOtherMember) q kind onward (chosen (y == m) (member_spot b p kind) AtOtherMember kind (member_here b p kind) refl) l e

  member_kinds : (p : Spot) (m : ℕ) (q : Spot) (kind onward : Kind) → IsHere p kind → next_kind S kind (Member m) ≡ Some onward → spot_of_member b S p m ≡ Some q → IsOfKind q onward
  unfolding next_kind
  member_kinds (AtUnion u y p) m q kind onward h e l = let i : kind ≡ Union u = cc in member_kind_at y m p (member_of S u m) q onward (rw i at e) l
  member_kinds p m q kind onward h e l = absurd cc

  own_kinds : (p : Spot) (s : Step) (q : Spot) (kind onward : Kind) → IsHere p kind → next_kind S kind s ≡ Some onward → Leads b S p s q → IsOfKind q onward
  unfolding next_spot
  own_kinds AtAbsent s q kind onward h e l = absurd cc
  own_kinds AtNoElement s q kind onward h e l = absurd cc
  own_kinds AtOtherMember s q kind onward h e l = absurd cc
  own_kinds p (Field n) q kind onward h e l = field_kinds p n q kind onward h e l
  own_kinds p (Element j) q kind onward h e l = element_kinds p j q kind onward h e l
  own_kinds p (Member m) q kind onward h e l = member_kinds p m q kind onward h e l

  -- where nothing is, every step stays
  pub stays : (p : Spot) (s : Step) → kind_at p ≡ None → Leads b S p s p
  unfolding next_spot
  stays p s h = grind arith

  pub kinds_go_on : (p : Spot) (s : Step) (q : Spot) → Leads b S p s q → KindsGoOn S p s q
  kinds_go_on p s q l kind onward (inl h) e = own_kinds p s q kind onward h e l
  kinds_go_on p s q l kind onward (inr h) e = grind (arith, stays)

-- a step that fits the kind of what is here is allowed
pub kind_allows : (S : Rows) (p : Spot) (s : Step) (kind onward : Kind) → IsOfKind p kind → next_kind S kind s ≡ Some onward → IsTrue (allows S p s)
kind_allows S p s kind onward h e = grind arith
