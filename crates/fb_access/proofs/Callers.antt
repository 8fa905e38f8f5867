-- For who reads by a schema that they know: which steps are allowed, and what is here after them.
use Rattle.std.proofs.Common.{◌≡◌, ℕ, ◌<◌, nat_lt, if◌then◌else◌, IsTrue, List, [], ◌∷◌, sym, ◌∙◌, ap, subst, arith, Option, Some, None, inl}
use Rattle.std.specs.Prelude.{option_map}
use Rattle.std.proofs.lemmas.Bool.Decides.{nat_tests}
use Rattle.fb_schema.specs.{Rows.Rows, Live.Live, declared.kinds.Kind.Kind, declared.kinds.Kind.TheVariants.Table}
use Rattle.fb_access.specs.declared.{step.Step.Step, step.Step.TheVariants.Field, step.Step.TheVariants.Element, spot.Spot.Spot}
use Rattle.fb_access.specs.declared.spot.Spot.TheVariants.{AtScalars, AtStructs, AtScalarArray, AtStructArray, AtTexts, AtTables, AtUnions, AtNoElement}
use Rattle.fb_access.specs.{Fitting.numbered, Fitting.element_kind, Fitting.next_kind, Spots.field_spot, Spots.spot_of_element, Here.IsHere, Here.MayBeHere, Here.Shows}
use Rattle.fb_access.specs.Denotes.{next_spot, Leads, allows, Reaches, Shown, vector, value}
use Rattle.fb_access.proofs.{StepKinds.kind_allows, StepKinds.field_kind, Sure.table_here}

-- what is here allows the steps of its kind
pub here_allows : (S : Rows) (p : Spot) (s : Step) (kind onward : Kind) → IsHere p kind → next_kind S kind s ≡ Some onward → IsTrue (allows S p s)
here_allows S p s kind onward h e = kind_allows S p s kind onward (inl h) e

module _ (b : List ℕ) (S : Rows) where
  -- a field of a table that is here is here, or absent
  pub field_may_be_here : (p : Spot) (k n : ℕ) (onward : Kind) (q : Spot) → IsHere p (Table k) → next_kind S (Table k) (Field n) ≡ Some onward → Leads b S p (Field n) q → MayBeHere q onward
  unfolding next_kind next_spot
  field_may_be_here p k n onward q h e l =
      let t = table_here p k h in
      numbered_may t.0 (numbered S k n) q onward e (subst (λ x. next_spot b S x (Field n) ≡ Some q) t.1 l) where
        numbered_may : (t : ℕ) (o : Option Live) (q : Spot) (onward : Kind) → option_map (λ f. f.kind) o ≡ Some onward → option_map (field_spot b t) o ≡ Some q → MayBeHere q onward
        numbered_may t None q onward e l = absurd cc
        numbered_may t (Some f) q onward e l =
            let i : f.kind ≡ onward = cc in
            let j : field_spot b t f ≡ q = cc in
            subst (λ x. MayBeHere x onward) j (subst (MayBeHere (field_spot b t f)) i (field_kind b t f))

  if_below : (j n : ℕ) (spot q : Spot) (kind onward : Kind) → IsHere spot kind → Some kind ≡ Some onward → j < n → Some (if nat_lt j n then spot else AtNoElement) ≡ Some q → IsHere q onward
  if_below j n spot q kind onward h e l i = grind (arith, nat_tests)

  -- an element below the count of a vector that is here is here
  pub element_is_here : (p : Spot) (j n : ℕ) (kind onward : Kind) (q : Spot) → IsHere p kind → element_kind kind ≡ Some onward → value b S p ≡ vector n → j < n → Leads b S p (Element j) q → IsHere q onward
  unfolding next_spot spot_of_element value
  element_is_here (AtScalars s c) j n kind onward q h e v l d = grind (arith, nat_tests)
  element_is_here (AtStructs k c) j n kind onward q h e v l d = grind (arith, nat_tests)
  element_is_here (AtScalarArray s m p) j n kind onward q h e v l d = grind (arith, nat_tests)
  element_is_here (AtStructArray k m p) j n kind onward q h e v l d = grind (arith, nat_tests)
  element_is_here (AtTexts c) j n kind onward q h e v l d = grind (arith, nat_tests)
  element_is_here (AtTables k c) j n kind onward q h e v l d = grind (arith, nat_tests)
  element_is_here (AtUnions u t c) j n kind onward q h e v l d = grind (arith, nat_tests)
  element_is_here p j n kind onward q h e v l d = absurd cc

  -- a path shows one value
  reaches_one : (p : Spot) (steps : List Step) (q r : Spot) → Reaches b S p steps q → Reaches b S p steps r → q ≡ r
  reaches_one p [] q r h i = grind arith
  reaches_one p (s ∷ steps) q r h i = grind (arith, reaches_one h.0 steps q r)

  pub shows_one : (p : Spot) (steps : List Step) (x y : Shown) → Shows b S p steps x → Shows b S p steps y → x ≡ y
  shows_one p steps x y h i = h.2 ∙ ap (value b S) (reaches_one p steps h.0 i.0 h.1 i.1) ∙ sym i.2
