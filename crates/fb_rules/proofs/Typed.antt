-- The type fields of unions were checked before the unions.
use Rattle.std.proofs.Common.{◌≡◌, ℕ, zero, suc, ◌-◌, ◌<◌, List, [], ◌∷◌, take, refl, ◌∙◌, arith, Some}
use Rattle.std.specs.Prelude.{slice_get}
use Rattle.fb_schema.specs.declared.kinds.{Kind.Kind, Kind.TheVariants.Scalar, Kind.TheVariants.Union, Kind.TheVariants.Scalars, Kind.TheVariants.Unions, Scalar.TheVariants.UType}
use Rattle.fb_schema.specs.{Rows.Rows, Live.Live, Served.HasTypeField, Served.IsTyped as IsTypedIn}
use Rattle.fb_rules.specs.{declared.checks.Checks.Checks, Places.field_place, Tree.Kids, Tree.kid, Unfolds.FieldsUnfold, OffsetRows.IsTyped, Fields.IsPresent, Fields.IsField}
use Rattle.fb_rules.specs.Fields.{type_place}

pub get_take : {A : Type 0} (xs : List A) (m n : ℕ) → m < n → slice_get (take n xs) m ≡ slice_get xs m
get_take xs m zero h = absurd (omega arith)
get_take [] m (suc n) h = refl
get_take (x ∷ xs) zero (suc n) h = refl
get_take (x ∷ xs) (suc m) (suc n) h = get_take xs m n (omega arith)

module _ (c : Checks) (b : List ℕ) (S : Rows) (t : ℕ) where
  -- a field that is passed holds
  field_met : (kids : Kids) (fs : List Live) (j : ℕ) (h : Live) → FieldsUnfold kids c b S t fs → slice_get fs j ≡ Some h → IsField c b S t h
  unfolding FieldsUnfold
  field_met (kid ys kids) (f ∷ fs) zero h u e = let same : f ≡ h = cc in rw same at u.0
  field_met (kid ys kids) (f ∷ fs) (suc j) h u e = field_met kids fs j h u.2 e
  field_met kids fs j h u e = absurd (grind arith)

  -- a field that is present holds where it is
  pub present : (f : Live) (p : ℕ) (kind : Kind) → IsField c b S t f → field_place b t f.slot ≡ Some p → f.kind ≡ kind → IsPresent c b S t f p kind
  unfolding IsField
  present f p kind h e k = rw k at (rw e at h)

  -- type fields that hold
  module _ (fs : List Live) (i o : ℕ) (met : (kind : Kind) (h : HasTypeField fs i o kind) → IsField c b S t h.field) where
    -- the type field that legal rows give stands where the union's slot says
    types_at : (kind : Kind) (h : HasTypeField fs i o kind) (q : ℕ) → type_place b t o ≡ Some q → IsPresent c b S t h.field q kind
    types_at kind h q e = let s : o - 2 ≡ (h.field).slot = omega (arith, h.below) in present h.field q kind (met kind h) (rw s at e) h.kind_is

    pub typed_by : (kind : Kind) → IsTypedIn fs i o kind → IsTyped b t o kind
    typed_by (Union e) h = record {
      slot = omega (arith, h.below);
      within = λ q e. omega (arith, h.size_is, (types_at (Scalar UType) h q e).value.within);
    }
    typed_by (Unions e) h = record {
      slot = omega (arith, h.below);
      offset = λ q e. (types_at (Scalars UType) h q e).offset.within;
      count = λ q e. (types_at (Scalars UType) h q e).vector.count;
      types = λ q e. let v = (types_at (Scalars UType) h q e).vector.within in let one = h.size_is in omega (arith, rw one at v);
    }
    typed_by kind h = tt

  -- those of fields that are passed
  pub typed_before : (kids : Kids) (fs : List Live) (i o : ℕ) (u : FieldsUnfold kids c b S t (take i fs)) (kind : Kind) → IsTypedIn fs i o kind → IsTyped b t o kind
  typed_before kids fs i o u kind h = typed_by fs i o (λ kind h. field_met kids (take i fs) h.place h.field u (get_take fs h.place i h.lower ∙ h.found)) kind h
