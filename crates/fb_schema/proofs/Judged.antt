-- Rows are judged by computing: the first level, in it the first owner, and in it the first place where a demand is
-- broken.
use Rattle.std.proofs.Common.{◌≡◌, ℕ, zero, suc, ◌<◌, Option, Some, None, refl, subst, arith, option_map}
use Rattle.std.proofs.lemmas.Option.{same_Some}
use Rattle.fb_schema.specs.{declared.fault.Code.Code, declared.fault.SchemaFault.SchemaFault, Rows.Rows, Demands.IsLegal, Demands.IsFirstIllegal, Demands.demands_at}
use Rattle.fb_schema.specs.Demands.{first_code, part_of}
use Rattle.fb_schema.proofs.DemandLaws.{IsClear, levels_end, owners_end, places_end, past_levels, past_owners, past_places, is_legal, first_illegal}

-- what was found before, or what is found at n
unfoldable pub or_at : {A : Type 0} → Option (A × ℕ) → ℕ → Option A → Option (A × ℕ)
or_at (Some x) n found = Some x
or_at None n None = None
or_at None n (Some a) = Some (a, n)

-- the first of the numbers below n at which something is found, and what that is
unfoldable pub first_below : {A : Type 0} → (ℕ → Option A) → ℕ → Option (A × ℕ)
first_below f zero = None
first_below f (suc n) = or_at (first_below f n) n (f n)

module _ {A : Type 0} (f : ℕ → Option A) where
  -- nothing is found below n
  pub none_below : (n : ℕ) → first_below f n ≡ None → (m : ℕ) → m < n → f m ≡ None
  unfolding first_below or_at
  none_below zero h m lt = absurd (omega arith)
  none_below (suc n) h m lt = grind (arith, h, none_below n)

  -- this is found, and nothing before it
  some_below : (n : ℕ) (y : A × ℕ) → first_below f n ≡ Some y → (f y.1 ≡ Some y.0) × ((m : ℕ) → m < y.1 → f m ≡ None)
  unfolding first_below or_at
  some_below zero y h = absurd (cc)
  some_below (suc n) y h =
      let first = some_below n y in
      let none = none_below n in
      (grind (arith, h, first), λ m lt. grind (arith, h, first, none, lt))

-- the first broken demand of an owner, of a level, and of all
unfoldable pub in_owner : Rows → ℕ → ℕ → Option (Code × ℕ)
in_owner rows level n = first_below (λ place. first_code (demands_at rows level n place)) (places_end rows level n)

unfoldable pub in_level : Rows → ℕ → Option ((Code × ℕ) × ℕ)
in_level rows level = first_below (in_owner rows level) (owners_end rows level)

unfoldable pub in_rows : Rows → Option (((Code × ℕ) × ℕ) × ℕ)
in_rows rows = first_below (in_level rows) levels_end

-- the fault that this is
abbrev fault_of : ((Code × ℕ) × ℕ) × ℕ → SchemaFault
fault_of x = record { code = x.0.0.0; owner = x.0.1; part = part_of x.0.0.1 }

-- the first fault of rows, none where they are legal
unfoldable pub first_fault : Rows → Option SchemaFault
first_fault rows = option_map fault_of (in_rows rows)

module _ (rows : Rows) where
  owner_clear : (level n : ℕ) → in_owner rows level n ≡ None → (place : ℕ) → IsClear rows level n place
  unfolding in_owner
  owner_clear level n h place = grind (arith, past_places rows level n place, none_below (λ p. first_code (demands_at rows level n p)) (places_end rows level n) h place)

  level_clear : (level : ℕ) → in_level rows level ≡ None → (n place : ℕ) → IsClear rows level n place
  unfolding in_level
  level_clear level h n place = grind (arith, past_owners rows level n place, owner_clear level n, none_below (in_owner rows level) (owners_end rows level) h n)

  all_clear : in_rows rows ≡ None → (level n place : ℕ) → IsClear rows level n place
  unfolding in_rows
  all_clear h level n place = grind (arith, past_levels rows level n place, level_clear level, none_below (in_level rows) levels_end h level)

  first_in : (x : ((Code × ℕ) × ℕ) × ℕ) → in_rows rows ≡ Some x → IsFirstIllegal rows (fault_of x)
  unfolding in_rows in_level in_owner
  first_in x h =
      let level = some_below (in_level rows) levels_end x h in
      let owner = some_below (in_owner rows x.1) (owners_end rows x.1) x.0 level.0 in
      let place = some_below (λ p. first_code (demands_at rows x.1 x.0.1 p)) (places_end rows x.1 x.0.1) x.0.0 owner.0 in
      first_illegal rows x.1 x.0.1 x.0.0.1 x.0.0.0
      (record { at = λ l m p lt. level_clear l (level.1 l lt) m p })
      (record { at = λ m p lt. owner_clear x.1 m (owner.1 m lt) p })
      (record { at = λ p lt. place.1 p lt })
      place.0

  one_fault : (x : Option (((Code × ℕ) × ℕ) × ℕ)) (f : SchemaFault) → in_rows rows ≡ x → option_map fault_of x ≡ Some f → IsFirstIllegal rows f
  one_fault None f e h = absurd (cc)
  one_fault (Some x) f e h = subst (IsFirstIllegal rows) (same_Some _ _ h) (first_in x e)

-- rows without a fault are legal, and a fault is the first
pub legal : {rows : Rows} → first_fault rows ≡ None → IsLegal rows
unfolding first_fault
legal {rows} h = is_legal rows (all_clear rows (grind (arith, h)))

pub refused : {rows : Rows} {f : SchemaFault} → first_fault rows ≡ Some f → IsFirstIllegal rows f
unfolding first_fault
refused {rows} {f} h = one_fault rows (in_rows rows) f refl h

-- rows of which no fault is the first are legal
pub legal_without_first : (rows : Rows) → ((f : SchemaFault) → IsFirstIllegal rows f → ⊥) → IsLegal rows
legal_without_first rows none = go (first_fault rows) refl where
  go : (o : Option SchemaFault) → first_fault rows ≡ o → IsLegal rows
  go None e = legal e
  go (Some f) e = absurd (none f (refused e))
