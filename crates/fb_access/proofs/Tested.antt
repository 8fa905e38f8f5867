-- Spots of a good buffer pass the tests of those that nobody vouches for.
use Rattle.std.proofs.Common.{◌≡◌, ◌↔◌, ℕ, ◌+◌, ◌*◌, ◌≤◌, ◌<◌, List, length, arith, sym, IsTrue, Bool, false, Some, refl}
use Rattle.std.specs.Prelude.{IfSome, IsErrAnd, MatchResult, Result, Ok, Err}
use Rattle.fb_schema.specs.{Rows.Rows, Kinds.scalar_size, Kinds.struct_size, Live.Live, Members.member_of, Served.IsServed, declared.kinds.Kind.Kind, declared.kinds.Scalar.Scalar}
use Rattle.fb_rules.specs.{Places.target, Places.field_place, WellFormed.base, Fields.lead_of, declared.start.Start.Start}
use Rattle.fb_access.specs.declared.{step.Step.Step, spot.Spot.Spot, spot.Spot.TheVariants.AtTable, spot.Spot.TheVariants.AtStruct, spot.Spot.TheVariants.AtScalarArray, spot.Spot.TheVariants.AtStructArray, spot.Spot.TheVariants.AtUnion, tested_field.Changed.Changed}
use Rattle.fb_access.specs.{Fitting.numbered, Denotes.Leads, Denotes.root_spot, Held.IsSpot, Held.IsTableAt, Held.HasVtable, Held.IsLed, Held.IsReadable, Held.IsStructAt, Tested.IsTested, Tested.IsOther}
use Rattle.fb_access.proofs.{FieldSpots.field_readable, Staying.step_stays, TableFields.table_has_vtable, Walks.root_placed}

-- where it is answered that the bytes changed
pub changed : {A : Type 0} (r : Result A Changed) (e : Changed) (P : A → Type 0) (Q : Type 0) → IsErrAnd r (λ x. x ≡ e) → Q → MatchResult r P (λ x. Q)
changed (Ok a) e P Q h q = absurd h
changed (Err x) e P Q h q = q

-- what is there where a test found nothing
pub untrue : (t : Bool) (P : Type 0) → (IsTrue t ↔ P) → t ≡ false → P → ⊥
untrue t P h e p = grind arith

-- an element of an array begins before its end
pub begins_before : (n j size at most : ℕ) → j < n → at + n * size ≤ most → at + size * j ≤ most
begins_before n j size at most lt h = grind arith

module _ (b : List ℕ) (S : Rows) where
  pub spot_passes : (q : Spot) → IsSpot b S q → IsTested b S q
  unfolding IsSpot IsTested
  spot_passes (AtTable k t) h = (h.object, (table_has_vtable b S k t h).within)
  spot_passes q h = grind arith

  -- a step to a spot that doesn't
  pub step_fails : (p : Spot) (s : Step) (q : Spot) → IsServed S → Leads b S p s q → (IsTested b S q → ⊥) → IsSpot b S p → ⊥
  step_fails p s q served l fails h = fails (spot_passes q (step_stays b S p s q served h l))

  -- what is tested of arrays
  pub scalars_tested : (q : Spot) (s : Scalar) (n p : ℕ) → q ≡ AtScalarArray s n p → IsTested b S q → p + n * scalar_size s ≤ length b
  unfolding IsTested
  scalars_tested q s n p e h = rw e at h

  pub structs_tested : (q : Spot) (k n p : ℕ) → q ≡ AtStructArray k n p → IsTested b S q → p + n * struct_size S k ≤ length b
  unfolding IsTested
  structs_tested q k n p e h = (rw e at h).within

  pub struct_tested : (q : Spot) (k p : ℕ) → q ≡ AtStruct k p → IsTested b S q → IsStructAt b S k p
  unfolding IsTested
  struct_tested q k p e h = rw e at h

  -- a union whose offset word can't be followed
  pub member_fails : (q : Spot) (e y p m : ℕ) (member : Kind) → q ≡ AtUnion e y p → y ≡ m → member_of S e m ≡ Some member → (IsLed b S p (lead_of S (Some member)) → ⊥) → IsSpot b S q → ⊥
  unfolding IsSpot
  member_fails q e y p m member is same found fails h = grind arith

  -- a field of a table that can't be followed
  pub field_fails : (k t n : ℕ) (f : Live) → IsServed S → numbered S k n ≡ Some f → (HasVtable b t → IfSome (field_place b t f.slot) (λ p. IsReadable b t f.slot p f.kind) → ⊥) → IsTableAt b S k t → ⊥
  field_fails k t n f served e fails h = fails (table_has_vtable b S k t h) (field_readable b S k t n f served h e)

pub root_fails : (b : List ℕ) (S : Rows) (start : Start) (root : ℕ) → (IsTested b S (root_spot b start root) → ⊥) → IsOther b S start root
root_fails b S start root fails v bytes_are rows_are start_is root_is h =
    fails (spot_passes b S (root_spot b start root) (rw (sym bytes_are, sym rows_are, sym start_is, sym root_is) (root_placed v v.root (target v.bytes (base v.start)) h refl refl).spot))
