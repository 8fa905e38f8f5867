-- What is answered where values are read in bytes that aren't checked: those of a buffer that was good before.
use Rattle.std.specs.Prelude.{◌≡◌, ℕ, ◌+◌, ◌<◌, ◌≤◌, ◌^◌, List, length, slice_index_or, None, IsSomeAnd}
use Rattle.fb_bfbs.specs.declared.loading.Loaded.{Loaded}
use Rattle.fb_rules.specs.declared.{fault.Report.Report, start.Start.Start}
use Rattle.fb_schema.specs.Rows.{Rows}
use Rattle.fb_access.specs.Tested.{IsOther}
use Rattle.fbcheck_calls.specs.{Answered.IsChecked, Asked.AreKnown, Asked.root_asked, Asked.start_asked, Bases.Based, Steps.AllFit, Steps.IsFirstMisfit, Values.IsValueOf}
use Rattle.fbcheck_calls.specs.declared.{outcome.Outcome.Outcome, held.Held.Held, held.Held.TheVariants.Schema, held.Held.TheVariants.Room, options.Options.Options}
use Rattle.fbcheck_calls.specs.declared.{steps.PlainPath.PlainPath, values.Value.Value}
use Rattle.fbcheck_calls.specs.declared.outcome.Outcome.TheVariants.{Done, Good, UnknownOptions, NoRoot, TooLong, Misfit, Changed}

-- where the bytes of a value are told, they lie within so many
abbrev pub LiesWithin : ℕ → Value → Type 0
LiesWithin n v = v.at + v.size ≤ n

-- what is told at the end of a path: its value, whose bytes lie in these
pub record IsToldOf (b : List ℕ) (S : Rows) (start : Start) (root : ℕ) (p : PlainPath) (v : Value) : Type 0 where
  pub value : IsValueOf b S start root p v
  pub within : LiesWithin (length b) v

-- this holds of each value below so many, by its place, and the others are as they were
pub record AreFilled (P : ℕ → Value → Type 0) (n : ℕ) (values values' : List Value) : Type 0 where
  pub filled : (k : ℕ) → k < n → k < length values' → (v : Value) → P k (slice_index_or values' k v)
  pub kept : (k : ℕ) → n ≤ k → (v : Value) → slice_index_or values' k v ≡ slice_index_or values k v
  pub long : length values' ≡ length values

-- the value at each place below so many is told of the path at this place, and the others are as they were
abbrev pub AreToldBelow : List ℕ → Rows → Start → ℕ → List PlainPath → ℕ → List Value → List Value → Type 0
AreToldBelow b S start root paths n values values' = AreFilled (λ k v. (p : PlainPath) → IsToldOf b S start root (slice_index_or paths k p) v) n values values'

-- the options are known, and this holds of the root table that they ask
abbrev pub IsAsked : Loaded → Options → (ℕ → Type 0) → Type 0
IsAsked l o P = AreKnown o × IsSomeAnd (root_asked l o) P

-- each path fits from the root, and each value is told
pub record AreRead (l : Loaded) (o : Options) (b : List ℕ) (paths : List PlainPath) (v v' : List Value) (root : ℕ) : Type 0 where
  pub fit : AllFit l.schema root paths
  pub told : AreToldBelow b l.schema (start_asked o) root paths (length paths) v v'

-- each path fits from the root, and each value before this place is told; but these aren't the bytes of a buffer that is
-- good by this schema from this root, whatever else is asked of it
pub record AreOther (l : Loaded) (o : Options) (b : List ℕ) (paths : List PlainPath) (v v' : List Value) (place root : ℕ) : Type 0 where
  pub there : place < length paths
  pub fit : AllFit l.schema root paths
  pub told : AreToldBelow b l.schema (start_asked o) root paths place v v'
  pub other : IsOther b l.schema (start_asked o) root

-- what is answered, with the values before and after
abbrev pub IsReadAgain : Loaded → Options → List ℕ → List PlainPath → List Value → List Value → Outcome → Type 0
IsReadAgain l o b paths v v' Done = IsAsked l o (AreRead l o b paths v v') × (length b < 2 ^ 31)
IsReadAgain l o b paths v v' (Changed place) = IsAsked l o (AreOther l o b paths v v' place) × (length b < 2 ^ 31)
IsReadAgain l o b paths v v' UnknownOptions = (AreKnown o → ⊥) × (v' ≡ v)
IsReadAgain l o b paths v v' NoRoot = AreKnown o × (root_asked l o ≡ None) × (v' ≡ v)
IsReadAgain l o b paths v v' (Misfit place) = IsAsked l o (λ root. IsFirstMisfit l.schema root paths place) × (v' ≡ v)
IsReadAgain l o b paths v v' TooLong = IsAsked l o (λ root. AllFit l.schema root paths) × (2 ^ 31 ≤ length b) × (v' ≡ v)
IsReadAgain l o b paths v v' _ = ⊥

abbrev pub IsReadAgainBy : Held → Options → List ℕ → List PlainPath → List Value → List Value → Outcome → Type 0
IsReadAgainBy (Schema s) o b paths v v' a = IsReadAgain s.loaded o b paths v v' a
IsReadAgainBy (Room r) o b paths v v' a = (a ≡ NoRoot) × (v' ≡ v)

-- ---- laws

-- of bytes that a check with these options said are good, it is never answered that they aren't
abbrev pub GoodStaysRead : Type 0
GoodStaysRead = (s : Based) (n : ℕ) (o : Options) (b : List ℕ) (r : Report) (paths : List PlainPath) (v v' : List Value) (place : ℕ)
    → IsChecked s n o b (Good r) → IsReadAgain s.loaded o b paths v v' (Changed place) → ⊥

-- whoever tells values at the ends of paths tells the same
abbrev pub ValuesAreOne : Type 0
ValuesAreOne = (b : List ℕ) (S : Rows) (start : Start) (root : ℕ) (p : PlainPath) (v w : Value)
    → IsValueOf b S start root p v → IsValueOf b S start root p w → v ≡ w
