-- What is answered where the values of the elements of a vector are read in bytes that aren't checked, by a path of
-- which one step stands for each element.
use Rattle.std.specs.Prelude.{◌≡◌, ℕ, ◌+◌, ◌-◌, ◌==◌, ◌<◌, ◌≤◌, ◌^◌, List, ◌∷◌, ◌++◌, drop, length, slice_index_or, take, None, if◌then◌else◌}
use Rattle.fb_bfbs.specs.declared.loading.Loaded.{Loaded}
use Rattle.fb_rules.specs.declared.{fault.Report.Report, start.Start.Start}
use Rattle.fb_schema.specs.Rows.{Rows}
use Rattle.fb_access.specs.Tested.{IsOther}
use Rattle.fbcheck_calls.specs.declared.{outcome.Outcome.Outcome, held.Held.Held, held.Held.TheVariants.Schema, held.Held.TheVariants.Room}
use Rattle.fbcheck_calls.specs.declared.{options.Options.Options, steps.PlainPath.PlainPath, steps.PlainStep.PlainStep, values.Value.Value}
use Rattle.fbcheck_calls.specs.declared.outcome.Outcome.TheVariants.{Done, Good, UnknownOptions, NoRoot, TooLong, Misfit, Changed}
use Rattle.fbcheck_calls.specs.{Again.AreFilled, Again.IsAsked, Again.IsToldOf, Answered.IsChecked, Asked.AreKnown, Asked.root_asked, Asked.start_asked, Bases.Based, Reached.ResolvesTo, Steps.FitsFrom}

-- a step to this element
abbrev pub to_element : ℕ → PlainStep
to_element j = record { kind = 2; number = j }

-- the path to this element, and from there on
abbrev pub path_to : PlainPath → ℕ → PlainPath
path_to p j = record p { each = 0; steps = take (p.each - 1) p.steps ++ to_element j ∷ drop p.each p.steps }

-- the path to all of them, which is to the vector or array
abbrev pub path_to_all : PlainPath → PlainPath
path_to_all p = record p { each = 0; count = p.each - 1 }

-- one of the steps, to an element, stands for each
pub record HasEach (p : PlainPath) : Type 0 where
  pub some : 1 ≤ p.each
  pub within : p.each ≤ p.count
  pub room : p.count ≤ 31
  pub element : (d : PlainStep) → (slice_index_or p.steps (p.each - 1) d).kind ≡ 2

-- and the path to an element fits the schema from the root table, whatever the element's number
pub record FitsEach (S : Rows) (root : ℕ) (p : PlainPath) : Type 0 where
  pub has : HasEach p
  pub fits : (j : ℕ) → FitsFrom S root (path_to p j)

-- how many elements a value has, none where it is no vector and no array
abbrev pub elements_of : Value → ℕ
elements_of v = if v.kind == 9 then v.number else 0

-- of so many elements, from this one on, each value is told of the path to its element, as a read of this path tells it
abbrev pub AreElementsTold : List ℕ → Rows → Start → ℕ → PlainPath → ℕ → ℕ → List Value → List Value → Type 0
AreElementsTold b S start root p first n values values' = AreFilled (λ k v. IsToldOf b S start root (path_to p (first + k)) v) n values values'

-- so many elements are told: those of what is told of the path to all of them
abbrev pub IsCountTold : List ℕ → Rows → Start → ℕ → PlainPath → ℕ → Type 0
IsCountTold b S start root p n = (v : Value) × IsToldOf b S start root (path_to_all p) v × (n ≡ elements_of v)

-- the path fits, and the elements from this one on are told, as far as there is room, with the count of all
pub record IsEachRead (l : Loaded) (o : Options) (b : List ℕ) (p : PlainPath) (first : ℕ) (v v' : List Value) (n root : ℕ) : Type 0 where
  pub fits : FitsEach l.schema root p
  pub count : IsCountTold b l.schema (start_asked o) root p n
  pub told : AreElementsTold b l.schema (start_asked o) root p first (n - first) v v'

-- the path fits, and so many elements from this one on are told; but these aren't the bytes of a buffer that is good by
-- this schema from this root, whatever else is asked of it
pub record IsEachOther (l : Loaded) (o : Options) (b : List ℕ) (p : PlainPath) (first : ℕ) (v v' : List Value) (place root : ℕ) : Type 0 where
  pub fits : FitsEach l.schema root p
  pub told : AreElementsTold b l.schema (start_asked o) root p first place v v'
  pub within : place ≤ length v
  pub other : IsOther b l.schema (start_asked o) root

-- the path is none of an element that fits
abbrev pub IsNoEach : Loaded → PlainPath → ℕ → ℕ → Type 0
IsNoEach l p place root = (place ≡ 0) × (FitsEach l.schema root p → ⊥)

-- what is answered, with the values and the count before and after
abbrev pub IsReadOfEach : Loaded → Options → List ℕ → PlainPath → ℕ → List Value → List Value → ℕ → ℕ → Outcome → Type 0
IsReadOfEach l o b p first v v' n n' Done = IsAsked l o (IsEachRead l o b p first v v' n') × (length b < 2 ^ 31)
IsReadOfEach l o b p first v v' n n' (Changed place) = IsAsked l o (IsEachOther l o b p first v v' place) × (length b < 2 ^ 31) × (n' ≡ n)
IsReadOfEach l o b p first v v' n n' UnknownOptions = (AreKnown o → ⊥) × (v' ≡ v) × (n' ≡ n)
IsReadOfEach l o b p first v v' n n' NoRoot = AreKnown o × (root_asked l o ≡ None) × (v' ≡ v) × (n' ≡ n)
IsReadOfEach l o b p first v v' n n' (Misfit place) = IsAsked l o (IsNoEach l p place) × (v' ≡ v) × (n' ≡ n)
IsReadOfEach l o b p first v v' n n' TooLong = IsAsked l o (λ root. FitsEach l.schema root p) × (2 ^ 31 ≤ length b) × (v' ≡ v) × (n' ≡ n)
IsReadOfEach l o b p first v v' n n' _ = ⊥

abbrev pub IsReadOfEachBy : Held → Options → List ℕ → PlainPath → ℕ → List Value → List Value → ℕ → ℕ → Outcome → Type 0
IsReadOfEachBy (Schema s) o b p first v v' n n' a = IsReadOfEach s.loaded o b p first v v' n n' a
IsReadOfEachBy (Room r) o b p first v v' n n' a = (a ≡ NoRoot) × (v' ≡ v) × (n' ≡ n)

-- ---- laws

-- of bytes that a check with these options said are good, it is never answered that they aren't
abbrev pub GoodStaysReadOfEach : Type 0
GoodStaysReadOfEach = (s : Based) (n : ℕ) (o : Options) (b : List ℕ) (r : Report) (p : PlainPath) (first : ℕ) (v v' : List Value) (e e' place : ℕ)
    → IsChecked s n o b (Good r) → IsReadOfEach s.loaded o b p first v v' e e' (Changed place) → ⊥

-- the path of a text that has [*] serves
abbrev pub MarkedPathsServe : Type 0
MarkedPathsServe = (l : Loaded) (text : List ℕ) (p : PlainPath) (root : ℕ) → ResolvesTo l text p root → (p.each ≡ 0 → ⊥) → FitsEach l.schema root p
