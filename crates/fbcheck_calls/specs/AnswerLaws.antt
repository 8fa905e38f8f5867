-- The laws of what a check answers: to whom a yes is due, and to whom a no; and where a value's bytes are.
use Rattle.std.specs.Prelude.{◌≡◌, ◌≢◌, ℕ, ◌<◌, ◌≤◌, ◌^◌, List, length, IsSome, Option, Some, None, option_and_then}
use Rattle.fb_schema.specs.Rows.{Rows}
use Rattle.fb_rules.specs.{Question.Question, Tree.Tree, WellFormed.IsWellFormed, WellFormed.IsWithin, declared.fault.Report.Report, declared.start.Ident.Ident}
use Rattle.fb_strict.specs.{Planned.Planned, Strictly.ReportsStrictly}
use Rattle.fb_access.specs.{Denotes.Shown, Denotes.bytes_at, Denotes.value, Extents.extent, Spots.kind_at, StepLaws.size_in_place, StepLaws.HoldsElements, declared.extent.Extent.Extent}
use Rattle.fb_access.specs.declared.spot.Spot.{Spot}
use Rattle.fb_access.specs.Denotes as denotes
use Rattle.fbcheck_calls.specs.{Answered.IsChecked, Bases.Based, Told.told, Asked.HasLimits, Asked.ident_asked, Asked.plan_asked, Asked.question_of, Asked.root_asked}
use Rattle.fbcheck_calls.specs.declared.{outcome.Outcome.Outcome, options.Options.Options}

-- the schema has the plan, the root and the identifier that the options ask, and there is room for their depth
pub record CanServe (s : Based) (n : ℕ) (o : Options) (plan : Option Planned) (root : ℕ) (ident : Ident) : Type 0 where
  pub limits : HasLimits o n
  pub plan_is : plan_asked s o ≡ Some plan
  pub root_is : root_asked s.loaded o ≡ Some root
  pub ident_is : ident_asked s.loaded o ≡ Some ident

-- the buffer is as it is asked for: some tree of it is well formed and within the limits; by a plan also all that is
-- asked of it, and of the buffers inside, is met and within the limits
abbrev pub IsAsAsked : Option Planned → Question → List ℕ → Type 0
IsAsAsked None q b = (y : Tree) × IsWellFormed q b y × IsWithin q b y
IsAsAsked (Some plan) q b = (r : Report) × ReportsStrictly plan q b r

-- where it is short enough and as it is asked for, every answer is the number of a yes
abbrev pub GoodGetsYes : Type 0
GoodGetsYes = (s : Based) (n : ℕ) (o : Options) (b : List ℕ) (plan : Option Planned) (root : ℕ) (ident : Ident) (a : Outcome)
    → CanServe s n o plan root ident
    → length b < 2 ^ 31
    → IsAsAsked plan (question_of s.loaded o b root ident) b
    → IsChecked s n o b a → (told a).status ≡ 0

-- where it is not, every answer is the number of a no
abbrev pub BadGetsNo : Type 0
BadGetsNo = (s : Based) (n : ℕ) (o : Options) (b : List ℕ) (plan : Option Planned) (root : ℕ) (ident : Ident) (a : Outcome)
    → CanServe s n o plan root ident
    → length b < 2 ^ 31
    → (IsAsAsked plan (question_of s.loaded o b root ident) b → ⊥)
    → IsChecked s n o b a → (told a).status ≡ 1

-- where it is too long, whatever is in it, every answer is that number
abbrev pub LongGetsItsNumber : Type 0
LongGetsItsNumber = (s : Based) (n : ℕ) (o : Options) (b : List ℕ) (plan : Option Planned) (root : ℕ) (ident : Ident) (a : Outcome)
    → CanServe s n o plan root ident
    → 2 ^ 31 ≤ length b
    → IsChecked s n o b a → (told a).status ≡ 7

-- without demands a check is by no plan, whatever the schema was made with
abbrev pub PlainIsPlain : Type 0
PlainIsPlain = (s : Based) (o : Options) → o.demands ≡ 0 → plan_asked s o ≡ Some None

-- with demands it is by a plan, that with which the schema was made for them
abbrev pub DemandsArePlanned : Type 0
DemandsArePlanned = (s : Based) (o : Options) (plan : Option Planned) → o.demands ≢ 0 → plan_asked s o ≡ Some plan → IsSome plan × (plan ≡ s.plan) × (o.demands ≡ s.demands)

-- the bytes that the value at a spot shows stand where the extent says; the extent of a vector or array is that of its
-- elements, where they stand in place; what shows no bytes and has no such elements has no extent
abbrev pub Stands : List ℕ → Rows → Spot → Shown → Option Extent → Type 0
Stands b S q (denotes.float s) (Some e) = s ≡ bytes_at b e.at e.size
Stands b S q (denotes.text s) (Some e) = s ≡ bytes_at b e.at e.size
Stands b S q (denotes.structure s) (Some e) = s ≡ bytes_at b e.at e.size
Stands b S q (denotes.vector n) e = HoldsElements b S q n (option_and_then (size_in_place S) (kind_at q)) e
Stands b S q _ (Some e) = ⊥
Stands b S q (denotes.float s) None = ⊥
Stands b S q (denotes.text s) None = ⊥
Stands b S q (denotes.structure s) None = ⊥
Stands b S q _ None = Unit {0}

-- at every spot of every buffer
abbrev pub ValuesStand : Type 0
ValuesStand = (b : List ℕ) (S : Rows) (q : Spot) → Stands b S q (value b S q) (extent b S q)
