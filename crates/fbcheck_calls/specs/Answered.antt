-- Which answer a call gives.
use Rattle.std.specs.Prelude.{◌≡◌, ◌≢◌, ℕ, ◌<◌, ◌≤◌, ◌^◌, List, [], length, map, slice_get, Option, Some, None, Result, Ok, Err, IsSomeAnd, IsSome, IsTrue, Bool, true, false}
use Rattle.fb_schema.specs.{Live.Live, Live.live_fields, Rows.Rows, Rows.is_table}
use Rattle.fb_rules.specs.{Bounds.Bounds, MostReads.most_reads, Question.Question, declared.fault.Fault.Fault, declared.fault.Report.Report, declared.start.Ident.Ident}
use Rattle.fb_bfbs.specs.{ByteFields.HasUnmarked, ByteFields.LacksMark, Loads.IsLoaded, Loads.IsLoadFault, Marks.AreMarks, Marks.Marked, Marks.marked, declared.loading.Loaded.Loaded}
use Rattle.fb_bfbs.specs.declared.{load_fault.LoadFault.TheVariants.OutOfMemory, marks.Marks.Marks}
use Rattle.fb_strict.specs.{Demanded.demanded, Holding.holdings_if, Holding.IsPlanFault, Planned.Planned, Planned.IsPlan, MostReads.most_reads_strictly}
use Rattle.fb_strict.specs.{AsAsked.ReportsBy, AsAsked.HasNoneBy, AsAsked.StopsBy, declared.holding.PlanFault.TheVariants.NoSuchTable as LostAt}
use Rattle.fbcheck_calls.specs.Asked.{HasLimits, LimitsFail, asks_marks, checks_asked, demands_of, ident_asked, limits_of, plan_asked, question_of, root_asked, start_asked}
use Rattle.fbcheck_calls.specs.{Bases.Based, Told.low, Told.told, declared.outcome.Outcome.Outcome, declared.outcome.FieldAt.FieldAt, declared.outcome.Verdict.Verdict}
use Rattle.fbcheck_calls.specs.declared.{held.Held.Held, held.Held.TheVariants.Schema, held.Held.TheVariants.Room, options.Options.Options}
use Rattle.fbcheck_calls.specs.declared.outcome.Outcome.TheVariants.{Done, Good, Bad, OutOfRange, NoIdent, NoRoot, TooLong, NoSchema, NotPlanned, UnmarkedBytes, NoSuchTable}

-- ---- to load a schema

-- the plan of rows for these demands, where these marks say what fields of bytes hold; none where there are none
abbrev pub IsPlanFor : Rows → List Marked → ℕ → Option Planned → Type 0
IsPlanFor rows ms n None = n ≡ 0
IsPlanFor rows ms n (Some plan) = (n ≢ 0) × IsPlan rows (demanded (demands_of n) (holdings_if (demands_of n) rows ms)) plan

-- these are the marks of a file that are asked where checks are strict and bytes aren't taken for plain
abbrev pub AreMarksAsked : List ℕ → Options → Marks → Type 0
AreMarksAsked file o marks = IsTrue (asks_marks o.demands) × AreMarks file (limits_of o (length file)) marks

-- such as say what each field of bytes holds; where they aren't asked, there are none
abbrev pub AreMarksFor : Bool → List ℕ → Options → Rows → List Marked → Type 0
AreMarksFor false file o rows ms = ms ≡ []
AreMarksFor true file o rows ms = (marks : Marks) × AreMarksAsked file o marks × (ms ≡ map marked marks.fields.items) × (HasUnmarked rows ms marks.builtins → ⊥)

-- the schema that the file describes, with the plan for the demands
pub record IsOpened (file : List ℕ) (o : Options) (s : Based) : Type 0 where
  pub limits : HasLimits o 4096
  pub loaded : IsLoaded file (limits_of o (length file)) s.loaded
  pub demands : s.demands ≡ o.demands
  pub marks : List Marked
  pub says : AreMarksFor (asks_marks o.demands) file o s.loaded.schema marks
  pub plan : IsPlanFor s.loaded.schema marks o.demands s.plan

-- a live field has these numbers
pub record IsNumbered (object : ℕ) (f : Live) (at : FieldAt) : Type 0 where
  pub object_is : at.object ≡ object
  pub field_is : at.field ≡ f.number

-- a live field of an object stands in this slot
pub record IsInSlot (rows : Rows) (object slot : ℕ) (f : Live) : Type 0 where
  pub place : ℕ
  pub at : slice_get (live_fields rows object) place ≡ Some f
  pub slot_is : f.slot ≡ slot

-- one of these marks names no table, at the live field with these numbers
abbrev pub IsLostAt : Rows → List Marked → FieldAt → Type 0
IsLostAt rows ms at = (object : ℕ) × (slot : ℕ) × (f : Live) × IsNumbered object f at × IsInSlot rows object slot f × IsPlanFault rows ms (LostAt object slot)

-- the field is one with such a mark of the file, or one of bytes that may have to be marked
abbrev pub HasLostAt : List ℕ → Options → FieldAt → Type 0
HasLostAt file o at = (loaded : Loaded) × IsLoaded file (limits_of o (length file)) loaded × (marks : Marks) × AreMarksAsked file o marks × IsLostAt loaded.schema (map marked marks.fields.items) at

abbrev pub HasUnmarkedAt : List ℕ → Options → FieldAt → Type 0
HasUnmarkedAt file o at = (loaded : Loaded) × IsLoaded file (limits_of o (length file)) loaded × (marks : Marks) × AreMarksAsked file o marks
    × (object : ℕ) × (f : Live) × IsNumbered object f at × LacksMark loaded.schema (map marked marks.fields.items) marks.builtins object f

-- why no plan is made of rows with these marks
abbrev pub IsNotPlanned : Rows → List Marked → Outcome → Type 0
IsNotPlanned rows ms (NoSchema fault) = fault ≡ OutOfMemory
IsNotPlanned rows ms (NoSuchTable at) = IsLostAt rows ms at
IsNotPlanned rows ms _ = ⊥

-- why there is none
abbrev pub IsNotOpened : List ℕ → Options → Outcome → Type 0
IsNotOpened file o (NoSchema fault) = HasLimits o 4096 × IsLoadFault file (limits_of o (length file)) fault
IsNotOpened file o (NoSuchTable at) = HasLimits o 4096 × HasLostAt file o at
IsNotOpened file o (UnmarkedBytes at) = HasLimits o 4096 × HasUnmarkedAt file o at
IsNotOpened file o a = LimitsFail o 4096 a

-- ---- what a pointer leads to: a schema, or room

-- what a call answers that asks a schema; of what is none it has no root
abbrev pub IfSchema : Held → Outcome → (Based → Type 0) → Type 0
IfSchema (Schema s) a P = P s
IfSchema (Room r) a P = a ≡ NoRoot

-- a handle holds a schema of which this holds, or room for so many levels
abbrev pub HoldsSchema : (Based → Type 0) → Held → Type 0
HoldsSchema P (Schema s) = P s
HoldsSchema P (Room r) = ⊥

abbrev pub HoldsRoom : ℕ → Held → Type 0
HoldsRoom depth (Schema s) = ⊥
HoldsRoom depth (Room r) = r ≡ depth

-- for how many levels there is room: those of a handle that holds room, else 64
abbrev pub levels : Option Held → ℕ
levels (Some (Room r)) = r
levels _ = 64

-- what a load into a handle answers, with what is held before and after: the file's schema, or what was held
abbrev pub IsTaken : List ℕ → Options → Option Held → Option Held → Outcome → Type 0
IsTaken file o held held' Done = IsSomeAnd held' (HoldsSchema (IsOpened file o))
IsTaken file o held held' (NoSchema OutOfMemory) = (held' ≡ held) × HasLimits o 4096
IsTaken file o held held' a = (held' ≡ held) × IsNotOpened file o a

-- what is answered where room is made in a handle
abbrev pub IsRoomMade : ℕ → Option Held → Option Held → Outcome → Type 0
IsRoomMade depth held held' Done = IsSomeAnd held' (HoldsRoom depth) × (depth ≤ 4096)
IsRoomMade depth held held' OutOfRange = (held' ≡ held) × (4096 < depth)
IsRoomMade depth held held' (NoSchema OutOfMemory) = (held' ≡ held) × (depth ≤ 4096)
IsRoomMade depth held held' _ = ⊥

-- ---- to check a buffer

-- what a check of so many bytes asks
pub record Begins (s : Based) (n : ℕ) (o : Options) (bytes : ℕ) (begun : Question) : Type 0 where
  pub rows_are : begun.rows ≡ s.loaded.schema
  pub has : HasLimits o n
  pub planned : IsSome (plan_asked s o)
  pub limits_are : begun.limits ≡ limits_of o bytes
  pub root_is : root_asked s.loaded o ≡ Some begun.root
  pub is_table : IsTrue (is_table s.loaded.schema begun.root)
  pub ident_is : ident_asked s.loaded o ≡ Some begun.ident
  pub start_is : begun.start ≡ start_asked o
  pub checks_are : begun.checks ≡ checks_asked o

-- that of a buffer which isn't too long
abbrev pub Starts : Based → ℕ → Options → List ℕ → Question → Type 0
Starts s n o b begun = Begins s n o (length b) begun × (length b < 2 ^ 31)

-- why nothing can be checked by these options, in room for so many levels
abbrev pub IsUnserved : Based → ℕ → Options → Outcome → Type 0
IsUnserved s n o NotPlanned = HasLimits o n × (plan_asked s o ≡ None)
IsUnserved s n o NoRoot = HasLimits o n × IsSome (plan_asked s o) × (root_asked s.loaded o ≡ None)
IsUnserved s n o NoIdent = HasLimits o n × IsSome (plan_asked s o) × IsSome (root_asked s.loaded o) × (ident_asked s.loaded o ≡ None)
IsUnserved s n o a = LimitsFail o n a

-- a check can begin by these options, in room for so many levels
pub record CanBegin (s : Based) (n : ℕ) (o : Options) : Type 0 where
  pub has : HasLimits o n
  pub planned : IsSome (plan_asked s o)
  pub rooted : IsSome (root_asked s.loaded o)
  pub identified : IsSome (ident_asked s.loaded o)

-- a check can begin, and this holds of its plan, its root and its identifier
abbrev pub Serves : Based → ℕ → Options → (Option Planned → ℕ → Ident → Type 0) → Type 0
Serves s n o P = HasLimits o n × IsSomeAnd (plan_asked s o) (λ plan. IsSomeAnd (root_asked s.loaded o) (λ root. IsSomeAnd (ident_asked s.loaded o) (P plan root)))

-- some tree of the buffer is well formed by the schema from this root, within the limits, and by a plan also strict; and
-- the report counts it
abbrev pub IsGoodFrom : Based → Options → List ℕ → Report → Option Planned → ℕ → Ident → Type 0
IsGoodFrom s o b r plan root ident = ReportsBy plan (question_of s.loaded o b root ident) b r

-- none is, and this is the first condition that fails
pub record IsBadFrom (s : Based) (o : Options) (b : List ℕ) (f : Fault) (plan : Option Planned) (root : ℕ) (ident : Ident) : Type 0 where
  pub none : HasNoneBy plan (question_of s.loaded o b root ident) b
  pub stops : StopsBy plan (question_of s.loaded o b root ident) b f

-- why a buffer isn't checked
abbrev pub IsUnchecked : Based → ℕ → Options → List ℕ → Outcome → Type 0
IsUnchecked s n o b TooLong = Serves s n o (λ plan root ident. 2 ^ 31 ≤ length b)
IsUnchecked s n o b a = IsUnserved s n o a

-- what a check of a buffer answers
abbrev pub IsChecked : Based → ℕ → Options → List ℕ → Outcome → Type 0
IsChecked s n o b (Good r) = (length b < 2 ^ 31) × Serves s n o (IsGoodFrom s o b r)
IsChecked s n o b (Bad f) = (length b < 2 ^ 31) × Serves s n o (IsBadFrom s o b f)
IsChecked s n o b a = IsUnchecked s n o b a

-- a verdict and its status tell an answer of which this holds
pub record IsTold (v : Verdict) (P : Outcome → Type 0) (number : ℕ) : Type 0 where
  pub answer : Outcome
  pub told : v ≡ told answer
  pub holds : P answer
  pub status : number ≡ v.status

-- how many reads a check of so many bytes makes at most, by a plan also those of the pass
abbrev pub most_reads_by : Option Planned → Rows → Bounds → ℕ → ℕ
most_reads_by None = most_reads
most_reads_by (Some plan) = most_reads_strictly

-- what the most reads of a check are said to be
abbrev pub IsPricedBy : Based → Options → ℕ → Result ℕ Outcome → Type 0
IsPricedBy s o n (Ok most) = HasLimits o 4096 × IsSomeAnd (plan_asked s o) (λ plan. most ≡ low (most_reads_by plan s.loaded.schema (limits_of o n) n))
IsPricedBy s o n (Err NotPlanned) = HasLimits o 4096 × (plan_asked s o ≡ None)
IsPricedBy s o n (Err a) = LimitsFail o 4096 a

abbrev pub IsPriced : Held → Options → ℕ → Result ℕ Outcome → Type 0
IsPriced (Schema s) o n answer = IsPricedBy s o n answer
IsPriced (Room r) o n answer = answer ≡ Err NoRoot

-- the number of an answer, or of none where a number was found
abbrev pub status_of : Result ℕ Outcome → ℕ
status_of (Ok most) = 0
status_of (Err a) = (told a).status

-- the number that was found, or else another
abbrev pub found_or : Result ℕ Outcome → ℕ → ℕ
found_or (Ok most) n = most
found_or (Err a) n = n

-- that in numbers, with what stood before and stands then where they are written
pub record IsPriceTold (held : Held) (o : Options) (n reads reads' status : ℕ) : Type 0 where
  pub answer : Result ℕ Outcome
  pub priced : IsPriced held o n answer
  pub reads_are : reads' ≡ found_or answer reads
  pub status_is : status ≡ status_of answer
