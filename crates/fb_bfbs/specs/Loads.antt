-- What is answered of a schema file.
use Rattle.std.specs.Prelude.{ℕ, ◌<◌, ◌≤◌, ◌^◌, true, false, IfSome, IsSome, IsTrue, List, [], ◌∷◌, length}
use Rattle.fb_schema.specs.{Rows.Rows, Rows.is_table, Demands.IsLegal, Demands.IsFirstIllegal, declared.fault.Code.Code, declared.fault.Code.TheVariants.OutOfMemory as NoMemory}
use Rattle.fb_schema.specs.declared.fault.SchemaFault.{SchemaFault}
use Rattle.fb_rules.specs.{declared.checks.Checks.Checks, declared.start.Start.TheVariants.Bare, declared.start.Ident.Ident, declared.start.Ident.TheVariants.Want, Bounds.Bounds}
use Rattle.fb_rules.specs.{Question.Question, Question.question, Tree.Tree, WellFormed.IsWellFormed, WellFormed.IsWithin, Stops.Stops}
use Rattle.fb_access.specs.{declared.step.Step.TheVariants.Field as ToField, Denotes.Denotes}
use Rattle.fb_bfbs.specs.declared.{loading.Loaded.Loaded, load_fault.LoadFault.LoadFault, load_fault.LoadFault.TheVariants.NotWellFormed}
use Rattle.fb_bfbs.specs.declared.load_fault.LoadFault.TheVariants.{BadSchema, RootNotListed, OutOfMemory, TooLong, TooMuchShared}
use Rattle.fb_bfbs.specs.{Fixed.fixed, Says.Says, Says.text_or_nothing, Describes.Describes, Describes.IsRoot, Describes.HasStrayRoot, Sums.IsPaid, Sums.IsOver}

-- the number of the table Schema in the fixed table
abbrev pub schema_number : ℕ
schema_number = 9

-- the identifier BFBS
abbrev pub schema_ident : Ident
schema_ident = Want (66 ∷ 70 ∷ 66 ∷ 83 ∷ [])

-- the checks of the published verifier
abbrev pub published : Checks
published = record { alignment = true; inline_size = false }

-- what is asked of a schema file, within these limits: whether it unfolds by the fixed table
abbrev pub asked_within : Bounds → Question
asked_within L = question fixed schema_number Bare schema_ident L published

-- the bytes are a schema file: short enough for a buffer, and well formed within the limits by the fixed table
pub record IsSchemaFile (b : List ℕ) (L : Bounds) : Type 0 where
  pub short : length b < 2 ^ 31
  pub found : Tree
  pub well_formed : IsWellFormed (asked_within L) b found
  pub within : IsWithin (asked_within L) b found

-- what a schema file says
abbrev pub told : List ℕ → Says
told b = Denotes b fixed Bare schema_number

-- the root, where there is one, is a table of the schema
abbrev pub HasTableForRoot : Loaded → Type 0
HasTableForRoot loaded = IfSome loaded.root (λ n. IsTrue (is_table loaded.schema n))

-- rows that the file's length pays for, where the limits have a budget of reads
abbrev pub ArePaidFor : List ℕ → Bounds → Rows → Type 0
ArePaidFor b L rows = IsSome L.reads → IsPaid rows (length b)

-- what is loaded of a schema file
pub record IsLoaded (b : List ℕ) (L : Bounds) (loaded : Loaded) : Type 0 where
  pub file : IsSchemaFile b L
  pub rows : Describes (told b) loaded.schema
  pub paid : ArePaidFor b L loaded.schema
  pub legal : IsLegal loaded.schema
  pub root : IsRoot (told b) loaded.schema loaded.root
  pub root_is_table : HasTableForRoot loaded
  pub ident : told b (ToField 2 ∷ []) (text_or_nothing loaded.ident)

-- the rows of a schema file are no schema, first by this fault
pub record IsBadSchema (b : List ℕ) (L : Bounds) (fault : SchemaFault) : Type 0 where
  pub file : IsSchemaFile b L
  pub rows : Rows
  pub described : Describes (told b) rows
  pub paid : ArePaidFor b L rows
  pub first : IsFirstIllegal rows fault

-- the rows of a schema file are a schema, but without the file's root
pub record LacksRoot (b : List ℕ) (L : Bounds) : Type 0 where
  pub file : IsSchemaFile b L
  pub rows : Rows
  pub described : Describes (told b) rows
  pub paid : ArePaidFor b L rows
  pub legal : IsLegal rows
  pub stray : HasStrayRoot (told b) rows

-- the limits have a budget of reads, and a schema file has more rows, or longer names, than its length pays for
pub record SharesTooMuch (b : List ℕ) (L : Bounds) : Type 0 where
  pub file : IsSchemaFile b L
  pub budget : IsSome L.reads
  pub over : IsOver (told b) (length b)

-- why nothing is loaded; memory may be refused wherever the bytes aren't too many
abbrev pub IsLoadFault : List ℕ → Bounds → LoadFault → Type 0
IsLoadFault b L TooLong = 2 ^ 31 ≤ length b
IsLoadFault b L (NotWellFormed fault) = (length b < 2 ^ 31) × Stops (asked_within L) b fault
IsLoadFault b L (BadSchema fault) = IsBadSchema b L fault
IsLoadFault b L RootNotListed = LacksRoot b L
IsLoadFault b L OutOfMemory = length b < 2 ^ 31
IsLoadFault b L TooMuchShared = SharesTooMuch b L

-- the fault that a schema fault is: memory was refused, or the rows are no schema
abbrev pub build_fault : Code → SchemaFault → LoadFault
build_fault NoMemory fault = OutOfMemory
build_fault _ fault = BadSchema fault
