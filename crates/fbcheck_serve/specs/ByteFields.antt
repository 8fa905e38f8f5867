-- Fields of bytes: whether a schema file says what each of them holds.
use Rattle.std.specs.Prelude.{◌≡◌, Bool, true, false, List}
use Rattle.std.specs.List.{list_any}
use Rattle.fb_schema.specs.Rows.{Rows}
use Rattle.fb_bfbs.specs.{ByteFields.HasUnmarked, Marks.Marked, declared.marks.Builtins.Builtins}
use Rattle.fb_strict.specs.Holding.{is_lost}
use Rattle.fbcheck_texts.specs.declared.fault.AskFault.{AskFault, TheVariants.NoSuchTable, TheVariants.OutOfMemory, TheVariants.UnmarkedBytes}

-- some mark of a field of bytes names no table
abbrev pub has_lost : Rows → List Marked → Bool
has_lost rows marks = list_any (is_lost rows) marks

-- these marks say what each field of bytes holds
pub record AreTold (rows : Rows) (marks : List Marked) (builtins : Builtins) : Type 0 where
  pub all : HasUnmarked rows marks builtins → ⊥
  pub found : has_lost rows marks ≡ false

-- each field of bytes has a mark, or would have one, and some mark names no table
pub record LacksTable (rows : Rows) (marks : List Marked) (builtins : Builtins) : Type 0 where
  pub all : HasUnmarked rows marks builtins → ⊥
  pub lost : has_lost rows marks ≡ true

-- why nested buffers can't be asked by these marks, where memory may be refused
abbrev pub Misses : Rows → List Marked → Builtins → AskFault → Type 0
Misses rows marks builtins UnmarkedBytes = HasUnmarked rows marks builtins
Misses rows marks builtins NoSuchTable = LacksTable rows marks builtins
Misses rows marks builtins OutOfMemory = Unit {0}
Misses rows marks builtins fault = ⊥

-- the same of the making of a plan alone
abbrev pub LacksPlan : Rows → List Marked → AskFault → Type 0
LacksPlan rows marks NoSuchTable = has_lost rows marks ≡ true
LacksPlan rows marks OutOfMemory = Unit {0}
LacksPlan rows marks fault = ⊥
