-- The laws of what a schema file describes, and of what is answered of it.
use Rattle.std.specs.Prelude.{◌≡◌, ◌==◌, ℕ, List, length, Option, Some, None, if◌then◌else◌, option_map, Result, Ok, Err}
use Rattle.std.specs.Borrow.{Bor}
use Rattle.fb_schema.specs.Rows.{Rows}
use Rattle.fb_rules.specs.{Bounds.Bounds, declared.start.Ident.Ident, declared.start.Ident.TheVariants.Any, declared.start.Ident.TheVariants.Want}
use Rattle.fb_bfbs.specs.{declared.loading.Loaded.Loaded, declared.load_fault.LoadFault.LoadFault, declared.load_fault.LoadFault.TheVariants.OutOfMemory, Describes.Describes}
use Rattle.fb_bfbs.specs.Loads.{told, IsLoaded, IsLoadFault}

-- a schema file describes at most one list of rows
abbrev pub DescribesOnce : Type 0
DescribesOnce = (b : List ℕ) (rows others : Rows) → Describes (told b) rows → Describes (told b) others → rows ≡ others

-- the bytes of an identifier, without where they lie in memory
abbrev pub ident_bytes : Option (Bor (List ℕ)) → Option (List ℕ)
ident_bytes = option_map (λ s. s.now)

-- the identifier that a schema's own asks for: any where it declares none, which `flatc` writes as one of no bytes, and
-- none where it hasn't four
abbrev pub own_ident : Option (List ℕ) → Option Ident
own_ident None = Some Any
own_ident (Some bytes) = if length bytes == 0 then Some Any else (if length bytes == 4 then Some (Want bytes) else None)

-- the same rows, root and identifier
pub record IsSameLoad (x y : Loaded) : Type 0 where
  pub schema : x.schema ≡ y.schema
  pub root : x.root ≡ y.root
  pub ident : ident_bytes x.ident ≡ ident_bytes y.ident

-- the same answer: two loads of the same, or the same fault
abbrev pub IsSameAnswer : Result Loaded LoadFault → Result Loaded LoadFault → Type 0
IsSameAnswer (Ok x) (Ok y) = IsSameLoad x y
IsSameAnswer (Err f) (Err g) = f ≡ g
IsSameAnswer _ _ = ⊥

-- an answer applies to the bytes: what is loaded of them, or why nothing is, want of memory apart
abbrev pub Applies : List ℕ → Bounds → Result Loaded LoadFault → Type 0
Applies b L (Ok loaded) = IsLoaded b L loaded
Applies b L (Err OutOfMemory) = ⊥
Applies b L (Err fault) = IsLoadFault b L fault

-- at most one answer applies
abbrev pub HasOneAnswer : Type 0
HasOneAnswer = (b : List ℕ) (L : Bounds) (x y : Result Loaded LoadFault) → Applies b L x → Applies b L y → IsSameAnswer x y
