-- What is read of a schema file.
use Rattle.std.specs.Prelude.{◌≡◌, ◌<◌, ◌^◌, ℕ, List, [], ◌∷◌, length, Option, Some, None}
use Rattle.fb_schema.specs.Rows.{AreFew, rows_of}
use Rattle.fb_rules.specs.{Bounds.Bounds, Stops.Stops, Verdict.Reports, declared.start.Start.TheVariants.Bare}
use Rattle.fb_verify.specs.Sealed.{Sealed}
use Rattle.fb_access.specs.declared.step.Step.TheVariants.{Field as ToField}
use Rattle.fb_bfbs.specs.declared.{file.FileRows.FileRows, load_fault.LoadFault.LoadFault, load_fault.LoadFault.TheVariants.NotWellFormed}
use Rattle.fb_bfbs.specs.{declared.load_fault.LoadFault.TheVariants.OutOfMemory, Says.Says, Says.text_or_nothing, Describes.Describes, Describes.IsRootName, Sums.IsOver}
use Rattle.fb_bfbs.specs.{Sums.ArePaid, Fixed.fixed, Loads.IsSchemaFile, Loads.ArePaidFor, Loads.asked_within, Loads.published, Loads.schema_number, Loads.told}

-- the file says that these are its rows, its root table's name and its identifier, and the rows are few
pub record IsTold (D : Says) (f : FileRows) : Type 0 where
  pub rows : Describes D (rows_of f.objects.items f.enums.items)
  pub root : IsRootName D f.root
  pub ident : D (ToField 2 ∷ []) (text_or_nothing f.ident)
  pub few : AreFew f.objects.items f.enums.items

-- what is read of it: all, or as far as so many bytes pay for it
abbrev pub AreRead : Says → Option ℕ → Option FileRows → Type 0
AreRead D None None = ⊥
AreRead D None (Some f) = IsTold D f
AreRead D (Some n) None = IsOver D n
AreRead D (Some n) (Some f) = IsTold D f × ArePaid D (rows_of f.objects.items f.enums.items) n

-- a buffer that was verified as a schema file within limits
pub record IsVerifiedFile (b : List ℕ) (L : Bounds) (v : Sealed) : Type 0 where
  pub short : length b < 2 ^ 31
  pub kept : v ≡ record { bytes = b; schema = fixed; root = schema_number; start = Bare; checks = published; report = v.report }
  pub yes : Reports (asked_within L) b v.report

-- why none is: the verifier says no, or memory ran out
abbrev pub IsVerifyFault : List ℕ → Bounds → LoadFault → Type 0
IsVerifyFault b L (NotWellFormed fault) = (length b < 2 ^ 31) × Stops (asked_within L) b fault
IsVerifyFault b L OutOfMemory = length b < 2 ^ 31
IsVerifyFault b L _ = ⊥

-- what is read of the bytes of a schema file within limits
pub record IsReadFile (b : List ℕ) (L : Bounds) (f : FileRows) : Type 0 where
  pub file : IsSchemaFile b L
  pub told : IsTold (told b) f
  pub paid : ArePaidFor b L (rows_of f.objects.items f.enums.items)
