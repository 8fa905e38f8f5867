-- A list of names, and why there is none.
use Rattle.std.specs.Prelude.{◌≡◌, ◌⊎◌, ℕ, ◌<◌, ◌≤◌, ◌^◌, if◌then◌else◌, List, [], ◌∷◌, Option, Some, None, Result, Ok, Err, bytes_eq, codes, length, map, option_map, string_bytes}
use Rattle.std.specs.declared.io.ErrorKind.TheVariants as kind
use Rattle.fbcheck_texts.specs.{declared.choices.Settings.Settings, declared.fault.FileFault.FileFault}
use Rattle.fbcheck_texts.specs.declared.fault.FileFault.TheVariants as file
use Rattle.fbcheck_serve.specs.{Names.Named, Names.listed_names, Names.word_names}

-- the file that a list is read from
abbrev pub list_file : List ℕ → List ℕ
list_file name = if bytes_eq name (codes "-") then codes "/dev/stdin" else name

-- a read of it gave these bytes, which aren't too many
abbrev pub IsList : (List ℕ → Result (List ℕ) FileFault → Type 0) → List ℕ → List ℕ → Type 0
IsList gives name list = gives (list_file name) (Ok list) × (length list < 2 ^ 31)

-- or had this fault, or gave too many
abbrev pub HasListFault : (List ℕ → Result (List ℕ) FileFault → Type 0) → List ℕ → FileFault → Type 0
HasListFault gives name fault =
    gives (list_file name) (Err fault) ⊎ ((list : List ℕ) × gives (list_file name) (Ok list) × (2 ^ 31 ≤ length list) × (fault ≡ file.Unreadable kind.FileTooLarge))

-- which files words ask for: none, where none is named and standard input is all
abbrev pub named_by : List (List ℕ) → Option (List Named)
named_by [] = None
named_by (text ∷ texts) = Some (word_names (text ∷ texts))

-- which files are asked for, by the list that is named, or else by words
abbrev pub AreNamedBy : (List ℕ → Result (List ℕ) FileFault → Type 0) → Option (List ℕ) → List (List ℕ) → Option (List Named) → Type 0
AreNamedBy gives None words names = names ≡ named_by words
AreNamedBy gives (Some name) words names = (list : List ℕ) × IsList gives name list × (names ≡ Some (listed_names list))

-- the same by settings
abbrev pub AreNamed : (List ℕ → Result (List ℕ) FileFault → Type 0) → Settings → Option (List Named) → Type 0
AreNamed gives settings names = AreNamedBy gives (option_map string_bytes settings.names_file) (map string_bytes settings.files.items) names

-- a list is named that has this fault
abbrev pub LacksList : (List ℕ → Result (List ℕ) FileFault → Type 0) → Settings → FileFault → Type 0
LacksList gives settings fault = (name : List ℕ) × (option_map string_bytes settings.names_file ≡ Some name) × HasListFault gives name fault
