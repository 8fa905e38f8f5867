-- The names of the files that are inputs.
use Rattle.std.specs.Prelude.{ℕ, Bool, ◌==◌, if◌then◌else◌, List, [], ◌∷◌, ◌++◌, Option, Some, None, bytes_eq, codes, map}
use Rattle.std.specs.Str.{is_utf8}
use Rattle.fbcheck_serve.specs.declared.names.{Misnomer.Misnomer, Origin.Origin, Misnomer.TheVariants.Empty, Misnomer.TheVariants.NotText, Origin.TheVariants.Word}
use Rattle.fbcheck_serve.specs.declared.names.Origin.TheVariants.{List as in_list}

-- a name, and where it stands
pub record Named : Type 0 where
  pub bytes : List ℕ
  pub origin : Origin

-- all that are asked for: none, where standard input is all
abbrev pub all_named : Option (List Named) → List Named
all_named None = []
all_named (Some names) = names

-- that of standard input
abbrev pub is_standard : Named → Bool
is_standard name = bytes_eq name.bytes (codes "-")

-- why a name is that of no file, if it is that of none
abbrev pub wrong_text : List ℕ → Option Misnomer
wrong_text bytes = if is_utf8 bytes then None else Some NotText

abbrev pub wrong_by : Origin → List ℕ → Option Misnomer
wrong_by in_list [] = Some Empty
wrong_by origin bytes = wrong_text bytes

abbrev pub wrong_name : Named → Option Misnomer
wrong_name name = wrong_by name.origin name.bytes

abbrev pub misnomer_text : Misnomer → List ℕ
misnomer_text Empty = codes "invalid zero-length file name"
misnomer_text NotText = codes "file name isn't UTF-8"

-- names that are words
abbrev pub word_name : List ℕ → Named
word_name bytes = record { bytes = bytes; origin = Word }

abbrev pub word_names : List (List ℕ) → List Named
word_names texts = map word_name texts

-- names in a list, each ended by a zero byte, which the last may lack; the first begins with these bytes
abbrev pub listed_name : List ℕ → Named
listed_name bytes = record { bytes = bytes; origin = in_list }

abbrev pub last_name : List ℕ → List Named
last_name [] = []
last_name (a ∷ front) = listed_name (a ∷ front) ∷ []

abbrev pub listed_from : List ℕ → List ℕ → List Named
listed_from front [] = last_name front
listed_from front (b ∷ list) = if b == 0 then listed_name front ∷ listed_from [] list else listed_from (front ++ (b ∷ [])) list

abbrev pub listed_names : List ℕ → List Named
listed_names list = listed_from [] list
