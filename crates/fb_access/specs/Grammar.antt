-- The texts of paths, by their spelling.
use Rattle.std.specs.Prelude.{◌≡◌, ℕ, ◌+◌, ◌-◌, ◌*◌, ◌<◌, ◌≤◌, ◌⊎◌, Bool, ◌&&◌, ◌||◌, ◌==◌, nat_le, IsTrue, List, [], ◌∷◌, ◌++◌, length, take}
use Rattle.std.specs.List.{AllByRecursion}

-- `0` to `9`
abbrev pub is_digit : ℕ → Bool
is_digit c = nat_le 48 c && nat_le c 57

-- a letter or `_`
abbrev pub begins_name : ℕ → Bool
begins_name c = (nat_le 65 c && nat_le c 90) || (nat_le 97 c && nat_le c 122) || c == 95

-- a letter, `_` or a digit
abbrev pub goes_on : ℕ → Bool
goes_on c = begins_name c || is_digit c

-- letters, `_` and digits, of which the first is no digit
abbrev pub IsName : List ℕ → Type 0
IsName [] = ⊥
IsName (c ∷ cs) = IsTrue (begins_name c) × AllByRecursion (λ x. IsTrue (goes_on x)) cs

-- the number that digits write after those of v
abbrev pub number_from : ℕ → List ℕ → ℕ
number_from v [] = v
number_from v (d ∷ ds) = number_from (10 * v + (d - 48)) ds

-- the number that digits write
abbrev pub number_of : List ℕ → ℕ
number_of ds = number_from 0 ds

-- `0`, or digits of which the first isn't 0, of a number of 32 bits
abbrev pub IsNumber : List ℕ → Type 0
IsNumber [] = ⊥
IsNumber (d ∷ ds) = ((d ≡ 48) × (ds ≡ [])) ⊎ ((d ≡ 48 → ⊥) × AllByRecursion (λ x. IsTrue (is_digit x)) (d ∷ ds) × (number_of (d ∷ ds) ≤ 4294967295))

-- a part of a path: the name of a field, the digits of an element's number, or the name of a member
pub data Part : Type 0 where
  field : List ℕ → Part
  element : List ℕ → Part
  member : List ℕ → Part

-- names are names, and digits write a number
abbrev pub IsPart : Part → Type 0
IsPart (field name) = IsName name
IsPart (element digits) = IsNumber digits
IsPart (member name) = IsName name

-- parts as they are written: `.name`, `[digits]` and `@name`
abbrev pub spelling : List Part → List ℕ
spelling [] = []
spelling (field name ∷ parts) = 46 ∷ name ++ spelling parts
spelling (element digits ∷ parts) = 91 ∷ digits ++ 93 ∷ spelling parts
spelling (member name ∷ parts) = 64 ∷ name ++ spelling parts

-- the text is the name of a field, without a dot, and these parts after it
pub record IsReading (text : List ℕ) (name : List ℕ) (parts : List Part) : Type 0 where
  pub is_name : IsName name
  pub are_parts : AllByRecursion IsPart parts
  pub spelled : text ≡ name ++ spelling parts

-- the text is of the grammar
pub record IsPath (text : List ℕ) : Type 0 where
  pub name : List ℕ
  pub parts : List Part
  pub reading : IsReading text name parts

-- some text of the grammar begins so
pub record BeginsPath (start : List ℕ) : Type 0 where
  pub rest : List ℕ
  pub path : IsPath (start ++ rest)

-- the text isn't of the grammar, and its longest beginning that begins a path has this length
pub record IsWrongAt (text : List ℕ) (at : ℕ) : Type 0 where
  pub within : at ≤ length text
  pub begins : BeginsPath (take at text)
  pub longest : (n : ℕ) → at < n → n ≤ length text → BeginsPath (take n text) → ⊥
  pub wrong : IsPath text → ⊥
