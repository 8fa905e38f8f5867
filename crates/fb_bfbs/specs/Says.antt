-- What is said of a buffer: which steps lead to which value.
use Rattle.std.specs.Prelude.{◌≡◌, ℕ, List, [], ◌∷◌, length, slice_get, Option, Some, None}
use Rattle.std.specs.Borrow.{Bor}
use Rattle.fb_access.specs.declared.{step.Step.Step, step.Step.TheVariants.Element}
use Rattle.fb_bytes.specs.Word.{word}
use Rattle.fb_access.specs.Denotes.{Shown, nothing, float, default_double, text, vector}

-- which steps lead to which value
abbrev pub Says : Type 1
Says = List Step → Shown → Type 0

-- the same after one step more
abbrev pub after : Says → Step → Says
after D s = λ steps x. D (s ∷ steps) x

-- the rows are the elements of a vector, one after another
pub record AreRows {R : Type 0} (Is : Says → R → Type 0) (D : Says) (rows : List R) : Type 0 where
  pub count : D [] (vector (length rows))
  pub each : (j : ℕ) (r : R) → slice_get rows j ≡ Some r → Is (after D (Element j)) r

-- a value is a Double of these bits: it stands in the file, or is a default
abbrev pub IsDouble : Shown → ℕ → Type 0
IsDouble (float bytes) bits = word bytes 0 8 ≡ bits
IsDouble (default_double default) bits = default ≡ bits
IsDouble _ bits = ⊥

-- a Double of these bits is here
abbrev pub HasDouble : Says → ℕ → Type 0
HasDouble D bits = (x : Shown) × D [] x × IsDouble x bits

-- a text, or nothing where it is absent
abbrev pub text_or_nothing : Option (Bor (List ℕ)) → Shown
text_or_nothing None = nothing
text_or_nothing (Some s) = text s.now
