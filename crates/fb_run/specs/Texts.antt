-- What is told to three outputs: to the writer, to the notes beside it, and to the rejects.
use Rattle.std.specs.Prelude.{◌≡◌, ℕ, ◌<◌, ◌^◌, List, [], ◌++◌}

pub record Texts : Type 0 where
  pub out : List ℕ
  pub notes : List ℕ
  pub rejects : List ℕ

-- how many bytes on each output
pub record Sizes : Type 0 where
  pub out : ℕ
  pub notes : ℕ
  pub rejects : ℕ

-- a count of so many is right as long as they are fewer than 2^128
abbrev pub IsCounted : ℕ → ℕ → Type 0
IsCounted many count = many < 2 ^ 128 → count ≡ many

-- nothing
abbrev pub silent : Texts
silent = record { out = []; notes = []; rejects = [] }

-- bytes for the writer alone, for the notes alone, and for the rejects alone
abbrev pub to_out : List ℕ → Texts
to_out bytes = record { out = bytes; notes = []; rejects = [] }

abbrev pub to_notes : List ℕ → Texts
to_notes bytes = record { out = []; notes = bytes; rejects = [] }

abbrev pub to_rejects : List ℕ → Texts
to_rejects bytes = record { out = []; notes = []; rejects = bytes }

-- all but what is told to the rejects
abbrev pub spoken : Texts → Texts
spoken told = record told { rejects = [] }

-- one and then the other, on each output
abbrev pub followed : Texts → Texts → Texts
followed first second = record { out = first.out ++ second.out; notes = first.notes ++ second.notes; rejects = first.rejects ++ second.rejects }

-- none on any
abbrev pub no_bytes : Sizes
no_bytes = record { out = 0; notes = 0; rejects = 0 }
