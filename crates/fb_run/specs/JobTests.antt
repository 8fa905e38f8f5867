-- What is verified of a message, by example.
use Rattle.std.specs.Prelude.{◌≡◌, List, ℕ, false, [], ◌∷◌}
use Rattle.fb_bytes.specs.declared.{cut.Endian.Endian, cut.Endian.TheVariants.Little}
use Rattle.fb_schema.specs.Rows.{Rows}
use Rattle.fb_rules.specs.declared.start.Start.TheVariants.{Bare, Prefixed}
use Rattle.fb_run.specs.Job.{buffer_in, cut_of, job_of, start_in}
use Rattle.fb_run.specs.declared.{options.Options.Options, options.Prefix.TheVariants.Part, options.Prefix.TheVariants.Apart}

-- a length of eight, and eight bytes
abbrev pub eight : List ℕ
eight = 4 ∷ 0 ∷ 0 ∷ 0 ∷ 4 ∷ 0 ∷ 4 ∷ 0 ∷ []

abbrev pub message : List ℕ
message = 8 ∷ 0 ∷ 0 ∷ 0 ∷ eight

pub record Buffers (rows : Rows) (options : Options) : Type 0 where
  pub part : options.terms.bare ≡ false → options.terms.prefix ≡ Part
      → (buffer_in (job_of rows options) message ≡ message) × (start_in (job_of rows options) ≡ Prefixed) × ((cut_of (job_of rows options)).order ≡ Little)
  pub apart : (order : Endian) → options.terms.bare ≡ false → options.terms.prefix ≡ Apart order
      → (buffer_in (job_of rows options) message ≡ eight) × (start_in (job_of rows options) ≡ Bare) × ((cut_of (job_of rows options)).order ≡ order)
