-- Buffers that lie in one block of bytes, and what is answered of each.
use Rattle.std.specs.Prelude.{◌≡◌, ℕ, ◌+◌, ◌<◌, ◌==◌, ◌⊎◌, ⊤, nat_le, List, [], ◌∷◌, length, take, drop, slice_index_or, Option, Some, None, MatchOption, if◌then◌else◌}
use Rattle.std.specs.List.{list_all}
use Rattle.fbcheck_calls.specs.{Answered.IfSchema, Answered.IsChecked, Answered.IsUnserved, Answered.Serves, Bases.Based, Told.told, declared.outcome.Outcome.Outcome}
use Rattle.fbcheck_calls.specs.declared.{outcome.Verdict.Verdict, options.Options.Options, outcome.Outcome.TheVariants.Done, outcome.Outcome.TheVariants.NoSpan, held.Held.Held}
use Rattle.fbcheck_calls.specs.declared.spans.Span.{Span}

-- the bytes of a block that a span names, if it lies in the block
abbrev pub cut : List ℕ → Span → Option (List ℕ)
cut block span = if nat_le (span.at + span.size) (length block) then Some (take span.size (drop span.at block)) else None

-- what is answered where no bytes are asked for: this if a check can begin by these options, or else why none can
abbrev pub IsTried : Outcome → Based → ℕ → Options → Outcome → Type 0
IsTried served s n o a = ((a ≡ served) × Serves s n o (λ plan root ident. ⊤)) ⊎ IsUnserved s n o a

-- what is answered of a span: what a check of its bytes answers; where it doesn't lie in the block that, unless none can begin
abbrev pub IsSpanChecked : Held → ℕ → Options → List ℕ → Span → Outcome → Type 0
IsSpanChecked held n o block span a = IfSchema held a (λ s. MatchOption (cut block span) (IsTried NoSpan s n o a) (λ b. IsChecked s n o b a))

-- a verdict tells such an answer
abbrev pub IsSpanTold : Held → ℕ → Options → List ℕ → Span → Verdict → Type 0
IsSpanTold held n o block span v = (a : Outcome) × (v ≡ told a) × IsSpanChecked held n o block span a

-- the verdict at each place tells that of the span at this place
abbrev pub AreTold : Held → ℕ → Options → List ℕ → List Span → List Verdict → Type 0
AreTold held n o block spans verdicts = (k : ℕ) → k < length spans → k < length verdicts
    → (span : Span) (verdict : Verdict) → IsSpanTold held n o block (slice_index_or spans k span) (slice_index_or verdicts k verdict)

-- 0 where each verdict is that of a good buffer, else 1
abbrev pub all_good : List Verdict → ℕ
all_good verdicts = if list_all (λ v. v.status == 0) verdicts then 0 else 1

-- what is answered of spans that are told so: 0 where each verdict is that of a good buffer, else 1; of none 0, or why no check can begin
abbrev pub IsEachAnswered : Held → ℕ → Options → List Span → List Verdict → ℕ → Type 0
IsEachAnswered held n o [] verdicts status = (a : Outcome) × (status ≡ (told a).status) × IfSchema held a (λ s. IsTried Done s n o a)
IsEachAnswered held n o (span ∷ more) verdicts status = status ≡ all_good (take (length (span ∷ more)) verdicts)
