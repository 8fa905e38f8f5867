-- Two texts that are noted one behind the other, the line that tells a fault, and the one that tells a bound.
use Rattle.std.proofs.Common.{◌≡◌, ◌∙◌, ℕ, ◌+◌, ◌<◌, ◌≤◌, false, List, ◌++◌, Option, ap, length, take, arith}
use mathlib.Core.Logic.{inl, inr}
use Rattle.std.specs.{Io.KnownBytes.Appends, Global.Global, Prelude.String}
use Rattle.std.proofs.{KnownBytes.Appends-trans, Math.Nat.eq-or-lt_of_le, Math.Seq.take-append-add, Math.Seq.take-length, lemmas.List.length-append}
use Rattle.std.proofs.Common.{None, refl, codes}
use Rattle.fbcheck_texts.specs.{FaultJson.fault_object, declared.causes.Causes.Causes}
use Rattle.fbcheck_serve.specs.{Inputs.IsNoted, Serving.IsBehindStop, Serving.IsStopLine, Serving.TellsStop, Serving.stop_status, Serving.stop_text, declared.stop.EarlyEnd.EarlyEnd}
use Rattle.fb_bytes.specs.Ends.{one_more}
use Rattle.fb_run.specs.{Ends.Writer, declared.options.LineForm.LineForm, declared.options.LineForm.TheVariants.Json}
use Rattle.fbcheck_texts.proofs.FaultJsonLemmas.{object_in, plain_in}
use Rattle.fbcheck_serve.specs.declared.stop.EarlyEnd.TheVariants as stop

-- the first text stands written, and the second whole or in part
pub second_noted : (text behind : List ℕ) (n m n' : Option (List ℕ)) (k l k' first second : ℕ) → first ≡ length text → Appends n m (take first text) → l ≡ k
    → second ≤ length behind → Appends m n' (take second behind) → (second < length behind → k' ≡ one_more l) → (second ≡ length behind → k' ≡ l) → IsNoted (text ++ behind) (record { bytes = n; failures = k }) (record { bytes = n'; failures = k' })
second_noted text behind n m n' k l k' first second whole wrote same le more failed unfailed =
    let front = rw (whole, take-length text) at wrote in
    let both = Appends-trans n m n' text (take second behind) front more in
    elim (eq-or-lt_of_le le) [
      | inl all ↦ let end = rw (all, take-length behind) at both in inl (end, unfailed all ∙ same)
      | inr cut ↦ inr (
        length text + second,
        record {
          taken = length text + second;
          within = rw (length-append text behind) (omega (arith, le));
          wrote = rw (take-append-add text behind second) both;
          written_is = λ few. omega arith;
        },
        failed cut ∙ ap one_more same,
      )
    ]

-- what isn't the text of `clap` is told by a line of its own
own_line : (form : LineForm) (causes : Causes) (fault : EarlyEnd) (before after : Writer) → ((text : String Global) → fault ≡ stop.Usage text → ⊥)
    → (hint line : List ℕ) → IsBehindStop fault hint → IsStopLine form causes fault hint line → IsNoted line before after → TellsStop false form causes fault before after
own_line form causes (stop.Usage text) before after other hint line is told noted = absurd (other text refl)
own_line form causes fault before after other hint line is told noted = (hint, line, is, told, noted)

-- by an object, or by a plain line
pub object_told : (form : LineForm) (causes : Causes) (fault : EarlyEnd) (before after : Writer) (text hint line : List ℕ) (status : ℕ) → ((text : String Global) → fault ≡ stop.Usage text → ⊥)
    → IsBehindStop fault hint → text ≡ stop_text causes fault → status ≡ stop_status fault → (form ≡ Json) × (line ≡ fault_object None text hint status) → IsNoted line before after
    → TellsStop false form causes fault before after
object_told form causes fault before after text hint line status other is told ends (json, made) noted =
    own_line form causes fault before after other hint line is (object_in form _ _ line json (rw (← told, ← ends) made)) noted

pub line_told : (form : LineForm) (causes : Causes) (fault : EarlyEnd) (before after : Writer) (text hint : List ℕ) → ((text : String Global) → fault ≡ stop.Usage text → ⊥)
    → IsBehindStop fault hint → text ≡ stop_text causes fault → IsNoted ((codes "fbcheck: " ++ text) ++ hint) before after → TellsStop false form causes fault before after
line_told form causes fault before after text hint other is told noted =
    own_line form causes fault before after other hint _ is (plain_in form _ _ _ (ap (λ (t : List ℕ). (codes "fbcheck: " ++ t) ++ hint) told)) noted
