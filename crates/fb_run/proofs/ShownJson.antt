-- The examples of JSON, by computing.
use Rattle.std.proofs.Common.{ℕ, ◌<◌, ◌≤◌, true, false, [], ◌∷◌, codes, inl, inr, ap, arith, refl, true≢false}
use Rattle.std.specs.{Char.digit_value, Char.encode_utf8, Fmt.digits, Str.chars, Str.is_utf8}
use Rattle.std.proofs.lemmas.{Bool.cases_eq, Str.digit_value_digit}
use lib.Ieee.{of_bits, round}
use Rattle.std.specs.Float.{Parse.read_float, Numeral.Parts, Numeral.scan_numeral}
use Rattle.hex.specs.Hex.{encode_with}
use Rattle.json.specs.{Json.number, Json.string, Print.escape_byte, Print.print_from}
use Rattle.ryu.specs.Plain.{IsLaidOutText}
use Rattle.fb_bytes.specs.Word.{word}
use Rattle.fb_schema.specs.{Kinds.base_types, Kinds.kind_of, Kinds.shape_of, Live.live_fields}
use Rattle.fb_access.specs.Denotes.{float, default_float, default_double}
use Rattle.fb_run.specs.{Json.json_text, JsonSums.Summaries, JsonTests.IsText, JsonTests.JsonLines, JsonTests.JsonTexts, JsonTests.JsonValues}
use Rattle.fb_run.proofs.RealLemmas.{eight_bytes, four_bytes}

-- all that is computed
computing : ℕ
unfolding base_types chars digits encode_utf8 encode_with escape_byte is_utf8 json_text kind_of live_fields of_bits print_from read_float round scan_numeral shape_of word
computing = 0

pub lines_shown : JsonLines
unfolding computing
lines_shown = record {
  yes = refl;
  values = (_, (_, (_, _, refl, (_, _, refl, refl, refl), refl), refl), refl);
  of_a_file = refl;
  no = refl;
  no_field = refl;
}

digit : (c : ℕ) → 48 ≤ c → c ≤ 57 → digit_value c < 10
digit c low high = omega (arith, digit_value_digit c (low, high))

-- a number of one digit, a point, and one digit
one_and_one : (digits zeros whole fraction : ℕ) → 1 ≤ digits → 48 ≤ whole → whole ≤ 57 → 48 ≤ fraction → fraction ≤ 57 → IsLaidOutText digits zeros (whole ∷ 46 ∷ fraction ∷ [])
one_and_one digits zeros whole fraction room low high few many =
    let parts : Parts = record { whole = whole ∷ []; point = true; fraction = fraction ∷ []; exponent_negative = false; exponent = []; len = 3 } in (
      parts,
      refl,
      record {
        well_formed = record {
          whole_digits = (digit whole low high, tt);
          fraction_digits = (digit fraction few many, tt);
          exponent_digits = tt;
          no_point = λ e. absurd (true≢false e);
          no_exponent = λ _. refl;
          len_is = refl;
        };
        whole = omega arith;
        no_leading_zero = λ _. refl;
        fraction = λ _. omega arith;
        marked = λ e. absurd (true≢false e);
      },
      record {
        few_digits = λ _ _. omega arith;
        few_zeros = λ _ _. elim (cases_eq fraction 48) [ inl zero ↦ inl (ap (λ d. d ∷ []) zero) | inr more ↦ inr (0, omega arith, omega (arith, few, more)) ];
        trimmed = λ _. elim (cases_eq fraction 48) [ inl zero ↦ inl (refl, ap (λ d. d ∷ []) zero) | inr more ↦ inr (omega (arith, few, more)) ];
        one_digit = λ some. absurd (omega arith);
        far = λ some. absurd (omega arith);
      },
    )

one : IsText (float (0 ∷ 0 ∷ 128 ∷ 63 ∷ [])) (codes "1.0")
unfolding computing
one =
    let laid = one_and_one 13 5 49 48 (omega arith) (omega arith) (omega arith) (omega arith) (omega arith) in
    (number (codes "1.0"), four_bytes (0 ∷ 0 ∷ 128 ∷ 63 ∷ []) (number (codes "1.0")) refl (codes "1.0", record { reads = refl; layout = (false, codes "1.0", refl, laid); short = omega arith }, refl), refl)

one_and_a_half : IsText (float (0 ∷ 0 ∷ 192 ∷ 63 ∷ [])) (codes "1.5")
unfolding computing
one_and_a_half =
    let laid = one_and_one 13 5 49 53 (omega arith) (omega arith) (omega arith) (omega arith) (omega arith) in
    (number (codes "1.5"), four_bytes (0 ∷ 0 ∷ 192 ∷ 63 ∷ []) (number (codes "1.5")) refl (codes "1.5", record { reads = refl; layout = (false, codes "1.5", refl, laid); short = omega arith }, refl), refl)

minus_zero : IsText (float (0 ∷ 0 ∷ 0 ∷ 128 ∷ [])) (codes "-0.0")
unfolding computing
minus_zero =
    let laid = one_and_one 13 5 48 48 (omega arith) (omega arith) (omega arith) (omega arith) (omega arith) in
    (number (codes "-0.0"), four_bytes (0 ∷ 0 ∷ 0 ∷ 128 ∷ []) (number (codes "-0.0")) refl (codes "-0.0", record { reads = refl; layout = (true, codes "0.0", refl, laid); short = omega arith }, refl), refl)

-- by default
single_one_and_a_half : IsText (default_float 0x3fc00000) (codes "1.5")
unfolding computing
single_one_and_a_half =
    let laid = one_and_one 13 5 49 53 (omega arith) (omega arith) (omega arith) (omega arith) (omega arith) in
    (number (codes "1.5"), (codes "1.5", record { reads = refl; layout = (false, codes "1.5", refl, laid); short = omega arith }, refl), refl)

double_one_and_a_half : IsText (default_double 0x3ff8000000000000) (codes "1.5")
unfolding computing
double_one_and_a_half =
    let laid = one_and_one 16 4 49 53 (omega arith) (omega arith) (omega arith) (omega arith) (omega arith) in
    (number (codes "1.5"), (codes "1.5", record { reads = refl; layout = (false, codes "1.5", refl, laid); short = omega arith }, refl), refl)

single_zero : IsText (default_float 0) (codes "0.0")
unfolding computing
single_zero =
    let laid = one_and_one 13 5 48 48 (omega arith) (omega arith) (omega arith) (omega arith) (omega arith) in
    (number (codes "0.0"), (codes "0.0", record { reads = refl; layout = (false, codes "0.0", refl, laid); short = omega arith }, refl), refl)

pub values_shown : JsonValues
unfolding computing
values_shown = record {
  kinds = ((_, refl, refl), ((_, refl, refl), ((_, refl, refl), ((_, refl, refl), ((_, refl, refl), ((_, refl, refl), ((_, refl, refl), ((_, refl, refl), (one, (one_and_a_half, (single_one_and_a_half, (double_one_and_a_half, ((_, refl, refl), ((_, refl, refl), ((_, refl, refl), ((_, refl, refl), tt))))))))))))))));
  negative_zero = minus_zero;
  none = (string (codes "NaN"), four_bytes (0 ∷ 0 ∷ 192 ∷ 127 ∷ []) (string (codes "NaN")) refl refl, refl);
  infinite = (string (codes "Infinity"), four_bytes (0 ∷ 0 ∷ 128 ∷ 127 ∷ []) (string (codes "Infinity")) refl refl, refl);
  negative = (string (codes "-Infinity"), eight_bytes (0 ∷ 0 ∷ 0 ∷ 0 ∷ 0 ∷ 0 ∷ 240 ∷ 255 ∷ []) (string (codes "-Infinity")) refl refl, refl);
  default_zero = single_zero;
  default_none = (string (codes "NaN"), refl, refl);
  default_infinite = (string (codes "-Infinity"), refl, refl);
}

pub texts_shown : JsonTexts
unfolding computing
texts_shown = refl

pub summaries_shown : Summaries
unfolding computing
summaries_shown = record { none = refl; two = refl; plain = refl }
