-- Floats in lines of JSON.
use Rattle.std.proofs.Common.{◌≡◌, ℕ, ◌<◌, ◌≤◌, ◌*◌, Bool, true, false, not, T, List, [], get_or, length, Some, codes, option_map, refl, sym, ap, subst, ◌∙◌, arith, true≢false}
use Rattle.std.specs.Prelude.{to_bits, from_bits}
use Rattle.std.specs.Float.{Float, Format, binary32, binary64, nan, inf, fin, float_is_finite}
use lib.Ieee.{is_nan, top}
use lib.Ieee.Bits.{to_bits-of_bits}
use Rattle.std.specs.Float.{Parse.parse_float, Parse.read_float, Numeral.scan_numeral}
use Rattle.json.specs.Json.{Json, number, string}
use Rattle.ryu.specs.Plain.{IsLaidOutNumber, word_of}
use Rattle.byteorder.specs.Endian.{little_number}
use Rattle.fb_bytes.specs.Word.{word}
use Rattle.fb_access.proofs.StepLaws.{some_same}
use Rattle.fb_run.specs.{Json.IsFloat, Json.IsReal, Json.most_digits, Json.most_zeros, JsonLaws.DefaultsReadBack, JsonLaws.FloatsReadBack}

-- what the printer says of the text of a float
module _ (f : Format) (x : Float) (text : List ℕ) (reads : parse_float f text ≡ Some x) where
  -- a word, by which it is no number
  pub not_a_number : text ≡ codes "NaN" → IsReal f x (string (codes "NaN"))
  unfolding read_float scan_numeral
  not_a_number is =
      let same : Some nan ≡ Some x = rw is at reads in
      subst (λ y. IsReal f y (string (codes "NaN"))) (some_same same) refl

  pub infinite : text ≡ codes "inf" → IsReal f x (string (codes "Infinity"))
  unfolding read_float scan_numeral
  infinite is =
      let same : Some (inf false) ≡ Some x = rw is at reads in
      subst (λ y. IsReal f y (string (codes "Infinity"))) (some_same same) refl

  pub negative_infinite : text ≡ codes "-inf" → IsReal f x (string (codes "-Infinity"))
  unfolding read_float scan_numeral
  negative_infinite is =
      let same : Some (inf true) ≡ Some x = rw is at reads in
      subst (λ y. IsReal f y (string (codes "-Infinity"))) (some_same same) refl

-- and a number otherwise
pub a_number : (f : Format) (x : Float) (text : List ℕ) → parse_float f text ≡ Some x
    → (float_is_finite x ≡ true → IsLaidOutNumber (most_digits f) (most_zeros f) text) → (float_is_finite x ≡ false → text ≡ word_of x) → length text ≤ 25
    → (text ≡ codes "NaN" → ⊥) → (text ≡ codes "inf" → ⊥) → (text ≡ codes "-inf" → ⊥) → IsReal f x (number text)
unfolding float_is_finite
a_number f nan text reads layout word short not_nan not_inf not_negative = absurd (not_nan (word refl))
a_number f (inf false) text reads layout word short not_nan not_inf not_negative = absurd (not_inf (word refl))
a_number f (inf true) text reads layout word short not_nan not_inf not_negative = absurd (not_negative (word refl))
a_number f (fin s m e) text reads layout word short not_nan not_inf not_negative = (text, record { reads = reads; layout = layout refl; short = short }, refl)

-- a float of four bytes, and of eight
pub four_bytes : (bytes : List ℕ) (value : Json) → length bytes ≡ 4 → IsReal binary32 (from_bits binary32 (word bytes 0 4)) value → IsFloat bytes value
four_bytes bytes value is real = record { single = λ _. real; double = λ eight. absurd (omega (arith, is, eight)); neither = λ never _. absurd (never is) }

pub eight_bytes : (bytes : List ℕ) (value : Json) → length bytes ≡ 8 → IsReal binary64 (from_bits binary64 (word bytes 0 8)) value → IsFloat bytes value
eight_bytes bytes value is real = record { single = λ four. absurd (omega (arith, is, four)); double = λ _. real; neither = λ _ never. absurd (never is) }

-- the same by the float that is read of them
pub four_bytes_read : (bytes : List ℕ) (real : Float) (value : Json) → length bytes ≡ 4 → real ≡ from_bits binary32 (little_number 4 bytes) → IsReal binary32 real value → IsFloat bytes value
unfolding word
four_bytes_read bytes real value four is holds = four_bytes bytes value four (subst (λ x. IsReal binary32 x value) is holds)

pub eight_bytes_read : (bytes : List ℕ) (real : Float) (value : Json) → length bytes ≡ 8 → real ≡ from_bits binary64 (little_number 8 bytes) → IsReal binary64 real value → IsFloat bytes value
unfolding word
eight_bytes_read bytes real value eight is holds = eight_bytes bytes value eight (subst (λ x. IsReal binary64 x value) is holds)

-- a number is no string, and has one text
abbrev is_number : Json → Bool
is_number (number text) = true
is_number _ = false

no_string : {text word : List ℕ} → number text ≡ string word → ⊥
no_string same = true≢false (ap is_number same)

abbrev text_in : Json → List ℕ
text_in (number text) = text
text_in _ = []

same_number : {one other : List ℕ} → number one ≡ number other → one ≡ other
same_number same = ap text_in same

-- a number that stands for the float of these bits reads as it
number_reads : (f : Format) (n : ℕ) (x : Float) (text : List ℕ) → n < 2 * top f → from_bits f n ≡ x → IsReal f x (number text)
    → option_map (to_bits f) (parse_float f text) ≡ Some n
unfolding is_nan
number_reads f n nan text fits is real = absurd (no_string real)
number_reads f n (inf false) text fits is real = absurd (no_string real)
number_reads f n (inf true) text fits is real = absurd (no_string real)
number_reads f n (fin s m e) text fits is (numeral, read, same) =
    let bits = to_bits-of_bits f n fits (subst (λ y. T (not (is_nan y))) (sym is) tt) in
    ap (λ t. option_map (to_bits f) (parse_float f t)) (same_number same) ∙ ap (option_map (to_bits f)) read.reads ∙ ap (λ y. Some (to_bits f y)) (sym is) ∙ ap Some bits

four_fit : (bytes : List ℕ) → ((i : ℕ) → get_or bytes i 0 < 256) → word bytes 0 4 < 2 * top binary32
unfolding word
four_fit bytes fits = omega (arith, fits 0, fits 1, fits 2, fits 3)

eight_fit : (bytes : List ℕ) → ((i : ℕ) → get_or bytes i 0 < 256) → word bytes 0 8 < 2 * top binary64
unfolding word
eight_fit bytes fits = omega (arith, fits 0, fits 1, fits 2, fits 3, fits 4, fits 5, fits 6, fits 7)

pub floats_read : FloatsReadBack
floats_read bytes text fits is = record {
  single = λ four. number_reads binary32 (word bytes 0 4) _ text (four_fit bytes fits) refl (is.single four);
  double = λ eight. number_reads binary64 (word bytes 0 8) _ text (eight_fit bytes fits) refl (is.double eight);
}

pub defaults_read : DefaultsReadBack
defaults_read = record {
  single = λ bits text fits is. number_reads binary32 bits _ text (omega (arith, fits)) refl is;
  double = λ bits text fits is. number_reads binary64 bits _ text (omega (arith, fits)) refl is;
}
