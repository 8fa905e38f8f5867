-- The values that words give.
use Rattle.std.specs.Prelude.{◌≡◌, ◌≤◌, ℕ, Bool, false, List, [], Option, Some, None, codes, unwrap_or}
use Rattle.std.specs.{Option.option_map_or, Str.bytes_eq, Str.Parse.IsNumeral, Str.Parse.digits_value, Str.Parse.without_leading_plus}
use Rattle.clap.specs.{Walk.Row, Walk.Text, Walk.all_of, Walk.first_of, Walk.one_of, Simple.matches_of}
use Rattle.fbcheck_texts.specs.CommandLine.{program}

-- what is given to each option; and what words give, its default where they don't name it
abbrev pub Values : Type 0
Values = List Row

abbrev pub values_of : List Text → Values
values_of words = matches_of program words

-- the text that is given to this option
abbrev pub text_of : Text → Values → Option Text
text_of name values = first_of name values

-- the texts that are given to this option, in their order
abbrev pub texts_of : Text → Values → List Text
texts_of name values = unwrap_or (all_of name values) []

-- whether this flag is given
abbrev pub is_given : Text → Values → Bool
is_given name values = option_map_or (λ text. bytes_eq text (codes "true")) (text_of name values) false

-- n is the number that this text spells in decimal digits
abbrev pub IsWrittenIn : Option Text → ℕ → Type 0
IsWrittenIn None n = ⊥
IsWrittenIn (Some t) n = IsNumeral 10 (without_leading_plus t) × (n ≡ digits_value 10 (without_leading_plus t))

-- the same, and n is in the range
abbrev pub IsNumberIn : Option Text → ℕ → ℕ → ℕ → Type 0
IsNumberIn text least most n = IsWrittenIn text n × (least ≤ n) × (n ≤ most)

-- n is the number that is given to this option, and it is in the range
abbrev pub IsNumberOf : Text → ℕ → ℕ → Values → ℕ → Type 0
IsNumberOf name least most values n = IsNumberIn (one_of name values) least most n
