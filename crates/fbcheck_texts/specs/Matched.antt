-- What `clap` reads of words.
use Rattle.std.specs.Prelude.{◌≡◌, ◌&&◌, ℕ, Bool, not, if◌then◌else◌, List, [], ◌∷◌, Option, Some, None, codes, option_and_then, pos, slice_get, unwrap_or}
use Rattle.std.specs.{List.list_all, Str.bytes_eq}
use Rattle.clap.specs.{Built.IsParsedFrom, Faults.fault_of, Simple.app_of, Walk.Rule, Walk.Text, Words.found_of, Words.rows_of, Words.IsSignedIn, Words.IsUnsignedIn}
use Rattle.clap.specs.{Words.without_minus, declared.builder.command.Command.Command, declared.parser.matches.ArgMatches.ArgMatches}
use Rattle.fbcheck_texts.specs.{CommandLine.number_rule, CommandLine.program, CommandLine.wide_number_rule, Values.Values, Values.values_of}

-- what the matches hold for each option
abbrev pub values_in : ArgMatches → Values
values_in m = rows_of (found_of m)

-- the matches are what a command with the program's options reads of the words, which have no fault
pub record IsReadOf (words : List Text) (m : ArgMatches) : Type 0 where
  pub faultless : fault_of program words ≡ []
  pub values : values_in m ≡ values_of words
  pub command : Command
  pub is : app_of command ≡ program
  pub parsed : IsParsedFrom command m

-- whether no rule has this name; and the rule that alone has it
abbrev pub is_free_name : Text → List Rule → Bool
is_free_name name = list_all (λ r. not (bytes_eq r.id name))

abbrev pub rule_alone : Text → List Rule → Option Rule
rule_alone name [] = None
rule_alone name (r ∷ rs) = if bytes_eq r.id name then (if is_free_name name rs then Some r else None) else rule_alone name rs

-- the program's option of this name, which `clap` adds by itself to none
abbrev pub option_named : Text → Option Rule
option_named name =
    if not (bytes_eq name []) && (not (bytes_eq name (codes "help")) && not (bytes_eq name (codes "version"))) then rule_alone name program.top.rules else None

-- its default
abbrev pub default_of : Option Rule → Text
default_of rule = unwrap_or (option_and_then (λ r. slice_get r.defaults 0) rule) []

-- it takes a number in this range; and any that `u64` holds from the least on
abbrev pub TakesNumber : Text → ℕ → ℕ → Type 0
TakesNumber name least most = option_named name ≡ Some (number_rule name least most (default_of (option_named name)))

abbrev pub TakesWideNumber : Text → ℕ → Type 0
TakesWideNumber name least = option_named name ≡ Some (wide_number_rule name least (default_of (option_named name)))

-- the matches hold a text that passed the parser of a number; and that of any number of `u64` from the least on
abbrev pub HoldsNumber : Option Text → ℕ → ℕ → Type 0
HoldsNumber found least most = (t : Text) × (found ≡ Some (without_minus t)) × IsSignedIn (pos least) (pos most) t

abbrev pub HoldsWideNumber : Option Text → ℕ → Type 0
HoldsWideNumber found least = (t : Text) × (found ≡ Some t) × IsUnsignedIn least 18446744073709551615 t
