-- The program's command line.
use Rattle.std.specs.Prelude.{ℕ, true, List, [], ◌∷◌, fold, Option, None, Some, codes, pos, slice_get}
use Rattle.clap.specs.{Walk.Rule, Walk.Text, Simple.App, Simple.new_app, Simple.new_rule, Simple.on_top, Simple.with_rule, declared.builder.action.ArgAction.TheVariants.Set}
use Rattle.clap.specs.declared.builder.{action.ArgAction.TheVariants.SetTrue, action.ArgAction.TheVariants.Append, value_parser.ValueParser.ValueParser}
use Rattle.clap.specs.declared.builder.value_parser.ValueParser.TheVariants as parser

-- an option that takes a text
abbrev pub text_rule : Text → Rule
text_rule name = record (new_rule name) { long = Some name; value_names = 1 }

-- an option that takes a text each time that it is given
abbrev pub texts_rule : Text → Rule
texts_rule name = record (text_rule name) { action = Some Append }

-- words that stand by themselves
abbrev pub words_rule : Text → Rule
words_rule name = record (new_rule name) { value_names = 1; action = Some Append }

-- an option that takes a value of this parser, with a default
abbrev pub value_rule : Text → ValueParser → Text → Rule
value_rule name value default = record (new_rule name) {
  long = Some name;
  value_names = 1;
  parser = Some value;
  defaults = default ∷ [];
  action = Some Set;
}

-- an option that takes a number in a range, with a default
abbrev pub number_rule : Text → ℕ → ℕ → Text → Rule
number_rule name least most default = value_rule name (parser.Signed (pos least) (pos most)) default

-- an option that takes any number that `u64` holds from the least on, with a default
abbrev pub wide_number_rule : Text → ℕ → Text → Rule
wide_number_rule name least default = value_rule name (parser.Unsigned least 18446744073709551615) default

-- a number that nothing comes to, where it isn't given
abbrev pub most_rule : Text → Rule
most_rule name = wide_number_rule name 1 (codes "18446744073709551615")

-- an option that is given or not
abbrev pub flag_rule : Text → Rule
flag_rule name = record (new_rule name) { long = Some name; action = Some SetTrue }

-- the same option where a letter stands for it too
abbrev pub lettered : Option ℕ → Rule → Rule
lettered None rule = rule
lettered (Some letter) rule = record rule { short = Some letter }

-- the option for which this letter stands
abbrev pub by_letter : Text → Rule → Rule
by_letter letter rule = lettered (slice_get letter 0) rule

-- the program by its name, which tells its version
abbrev pub named : App
named = on_top (λ s. record s { has_version = true; has_long_version = true }) (new_app (codes "fbcheck"))

-- the options, in the order of help
abbrev pub rules : List Rule
rules =
    by_letter (codes "s") (text_rule (codes "schema"))
    ∷ by_letter (codes "r") (text_rule (codes "root"))
    ∷ text_rule (codes "ident")
    ∷ flag_rule (codes "schema-ident")
    ∷ by_letter (codes "p") (texts_rule (codes "path"))
    ∷ number_rule (codes "max-depth") 0 4096 (codes "64")
    ∷ number_rule (codes "max-tables") 0 4294967295 (codes "1000000")
    ∷ wide_number_rule (codes "max-reads") 0 (codes "100000000")
    ∷ number_rule (codes "reads-per-byte") 0 4294967295 (codes "64")
    ∷ number_rule (codes "max-bytes") 8 2147483647 (codes "67108864")
    ∷ wide_number_rule (codes "skip") 0 (codes "0")
    ∷ most_rule (codes "limit")
    ∷ most_rule (codes "max-bad")
    ∷ flag_rule (codes "bare")
    ∷ flag_rule (codes "delimited")
    ∷ flag_rule (codes "delimited-be")
    ∷ flag_rule (codes "no-alignment")
    ∷ flag_rule (codes "inline-size")
    ∷ flag_rule (codes "strict")
    ∷ flag_rule (codes "plain-bytes")
    ∷ flag_rule (codes "known-fields")
    ∷ flag_rule (codes "utf8")
    ∷ by_letter (codes "q") (flag_rule (codes "quiet"))
    ∷ flag_rule (codes "filter")
    ∷ flag_rule (codes "summary")
    ∷ flag_rule (codes "names")
    ∷ by_letter (codes "j") (flag_rule (codes "json"))
    ∷ flag_rule (codes "csv")
    ∷ text_rule (codes "rejects")
    ∷ by_letter (codes "H") (flag_rule (codes "with-filename"))
    ∷ text_rule (codes "files0-from")
    ∷ words_rule (codes "files")
    ∷ []

abbrev pub program : App
program = fold with_rule named rules
