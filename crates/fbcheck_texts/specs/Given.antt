-- What words ask for.
use Rattle.std.specs.Prelude.{◌+◌, ◌++◌, true, ◌==◌, count_by, sum_by, ◌≡◌, ◌&&◌, ◌||◌, ℕ, Bool, false, IfSome, IsSomeAnd, List, [], ◌∷◌}
use Rattle.std.specs.Prelude.{Option, Some, None, codes, if◌then◌else◌, is_some, length, map, nat_eq, nat_lt, not, option_map, string_bytes}
use Rattle.std.specs.{List.ends_with, List.list_any, Str.bytes_eq}
use Rattle.clap.specs.{Walk.Text, Faults.fault_of}
use Rattle.fb_bytes.specs.declared.cut.Endian.TheVariants.{Little, Big}
use Rattle.fb_run.specs.declared.options.{LineForm.LineForm, Mode.Mode, Places.Places, Prefix.Prefix, Terms.Terms, LineForm.TheVariants.Plain, LineForm.TheVariants.Json}
use Rattle.fb_run.specs.declared.options.{Places.TheVariants.Numbers, Places.TheVariants.Words, Prefix.TheVariants.Part, Prefix.TheVariants.Apart, Mode.TheVariants.Lines}
use Rattle.fb_run.specs.declared.options.Mode.TheVariants.{BadLines, Filter, Csv}
use Rattle.fbcheck_texts.specs.{CommandLine.program, Values.IsNumberOf, Values.Values, Values.is_given, Values.text_of, Values.texts_of, Values.values_of}
use Rattle.fbcheck_texts.specs.declared.choices.{Settings.Settings, SettingsFault.SettingsFault, SettingsFault.TheVariants.PathInFilter, SettingsFault.TheVariants.TwoIdents}
use Rattle.fbcheck_texts.specs.declared.choices.SettingsFault.TheVariants.{TooManyPaths, BareDelimited, BareDelimitedBe, DelimitedTwice, PlainUnstrict, PathTwice, TooManySteps}
use Rattle.fbcheck_texts.specs.declared.choices.SettingsFault.TheVariants.{SchemaAsInput, CsvAsJson, CsvInFilter, CsvInQuiet, CsvPathless, NamedTwice}

-- what is told of the buffers, by whether rows are asked for, whether they are filtered and whether there are no lines
-- of good ones
abbrev pub mode_of : Bool → Bool → Bool → Mode
mode_of true filter quiet = Csv
mode_of false true quiet = Filter
mode_of false false true = BadLines
mode_of false false false = Lines

-- how lines are written, by whether they are to be objects of JSON
abbrev pub form_of : Bool → LineForm
form_of true = Json
form_of false = Plain

-- how the places of faults are told, by whether words are asked for, or JSON, of which lines always tell them in words
abbrev pub places_of : Bool → Bool → Places
places_of true json = Words
places_of false true = Words
places_of false false = Numbers

-- what a message's prefix is, by whether messages are delimited, and whether they are by big-endian lengths
abbrev pub prefix_of : Bool → Bool → Prefix
prefix_of true turned = Apart Little
prefix_of false true = Apart Big
prefix_of false false = Part

-- what is given says these terms of a run
pub record SayTerms (given : Values) (terms : Terms) : Type 0 where
  pub depth : IsNumberOf (codes "max-depth") 0 4096 given terms.limits.depth
  pub tables : IsNumberOf (codes "max-tables") 0 4294967295 given terms.limits.tables
  pub reads : IsSomeAnd terms.limits.reads (IsNumberOf (codes "max-reads") 0 18446744073709551615 given)
  pub by_length : IsNumberOf (codes "reads-per-byte") 0 4294967295 given terms.reads_per_byte
  pub bytes : IsNumberOf (codes "max-bytes") 8 2147483647 given terms.max_bytes
  pub skip : IsNumberOf (codes "skip") 0 18446744073709551615 given terms.skip
  pub most_messages : IsNumberOf (codes "limit") 1 18446744073709551615 given terms.most_messages
  pub most_bad : IsNumberOf (codes "max-bad") 1 18446744073709551615 given terms.most_bad
  pub bare : terms.bare ≡ is_given (codes "bare") given
  pub prefix : terms.prefix ≡ prefix_of (is_given (codes "delimited") given) (is_given (codes "delimited-be") given)
  pub alignment : terms.checks.alignment ≡ not (is_given (codes "no-alignment") given)
  pub inline_size : terms.checks.inline_size ≡ is_given (codes "inline-size") given
  pub mode : terms.mode ≡ mode_of (is_given (codes "csv") given) (is_given (codes "filter") given) (is_given (codes "quiet") given)
  pub names : terms.names ≡ places_of (is_given (codes "names") given) (is_given (codes "json") given)
  pub form : terms.form ≡ form_of (is_given (codes "json") given)

-- what is given says these settings
pub record Say (given : Values) (settings : Settings) : Type 0 where
  pub schema : option_map string_bytes settings.schema ≡ text_of (codes "schema") given
  pub root : option_map string_bytes settings.root ≡ text_of (codes "root") given
  pub ident : settings.ident ≡ text_of (codes "ident") given
  pub four : IfSome settings.ident (λ bytes. length bytes ≡ 4)
  pub schema_ident : settings.schema_ident ≡ is_given (codes "schema-ident") given
  pub paths : map string_bytes settings.paths.items ≡ texts_of (codes "path") given
  pub terms : SayTerms given settings.terms
  pub strict : settings.strict ≡ is_given (codes "strict") given
  pub plain_bytes : settings.plain_bytes ≡ is_given (codes "plain-bytes") given
  pub known_fields : settings.known_fields ≡ is_given (codes "known-fields") given
  pub utf8 : settings.utf8 ≡ is_given (codes "utf8") given
  pub rejects : option_map string_bytes settings.rejects ≡ text_of (codes "rejects") given
  pub summary : settings.summary ≡ is_given (codes "summary") given
  pub with_filename : settings.with_filename ≡ is_given (codes "with-filename") given
  pub names_file : option_map string_bytes settings.names_file ≡ text_of (codes "files0-from") given
  pub files : map string_bytes settings.files.items ≡ texts_of (codes "files") given

-- whether a text stands among these; and whether one of them stands there twice
abbrev pub is_among : List (List ℕ) → List ℕ → Bool
is_among texts text = list_any (bytes_eq text) texts

abbrev pub has_twice : List (List ℕ) → Bool
has_twice [] = false
has_twice (text ∷ texts) = is_among texts text || has_twice texts

-- whether a file is named as `flatc` names schema files
abbrev pub is_bfbs : List ℕ → Bool
is_bfbs name = ends_with nat_eq name (codes ".bfbs")

-- a byte with which a step of a path begins that isn't the first: `.`, `@` or `[`
abbrev pub is_sign : ℕ → Bool
is_sign b = b == 46 || b == 64 || b == 91

-- how many steps a path has by its text, the name in front being one; and how many these have in all
abbrev pub steps_in : List ℕ → ℕ
steps_in path = 1 + count_by is_sign path

abbrev pub steps_of : List (List ℕ) → ℕ
steps_of paths = sum_by steps_in paths

-- rules that what is given may break, each with its fault; and the first that is broken
abbrev pub first_broken : List (Bool × SettingsFault) → Option SettingsFault
first_broken [] = None
first_broken (rule ∷ rules) = if rule.0 then Some rule.1 else first_broken rules

-- what is refused since it doesn't agree with itself, in this order, by the paths
abbrev pub rules_of : Values → List Text → List (Bool × SettingsFault)
rules_of given paths =
    (is_given (codes "filter") given && nat_lt 0 (length paths), PathInFilter)
    ∷ (is_given (codes "schema-ident") given && is_some (text_of (codes "ident") given), TwoIdents)
    ∷ (nat_lt 16 (length paths), TooManyPaths)
    ∷ (is_given (codes "bare") given && is_given (codes "delimited") given, BareDelimited)
    ∷ (is_given (codes "bare") given && is_given (codes "delimited-be") given, BareDelimitedBe)
    ∷ (is_given (codes "delimited") given && is_given (codes "delimited-be") given, DelimitedTwice)
    ∷ (is_given (codes "plain-bytes") given && not (is_given (codes "strict") given), PlainUnstrict)
    ∷ (has_twice paths, PathTwice)
    ∷ (nat_lt 1024 (steps_of paths), TooManySteps)
    ∷ []

-- what is refused of the files that are named
abbrev pub rules_of_files : Values → List Text → List (Bool × SettingsFault)
rules_of_files given files =
    (not (is_some (text_of (codes "schema") given)) && (not (is_given (codes "bare") given) && list_any is_bfbs files), SchemaAsInput)
    ∷ (is_some (text_of (codes "files0-from") given) && nat_lt 0 (length files), NamedTwice)
    ∷ []

-- what is refused beside CSV
abbrev pub rules_of_csv : Values → List Text → List (Bool × SettingsFault)
rules_of_csv given paths =
    (is_given (codes "csv") given && is_given (codes "json") given, CsvAsJson)
    ∷ (is_given (codes "csv") given && is_given (codes "filter") given, CsvInFilter)
    ∷ (is_given (codes "csv") given && is_given (codes "quiet") given, CsvInQuiet)
    ∷ (is_given (codes "csv") given && not (nat_lt 0 (length paths)), CsvPathless)
    ∷ []

-- all of these, those of files and of CSV behind the others; and the first that is broken
abbrev pub all_rules : Values → List Text → List Text → List (Bool × SettingsFault)
all_rules given paths files = rules_of given paths ++ (rules_of_files given files ++ rules_of_csv given paths)

abbrev pub contradiction : Values → Option SettingsFault
contradiction given = first_broken (all_rules given (texts_of (codes "path") given) (texts_of (codes "files") given))

-- the words give these settings, and agree
pub record AreGiven (given : List Text) (settings : Settings) : Type 0 where
  pub read : fault_of program given ≡ []
  pub said : Say (values_of given) settings
  pub agree : contradiction (values_of given) ≡ None
