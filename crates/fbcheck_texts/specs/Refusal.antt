-- What the words are where they give no settings, and the exit status then.
use Rattle.std.specs.Prelude.{◌≡◌, ◌≢◌, ℕ, List, [], Some, length, codes}
use Rattle.clap.specs.{Walk.Text, Values.kind_of, Kinds.HasKind, Faults.fault_of, declared.error.kind.ErrorKind.ErrorKind}
use Rattle.clap.specs.declared.error.kind.ErrorKind.TheVariants as kind
use Rattle.fbcheck_texts.specs.{CommandLine.program, Given.Say, Given.contradiction, Values.text_of, Values.values_of}
use Rattle.fbcheck_texts.specs.declared.{choices.Settings.Settings, choices.SettingsFault.SettingsFault}
use Rattle.fbcheck_texts.specs.declared.choices.SettingsFault.TheVariants.{Usage, BadIdent, PathInFilter, TwoIdents, TooManyPaths, BareDelimited, BareDelimitedBe, DelimitedTwice, PlainUnstrict}
use Rattle.fbcheck_texts.specs.declared.choices.SettingsFault.TheVariants.{PathTwice, TooManySteps, SchemaAsInput, CsvAsJson, CsvInFilter, CsvInQuiet, CsvPathless, NamedTwice, OutOfMemory}

-- `clap` refuses the words by an error of that kind; or it reads them, and the identifier isn't four bytes long; or they
-- say settings and don't agree; or there was no memory
abbrev pub Refuses : List Text → SettingsFault → Type 0
Refuses words (Usage error) = (kind_of error ≢ kind.OutOfMemory) × HasKind (fault_of program words) error
Refuses words BadIdent = (fault_of program words ≡ []) × ((t : Text) × (text_of (codes "ident") (values_of words) ≡ Some t) × (length t ≢ 4))
Refuses words OutOfMemory = Unit {0}
Refuses words fault = (fault_of program words ≡ []) × ((settings : Settings) × Say (values_of words) settings) × (contradiction (values_of words) ≡ Some fault)

-- texts that are asked for are no mistake
abbrev pub usage_status : ErrorKind → ℕ
usage_status kind.DisplayHelp = 0
usage_status kind.DisplayVersion = 0
usage_status _ = 2

-- the exit status: 0 for help, 2 for wrong words, 3 for want of memory
abbrev pub refusal_status : SettingsFault → ℕ
refusal_status (Usage error) = usage_status (kind_of error)
refusal_status OutOfMemory = 3
refusal_status _ = 2

-- the text of a refusal; `clap` has its own
abbrev pub refusal_text : SettingsFault → List ℕ
refusal_text (Usage error) = []
refusal_text BadIdent = codes "ident must be four bytes"
refusal_text PathInFilter = codes "a filter takes no path"
refusal_text TwoIdents = codes "ident and schema-ident exclude each other"
refusal_text TooManyPaths = codes "more than 16 paths"
refusal_text BareDelimited = codes "bare and delimited exclude each other"
refusal_text BareDelimitedBe = codes "bare and delimited-be exclude each other"
refusal_text DelimitedTwice = codes "delimited and delimited-be exclude each other"
refusal_text PlainUnstrict = codes "plain-bytes needs strict"
refusal_text PathTwice = codes "the same path twice"
refusal_text TooManySteps = codes "more than 1024 steps in all paths"
refusal_text SchemaAsInput = codes "a .bfbs file is given as input: put --schema before it, or --bare to check the file itself"
refusal_text CsvAsJson = codes "csv and json exclude each other"
refusal_text CsvInFilter = codes "csv and filter exclude each other"
refusal_text CsvInQuiet = codes "csv and quiet exclude each other"
refusal_text CsvPathless = codes "csv needs a path"
refusal_text NamedTwice = codes "files0-from takes no files beside it"
refusal_text OutOfMemory = codes "out of memory"
