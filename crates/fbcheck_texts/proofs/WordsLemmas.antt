-- What a parse of the program's words gives.
use Rattle.std.proofs.Common.{zero, suc, ◌<◌, ◌≤◌, ◌≡◌, arith, length, map, string_bytes, ℕ, Bool, true, false, List, [], ◌∷◌, codes, Option, Some, None, refl, sym, ap, subst, ◌∙◌}
use Rattle.std.specs.List.{list_all, slice_index_or}
use Rattle.std.specs.Prelude.{option_map, unwrap_or}
use Rattle.std.proofs.lemmas.{Bool.ltb-false, List.length-map}
use Rattle.clap.specs.{Walk.Text, Walk.first_of, Walk.one_of, Built.IsParsedFrom, Kinds.HasKind, Words.matched_of, Words.raw_values, Words.rows_of, Faults.fault_of}
use Rattle.clap.specs.{Faults.is_simple_and_free, Simple.App, Simple.HasMatchesOf, Simple.app_of, Simple.is_simple, Simple.matches_of, declared.builder.command.Command.Command}
use Rattle.clap.specs.declared.{error.Error.Error, parser.matches.ArgMatches.ArgMatches, parser.matches.Found.Found}
use Rattle.clap.proofs.{OnLiterals.clap_on_literals, WalkLemmas.both, WalkLemmas.raw_values-rows}
use Rattle.fbcheck_texts.specs.{CommandLine.program, Given.AreGiven, Given.Say, Given.all_rules, Given.contradiction, Given.first_broken, Given.steps_of, Matched.IsReadOf}
use Rattle.fbcheck_texts.specs.{Matched.values_in, Ranges.AreInRange, Refusal.Refuses, Values.Values, Values.text_of, Values.texts_of, Values.values_of}
use Rattle.fbcheck_texts.specs.declared.choices.{Settings.Settings, SettingsFault.SettingsFault, SettingsFault.TheVariants.Usage, SettingsFault.TheVariants.BadIdent}
use Rattle.fbcheck_texts.specs.declared.choices.SettingsFault.TheVariants.{OutOfMemory}

simple : (is_simple program ≡ true) × (is_simple_and_free program ≡ true)
unfolding clap_on_literals
simple = (refl, refl)

-- words that are read have no fault
no_fault : (app : App) (words : List Text) → app ≡ program → (is_simple_and_free app ≡ true → fault_of app words ≡ []) → fault_of program words ≡ []
no_fault app words is read = ap (λ (a : App). fault_of a words) (sym is) ∙ read (ap is_simple_and_free is ∙ simple.1)

-- words that are refused have a fault of that kind
pub refused_by : (app : App) (words : List Text) (error : Error) → app ≡ program → (is_simple_and_free app ≡ true → HasKind (fault_of app words) error) → HasKind (fault_of program words) error
refused_by app words error is refused = subst (λ (a : App). HasKind (fault_of a words) error) is (refused (ap is_simple_and_free is ∙ simple.1))

-- what the program's command reads is what clap reads of the words
pub is_read : (c : Command) (words : List Text) (m : ArgMatches) → (is_simple_and_free (app_of c) ≡ true → fault_of (app_of c) words ≡ []) → IsParsedFrom c m → app_of c ≡ program → HasMatchesOf (app_of c) words m
    → IsReadOf words m
is_read c words m faultless parsed is has = record {
  faultless = no_fault _ _ is faultless;
  values = ((subst (λ (a : App). HasMatchesOf a words m) is has) simple.0).0;
  command = c;
  is = is;
  parsed = parsed;
}

-- the texts that the matches hold for an option
pub texts_held : (found : Found) (id : Text) (held : Option (List Text)) → held ≡ option_map raw_values (matched_of found id) → unwrap_or held [] ≡ texts_of id (rows_of found)
texts_held found id held is = ap (λ (o : Option (List Text)). unwrap_or o []) (is ∙ raw_values-rows found id)

-- whether a fault is told of settings that don't agree
abbrev is_told : SettingsFault → Bool
is_told (Usage error) = false
is_told BadIdent = false
is_told OutOfMemory = false
is_told _ = true

-- the fault of a rule that is broken is one of these, where those of all are
told_of : (rules : List (Bool × SettingsFault)) (fault : SettingsFault) → list_all (λ r. is_told r.1) rules ≡ true → first_broken rules ≡ Some fault → is_told fault ≡ true
told_of [] fault all is = cc
told_of ((true, told) ∷ rules) fault all is =
    let same : told ≡ fault = cc in
    ap is_told (sym same) ∙ (both (is_told told) (list_all (λ r. is_told r.1) rules) all).0
told_of ((false, told) ∷ rules) fault all is = told_of rules fault (both (is_told told) (list_all (λ r. is_told r.1) rules) all).1 is

refused_so : (words : List Text) (fault : SettingsFault) → fault_of program words ≡ [] → (settings : Settings) → Say (values_of words) settings → is_told fault ≡ true
    → contradiction (values_of words) ≡ Some fault → Refuses words fault
refused_so words (Usage error) read settings said told is = cc
refused_so words BadIdent read settings said told is = cc
refused_so words OutOfMemory read settings said told is = tt
refused_so words _ read settings said told is = (read, (settings, said), is)

-- what is refused by paths and files that are given is refused by what is
agreed : (given : Values) (settings : Settings) (fault : Option SettingsFault) → Say given settings
    → first_broken (all_rules given (map string_bytes settings.paths.items) (map string_bytes settings.files.items)) ≡ fault → contradiction given ≡ fault
agreed given settings fault said is =
    sym (ap (λ paths. first_broken (all_rules given paths (map string_bytes settings.files.items))) said.paths
    ∙ ap (λ files. first_broken (all_rules given (texts_of (codes "path") given) files)) said.files) ∙ is

-- what is refused of words that don't agree
pub contradicted : (words : List Text) (m : ArgMatches) (settings : Settings) (fault : SettingsFault) → IsReadOf words m → Say (values_in m) settings
    → first_broken (all_rules (values_in m) (map string_bytes settings.paths.items) (map string_bytes settings.files.items)) ≡ Some fault → Refuses words fault
contradicted words m settings fault read said is =
    let by_words = ap contradiction (sym read.values) ∙ agreed _ settings (Some fault) said is in
    refused_so words fault read.faultless settings (subst (λ v. Say v settings) read.values said)
    (told_of (all_rules (values_of words) (texts_of (codes "path") (values_of words)) (texts_of (codes "files") (values_of words))) fault refl by_words) by_words

-- where none is broken, that at place k isn't
unbroken : (rules : List (Bool × SettingsFault)) (k : ℕ) (d : Bool × SettingsFault) → first_broken rules ≡ None → k < length rules → (slice_index_or rules k d).0 ≡ false
unbroken [] k d none at = absurd (omega arith)
unbroken ((true, fault) ∷ rules) k d none at = cc
unbroken ((false, fault) ∷ rules) zero d none at = refl
unbroken ((false, fault) ∷ rules) (suc k) d none at = unbroken rules k d none (omega arith)

in_range : (given : Values) (settings : Settings) → Say given settings → contradiction given ≡ None → AreInRange settings
in_range given settings said agree =
    let paths : List Text = texts_of (codes "path") given in
    let rules = all_rules given paths (texts_of (codes "files") given) in
    let few : length paths ≤ 16 = ltb-false 16 (length paths) (unbroken rules 2 (false, OutOfMemory) agree (omega arith)) in
    let few_steps : steps_of paths ≤ 1024 = ltb-false 1024 (steps_of paths) (unbroken rules 8 (false, OutOfMemory) agree (omega arith)) in
    record {
      terms = grind (arith, said.terms);
      few = omega (arith, few, ap length said.paths, length-map settings.paths.items string_bytes);
      few_steps = subst (λ ps. steps_of ps ≤ 1024) (sym said.paths) few_steps;
    }

-- the words whose values these are give the settings that these say, in their ranges
pub given_by : (words : List Text) (m : ArgMatches) (settings : Settings) → IsReadOf words m → Say (values_in m) settings
    → first_broken (all_rules (values_in m) (map string_bytes settings.paths.items) (map string_bytes settings.files.items)) ≡ None → AreGiven words settings × AreInRange settings
given_by words m settings read said none =
    let agree = agreed _ settings None said none in
    (record { read = read.faultless; said = subst (λ v. Say v settings) read.values said; agree = ap contradiction (sym read.values) ∙ agree }, in_range _ settings said agree)

-- the clauses' words, at a command line that is written out
examples : (one_of (codes "max-depth") (matches_of program (codes "fbcheck" ∷ [])) ≡ Some (codes "64"))
    × (one_of (codes "max-depth") (matches_of program (codes "fbcheck" ∷ codes "--max-depth" ∷ codes "7" ∷ codes "--bare" ∷ [])) ≡ Some (codes "7"))
    × (first_of (codes "bare") (matches_of program (codes "fbcheck" ∷ codes "--bare" ∷ [])) ≡ Some (codes "true"))
    × (first_of (codes "bare") (matches_of program (codes "fbcheck" ∷ [])) ≡ Some (codes "false"))
    × (texts_of (codes "path") (values_of (codes "fbcheck" ∷ codes "--path" ∷ codes "b" ∷ codes "--path=a" ∷ [])) ≡ codes "b" ∷ codes "a" ∷ [])
    × (texts_of (codes "files") (values_of (codes "fbcheck" ∷ codes "a.bin" ∷ codes "-" ∷ codes "--json" ∷ codes "b.bin" ∷ [])) ≡ codes "a.bin" ∷ codes "-" ∷ codes "b.bin" ∷ [])
    × (texts_of (codes "files") (values_of (codes "fbcheck" ∷ codes "--json" ∷ [])) ≡ [])
    × (text_of (codes "schema") (values_of (codes "fbcheck" ∷ codes "-qjs" ∷ codes "a.bfbs" ∷ codes "-ra.B" ∷ [])) ≡ Some (codes "a.bfbs"))
    × (texts_of (codes "path") (values_of (codes "fbcheck" ∷ codes "-pb" ∷ codes "--path=c" ∷ codes "-p" ∷ codes "a" ∷ [])) ≡ codes "b" ∷ codes "c" ∷ codes "a" ∷ [])
unfolding clap_on_literals
examples = (refl, refl, refl, refl, refl, refl, refl, refl, refl)
