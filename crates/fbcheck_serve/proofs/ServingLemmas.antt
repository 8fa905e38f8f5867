-- What the program comes to.
use Rattle.std.proofs.Common.{◌+◌, ◌≡◌, ◌≢◌, ◌==◌, ◌≤◌, ◌∙◌, arith, ℕ, Bool, true, false, true≢false, List, [], Option, Some, None, Result, Ok, Err, ap, length, refl, take, sym, subst}
use Rattle.fb_rules.specs.Reasons.{reason_count}
use mathlib.Core.Logic.{inl, inr}
use Rattle.std.specs.{Borrow.Bor, Io.KnownBytes.Appends, Result.OnErr, declared.io.ErrorKind.ErrorKind}
use Rattle.std.specs.Prelude.{if◌then◌else◌, IfOk, IfSome, String, map, option_map, string_bytes}
use Rattle.std.proofs.{KnownBytes.Keeps-refl, Math.Seq.take-length, lemmas.Bool.eq-eqb, lemmas.Bool.eqb-true, lemmas.List.length-map, lemmas.List.nil_from_length}
use Rattle.clap.specs.Walk.{Text}
use Rattle.fbcheck_texts.specs.{Given.AreGiven, Refusal.Refuses, Faults.IsFile, declared.framing.By.By, declared.framing.Manner.Manner}
use Rattle.fbcheck_texts.specs.declared.{choices.Settings.Settings, choices.SettingsFault.SettingsFault}
use Rattle.fbcheck_serve.specs.{Checking.IsPromptAmongAsked, Checking.IsPromptAsAsked, Checking.IsPromptOverAsked, Checking.MayReadAsked}
use Rattle.fbcheck_serve.specs.{Keeping.IsCheckedKeeping, Keeping.IsServedKeeping, Keeping.Maker, Lists.AreNamed, Names.Named, Inputs.Folder, Inputs.Seen}
use Rattle.fbcheck_serve.specs.{Inputs.with_cause, Serving.ChecksAsAsked, Serving.ComesAsAsked, Serving.ComesBy, Serving.IsAlone, Serving.IsNameless, Serving.EndsFiles}
use Rattle.fbcheck_serve.specs.Serving.{EndsRun, EndsSo, HoldsAsGiven, MayReadAsGiven, PassesAsAsked, Rests, SumsUp, TellsIn, IsFormOf, Unserved, files_ending, is_set, lent_bytes}
use Rattle.fbcheck_serve.specs.{Serving.run_ending, Serving.summed, Serving.unbegun_stop, declared.check.Unbegun.Unbegun}
use Rattle.fbcheck_serve.specs.declared.{stop.Ending.Ending, stop.Ending.TheVariants.Helped, stop.EarlyEnd.EarlyEnd, stop.Sums.Sums, inputs.Course.Course}
use Rattle.fb_run.specs.{Ends.Ends, Ends.Reader, Ends.Writer, Ends.beside, Ends.nowhere, Ends.with_rejects, Faults.End, Faults.EndsBeside, JsonSums.summary_in, Leave.ends_of}
use Rattle.fb_run.specs.declared.run.Ran.{Ran}
use Rattle.fb_bytes.specs.declared.stream_fault.StreamFault.TheVariants as stream
use Rattle.fb_run.specs.declared.fault.RunFault.TheVariants as run
use Rattle.fbcheck_serve.proofs.AskedLemmas.{idle}
use Rattle.fb_run.specs.declared.input.Input as input
use Rattle.fb_bytes.specs.declared.ends.Sink as sink
use Rattle.fb_run.specs.declared.{options.LineForm.LineForm, options.LineForm.TheVariants.Plain, tally.Tally.Tally}
use Rattle.fbcheck_texts.specs.declared.choices.SettingsFault.TheVariants as refusal
use Rattle.fbcheck_serve.specs.declared.check.Kept as check
use Rattle.fbcheck_serve.specs.declared.check.Unbegun.TheVariants as unbegun
use Rattle.fbcheck_serve.specs.declared.inputs.Passed as inputs
use Rattle.fbcheck_serve.specs.declared.stop.EarlyEnd.TheVariants as stop

module _ (folder : Folder) where
  -- what holds by the settings, and by what a read of the file of the words gave
  pub holds_given : (given : List Text) (settings : Settings) (file : Option (Bor (List ℕ))) (bytes : Option (List ℕ)) (Holds : Option (Bor (List ℕ)) → Settings → Type 0)
      → AreGiven given settings → lent_bytes file ≡ bytes → IsFile folder.gives (option_map string_bytes settings.schema) bytes → Holds file settings → HoldsAsGiven folder given Holds
  holds_given given settings file bytes Holds are lent is holds = record {
    settings = settings;
    file = file;
    are_given = are;
    is_file = rw (← are.said.schema, lent) is;
    holds = holds;
  }

  -- all that was read is told, where no file is named, and among files
  pub prompt_alone : (file : Option (Bor (List ℕ))) (settings : Settings) (before now : Ends) → IsAlone settings → IsPromptAsAsked file settings before now
      → IsPromptOverAsked folder file settings before now
  prompt_alone file settings before now (unlisted, none) (job, asks, rejects, rejects', (headed, head, prompt)) =
      (None, job, rw (unlisted, none) refl, asks, rejects, rejects', headed, head, prompt)

  pub prompt_among : (file : Option (Bor (List ℕ))) (settings : Settings) (names : List Named) (before now : Ends) → AreNamed folder.gives settings (Some names)
      → IsPromptAmongAsked folder file settings names before now → IsPromptOverAsked folder file settings before now
  prompt_among file settings names before now are (job, asks, rejects, rejects', (headed, head, among)) = (Some names, job, are, asks, rejects, rejects', headed, head, among)

  -- the files of the settings may be read as those of the words that give them
  pub may_read : (given : List Text) (before : Ends) (settings : Settings) (file : Option (Bor (List ℕ))) (bytes : Option (List ℕ)) → MayReadAsGiven folder (Ok given) before
      → AreGiven given settings → lent_bytes file ≡ bytes → IsFile folder.gives (option_map string_bytes settings.schema) bytes → MayReadAsked folder file settings before
  may_read given before settings file bytes may are lent is = may settings file are (rw (← are.said.schema, lent) is)

module _ (maker : Maker) (folder : Folder) where
  -- the words give no settings, and no file was begun
  pub comes_unserved : (given : List Text) (reader : Reader) (writer writer' notes : Writer) (cause : Option ErrorKind) (fault : SettingsFault) (outcome : Result Ending EarlyEnd)
      → Refuses given fault → Unserved fault writer writer' outcome
      → ComesBy maker folder given (with_cause (beside reader (record { writer = writer; notes = notes; rejects = nowhere })) cause) (with_cause (beside reader (record { writer = writer'; notes = notes; rejects = nowhere })) cause) None outcome
  comes_unserved given reader writer writer' notes cause fault (Ok Helped) refuses unserved = ((fault, refuses, Keeps-refl reader.left, unserved, Keeps-refl notes.bytes), refl)
  comes_unserved given reader writer writer' notes cause fault (Err (stop.Usage text)) refuses unserved = ((fault, refuses, Keeps-refl reader.left, unserved, Keeps-refl notes.bytes), refl)
  comes_unserved given reader writer writer' notes cause fault (Err (stop.Settings why)) refuses unserved = ((fault, refuses, Keeps-refl reader.left, unserved, Keeps-refl notes.bytes), refl)
  comes_unserved given reader writer writer' notes cause fault (Err (stop.CutOff written)) refuses unserved = ((fault, refuses, Keeps-refl reader.left, unserved, Keeps-refl notes.bytes), refl)
  comes_unserved given reader writer writer' notes cause fault _ refuses never = absurd never

  -- what the settings come to is what the words that give them do
  comes_asked : (given : List Text) (before after : Seen) (sums : Option Sums) (outcome : Result Ending EarlyEnd)
      → HoldsAsGiven folder given (λ file settings. ComesAsAsked maker folder file settings before after sums outcome) → ComesBy maker folder given before after sums outcome
  comes_asked given before after sums (Ok Helped) never = absurd never.holds
  comes_asked given before after sums (Err (stop.Usage text)) never = absurd never.holds.0
  comes_asked given before after sums (Err (stop.Settings refusal.OutOfMemory)) holds =
      let (nameless, (read, (wrote, noted, kept)), none) = holds.holds in ((refusal.OutOfMemory, tt, read, wrote, noted), none)
  comes_asked given before after sums (Err (stop.Settings fault)) never = absurd never.holds.0
  comes_asked given before after sums (Err (stop.CutOff written)) never = absurd never.holds.0
  comes_asked given before after sums (Err (stop.File fault hint)) never = absurd never.holds.0
  comes_asked given before after sums _ holds = holds

  module _ (file : Option (Bor (List ℕ))) (settings : Settings) (before after : Seen) (sums : Option Sums) (outcome : Result Ending EarlyEnd) where
    -- the program ends by the end of the run, or of the files
    comes_ended : (manner : Manner) (cause : Option ErrorKind) (tally : Tally) (end : End) → manner.most_bad ≡ settings.terms.most_bad → outcome ≡ run_ending manner cause tally end
        → ChecksAsAsked maker file settings before.ends after.ends sums tally end → ComesAsAsked maker folder file settings before after sums outcome
    comes_ended manner cause tally (Ok done) bound is checks = rw is (checks, bound)
    comes_ended manner cause tally (Err (run.RejectFault written)) bound is checks = rw is (inl (tally, checks))
    comes_ended manner cause tally (Err fault) bound is checks = rw is checks

    pub comes_run : (ran : Result (check.Kept Ran) Unbegun) → IsAlone settings → IsCheckedKeeping maker file settings before.ends after.ends ran → EndsRun settings ran sums outcome
        → ComesAsAsked maker folder file settings before after sums outcome
    comes_run (Ok kept) none checked (told, manner, bound, is) = comes_ended manner kept.cause kept.what.tally kept.what.end bound is (none, checked, told)
    comes_run (Err (unbegun.Ask unasked)) none checked (told, is) = rw is (checked.0, checked.1, told)
    comes_run (Err (unbegun.Unmade cause)) none checked (told, is) = rw is (checked.0, checked.1, told)

    comes_passed : (by : By) (cause : Option ErrorKind) (course : Course) (end : End) → outcome ≡ files_ending by cause course end → PassesAsAsked maker folder file settings before after sums course end
        → ComesAsAsked maker folder file settings before after sums outcome
    comes_passed by cause course (Ok done) is passes = rw is passes
    comes_passed by cause course (Err (run.RejectFault written)) is passes = rw is (inr (course, passes))
    comes_passed by cause course (Err fault) is passes = rw is (course, passes)

    pub comes_files : (names : List Named) (passed : Result (check.Kept inputs.Passed) Unbegun) → AreNamed folder.gives settings (Some names)
        → IsServedKeeping maker folder file settings names before after passed → EndsFiles settings passed sums outcome → ComesAsAsked maker folder file settings before after sums outcome
    comes_files names (Ok kept) are served (told, by, is) = comes_passed by kept.cause kept.what.course kept.what.end is (names, are, served, told)
    comes_files names (Err (unbegun.Ask unasked)) are served (told, is) = rw is (served.0, served.1, told)
    comes_files names (Err (unbegun.Unmade cause)) are served (told, is) = rw is (served.0, served.1, told)

  -- by these settings, and this file of theirs
  pub comes_given : (given : List Text) (before after : Seen) (sums : Option Sums) (outcome : Result Ending EarlyEnd) (settings : Settings) (file : Option (Bor (List ℕ))) (bytes : Option (List ℕ))
      → AreGiven given settings → lent_bytes file ≡ bytes → IsFile folder.gives (option_map string_bytes settings.schema) bytes → ComesAsAsked maker folder file settings before after sums outcome
      → ComesBy maker folder given before after sums outcome
  comes_given given before after sums outcome settings file bytes are lent is comes =
      comes_asked given before after sums outcome (holds_given folder given settings file bytes _ are lent is comes)

-- whether files are named, by how many there are
pub none_named : {Z : Type 0} (files slice : List (String Z)) (empty : Bool) → slice ≡ files → empty ≡ (length slice == 0) → empty ≡ true → map string_bytes files ≡ []
none_named files slice empty same is named =
    ap (λ l. map string_bytes l) (sym same ∙ nil_from_length slice (eqb-true (length slice) 0 (sym is ∙ named)))

pub some_named : {Z : Type 0} (files slice : List (String Z)) (empty : Bool) → slice ≡ files → empty ≡ (length slice == 0) → empty ≡ false → map string_bytes files ≢ []
some_named files slice empty same is named none =
    let zero : length slice ≡ 0 = ap length same ∙ sym (length-map files string_bytes) ∙ ap length none in
    true≢false (sym (eq-eqb (length slice) 0 zero) ∙ sym is ∙ named)

-- the words or the schema file couldn't be read, or the words give no settings: nothing was asked of the reader
pub early : (before after : Ends) (outcome : Result Ending EarlyEnd) → EndsSo before after 4294967296 outcome → after.reader ≡ before.reader → Rests before after None outcome
early before after outcome ends same = record { places = tt; ends = ends; turns = rw same (omega arith) }

-- so none is begun
pub nameless : (maker : Maker) (folder : Folder) (file : Option (Bor (List ℕ))) (settings : Settings) (seen : Seen) (cause : EarlyEnd) → IsNameless folder.gives settings cause
    → ComesAsAsked maker folder file settings seen seen None (Err cause) × Rests seen.ends seen.ends None (Err cause)
nameless maker folder file settings seen (stop.List fault hint) is = ((is, idle seen.ends, refl), early seen.ends seen.ends _ (refl, refl, refl, refl) refl)
nameless maker folder file settings seen (stop.Settings refusal.OutOfMemory) is = ((is, idle seen.ends, refl), early seen.ends seen.ends _ (refl, refl, refl, refl) refl)
nameless maker folder file settings seen _ never = absurd never

-- a summary was noted whole, or in part
pub sums_noted : (sums : Option Sums) (told : Sums) (before after : Writer) (outcome : Result Ending EarlyEnd) (line : List ℕ) (written : ℕ)
    → sums ≡ Some told → line ≡ summary_in told.form told.tally → written ≡ length line → Appends before.bytes after.bytes (take written line) → after.failures ≡ before.failures
    → SumsUp sums before after outcome outcome
sums_noted sums told before after outcome line written some is all wrote same =
    subst (λ (o : Option Sums). SumsUp o before after outcome outcome) (sym some)
    (inl (subst (Appends before.bytes after.bytes) (ap (λ (m : ℕ). take m line) all ∙ take-length line ∙ is) wrote, same, refl))

-- the numbers to be told have a place for each kind of fault
summed_places : (told : Sums) (asked : Bool) → length told.tally.reasons ≡ reason_count → IfSome (if asked then Some told else None) (λ (sums : Sums). length sums.tally.reasons ≡ reason_count)
summed_places told true are = are
summed_places told false are = tt

-- nothing was called where there was nothing to check by
pub same_ends : {S K N A B : Type 0} (s : input.Ghosts S K N) (k : sink.Ghosts K) (n : sink.Ghosts N) (answer : Result A B) (r r' : S) (w w' : K) (m m' : N)
    → OnErr answer (r' ≡ r) → OnErr answer (w' ≡ w) → OnErr answer (m' ≡ m) → OnErr answer (ends_of s k n r' w' m' ≡ ends_of s k n r w m)
same_ends s k n (Ok done) r r' w w' m m' a b c = tt
same_ends s k n (Err none) r r' w w' m m' a b c = rw (a, b, c) refl

module _ (settings : Settings) (before after : Ends) (turns : after.reader.calls ≤ before.reader.calls + 4294967296) where
  rests_by : (tally : Tally) (outcome : Result Ending EarlyEnd) → length tally.reasons ≡ reason_count → EndsSo before after 4294967296 outcome
      → Rests before after (summed settings tally) outcome
  rests_by tally outcome are ends = record { places = summed_places _ settings.summary are; ends = ends; turns = turns }

  unbegun_rests : (fault : Unbegun) → after ≡ before → Rests before after None (Err (unbegun_stop fault))
  unbegun_rests (unbegun.Ask unasked) same = record { places = tt; ends = rw same (refl, refl, refl, refl); turns = turns }
  unbegun_rests (unbegun.Unmade cause) same = record { places = tt; ends = rw same (refl, refl, refl, refl); turns = turns }

  module _ (alike : after.outs.rejects.failures ≡ before.outs.rejects.failures) where
    run_rests_so : (manner : Manner) (cause : Option ErrorKind) (tally : Tally) (end : End) (rejects rejects' : Writer) → length tally.reasons ≡ reason_count
        → EndsBeside (with_rejects before rejects) (with_rejects after rejects') 4294967296 end → Rests before after (summed settings tally) (run_ending manner cause tally end)
    run_rests_so manner cause tally (Ok done) rejects rejects' are ends = rests_by tally _ are (ends.0, ends.1, ends.2, alike)
    run_rests_so manner cause tally (Err (run.RejectFault written)) rejects rejects' are ends = rests_by tally _ are tt
    run_rests_so manner cause tally (Err run.TooManyTurns) rejects rejects' are ends = rests_by tally _ are ((ends.0.0, ends.0.1, ends.0.2, alike), ends.1)
    run_rests_so manner cause tally (Err (run.SkipPastEnd skip)) rejects rejects' are ends = rests_by tally _ are ((ends.0.0, ends.0.1, ends.0.2, alike), ends.1)
    run_rests_so manner cause tally (Err (run.Stream (stream.Truncated held))) rejects rejects' are ends = rests_by tally _ are ((ends.0.0, ends.0.1, ends.0.2, alike), ends.1)
    run_rests_so manner cause tally (Err _) rejects rejects' are ends = rests_by tally _ are (ends.0, ends.1, ends.2, alike)

    pub run_rests : (maker : Maker) (file : Option (Bor (List ℕ))) (ran : Result (check.Kept Ran) Unbegun) (sums : Option Sums) (outcome : Result Ending EarlyEnd)
        → IsCheckedKeeping maker file settings before after ran → EndsRun settings ran sums outcome
        → IfOk ran (λ kept. length kept.what.tally.reasons ≡ reason_count) → OnErr ran (after ≡ before) → Rests before after sums outcome
    run_rests maker file (Ok kept) sums outcome (rejects, rejects', are_kept, (ran, ends)) (told, manner, bound, is) are same =
        rw (told, is) (run_rests_so manner kept.cause kept.what.tally kept.what.end rejects rejects' are ends)
    run_rests maker file (Err fault) sums outcome checked (told, is) are same = rw (told, is) (unbegun_rests fault same)

  files_rests_so : (by : By) (cause : Option ErrorKind) (course : Course) (end : End) → length course.tally.reasons ≡ reason_count
      → Rests before after (summed settings course.tally) (files_ending by cause course end)
  files_rests_so by cause course (Ok done) are = rests_by course.tally _ are tt
  files_rests_so by cause course (Err (run.RejectFault written)) are = rests_by course.tally _ are tt
  files_rests_so by cause course (Err fault) are = rests_by course.tally _ are tt

  pub files_rests : (passed : Result (check.Kept inputs.Passed) Unbegun) (sums : Option Sums) (outcome : Result Ending EarlyEnd) → EndsFiles settings passed sums outcome
      → IfOk passed (λ kept. length kept.what.course.tally.reasons ≡ reason_count) → OnErr passed (after ≡ before) → Rests before after sums outcome
  files_rests (Ok kept) sums outcome (told, by, is) are same = rw (told, is) (files_rests_so by kept.cause kept.what.course kept.what.end are)
  files_rests (Err fault) sums outcome (told, is) are same = rw (told, is) (unbegun_rests fault same)

-- faults are told in the form of lines, whether the program ended by settings or not
pub told_as_lines : (set : Bool) (given : List Text) (form : LineForm) → IsFormOf given form → TellsIn set given form
told_as_lines true given form is = is
told_as_lines false given form is = inl is

-- and plainly where it ended without settings
pub told_plainly : (fault : SettingsFault) (before after : Writer) (outcome : Result Ending EarlyEnd) (given : List Text) (form : LineForm) → Unserved fault before after outcome → form ≡ Plain
    → TellsIn (is_set outcome) given form
told_plainly fault before after (Ok Helped) given form unserved plain = inr plain
told_plainly fault before after (Err (stop.Usage text)) given form unserved plain = inr plain
told_plainly fault before after (Err (stop.Settings why)) given form unserved plain = inr plain
told_plainly fault before after (Err (stop.CutOff written)) given form unserved plain = inr plain
told_plainly fault before after _ given form never plain = absurd never
