-- What the program does, from its words to its exit status.
use Rattle.std.specs.Prelude.{◌≡◌, ℕ, ◌+◌, ◌<◌, ◌≤◌, ◌⊎◌, ◌++◌, Bool, ◌&&◌, true, false, length, if◌then◌else◌, List, [], Option, Some, None}
use Rattle.std.specs.Prelude.{Result, Ok, Err, Vec, String, IfSome, IsSome, codes, map, option_map, string_bytes, string_len, vec_items}
use Rattle.fb_bytes.specs.Ends.{one_more}
use Rattle.fb_rules.specs.Reasons.{reason_count}
use Rattle.std.specs.{Borrow.Bor, Io.KnownBytes.Appends, Io.KnownBytes.Keeps, declared.io.ErrorKind.ErrorKind}
use Rattle.clap.specs.{Walk.Text, Faults.fault_of}
use Rattle.fbcheck_texts.specs.{Causes.is_unread, FaultJson.IsLineIn, FaultJson.fault_object}
use Rattle.fbcheck_texts.specs.{FaultJson.hint_object, Hints.IsHint, Hints.IsRunHint, Faults.HasFileFault, Faults.IsFile, Faults.ask_status, Texts.ask_text, Texts.file_text}
use Rattle.fbcheck_texts.specs.{Texts.list_text, Texts.run_text, Texts.stopped_text, Texts.unkept_text, Texts.unmade_text, Texts.unsummed_text, Texts.words_text, CommandLine.program, Refusal.Refuses}
use Rattle.fbcheck_texts.specs.{Refusal.refusal_status, Refusal.refusal_text, Given.AreGiven, Values.text_of, Values.values_of}
use Rattle.fbcheck_texts.specs.declared.{framing.By.By, framing.Manner.Manner, choices.Settings.Settings, choices.SettingsFault.SettingsFault, fault.FileFault.FileFault, fault.WordsFault.WordsFault}
use Rattle.fbcheck_texts.specs.declared.causes.Causes.{Causes}
use Rattle.fbcheck_serve.specs.{Checking.IsIdle, Checking.IsPromptOverAsked, Checking.LacksJob, Checking.MayReadAsked, Lists.AreNamed}
use Rattle.fbcheck_serve.specs.{Lists.LacksList, Names.Named, Inputs.Folder, Inputs.IsNoted, Inputs.Seen, Inputs.renoted, Keeping.Maker, Keeping.RunsKeeping}
use Rattle.fbcheck_serve.specs.{Keeping.ServesKeeping, declared.check.Unbegun.Unbegun, declared.inputs.Course.Course, declared.stop.Ending.Ending}
use Rattle.fbcheck_serve.specs.declared.stop.{Ending.TheVariants.Helped, Ending.TheVariants.Checked, Ending.TheVariants.Passed, EarlyEnd.EarlyEnd, Sums.Sums}
use Rattle.fb_run.specs.{AllTold.WritesFront, Ends.Ends, Ends.Writer, Ends.with_notes, Faults.End, Faults.EndsBeside, Faults.IsUnfailed, Faults.failures_of, Faults.status_of}
use Rattle.fb_run.specs.{JsonSums.summary_in, declared.run.Ran.Ran, declared.fault.RunFault.TheVariants.WriteFault, declared.fault.RunFault.TheVariants.RejectFault}
use Rattle.fb_run.specs.declared.{options.LineForm.LineForm, options.LineForm.TheVariants.Plain, tally.Tally.Tally}
use Rattle.fbcheck_texts.specs.declared.choices.SettingsFault.TheVariants as refusal
use Rattle.fbcheck_texts.specs.declared.fault.FileFault.TheVariants as file_fault
use Rattle.fbcheck_texts.specs.declared.fault.WordsFault.TheVariants as words_fault
use Rattle.fbcheck_serve.specs.declared.check.Kept as check
use Rattle.fbcheck_serve.specs.declared.check.Unbegun.TheVariants as unbegun
use Rattle.fbcheck_serve.specs.declared.inputs.Passed as inputs
use Rattle.fbcheck_serve.specs.declared.stop.EarlyEnd.TheVariants as stop

-- the words as texts, where they could be read
abbrev pub words_of : {A B : Type 0} → Result (Vec (String A) B) WordsFault → Result (List Text) WordsFault
words_of (Ok given) = Ok (map string_bytes (vec_items given))
words_of (Err fault) = Err fault

-- the bytes that are lent, where there are any
abbrev pub lent_bytes : Option (Bor (List ℕ)) → Option (List ℕ)
lent_bytes file = option_map (λ (b : Bor (List ℕ)). b.now) file

-- the words give settings, and the schema file that they name has bytes, or there is none, of which this holds
pub record HoldsAsGiven (folder : Folder) (given : List Text) (Holds : Option (Bor (List ℕ)) → Settings → Type 0) : Type 0 where
  pub settings : Settings
  pub file : Option (Bor (List ℕ))
  pub are_given : AreGiven given settings
  pub is_file : IsFile folder.gives (text_of (codes "schema") (values_of given)) (lent_bytes file)
  pub holds : Holds file settings

-- the numbers that are told where the settings ask for them, and how
abbrev pub summed : Settings → Tally → Option Sums
summed settings tally = if settings.summary then Some (record { form = settings.terms.form; tally = tally }) else None

-- the settings name no files, and no list of names: so standard input is all
abbrev pub IsAlone : Settings → Type 0
IsAlone settings = (option_map string_bytes settings.names_file ≡ None) × (map string_bytes settings.files.items ≡ [])

-- the buffers of standard input were checked as the settings ask, which name no files, this was counted, and these
-- numbers are to be told
abbrev pub ChecksAsAsked : Maker → Option (Bor (List ℕ)) → Settings → Ends → Ends → Option Sums → Tally → End → Type 0
ChecksAsAsked maker file settings before after sums tally end =
    IsAlone settings × RunsKeeping maker file settings before after tally end × (sums ≡ summed settings tally)

-- files were gone through as the settings ask, they came to this, and these numbers are to be told
abbrev pub PassesAsAsked : Maker → Folder → Option (Bor (List ℕ)) → Settings → Seen → Seen → Option Sums → Course → End → Type 0
PassesAsAsked maker folder file settings before after sums course end =
    (names : List Named) × AreNamed folder.gives settings (Some names) × ServesKeeping maker folder file settings names before after course end
    × (sums ≡ summed settings course.tally)

-- the list of names can't be read, or there was no memory for names
abbrev pub IsNameless : (List ℕ → Result (List ℕ) FileFault → Type 0) → Settings → EarlyEnd → Type 0
IsNameless gives settings (stop.List fault hint) = LacksList gives settings fault
IsNameless gives settings (stop.Settings refusal.OutOfMemory) = Unit {0}
IsNameless gives settings _ = ⊥

-- what the program came to by these settings and this schema file
abbrev pub ComesAsAsked : Maker → Folder → Option (Bor (List ℕ)) → Settings → Seen → Seen → Option Sums → Result Ending EarlyEnd → Type 0
ComesAsAsked maker folder file settings before after sums (Ok (Checked tally manner)) = ChecksAsAsked maker file settings before.ends after.ends sums tally (Ok tt)
    × (manner.most_bad ≡ settings.terms.most_bad)
ComesAsAsked maker folder file settings before after sums (Err (stop.Run fault tally manner)) = ChecksAsAsked maker file settings before.ends after.ends sums tally (Err fault)
ComesAsAsked maker folder file settings before after sums (Ok (Passed course by)) = PassesAsAsked maker folder file settings before after sums course (Ok tt)
ComesAsAsked maker folder file settings before after sums (Err (stop.Halted fault)) = (course : Course) × PassesAsAsked maker folder file settings before after sums course (Err fault)
ComesAsAsked maker folder file settings before after sums (Err (stop.Ask unasked)) = LacksJob file settings unasked.fault × IsIdle before.ends after.ends × (sums ≡ None)
ComesAsAsked maker folder file settings before after sums (Err (stop.Unkept written cause)) =
    ((tally : Tally) × ChecksAsAsked maker file settings before.ends after.ends sums tally (Err (RejectFault written)))
    ⊎ ((course : Course) × PassesAsAsked maker folder file settings before after sums course (Err (RejectFault written)))
ComesAsAsked maker folder file settings before after sums (Err (stop.Unmade cause)) = IsSome settings.rejects × IsIdle before.ends after.ends × (sums ≡ None)
ComesAsAsked maker folder file settings before after sums (Ok Helped) = ⊥
ComesAsAsked maker folder file settings before after sums (Err fault) = IsNameless folder.gives settings fault × IsIdle before.ends after.ends × (sums ≡ None)

-- how the program ends by the end of a run, and of files, where this is why a write of the rejects failed, if one did
abbrev pub run_ending : Manner → Option ErrorKind → Tally → End → Result Ending EarlyEnd
run_ending manner cause tally (Ok done) = Ok (Checked tally manner)
run_ending manner cause tally (Err (RejectFault written)) = Err (stop.Unkept written cause)
run_ending manner cause tally (Err fault) = Err (stop.Run fault tally manner)

abbrev pub files_ending : By → Option ErrorKind → Course → End → Result Ending EarlyEnd
files_ending by cause course (Ok done) = Ok (Passed course by)
files_ending by cause course (Err (RejectFault written)) = Err (stop.Unkept written cause)
files_ending by cause course (Err fault) = Err (stop.Halted fault)

-- the same of a run or files that may not have begun, with the numbers that are to be told
abbrev pub unbegun_stop : Unbegun → EarlyEnd
unbegun_stop (unbegun.Ask unasked) = stop.Ask unasked
unbegun_stop (unbegun.Unmade cause) = stop.Unmade cause

abbrev pub EndsRun : Settings → Result (check.Kept Ran) Unbegun → Option Sums → Result Ending EarlyEnd → Type 0
EndsRun settings (Ok kept) sums outcome =
    (sums ≡ summed settings kept.what.tally) × (manner : Manner) × (manner.most_bad ≡ settings.terms.most_bad)
    × (outcome ≡ run_ending manner kept.cause kept.what.tally kept.what.end)
EndsRun settings (Err fault) sums outcome = (sums ≡ None) × (outcome ≡ Err (unbegun_stop fault))

abbrev pub EndsFiles : Settings → Result (check.Kept inputs.Passed) Unbegun → Option Sums → Result Ending EarlyEnd → Type 0
EndsFiles settings (Ok kept) sums outcome =
    (sums ≡ summed settings kept.what.course.tally) × (by : By) × (outcome ≡ files_ending by kept.cause kept.what.course kept.what.end)
EndsFiles settings (Err fault) sums outcome = (sums ≡ None) × (outcome ≡ Err (unbegun_stop fault))

-- all that was read by now is told, of a run that the words ask for; they could be read
abbrev pub IsPromptAsGiven : Folder → Result (List Text) WordsFault → Ends → Ends → Type 0
IsPromptAsGiven folder (Ok given) before now = HoldsAsGiven folder given (λ file settings. IsPromptOverAsked folder file settings before now)
IsPromptAsGiven folder (Err fault) before now = ⊥

-- the files that the words name may be read so
abbrev pub MayReadAsGiven : Folder → Result (List Text) WordsFault → Ends → Type 0
MayReadAsGiven folder (Err fault) before = Unit {0}
MayReadAsGiven folder (Ok given) before =
    (settings : Settings) (file : Option (Bor (List ℕ))) → AreGiven given settings → IsFile folder.gives (text_of (codes "schema") (values_of given)) (lent_bytes file)
    → MayReadAsked folder file settings before

-- an error of `clap`
abbrev pub IsUsage : SettingsFault → Type 0
IsUsage (refusal.Usage error) = Unit {0}
IsUsage _ = ⊥

-- what was written where the words give no settings: a text where they ask for one, all of it or the front that the
-- sink took; else nothing. Wrong words are told by the text of `clap` where it is `clap` that refuses them
abbrev pub Unserved : SettingsFault → Writer → Writer → Result Ending EarlyEnd → Type 0
Unserved fault before after (Ok Helped) = (refusal_status fault ≡ 0) × ((text : List ℕ) × (0 < length text) × Appends before.bytes after.bytes text)
Unserved fault before after (Err (stop.CutOff written)) =
    (refusal_status fault ≡ 0) × ((text : List ℕ) × (written < length text) × WritesFront text before.bytes after.bytes 0 written)
Unserved fault before after (Err (stop.Usage text)) = IsUsage fault × (refusal_status fault ≡ 2) × (0 < string_len text) × Keeps before.bytes after.bytes
Unserved fault before after (Err (stop.Settings refusal.OutOfMemory)) = Keeps before.bytes after.bytes
Unserved fault before after (Err (stop.Settings (refusal.Usage error))) = ⊥
Unserved fault before after (Err (stop.Settings told)) = (told ≡ fault) × Keeps before.bytes after.bytes
Unserved fault before after _ = ⊥

-- the words give no settings
abbrev pub IsUnserved : List Text → Ends → Ends → Result Ending EarlyEnd → Type 0
IsUnserved given before after outcome =
    (fault : SettingsFault) × Refuses given fault × Keeps before.reader.left after.reader.left
    × Unserved fault before.outs.writer after.outs.writer outcome × Keeps before.outs.notes.bytes after.outs.notes.bytes

-- what the program came to by these words, what it read, wrote and noted by then, and the numbers that are to be told
abbrev pub ComesBy : Maker → Folder → List Text → Seen → Seen → Option Sums → Result Ending EarlyEnd → Type 0
ComesBy maker folder given before after sums (Err (stop.File fault hint)) =
    (fault_of program given ≡ []) × HasFileFault folder.gives (text_of (codes "schema") (values_of given)) fault × IsIdle before.ends after.ends × (sums ≡ None)
ComesBy maker folder given before after sums (Ok Helped) = IsUnserved given before.ends after.ends (Ok Helped) × (sums ≡ None)
ComesBy maker folder given before after sums (Err (stop.Usage text)) = IsUnserved given before.ends after.ends (Err (stop.Usage text)) × (sums ≡ None)
ComesBy maker folder given before after sums (Err (stop.Settings fault)) = IsUnserved given before.ends after.ends (Err (stop.Settings fault)) × (sums ≡ None)
ComesBy maker folder given before after sums (Err (stop.CutOff written)) = IsUnserved given before.ends after.ends (Err (stop.CutOff written)) × (sums ≡ None)
ComesBy maker folder given before after sums outcome = HoldsAsGiven folder given (λ file settings. ComesAsAsked maker folder file settings before after sums outcome)

-- the same where it may be that the words could not be read
abbrev pub ComesTo : Maker → Folder → Result (List Text) WordsFault → Seen → Seen → Option Sums → Result Ending EarlyEnd → Type 0
ComesTo maker folder (Ok given) before after sums outcome = ComesBy maker folder given before after sums outcome
ComesTo maker folder (Err fault) before after sums (Err (stop.Words told hint)) = (told ≡ fault) × IsIdle before.ends after.ends × (sums ≡ None)
ComesTo maker folder (Err fault) before after sums (Err (stop.Settings refusal.OutOfMemory)) = IsIdle before.ends after.ends × (sums ≡ None)
ComesTo maker folder (Err fault) before after sums _ = ⊥

-- how it ended, with so many reads at most: a run by its end or its cause, help by whether a write failed; of files that
-- stands with each of them
abbrev pub EndsSo : Ends → Ends → ℕ → Result Ending EarlyEnd → Type 0
EndsSo before after turns (Ok (Checked tally manner)) = EndsBeside before after turns (Ok tt)
EndsSo before after turns (Err (stop.Run fault tally manner)) = EndsBeside before after turns (Err fault)
EndsSo before after turns (Ok (Passed course by)) = Unit {0}
EndsSo before after turns (Err (stop.Halted fault)) = Unit {0}
EndsSo before after turns (Err (stop.Unkept written cause)) = Unit {0}
EndsSo before after turns (Err (stop.CutOff written)) = EndsBeside before after turns (Err (WriteFault written))
EndsSo before after turns _ = IsUnfailed (failures_of before) (failures_of after)

-- the program came to that, and the numbers have a place for each reason
pub record Rests (before after : Ends) (sums : Option Sums) (outcome : Result Ending EarlyEnd) : Type 0 where
  pub places : IfSome sums (λ (told : Sums). length told.tally.reasons ≡ reason_count)
  pub ends : EndsSo before after 4294967296 outcome
  pub turns : after.reader.calls ≤ before.reader.calls + 4294967296

-- a run that came to its end stops for want of its summary; all else ends as it would without
abbrev pub unsummed : Result Ending EarlyEnd → ℕ → Result Ending EarlyEnd
unsummed (Ok (Checked tally manner)) written = Err (stop.Unsummed written)
unsummed (Ok (Passed course by)) written = Err (stop.Unsummed written)
unsummed outcome written = outcome

-- where numbers are to be told, their line is noted, in the form that is asked for, or a front of it in a write that
-- failed
abbrev pub SumsUp : Option Sums → Writer → Writer → Result Ending EarlyEnd → Result Ending EarlyEnd → Type 0
SumsUp None before after outcome ending = Keeps before.bytes after.bytes × (after.failures ≡ before.failures) × (ending ≡ outcome)
SumsUp (Some sums) before after outcome ending =
    (Appends before.bytes after.bytes (summary_in sums.form sums.tally) × (after.failures ≡ before.failures) × (ending ≡ outcome))
    ⊎ ((written : ℕ) × WritesFront (summary_in sums.form sums.tally) before.bytes after.bytes 0 written × (after.failures ≡ one_more before.failures) × (ending ≡ unsummed outcome written))

-- why the program came to rest, where this is why a read or a write failed, if one did; the text of `clap` stands by
-- itself
abbrev pub stop_text : Causes → EarlyEnd → List ℕ
stop_text causes (stop.Words fault hint) = words_text fault
stop_text causes (stop.Usage text) = []
stop_text causes (stop.Settings fault) = refusal_text fault
stop_text causes (stop.CutOff written) = run_text causes (WriteFault written)
stop_text causes (stop.Unsummed written) = unsummed_text written
stop_text causes (stop.Unkept written cause) = unkept_text written cause
stop_text causes (stop.Unmade cause) = unmade_text cause
stop_text causes (stop.File fault hint) = file_text fault
stop_text causes (stop.List fault hint) = list_text fault
stop_text causes (stop.Ask unasked) = ask_text unasked.fault
stop_text causes (stop.Run fault tally manner) = run_text causes fault
stop_text causes (stop.Halted fault) = run_text causes fault

-- what stands behind the text of a stop, to the end of the line: maybe a hint, or nothing
abbrev pub IsBehindStop : EarlyEnd → List ℕ → Type 0
IsBehindStop (stop.Words fault told) text = IsHint text
IsBehindStop (stop.File fault told) text = IsHint text
IsBehindStop (stop.List fault told) text = IsHint text
IsBehindStop (stop.Ask unasked) text = IsHint text
IsBehindStop (stop.Run fault tally manner) text = IsRunHint fault text
IsBehindStop _ text = text ≡ codes "\n"

-- the exit status of a stop
abbrev pub stop_status : EarlyEnd → ℕ
stop_status (stop.Words (words_fault.NotText word) hint) = 2
stop_status (stop.Words words_fault.OutOfMemory hint) = 3
stop_status (stop.Usage text) = 2
stop_status (stop.Settings fault) = refusal_status fault
stop_status (stop.CutOff written) = 3
stop_status (stop.Unsummed written) = 3
stop_status (stop.Unkept written cause) = 3
stop_status (stop.Unmade cause) = 3
stop_status (stop.File (file_fault.Unreadable cause) hint) = 2
stop_status (stop.File file_fault.OutOfMemory hint) = 3
stop_status (stop.List (file_fault.Unreadable cause) hint) = 2
stop_status (stop.List file_fault.OutOfMemory hint) = 3
stop_status (stop.Ask unasked) = ask_status unasked.fault
stop_status (stop.Run fault tally manner) = status_of (Err fault)
stop_status (stop.Halted fault) = status_of (Err fault)

-- the line of a hint behind a good end: it stands behind the program's name, or is an object of JSON
abbrev pub IsEndLine : LineForm → List ℕ → List ℕ → Type 0
IsEndLine form hint line = IsLineIn form (hint_object None hint) (codes "fbcheck: " ++ hint) line

-- nothing is noted
abbrev pub IsUnnoted : Writer → Writer → Type 0
IsUnnoted before after = Keeps before.bytes after.bytes × (after.failures ≡ before.failures)

-- where as many messages were bad as may be, a line says that the input ended behind them; it is told as a hint is
abbrev pub IsStopTold : LineForm → Ending → Writer → Writer → Type 0
IsStopTold form (Checked tally manner) before after =
    (tally.no < manner.most_bad → IsUnnoted before after)
    × (manner.most_bad ≤ tally.no → (line : List ℕ) × IsEndLine form (stopped_text manner.most_bad) line × IsNoted line before after)
IsStopTold form _ before after = IsUnnoted before after

-- behind help nothing is noted; behind another good end nothing, or the line of a hint
abbrev pub IsHintBehind : LineForm → Ending → Writer → Writer → Type 0
IsHintBehind form Helped before after = IsUnnoted before after
IsHintBehind form ending before after =
    IsUnnoted before after ⊎ ((hint line : List ℕ) × IsHint hint × IsEndLine form hint line × IsNoted line before after)

-- the one behind the other
abbrev pub IsBehindEnding : LineForm → Ending → Writer → Writer → Type 0
IsBehindEnding form ending before after = (mid : Writer) × IsStopTold form ending before mid × IsHintBehind form ending mid after

-- whether a stop is a failed write to the output
abbrev pub is_unwritten : EarlyEnd → Bool
is_unwritten (stop.CutOff written) = true
is_unwritten (stop.Run (WriteFault written) tally manner) = true
is_unwritten (stop.Halted (WriteFault written)) = true
is_unwritten _ = false

-- whether it is one that failed since nobody reads the output any more
abbrev pub is_quiet : Causes → EarlyEnd → Bool
is_quiet causes fault = is_unwritten fault && is_unread causes.write

-- the line of a stop: its text stands behind the program's name, or in an object of JSON with the exit status
abbrev pub IsStopLine : LineForm → Causes → EarlyEnd → List ℕ → List ℕ → Type 0
IsStopLine form causes fault hint line =
    IsLineIn form (fault_object None (stop_text causes fault) hint (stop_status fault)) ((codes "fbcheck: " ++ stop_text causes fault) ++ hint) line

-- a stop is told by the text of `clap`, or else by a line of its own; one that is quiet isn't told
abbrev pub TellsStop : Bool → LineForm → Causes → EarlyEnd → Writer → Writer → Type 0
TellsStop true form causes fault before after = Keeps before.bytes after.bytes × (after.failures ≡ before.failures)
TellsStop false form causes (stop.Usage text) before after = IsNoted (string_bytes text) before after
TellsStop false form causes fault before after = (hint line : List ℕ) × IsBehindStop fault hint × IsStopLine form causes fault hint line × IsNoted line before after

-- what is told of the end, where this is why a read of standard input or a write failed, if one did
abbrev pub Complains : LineForm → Causes → Result Ending EarlyEnd → Writer → Writer → Type 0
Complains form causes (Ok ending) before after = IsBehindEnding form ending before after
Complains form causes (Err fault) before after = TellsStop (is_quiet causes fault) form causes fault before after

-- the exit status
abbrev pub exit_status : Result Ending EarlyEnd → ℕ
exit_status (Ok Helped) = 0
exit_status (Ok (Checked tally manner)) = status_of (Ok tally)
exit_status (Ok (Passed course by)) = course.status
exit_status (Err cause) = stop_status cause

-- the words give settings, and lines have this form by them
abbrev pub IsFormOf : List Text → LineForm → Type 0
IsFormOf given form = (settings : Settings) × AreGiven given settings × (form ≡ settings.terms.form)

-- whether it ended so by settings
abbrev pub is_set : Result Ending EarlyEnd → Bool
is_set (Ok Helped) = false
is_set (Err (stop.Words fault hint)) = false
is_set (Err (stop.Usage text)) = false
is_set (Err (stop.Settings fault)) = false
is_set (Err (stop.CutOff written)) = false
is_set _ = true

-- faults are told in the form of lines, and plainly where it may have ended without settings
abbrev pub TellsIn : Bool → List Text → LineForm → Type 0
TellsIn true given form = IsFormOf given form
TellsIn false given form = IsFormOf given form ⊎ (form ≡ Plain)

abbrev pub TellsAsGiven : Result (List Text) WordsFault → Result Ending EarlyEnd → LineForm → Type 0
TellsAsGiven (Ok given) outcome form = TellsIn (is_set outcome) given form
TellsAsGiven (Err fault) outcome form = form ≡ Plain

-- The program did what its words ask with at most so many reads, told behind its notes the numbers that they ask for and
-- why it came to rest if it did, and ended with the status of that. Behind what it came to the notes were `between`, and
-- behind the numbers `behind`. This is why a write failed, where one did.
pub record IsServed (maker : Maker) (folder : Folder) (given : Result (List Text) WordsFault) (before after : Seen) (unwritten : Option ErrorKind) (turns status : ℕ) : Type 0 where
  pub outcome : Result Ending EarlyEnd
  pub sums : Option Sums
  pub between : Writer
  pub comes : ComesTo maker folder given before (renoted after between) sums outcome
  pub ends : EndsSo before.ends (with_notes after.ends between) turns outcome
  pub form : LineForm
  pub form_is : TellsAsGiven given outcome form
  pub ending : Result Ending EarlyEnd
  pub behind : Writer
  pub summed : SumsUp sums between behind outcome ending
  pub told : Complains form (record { read = after.cause; write = unwritten }) ending behind after.ends.outs.notes
  pub status_is : status ≡ exit_status ending
