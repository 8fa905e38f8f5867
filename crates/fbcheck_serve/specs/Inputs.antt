-- Files as inputs, one behind another.
use Rattle.std.specs.Prelude.{◌≡◌, ◌<◌, ◌≤◌, ℕ, ◌+◌, ◌⊎◌, Bool, true, false, ◌||◌, is_some, min, max, nat_lt, length, List, [], ◌∷◌, ◌++◌, IfSome, Option, Some, None, Result, Ok, Err, codes}
use Rattle.std.specs.{List.flat_map, Io.KnownBytes.Appends}
use Rattle.fb_run.specs.{AllTold.WritesFront, AnswerText.byte_text, Ends.Ends, Ends.Outs, Ends.Reader, Ends.Writer, Ends.beside, Ends.with_notes, Faults.End, Faults.EndsBeside, Faults.status_of}
use Rattle.fb_run.specs.{Job.Job, Leave.IsUnended, Leave.MayAsk, Leave.all_ends, Leave.ends_of, Leave.reader_of, Prompt.IsPrompt, Run.IsRunBeside, Run.answer_by, Sums.no_tally}
use Rattle.fb_run.specs.declared.{fault.RunFault.RunFault, options.LineForm.LineForm, run.Ran.Ran, tally.Tally.Tally}
use Rattle.fb_bytes.specs.Ends.{one_more}
use Rattle.fb_bytes.specs.declared.ends.Sink as sink
use Rattle.fb_run.specs.declared.input.Input as input
use Rattle.fb_run.specs.declared.fault.RunFault.TheVariants.{WriteFault, NoteFault, RejectFault, OutOfMemory}
use Rattle.std.specs.declared.io.ErrorKind.{ErrorKind}
use Rattle.fbcheck_texts.specs.{Causes.reason_text, FaultJson.IsLineIn, FaultJson.fault_object, FaultJson.hint_object, Hints.IsHint, Hints.IsRunHint, Texts.of_read, Texts.run_text}
use Rattle.fbcheck_texts.specs.{Texts.stopped_text, declared.fault.FileFault.FileFault}
use Rattle.fbcheck_texts.specs.declared.causes.Explains as explains
use Rattle.fbcheck_texts.specs.declared.fault.FileFault.TheVariants as file
use Rattle.fbcheck_serve.specs.{Names.Named, Names.is_standard, Names.misnomer_text, Names.wrong_name}
use Rattle.fbcheck_serve.specs.declared.inputs.{Course.Course, Standard.Standard, Standard.TheVariants.Unread, Standard.TheVariants.Spent, Missed.Missed}
use Rattle.fbcheck_serve.specs.declared.files.Files as files
use Rattle.fbcheck_serve.specs.declared.inputs.Missed.TheVariants as missed

-- the sum of two counts of messages, or the most that is told
abbrev pub sum_of_counts : ℕ → ℕ → ℕ
sum_of_counts some more = min (some + more) 18446744073709551615

-- of two wider ones
abbrev pub sum_of_bytes : ℕ → ℕ → ℕ
sum_of_bytes some more = min (some + more) 340282366920938463463374607431768211455

-- the sums of how often each reason was given
abbrev pub sums : List ℕ → List ℕ → List ℕ
sums [] more = []
sums (count ∷ counts) [] = count ∷ counts
sums (count ∷ counts) (more ∷ mores) = sum_of_counts count more ∷ sums counts mores

-- what two inputs come to
abbrev pub sum_of : Tally → Tally → Tally
sum_of some more = record {
  yes = sum_of_counts some.yes more.yes;
  no = sum_of_counts some.no more.no;
  reasons = sums some.reasons more.reasons;
  bytes = sum_of_bytes some.bytes more.bytes;
  tables = sum_of_bytes some.tables more.tables;
  reads = sum_of_bytes some.reads more.reads;
}

-- whether there are several
abbrev pub are_several : {A : Type 0} → List A → Bool
are_several names = nat_lt 1 (length names)

-- whether lines tell of which file they are: where there are several, or where lines of standard input do by themselves
abbrev pub are_named : {A : Type 0} → Option (List ℕ) → List A → Bool
are_named label names = is_some label || are_several names

-- the name that each line begins with
abbrev pub label_of : Bool → List ℕ → Option (List ℕ)
label_of false name = None
label_of true name = Some name

-- what is asked of each buffer, with the label of its lines
abbrev pub with_label : Option (List ℕ) → Job → Job
with_label label job = record job { label = label }

-- what contracts see of files, by the ghosts of their trait: what a read of the file of a name may answer, what may be
-- opened by a name, what is told of that as a reader, with the leave to ask it, and why a read of it failed, where one did
pub record Folder : Type 1 where
  pub gives : List ℕ → Result (List ℕ) FileFault → Type 0
  pub Opened : Type 0
  pub opens : List ℕ → Opened → Type 0
  pub reader : Opened → Reader
  pub may_ask : Ends → Type 0
  pub cause : Opened → Option ErrorKind

abbrev pub folder_of : {F K N O : Type 0} → files.Ghosts F K N O → input.Ghosts O K N → explains.Ghosts O → F → Folder
folder_of {F} {K} {N} {O} f o e folder = record {
  gives = f.gives folder;
  Opened = O;
  opens = f.opens folder;
  reader = λ (file : O). reader_of o file;
  may_ask = λ (now : Ends). MayAsk o now;
  cause = λ (file : O). e.cause file;
}

-- the ends, and why a read of standard input failed, where one did
pub record Seen : Type 0 where
  pub ends : Ends
  pub cause : Option ErrorKind

abbrev pub with_cause : Ends → Option ErrorKind → Seen
with_cause ends cause = record { ends = ends; cause = cause }

-- what the ghosts of their traits tell of them
abbrev pub all_seen : {S K N R : Type 0} → input.Ghosts S K N → explains.Ghosts S → sink.Ghosts K → sink.Ghosts N → sink.Ghosts R → S → K → N → R → Seen
all_seen s e k n r reader writer notes rejects = with_cause (all_ends s k n r reader writer notes rejects) (e.cause reader)

-- the same where rejects go nowhere
abbrev pub seen_of : {S K N : Type 0} → input.Ghosts S K N → explains.Ghosts S → sink.Ghosts K → sink.Ghosts N → S → K → N → Seen
seen_of s e k n reader writer notes = with_cause (ends_of s k n reader writer notes) (e.cause reader)

-- the same with these notes
abbrev pub renoted : Seen → Writer → Seen
renoted before notes = record before { ends = with_notes before.ends notes }

-- nothing was asked of a reader, which told no end
abbrev pub IsFresh : Reader → Type 0
IsFresh reader = (reader.calls ≡ 0) × (reader.ended ≡ false)

-- a run over what was opened by a name, from its start, how it ended, and the cause that it tells; where its bytes are
-- known, a read of the file of that name may give them
pub record RunsOpened (folder : Folder) (job : Job) (name : Named) (before after : Seen) (ran : Ran) (cause : Option ErrorKind) : Type 0 where
  pub from : folder.Opened
  pub to : folder.Opened
  pub named : wrong_name name ≡ None
  pub opened : folder.opens name.bytes from
  pub fresh : IsFresh (folder.reader from)
  pub bytes : IfSome (folder.reader from).left (λ bytes. folder.gives name.bytes (Ok bytes))
  pub run : IsRunBeside job (beside (folder.reader from) before.ends.outs) (beside (folder.reader to) after.ends.outs) ran.tally ran.end
  pub end : EndsBeside (beside (folder.reader from) before.ends.outs) (beside (folder.reader to) after.ends.outs) 4294967296 ran.end
  pub turns : (folder.reader to).calls ≤ 4294967296
  pub cause_is : cause ≡ folder.cause to
  pub reader : after.ends.reader ≡ before.ends.reader
  pub unread : after.cause ≡ before.cause

-- a run over standard input, for the first time, how it ended, and the cause that it tells
pub record RunsStandard (job : Job) (standard : Standard) (before after : Seen) (ran : Ran) (cause : Option ErrorKind) : Type 0 where
  pub first : standard ≡ Unread
  pub run : IsRunBeside job before.ends after.ends ran.tally ran.end
  pub end : EndsBeside before.ends after.ends 4294967296 ran.end
  pub cause_is : cause ≡ after.cause

-- the one of both that the name says
abbrev pub RunsOver : Bool → Folder → Job → Named → Standard → Seen → Seen → Ran → Option ErrorKind → Type 0
RunsOver true folder job name standard before after ran cause = RunsStandard job standard before after ran cause
RunsOver false folder job name standard before after ran cause = RunsOpened folder job name before after ran cause

-- why there is no run over a file: it can't be opened, its name is that of none, or it is standard input, which was read
-- before
abbrev pub IsMissed : Folder → Named → Standard → Missed → Type 0
IsMissed folder name standard (missed.File fault) = (is_standard name ≡ false) × (wrong_name name ≡ None) × folder.gives name.bytes (Err fault)
IsMissed folder name standard (missed.Name why) = (is_standard name ≡ false) × (wrong_name name ≡ Some why)
IsMissed folder name standard missed.Again = (is_standard name ≡ true) × (standard ≡ Spent)

-- what a file came to, and what was read, written and noted by then, with the cause that its reader tells
abbrev pub ComesOf : Folder → Job → Named → Standard → Seen → Seen → Result Ran Missed → Option ErrorKind → Type 0
ComesOf folder job name standard before after (Ok ran) cause = RunsOver (is_standard name) folder job name standard before after ran cause
ComesOf folder job name standard before after (Err missed) cause = IsMissed folder name standard missed × (after ≡ before)

-- the line that tells why a file wasn't checked to its end, with what stands behind that
abbrev pub fault_line : List ℕ → List ℕ → List ℕ → List ℕ
fault_line name why behind = codes "fbcheck: " ++ flat_map byte_text name ++ codes ": " ++ why ++ behind

-- the line that tells so, and the one that tells a hint, by the form of lines
abbrev pub IsFaultLine : LineForm → List ℕ → List ℕ → List ℕ → List ℕ → Type 0
IsFaultLine form name why behind line = IsLineIn form (fault_object (Some name) why behind 3) (fault_line name why behind) line

abbrev pub IsHintLine : LineForm → List ℕ → List ℕ → List ℕ → Type 0
IsHintLine form name hint line = IsLineIn form (hint_object (Some name) hint) (fault_line name hint []) line

-- this line was noted; or in a write that failed a front of it, or nothing for want of memory, and that ends it all
abbrev pub IsNotedOf : List ℕ → Writer → Writer → End → Type 0
IsNotedOf line before after (Ok done) = Appends before.bytes after.bytes line × (after.failures ≡ before.failures)
IsNotedOf line before after (Err (NoteFault written)) = WritesFront line before.bytes after.bytes 0 written × (after.failures ≡ one_more before.failures)
IsNotedOf line before after (Err OutOfMemory) = after ≡ before
IsNotedOf line before after (Err _) = ⊥

-- this text was noted, or a front of it in a write that failed, as the count of such writes before and after tells
abbrev pub IsNoted : List ℕ → Writer → Writer → Type 0
IsNoted text before after =
    (Appends before.bytes after.bytes text × (after.failures ≡ before.failures))
    ⊎ ((written : ℕ) × WritesFront text before.bytes after.bytes 0 written × (after.failures ≡ one_more before.failures))

-- a hint was noted so; or nothing for want of memory, and that ends it all
abbrev pub IsHintOf : List ℕ → Writer → Writer → End → Type 0
IsHintOf line before after (Ok done) = IsNoted line before after
IsHintOf line before after (Err OutOfMemory) = after ≡ before
IsHintOf line before after (Err _) = ⊥

-- why a file wasn't checked to its end was noted so, with what stands behind that
abbrev pub TellsFault : LineForm → List ℕ → List ℕ → List ℕ → Writer → Writer → End → Type 0
TellsFault form name why behind before after end = (line : List ℕ) × IsFaultLine form name why behind line × IsNotedOf line before after end

-- whether this ends it all: a failed write or note, or want of memory
abbrev pub is_final : RunFault → Bool
is_final (WriteFault written) = true
is_final (NoteFault written) = true
is_final (RejectFault written) = true
is_final OutOfMemory = true
is_final fault = false

-- behind a fault of a run, of which this is the cause: nothing, where that ends it all; else its text is noted, maybe
-- with a hint
abbrev pub IsBehindFault : Bool → LineForm → List ℕ → RunFault → Option ErrorKind → Writer → Writer → End → Type 0
IsBehindFault true form name fault cause before after end = (end ≡ Err fault) × (after ≡ before)
IsBehindFault false form name fault cause before after end = (hint : List ℕ) × IsRunHint fault hint × TellsFault form name (run_text (of_read cause) fault) hint before after end

-- behind a run that came to its end: nothing, or a hint
abbrev pub IsBehindEnd : LineForm → List ℕ → Writer → Writer → End → Type 0
IsBehindEnd form name before after end =
    (end ≡ Ok tt) × (after ≡ before) ⊎ ((hint line : List ℕ) × IsHint hint × IsHintLine form name hint line × IsHintOf line before after end)

-- where as many messages were bad as may be, a line says that the run over the file ended behind them; it is told as a
-- hint is
abbrev pub IsStopOf : LineForm → ℕ → List ℕ → Tally → Writer → Writer → Type 0
IsStopOf form most name tally before after =
    (tally.no < most → after ≡ before)
    × (most ≤ tally.no → (line : List ℕ) × IsHintLine form name (stopped_text most) line × IsNoted line before after)

-- behind a run that ended well: that, and then what is told of its end; or nothing for want of memory, and that ends it
-- all
abbrev pub IsBehindGood : LineForm → ℕ → List ℕ → Tally → Writer → Writer → End → Type 0
IsBehindGood form most name tally before after end =
    ((mid : Writer) × IsStopOf form most name tally before mid × IsBehindEnd form name mid after end) ⊎ ((end ≡ Err OutOfMemory) × (after ≡ before))

-- behind a run, of which so many messages may be bad
abbrev pub IsBehindRunSo : LineForm → ℕ → List ℕ → Tally → End → Option ErrorKind → Writer → Writer → End → Type 0
IsBehindRunSo form most name tally (Ok done) cause before after end = IsBehindGood form most name tally before after end
IsBehindRunSo form most name tally (Err fault) cause before after end = IsBehindFault (is_final fault) form name fault cause before after end

abbrev pub IsBehindRun : LineForm → ℕ → List ℕ → Ran → Option ErrorKind → Writer → Writer → End → Type 0
IsBehindRun form most name ran = IsBehindRunSo form most name ran.tally ran.end

-- the same where there may have been no run
abbrev pub IsBehind : LineForm → ℕ → List ℕ → Result Ran Missed → Option ErrorKind → Writer → Writer → End → Type 0
IsBehind form most name (Ok ran) cause before after end = IsBehindRun form most name ran cause before after end
IsBehind form most name (Err (missed.File file.OutOfMemory)) cause before after end = (end ≡ Err OutOfMemory) × (after ≡ before)
IsBehind form most name (Err (missed.File (file.Unreadable why))) cause before after end = TellsFault form name (reason_text why) (codes "\n") before after end
IsBehind form most name (Err (missed.Name why)) cause before after end = TellsFault form name (misnomer_text why) (codes "\n") before after end
IsBehind form most name (Err missed.Again) cause before after end = TellsFault form name (codes "standard input was read before") (codes "\n") before after end

-- standard input once this file was gone through
abbrev pub standard_after : Bool → Standard → Standard
standard_after true standard = Spent
standard_after false standard = standard

-- what the files came to with this one: the sum of the numbers, and the greatest status
abbrev pub course_with : Named → Result Ran Missed → Course → Course
course_with name (Ok ran) course = record {
  tally = sum_of course.tally ran.tally;
  status = max course.status (status_of (answer_by ran.tally ran.end));
  standard = standard_after (is_standard name) course.standard;
}
course_with name (Err cause) course = record {
  tally = course.tally;
  status = max course.status 3;
  standard = standard_after (is_standard name) course.standard;
}

-- what files came to so far, and what was read, written and noted by then
pub record Stand : Type 0 where
  pub seen : Seen
  pub course : Course

-- no file
abbrev pub no_course : Course
no_course = record { tally = no_tally; status = 0; standard = Unread }

abbrev pub at_first : Seen → Stand
at_first before = record { seen = before; course = no_course }

abbrev pub stand : Seen → Course → Stand
stand now course = record { seen = now; course = course }

-- a file was gone through: it goes on behind it, or that ended it all
pub record Passes (folder : Folder) (job : Job) (name : Named) (before after : Stand) (end : End) : Type 0 where
  pub came : Result Ran Missed
  pub cause : Option ErrorKind
  pub between : Seen
  pub comes : ComesOf folder job name before.course.standard before.seen between came cause
  pub told : IsBehind job.terms.form job.terms.most_bad name.bytes came cause between.ends.outs.notes after.seen.ends.outs.notes end
  pub others : after.seen ≡ renoted between after.seen.ends.outs.notes
  pub course_is : after.course ≡ course_with name came before.course

-- a file isn't begun for want of memory
abbrev pub IsUnbegun : RunFault → Type 0
IsUnbegun OutOfMemory = Unit {0}
IsUnbegun _ = ⊥

-- a file was gone through, or wasn't begun
abbrev pub Tries : Folder → Job → Named → Stand → Stand → End → Type 0
Tries folder job name before after (Ok done) = Passes folder job name before after (Ok tt)
Tries folder job name before after (Err fault) = Passes folder job name before after (Err fault) ⊎ (IsUnbegun fault × (after ≡ before))

-- all these files were gone through, in their order
abbrev pub PassesAll : Folder → Job → Bool → List Named → Stand → Stand → Type 0
PassesAll folder job several [] before after = after ≡ before
PassesAll folder job several (name ∷ names) before after =
    (mid : Stand) × Tries folder (with_label (label_of several name.bytes) job) name before mid (Ok tt) × PassesAll folder job several names mid after

-- one of the files ended it all, behind those before it
pub record HaltsAmong (folder : Folder) (job : Job) (names : List Named) (before after : Stand) (fault : RunFault) : Type 0 where
  pub front : List Named
  pub name : Named
  pub rest : List Named
  pub names_are : names ≡ front ++ (name ∷ rest)
  pub mid : Stand
  pub passes : PassesAll folder job (are_named job.label names) front before mid
  pub halts : Tries folder (with_label (label_of (are_named job.label names) name.bytes) job) name mid after (Err fault)

-- the files were gone through, all of them or up to one that ended it all
abbrev pub ServesEach : Folder → Job → List Named → Stand → Stand → End → Type 0
ServesEach folder job names before after (Ok done) = PassesAll folder job (are_named job.label names) names before after
ServesEach folder job names before after (Err fault) = HaltsAmong folder job names before after fault

-- beside these outputs each file that is opened by this name may be asked wherever no read of it failed or told its end
-- and all that was read of it is told
abbrev pub MayRead : Folder → Job → Named → Outs → Type 0
MayRead folder job name outs =
    (file : folder.Opened) (now : Ends) → folder.opens name.bytes file → IsPrompt job (beside (folder.reader file) outs) now → IsUnended (folder.reader file) now.reader → folder.may_ask now

-- so may each of these files that isn't standard input, once those before it were gone through
abbrev pub MayReadEach : Folder → Job → List Named → Ends → Type 0
MayReadEach folder job names before =
    (front rest : List Named) (name : Named) (cause : Option ErrorKind) (mid : Stand) → names ≡ front ++ (name ∷ rest) → is_standard name ≡ false
    → PassesAll folder job (are_named job.label names) front (at_first (with_cause before cause)) mid
    → MayRead folder (with_label (label_of (are_named job.label names) name.bytes) job) name mid.seen.ends.outs

-- all that was read by now is told, where standard input is read among these files: of those before it, and then of it
pub record IsPromptAmong (folder : Folder) (job : Job) (names : List Named) (before now : Ends) : Type 0 where
  pub front : List Named
  pub name : Named
  pub rest : List Named
  pub names_are : names ≡ front ++ (name ∷ rest)
  pub standard : is_standard name ≡ true
  pub cause : Option ErrorKind
  pub mid : Stand
  pub passes : PassesAll folder job (are_named job.label names) front (at_first (with_cause before cause)) mid
  pub unread : mid.course.standard ≡ Unread
  pub prompt : IsPrompt (with_label (label_of (are_named job.label names) name.bytes) job) mid.seen.ends now

-- the same where no names are asked for, and standard input is all
abbrev pub IsPromptOver : Folder → Job → Option (List Named) → Ends → Ends → Type 0
IsPromptOver folder job None before now = IsPrompt job before now
IsPromptOver folder job (Some names) before now = IsPromptAmong folder job names before now
