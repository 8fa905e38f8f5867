-- A run by the schema of a file, or without one by the fixed table of schema files.
use Rattle.std.specs.Prelude.{◌≡◌, ℕ, IsTrue, false, List, [], Option, Some, None, Result, Ok, Err, length, codes, map}
use Rattle.std.specs.{Borrow.Bor, Io.KnownBytes.Keeps}
use Rattle.fb_schema.specs.Rows.{Rows}
use Rattle.fb_bfbs.specs.{Fixed.fixed, Loads.IsLoaded, Loads.IsLoadFault, Loads.schema_number, declared.loading.Loaded.Loaded, declared.load_fault.LoadFault.LoadFault}
use Rattle.fb_bfbs.specs.declared.load_fault.LoadFault.TheVariants as load
use Rattle.fb_bfbs.specs.{LoadLaws.ident_bytes, ByteFields.HasUnmarked, Marks.AreMarks, Marks.Marked, Marks.marked, declared.marks.Builtins.Builtins, declared.marks.Marks.Marks}
use Rattle.fb_strict.specs.Planned.{IsPlan, Planned}
use Rattle.fbcheck_texts.specs.declared.choices.Settings.{Settings}
use Rattle.fbcheck_texts.specs.declared.fault.{AskFault.AskFault, CheckFault.CheckFault, AskFault.TheVariants.Load, AskFault.TheVariants.Path, AskFault.TheVariants.UnmarkedBytes}
use Rattle.fbcheck_texts.specs.declared.{fault.AskFault.TheVariants.NoSuchTable, fault.AskFault.TheVariants.OutOfMemory, hint.Unasked.Unasked}
use Rattle.fbcheck_serve.specs.{ByteFields.AreTold, ByteFields.LacksTable, ByteFields.Misses, FileMarks.IsMarkedFile, FileMarks.schema_limits, Asked.AsksBy, Asked.IsPathFault}
use Rattle.fbcheck_serve.specs.{Asked.Own, Asked.demanded_by, Heads.IsHeaded, Heads.RunsBehindHead, Heads.ServesBehindHead, Lists.AreNamed, Names.Named, Names.all_named}
use Rattle.fbcheck_serve.specs.{Inputs.Folder, Inputs.IsPromptAmong, Inputs.IsPromptOver, Inputs.MayReadEach, Inputs.Seen, declared.inputs.Course.Course}
use Rattle.fb_run.specs.{Ends.Ends, Ends.Unwritten, Ends.Writer, Ends.with_rejects, Faults.End, Faults.EndsBeside, Faults.IsUnfailed, Faults.failures_of, Job.Job, Prompt.IsPrompt}
use Rattle.fb_run.specs.declared.{run.Ran.Ran, tally.Tally.Tally}
use Rattle.fbcheck_texts.specs.declared.fault.CheckFault.TheVariants as check

-- the root table and the identifier of a schema that was loaded
abbrev pub own_of : Loaded → Own
own_of loaded = record { root = loaded.root; ident = ident_bytes loaded.ident }

-- what reflection.fbs declares: its table Schema and the identifier of schema files
abbrev pub fixed_own : Own
fixed_own = record { root = Some schema_number; ident = Some (codes "BFBS") }

-- the rows of a schema file and what it has of its own; without a file the fixed table, and what reflection.fbs has
abbrev pub IsSchema : Option (Bor (List ℕ)) → Rows → Own → Type 0
IsSchema None rows own = (rows ≡ fixed) × (own ≡ fixed_own)
IsSchema (Some bytes) rows own = (loaded : Loaded) × IsLoaded bytes.now (schema_limits (length bytes.now)) loaded × (rows ≡ loaded.schema) × (own ≡ own_of loaded)

-- why a schema file gives no schema
abbrev pub IsNoSchema : Option (Bor (List ℕ)) → LoadFault → Type 0
IsNoSchema None fault = ⊥
IsNoSchema (Some bytes) load.OutOfMemory = ⊥
IsNoSchema (Some bytes) fault = IsLoadFault bytes.now (schema_limits (length bytes.now)) fault

-- the settings ask for strict checks by a schema file, and not for plain bytes: so its marks are asked
abbrev pub NeedsMarks : Option (Bor (List ℕ)) → Settings → Type 0
NeedsMarks None settings = ⊥
NeedsMarks (Some bytes) settings = IsTrue settings.strict × (settings.plain_bytes ≡ false)

-- where a file's marks are asked, they say what each field of bytes holds
abbrev pub MayAsk : Option (Bor (List ℕ)) → Rows → Settings → Type 0
MayAsk file rows settings = NeedsMarks file settings → (marks : List Marked) × (builtins : Builtins) × IsMarkedFile file marks builtins × AreTold rows marks builtins

-- a file's marks are asked, and don't: a field of bytes may have to have one, or some mark names no table
abbrev pub HasUnmarkedBytes : Option (Bor (List ℕ)) → Rows → Settings → Type 0
HasUnmarkedBytes file rows settings = NeedsMarks file settings × (marks : List Marked) × (builtins : Builtins) × IsMarkedFile file marks builtins × HasUnmarked rows marks builtins

abbrev pub HasLostMark : Option (Bor (List ℕ)) → Rows → Settings → Type 0
HasLostMark file rows settings = NeedsMarks file settings × (marks : List Marked) × (builtins : Builtins) × IsMarkedFile file marks builtins × LacksTable rows marks builtins

-- what a job, or a fault, says of a file's marks
abbrev pub AsksMarks : Option (Bor (List ℕ)) → Rows → Settings → Result Job AskFault → Type 0
AsksMarks file rows settings (Ok job) = MayAsk file rows settings
AsksMarks file rows settings (Err UnmarkedBytes) = HasUnmarkedBytes file rows settings
AsksMarks file rows settings (Err NoSuchTable) = HasLostMark file rows settings
AsksMarks file rows settings (Err _) = Unit {0}

-- a schema file, or none, and the settings ask that the buffers are checked by a job; or there is nothing to check them
-- by, and why
abbrev pub Asks : Option (Bor (List ℕ)) → Settings → Result Job AskFault → Type 0
Asks file settings (Err (Load fault)) = IsNoSchema file fault
Asks file settings answer = (rows : Rows) × (own : Own) × IsSchema file rows own × AsksBy file rows own settings answer × AsksMarks file rows settings answer

-- why there is no schema, where memory may be refused
abbrev pub LacksSchema : Option (Bor (List ℕ)) → AskFault → Type 0
LacksSchema file (Load fault) = IsNoSchema file fault
LacksSchema file OutOfMemory = Unit {0}
LacksSchema file _ = ⊥

-- why there is no job, where memory may be refused
abbrev pub LacksJob : Option (Bor (List ℕ)) → Settings → AskFault → Type 0
LacksJob file settings OutOfMemory = Unit {0}
LacksJob file settings fault = Asks file settings (Err fault)

-- why texts give no paths, where memory may be refused
abbrev pub IsPathless : Rows → ℕ → List (List ℕ) → AskFault → Type 0
IsPathless rows root texts (Path fault) = IsPathFault rows root texts fault
IsPathless rows root texts OutOfMemory = Unit {0}
IsPathless rows root texts _ = ⊥

-- why a file's marks keep strict checks from being made, where memory may be refused
abbrev pub IsPlanless : Option (Bor (List ℕ)) → Rows → Settings → AskFault → Type 0
IsPlanless file rows settings UnmarkedBytes = HasUnmarkedBytes file rows settings
IsPlanless file rows settings NoSuchTable = HasLostMark file rows settings
IsPlanless file rows settings OutOfMemory = Unit {0}
IsPlanless file rows settings _ = ⊥

-- a plan is made by the marks of a schema file, which say what each field of bytes holds; or why none is, where memory
-- may be refused
pub record IsPlanBy (bytes : List ℕ) (rows : Rows) (settings : Settings) (plan : Planned) : Type 0 where
  pub read : Marks
  pub are : AreMarks bytes (schema_limits (length bytes)) read
  pub told : AreTold rows (map marked read.fields.items) read.builtins
  pub plan_is : IsPlan rows (demanded_by rows settings (map marked read.fields.items)) plan

abbrev pub LacksPlanBy : List ℕ → Rows → AskFault → Type 0
LacksPlanBy bytes rows OutOfMemory = Unit {0}
LacksPlanBy bytes rows fault = (read : Marks) × AreMarks bytes (schema_limits (length bytes)) read × Misses rows (map marked read.fields.items) read.builtins fault

-- nothing was read, written or noted
abbrev pub IsIdle : Ends → Ends → Type 0
IsIdle before after = Keeps before.reader.left after.reader.left × Unwritten before.outs after.outs

-- what was read, written and noted by a run that was asked for, behind its head, which ended so and came to these
-- numbers by then
abbrev pub RunsAsAsked : Option (Bor (List ℕ)) → Settings → Ends → Ends → Tally → End → Type 0
RunsAsAsked file settings before after tally end = (job : Job) × Asks file settings (Ok job) × RunsBehindHead job before after tally end

-- the same where it may be that no run began, since nothing was asked for or memory was refused before
abbrev pub IsCheckedBeside : Option (Bor (List ℕ)) → Settings → Ends → Ends → Result Ran Unasked → Type 0
IsCheckedBeside file settings before after (Ok ran) = RunsAsAsked file settings before after ran.tally ran.end
IsCheckedBeside file settings before after (Err unasked) = LacksJob file settings unasked.fault × IsIdle before after

-- the same of an answer alone
abbrev pub IsChecked : Option (Bor (List ℕ)) → Settings → Ends → Ends → Result Tally CheckFault → Type 0
IsChecked file settings before after (Ok tally) = RunsAsAsked file settings before after tally (Ok tt)
IsChecked file settings before after (Err (check.Run fault)) = (tally : Tally) × RunsAsAsked file settings before after tally (Err fault)
IsChecked file settings before after (Err (check.Ask fault)) = LacksJob file settings fault × IsIdle before after

-- what came of these files, gone through as was asked for, behind their head, and what was read, written and noted
abbrev pub ServesAsAsked : Folder → Option (Bor (List ℕ)) → Settings → List Named → Seen → Seen → Course → End → Type 0
ServesAsAsked folder file settings names before after course end =
    (job : Job) × Asks file settings (Ok job) × ServesBehindHead folder job names before after course end

-- there was nothing to check by
abbrev pub IsUnasked : CheckFault → Type 0
IsUnasked (check.Ask fault) = Unit {0}
IsUnasked (check.Run fault) = ⊥

-- how it ended, with so many reads at most: a run by its end or the cause of its fault
abbrev pub EndsChecked : Ends → Ends → ℕ → Result Tally CheckFault → Type 0
EndsChecked before after turns (Ok tally) = EndsBeside before after turns (Ok tt)
EndsChecked before after turns (Err (check.Run fault)) = EndsBeside before after turns (Err fault)
EndsChecked before after turns (Err (check.Ask fault)) = IsUnfailed (failures_of before) (failures_of after)

-- all that was read by now is told, behind the head: of one input, and where these files are gone through
abbrev pub IsPromptHeaded : Job → Ends → Ends → Type 0
IsPromptHeaded job before now = (headed : Ends) × IsHeaded job [] before headed × IsPrompt job headed now

abbrev pub IsPromptAmongHeaded : Folder → Job → List Named → Ends → Ends → Type 0
IsPromptAmongHeaded folder job names before now = (headed : Ends) × IsHeaded job names before headed × IsPromptAmong folder job names headed now

-- all that was read by now is told, of a run that was asked for, behind its head, whatever the rejects are
abbrev pub IsPromptAsAsked : Option (Bor (List ℕ)) → Settings → Ends → Ends → Type 0
IsPromptAsAsked file settings before now =
    (job : Job) × Asks file settings (Ok job) × (rejects : Writer) × (rejects' : Writer)
    × IsPromptHeaded job (with_rejects before rejects) (with_rejects now rejects')

-- the same where these files are gone through
abbrev pub IsPromptAmongAsked : Folder → Option (Bor (List ℕ)) → Settings → List Named → Ends → Ends → Type 0
IsPromptAmongAsked folder file settings names before now =
    (job : Job) × Asks file settings (Ok job) × (rejects : Writer) × (rejects' : Writer)
    × IsPromptAmongHeaded folder job names (with_rejects before rejects) (with_rejects now rejects')

-- and whether or not some are
abbrev pub IsPromptOverAsked : Folder → Option (Bor (List ℕ)) → Settings → Ends → Ends → Type 0
IsPromptOverAsked folder file settings before now =
    (names : Option (List Named)) × (job : Job) × AreNamed folder.gives settings names × Asks file settings (Ok job)
    × (rejects : Writer) × (rejects' : Writer) × (headed : Ends) × IsHeaded job (all_named names) (with_rejects before rejects) headed
    × IsPromptOver folder job names headed (with_rejects now rejects')

-- these files may be read so, behind the head
abbrev pub MayReadHeaded : Folder → Job → List Named → Ends → Type 0
MayReadHeaded folder job names before = (headed : Ends) → IsHeaded job names before headed → MayReadEach folder job names headed

-- the same as is asked for, whatever the rejects are; and those files that are asked for
abbrev pub MayReadNamed : Folder → Option (Bor (List ℕ)) → Settings → List Named → Ends → Type 0
MayReadNamed folder file settings names before =
    (job : Job) (rejects : Writer) → Asks file settings (Ok job) → MayReadHeaded folder job names (with_rejects before rejects)

abbrev pub MayReadAsked : Folder → Option (Bor (List ℕ)) → Settings → Ends → Type 0
MayReadAsked folder file settings before =
    (names : List Named) → AreNamed folder.gives settings (Some names) → MayReadNamed folder file settings names before
