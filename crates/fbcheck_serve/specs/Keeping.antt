-- A run, or files, whose bad buffers are kept where the settings name a file for them.
use Rattle.std.specs.Prelude.{◌≡◌, ℕ, IsSome, List, Option, Some, None, Result, Ok, Err, option_map, string_bytes}
use Rattle.std.specs.Borrow.{Bor}
use Rattle.fb_bytes.specs.declared.ends.Sink as sink
use Rattle.fb_run.specs.{Ends.Ends, Ends.Writer, Ends.nowhere, Ends.with_rejects, Ends.writer_of, Faults.End, Faults.EndsBeside, declared.run.Ran.Ran, declared.tally.Tally.Tally}
use Rattle.fbcheck_texts.specs.declared.choices.Settings.{Settings}
use Rattle.fbcheck_serve.specs.{Checking.IsIdle, Checking.LacksJob, Checking.RunsAsAsked, Checking.ServesAsAsked, Inputs.Folder, Inputs.Seen, Inputs.with_cause, Names.Named}
use Rattle.fbcheck_serve.specs.declared.{check.Unbegun.Unbegun, inputs.Course.Course, inputs.Passed.Passed}
use Rattle.fbcheck_serve.specs.declared.check.Kept as check
use Rattle.fbcheck_serve.specs.declared.check.Unbegun.TheVariants as unbegun
use Rattle.fbcheck_serve.specs.declared.files.Makes as makes

-- what contracts see of files that are made, by the ghosts of their trait: what may be made by a name, and what is told of
-- that as a writer
pub record Maker : Type 1 where
  pub Made : Type 0
  pub makes : List ℕ → Made → Type 0
  pub writer : Made → Writer

abbrev pub maker_of : {F M : Type 0} → makes.Ghosts F M → sink.Ghosts M → F → Maker
maker_of {F} {M} f m maker = record { Made = M; makes = f.makes maker; writer = λ (file : M). writer_of m file }

-- where no file is named, rejects go nowhere; else to what is made by the name, which is so at first and so at last
abbrev pub AreKeptBy : Maker → Option (List ℕ) → Writer → Writer → Type 0
AreKeptBy maker None before after = (before ≡ nowhere) × (after ≡ nowhere)
AreKeptBy maker (Some name) before after =
    (from : maker.Made) × (to : maker.Made) × maker.makes name from × (before ≡ maker.writer from) × (after ≡ maker.writer to)

-- something holds of rejects that are so at first and so at last, as the settings ask
abbrev pub Keeping : Maker → Settings → (Writer → Writer → Type 0) → Type 0
Keeping maker settings Holds = (before : Writer) × (after : Writer) × AreKeptBy maker (option_map string_bytes settings.rejects) before after × Holds before after

-- the ends and the cause, with these rejects
abbrev pub seen_with : Seen → Writer → Seen
seen_with seen rejects = with_cause (with_rejects seen.ends rejects) seen.cause

-- so a run was as is asked for, and ended by the calls that failed, those of the rejects among them
abbrev pub RunsKeeping : Maker → Option (Bor (List ℕ)) → Settings → Ends → Ends → Tally → End → Type 0
RunsKeeping maker file settings before after tally end =
    Keeping maker settings (λ rejects rejects'.
    RunsAsAsked file settings (with_rejects before rejects) (with_rejects after rejects') tally end
    × EndsBeside (with_rejects before rejects) (with_rejects after rejects') 4294967296 end)

-- and these files were gone through
abbrev pub ServesKeeping : Maker → Folder → Option (Bor (List ℕ)) → Settings → List Named → Seen → Seen → Course → End → Type 0
ServesKeeping maker folder file settings names before after course end =
    Keeping maker settings (λ rejects rejects'. ServesAsAsked folder file settings names (seen_with before rejects) (seen_with after rejects') course end)

-- nothing was begun: there was nothing to check by, or the file for the rejects can't be made
abbrev pub IsUnbegun : Option (Bor (List ℕ)) → Settings → Ends → Ends → Unbegun → Type 0
IsUnbegun file settings before after (unbegun.Ask unasked) = LacksJob file settings unasked.fault × IsIdle before after
IsUnbegun file settings before after (unbegun.Unmade cause) = IsSome settings.rejects × IsIdle before after

-- what came of a run, and of files
abbrev pub IsCheckedKeeping : Maker → Option (Bor (List ℕ)) → Settings → Ends → Ends → Result (check.Kept Ran) Unbegun → Type 0
IsCheckedKeeping maker file settings before after (Ok kept) = RunsKeeping maker file settings before after kept.what.tally kept.what.end
IsCheckedKeeping maker file settings before after (Err fault) = IsUnbegun file settings before after fault

abbrev pub IsServedKeeping : Maker → Folder → Option (Bor (List ℕ)) → Settings → List Named → Seen → Seen → Result (check.Kept Passed) Unbegun → Type 0
IsServedKeeping maker folder file settings names before after (Ok kept) = ServesKeeping maker folder file settings names before after kept.what.course kept.what.end
IsServedKeeping maker folder file settings names before after (Err fault) = IsUnbegun file settings before.ends after.ends fault
