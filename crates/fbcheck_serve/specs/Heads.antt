-- The head of a table, which is written above all that is told of messages.
use Rattle.std.specs.Prelude.{◌≡◌, ◌⊎◌, ℕ, List, [], Ok, Err, length}
use Rattle.std.specs.Io.KnownBytes.{Appends}
use Rattle.fb_bytes.specs.Ends.{one_more}
use Rattle.fb_run.specs.{AllTold.WritesFront, Csv.head_in, Ends.Ends, Ends.Writer, Ends.with_writer, Faults.End, Job.Job, Run.IsRunBeside, Sums.no_tally}
use Rattle.fb_run.specs.declared.{fault.RunFault.TheVariants.WriteFault, tally.Tally.Tally}
use Rattle.fbcheck_serve.specs.{Names.Named, Inputs.Folder, Inputs.Seen, Inputs.ServesEach, Inputs.are_named, Inputs.at_first, Inputs.no_course, Inputs.stand, Inputs.sum_of_bytes}
use Rattle.fbcheck_serve.specs.{Inputs.with_cause, declared.inputs.Course.Course}

-- what a job has written above all else, over the files of these names: a head where it asks for rows, and else nothing
abbrev pub head_of : Job → List Named → List ℕ
head_of job names = head_in job.terms.mode (are_named job.label names) job.paths

-- it was written, or in a write that failed a front of it
abbrev pub IsHeadPut : List ℕ → Writer → Writer → End → Type 0
IsHeadPut head before after (Ok done) = Appends before.bytes after.bytes head × (after.failures ≡ before.failures)
IsHeadPut head before after (Err (WriteFault written)) = WritesFront head before.bytes after.bytes 0 written × (after.failures ≡ one_more before.failures)
IsHeadPut head before after (Err _) = ⊥

-- it stands written, and nothing else was done
abbrev pub IsHeaded : Job → List Named → Ends → Ends → Type 0
IsHeaded job names before headed =
    (writer : Writer) × IsHeadPut (head_of job names) before.outs.writer writer (Ok tt) × (headed ≡ with_writer before writer)

-- it was cut in a write that failed, and that ended it all
abbrev pub IsCut : List ℕ → Ends → Ends → End → Type 0
IsCut head before after (Ok done) = ⊥
IsCut head before after (Err fault) = IsHeadPut head before.outs.writer after.outs.writer (Err fault) × (after ≡ with_writer before after.outs.writer)

-- how a run ended, where the bytes that were written are counted with those of its head
abbrev pub with_head : ℕ → End → End
with_head bytes (Err (WriteFault written)) = Err (WriteFault (sum_of_bytes written bytes))
with_head bytes end = end

-- a run over standard input behind its head, or none
abbrev pub RunsBehindHead : Job → Ends → Ends → Tally → End → Type 0
RunsBehindHead job before after tally end =
    ((headed : Ends) × (own : End) × IsHeaded job [] before headed × IsRunBeside job headed after tally own × (end ≡ with_head (length (head_of job [])) own))
    ⊎ (IsCut (head_of job []) before after end × (tally ≡ no_tally))

-- the same of files
abbrev pub ServesBehindHead : Folder → Job → List Named → Seen → Seen → Course → End → Type 0
ServesBehindHead folder job names before after course end =
    ((headed : Ends) × IsHeaded job names before.ends headed × ServesEach folder job names (at_first (with_cause headed before.cause)) (stand after course) end)
    ⊎ (IsCut (head_of job names) before.ends after.ends end × (after.cause ≡ before.cause) × (course ≡ no_course))
