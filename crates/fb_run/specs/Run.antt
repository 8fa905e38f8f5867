-- A run, over a stream or over one bare input.
use Rattle.std.specs.Prelude.{◌≡◌, ℕ, ◌+◌, ◌≤◌, Bool, true, false, Result, Ok, Err}
use Rattle.fb_run.specs.{Bare.FailsBare, Bare.PassesBare, Ends.Ends, Faults.End, Faults.EndsBeside, Job.Job, Stream.FailsStream, Stream.PassesStream}
use Rattle.fb_run.specs.declared.{fault.RunFault.RunFault, tally.Tally.Tally}

-- what was read and written by a run over one bare input that ended so, and came to these numbers by then
abbrev pub IsBareRun : Job → Ends → Ends → Tally → End → Type 0
IsBareRun job before after tally (Ok done) = PassesBare job before after tally
IsBareRun job before after tally (Err fault) = FailsBare job before after tally fault

-- and by one over a stream
abbrev pub IsStreamRun : Job → Ends → Ends → Tally → End → Type 0
IsStreamRun job before after tally (Ok done) = PassesStream job before after tally
IsStreamRun job before after tally (Err fault) = FailsStream job before after tally fault

-- the input is one bare buffer, or a stream of messages with their lengths
abbrev pub IsRunFrom : Bool → Job → Ends → Ends → Tally → End → Type 0
IsRunFrom true = IsBareRun
IsRunFrom false = IsStreamRun

-- what was read, written and noted by a run that ended so, and came to these numbers by then
abbrev pub IsRunBeside : Job → Ends → Ends → Tally → End → Type 0
IsRunBeside job = IsRunFrom job.terms.bare job

-- the answer of a run that ended so and came to these numbers
abbrev pub answer_by : Tally → End → Result Tally RunFault
answer_by tally (Ok done) = Ok tally
answer_by tally (Err fault) = Err fault

-- what was read and written by a run that answered this
abbrev pub IsRun : Job → Ends → Ends → Result Tally RunFault → Type 0
IsRun job before after answer = (tally : Tally) × (end : End) × IsRunBeside job before after tally end × (answer ≡ answer_by tally end)

-- what a run so ended came to, in so many reads
pub record Runs (from : Bool) (job : Job) (before after : Ends) (turns : ℕ) (tally : Tally) (end : End) : Type 0 where
  pub run : IsRunFrom from job before after tally end
  pub end_is : EndsBeside before after turns end
  pub turns_are : after.reader.calls ≤ before.reader.calls + turns
