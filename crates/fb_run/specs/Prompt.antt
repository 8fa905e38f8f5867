-- What stands written wherever a run asks its input for more: all that is told of what it has read, and no more.
use Rattle.std.specs.Prelude.{ℕ, ◌≤◌, Bool, true, false, List, length}
use Rattle.std.specs.Io.KnownBytes.{Consumes}
use Rattle.fb_bytes.specs.Messages.{IsPartial, Splits}
use Rattle.fb_run.specs.{Ends.Ends, Ends.Takes, Ends.Unwritten, Job.Job, Job.checked_in, Job.cut_of, AllTold.AreTold, Spot.IsDue, Spot.at_first, Spot.past_all, Texts.Texts}
use Rattle.fb_run.specs.declared.tally.Tally.{Tally}

-- over a stream: messages and the part of one were read behind the bytes that are left out, what is told of all these
-- messages was written and noted, and another is told
pub record IsStreamPrompt (job : Job) (before now : Ends) : Type 0 where
  pub bytes : List ℕ
  pub messages : List (List ℕ)
  pub rest : List ℕ
  pub text : Texts
  pub tally : Tally
  pub read : Consumes before.reader.left now.reader.left bytes
  pub splits : Splits (cut_of job) (checked_in job bytes) messages rest
  pub partial : IsPartial (cut_of job) rest
  pub told : AreTold job (at_first job) messages text tally
  pub due : IsDue job (past_all job tally)
  pub takes : Takes before.outs now.outs text

-- over one bare input: bytes within the limit were read behind those that are left out, and nothing was written
abbrev pub IsBarePrompt : Job → Ends → Ends → Type 0
IsBarePrompt job before now =
    (bytes : List ℕ) × Consumes before.reader.left now.reader.left bytes × (length (checked_in job bytes) ≤ job.terms.max_bytes) × Unwritten before.outs now.outs

abbrev pub IsPromptFrom : Bool → Job → Ends → Ends → Type 0
IsPromptFrom true job = IsBarePrompt job
IsPromptFrom false job = IsStreamPrompt job

-- the one of both that the job says
abbrev pub IsPrompt : Job → Ends → Ends → Type 0
IsPrompt job = IsPromptFrom job.terms.bare job
