-- What a run over a stream has read and written, and how it ends.
use Rattle.std.specs.Prelude.{◌≡◌, ℕ, ◌<◌, ◌≤◌, ◌⊎◌, true, List, [], ◌++◌, length}
use Rattle.std.specs.Io.KnownBytes.{Consumes}
use Rattle.fb_bytes.specs.Messages.{declared, IsPartial, IsOversize, Splits}
use Rattle.fb_bytes.specs.declared.stream_fault.StreamFault.TheVariants as stream
use Rattle.fb_run.specs.{Ends.Ends, Ends.Reader, Ends.Takes, Job.Job, Job.checked_in, Job.cut_of, AllTold.AreTold, Spot.IsDue, Spot.IsFull, Spot.at_first, Spot.past_all}
use Rattle.fb_run.specs.{Texts.IsCounted, Texts.Texts, Texts.followed, Texts.to_rejects, declared.tally.Tally.Tally, declared.fault.RunFault.RunFault}
use Rattle.fb_run.specs.declared.fault.RunFault.TheVariants.{ReadFault, WriteFault, NoteFault, RejectFault, Stream, TooManyTurns, OutOfMemory, BareTooLong, SkipPastEnd}

-- the text is what is told of the first messages of these bytes, behind those that are left out, and they come to this
abbrev pub TellsSome : Job → List ℕ → Texts → Tally → Type 0
TellsSome job bytes text tally =
    (messages : List (List ℕ)) × (rest : List ℕ) × (done : List (List ℕ)) × (left : List (List ℕ))
    × Splits (cut_of job) (checked_in job bytes) messages rest × (messages ≡ done ++ left) × AreTold job (at_first job) done text tally

-- a message more would be told: no bound of the job is reached
abbrev pub TellsMore : Job → Tally → Type 0
TellsMore job tally = IsDue job (past_all job tally)

-- why a run came to rest that has read these messages and the rest, written this text and counted this; at a bound of the
-- job it doesn't, but ends well
abbrev pub WhyStream : Job → List ℕ → List (List ℕ) → List ℕ → Texts → Tally → RunFault → Type 0
WhyStream job bytes messages rest text tally ReadFault = TellsMore job tally × IsPartial (cut_of job) rest × AreTold job (at_first job) messages text tally
WhyStream job bytes messages rest text tally TooManyTurns = TellsMore job tally × IsPartial (cut_of job) rest × AreTold job (at_first job) messages text tally
WhyStream job bytes messages rest text tally (Stream (stream.Oversize number)) =
    TellsMore job tally × IsOversize (cut_of job) rest × (number ≡ declared (cut_of job).order rest) × AreTold job (at_first job) messages text tally
WhyStream job bytes messages rest text tally (Stream (stream.Truncated held)) =
    TellsMore job tally × IsPartial (cut_of job) rest × (held ≡ length rest) × (0 < held) × AreTold job (at_first job) messages text tally
WhyStream job bytes messages rest text tally (Stream fault) = ⊥
WhyStream job bytes messages rest text tally OutOfMemory = TellsSome job bytes text tally
WhyStream job bytes messages rest text tally (WriteFault written) = IsCounted (length text.out) written × ((more : Texts) × TellsSome job bytes (followed text more) tally)
WhyStream job bytes messages rest text tally (NoteFault written) = IsCounted (length text.notes) written × ((more : Texts) × (more.out ≡ []) × TellsSome job bytes (followed text more) tally)
WhyStream job bytes messages rest text tally (RejectFault written) = IsCounted (length text.rejects) written × ((more : List ℕ) × TellsSome job bytes (followed text (to_rejects more)) tally)
WhyStream job bytes messages rest text tally (SkipPastEnd skip) = (skip ≡ job.terms.skip) × (length bytes < skip) × AreTold job (at_first job) messages text tally
WhyStream job bytes messages rest text tally (BareTooLong most) = ⊥

-- a run over these bytes came to rest so
abbrev pub Rests : Job → List ℕ → Texts → Tally → RunFault → Type 0
Rests job bytes text tally fault =
    (messages : List (List ℕ)) × (rest : List ℕ) × Splits (cut_of job) (checked_in job bytes) messages rest × WhyStream job bytes messages rest text tally fault

-- the input ended, behind the bytes that are left out, with a message: none of these messages and no rest is left
pub record IsEnded (job : Job) (reader : Reader) (bytes : List ℕ) (left : List (List ℕ)) (rest : List ℕ) : Type 0 where
  pub ended : reader.ended ≡ true
  pub begun : job.terms.skip ≤ length bytes
  pub none : left ≡ []
  pub whole : rest ≡ []

-- what is told of the first messages that were read was written: up to a bound of the job, or to the input's end
pub record PassesStream (job : Job) (before after : Ends) (tally : Tally) : Type 0 where
  pub bytes : List ℕ
  pub done : List (List ℕ)
  pub left : List (List ℕ)
  pub rest : List ℕ
  pub text : Texts
  pub read : Consumes before.reader.left after.reader.left bytes
  pub splits : Splits (cut_of job) (checked_in job bytes) (done ++ left) rest
  pub told : AreTold job (at_first job) done text tally
  pub takes : Takes before.outs after.outs text
  pub stopped : IsFull job (past_all job tally) ⊎ IsEnded job after.reader bytes left rest

-- these bytes were read, this text was written and this counted, and then came the fault
pub record FailsStream (job : Job) (before after : Ends) (tally : Tally) (fault : RunFault) : Type 0 where
  pub bytes : List ℕ
  pub text : Texts
  pub read : Consumes before.reader.left after.reader.left bytes
  pub takes : Takes before.outs after.outs text
  pub rests : Rests job bytes text tally fault
