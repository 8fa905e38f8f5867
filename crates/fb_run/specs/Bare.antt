-- What a run over one bare input has read and written, and how it ends.
use Rattle.std.specs.Prelude.{◌≡◌, ℕ, ◌<◌, ◌≤◌, true, List, length}
use Rattle.std.specs.Io.KnownBytes.{Consumes}
use Rattle.fb_run.specs.{Ends.Ends, Ends.Outs, Ends.Takes, Ends.Unwritten, Job.Job, Job.Verdict, Job.checked_in, Texts.Texts, Texts.no_bytes, Line.IsTold, Spot.at_first}
use Rattle.fb_run.specs.{Sums.no_tally, Sums.tally_with, AllTold.WritesFronts, declared.tally.Tally.Tally, declared.fault.RunFault.RunFault}
use Rattle.fb_run.specs.declared.fault.RunFault.TheVariants.{WriteFault, NoteFault, RejectFault, Stream, BareTooLong, SkipPastEnd}

-- what was read of an input is its bytes that are left out and a buffer within the limit
pub record IsBareInput (job : Job) (bytes : List ℕ) : Type 0 where
  pub begun : job.terms.skip ≤ length bytes
  pub within : length (checked_in job bytes) ≤ job.terms.max_bytes

-- the whole input was read, is such, and what is told of its buffer was written
pub record PassesBare (job : Job) (before after : Ends) (tally : Tally) : Type 0 where
  pub bytes : List ℕ
  pub read : Consumes before.reader.left after.reader.left bytes
  pub ended : after.reader.ended ≡ true
  pub is_input : IsBareInput job bytes
  pub verdict : Verdict
  pub line : Texts
  pub is_line : IsTold job (at_first job) (checked_in job bytes) verdict line
  pub takes : Takes before.outs after.outs line
  pub tally_is : tally ≡ tally_with (checked_in job bytes) verdict no_tally

-- a write failed: what was written is a front of what is told of the buffer in these bytes
pub record WritesPart (job : Job) (bytes : List ℕ) (before after : Outs) (tally : Tally) (fault : RunFault) : Type 0 where
  pub is_input : IsBareInput job bytes
  pub verdict : Verdict
  pub line : Texts
  pub is_line : IsTold job (at_first job) (checked_in job bytes) verdict line
  pub wrote : WritesFronts line before after no_bytes fault
  pub tally_is : tally ≡ tally_with (checked_in job bytes) verdict no_tally

-- nothing was written or told
abbrev pub Untold : Outs → Outs → Tally → Type 0
Untold before after tally = Unwritten before after × (tally ≡ no_tally)

-- what stands written and counted of the bytes that were read, by the fault
abbrev pub WhyBare : Job → List ℕ → Outs → Outs → Tally → RunFault → Type 0
WhyBare job bytes before after tally (BareTooLong most) = (most ≡ job.terms.max_bytes) × (job.terms.max_bytes < length (checked_in job bytes)) × Untold before after tally
WhyBare job bytes before after tally (SkipPastEnd skip) = (skip ≡ job.terms.skip) × (length bytes < skip) × Untold before after tally
WhyBare job bytes before after tally (WriteFault written) = WritesPart job bytes before after tally (WriteFault written)
WhyBare job bytes before after tally (NoteFault written) = WritesPart job bytes before after tally (NoteFault written)
WhyBare job bytes before after tally (RejectFault written) = WritesPart job bytes before after tally (RejectFault written)
WhyBare job bytes before after tally (Stream fault) = ⊥
WhyBare job bytes before after tally fault = (length (checked_in job bytes) ≤ job.terms.max_bytes) × Untold before after tally

-- these bytes were read, and then came the fault
abbrev pub FailsBare : Job → Ends → Ends → Tally → RunFault → Type 0
FailsBare job before after tally fault =
    (bytes : List ℕ) × Consumes before.reader.left after.reader.left bytes × WhyBare job bytes before.outs after.outs tally fault
