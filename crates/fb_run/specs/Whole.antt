-- What the reading of a whole input answers.
use Rattle.std.specs.Prelude.{◌≡◌, ℕ, List, Result, Ok, Err, Vec, true}
use Rattle.std.specs.Io.KnownBytes.{Consumes}
use Rattle.fb_run.specs.{Bare.FailsBare, Bare.IsBareInput, Ends.Outs, Ends.Reader, Ends.beside, Faults.EndsBeside, Job.Job, Job.checked_in, Sums.no_tally}
use Rattle.fb_run.specs.declared.fault.RunFault.{RunFault}

-- it was read to its end and no read failed, and these are the bytes of its buffer
pub record ReadsWhole (job : Job) (before after : Reader) (buffer : List ℕ) : Type 0 where
  pub bytes : List ℕ
  pub read : Consumes before.left after.left bytes
  pub is_input : IsBareInput job bytes
  pub buffer_is : buffer ≡ checked_in job bytes
  pub ended : after.ended ≡ true
  pub unfailed : after.failures ≡ before.failures

-- or it wasn't, for this fault, and nothing was told: whatever the outputs held, they keep
pub record FailsWhole (job : Job) (turns : ℕ) (before after : Reader) (fault : RunFault) : Type 0 where
  pub fails : (outs : Outs) → FailsBare job (beside before outs) (beside after outs) no_tally fault
  pub cause : (outs : Outs) → EndsBeside (beside before outs) (beside after outs) turns (Err fault)

-- the one of both that an answer tells
abbrev pub ReadsBy : {A : Type 0} → Job → ℕ → Reader → Reader → Result (Vec ℕ A) RunFault → Type 0
ReadsBy job turns before after (Ok whole) = ReadsWhole job before after whole.items
ReadsBy job turns before after (Err fault) = FailsWhole job turns before after fault
