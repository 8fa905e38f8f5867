-- The head of a table, and what is told behind it.
use Rattle.std.proofs.Common.{◌≡◌, ℕ, ◌+◌, ◌-◌, Err, List, Ok, ap, refl, subst}
use Rattle.fb_run.specs.{Ends.Ends, Ends.Writer, Ends.with_writer, Faults.End, Faults.EndsBeside, Faults.EndsWith, Faults.Failures, Faults.failures_of, Job.Job}
use Rattle.fb_run.specs.declared.fault.RunFault.{RunFault}
use Rattle.fb_run.specs.declared.fault.RunFault.TheVariants as run
use Rattle.fbcheck_serve.specs.{Names.Named, Heads.IsCut, Heads.IsHeadPut, Heads.IsHeaded, Heads.head_of, Heads.with_head}

-- the calls that failed, with so many of the writer
abbrev with_writes : Ends → ℕ → Failures
with_writes before writes = record { reads = before.reader.failures; writes = writes; notes = before.outs.notes.failures; rejects = before.outs.rejects.failures }

module _ (before after : Ends) (writer : Writer) (turns bytes : ℕ) (same : writer.failures ≡ before.outs.writer.failures) where
  -- no call failed by the head
  none_failed : failures_of (with_writer before writer) ≡ failures_of before
  none_failed = ap (with_writes before) same

  ends_so : (end : End) → EndsBeside (with_writer before writer) after turns end → EndsBeside before after turns end
  ends_so end ends = subst (λ (f : Failures). EndsWith f (failures_of after) (before.reader.calls + turns - after.reader.calls) after.reader.ended end) none_failed ends

  -- so a run behind it ended as it did, whatever is counted
  pub ends_headed : (end : End) → EndsBeside (with_writer before writer) after turns end → EndsBeside before after turns (with_head bytes end)
  ends_headed (Ok done) ends = ends_so (Ok done) ends
  ends_headed (Err (run.WriteFault written)) ends = ends_so (Err (run.WriteFault written)) ends
  ends_headed (Err fault) ends = ends_so (Err fault) ends

-- a write of the head failed
pub ends_cut : (before : Ends) (writer : Writer) (turns : ℕ) (head : List ℕ) (fault : RunFault) → IsHeadPut head before.outs.writer writer (Err fault)
    → EndsBeside before (with_writer before writer) turns (Err fault)
ends_cut before writer turns head (run.WriteFault written) put = (refl, put.1, refl, refl)
ends_cut before writer turns head _ put = absurd put

-- what was put is the head of the job, whole or cut
module _ (job : Job) (names : List Named) (before : Ends) (head : List ℕ) (writer : Writer) (is : head ≡ head_of job names) where
  pub stands : IsHeadPut head before.outs.writer writer (Ok tt) → IsHeaded job names before (with_writer before writer)
  stands put = (writer, rw is at put, refl)

  pub is_cut : (fault : RunFault) → IsHeadPut head before.outs.writer writer (Err fault) → IsCut (head_of job names) before (with_writer before writer) (Err fault)
  is_cut fault put = (subst (λ (h : List ℕ). IsHeadPut h before.outs.writer writer (Err fault)) is put, refl)
