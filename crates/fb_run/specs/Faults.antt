-- What a fault of a part is told as, the causes of faults, and the exit status.
use Rattle.std.specs.Prelude.{◌≡◌, ℕ, ◌+◌, ◌-◌, ◌==◌, Bool, true, if◌then◌else◌, Result, Ok, Err}
use Rattle.fb_bytes.specs.{Ends.one_more, declared.stream_fault.StreamFault.StreamFault}
use Rattle.fb_bytes.specs.declared.stream_fault.StreamFault.TheVariants as stream
use Rattle.fb_run.specs.{Ends.Ends, Ends.Outs, declared.fault.RunFault.RunFault, declared.tally.Tally.Tally, declared.fault.RunFault.TheVariants.ReadFault}
use Rattle.fb_run.specs.declared.fault.RunFault.TheVariants.{WriteFault, NoteFault, RejectFault, Stream, TooManyTurns, OutOfMemory, SkipPastEnd}

-- a fault of the framer
abbrev pub feed_fault : StreamFault → RunFault
feed_fault stream.OutOfMemory = OutOfMemory
feed_fault cause = Stream cause

-- the calls that failed of a reader, a writer, the notes and the rejects
pub record Failures : Type 0 where
  pub reads : ℕ
  pub writes : ℕ
  pub notes : ℕ
  pub rejects : ℕ

abbrev pub failed : ℕ → Outs → Failures
failed reads outs = record { reads = reads; writes = outs.writer.failures; notes = outs.notes.failures; rejects = outs.rejects.failures }

abbrev pub failures_of : Ends → Failures
failures_of ends = failed ends.reader.failures ends.outs

-- no call failed
abbrev pub IsUnfailed : Failures → Failures → Type 0
IsUnfailed before after = (after.reads ≡ before.reads) × (after.writes ≡ before.writes) × (after.notes ≡ before.notes) × (after.rejects ≡ before.rejects)

-- the cause of a fault, by the calls that failed, the reads that were left, and whether the input's end was told: one
-- call of the reader, the writer, the notes or the rejects failed, as the fault says, or none did
abbrev pub IsCaused : Failures → Failures → ℕ → Bool → RunFault → Type 0
IsCaused before after left ended ReadFault = IsUnfailed (record before { reads = before.reads + 1 }) after
IsCaused before after left ended (WriteFault written) = IsUnfailed (record before { writes = one_more before.writes }) after
IsCaused before after left ended (NoteFault written) = IsUnfailed (record before { notes = one_more before.notes }) after
IsCaused before after left ended (RejectFault written) = IsUnfailed (record before { rejects = one_more before.rejects }) after
IsCaused before after left ended TooManyTurns = IsUnfailed before after × (left ≡ 0)
IsCaused before after left ended (Stream (stream.Truncated held)) = IsUnfailed before after × (ended ≡ true)
IsCaused before after left ended (SkipPastEnd skip) = IsUnfailed before after × (ended ≡ true)
IsCaused before after left ended _ = IsUnfailed before after

-- the same where it befell the writer, the notes and the rejects alone, whatever is read
abbrev pub IsCausedOut : Outs → Outs → RunFault → Type 0
IsCausedOut before after fault = (reads left : ℕ) (ended : Bool) → IsCaused (failed reads before) (failed reads after) left ended fault

-- no call of the writer, the notes or the rejects failed
abbrev pub IsUnfailedOut : Outs → Outs → Type 0
IsUnfailedOut before after =
    (after.writer.failures ≡ before.writer.failures) × (after.notes.failures ≡ before.notes.failures) × (after.rejects.failures ≡ before.rejects.failures)

-- how a run ended: well, or for a cause
abbrev pub End : Type 0
End = Result (Unit {0}) RunFault

-- the end that an answer tells
abbrev pub end_of : Result Tally RunFault → End
end_of (Ok tally) = Ok tt
end_of (Err fault) = Err fault

-- how a run ended, by the same counts: well, where no call failed, or by the cause of its fault
abbrev pub EndsWith : Failures → Failures → ℕ → Bool → End → Type 0
EndsWith before after left ended (Ok done) = IsUnfailed before after
EndsWith before after left ended (Err fault) = IsCaused before after left ended fault

-- the same by its ends, where it may make so many reads
abbrev pub EndsBeside : Ends → Ends → ℕ → End → Type 0
EndsBeside before after turns =
    EndsWith (failures_of before) (failures_of after) (before.reader.calls + turns - after.reader.calls) after.reader.ended

-- the exit status: 0 without a no, 1 with one, 3 after a fault
abbrev pub status_of : Result Tally RunFault → ℕ
status_of (Ok tally) = if tally.no == 0 then 0 else 1
status_of (Err fault) = 3
