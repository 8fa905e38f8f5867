-- The ends of a run by the ghosts of their traits, its reader's among them, and the leave to ask that for more.
use Rattle.std.specs.Prelude.{◌≡◌, ◌⊎◌, false}
use Rattle.fb_bytes.specs.declared.ends.Sink as sink
use Rattle.fb_run.specs.Ends.{Ends, Reader, all_outs, beside, nowhere, outs_of, writer_of}
use Rattle.fb_run.specs.declared.input.Input as input

-- no read failed, and it is asked for the first time, or no read has told its end since
abbrev pub IsUnended : Reader → Reader → Type 0
IsUnended before now = (now.failures ≡ before.failures) × ((now.ended ≡ false) ⊎ ((now.calls ≡ before.calls) × (now.ended ≡ before.ended)))

-- what the ghosts of their traits tell of them
abbrev pub reader_of : {S K N : Type 0} → input.Ghosts S K N → S → Reader
reader_of s reader = record { left = s.remaining reader; calls = s.calls reader; failures = s.failures reader; ended = s.ended reader }

abbrev pub all_ends : {S K N R : Type 0} → input.Ghosts S K N → sink.Ghosts K → sink.Ghosts N → sink.Ghosts R → S → K → N → R → Ends
all_ends s k n r reader writer notes rejects = beside (reader_of s reader) (all_outs k n r writer notes rejects)

-- the same where rejects go nowhere
abbrev pub ends_of : {S K N : Type 0} → input.Ghosts S K N → sink.Ghosts K → sink.Ghosts N → S → K → N → Ends
ends_of s k n reader writer notes = beside (reader_of s reader) (outs_of k n writer notes)

-- and where notes go nowhere too
abbrev pub noteless : {S K N : Type 0} → input.Ghosts S K N → sink.Ghosts K → S → K → Ends
noteless s k reader writer = beside (reader_of s reader) (record { writer = writer_of k writer; notes = nowhere; rejects = nowhere })

-- the leave to ask with these ends
abbrev pub MayAsk : {S K N : Type 0} → input.Ghosts S K N → Ends → Type 0
MayAsk s now = s.may_ask now.reader.left now.outs.writer.bytes now.outs.notes.bytes now.reader.calls now.reader.failures now.reader.ended

-- from these ends on, the reader may be asked wherever no read failed or told its end and all that was read is told
abbrev pub HasLeave : {S K N : Type 0} → input.Ghosts S K N → Ends → (Ends → Ends → Type 0) → Type 0
HasLeave s before IsPrompt = (now : Ends) → IsPrompt before now → IsUnended before.reader now.reader → MayAsk s now
