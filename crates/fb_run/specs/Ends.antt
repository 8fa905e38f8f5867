-- What contracts see of the ends of a run: of its reader, and by the ghosts of their traits of its writer, and of the
-- notes and the rejects beside that.
use Rattle.std.specs.Prelude.{ℕ, Bool, List, None, Option}
use Rattle.std.specs.Io.KnownBytes.{Appends, Keeps}
use Rattle.fb_bytes.specs.declared.ends.Sink as sink
use Rattle.fb_run.specs.Texts.{Texts}

-- of a reader: what is left to read, the calls of it, those that failed, and whether it told its end
pub record Reader : Type 0 where
  pub left : Option (List ℕ)
  pub calls : ℕ
  pub failures : ℕ
  pub ended : Bool

-- of a writer: what was written to it, and the calls of it that failed
pub record Writer : Type 0 where
  pub bytes : Option (List ℕ)
  pub failures : ℕ

-- of a writer, the notes and the rejects
pub record Outs : Type 0 where
  pub writer : Writer
  pub notes : Writer
  pub rejects : Writer

-- of all four
pub record Ends : Type 0 where
  pub reader : Reader
  pub outs : Outs

-- a reader beside these
abbrev pub beside : Reader → Outs → Ends
beside reader outs = record { reader = reader; outs = outs }

-- the ends with these notes
abbrev pub with_notes : Ends → Writer → Ends
with_notes ends notes = record ends { outs = record ends.outs { notes = notes } }

-- and with these rejects
abbrev pub with_rejects : Ends → Writer → Ends
with_rejects ends rejects = record ends { outs = record ends.outs { rejects = rejects } }

-- and with this writer
abbrev pub with_writer : Ends → Writer → Ends
with_writer ends writer = record ends { outs = record ends.outs { writer = writer } }

-- nothing was written, noted or rejected
abbrev pub Unwritten : Outs → Outs → Type 0
Unwritten before after =
    Keeps before.writer.bytes after.writer.bytes × Keeps before.notes.bytes after.notes.bytes × Keeps before.rejects.bytes after.rejects.bytes

-- this text was written, noted and rejected
pub record Takes (before after : Outs) (text : Texts) : Type 0 where
  pub wrote : Appends before.writer.bytes after.writer.bytes text.out
  pub noted : Appends before.notes.bytes after.notes.bytes text.notes
  pub rejected : Appends before.rejects.bytes after.rejects.bytes text.rejects

-- what the ghosts of their traits tell of them
abbrev pub writer_of : {K : Type 0} → sink.Ghosts K → K → Writer
writer_of k writer = record { bytes = k.contents writer; failures = k.failures writer }

abbrev pub all_outs : {K N R : Type 0} → sink.Ghosts K → sink.Ghosts N → sink.Ghosts R → K → N → R → Outs
all_outs k n r writer notes rejects = record { writer = writer_of k writer; notes = writer_of n notes; rejects = writer_of r rejects }

-- one of which nothing is known, and to which no write fails
abbrev pub nowhere : Writer
nowhere = record { bytes = None; failures = 0 }

-- a writer and notes, where rejects go nowhere
abbrev pub outs_of : {K N : Type 0} → sink.Ghosts K → sink.Ghosts N → K → N → Outs
outs_of k n writer notes = record { writer = writer_of k writer; notes = writer_of n notes; rejects = nowhere }
