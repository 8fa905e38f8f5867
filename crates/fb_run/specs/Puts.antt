-- What was put behind what waits to be written, where nothing more is written once a write has failed.
use Rattle.std.specs.Prelude.{◌≡◌, ℕ, Bool, true, false, List, [], ◌++◌, Result, Ok, Err}
use Rattle.fb_bytes.specs.Ends.{one_more}
use Rattle.fb_bytes.specs.declared.ends.Sink as sink
use Rattle.fb_run.specs.{AllTold.ComesBehind, AllTold.WritesFront, Ends.Outs, Ends.Writer, Ends.writer_of, Job.Job, Job.Verdict, Line.IsTold, Line.SaidBy, Line.ToldBy, Spot.Before, Sums.tally_with}
use Rattle.fb_run.specs.Texts.{Texts}
use Rattle.fb_run.specs.declared.{fault.RunFault.RunFault, options.Mode.Mode, options.Rejects.Rejects, output.Output.Output, tally.Tally.Tally, writing.Pending.Pending, writing.Written.Written}
use Rattle.fb_run.specs.declared.fault.RunFault.TheVariants.{OutOfMemory, WriteFault, NoteFault, RejectFault}

-- what waits for a writer, how many bytes were written to it, whether a write has failed, and what it has
pub record Queue : Type 0 where
  pub waits : List ℕ
  pub written : ℕ
  pub failed : Bool
  pub writer : Writer

abbrev pub behind : List ℕ → Written → Writer → Queue
behind waits written writer = record { waits = waits; written = written.bytes; failed = written.failed; writer = writer }

abbrev pub queue_of : {A K : Type 0} → sink.Ghosts K → Pending A → K → Queue
queue_of k out writer = behind out.bytes.items out.written (writer_of k writer)

-- nothing was put there
abbrev pub IsBlank : {A : Type 0} → Pending A → Type 0
IsBlank out = (out.bytes.items ≡ []) × (out.written ≡ record { bytes = 0; failed = false })

abbrev pub unused : Writer → Queue
unused writer = record { waits = []; written = 0; failed = false; writer = writer }

-- a text was put there, by whether a write had failed before, and whether one has by then: it came behind what waited;
-- or a write failed within both; or one had, and nothing more was written
abbrev pub PutsAs : Bool → Bool → List ℕ → Queue → Queue → Type 0
PutsAs false false text before after =
    ComesBehind before.waits text after.waits before.writer.bytes after.writer.bytes before.written after.written × (after.writer.failures ≡ before.writer.failures)
PutsAs false true text before after =
    WritesFront (before.waits ++ text) before.writer.bytes after.writer.bytes before.written after.written × (after.writer.failures ≡ one_more before.writer.failures)
PutsAs true true text before after = (after.written ≡ before.written) × (after.writer ≡ before.writer)
PutsAs true false text before after = ⊥

abbrev pub Puts : List ℕ → Queue → Queue → Type 0
Puts text before after = PutsAs before.failed after.failed text before after

-- a text of which this holds was put there
abbrev pub PutsSome : (List ℕ → Type 0) → Queue → Queue → Type 0
PutsSome IsIt before after = (text : List ℕ) × IsIt text × Puts text before after

-- the same for the writer, for the notes, and for the rejects
pub record Queues : Type 0 where
  pub out : Queue
  pub notes : Queue
  pub rejects : Queue

abbrev pub queues_of : {A K N R : Type 0} → sink.Ghosts K → sink.Ghosts N → sink.Ghosts R → Output A → K → N → R → Queues
queues_of k n r output writer notes rejects = record {
  out = queue_of k output.out writer;
  notes = queue_of n output.notes notes;
  rejects = queue_of r output.rejects rejects;
}

abbrev pub IsUnused : {A : Type 0} → Output A → Type 0
IsUnused output = IsBlank output.out × IsBlank output.notes × IsBlank output.rejects

abbrev pub all_unused : Outs → Queues
all_unused outs = record { out = unused outs.writer; notes = unused outs.notes; rejects = unused outs.rejects }

abbrev pub PutsAll : Texts → Queues → Queues → Type 0
PutsAll told before after = Puts told.out before.out after.out × Puts told.notes before.notes after.notes × Puts told.rejects before.rejects after.rejects

-- a front of a text was put there, and all of it where this holds
pub record PutsFront (Holds : Type 0) (text : List ℕ) (before after : Queue) : Type 0 where
  pub front : List ℕ
  pub left : List ℕ
  pub whole : text ≡ front ++ left
  pub all : Holds → left ≡ []
  pub puts : Puts front before after

-- what is told was put there: for the rejects last of all, and so in part where a write for the others has failed by then
abbrev pub PutsTold : Texts → Queues → Queues → Type 0
PutsTold told before after =
    Puts told.out before.out after.out × Puts told.notes before.notes after.notes
    × PutsFront ((after.out.failed ≡ false) × (after.notes.failed ≡ false)) told.rejects before.rejects after.rejects

-- no write has failed
abbrev pub AreOpen : Queues → Type 0
AreOpen queues = (queues.out.failed ≡ false) × (queues.notes.failed ≡ false) × (queues.rejects.failed ≡ false)

-- one has: of the writer; of the notes behind all that was for the writer; or of the rejects behind all that was for both
abbrev pub AreCut : Queues → RunFault → Type 0
AreCut queues (WriteFault written) =
    (queues.out.failed ≡ true) × (queues.notes.failed ≡ false) × (queues.rejects.failed ≡ false) × (written ≡ queues.out.written)
AreCut queues (NoteFault written) =
    (queues.notes.failed ≡ true) × (queues.out.failed ≡ false) × (queues.rejects.failed ≡ false) × (queues.out.waits ≡ []) × (written ≡ queues.notes.written)
AreCut queues (RejectFault written) =
    (queues.rejects.failed ≡ true) × (queues.out.failed ≡ false) × (queues.notes.failed ≡ false) × (queues.out.waits ≡ []) × (queues.notes.waits ≡ [])
    × (written ≡ queues.rejects.written)
AreCut queues _ = ⊥

-- nothing waits there, and no write has failed
abbrev pub IsDone : Queue → Type 0
IsDone queue = (queue.failed ≡ false) × (queue.waits ≡ [])

-- where a write of the notes has failed, nothing waits for the writer; where one of the rejects has, for neither
pub record AreSound (queues : Queues) : Type 0 where
  pub noted : queues.notes.failed ≡ true → IsDone queues.out × (queues.rejects.failed ≡ false)
  pub rejected : queues.rejects.failed ≡ true → IsDone queues.out × IsDone queues.notes

-- the one of both that an answer tells
abbrev pub AreSo : Queues → Result (Unit {0}) RunFault → Type 0
AreSo queues (Ok done) = AreOpen queues
AreSo queues (Err fault) = AreCut queues fault

-- what the mode tells of a message by this verdict was put there, where this holds of its line
pub record Tells (mode : Mode) (keeps : Rejects) (IsItsLine : List ℕ → Type 0) (message : List ℕ) (verdict : Verdict) (before after : Queues) : Type 0 where
  pub told : Texts
  pub is_told : ToldBy mode keeps IsItsLine message verdict told
  pub puts : PutsTold told before after

-- what is said of it was put there
pub record Says (mode : Mode) (IsItsLine : List ℕ → Type 0) (message : List ℕ) (verdict : Verdict) (before after : Queue) (notes notes' : List ℕ) : Type 0 where
  pub said : Texts
  pub is_said : SaidBy mode IsItsLine message verdict said
  pub puts : Puts said.out before after
  pub notes_are : notes' ≡ notes ++ said.notes

-- what is told of the message behind so much was put there, and its verdict was counted
pub record Adds (job : Job) (before_it : Before) (message : List ℕ) (before after : Queues) (tally tally' : Tally) : Type 0 where
  pub verdict : Verdict
  pub told : Texts
  pub is_told : IsTold job before_it message verdict told
  pub puts : PutsTold told before after
  pub tally_is : tally' ≡ tally_with message verdict tally

-- what holds where a message was added; without memory nothing is put and nothing counted
abbrev pub AddsOr : Type 0 → Queues → Queues → Tally → Tally → Result (Unit {0}) RunFault → Type 0
AddsOr Added before after tally tally' (Err OutOfMemory) = (after ≡ before) × (tally' ≡ tally)
AddsOr Added before after tally tally' end = Added × AreSo after end

abbrev pub AddsBy : Job → Before → List ℕ → Queues → Queues → Tally → Tally → Result (Unit {0}) RunFault → Type 0
AddsBy job before_it message before after tally tally' = AddsOr (Adds job before_it message before after tally tally') before after tally tally'
