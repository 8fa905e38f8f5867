-- What was put for a writer, notes and rejects, and what they have of it.
use Rattle.std.proofs.Common.{◌≡◌, ◌∙◌, ℕ, true, false, List, [], ◌++◌, ap, refl, subst, sym, append-nil, append_assoc}
use Rattle.std.proofs.{KnownBytes.Appends-kept, KnownBytes.Appends-nil}
use Rattle.std.specs.Io.KnownBytes.{Appends}
use Rattle.fb_bytes.specs.Ends.{one_more}
use Rattle.fb_run.specs.{AllTold.ComesBehind, AllTold.WritesFront, Ends.Outs, Ends.Takes, Ends.Unwritten, Ends.Writer, Faults.IsCausedOut, Faults.IsUnfailedOut, Pieces.AreEmpty, Puts.AreCut}
use Rattle.fb_run.specs.{Puts.AreOpen, Puts.Puts, Puts.PutsAs, Puts.PutsFront, Puts.PutsTold, Puts.Queue, Puts.Queues, Puts.all_unused, Puts.unused, Texts.Texts, Texts.silent}
use Rattle.fb_run.specs.declared.fault.RunFault.{RunFault}
use Rattle.fb_run.specs.declared.fault.RunFault.TheVariants as run
use Rattle.fb_run.proofs.PutsLemmas.{front_whole}

-- the writers of all
abbrev pub outs_in : Queues → Outs
outs_in queues = record { writer = queues.out.writer; notes = queues.notes.writer; rejects = queues.rejects.writer }

pub takes_none : (a b : Outs) → Unwritten a b → Takes a b silent
takes_none a b (sink, notes, rejects) = record {
  wrote = Appends-kept a.writer.bytes a.writer.bytes b.writer.bytes [] (Appends-nil a.writer.bytes) sink;
  noted = Appends-kept a.notes.bytes a.notes.bytes b.notes.bytes [] (Appends-nil a.notes.bytes) notes;
  rejected = Appends-kept a.rejects.bytes a.rejects.bytes b.rejects.bytes [] (Appends-nil a.rejects.bytes) rejects;
}

-- what was put where no write failed, and where one did
pub put_behind : (text : List ℕ) (writer : Writer) (now : Queue) → now.failed ≡ false → Puts text (unused writer) now
    → ComesBehind [] text now.waits writer.bytes now.writer.bytes 0 now.written × (now.writer.failures ≡ writer.failures)
put_behind text writer now fine puts = subst (λ f. PutsAs false f text (unused writer) now) fine puts

pub put_front : (text : List ℕ) (writer : Writer) (now : Queue) → now.failed ≡ true → Puts text (unused writer) now
    → WritesFront text writer.bytes now.writer.bytes 0 now.written × (now.writer.failures ≡ one_more writer.failures)
put_front text writer now cut puts = subst (λ f. PutsAs false f text (unused writer) now) cut puts

-- where nothing waits, all of it is written
pub written_all : (text : List ℕ) (writer : Writer) (now : Queue) → now.failed ≡ false → now.waits ≡ [] → Puts text (unused writer) now → Appends writer.bytes now.writer.bytes text
written_all text writer now fine none puts =
    let behind = (put_behind text writer now fine puts).0 in
    subst (Appends writer.bytes now.writer.bytes) (sym (behind.whole ∙ ap (λ l. behind.front ++ l) none ∙ append-nil behind.front)) behind.wrote

-- of a text that was put in part where no write failed, so much is written
pub record Gone (text : List ℕ) (writer now : Writer) : Type 0 where
  pub gone : List ℕ
  pub left : List ℕ
  pub whole : text ≡ gone ++ left
  pub wrote : Appends writer.bytes now.bytes gone
  pub kept : now.failures ≡ writer.failures

pub part_behind : {Holds : Type 0} (text : List ℕ) (writer : Writer) (now : Queue) → now.failed ≡ false → PutsFront Holds text (unused writer) now → Gone text writer now.writer
part_behind text writer now fine part =
    let (behind, kept) = put_behind part.front writer now fine part.puts in
    record {
      gone = behind.front;
      left = now.waits ++ part.left;
      whole = part.whole ∙ ap (λ l. l ++ part.left) behind.whole ∙ append_assoc behind.front now.waits part.left;
      wrote = behind.wrote;
      kept = kept;
    }

module _ (text : Texts) (first : Outs) (now : Queues) (puts : PutsTold text (all_unused first) now) where
  pub takes_all : AreOpen now → AreEmpty now → Takes first (outs_in now) text
  takes_all fine empty = record {
    wrote = written_all text.out first.writer now.out fine.0 empty.0 puts.0;
    noted = written_all text.notes first.notes now.notes fine.1 empty.1 puts.1;
    rejected = written_all text.rejects first.rejects now.rejects fine.2 empty.2 (front_whole text.rejects (unused first.rejects) now.rejects puts.2 (fine.0, fine.1));
  }

  pub none_failed : AreOpen now → IsUnfailedOut first (outs_in now)
  none_failed fine = (
    (put_behind text.out first.writer now.out fine.0 puts.0).1,
    (put_behind text.notes first.notes now.notes fine.1 puts.1).1,
    (part_behind text.rejects first.rejects now.rejects fine.2 puts.2).kept,
  )

  -- a write of the writer failed, or of the notes, or of the rejects
  pub cut_caused : (fault : RunFault) → AreCut now fault → IsCausedOut first (outs_in now) fault
  cut_caused (run.WriteFault written) (cut, notes, rejects, is) reads left ended = (
    refl,
    (put_front text.out first.writer now.out cut puts.0).1,
    (put_behind text.notes first.notes now.notes notes puts.1).1,
    (part_behind text.rejects first.rejects now.rejects rejects puts.2).kept,
  )
  cut_caused (run.NoteFault written) (cut, out, rejects, none, is) reads left ended = (
    refl,
    (put_behind text.out first.writer now.out out puts.0).1,
    (put_front text.notes first.notes now.notes cut puts.1).1,
    (part_behind text.rejects first.rejects now.rejects rejects puts.2).kept,
  )
  cut_caused (run.RejectFault written) (cut, out, notes, none, unnoted, is) reads left ended = (
    refl,
    (put_behind text.out first.writer now.out out puts.0).1,
    (put_behind text.notes first.notes now.notes notes puts.1).1,
    (put_front text.rejects first.rejects now.rejects cut (front_whole text.rejects (unused first.rejects) now.rejects puts.2 (out, notes))).1,
  )
  cut_caused _ never reads left ended = absurd never
