-- A run over a stream: what was read and written, and then one piece more.
use Rattle.std.proofs.Common.{◌≡◌, ℕ, ◌+◌, ◌-◌, ◌*◌, ◌<◌, ◌≤◌, Bool, true, false, List, [], ◌++◌, length, take, drop, refl, sym, ap, subst, ◌∙◌, arith, append-nil, length-take-le, take-append-drop, Result, Ok, Err, IsErrAnd}
use Rattle.std.specs.Io.KnownBytes.{Consumes, Keeps}
use Rattle.std.proofs.{KnownBytes.Consumes-kept, KnownBytes.Consumes-nil, KnownBytes.Consumes-trans, KnownBytes.Keeps-refl, lemmas.List.drop_all, lemmas.List.length-drop}
use mathlib.Core.Logic.{◌⊎◌, inl, inr}
use Rattle.fb_bytes.specs.{Messages.IsMessage, Messages.IsPartial, Messages.Splits, declared.cut.Cut.Cut}
use Rattle.fb_bytes.specs.declared.stream_fault.StreamFault.TheVariants as stream
use Rattle.fb_run.specs.{AllTold.AreTold, Ends.Ends, Ends.Outs, Ends.Reader, Ends.Takes, Ends.beside, Job.Job, Job.checked_in, Job.cut_of, Leave.IsUnended, Prompt.IsPrompt, Prompt.IsPromptFrom}
use Rattle.fb_run.specs.{Prompt.IsStreamPrompt, Puts.AreOpen, Puts.Queues, Puts.all_unused, Puts.unused, Run.IsRunBeside, Run.IsRunFrom, Run.Runs, Run.answer_by, Spot.IsDue, Spot.IsFull}
use Rattle.fb_run.specs.{Spot.at_first, Spot.past_all, Stream.FailsStream, Stream.Rests, Stream.TellsSome, Stream.WhyStream, Sums.count_of, Sums.no_tally, Texts.Texts, Texts.followed, Texts.silent, Texts.to_rejects}
use Rattle.fb_run.specs.Faults.{End, EndsBeside, IsCaused, IsCausedOut, IsUnfailedOut, end_of, failed}
use Rattle.fb_run.specs.Pieces.{AreEmpty, AreSettled, Carry, Gathers, Halts, IsReady, PassesFront, Stands, WritesBy}
use Rattle.fb_run.specs.declared.{fault.RunFault.RunFault, run.Ran.Ran, skip.Skip.Skip, tally.Tally.Tally}
use Rattle.fb_run.specs.declared.fault.RunFault.TheVariants as run
use Rattle.fb_run.proofs.{PutsLemmas.front_whole, Splitting.empty_partial, Splitting.splits_rest, StreamLemmas.due_not_full, StreamLemmas.front_gathers, StreamLemmas.stands_first}
use Rattle.fb_run.proofs.{SkipLemmas.LeavesOut, SkipLemmas.checked_more, SkipLemmas.skips_more, TakesLemmas.cut_caused, TakesLemmas.none_failed, TakesLemmas.outs_in}
use Rattle.fb_run.proofs.TakesLemmas.{part_behind, put_behind, put_front, takes_all, takes_none, written_all}
use Rattle.fb_run.proofs.TextsLemmas.{same_texts}

-- what was read from the reader so far, of which all that is told is written, and the next message is told
pub record Sofar (job : Job) (first now : Reader) (before : Outs) (here : Carry) (skip : Skip) (turns left : ℕ) : Type 0 where
  pub bytes : List ℕ
  pub read : Consumes first.left now.left bytes
  pub skips : LeavesOut job bytes skip
  pub stands : Stands job before (checked_in job bytes) here
  pub due : IsDue job (past_all job here.tally)
  pub ready : IsReady job here.framer here.room
  pub unfailed : AreOpen here.queues
  pub empty : AreEmpty here.queues
  pub fewer : left ≤ turns
  pub calls : now.calls + left ≡ first.calls + turns
  pub few : count_of here.tally + 65536 * left ≤ 65536 * turns
  pub asks : IsUnended first now

-- nothing was told
pub sofar_nothing : (job : Job) (reader : Reader) (outs : Outs) (here : Carry) (skip : Skip) (turns : ℕ) → LeavesOut job [] skip → IsDue job (at_first job) → IsReady job here.framer here.room → here.queues ≡ all_unused outs → here.tally ≡ no_tally → here.framer.held ≡ []
    → Sofar job reader reader outs here skip turns turns
sofar_nothing job reader outs here skip turns skips due ready unused counted none = record {
  bytes = [];
  read = Consumes-nil reader.left;
  skips = skips;
  stands = subst (λ (l : List ℕ). Stands job outs l here) (sym (drop_all job.terms.skip [] (omega arith))) (stands_first job outs here unused counted none);
  due = rw counted (record { messages = due.messages; bad = due.bad });
  ready = ready;
  unfailed = rw unused (refl, refl, refl);
  empty = rw unused (refl, refl, refl);
  fewer = omega arith;
  calls = omega arith;
  few = omega (arith, ap count_of counted);
  asks = (refl, inr (refl, refl));
}

-- where a run may read by a checker's job, it may by the job that this is
pub prompt_by : {job same : Job} {bare : Bool} (before now : Ends) → same ≡ job → same.terms.bare ≡ bare → IsPromptFrom bare same before now → IsPrompt job before now
prompt_by {same = same} before now is bare_is prompt =
    subst (λ (j : Job). IsPrompt j before now) is (subst (λ b. IsPromptFrom b same before now) (sym bare_is) prompt)

module _ {job : Job} {before : Outs} (bytes : List ℕ) {tally : Tally} {queues : Queues} (some : Gathers job before (checked_in job bytes) tally queues) where
  -- this text is told of the first messages
  told_as : (text : Texts) → some.text ≡ text → TellsSome job bytes text tally
  told_as text is = (some.done ++ some.left, some.rest, some.done, some.left, some.splits, refl, subst (λ (t : Texts). AreTold job (at_first job) some.done t tally) is some.told)

  -- the run came to rest in the messages, with this text written
  rests_in : (text : Texts) (fault : RunFault) → WhyStream job bytes (some.done ++ some.left) some.rest text tally fault → Rests job bytes text tally fault
  rests_in text fault why = (some.done ++ some.left, some.rest, some.splits, why)

-- a write failed behind a front of what is told of these bytes, or the run came to rest with all of that written
halts_fails : (job : Job) (first reader : Reader) (before : Outs) (bytes : List ℕ) (tally : Tally) (queues : Queues) (fault : RunFault) → Consumes first.left reader.left bytes
    → Halts job before (checked_in job bytes) tally queues fault → AreSettled queues fault → FailsStream job (beside first before) (beside reader (outs_in queues)) tally fault
halts_fails job first reader before bytes tally queues (run.WriteFault written) read (some, inl (cut, fine, right, is)) settled =
    let front = (put_front some.text.out before.writer queues.out cut some.puts.0).0 in
    let notes = (put_behind some.text.notes before.notes queues.notes fine some.puts.1).0 in
    let rejects = part_behind some.text.rejects before.rejects queues.rejects right some.puts.2 in
    let gone : Texts = record { out = take front.taken some.text.out; notes = notes.front; rejects = rejects.gone } in
    let more : Texts = record { out = drop front.taken some.text.out; notes = queues.notes.waits; rejects = rejects.left } in
    let whole : some.text ≡ followed gone more = same_texts _ _ _ _ _ _ (sym (take-append-drop front.taken some.text.out)) notes.whole rejects.whole in
    let long : length gone.out ≡ front.taken = length-take-le front.taken some.text.out (omega (arith, front.within)) in
    record {
      bytes = bytes;
      text = gone;
      read = read;
      takes = record { wrote = front.wrote; noted = notes.wrote; rejected = rejects.wrote };
      rests = rests_in bytes some gone (run.WriteFault written) (λ few. omega (arith, is, long, front.written_is (omega (arith, few, long))), (more, told_as bytes some (followed gone more) whole));
    }
halts_fails job first reader before bytes tally queues (run.NoteFault written) read (some, inl (cut, fine, right, none, is)) settled =
    let front = (put_front some.text.notes before.notes queues.notes cut some.puts.1).0 in
    let rejects = part_behind some.text.rejects before.rejects queues.rejects right some.puts.2 in
    let gone : Texts = record { out = some.text.out; notes = take front.taken some.text.notes; rejects = rejects.gone } in
    let more : Texts = record { out = []; notes = drop front.taken some.text.notes; rejects = rejects.left } in
    let whole : some.text ≡ followed gone more = same_texts _ _ _ _ _ _ (sym (append-nil some.text.out)) (sym (take-append-drop front.taken some.text.notes)) rejects.whole in
    let long : length gone.notes ≡ front.taken = length-take-le front.taken some.text.notes (omega (arith, front.within)) in
    record {
      bytes = bytes;
      text = gone;
      read = read;
      takes = record { wrote = written_all some.text.out before.writer queues.out fine none some.puts.0; noted = front.wrote; rejected = rejects.wrote };
      rests = rests_in bytes some gone (run.NoteFault written) (λ few. omega (arith, is, long, front.written_is (omega (arith, few, long))), (more, refl, told_as bytes some (followed gone more) whole));
    }
halts_fails job first reader before bytes tally queues (run.RejectFault written) read (some, inl (cut, fine, right, none, unnoted, is)) settled =
    let front = (put_front some.text.rejects before.rejects queues.rejects cut (front_whole some.text.rejects (unused before.rejects) queues.rejects some.puts.2 (fine, right))).0 in
    let gone : Texts = record { out = some.text.out; notes = some.text.notes; rejects = take front.taken some.text.rejects } in
    let more = drop front.taken some.text.rejects in
    let whole : some.text ≡ followed gone (to_rejects more) =
    same_texts _ _ _ _ _ _ (sym (append-nil some.text.out)) (sym (append-nil some.text.notes)) (sym (take-append-drop front.taken some.text.rejects)) in
    let long : length gone.rejects ≡ front.taken = length-take-le front.taken some.text.rejects (omega (arith, front.within)) in
    record {
      bytes = bytes;
      text = gone;
      read = read;
      takes = record {
        wrote = written_all some.text.out before.writer queues.out fine none some.puts.0;
        noted = written_all some.text.notes before.notes queues.notes right unnoted some.puts.1;
        rejected = front.wrote;
      };
      rests = rests_in bytes some gone (run.RejectFault written) (λ few. omega (arith, is, long, front.written_is (omega (arith, few, long))), (more, told_as bytes some (followed gone (to_rejects more)) whole));
    }
halts_fails job first reader before bytes tally queues run.OutOfMemory read (some, inr (fine, starved)) (inr empty) = record {
  bytes = bytes;
  text = some.text;
  read = read;
  takes = takes_all some.text before queues some.puts fine empty;
  rests = rests_in bytes some some.text run.OutOfMemory (told_as bytes some some.text refl);
}
halts_fails job first reader before bytes tally queues (run.Stream (stream.Oversize number)) read (some, inr (fine, (due, none, over, is))) (inr empty) = record {
  bytes = bytes;
  text = some.text;
  read = read;
  takes = takes_all some.text before queues some.puts fine empty;
  rests = (some.done, some.rest, rw (none, append-nil some.done) at some.splits, (due, over, is, some.told));
}
halts_fails job first reader before bytes tally queues run.OutOfMemory read halts (inl never) = absurd never
halts_fails job first reader before bytes tally queues (run.Stream (stream.Oversize number)) read halts (inl never) = absurd never
halts_fails job first reader before bytes tally queues _ read (some, inl never) settled = absurd never
halts_fails job first reader before bytes tally queues _ read (some, inr (fine, never)) settled = absurd never

halts_caused : (job : Job) (before : Outs) (bytes : List ℕ) (tally : Tally) (queues : Queues) (fault : RunFault) → Halts job before bytes tally queues fault → IsCausedOut before (outs_in queues) fault
halts_caused job before bytes tally queues fault (some, inl cut) reads left ended = cut_caused some.text before queues some.puts fault cut reads left ended
halts_caused job before bytes tally queues run.OutOfMemory (some, inr (fine, why)) reads left ended =
    let kept = none_failed some.text before queues some.puts fine in (refl, kept.0, kept.1, kept.2)
halts_caused job before bytes tally queues (run.Stream (stream.Oversize number)) (some, inr (fine, why)) reads left ended =
    let kept = none_failed some.text before queues some.puts fine in (refl, kept.0, kept.1, kept.2)
halts_caused job before bytes tally queues _ (some, inr (fine, never)) reads left ended = absurd never

-- the cause of a fault of the writer and the notes is that of the run, where no read failed
pub caused_at : (reads reads' left : ℕ) (ended : Bool) (a b : Outs) (fault : RunFault) → reads' ≡ reads → IsCausedOut a b fault → IsCaused (failed reads a) (failed reads' b) left ended fault
caused_at reads reads' left ended a b fault same caused = rw same (caused reads left ended)

module _ {job : Job} {first now : Reader} {before : Outs} {here : Carry} {skip : Skip} {turns left : ℕ} (sofar : Sofar job first now before here skip turns left) where
  none : IsUnfailedOut before (outs_in here.queues)
  none = none_failed sofar.stands.text before here.queues sofar.stands.puts sofar.unfailed

  takes : Takes before (outs_in here.queues) sofar.stands.text
  takes = takes_all sofar.stands.text before here.queues sofar.stands.puts sofar.unfailed sofar.empty

  part : IsPartial (cut_of job) here.framer.held
  part = subst (λ (u : Cut). IsPartial u here.framer.held) sofar.ready.cut sofar.ready.part

  -- all that was read is told
  pub sofar_prompt : IsStreamPrompt job (beside first before) (beside now (outs_in here.queues))
  sofar_prompt = record {
    bytes = sofar.bytes;
    messages = sofar.stands.messages;
    rest = here.framer.held;
    text = sofar.stands.text;
    read = sofar.read;
    splits = sofar.stands.splits;
    tally = here.tally;
    partial = part;
    told = sofar.stands.told;
    due = sofar.due;
    takes = takes;
  }

  -- a piece was read, and what of it stands behind the bytes that are left out was passed
  module _ (k : ℕ) (piece more : List ℕ) (reader : Reader) (some : 0 < left) (read : Consumes now.left reader.left (take k piece)) (called : reader.calls ≡ now.calls + 1) (same : reader.failures ≡ now.failures)
      (behind : more ≡ drop skip.left (take k piece)) where
    all : List ℕ
    all = sofar.bytes ++ take k piece

    reads : Consumes first.left reader.left (sofar.bytes ++ take k piece)
    reads = Consumes-trans first.left now.left reader.left sofar.bytes (take k piece) sofar.read read

    grown : checked_in job (sofar.bytes ++ take k piece) ≡ checked_in job sofar.bytes ++ more
    grown = checked_more job sofar.bytes (take k piece) more skip sofar.skips behind

    pub sofar_piece : {after : Carry} {skip' : Skip} → length piece ≡ 65536 → k ≤ length piece → reader.ended ≡ false → skip'.all ≡ skip.all → skip'.left ≡ skip.left - length (take k piece)
        → IsDue job (past_all job after.tally) → PassesFront job more here after × AreEmpty after.queues → Sofar job first reader before after skip' turns (left - 1)
    sofar_piece {after} {skip'} long fits unended alike shorter due (passes, empty) =
        let short = length-take-le k piece fits in
        let goes = passes.goes_on in
        let none : passes.left ≡ [] = elim passes.stopped [ inl full ↦ absurd (due_not_full job (past_all job after.tally) due full) | inr none ↦ none ] in
        let front : passes.front ≡ more = sym (passes.whole ∙ ap (λ l. passes.front ++ l) none ∙ append-nil passes.front) in
        let size : length more ≡ length (take k piece) - skip.left = ap length behind ∙ length-drop skip.left (take k piece) in
        record {
          bytes = sofar.bytes ++ take k piece;
          read = reads;
          skips = skips_more job sofar.bytes (take k piece) skip skip' sofar.skips alike shorter;
          stands = subst (λ (l : List ℕ). Stands job before l after) (ap (λ (l : List ℕ). checked_in job sofar.bytes ++ l) front ∙ sym grown) (goes.onward before (checked_in job sofar.bytes) sofar.stands);
          due = due;
          ready = goes.ready;
          unfailed = goes.unfailed;
          empty = empty;
          fewer = omega (arith, sofar.fewer);
          calls = omega (arith, some, called, sofar.calls);
          few = omega (arith, some, long, fits, short, goes.few, sofar.few, size, ap length front);
          asks = (same ∙ sofar.asks.0, inl unended);
        }

    -- a bound was reached in it
    pub full_piece : (after : Carry) → IsFull job (past_all job after.tally) → PassesFront job more here after × AreEmpty after.queues
        → Runs false job (beside first before) (beside reader (outs_in after.queues)) turns after.tally (Ok tt)
    full_piece after full (passes, empty) =
        let gathers = front_gathers job before (checked_in job sofar.bytes) more here after passes sofar.stands in
        let fine = passes.goes_on.unfailed in
        let kept = none_failed gathers.text before after.queues gathers.puts fine in
        record {
          run = record {
            bytes = sofar.bytes ++ take k piece;
            done = gathers.done;
            left = gathers.left;
            rest = gathers.rest;
            text = gathers.text;
            read = reads;
            splits = subst (λ (l : List ℕ). Splits (cut_of job) l (gathers.done ++ gathers.left) gathers.rest) (sym grown) gathers.splits;
            told = gathers.told;
            takes = takes_all gathers.text before after.queues gathers.puts fine empty;
            stopped = inl full;
          };
          end_is = (same ∙ sofar.asks.0, kept.0, kept.1, kept.2);
          turns_are = omega (arith, some, called, sofar.calls);
        }

    -- or the run came to rest in it
    pub fails_piece : (after : Carry) (fault : RunFault) → WritesBy job more here after (Err fault)
        → Runs false job (beside first before) (beside reader (outs_in after.queues)) turns after.tally (Err fault)
    fails_piece after fault (stops, settled) =
        let halts = subst (λ (l : List ℕ). Halts job before l after.tally after.queues fault) (sym grown) (stops before (checked_in job sofar.bytes) sofar.stands) in
        record {
          run = halts_fails job first reader before (sofar.bytes ++ take k piece) after.tally after.queues fault reads halts settled;
          end_is = caused_at first.failures reader.failures _ _ before (outs_in after.queues) fault (same ∙ sofar.asks.0) (halts_caused job before (checked_in job (sofar.bytes ++ take k piece)) after.tally after.queues fault halts);
          turns_are = omega (arith, some, called, sofar.calls);
        }

  -- the run came to rest where all that is told of what was read is written
  rests : (reader : Reader) (fault : RunFault) → Consumes first.left reader.left sofar.bytes → WhyStream job sofar.bytes sofar.stands.messages here.framer.held sofar.stands.text here.tally fault
      → FailsStream job (beside first before) (beside reader (outs_in here.queues)) here.tally fault
  rests reader fault read why = record {
    bytes = sofar.bytes;
    text = sofar.stands.text;
    read = read;
    takes = takes;
    rests = (sofar.stands.messages, here.framer.held, sofar.stands.splits, why);
  }

  -- there are no more reads
  pub fails_turns : left ≡ 0 → Runs false job (beside first before) (beside now (outs_in here.queues)) turns here.tally (Err run.TooManyTurns)
  fails_turns spent = record {
    run = rests now run.TooManyTurns sofar.read (sofar.due, part, sofar.stands.told);
    end_is = ((sofar.asks.0, none.0, none.1, none.2), omega (arith, spent, sofar.calls));
    turns_are = omega (arith, sofar.calls);
  }

  -- a read failed
  pub fails_read : (reader : Reader) → 0 < left → Keeps now.left reader.left → reader.calls ≡ now.calls + 1 → reader.failures ≡ now.failures + 1
      → Runs false job (beside first before) (beside reader (outs_in here.queues)) turns here.tally (Err run.ReadFault)
  fails_read reader some kept called more = record {
    run = rests reader run.ReadFault (Consumes-kept first.left now.left reader.left sofar.bytes sofar.read kept) (sofar.due, part, sofar.stands.told);
    end_is = (omega (arith, more, sofar.asks.0), none.0, none.1, none.2);
    turns_are = omega (arith, some, called, sofar.calls);
  }

  -- the input ended
  module _ (reader : Reader) (some : 0 < left) (read : Consumes now.left reader.left []) (called : reader.calls ≡ now.calls + 1) (same : reader.failures ≡ now.failures) (ended : reader.ended ≡ true) where
    whole : Consumes first.left reader.left sofar.bytes
    whole = subst (Consumes first.left reader.left) (append-nil sofar.bytes) (Consumes-trans first.left now.left reader.left sofar.bytes [] sofar.read read)

    -- within the bytes that are left out
    pub fails_short : 0 < skip.left → Runs false job (beside first before) (beside reader (outs_in here.queues)) turns here.tally (Err (run.SkipPastEnd skip.all))
    fails_short more = record {
      run = rests reader (run.SkipPastEnd skip.all) whole (sofar.skips.all, omega (arith, more, sofar.skips.all, sofar.skips.left), sofar.stands.told);
      end_is = ((same ∙ sofar.asks.0, none.0, none.1, none.2), ended);
      turns_are = omega (arith, some, called, sofar.calls);
    }

    -- in mid-message
    pub fails_part : (n : ℕ) → n ≡ length here.framer.held → 0 < n → Runs false job (beside first before) (beside reader (outs_in here.queues)) turns here.tally (Err (run.Stream (stream.Truncated n)))
    fails_part n is held = record {
      run = rests reader (run.Stream (stream.Truncated n)) whole (sofar.due, part, is, held, sofar.stands.told);
      end_is = ((same ∙ sofar.asks.0, none.0, none.1, none.2), ended);
      turns_are = omega (arith, some, called, sofar.calls);
    }

    -- with a message
    pub passes_end : skip.left ≡ 0 → (here.framer.held ≡ []) ⊎ IsMessage here.framer.cut here.framer.held
        → Runs false job (beside first before) (beside reader (outs_in here.queues)) turns here.tally (Ok tt)
    passes_end spent held =
        let empty : here.framer.held ≡ [] = elim held [ inl none ↦ none | inr message ↦ absurd (omega (arith, message.whole, (sofar.ready.part message.prefixed).0)) ] in
        record {
          run = record {
            bytes = sofar.bytes;
            done = sofar.stands.messages;
            left = [];
            rest = here.framer.held;
            text = sofar.stands.text;
            read = whole;
            splits = subst (λ (l : List (List ℕ)). Splits (cut_of job) (checked_in job sofar.bytes) l here.framer.held) (sym (append-nil sofar.stands.messages)) sofar.stands.splits;
            told = sofar.stands.told;
            takes = takes;
            stopped = inr (record { ended = ended; begun = omega (arith, spent, sofar.skips.left); none = refl; whole = empty });
          };
          end_is = (same ∙ sofar.asks.0, none.0, none.1, none.2);
          turns_are = omega (arith, some, called, sofar.calls);
        }

-- without memory nothing is read or written, whatever the input is
none_from : (from : Bool) (job : Job) (ends : Ends) → IsRunFrom from job ends ends no_tally (Err run.OutOfMemory)
none_from true job ends =
    ([], Consumes-nil ends.reader.left, (rw (drop_all {X = ℕ} job.terms.skip [] (omega arith)) (omega arith), ((Keeps-refl ends.outs.writer.bytes, Keeps-refl ends.outs.notes.bytes, Keeps-refl ends.outs.rejects.bytes), refl)))
none_from false job ends =
    let nothing : Splits (cut_of job) (checked_in job []) [] [] =
    subst (λ (l : List ℕ). Splits (cut_of job) l [] []) (sym (drop_all job.terms.skip [] (omega arith))) (splits_rest (cut_of job) [] (inl (empty_partial (cut_of job)))) in
    record {
      bytes = [];
      text = silent;
      read = Consumes-nil ends.reader.left;
      takes = takes_none ends.outs ends.outs (Keeps-refl ends.outs.writer.bytes, Keeps-refl ends.outs.notes.bytes, Keeps-refl ends.outs.rejects.bytes);
      rests = ([], [], nothing, ([], [], [], [], nothing, refl, (refl, refl)));
    }

pub runs_none : (job : Job) (ends : Ends) (ran : Ran) → ran ≡ record { tally = no_tally; end = Err run.OutOfMemory } → IsRunBeside job ends ends ran.tally ran.end
runs_none job ends ran is = subst (λ (t : Ran). IsRunBeside job ends ends t.tally t.end) (sym is) (none_from job.terms.bare job ends)

pub ends_none : (ends : Ends) (turns : ℕ) (ran : Ran) → ran ≡ record { tally = no_tally; end = Err run.OutOfMemory } → EndsBeside ends ends turns ran.end
ends_none ends turns ran is = subst (λ (t : Ran). EndsBeside ends ends turns t.end) (sym is) (refl, refl, refl, refl)

-- the end that an answer tells is that of its run
pub ends_answer : (first now : Ends) (turns : ℕ) (tally : Tally) (end : End) (answer : Result Tally RunFault) → answer ≡ answer_by tally end
    → EndsBeside first now turns end → EndsBeside first now turns (end_of answer)
ends_answer first now turns tally (Ok done) answer is ends = rw is ends
ends_answer first now turns tally (Err fault) answer is ends = rw is ends

-- which of both the input is
pub runs_from : {job : Job} {before after : Ends} {turns : ℕ} {tally : Tally} {end : End} {from which : Bool} → from ≡ which
    → Runs from job before after turns tally end → Runs which job before after turns tally end
runs_from {job} {before} {after} {turns} {tally} {end} is runs = subst (λ b. Runs b job before after turns tally end) is runs

-- the exit of a `?`
pub err_exit : {A E : Type 0} (answer : Result A E) (x : E) (P : Result A E → Type 0) → IsErrAnd answer (λ e. e ≡ x) → P (Err x) → P answer
err_exit (Ok a) x P h p = absurd h
err_exit (Err e) x P h p = subst (λ e. P (Err e)) (sym h) p

pub err_is : {A E : Type 0} (answer : Result A E) (x : E) → IsErrAnd answer (λ e. e ≡ x) → answer ≡ Err x
err_is answer x h = err_exit answer x (λ a. a ≡ Err x) h refl
