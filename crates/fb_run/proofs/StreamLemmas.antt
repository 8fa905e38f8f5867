-- What was read and told, and then more of the stream.
use Rattle.std.proofs.Common.{◌≡◌, ◌⊎◌, ℕ, ◌-◌, ◌<◌, ◌≤◌, Bool, true≢false, List, [], ◌∷◌, ◌++◌, take, drop, refl, sym, ap, subst, ◌∙◌, arith, Result, Ok, Err, append-nil, append_assoc, length, length-append, length-take-le, take-append-drop}
use mathlib.Core.Logic.{inl, inr}
use Rattle.fb_bytes.specs.{Messages.declared, Messages.IsMessage, Messages.IsOversize, Messages.IsPartial, Messages.Splits, Framing.Framing, Framing.Feeds, Framing.FeedFails}
use Rattle.fb_bytes.specs.declared.{cut.Cut.Cut, stream_fault.StreamFault.StreamFault}
use Rattle.fb_bytes.specs.declared.stream_fault.StreamFault.TheVariants as stream
use Rattle.fb_bytes.proofs.MessageLemmas.{readings_some}
use Rattle.fb_run.specs.{Ends.Outs, Faults.feed_fault, Job.Beside, Job.HasRoom, Job.Job, Job.cut_of, Spot.Before, Spot.HasDue, Spot.IsDue, Spot.IsFull, Spot.past_all, Texts.Texts, Texts.followed, Texts.silent, Job.Verdict, Sums.no_tally, Sums.tally_with}
use Rattle.fb_run.specs.Puts.{Adds, AddsBy, AreCut, AreOpen, AreSound, PutsAll, PutsTold, Queues, all_unused, unused}
use Rattle.fb_run.specs.Stream.{TellsMore}
use Rattle.fb_run.specs.Pieces.{AreEmpty, Carry, Gathers, GoesOn, Halts, IsReady, Passes, PassesAllBy, PassesBy, PassesFront, Stands, Stops, TellsOne, WritesBy}
use Rattle.fb_run.specs.declared.{tally.Tally.Tally, fault.RunFault.RunFault}
use Rattle.fb_run.specs.declared.fault.RunFault.TheVariants as run
use Rattle.fb_run.proofs.{InPieces.front-more, Splitting.empty_partial, Splitting.splits_one, Splitting.splits_rest, Splitting.splits_then}
use Rattle.fb_run.proofs.PutsLemmas.{all_told, front_still, front_then, front_whole, puts_none, puts_still, puts_then, was_unfailed}
use Rattle.fb_run.proofs.AllToldLemmas.{lines_more}

module _ (job : Job) (first : Outs) where
  -- nothing was read
  pub stands_first : (now : Carry) → now.queues ≡ all_unused first → now.tally ≡ no_tally → now.framer.held ≡ [] → Stands job first [] now
  stands_first now unused counted none = record {
    messages = [];
    text = silent;
    splits = rw none (splits_rest (cut_of job) [] (inl (empty_partial (cut_of job))));
    told = rw counted (refl, refl);
    puts = all_told silent (all_unused first) now.queues
        (subst (PutsAll silent (all_unused first)) (sym unused) (puts_none (all_unused first).out, puts_none (all_unused first).notes, puts_none (all_unused first).rejects));
  }

  -- a message was whole, and what is told of it was put
  message_stands : (bytes more message : List ℕ) (before after : Carry) → message ≡ before.framer.held ++ more → IsMessage (cut_of job) message → after.framer.held ≡ [] → IsDue job (past_all job before.tally)
      → AreOpen before.queues → Adds job (past_all job before.tally) message before.queues after.queues before.tally after.tally → Stands job first bytes before → Stands job first (bytes ++ more) after
  message_stands bytes more message before after at is gone due fine adds stands =
      let one : Splits (cut_of job) (before.framer.held ++ more) (message ∷ []) [] = rw (← at) (splits_one (cut_of job) message is) in
      record {
        messages = stands.messages ++ message ∷ [];
        text = followed stands.text adds.told;
        splits = rw gone (splits_then (cut_of job) bytes more before.framer.held [] stands.messages (message ∷ []) stands.splits one);
        told = lines_more job stands.messages message stands.text adds.told before.tally after.tally adds.verdict adds.tally_is stands.told due adds.is_told;
        puts = (
          puts_then stands.text.out adds.told.out (unused first.writer) before.queues.out after.queues.out stands.puts.0 adds.puts.0,
          puts_then stands.text.notes adds.told.notes (unused first.notes) before.queues.notes after.queues.notes stands.puts.1 adds.puts.1,
          front_then stands.text.rejects adds.told.rejects (unused first.rejects) before.queues.rejects after.queues.rejects
              (front_whole stands.text.rejects (unused first.rejects) before.queues.rejects stands.puts.2 (fine.0, fine.1)) adds.puts.2,
        );
      }

  -- or more of a part is held
  pub held_stands : (bytes piece : List ℕ) (used : ℕ) (whole : Bool) (before : Carry) (framer : Framing) → before.framer.cut ≡ cut_of job → Feeds before.framer framer piece used whole
      → IsPartial framer.cut framer.held → Stands job first bytes before → Stands job first (bytes ++ take used piece) (record before { framer = framer })
  held_stands bytes piece used whole before framer cut feeds part stands =
      let one : Splits (cut_of job) (before.framer.held ++ take used piece) [] framer.held =
      subst (λ (l : List ℕ). Splits (cut_of job) l [] framer.held) feeds.held
      (splits_rest (cut_of job) framer.held (inl (subst (λ (u : Cut). IsPartial u framer.held) (feeds.cut ∙ cut) part))) in
      record {
        messages = stands.messages;
        text = stands.text;
        splits = rw (append-nil stands.messages) at (splits_then (cut_of job) bytes (take used piece) before.framer.held framer.held stands.messages [] stands.splits one);
        told = stands.told;
        puts = stands.puts;
      }

  -- what was told is that of the first messages, whatever comes
  gathers_more : (bytes more : List ℕ) (now : Carry) → Stands job first bytes now → Gathers job first (bytes ++ more) now.tally now.queues
  gathers_more bytes more now stands =
      let further = readings_some (cut_of job) (now.framer.held ++ more) in
      record {
        done = stands.messages;
        left = further.0;
        rest = further.1;
        text = stands.text;
        splits = splits_then (cut_of job) bytes more now.framer.held further.1 stands.messages further.0 stands.splits further.2;
        told = stands.told;
        puts = stands.puts;
      }

  -- the framer failed at a piece
  pub feed_halts : (bytes piece : List ℕ) (before : Carry) (framer : Framing) (fault : StreamFault) → before.framer.cut ≡ cut_of job → AreOpen before.queues → TellsMore job before.tally
      → FeedFails before.framer framer piece fault
      → Stands job first bytes before → Halts job first (bytes ++ piece) before.tally before.queues (feed_fault fault)
  feed_halts bytes piece before framer (stream.Oversize number) cut fine due refused stands =
      let held = before.framer.held in
      let over : IsOversize (cut_of job) (held ++ piece) = subst (λ (u : Cut). IsOversize u (held ++ piece)) cut refused.oversize in (
        record {
          done = stands.messages;
          left = [];
          rest = held ++ piece;
          text = stands.text;
          splits = splits_then (cut_of job) bytes piece held (held ++ piece) stands.messages [] stands.splits (splits_rest (cut_of job) (held ++ piece) (inr over));
          told = stands.told;
          puts = stands.puts;
        },
        inr (fine, (due, refl, over, refused.number ∙ ap (λ (u : Cut). declared u.order (held ++ piece)) cut)),
      )
  feed_halts bytes piece before framer stream.OutOfMemory cut fine due starved stands = (gathers_more bytes piece before stands, inr (fine, tt))
  feed_halts bytes piece before framer _ cut fine due never stands = absurd never

  -- a message was whole at the front of a piece, and a write failed or there was no memory
  add_halts : (bytes front tail piece message : List ℕ) (before : Carry) (queues : Queues) (tally : Tally) (fault : RunFault) → piece ≡ front ++ tail → message ≡ before.framer.held ++ front
      → IsMessage (cut_of job) message → AreOpen before.queues → IsDue job (past_all job before.tally)
      → AddsBy job (past_all job before.tally) message before.queues queues before.tally tally (Err fault) → Stands job first bytes before → Halts job first (bytes ++ piece) tally queues fault
  add_halts bytes front tail piece message before queues tally fault whole at is fine due adds stands = by fault adds
    where
      come : Adds job (past_all job before.tally) message before.queues queues before.tally tally → Gathers job first (bytes ++ piece) tally queues
      come one =
          let after : Carry = record before { tally = tally; framer = record before.framer { held = [] }; queues = queues } in
          subst (λ (l : List ℕ). Gathers job first l tally queues) (append_assoc bytes front tail ∙ ap (λ l. bytes ++ l) (sym whole))
          (gathers_more (bytes ++ front) tail after (message_stands bytes front message before after at is refl due fine one stands))

      by : (f : RunFault) → AddsBy job (past_all job before.tally) message before.queues queues before.tally tally (Err f) → Halts job first (bytes ++ piece) tally queues f
      by run.OutOfMemory (same, counted) = rw (same, counted) (gathers_more bytes piece before stands, inr (fine, tt))
      by _ (one, cut) = (come one, inl cut)

  -- nothing more was put
  pub still : (text : Texts) (a b : Queues) → PutsTold text (all_unused first) a → PutsAll silent a b → PutsTold text (all_unused first) b
  still text a b puts none = (
    puts_still text.out (unused first.writer) b.out (puts_then text.out [] (unused first.writer) a.out b.out puts.0 none.0),
    puts_still text.notes (unused first.notes) b.notes (puts_then text.notes [] (unused first.notes) a.notes b.notes puts.1 none.1),
    front_still text.rejects (unused first.rejects) a.rejects b.rejects (λ fine. (was_unfailed [] a.out b.out none.0 fine.0, was_unfailed [] a.notes b.notes none.1 fine.1)) puts.2 none.2,
  )

  pub stands_still : (bytes : List ℕ) (now : Carry) (queues : Queues) → PutsAll silent now.queues queues → Stands job first bytes now → Stands job first bytes (record now { queues = queues })
  stands_still bytes now queues none stands = record {
    messages = stands.messages;
    text = stands.text;
    splits = stands.splits;
    told = stands.told;
    puts = still stands.text now.queues queues stands.puts none;
  }

  gathers_still : (bytes : List ℕ) (tally : Tally) (a b : Queues) → PutsAll silent a b → Gathers job first bytes tally a → Gathers job first bytes tally b
  gathers_still bytes tally a b none gathers = record {
    done = gathers.done;
    left = gathers.left;
    rest = gathers.rest;
    text = gathers.text;
    splits = gathers.splits;
    told = gathers.told;
    puts = still gathers.text a b gathers.puts none;
  }

  -- a piece was passed as far as messages are told
  pub front_gathers : (bytes piece : List ℕ) (before mid : Carry) → PassesFront job piece before mid → Stands job first bytes before → Gathers job first (bytes ++ piece) mid.tally mid.queues
  front_gathers bytes piece before mid passes stands =
      subst (λ (l : List ℕ). Gathers job first l mid.tally mid.queues) (append_assoc bytes passes.front passes.left ∙ ap (λ l. bytes ++ l) (sym passes.whole))
      (gathers_more (bytes ++ passes.front) passes.left mid (passes.goes_on.onward first bytes stands))

  -- however a piece was passed, what is told of the first messages was put
  passed_gathers : (bytes piece : List ℕ) (before mid : Carry) (end : Result (Unit {0}) RunFault) → PassesAllBy job piece before mid end → Stands job first bytes before
      → Gathers job first (bytes ++ piece) mid.tally mid.queues
  passed_gathers bytes piece before mid (Ok done) passes stands = front_gathers bytes piece before mid passes stands
  passed_gathers bytes piece before mid (Err fault) (stops, sound) stands = (stops first bytes stands).0

  -- a write of what waited behind it failed
  flush_halts : (bytes piece : List ℕ) (before mid : Carry) (queues : Queues) (end : Result (Unit {0}) RunFault) (fault : RunFault) → PassesAllBy job piece before mid end
      → PutsAll silent mid.queues queues → AreCut queues fault → Stands job first bytes before → Halts job first (bytes ++ piece) mid.tally queues fault
  flush_halts bytes piece before mid queues end fault passed none cut stands =
      (gathers_still (bytes ++ piece) mid.tally mid.queues queues none (passed_gathers bytes piece before mid end passed stands), inl cut)

  -- or it came to rest before, and what waited was written
  flushed_halts : (bytes : List ℕ) (tally : Tally) (a b : Queues) (fault : RunFault) → PutsAll silent a b → AreOpen b → Halts job first bytes tally a fault → Halts job first bytes tally b fault
  unfolding gathers_still
  flushed_halts bytes tally a b fault none fine (gathers, inr (was, why)) = (gathers_still bytes tally a b none gathers, inr (fine, why))
  flushed_halts bytes tally a b (run.WriteFault written) none fine (gathers, inl cut) = absurd (true≢false (sym cut.0 ∙ was_unfailed [] a.out b.out none.0 fine.0))
  flushed_halts bytes tally a b (run.NoteFault written) none fine (gathers, inl cut) = absurd (true≢false (sym cut.0 ∙ was_unfailed [] a.notes b.notes none.1 fine.1))
  flushed_halts bytes tally a b (run.RejectFault written) none fine (gathers, inl cut) = absurd (true≢false (sym cut.0 ∙ was_unfailed [] a.rejects b.rejects none.2 fine.2))
  flushed_halts bytes tally a b _ none fine (gathers, inl never) = absurd never

-- a message was counted
one_told : (message : List ℕ) (verdict : Verdict) {before after : Tally} → after ≡ tally_with message verdict before → TellsOne before after
one_told message (Ok found) {before} {after} is = rw is (record { messages = omega arith; bad = omega arith })
one_told message (Err bad) {before} {after} is = rw is (record { messages = omega arith; bad = omega arith })

-- where so many are told, and then one was, as many but one are
pub due_less : (job : Job) (before after : Tally) (due : ℕ) → 0 < due → HasDue job (past_all job before) due → TellsOne before after → HasDue job (past_all job after) (due - 1)
due_less job before after due some has one = record { messages = omega (arith, has.messages, one.messages, some); bad = omega (arith, has.bad, one.bad, some) }

-- and where any are, the next is
pub due_next : (job : Job) (before : Before) (due : ℕ) → 0 < due → HasDue job before due → IsDue job before
due_next job before due some has = record { messages = omega (arith, has.messages, some); bad = omega (arith, has.bad, some) }

-- where the next is told, no bound is reached
pub due_not_full : (job : Job) (before : Before) → IsDue job before → IsFull job before → ⊥
due_not_full job before due (inl over) = omega (arith, due.messages, over)
due_not_full job before due (inr over) = omega (arith, due.bad, over)

-- where no write has failed, none of the notes or the rejects has
pub open_sound : (queues : Queues) → AreOpen queues → AreSound queues
open_sound queues fine = record { noted = λ cut. absurd (true≢false (sym cut ∙ fine.1)); rejected = λ cut. absurd (true≢false (sym cut ∙ fine.2)) }

pub passed_sound : (job : Job) (piece : List ℕ) (before mid : Carry) (end : Result (Unit {0}) RunFault) → PassesAllBy job piece before mid end → AreSound mid.queues
passed_sound job piece before mid (Ok done) passes = open_sound mid.queues passes.goes_on.unfailed
passed_sound job piece before mid (Err fault) (stops, sound) = sound

added_sound : (job : Job) (past : Before) (message : List ℕ) (before after : Queues) (tally tally' : Tally) (fault : RunFault) → AreOpen before → AddsBy job past message before after tally tally' (Err fault) → AreSound after
added_sound job past message before after tally tally' run.OutOfMemory fine (same, counted) = rw same (open_sound before fine)
added_sound job past message before after tally tally' (run.WriteFault written) fine (one, cut) =
    record { noted = λ is. absurd (true≢false (sym is ∙ cut.1)); rejected = λ is. absurd (true≢false (sym is ∙ cut.2)) }
added_sound job past message before after tally tally' (run.NoteFault written) fine (one, cut) =
    record { noted = λ is. ((cut.1, cut.3), cut.2); rejected = λ is. absurd (true≢false (sym is ∙ cut.2)) }
added_sound job past message before after tally tally' (run.RejectFault written) fine (one, cut) =
    record { noted = λ is. absurd (true≢false (sym is ∙ cut.2)); rejected = λ is. ((cut.1, cut.3), (cut.2, cut.4)) }
added_sound job past message before after tally tally' _ fine (one, never) = absurd never

-- a piece was passed, and what waited behind it was written
pub flushed : (job : Job) (piece : List ℕ) (before mid : Carry) (queues : Queues) (end : Result (Unit {0}) RunFault) → PassesAllBy job piece before mid end → PutsAll silent mid.queues queues
    → AreOpen queues → AreEmpty queues → WritesBy job piece before (record mid { queues = queues }) end
flushed job piece before mid queues (Ok done) passes none fine empty = (
  record {
    front = passes.front;
    left = passes.left;
    whole = passes.whole;
    goes_on = record {
      onward = λ first bytes stands. stands_still job first (bytes ++ passes.front) mid queues none (passes.goes_on.onward first bytes stands);
      ready = passes.goes_on.ready;
      unfailed = fine;
      few = passes.goes_on.few;
    };
    stopped = passes.stopped;
  },
  empty,
)
flushed job piece before mid queues (Err fault) (stops, sound) none fine empty =
    (λ first bytes stands. flushed_halts job first (bytes ++ piece) mid.tally mid.queues queues fault none fine (stops first bytes stands), inr empty)

-- or the write failed
pub cut_short : (job : Job) (piece : List ℕ) (before mid : Carry) (queues : Queues) (end : Result (Unit {0}) RunFault) (fault : RunFault) → PassesAllBy job piece before mid end
    → PutsAll silent mid.queues queues → AreCut queues fault → WritesBy job piece before (record mid { queues = queues }) (Err fault)
cut_short job piece before mid queues end fault passed none cut =
    (λ first bytes stands. flush_halts job first bytes piece before mid queues end fault passed none cut stands, inl cut)

-- the room was used, and is as large
pub still_ready : {job : Job} {framer : Framing} {room room' : Beside} → IsReady job framer room → HasRoom job room' → IsReady job framer room'
still_ready ready fits = record { fits = fits; fine = ready.fine; cut = ready.cut; short = ready.short; part = ready.part }

-- a message was whole at the front of the rest of a piece, and what is told of it was put; or a write failed, or there was
-- no memory
module _ {job : Job} (rest message : List ℕ) (used : ℕ) (before after : Carry) (at : message ≡ before.framer.held ++ take used rest) (is : IsMessage (cut_of job) message)
    (fine : AreOpen before.queues) (due : IsDue job (past_all job before.tally)) where
  pub message_passes : used ≤ length rest → 0 < used → after.framer.held ≡ [] → IsReady job after.framer after.room
      → AddsBy job (past_all job before.tally) message before.queues after.queues before.tally after.tally (Ok tt) → Passes job rest used before after
  message_passes within some gone ready (adds, opened) =
      let one = one_told message adds.verdict adds.tally_is in
      record {
        within = within;
        some = some;
        goes_on = record {
          onward = λ first bytes stands. message_stands job first bytes (take used rest) message before after at is gone due fine adds stands;
          ready = ready;
          unfailed = opened;
          few = omega (arith, one.messages, some, length-take-le used rest within);
        };
        one = one;
      }

  pub message_stops : (fault : RunFault) → AddsBy job (past_all job before.tally) message before.queues after.queues before.tally after.tally (Err fault) → PassesBy job rest before after (Err fault)
  message_stops fault adds = (
    λ first bytes stands. add_halts job first bytes (take used rest) (drop used rest) rest message before after.queues after.tally fault (sym (take-append-drop used rest)) at is fine due adds stands,
    added_sound job _ message before.queues after.queues before.tally after.tally fault fine adds,
  )

-- no byte was passed
pub goes_none : (job : Job) (now : Carry) → IsReady job now.framer now.room → AreOpen now.queues → GoesOn job [] now now
goes_none job now ready fine = record { onward = λ first bytes stands. rw (append-nil bytes) stands; ready = ready; unfailed = fine; few = omega arith }

module _ {job : Job} {piece front rest : List ℕ} {before mid : Carry} (whole : piece ≡ front ++ rest) (goes : GoesOn job front before mid) where
  -- n bytes more
  pub goes_more : (n : ℕ) (rest' : List ℕ) (after : Carry) → rest' ≡ drop n rest → Passes job rest n mid after → (more : List ℕ) × (piece ≡ more ++ rest') × GoesOn job more before after
  goes_more n rest' after is passes = (
    front ++ take n rest,
    front-more piece front rest rest' n whole is,
    record {
      onward = λ first bytes stands.
          rw (← append_assoc bytes front (take n rest)) (passes.goes_on.onward first (bytes ++ front) (goes.onward first bytes stands));
      ready = passes.goes_on.ready;
      unfailed = passes.goes_on.unfailed;
      few = omega (arith, passes.goes_on.few, goes.few, length-append front (take n rest));
    },
  )

  -- all of them, or up to a bound
  pub goes_front : IsFull job (past_all job mid.tally) ⊎ (rest ≡ []) → PassesFront job piece before mid
  goes_front stopped = record { front = front; left = rest; whole = whole; goes_on = goes; stopped = stopped }

  -- and then the run came to rest
  pub stops_more : (after : Carry) (fault : RunFault) → Stops job mid rest after fault → Stops job before piece after fault
  stops_more after fault stops first bytes stands =
      subst (λ (l : List ℕ). Halts job first l after.tally after.queues fault) (append_assoc bytes front rest ∙ ap (λ l. bytes ++ l) (sym whole))
      (stops first (bytes ++ front) (goes.onward first bytes stands))
