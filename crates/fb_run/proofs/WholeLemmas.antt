-- The reading of a whole input, a piece at a time.
use Rattle.std.proofs.Common.{◌≡◌, ◌∙◌, ℕ, ◌+◌, ◌-◌, ◌<◌, ◌≤◌, true, false, List, [], ◌++◌, ap, append-nil, arith, drop, length, refl, subst, sym, take}
use mathlib.Core.Logic.{inl, inr}
use Rattle.std.specs.Io.KnownBytes.{Consumes, Keeps}
use Rattle.std.proofs.{KnownBytes.Consumes-kept, KnownBytes.Consumes-nil, KnownBytes.Consumes-trans, KnownBytes.Keeps-refl, lemmas.List.drop_all, lemmas.List.length-append}
use Rattle.fb_run.specs.{Bare.Untold, Ends.Outs, Ends.Reader, Job.Job, Job.checked_in, Leave.IsUnended, Sums.no_tally, Whole.FailsWhole, Whole.ReadsWhole, declared.skip.Skip.Skip}
use Rattle.fb_run.specs.declared.fault.RunFault.TheVariants as run
use Rattle.fb_run.proofs.SkipLemmas.{LeavesOut, checked_more, skips_more}

-- what was read from the reader so far, of which this stands behind the bytes that are left out
pub record Gathered (job : Job) (first now : Reader) (whole : List ℕ) (skip : Skip) (turns left : ℕ) : Type 0 where
  pub bytes : List ℕ
  pub read : Consumes first.left now.left bytes
  pub skips : LeavesOut job bytes skip
  pub whole_is : whole ≡ checked_in job bytes
  pub within : length whole ≤ job.terms.max_bytes
  pub fewer : left ≤ turns
  pub calls : now.calls + left ≡ first.calls + turns
  pub asks : IsUnended first now

pub gathered_nothing : (job : Job) (reader : Reader) (whole : List ℕ) (skip : Skip) (turns : ℕ) → whole ≡ [] → LeavesOut job [] skip → Gathered job reader reader whole skip turns turns
gathered_nothing job reader whole skip turns none skips = record {
  bytes = [];
  read = Consumes-nil reader.left;
  skips = skips;
  whole_is = none ∙ sym (drop_all job.terms.skip [] (omega arith));
  within = rw none (omega arith);
  fewer = omega arith;
  calls = omega arith;
  asks = (refl, inr (refl, refl));
}

module _ {job : Job} {first now : Reader} {whole : List ℕ} {skip : Skip} {turns left : ℕ} (gathered : Gathered job first now whole skip turns left) where
  untold : (outs : Outs) → Untold outs outs no_tally
  untold outs = ((Keeps-refl outs.writer.bytes, Keeps-refl outs.notes.bytes, Keeps-refl outs.rejects.bytes), refl)

  pub gathered_within : length (checked_in job gathered.bytes) ≤ job.terms.max_bytes
  gathered_within = omega (arith, gathered.within, ap length gathered.whole_is)

  -- there are no more reads
  pub spent_fails : left ≡ 0 → FailsWhole job turns first now run.TooManyTurns
  spent_fails spent = record {
    fails = λ outs. (gathered.bytes, gathered.read, (gathered_within, untold outs));
    cause = λ outs. ((gathered.asks.0, refl, refl, refl), omega (arith, spent, gathered.calls));
  }

  -- a read failed
  pub read_fails : (reader : Reader) → Keeps now.left reader.left → reader.failures ≡ now.failures + 1 → FailsWhole job turns first reader run.ReadFault
  read_fails reader kept more = record {
    fails = λ outs. (gathered.bytes, Consumes-kept first.left now.left reader.left gathered.bytes gathered.read kept, (gathered_within, untold outs));
    cause = λ outs. (omega (arith, more, gathered.asks.0), refl, refl, refl);
  }

  -- the input ended
  module _ (reader : Reader) (read : Consumes now.left reader.left []) (same : reader.failures ≡ now.failures) (ended : reader.ended ≡ true) where
    all_read : Consumes first.left reader.left gathered.bytes
    all_read = subst (Consumes first.left reader.left) (append-nil gathered.bytes) (Consumes-trans first.left now.left reader.left gathered.bytes [] gathered.read read)

    -- within the bytes that are left out
    pub short_fails : 0 < skip.left → FailsWhole job turns first reader (run.SkipPastEnd skip.all)
    short_fails some = record {
      fails = λ outs. (gathered.bytes, all_read, (gathered.skips.all, omega (arith, some, gathered.skips.all, gathered.skips.left), untold outs));
      cause = λ outs. ((same ∙ gathered.asks.0, refl, refl, refl), ended);
    }

    pub whole_read : skip.left ≡ 0 → ReadsWhole job first reader whole
    whole_read none = record {
      bytes = gathered.bytes;
      read = all_read;
      is_input = record { begun = omega (arith, none, gathered.skips.left); within = gathered_within };
      buffer_is = gathered.whole_is;
      ended = ended;
      unfailed = same ∙ gathered.asks.0;
    }

  -- a piece was read
  module _ (k : ℕ) (piece more : List ℕ) (reader : Reader) (read : Consumes now.left reader.left (take k piece)) (same : reader.failures ≡ now.failures) (behind : more ≡ drop skip.left (take k piece)) where
    reads : Consumes first.left reader.left (gathered.bytes ++ take k piece)
    reads = Consumes-trans first.left now.left reader.left gathered.bytes (take k piece) gathered.read read

    grown : checked_in job (gathered.bytes ++ take k piece) ≡ whole ++ more
    grown = checked_more job gathered.bytes (take k piece) more skip gathered.skips behind ∙ ap (λ (l : List ℕ). l ++ more) (sym gathered.whole_is)

    size : length (checked_in job (gathered.bytes ++ take k piece)) ≡ length whole + length more
    size = ap length grown ∙ length-append whole more

    -- it is too long
    pub long_fails : (limit : ℕ) → limit ≡ job.terms.max_bytes → job.terms.max_bytes < length whole + length more → FailsWhole job turns first reader (run.BareTooLong limit)
    long_fails limit is over = record {
      fails = λ outs. (gathered.bytes ++ take k piece, reads, (is, omega (arith, over, size), untold outs));
      cause = λ outs. (same ∙ gathered.asks.0, refl, refl, refl);
    }

    -- there is no memory for it
    pub memory_fails : length whole + length more ≤ job.terms.max_bytes → FailsWhole job turns first reader run.OutOfMemory
    memory_fails under = record {
      fails = λ outs. (gathered.bytes ++ take k piece, reads, (omega (arith, under, size), untold outs));
      cause = λ outs. (same ∙ gathered.asks.0, refl, refl, refl);
    }

    pub gathered_more : {whole' : List ℕ} {skip' : Skip} → whole' ≡ whole ++ more → length whole + length more ≤ job.terms.max_bytes → 0 < left → reader.calls ≡ now.calls + 1 → reader.ended ≡ false
        → skip'.all ≡ skip.all → skip'.left ≡ skip.left - length (take k piece) → Gathered job first reader whole' skip' turns (left - 1)
    gathered_more {whole'} {skip'} is under some called unended alike less = record {
      bytes = gathered.bytes ++ take k piece;
      read = reads;
      skips = skips_more job gathered.bytes (take k piece) skip skip' gathered.skips alike less;
      whole_is = is ∙ sym grown;
      within = omega (arith, under, ap length is, length-append whole more);
      fewer = omega (arith, gathered.fewer);
      calls = omega (arith, some, called, gathered.calls);
      asks = (same ∙ gathered.asks.0, inl unended);
    }
