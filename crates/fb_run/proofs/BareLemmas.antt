-- What is told of a bare input, of which a front was written.
use Rattle.std.proofs.Common.{◌≡◌, ◌∙◌, ℕ, ◌+◌, ◌-◌, List, [], Option, Some, None, Ok, Err, OnOk, ap, arith, false, length, length-append, refl, subst, sym, take}
use mathlib.Core.Logic.{◌⊎◌, inl, inr}
use Rattle.std.specs.Io.KnownBytes.{Appends, Keeps}
use Rattle.std.proofs.{KnownBytes.Keeps-refl, lemmas.List.append-nil, lemmas.List.nil_from_length, Math.Seq.take-append_seam}
use Rattle.fb_bytes.specs.declared.ends.Sink as sink
use Rattle.fb_run.specs.{AllTold.TakesFront, AllTold.WritesFront, AllTold.WritesFronts, Bare.IsBareInput, Bare.WhyBare, Bare.WritesPart, Ends.Outs, Ends.Reader, Ends.Writer, Ends.all_outs, Ends.beside, Faults.End}
use Rattle.fb_run.specs.{Faults.EndsBeside, Job.Job, Job.Verdict, Job.checked_in, Line.IsLine, Line.SaidBy, Pieces.AreEmpty, Run.IsBareRun, Spot.Before, Spot.at_first, Spot.past_all, Spot.spot_of}
use Rattle.fb_run.specs.{Sums.no_tally, Texts.Texts, Texts.no_bytes, Texts.silent, Texts.spoken, Whole.ReadsWhole}
use Rattle.fb_run.specs.Puts.{Adds, AddsBy, AreCut, AreSo, IsUnused, PutsAll, Queues, all_unused, queues_of, unused}
use Rattle.fb_run.specs.declared.{fault.RunFault.RunFault, options.Mode.Mode, output.Output.Output, tally.Tally.Tally}
use Rattle.fb_run.specs.declared.options.Mode.TheVariants.{Lines, BadLines, Filter, Csv}
use Rattle.fb_run.specs.declared.fault.RunFault.TheVariants as run
use Rattle.fb_run.proofs.{PutsLemmas.front_whole, RunLemmas.caused_at, StreamLemmas.still, TakesLemmas.cut_caused, TakesLemmas.none_failed, TakesLemmas.outs_in, TakesLemmas.Gone}
use Rattle.fb_run.proofs.TakesLemmas.{part_behind, put_behind, put_front, takes_all, written_all}

-- of an output that is unused nothing was put
pub unused_queues : {A K N R : Type 0} (k : sink.Ghosts K) (n : sink.Ghosts N) (r : sink.Ghosts R) (output : Output A) (writer : K) (notes : N) (rejects : R) → IsUnused output
    → queues_of k n r output writer notes rejects ≡ all_unused (all_outs k n r writer notes rejects)
unused_queues k n r output writer notes rejects ((none, out), (no_notes, noted), (no_rejects, kept)) = rw (none, out, no_notes, noted, no_rejects, kept) refl

-- behind nothing else
pub begun : (job : Job) (bytes : List ℕ) (first : Outs) (before now : Queues) (tally tally' : Tally) (end : End) → before ≡ all_unused first → tally ≡ no_tally
    → AddsBy job (past_all job tally) bytes before now tally tally' end → AddsBy job (at_first job) bytes (all_unused first) now no_tally tally' end
begun job bytes first before now tally tally' end unused counted adds =
    let here : past_all job no_tally ≡ at_first job = grind arith in
    subst (λ (q : Queues). AddsBy job (at_first job) bytes q now no_tally tally' end) unused
    (subst (λ (b : Before). AddsBy job b bytes before now no_tally tally' end) here
    (subst (λ (t : Tally). AddsBy job (past_all job t) bytes before now t tally' end) counted adds))

-- what holds where it went well
pub on_ok : {P : Type 0} (end : End) → OnOk end P → end ≡ Ok tt → P
on_ok (Ok done) holds is = holds
on_ok (Err fault) holds is = absurd cc

-- what is said of one message goes to the writer alone, or to the notes
alone : (mode : Mode) (P : List ℕ → Type 0) (message : List ℕ) (v : Verdict) (told : Texts) → SaidBy mode P message v (spoken told) → (told.out ≡ []) ⊎ (told.notes ≡ [])
alone Lines P message v told (line, is, there) = inr (ap (λ (t : Texts). t.notes) there)
alone BadLines P message (Ok found) told nothing = inr (ap (λ (t : Texts). t.notes) nothing)
alone BadLines P message (Err bad) told (line, is, there) = inr (ap (λ (t : Texts). t.notes) there)
alone Filter P message (Ok found) told passed = inr (ap (λ (t : Texts). t.notes) passed)
alone Filter P message (Err bad) told (line, is, there) = inl (ap (λ (t : Texts). t.out) there)
alone Csv P message (Ok found) told (line, is, there) = inr (ap (λ (t : Texts). t.notes) there)
alone Csv P message (Err bad) told (line, is, there) = inl (ap (λ (t : Texts). t.out) there)

-- where so much of a text is written, it is a front
front_taken : (text : List ℕ) (writer now : Writer) → Gone text writer now → TakesFront text writer.bytes now.bytes
front_taken text writer now some =
    (length some.gone, subst (Appends writer.bytes now.bytes) (sym (ap (take (length some.gone)) some.whole ∙ take-append_seam some.gone some.left)) some.wrote)

-- where nothing came, nothing changed
keeps_nil : (a b : Option (List ℕ)) → Appends a b [] → Keeps a b
keeps_nil None b grown = tt
keeps_nil (Some xs) None grown = grown
keeps_nil (Some xs) (Some ys) grown = grown ∙ append-nil xs

module _ (job : Job) (bytes : List ℕ) (is_input : IsBareInput job bytes) (first : Outs) (now : Queues) (tally : Tally) (adds : Adds job (at_first job) (checked_in job bytes) (all_unused first) now no_tally tally) where
  fronted : now.rejects.failed ≡ false → TakesFront adds.told.rejects first.rejects.bytes now.rejects.writer.bytes
  fronted fine = front_taken adds.told.rejects first.rejects now.rejects.writer (part_behind adds.told.rejects first.rejects now.rejects fine adds.puts.2)

  -- a write came to rest
  fronts : (fault : RunFault) → AreCut now fault → WritesFronts adds.told first (outs_in now) no_bytes fault
  fronts (run.WriteFault written) (cut, fine, right, is) =
      let front = (put_front adds.told.out first.writer now.out cut adds.puts.0).0 in
      let behind = (put_behind adds.told.notes first.notes now.notes fine adds.puts.1).0 in
      let none : adds.told.notes ≡ [] = elim (alone job.terms.mode (IsLine job (spot_of (at_first job) (checked_in job bytes)) adds.verdict) (checked_in job bytes) adds.verdict adds.told adds.is_told.text.0) [
        | inl nothing ↦ absurd (omega (arith, front.within, ap length nothing))
        | inr nothing ↦ nothing
      ] in
      let blank : behind.front ≡ [] = nil_from_length behind.front (omega (arith, ap length (sym behind.whole ∙ none), length-append behind.front now.notes.waits)) in (
        subst (λ (n : ℕ). WritesFront adds.told.out first.writer.bytes now.out.writer.bytes 0 n) (sym is) front,
        keeps_nil first.notes.bytes now.notes.writer.bytes (subst (Appends first.notes.bytes now.notes.writer.bytes) blank behind.wrote),
        fronted right,
      )
  fronts (run.NoteFault written) (cut, fine, right, none, is) = (
    written_all adds.told.out first.writer now.out fine none adds.puts.0,
    subst (λ (n : ℕ). WritesFront adds.told.notes first.notes.bytes now.notes.writer.bytes 0 n) (sym is) (put_front adds.told.notes first.notes now.notes cut adds.puts.1).0,
    fronted right,
  )
  fronts (run.RejectFault written) (cut, fine, right, none, unnoted, is) = (
    written_all adds.told.out first.writer now.out fine none adds.puts.0,
    written_all adds.told.notes first.notes now.notes right unnoted adds.puts.1,
    subst (λ (n : ℕ). WritesFront adds.told.rejects first.rejects.bytes now.rejects.writer.bytes 0 n) (sym is) (put_front adds.told.rejects first.rejects now.rejects cut (front_whole adds.told.rejects (unused first.rejects) now.rejects adds.puts.2 (fine, right))).0,
  )
  fronts _ never = absurd never

  part : (fault : RunFault) → AreCut now fault → WritesPart job bytes first (outs_in now) tally fault
  part fault cut = record { is_input = is_input; verdict = adds.verdict; line = adds.told; is_line = adds.is_told; wrote = fronts fault cut; tally_is = adds.tally_is }

module _ (job : Job) {buffer : List ℕ} {begun last : Reader} (first : Outs) (tally : Tally) (turns : ℕ) (whole : ReadsWhole job begun last buffer) where
  abbrev IsRun : Queues → End → Type 0
  IsRun now end = IsBareRun job (beside begun first) (beside last (outs_in now)) tally end × EndsBeside (beside begun first) (beside last (outs_in now)) turns end

  -- a write failed
  cut_why : (now : Queues) (fault : RunFault) → AreCut now fault → WritesPart job whole.bytes first (outs_in now) tally fault → WhyBare job whole.bytes first (outs_in now) tally fault
  cut_why now (run.WriteFault written) cut written_part = written_part
  cut_why now (run.NoteFault written) cut written_part = written_part
  cut_why now (run.RejectFault written) cut written_part = written_part
  cut_why now _ never written_part = absurd never

  cut_run : (now : Queues) (fault : RunFault) → Adds job (at_first job) (checked_in job whole.bytes) (all_unused first) now no_tally tally → AreCut now fault → IsRun now (Err fault)
  cut_run now fault adds cut = (
    (whole.bytes, whole.read, cut_why now fault cut (part job whole.bytes whole.is_input first now tally adds fault cut)),
    caused_at begun.failures last.failures (begun.calls + turns - last.calls) last.ended first (outs_in now) fault whole.unfailed (cut_caused adds.told first now adds.puts fault cut),
  )

  -- it was not told to its end
  stops : (now : Queues) (fault : RunFault) → AddsBy job (at_first job) (checked_in job whole.bytes) (all_unused first) now no_tally tally (Err fault) → IsRun now (Err fault)
  stops now run.OutOfMemory (same, counted) =
      rw same ((whole.bytes, whole.read, (whole.is_input.within, ((Keeps-refl first.writer.bytes, Keeps-refl first.notes.bytes, Keeps-refl first.rejects.bytes), counted))), (whole.unfailed, refl, refl, refl))
  stops now fault (adds, cut) = cut_run now fault adds cut

  pub bare_stops : (now : Queues) (fault : RunFault) → AddsBy job (at_first job) buffer (all_unused first) now no_tally tally (Err fault) → IsRun now (Err fault)
  bare_stops now fault adds = stops now fault (subst (λ (l : List ℕ). AddsBy job (at_first job) l (all_unused first) now no_tally tally (Err fault)) whole.buffer_is adds)

  -- what waited was written
  ends : (mid now : Queues) (end : End) → AddsBy job (at_first job) (checked_in job whole.bytes) (all_unused first) mid no_tally tally (Ok tt) → PutsAll silent mid now → AreSo now end → (end ≡ Ok tt → AreEmpty now) → IsRun now end
  ends mid now end (adds, fine) none so empty =
      let all : Adds job (at_first job) (checked_in job whole.bytes) (all_unused first) now no_tally tally = record { verdict = adds.verdict; told = adds.told; is_told = adds.is_told; puts = still job first adds.told mid now adds.puts none; tally_is = adds.tally_is } in
      by end all so empty
    where
      by : (e : End) → Adds job (at_first job) (checked_in job whole.bytes) (all_unused first) now no_tally tally → AreSo now e → (e ≡ Ok tt → AreEmpty now) → IsRun now e
      by (Ok done) all fine empty =
          let unfailed = none_failed all.told first now all.puts fine in (
            record {
              bytes = whole.bytes;
              read = whole.read;
              ended = whole.ended;
              is_input = whole.is_input;
              verdict = all.verdict;
              line = all.told;
              is_line = all.is_told;
              takes = takes_all all.told first now all.puts fine (empty refl);
              tally_is = all.tally_is;
            },
            (whole.unfailed, unfailed.0, unfailed.1, unfailed.2),
          )
      by (Err fault) all cut empty = cut_run now fault all cut

  pub bare_ends : (mid now : Queues) (end : End) → AddsBy job (at_first job) buffer (all_unused first) mid no_tally tally (Ok tt) → PutsAll silent mid now → AreSo now end
      → (end ≡ Ok tt → AreEmpty now) → IsRun now end
  bare_ends mid now end adds = ends mid now end (subst (λ (l : List ℕ). AddsBy job (at_first job) l (all_unused first) mid no_tally tally (Ok tt)) whole.buffer_is adds)
