-- What is told of a message by its verdict.
use Rattle.std.proofs.Common.{◌≡◌, ◌≢◌, ◌⊎◌, inl, inr, ℕ, ◌+◌, ◌++◌, ◌∙◌, List, [], Result, Ok, Err, IsTrue, ap, append-nil, append_assoc, codes, false, refl, subst, sym}
use Rattle.std.specs.Prelude.{map}
use Rattle.fb_run.specs.{AnswerText.answers_text, AnswerText.label_text, Csv.IsRow, Job.IsVerdict, Job.Job, Job.No, Job.Verdict, Job.Yes, Job.buffer_in, Job.is_brief, Json.begin_part}
use Rattle.fb_run.specs.{Json.counts_part, Json.following, Line.IsLine, Line.IsLineBy, Line.IsLineIn, Line.IsRest, Line.SaidBy, Line.front_in, Line.rejected, Line.short_line, Line.verdict_line}
use Rattle.fb_run.specs.{Puts.Adds, Puts.AddsOr, Puts.AreSo, Puts.Puts, Puts.PutsFront, Puts.PutsSome, Puts.PutsTold, Puts.Queue, Puts.Queues, Puts.Says, Puts.Tells, Spot.Before}
use Rattle.fb_run.specs.{Spot.spot_of, Sums.tally_with, Texts.Texts, Texts.silent, Texts.spoken, Texts.to_notes, Texts.to_out, Texts.to_rejects, Wanted.Wanted}
use Rattle.fb_run.specs.declared.{fault.RunFault.RunFault, options.LineForm.LineForm, options.Mode.Mode, options.Rejects.Rejects, spot.Spot.Spot, tally.Tally.Tally}
use Rattle.fb_run.specs.declared.fault.RunFault.TheVariants as run
use Rattle.fb_run.specs.declared.options.LineForm.TheVariants as form
use Rattle.fb_run.specs.declared.options.Mode.TheVariants.{Lines, BadLines, Filter, Csv}
use Rattle.fb_run.proofs.{JsonLemmas.yes_line, PlaceLemmas.asks_none, PutsLemmas.puts_none, PutsLemmas.puts_still, PutsLemmas.puts_then, PutsLemmas.puts_waiting}

module _ {P Q : List ℕ → Type 0} (weaker : (line : List ℕ) → P line → Q line) (message : List ℕ) where
  said_weaker : (mode : Mode) (v : Verdict) (said : Texts) → SaidBy mode P message v said → SaidBy mode Q message v said
  said_weaker Lines v said (line, is, there) = (line, weaker line is, there)
  said_weaker BadLines (Ok found) said nothing = nothing
  said_weaker BadLines (Err bad) said (line, is, there) = (line, weaker line is, there)
  said_weaker Filter (Ok found) said passed = passed
  said_weaker Filter (Err bad) said (line, is, there) = (line, weaker line is, there)
  said_weaker Csv (Ok found) said (line, is, there) = (line, weaker line is, there)
  said_weaker Csv (Err bad) said (line, is, there) = (line, weaker line is, there)

-- nothing of it is for the rejects
said_spoken : (mode : Mode) (P : List ℕ → Type 0) (message : List ℕ) (v : Verdict) (said : Texts) → SaidBy mode P message v said → SaidBy mode P message v (spoken said)
said_spoken Lines P message v said (line, is, there) = (line, is, ap spoken there)
said_spoken BadLines P message (Ok found) said nothing = ap spoken nothing
said_spoken BadLines P message (Err bad) said (line, is, there) = (line, is, ap spoken there)
said_spoken Filter P message (Ok found) said passed = ap spoken passed
said_spoken Filter P message (Err bad) said (line, is, there) = (line, is, ap spoken there)
said_spoken Csv P message (Ok found) said (line, is, there) = (line, is, ap spoken there)
said_spoken Csv P message (Err bad) said (line, is, there) = (line, is, ap spoken there)

-- where no rows are asked for, and of each bad message, a line is written
pub line_by : (mode : Mode) (job : Job) (spot : Spot) (v : Verdict) (line : List ℕ) → mode ≢ Csv → IsLineIn job.terms.form job spot v line → IsLineBy mode job spot v line
line_by Lines job spot v line other is = is
line_by BadLines job spot v line other is = is
line_by Filter job spot v line other is = is
line_by Csv job spot v line other is = absurd (other refl)

pub bad_line_by : (mode : Mode) (job : Job) (spot : Spot) (bad : No) (line : List ℕ) → IsLineIn job.terms.form job spot (Err bad) line → IsLineBy mode job spot (Err bad) line
bad_line_by Lines job spot bad line is = is
bad_line_by BadLines job spot bad line is = is
bad_line_by Filter job spot bad line is = is
bad_line_by Csv job spot bad line is = is

-- so where the mode is that of lines, of each bad message, and of a row
pub as_line : (job : Job) (spot : Spot) (v : Verdict) → job.terms.mode ≡ Lines → (line : List ℕ) → IsLineIn job.terms.form job spot v line → IsLine job spot v line
as_line job spot v lines line is = subst (λ m. IsLineBy m job spot v line) (sym lines) is

pub bad_as_line : (job : Job) (spot : Spot) (v : Verdict) (bad : No) → v ≡ Err bad → (line : List ℕ) → IsLineIn job.terms.form job spot v line → IsLine job spot v line
bad_as_line job spot v bad same line is = subst (λ w. IsLine job spot w line) (sym same) (bad_line_by job.terms.mode job spot bad line (subst (λ w. IsLineIn job.terms.form job spot w line) same is))

pub row_as_line : (job : Job) (spot : Spot) (v : Verdict) (found : Yes) → v ≡ Ok found → job.terms.mode ≡ Csv → (row : List ℕ) → IsRow job.label found.answers row → IsLine job spot v row
row_as_line job spot v found same csv row is = subst (λ w. IsLine job spot w row) (sym same) (subst (λ m. IsLineBy m job spot (Ok found) row) (sym csv) is)

-- where no more is asked, a line tells numbers
brief_line : (job : Job) (spot : Spot) (v : Verdict) → IsTrue (is_brief job) → (line : List ℕ) → line ≡ verdict_line spot.number v → IsLine job spot v line
brief_line job spot v brief line is =
    let none = asks_none job.paths job.terms.names job.label job.terms.form job.terms.mode brief in
    line_by job.terms.mode job spot v line none.4 (subst (λ f. IsLineIn f job spot v line) (sym none.3) (is ∙ ap (λ l. label_text l ++ verdict_line spot.number v) (sym none.2)))

-- a line of a yes by its two parts, and that of a no
pub line_of_yes : (f : LineForm) (job : Job) (spot : Spot) (found : Yes) (front rest : List ℕ) → front ≡ front_in f job spot (Ok found) → IsRest f (map (λ (wanted : Wanted). wanted.text) job.paths) found.answers rest
    → IsLineIn f job spot (Ok found) (front ++ rest)
line_of_yes form.Plain job spot found front rest is behind =
    rw (is, behind) (append_assoc (label_text job.label) (short_line spot.number (Ok found)) (answers_text found.answers ++ codes "\n"))
line_of_yes form.Json job spot found front rest is (values, are, behind) = (
  values,
  are,
  rw (is, behind) (append_assoc (begin_part job.label spot) (counts_part found.report) (following values ++ codes "\n") ∙ sym (yes_line job.label spot found.report values)),
)

pub line_of_no : (f : LineForm) (job : Job) (spot : Spot) (bad : No) (front : List ℕ) → front ≡ front_in f job spot (Err bad) → IsLineIn f job spot (Err bad) front
line_of_no form.Plain job spot bad front is = is
line_of_no form.Json job spot bad front is = is

module _ (job : Job) (past : Before) (message : List ℕ) (v : Verdict) (before after : Queues) (tally tally' : Tally) where
  -- by its verdict a message has this told of it
  pub adds_told : IsVerdict job (buffer_in job message) v → Tells job.terms.mode job.rejects (IsLine job (spot_of past message) v) message v before after → tally' ≡ tally_with message v tally → Adds job past message before after tally tally'
  adds_told is tells counted = record { verdict = v; told = tells.told; is_told = record { verdict_is = is; text = tells.is_told }; puts = tells.puts; tally_is = counted }

  -- so it has where no more is asked
  pub adds_briefly : (mode : Mode) → mode ≡ job.terms.mode → IsTrue (is_brief job) → IsVerdict job (buffer_in job message) v → Tells mode job.rejects (λ line. line ≡ verdict_line (1 + past.messages) v) message v before after
      → tally' ≡ tally_with message v tally → Adds job past message before after tally tally'
  adds_briefly mode same brief is tells counted =
      let said = said_weaker (brief_line job (spot_of past message) v brief) message mode v (spoken tells.told) tells.is_told.0 in
      adds_told is
      (record { told = tells.told; is_told = (subst (λ m. SaidBy m (IsLine job (spot_of past message) v) message v (spoken tells.told)) same said, tells.is_told.1); puts = tells.puts })
      counted

-- where something holds by then, an end that isn't want of memory has it
pub added_so : {Added : Type 0} (before after : Queues) (tally tally' : Tally) (end : Result (Unit {0}) RunFault) → Added → AreSo after end → AddsOr Added before after tally tally' end
added_so before after tally tally' (Ok done) added so = (added, so)
added_so before after tally tally' (Err (run.WriteFault written)) added so = (added, so)
added_so before after tally tally' (Err (run.NoteFault written)) added so = (added, so)
added_so before after tally tally' (Err (run.RejectFault written)) added so = (added, so)
added_so before after tally tally' (Err _) added so = absurd so

module _ (mode : Mode) (P : List ℕ → Type 0) (message : List ℕ) (v : Verdict) where
  -- what is said of it, and then a bad message
  pub says_told : (keeps : Rejects) (before between after : Queues) → Says mode P message v before.out between.out before.notes.waits between.notes.waits → between.notes ≡ record before.notes { waits = between.notes.waits }
      → between.rejects ≡ before.rejects → PutsTold (to_rejects (rejected v keeps message)) between after → Tells mode keeps P message v before after
  says_told keeps before between after says noted same puts =
      let fine : Type 0 = (after.out.failed ≡ false) × (after.notes.failed ≡ false) in
      record {
        told = record says.said { rejects = rejected v keeps message };
        is_told = (said_spoken mode P message v says.said says.is_said, refl);
        puts = (
          puts_still says.said.out before.out after.out (puts_then says.said.out [] before.out between.out after.out says.puts puts.0),
          puts_still says.said.notes before.notes after.notes (puts_then says.said.notes [] before.notes between.notes after.notes
              (puts_waiting says.said.notes before.notes between.notes (noted ∙ ap (λ l. record before.notes { waits = l }) says.notes_are)) puts.1),
          subst (λ q. PutsFront fine (rejected v keeps message) q after.rejects) same puts.2,
        );
      }

  module _ (before after : Queue) (notes notes' : List ℕ) where
    -- a line came for the writer, or for the notes, or the message, or nothing
    pub line_said : mode ≡ Lines → PutsSome P before after → notes' ≡ notes → Says mode P message v before after notes notes'
    line_said lines (line, is, put) same = record { said = to_out line; is_said = rw lines (line, is, refl); puts = put; notes_are = same ∙ sym (append-nil notes) }

    pub good_line_said : (found : Yes) → v ≡ Ok found → (mode ≡ Lines) ⊎ (mode ≡ Csv) → PutsSome P before after → notes' ≡ notes → Says mode P message v before after notes notes'
    good_line_said found is (inl lines) some same = line_said lines some same
    good_line_said found is (inr csv) (line, holds, put) same = record { said = to_out line; is_said = rw (csv, is) (line, holds, refl); puts = put; notes_are = same ∙ sym (append-nil notes) }

    pub bad_line_said : (bad : No) → v ≡ Err bad → (mode ≡ Lines) ⊎ (mode ≡ BadLines) → PutsSome P before after → notes' ≡ notes → Says mode P message v before after notes notes'
    bad_line_said bad is (inl lines) some same = line_said lines some same
    bad_line_said bad is (inr bads) (line, holds, put) same = record { said = to_out line; is_said = rw (bads, is) (line, holds, refl); puts = put; notes_are = same ∙ sym (append-nil notes) }

    pub message_said : (found : Yes) → v ≡ Ok found → mode ≡ Filter → Puts message before after → notes' ≡ notes → Says mode P message v before after notes notes'
    message_said found is filter put same = record { said = to_out message; is_said = rw (filter, is) refl; puts = put; notes_are = same ∙ sym (append-nil notes) }

    pub none_said : (found : Yes) → v ≡ Ok found → mode ≡ BadLines → after ≡ before → notes' ≡ notes → Says mode P message v before after notes notes'
    none_said found is bads kept same = record { said = silent; is_said = rw (bads, is) refl; puts = subst (λ q. Puts [] before q) (sym kept) (puts_none before); notes_are = same ∙ sym (append-nil notes) }

    pub note_said : (bad : No) (line : List ℕ) → v ≡ Err bad → (mode ≡ Filter) ⊎ (mode ≡ Csv) → P line → after ≡ before → notes' ≡ notes ++ line → Says mode P message v before after notes notes'
    note_said bad line is (inl filter) holds kept added = record { said = to_notes line; is_said = rw (filter, is) (line, holds, refl); puts = subst (λ q. Puts [] before q) (sym kept) (puts_none before); notes_are = added }
    note_said bad line is (inr csv) holds kept added = record { said = to_notes line; is_said = rw (csv, is) (line, holds, refl); puts = subst (λ q. Puts [] before q) (sym kept) (puts_none before); notes_are = added }
