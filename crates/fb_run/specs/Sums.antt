-- What messages come to by their verdicts, and the line that tells it.
use Rattle.std.specs.Prelude.{◌≡◌, ℕ, ◌+◌, ◌-◌, ◌*◌, ◌≤◌, ◌^◌, ◌==◌, min, if◌then◌else◌, List, [], ◌∷◌, ◌++◌, All, Ok, Err, length, replicate, slice_index, slice_set, codes, decimal}
use Rattle.fb_rules.specs.{Reasons.reason_number, Reasons.reason_count, declared.fault.Reason.Reason}
use Rattle.fb_run.specs.{Job.Verdict, declared.options.LineForm.LineForm, declared.options.LineForm.TheVariants.Plain, declared.options.LineForm.TheVariants.Json}
use Rattle.fb_run.specs.declared.tally.Tally.{Tally}

-- the place of a reason among the counts of all reasons, that of V1 first
abbrev pub count_place : Reason → ℕ
count_place reason = reason_number reason - 1

-- what no messages come to
abbrev pub no_tally : Tally
no_tally = record {
  yes = 0;
  no = 0;
  reasons = replicate reason_count 0;
  bytes = 0;
  tables = 0;
  reads = 0;
}

-- how many messages came to this
abbrev pub count_of : Tally → ℕ
count_of tally = tally.yes + tally.no

-- one more at a place
abbrev pub one_more : ℕ → List ℕ → List ℕ
one_more place counts = slice_set counts place (slice_index counts place + 1)

-- the sum of two counts of reads, or the most that is told
abbrev pub sum_of_reads : ℕ → ℕ → ℕ
sum_of_reads some more = min (some + more) (2 ^ 128 - 1)

-- what messages come to with this one beside them
abbrev pub tally_with : List ℕ → Verdict → Tally → Tally
tally_with message (Ok found) others = record {
  yes = others.yes + 1;
  no = others.no;
  reasons = others.reasons;
  bytes = others.bytes + length message;
  tables = others.tables + found.report.tables;
  reads = sum_of_reads others.reads found.report.reads;
}
tally_with message (Err bad) others = record {
  yes = others.yes;
  no = others.no + 1;
  reasons = one_more (count_place bad.fault.reason) others.reasons;
  bytes = others.bytes + length message;
  tables = others.tables;
  reads = sum_of_reads others.reads bad.fault.reads;
}

-- no sum is more than so many messages of up to 2^31 bytes can have
pub record IsBounded (tally : Tally) : Type 0 where
  pub places : length tally.reasons ≡ reason_count
  pub reasons : All (λ n. n ≤ tally.no) tally.reasons
  pub bytes : tally.bytes ≤ 2147483648 * count_of tally
  pub tables : tally.tables ≤ 4294967296 * count_of tally

-- one of two texts, by the form of the line
abbrev pub in_form : LineForm → List ℕ → List ℕ → List ℕ
in_form Plain plain json = plain
in_form Json plain json = json

-- how often the reason with this number was given, where it was, in front of the rest
abbrev pub reason_part : LineForm → ℕ → ℕ → List ℕ → List ℕ
reason_part form number count rest =
    (if count == 0 then [] else (in_form form (codes " V") (codes ",\"V") ++ decimal number ++ in_form form (codes "=") (codes "\":") ++ decimal count)) ++ rest

-- the same of the reasons from this number on, in their order
abbrev pub reasons_from : LineForm → ℕ → List ℕ → List ℕ → List ℕ
reasons_from form number [] rest = rest
reasons_from form number (count ∷ counts) rest = reason_part form number count (reasons_from form (number + 1) counts rest)

-- the same of all reasons
abbrev pub reasons_part : LineForm → List ℕ → List ℕ → List ℕ
reasons_part form counts rest = reasons_from form 1 counts rest

-- what was counted beside the verdicts
abbrev pub counts_part : LineForm → Tally → List ℕ
counts_part form tally =
    in_form form (codes " bytes=") (codes ",\"bytes\":") ++ decimal tally.bytes
    ++ in_form form (codes " tables=") (codes ",\"tables\":") ++ decimal tally.tables
    ++ in_form form (codes " reads=") (codes ",\"reads\":") ++ decimal tally.reads ++ in_form form (codes "\n") (codes "}\n")

-- how many there are, and how many had a yes and a no, in front of the rest
abbrev pub verdicts_part : LineForm → Tally → List ℕ → List ℕ
verdicts_part form tally rest =
    in_form form (codes "summary: messages=") (codes "{\"messages\":") ++ decimal (count_of tally)
    ++ in_form form (codes " yes=") (codes ",\"yes\":") ++ decimal tally.yes
    ++ in_form form (codes " no=") (codes ",\"no\":") ++ decimal tally.no ++ rest

-- all of it
abbrev pub summary_part : LineForm → Tally → List ℕ
summary_part form tally = verdicts_part form tally (reasons_part form tally.reasons (counts_part form tally))

-- the plain line that tells it
abbrev pub summary_line : Tally → List ℕ
summary_line tally = summary_part Plain tally
