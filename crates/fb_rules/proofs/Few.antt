-- Reads are few.
use Rattle.std.proofs.Common.{ℕ, ◌+◌, ◌≤◌, List, arith, Option}
use Rattle.fb_schema.specs.{declared.kinds.Kind.Kind, Rows.Rows, Live.Live}
use Rattle.fb_rules.specs.{declared.checks.Checks.Checks, declared.offset_row.Row.Row, Cost.head_reads, Cost.slot_reads, Cost.reads_if_present, Cost.present_reads, Cost.own_reads}
use Rattle.fb_rules.specs.{Cost.lead_reads, Fields.Lead, OffsetRows.first_word}

pub lead_few : (lead : Lead) → lead_reads lead ≤ 3
lead_few lead = grind arith

pub first_few : (b : List ℕ) (S : Rows) (r : Row) → (first_word b S r).reads + lead_reads (first_word b S r).lead ≤ 4
first_few b S r = grind (arith, lead_few)

pub head_few : (c : Checks) → head_reads c ≤ 3
head_few c = grind arith

pub if_present_few : (n : ℕ) (place : Option ℕ) → reads_if_present n place ≤ n
if_present_few n place = grind arith

pub present_few : (b : List ℕ) (t o : ℕ) (kind : Kind) → present_reads b t o kind ≤ 5
present_few b t o kind = grind (arith, if_present_few)

pub slot_few : (b : List ℕ) (t o : ℕ) → slot_reads b t o ≤ 1
slot_few b t o = grind arith

pub own_few : (b : List ℕ) (t : ℕ) (f : Live) → own_reads b t f ≤ 6
unfolding own_reads
own_few b t f = grind (arith, slot_few, present_few)
