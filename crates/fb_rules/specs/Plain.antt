-- Fields, by their steps, up to one that may lead to a table.
use Rattle.std.specs.Prelude.{◌≡◌, ◌⊎◌, ℕ, ◌+◌, ◌^◌, ◌<◌, ◌≤◌, ◌%◌, ◌==◌, ◌&&◌, nat_le, if◌then◌else◌, IsTrue, List, length, not, Option, Some, None, Result, IfOk, IfErr, false}
use Rattle.std.specs.List.{All, sum_by}
use Rattle.fb_bytes.specs.Word.{Lent}
use Rattle.fb_schema.specs.declared.views.{Act.Act, Step.Step, Act.TheVariants.One, Act.TheVariants.Two, Act.TheVariants.Four, Act.TheVariants.Eight, Act.TheVariants.Inline}
use Rattle.fb_schema.specs.{declared.views.Act.TheVariants.Text, declared.views.Act.TheVariants.Vector, declared.views.Act.TheVariants.Other, Served.IsAlignment, Steps.bit_of}
use Rattle.fb_rules.specs.declared.{plain.Came.Came, checks.Checks.Checks, fault.Reason.Reason, plain.Came.TheVariants.Past, plain.Came.TheVariants.ToEnd}
use Rattle.fb_rules.specs.declared.{plain.Came.TheVariants.ToField, plain.Came.TheVariants.ToFault, fault.Reason.TheVariants.OutOfBuffer, fault.Reason.TheVariants.Misaligned}
use Rattle.fb_rules.specs.{declared.fault.Reason.TheVariants.BadVtable, declared.fault.Reason.TheVariants.MissingRequired, Places.fits, Places.is_aligned, Places.has_vtable}
use Rattle.fb_rules.specs.{Places.vtable, Places.field_place, Places.has_slot, Places.vtable_size, Fields.to_string, Cost.slot_reads, Order.Failure, Order.check, Order.after}
use Rattle.fb_rules.specs.Order.{◌▷◌, table_failure, inline_field_failure, vector_field_failure, lead_failure}

-- the failure that a test tells at this position, after so many reads
abbrev pub tested_by : ℕ → ℕ → Option Reason → Option Failure
tested_by at reads None = None
tested_by at reads (Some reason) = Some (record { reason = reason; at = at; reads = reads })

-- a chain of tests was asked by bytes that are lent: it found nothing, after n reads; or it found what is told at this
-- position
pub record IsTested (m new : Lent) (at : ℕ) (chain : Option Failure) (n : ℕ) (result : Option Reason) : Type 0 where
  pub told : tested_by at new.count result ≡ after m.count chain
  pub counted : result ≡ None → new.count ≡ m.count + n
  pub bytes : new.bytes ≡ m.bytes
  pub base : new.base ≡ m.base

-- a uoffset at p can be read
pub record StandsAt (c : Checks) (b : List ℕ) (p : ℕ) : Type 0 where
  pub near : p < 2 ^ 32
  pub within : p + 4 ≤ length b
  pub aligned : IsTrue (is_aligned c p 4)

-- the first word of the table at t, which leads to its vtable
unfoldable pub first_word_failure : Checks → List ℕ → ℕ → Option Failure
first_word_failure c b t =
    check (fits b t 4) OutOfBuffer t 0
    (check (is_aligned c t 4) Misaligned t 0
    (check (has_vtable b t) OutOfBuffer t 1 None))

-- and then the vtable
unfoldable pub vtable_failure : Checks → List ℕ → ℕ → Option Failure
vtable_failure c b t =
    check (fits b (vtable b t) 2) OutOfBuffer t 0
    (check (is_aligned c (vtable b t) 2) Misaligned (vtable b t) 0
    (check ((vtable_size b t % 2 == 0) && nat_le 4 (vtable_size b t)) BadVtable (vtable b t) 1
    (check (fits b (vtable b t) (vtable_size b t)) OutOfBuffer (vtable b t) 1 None)))

-- its size, and the inline size where that is checked
abbrev pub vtable_reads : Checks → ℕ
vtable_reads c = if c.inline_size then 2 else 1

-- the first word of the table at t was tested and read: the vtable stands there, or a test fails
pub record FindsVtable (c : Checks) (m new : Lent) (t : ℕ) (result : Result ℕ Reason) : Type 0 where
  pub holds : IfOk result (λ v. first_word_failure c m.bytes t ≡ None)
  pub value : IfOk result (λ v. v ≡ vtable m.bytes t)
  pub near : IfOk result (λ v. v < 2 ^ 32)
  pub counted : IfOk result (λ v. new.count ≡ m.count + 1)
  pub told : IfErr result (λ reason. tested_by t new.count (Some reason) ≡ after m.count (first_word_failure c m.bytes t))
  pub bytes : new.bytes ≡ m.bytes
  pub base : new.base ≡ m.base

-- where a field stands in the table at t, that is told to be at p: nowhere, where that is the table's own position
abbrev pub place_from : (t p : ℕ) → Option ℕ
place_from t p = if p == t then None else Some p

-- a present field at p, with the string that it may lead to
abbrev pub step_failure : Checks → List ℕ → ℕ → Step → ℕ → Act → Option Failure
step_failure c b t s p One = inline_field_failure c b t p 1 1
step_failure c b t s p Two = inline_field_failure c b t p 2 2
step_failure c b t s p Four = inline_field_failure c b t p 4 4
step_failure c b t s p Eight = inline_field_failure c b t p 8 8
step_failure c b t s p Inline = inline_field_failure c b t p s.size s.align
step_failure c b t s p Text = table_failure c b t p 4 ▷ lead_failure c b p to_string
step_failure c b t s p Vector = vector_field_failure c b t p s.size s.align
step_failure c b t s p Other = None

-- the reads of this, after the slot
abbrev pub step_reads : Act → ℕ
step_reads Text = 3
step_reads Vector = 2
step_reads _ = 0

-- what has an act by its size may be absent, and what is asked for its own alignment has one
abbrev pub IsStep : Step → Act → Type 0
IsStep s One = s.required ≡ false
IsStep s Two = s.required ≡ false
IsStep s Four = s.required ≡ false
IsStep s Eight = s.required ≡ false
IsStep s Inline = IsAlignment s.align
IsStep s Vector = IsAlignment s.align
IsStep s _ = Unit {0}

-- it has the bit of its act, beside which may stand another of what leads to one table
abbrev pub HasBit : Step → Act → Type 0
HasBit s Other = (s.bit ≡ 128) ⊎ (s.bit ≡ 384)
HasBit s act = s.bit ≡ bit_of act

-- the same of a field that may be absent
abbrev pub step_failure_at : Checks → List ℕ → ℕ → Step → Option ℕ → Option Failure
step_failure_at c b t s None = check (not s.required) MissingRequired t 0 None
step_failure_at c b t s (Some p) = step_failure c b t s p s.act

abbrev pub step_reads_at : Step → Option ℕ → ℕ
step_reads_at s None = 0
step_reads_at s (Some p) = step_reads s.act

-- the field in the table at t, its slot first
unfoldable pub plain_failure : Checks → List ℕ → ℕ → Step → Option Failure
plain_failure c b t s = after (slot_reads b t s.slot) (step_failure_at c b t s (field_place b t s.slot))

unfoldable pub plain_reads : List ℕ → ℕ → Step → ℕ
plain_reads b t s = slot_reads b t s.slot + step_reads_at s (field_place b t s.slot)

-- the fields of these steps hold in the table at t
abbrev pub StepsHold : Checks → List ℕ → ℕ → List Step → Type 0
StepsHold c b t steps = All (λ s. plain_failure c b t s ≡ None) steps

-- and their reads
abbrev pub steps_reads : List ℕ → ℕ → List Step → ℕ
steps_reads b t steps = sum_by (plain_reads b t) steps

-- sizes that are alignments too, and have a bit of their own
abbrev pub IsSmall : ℕ → Type 0
IsSmall n = (n ≡ 1) ⊎ (n ≡ 2) ⊎ (n ≡ 4) ⊎ (n ≡ 8)

-- the field of a step was tested in the table at t, and this was found; it isn't one that stands there and may lead to
-- a table
pub record StepTested (c : Checks) (m new : Lent) (t : ℕ) (s : Step) (at : ℕ) (result : Option Reason) : Type 0 where
  pub plain : s.act ≡ Other → field_place m.bytes t s.slot ≡ None
  pub tested : IsTested m new at (plain_failure c m.bytes t s) (plain_reads m.bytes t s) result

-- its slot lies behind the vtable
pub record StepBehind (m new : Lent) (t : ℕ) (s : Step) : Type 0 where
  pub past : vtable_size m.bytes t < s.slot + 2
  pub same : new ≡ m

-- it stands at this place, and may lead to a table
pub record StepLeads (m new : Lent) (t : ℕ) (s : Step) (at : ℕ) : Type 0 where
  pub open-step : s.act ≡ Other
  pub there : field_place m.bytes t s.slot ≡ Some at
  pub slot : IsTrue (has_slot m.bytes t s.slot)
  pub near : at < 2 ^ 34
  pub counted : new ≡ record m { count = m.count + slot_reads m.bytes t s.slot }

-- passing a field came to what a chain of tests at a position tells, after so many reads
abbrev pub IsCame : (at reads : ℕ) → Option Failure → Came → Type 0
IsCame at reads chain Past = tested_by at reads None ≡ after reads chain
IsCame at reads chain ToEnd = ⊥
IsCame at reads chain ToField = ⊥
IsCame at reads chain (ToFault reason) = tested_by at reads (Some reason) ≡ after reads chain

-- what passing a field by its step comes to, that stands at p, once its slot is read
abbrev pub Filled : Checks → (m new : Lent) → (t : ℕ) → Step → (p at : ℕ) → Came → Type 0
Filled c m new t s p at Past = (s.act ≡ Other → ⊥) × IsTested m new at (step_failure c m.bytes t s p s.act) (step_reads s.act) None
Filled c m new t s p at ToEnd = ⊥
Filled c m new t s p at ToField = (s.act ≡ Other) × (new ≡ m) × (at ≡ p)
Filled c m new t s p at (ToFault reason) = (s.act ≡ Other → ⊥) × IsTested m new at (step_failure c m.bytes t s p s.act) (step_reads s.act) (Some reason)

-- the same with the reading of its slot before it
abbrev pub Stepped : Checks → (m new : Lent) → (t : ℕ) → Step → (at : ℕ) → Came → Type 0
Stepped c m new t s at Past = StepTested c m new t s at None
Stepped c m new t s at ToEnd = StepBehind m new t s
Stepped c m new t s at ToField = StepLeads m new t s at
Stepped c m new t s at (ToFault reason) = StepTested c m new t s at (Some reason)
