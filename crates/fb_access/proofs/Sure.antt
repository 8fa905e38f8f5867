-- From where something is, certain steps lead to where something is.
use Rattle.std.proofs.Common.{arith, ◌≡◌, ℕ, ◌||◌, if◌then◌else◌, ℤ, Bool, true, IsFalse, List, ◌∙◌, ap, subst, Option, Some, None}
use Rattle.std.specs.Prelude.{option_and_then}
use Rattle.fb_schema.specs.{Rows.Rows, Live.Live, Served.IsServed, declared.kinds.Kind.Kind, declared.kinds.Kind.TheVariants.Table}
use Rattle.fb_rules.specs.{Fields.IsField, Fields.IsPresentOrAbsent, declared.checks.Checks.Checks}
use Rattle.fb_access.specs.declared.{step.Step.Step, step.Step.TheVariants.Field, spot.Spot.Spot, spot.Spot.TheVariants.AtTable}
use Rattle.fb_access.specs.{Fitting.numbered, Denotes.next_spot, Denotes.Leads, Held.IsSpot, Held.IsTableAt, Spots.absent_spot, Spots.spot_at, Spots.field_spot}
use Rattle.fb_access.specs.Here.{IsHere, defaults, sure_field, sure_kind, HereGoesOn}
use Rattle.fb_access.proofs.{Held.at_table, TableFields.field_holds, StepKinds.present_kind}

-- such a step is one to a field of a table
pub record IsSure (S : Rows) (kind : Kind) (s : Step) (onward : Kind) : Type 0 where
  pub object : ℕ
  pub is_table : kind ≡ Table object
  pub number : ℕ
  pub is_field : s ≡ Field number
  pub field : Live
  pub found : numbered S object number ≡ Some field
  pub sure : sure_field field ≡ Some onward

found_sure : (S : Rows) (k n : ℕ) (onward : Kind) (o : Option Live) → numbered S k n ≡ o → option_and_then sure_field o ≡ Some onward → IsSure S (Table k) (Field n) onward
found_sure S k n onward o i e = grind arith

pub is_sure : (S : Rows) (kind : Kind) (s : Step) (onward : Kind) → sure_kind S kind s ≡ Some onward → IsSure S kind s onward
unfolding sure_kind
is_sure S kind s onward e = grind (arith, found_sure)

-- a table is here
pub table_here : (p : Spot) (k : ℕ) → IsHere p (Table k) → (t : ℕ) × (p ≡ AtTable k t)
table_here p k h = grind arith

sure_same : (v : Bool) (kind onward : Kind) → (if v then Some kind else None) ≡ Some onward → (kind ≡ onward) × (v ≡ true)
sure_same v kind onward e = grind arith

pub sure_kind_of : (f : Live) (onward : Kind) → sure_field f ≡ Some onward → f.kind ≡ onward
sure_kind_of f onward e = (sure_same (f.required || defaults f.optional f.kind) f.kind onward e).0

absent_here : (required optional : Bool) (d : ℤ) (kind : Kind) → IsFalse required → (required || defaults optional kind) ≡ true → IsHere (absent_spot optional d kind) kind
unfolding absent_spot
absent_here required optional d kind f h = grind arith

place_here : (c : Checks) (b : List ℕ) (S : Rows) (t : ℕ) (f : Live) (place : Option ℕ) → IsPresentOrAbsent c b S t f place → (f.required || defaults f.optional f.kind) ≡ true → IsHere (spot_at b t f place) f.kind
place_here c b S t f place met h = grind (arith, absent_here, present_kind)

field_here : (c : Checks) (b : List ℕ) (S : Rows) (t : ℕ) (f : Live) (onward : Kind) → IsField c b S t f → sure_field f ≡ Some onward → IsHere (field_spot b t f) onward
unfolding IsField
field_here c b S t f onward met e = grind (arith, place_here)

module _ (b : List ℕ) (S : Rows) where
  table_leads_here : (k t n : ℕ) (f : Live) (q : Spot) (onward : Kind) → IsServed S → IsTableAt b S k t → numbered S k n ≡ Some f → sure_field f ≡ Some onward → Leads b S (AtTable k t) (Field n) q → IsHere q onward
  unfolding next_spot
  table_leads_here k t n f q onward served h found sure l =
      let here = field_here h.checks b S t f onward (field_holds b S k t n f served h found).met sure in
      grind arith

  pub here_goes_on : (p : Spot) (s : Step) (q : Spot) → IsServed S → IsSpot b S p → Leads b S p s q → HereGoesOn S p s q
  here_goes_on p s q served holds l kind onward h e =
      let i = is_sure S kind s onward e in
      let t = table_here p i.object (h ∙ ap Some i.is_table) in
      let m = subst (λ x. next_spot b S x (Field i.number) ≡ Some q) t.1 (subst (λ x. next_spot b S p x ≡ Some q) i.is_field l) in
      table_leads_here i.object t.0 i.number i.field q onward served (at_table b S p i.object t.0 t.1 holds) i.found i.sure m
