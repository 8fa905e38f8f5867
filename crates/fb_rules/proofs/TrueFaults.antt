-- Where a buffer stops, the fault's reason is true of the place that it names.
use Rattle.std.proofs.Common.{◌≡◌, ◌≢◌, ℕ, suc, ◌+◌, ◌≤◌, ◌⊎◌, inl, inr, List, refl, ◌∙◌, arith, Option, Some, None}
use Rattle.std.specs.Prelude.{slice_get}
use Rattle.std.proofs.lemmas.Bool.Decides.{nat_tests}
use Rattle.fb_schema.specs.{declared.kinds.Kind.Kind, declared.kinds.Kind.TheVariants.Unions, Rows.Rows, Live.Live, Live.live_fields}
use Rattle.fb_rules.specs.declared.{checks.Checks.Checks, start.Start.Start, start.Ident.Ident, fault.Fault.Fault, fault.Reason.Reason, fault.Reason.TheVariants.TooManyTables}
use Rattle.fb_rules.specs.{Bounds.Bounds, Facts.IsTable, Tree.kids_length, Tree.elements_length, WellFormed.base, WellFormed.start_reads, Places.is_aligned, Places.target}
use Rattle.fb_rules.specs.{Places.field_place, Places.ends_in_table, Fields.Entry, Order.Failure, Order.◌▷◌, Order.prefix_failure, Order.ident_failure, Order.offset_failure}
use Rattle.fb_rules.specs.Order.{start_failure, head_failure, string_failure, vector_failure, inline_failure, table_failure, vector_field_failure, present_failure, own_failure}
use Rattle.fb_rules.specs.{Order.element_failure, Way.Way, Way.way_to_start, Way.way_to_root, Way.way_to_field, Way.way_to_element, Way.way_to_table, Stops.in_head, Stops.in_field}
use Rattle.fb_rules.specs.Stops.{in_element, fault_of, reads_failure, fault_at, IsFalseAt, Trail, at_head, at_field, FieldTrail, at_own, at_element, ElementTrail, at_lead, through}
use Rattle.fb_rules.specs.{Stops.IsTrail, Stops.IsFieldTrail, Stops.IsElementTrail, TrueReasons.PrefixIsFalse, TrueReasons.IdentIsFalse, TrueReasons.OffsetIsFalse}
use Rattle.fb_rules.specs.TrueReasons.{HeadIsFalse, StringIsFalse, VectorIsFalse, InlineIsFalse, PastIsFalse, VectorFieldIsFalse, PresentIsFalse, PlacedIsFalse, LeadIsFalse}
use Rattle.fb_rules.specs.TrueReasons.{FailsAtLimit, IsOverBudget, HasEntry, LeadsOn, IsReached, as_root, from_above, FailsInHead, FailsInField, FailsInElement, FailsAtTable}
use Rattle.fb_rules.specs.TrueReasons.{StopsTruly, opened_on, opened_on_field, opened_on_element, TablesRunOut}
use Rattle.fb_rules.proofs.{Budgets.are_too_many, Chains.offset_none}

-- This holds of the reason and position that a chain finds, if it finds any.
abbrev Tells : (Reason → ℕ → Type 0) → Option Failure → Type 0
Tells P None = Unit {0}
Tells P (Some e) = P e.reason e.at

-- The parts.

module _ (c : Checks) (b : List ℕ) where
  offset_false : (p : ℕ) → Tells (OffsetIsFalse c b p) (offset_failure c b p)
  unfolding offset_failure is_aligned
  offset_false p = grind (arith, nat_tests)

  head_false : (t : ℕ) → Tells (HeadIsFalse c b t) (head_failure c b t)
  unfolding head_failure is_aligned
  head_false t = grind (arith, nat_tests)

  string_false : (s : ℕ) → Tells (StringIsFalse c b s) (string_failure c b s)
  unfolding string_failure is_aligned
  string_false s = grind (arith, nat_tests)

  vector_false : (v size align : ℕ) → Tells (VectorIsFalse c b v size align) (vector_failure c b v size align)
  unfolding vector_failure is_aligned
  vector_false v size align = grind (arith, nat_tests)

  inline_false : (p size align : ℕ) → Tells (InlineIsFalse c b p size align) (inline_failure c b p size align)
  unfolding inline_failure is_aligned
  inline_false p size align = grind (arith, nat_tests)

  past_false : (t p n : ℕ) → Tells (PastIsFalse c b t p n) (table_failure c b t p n)
  unfolding table_failure ends_in_table
  past_false t p n = grind (arith, nat_tests)

  -- fields

  vector_field_false : (t p size align : ℕ) → Tells (VectorFieldIsFalse c b t p size align) (vector_field_failure c b t p size align)
  vector_field_false t p size align = grind (arith, offset_none, offset_false, vector_false, past_false)

  module _ (S : Rows) (t : ℕ) (g : Live) where
    present_false : (p : ℕ) (kind : Kind) → Tells (PresentIsFalse c b t g p kind) (present_failure c b S t g p kind)
    present_false p (Unions e) = grind (arith, nat_tests, vector_field_false)
    present_false p kind = grind (arith, nat_tests, vector_field_false, inline_false, past_false)

  -- elements

  element_false : (x : Entry) → Tells (LeadIsFalse c b x.place x.lead) (element_failure c b x)
  unfolding element_failure
  element_false x = grind (arith, offset_none, offset_false, inline_false, string_false)

  -- the start

  start_false : (start : Start) (ident : Ident)
      → Tells (λ reason at. PrefixIsFalse b start reason at ⊎ (IdentIsFalse b (base start + 4) ident reason at ⊎ OffsetIsFalse c b (base start) reason at)) (start_failure c b start ident)
  unfolding start_failure prefix_failure ident_failure
  start_false start ident = grind (arith, nat_tests, offset_false)

-- A fault at the end of a way: it has the way's object and field, and a reason that is true, or there are too many reads.
module _ (c : Checks) (b : List ℕ) (S : Rows) (L : Bounds) (w : Way) (f : Fault) where
  abbrev IsBy : Type 0 → ℕ → Type 0
  IsBy P p = (f.object ≡ w.object) × (f.field ≡ w.field) × (P ⊎ IsOverBudget L p f)

  place_fault : (P : Reason → ℕ → Type 0) (x : Option Failure) (n p : ℕ) → Tells P x → fault_of w (x ▷ reads_failure L w.paid n p) ≡ Some f → IsBy (P f.reason f.at) p
  place_fault P x n p told h = grind (arith, are_too_many)

  head_fault : (k t : ℕ) → IsFalseAt c b S L (in_head k t) w f
      → (FailsAtLimit t w.links w.object w.field L f × (f.reason ≡ TooManyTables → L.tables ≤ w.passed)) ⊎ (FailsInHead c b k t L f × (f.reason ≢ TooManyTables))
  unfolding fault_at
  head_fault k t h = grind (arith, nat_tests, are_too_many, head_false)

  own_fault : (t : ℕ) (g : Live) → IsFalseAt c b S L (in_field t g) w f → IsBy (PlacedIsFalse c b t g (field_place b t g.slot) f.reason f.at) t × (f.reason ≢ TooManyTables)
  unfolding fault_at own_failure
  own_fault t g h = grind (arith, nat_tests, are_too_many, present_false)

  element_fault : (x : Entry) → IsFalseAt c b S L (in_element x) w f → IsBy (LeadIsFalse c b x.place x.lead f.reason f.at) x.place × (f.reason ≢ TooManyTables)
  unfolding fault_at
  element_fault x h = grind (arith, are_too_many, element_false)

-- Along a trail: the fault is at a table that is reached, and where too many tables were opened, this trail opens as
-- many as are allowed.
module _ (c : Checks) (b : List ℕ) (S : Rows) (L : Bounds) (root begin : ℕ) (f : Fault) where
  abbrev Told : ℕ → Way → Type 0
  Told opened w = FailsAtTable c b S root begin L f × (f.reason ≡ TooManyTables → L.tables ≤ w.passed + opened)

  -- the way leads to a table
  abbrev LeadsTo : ℕ → ℕ → Way → Type 0
  LeadsTo k t w = IsReached c b S root begin k t w.links w.object w.field

  at_reached : (k t : ℕ) (w : Way) → LeadsTo k t w → FailsAtLimit t w.links w.object w.field L f ⊎ (FailsInHead c b k t L f ⊎ (FailsInField c b S k t L f ⊎ FailsInElement c b S k t L f)) → FailsAtTable c b S root begin L f
  at_reached k t w reached because = record { object = k; table = t; above = w.links; leading_object = w.object; leading_field = w.field; reached = reached; because = because }

  mutual
    unfolding IsTrail IsFieldTrail IsElementTrail opened_on opened_on_field opened_on_element

    trail_fails : (s : Trail) (k t : ℕ) (w : Way) → LeadsTo k t w → IsTrail s c b S L k t w f → Told (opened_on s) w
    trail_fails at_head k t w reached h = elim (head_fault c b S L w f k t h) [
      | inl r ↦ (at_reached k t w reached (inl r.0), λ is. let many = r.1 is in omega (arith, many))
      | inr r ↦ (at_reached k t w reached (inr (inl r.0)), λ is. absurd (r.1 is))
    ]
    trail_fails (at_field earlier s) k t w reached h =
        let r = field_fails s k t w (kids_length earlier) h.0 (way_to_field c b S k t earlier h.0 w) reached h.1.head h.1.next refl refl (omega arith) h.2 in
        (r.0, λ is. let many = r.1 is in omega (arith, many))

    -- the way to one of its fields, or to an element of one
    field_fails : (s : FieldTrail) (k t : ℕ) (v : Way) (i : ℕ) (g : Live) (w : Way) → LeadsTo k t v → IsTable c b t → slice_get (live_fields S k) i ≡ Some g
        → w.object ≡ k → w.field ≡ Some g.number → w.links ≡ suc v.links → IsFieldTrail s c b S L t g w f → Told (opened_on_field s) w
    field_fails at_own k t v i g w reached head live object_is field_is links h =
        let r = own_fault c b S L w f t g h in
        (at_reached k t v reached (inr (inr (inl (record { head = head; at_fault = g; place = i; is_live = live; object = r.0.0 ∙ object_is; field = r.0.1 ∙ field_is; because = r.0.2 })))), λ is. absurd (r.1 is))
    field_fails (at_element before s) k t v i g w reached head live object_is field_is links h =
        let by : HasEntry c b S k t = record { head = head; field = g; place = i; is_live = live; own = h.1.own; entry = h.0; entry_place = elements_length before; is_entry = h.1.next } in
        let r = element_fails s k t v by (way_to_element c b S t g before w) reached object_is field_is links h.2 in
        (r.0, λ is. let many = r.1 is in omega (arith, many))

    element_fails : (s : ElementTrail) (k t : ℕ) (v : Way) (by : HasEntry c b S k t) (w : Way) → LeadsTo k t v → w.object ≡ k → w.field ≡ Some (by.field).number → w.links ≡ suc v.links → IsElementTrail s c b S L by.entry w f → Told (opened_on_element s) w
    element_fails at_lead k t v by w reached object_is field_is links h =
        let r = element_fault c b S L w f by.entry h in
        (at_reached k t v reached (inr (inr (inr (record { by = by; object = r.0.0 ∙ object_is; field = r.0.1 ∙ field_is; because = r.0.2 })))), λ is. absurd (r.1 is))
    element_fails (through s) k t v by w reached object_is field_is links h =
        let u = target b (by.entry).place in
        let on : LeadsOn c b S k t h.0 u = record { by = by; lead = h.1; offset = h.2; is_target = refl } in
        trail_fails s h.0 u (way_to_table by.entry w) (rw (links, object_is, field_is) (from_above k t v.links v.object v.field h.0 u reached on)) h.3

pub stops_truly : StopsTruly
unfolding fault_at
stops_truly q b f (inl h) =
    let failed = start_failure q.checks b q.start q.ident in
    let r = place_fault q.checks b q.rows q.limits (way_to_start q.root) f _ failed (start_reads q.start q.ident) (base q.start) (start_false q.checks b q.start q.ident) h.first in
    inl (record { object = r.0; field = r.1; because = grind arith })
stops_truly q b f (inr h) =
    let t = target b (base q.start) in inr (h.0, (trail_fails q.checks b q.rows q.limits q.root t f h.1.0 q.root t (way_to_root q.root q.start q.ident) as_root h.1.1).0)

pub tables_run_out : TablesRunOut
tables_run_out q b s f h is =
    let t = target b (base q.start) in
    let many = (trail_fails q.checks b q.rows q.limits q.root t f s q.root t (way_to_root q.root q.start q.ident) as_root h).1 is in omega (arith, many)
