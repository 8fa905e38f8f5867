-- A whole buffer is asked: its length, and then its root table.
use Rattle.std.proofs.Common.{◌≡◌, ℕ, ◌+◌, List, [], ◌∷◌, length, Option, Some, None, Bool, true, false, if◌then◌else◌, ap, refl, sym, subst, ◌∙◌, arith}
use Rattle.std.specs.Prelude.{◌||◌}
use Rattle.fb_bytes.specs.Word.{Lent}
use Rattle.fb_schema.specs.Rows.{Rows}
use Rattle.fb_rules.specs.declared.{fault.Fault.Fault, fault.Reason.Reason, site.Stop.Stop, site.Halt.Halt, site.LastLink.TheVariants.Behind, table.Child.Child}
use Rattle.fb_rules.specs.{Bounds.AreAllowed, Tree.Tree, Plain.tested_by, Stops.reads_failure, Told.stopped, Order.Failure, Order.after, Order.◌▷◌}
use Rattle.fb_strict.specs.{Skipped.IsClosed, Skipped.has_asked, InOrder.length_failure, InOrder.where_asked, Planned.Planned, Planned.IsPlan, Planned.marked, Planned.marked_wants}
use Rattle.fb_strict.specs.{Planned.wants_in, Asked.Demand, Asked.demands_in, Asked.demand_fault, declared.room.Frame.Frame, Passing.Passing, Passing.wants_of, Passing.IsNext}
use Rattle.fb_strict.specs.Passing.{IsRooted, Moves, Breaks, GoesOn, Halts}
use Rattle.fb_strict.proofs.{Marks.reaches, Moving.one, Moving.breaks}

-- the objects that a plan asks are closed
module _ (S : Rows) (p : Planned) (h : IsPlan S p.demands p) where
  unmarked : (k : ℕ) → marked p.marks k ≡ false → (x : Bool) → has_asked (marked_wants p.demands p.marks) S k ≡ x → x ≡ false
  unmarked k none false is = refl
  unmarked k none true is = absurd (let m = (h.asked k).1 (reaches p.demands S (marked p.marks) (λ j a. (h.asked j).0 a) k is) in let w : false ≡ true = sym none ∙ m in cc)

  closed_by : (x : Bool) → p.demands.known_fields ≡ x → (k : ℕ) → (x || marked p.marks k) ≡ false → (x ≡ false) × (has_asked (wants_in p) S k ≡ false)
  closed_by true is k none = absurd (let w : true ≡ false = none in cc)
  closed_by false is k none =
      let same : wants_in p ≡ marked_wants p.demands p.marks = λ i. record { demands = p.demands; asks = λ j. is i || marked p.marks j } in
      (refl, ap (λ w. has_asked w S k) same ∙ unmarked k none (has_asked (marked_wants p.demands p.marks) S k) refl)

  pub plan_closed : IsClosed (wants_in p) S
  plan_closed k none = let c = closed_by p.demands.known_fields refl k none in (c.0, c.1)

module _ (p : Passing) (m : Lent) (allowed : AreAllowed (p.limits).reads m.count) (root : Child) where
  abbrev pub length_demand : Demand
  length_demand = record { links = []; object = root.object; field = None; at = length m.bytes; reads = 0; chain = where_asked (p.plan).demands.unions (length_failure m.bytes); inner = None }

  abbrev pub rest_of : Tree → List Demand
  rest_of y = if (wants_of p).asks root.object then demands_in y (wants_of p) p.checks m.bytes p.rows [] else []

  -- the length is enough
  pub long : where_asked (p.plan).demands.unions (length_failure m.bytes) ≡ None → (ds : List Demand) → Moves p.limits m.count (length_demand ∷ ds) m.count ds
  long chain ds =
      let same : m.count + 0 ≡ m.count = omega arith in
      subst (λ n. Moves p.limits m.count (length_demand ∷ ds) n ds) same (one p.limits m.count length_demand ds refl chain (subst (AreAllowed (p.limits).reads) (sym same) allowed))

  pub quiet : where_asked (p.plan).demands.unions (length_failure m.bytes) ≡ None → (wants_of p).asks root.object ≡ false → (new : Lent) → new ≡ m → (y : Tree) → GoesOn p m new (length_demand ∷ rest_of y) []
  quiet chain unasked new same y = rw (unasked, same) (record { moves = long chain []; grows = omega arith; same = refl })

  by_chain : (f : Fault) (e : Option Failure) → demand_fault length_demand m.count e ≡ Some f → demand_fault length_demand m.count (e ▷ reads_failure p.limits m.count 0 (length m.bytes)) ≡ Some f
  by_chain f None h = absurd (cc)
  by_chain f (Some e) h = h

  told_as : (reason : Reason) (e : Option Failure) → tested_by (length m.bytes) m.count (Some reason) ≡ after m.count e → demand_fault length_demand m.count e ≡ Some (record { at = length m.bytes; object = root.object; field = None; reason = reason; reads = m.count })
  told_as reason None h = absurd (cc)
  told_as reason (Some e) h = grind arith

  pub too_short : (reason : Reason) → tested_by (length m.bytes) m.count (Some reason) ≡ after m.count (where_asked (p.plan).demands.unions (length_failure m.bytes)) → (ds : List Demand) → Breaks p.limits m.count (length_demand ∷ ds) (record { at = length m.bytes; object = root.object; field = None; reason = reason; reads = m.count }) []
  too_short reason told ds = breaks p.limits m.count length_demand ds _ (by_chain _ (where_asked (p.plan).demands.unions (length_failure m.bytes)) (told_as reason (where_asked (p.plan).demands.unions (length_failure m.bytes)) told))

  pub short_halts : (s : Stop) (frames : List Frame) (new : Lent) (ds : List Demand) → Breaks p.limits m.count ds (stopped s new.count) [] → (h : Halt) → h ≡ record { stop = s; links = 0; last = Behind } → Halts p m new ds frames h
  short_halts s frames new ds b h is = subst (Halts p m new ds frames) (sym is) (record { breaks = b; linked = λ i lt. absurd (omega (arith, lt)); within = omega arith })

  -- a root table that is asked can be opened
  pub its_next : (room : ℕ) (y : Tree) → IsRooted p m.bytes room root y → IsNext p m.bytes room [] root (demands_in y (wants_of p) p.checks m.bytes p.rows [])
  its_next room y h = record { tree = y; unfolds = h.unfolds; object = h.object; near = h.near; deep = h.deep; all = refl }
