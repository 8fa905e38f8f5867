-- What the parts of a walk hand on: refusals, stops and faults, and the head of a table.
use Rattle.std.specs.Prelude.{◌%◌, ◌≡◌, ℕ, ◌+◌, ◌≤◌, ◌<◌, ◌^◌, IsTrue, List, length, Option, Some, None, Result, IfOk, IfErr}
use Rattle.fb_bytes.specs.Word.{Lent}
use Rattle.fb_rules.specs.declared.{checks.Checks.Checks, fault.Fault.Fault, site.Site.Site, site.Refusal.Refusal, site.Stop.Stop, table.Head.Head}
use Rattle.fb_rules.specs.{Places.vtable, Places.vtable_size, Places.inline_size, Bounds.Bounds, Bounds.AreAllowed, Stops.reads_failure, Way.Way, Order.Failure, Order.◌▷◌}

-- the fault that a failure is, at this site and after so many reads
abbrev pub told : Site → ℕ → Option Failure → Option Fault
told site paid None = None
told site paid (Some e) = Some (record { at = e.at; object = site.object; field = site.field; reason = e.reason; reads = paid + e.reads })

-- the failure that a refusal is, after so many reads
abbrev pub refused : Refusal → ℕ → Failure
refused e reads = record { reason = e.reason; at = e.at; reads = reads }

-- the fault that a stop is, after so many reads
abbrev pub stopped : Stop → ℕ → Fault
stopped s reads = record { at = (s.refusal).at; object = (s.site).object; field = (s.site).field; reason = (s.refusal).reason; reads = reads }

-- a chain of tests was asked at this site, and then the budget, which is told at p: both found nothing, after n reads;
-- or the first that fails is told
pub record IsAskedAt {A : Type 0} (site : Site) (L : Bounds) (m new : Lent) (chain : Option Failure) (n p : ℕ) (result : Result A Stop) : Type 0 where
  pub ok : IfOk result (λ _. chain ≡ None)
  pub counted : IfOk result (λ _. new ≡ record m { count = m.count + n })
  pub reads : IfOk result (λ _. AreAllowed L.reads new.count)
  pub err : IfErr result (λ s. told site m.count (chain ▷ reads_failure L m.count n p) ≡ Some (stopped s new.count))
  pub bytes : new.bytes ≡ m.bytes

-- at this site, with so many tables open, so many passed, so many open at once, and so many reads paid
abbrev pub way_at : ℕ → ℕ → ℕ → ℕ → Site → Way
way_at links passed deepest paid site = record { links = links; passed = passed; deepest = deepest; paid = paid; leading = 0; object = site.object; field = site.field }

-- the vtable that was read for the table at t
pub record IsVtable (b : List ℕ) (t : ℕ) (h : Head) : Type 0 where
  pub place : h.vtable ≡ vtable b t
  pub size : h.size ≡ vtable_size b t
  pub even : h.size % 2 ≡ 0
  pub within : h.vtable + h.size ≤ length b
  pub near : h.vtable < 2 ^ 32

-- the head that was read of the table at t
pub record IsHead (c : Checks) (b : List ℕ) (t : ℕ) (h : Head) : Type 0 where
  pub vtable : IsVtable b t h
  pub inline : IsTrue c.inline_size → h.inline ≡ inline_size b t

-- p is a place in the table at t, whose head this is
pub record IsPlaced (c : Checks) (b : List ℕ) (t : ℕ) (h : Head) (p : ℕ) : Type 0 where
  pub table : t < 2 ^ 33
  pub place : p < 2 ^ 34
  pub head : IsHead c b t h
