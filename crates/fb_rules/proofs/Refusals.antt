-- From a refusal to the fault at a site, and what the tests of a unit find, after which the budget is asked.
use Rattle.std.proofs.Common.{◌≡◌, ℕ, ◌+◌, false, List, Result, Ok, Err, sym, ◌∙◌, ap, subst, arith, Option, Some, None}
use Rattle.std.specs.Result.{IsErrAnd}
use Rattle.fb_bytes.specs.Word.{Lent}
use Rattle.fb_rules.specs.declared.{fault.Fault.Fault, fault.Reason.Reason, site.Site.Site, site.Refusal.Refusal, site.Stop.Stop, fault.Reason.TheVariants.TooManyReads}
use Rattle.fb_rules.specs.{Bounds.Bounds, Bounds.allowed, Cost.lead_reads, Fields.Lead, Fields.Entry, OffsetRows.IsLeafLead, Plain.tested_by, Plain.IsTested, Stops.reads_failure}
use Rattle.fb_rules.specs.{Stops.lead_reads_failure, Told.told, Told.refused, Told.stopped, Told.IsAskedAt, Order.Failure, Order.after, Order.◌▷◌}
use Rattle.fb_rules.proofs.Plains.{after_twice}

-- a failure that is refused so is told so
pub told_after : (site : Site) (paid reads : ℕ) (x : Option Failure) (e : Refusal) → after paid x ≡ Some (refused e reads) → told site paid x ≡ Some (stopped (record { site = site; refusal = e }) reads)
told_after site paid reads x e h = grind arith

-- what the first of two chains finds is told
pub told_first : (site : Site) (paid : ℕ) (x y : Option Failure) (f : Fault) → told site paid x ≡ Some f → told site paid (x ▷ y) ≡ Some f
told_first site paid x y f h = grind arith

-- where a walk stops for too many reads
abbrev pub spent : Site → ℕ → Stop
spent site place = record { refusal = record { at = place; reason = TooManyReads }; site = site }

-- past a chain that finds nothing, too many reads are told
pub told_reads : (L : Bounds) (site : Site) (paid n place reads : ℕ) (x : Option Failure) (s : Stop) → x ≡ None → reads ≡ paid + n → allowed L.reads reads ≡ false → s ≡ spent site place
    → told site paid (x ▷ reads_failure L paid n place) ≡ Some (stopped s reads)
told_reads L site paid n place reads x s o r h i = grind arith

-- the same of an element that leads to no table
pub told_lead_reads : (L : Bounds) (site : Site) (paid reads : ℕ) (x : Entry) (lead : Lead) (e : Option Failure) (s : Stop) → IsLeafLead lead → e ≡ None → reads ≡ paid + (x.reads + lead_reads lead) → allowed L.reads reads ≡ false
    → s ≡ spent site x.place → told site paid (e ▷ lead_reads_failure L paid x lead) ≡ Some (stopped s reads)
told_lead_reads L site paid reads x lead e s l o r h i = grind (arith, told_reads)

-- a chain that finds nothing has no test that fails
pub unfailed : (at k m : ℕ) (chain : Option Failure) (failed : Option Reason) → tested_by at k failed ≡ after m chain → chain ≡ None → failed ≡ None
unfailed at k m chain failed h e = grind arith

-- and the other way round
pub unfound : (at k m : ℕ) (chain : Option Failure) (failed : Option Reason) → tested_by at k failed ≡ after m chain → failed ≡ None → chain ≡ None
unfound at k m chain failed h e = grind arith

-- a test that fails is told at a site where so many reads were paid before
pub tested_tells : (site : Site) (paid at k : ℕ) (x y : Option Failure) (reason : Reason) → tested_by at k (Some reason) ≡ after paid x
    → told site paid (x ▷ y) ≡ Some (stopped (record { refusal = record { at = at; reason = reason }; site = site }) k)
tested_tells site paid at k x y reason h = told_first site paid x y _ (told_after site paid k x (record { at = at; reason = reason }) (sym h))

-- a chain that is tested after some reads
pub tested_then : (m j : ℕ) {b : List ℕ} {base : ℕ} {new : Lent} {at n k : ℕ} {failed : Option Reason} (chain : Option Failure) → k ≡ m + j
    → IsTested (record { bytes = b; count = k; base = base }) new at chain n failed → IsTested (record { bytes = b; count = m; base = base }) new at (after j chain) (j + n) failed
tested_then m j chain e h = record {
  told = h.told ∙ ap (λ x. after x chain) e ∙ sym (after_twice m j chain);
  counted = λ o. omega (arith, h.counted o, e);
  bytes = h.bytes;
  base = h.base;
}

module _ {A B : Type 0} {site : Site} {L : Bounds} {m new : Lent} {chain : Option Failure} {n p : ℕ} where
  -- the answer for a unit serves for what goes on by it
  pub asked_ok : (a : A) (b : B) → IsAskedAt site L m new chain n p (Ok a) → IsAskedAt site L m new chain n p (Ok b)
  asked_ok a b h = record { ok = h.ok; counted = h.counted; reads = h.reads; err = tt; bytes = h.bytes }

  pub asked_err : (s : Stop) (r : Result B Stop) → IsErrAnd r (λ e. e ≡ s) → IsAskedAt {A = A} site L m new chain n p (Err s) → IsAskedAt {A = B} site L m new chain n p r
  asked_err s (Ok b) is h = absurd is
  asked_err s (Err e) is h = subst (λ x. IsAskedAt {A = B} site L m new chain n p (Err x)) (sym is) (record { ok = tt; counted = tt; reads = tt; err = h.err; bytes = h.bytes })
