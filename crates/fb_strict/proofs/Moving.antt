-- How a pass goes on from demands to those that are left.
use Rattle.std.proofs.Common.{◌≡◌, ℕ, ◌+◌, List, [], ◌∷◌, ◌++◌, Option, Some, None, Result, Ok, Err, refl, sym, ap, subst, ◌∙◌, append_assoc, arith}
use Rattle.std.proofs.lemmas.List.Sums.{sum_by-cons, sum_by-append}
use Rattle.fb_bytes.specs.Word.{Lent}
use Rattle.fb_rules.specs.{declared.fault.Fault.Fault, declared.site.Site.Site, declared.site.Stop.Stop, declared.link.Link.Link, Bounds.Bounds, Bounds.AreAllowed}
use Rattle.fb_rules.specs.{Stops.reads_failure, Told.told, Told.stopped, Told.IsAskedAt, Order.Failure, Order.◌▷◌}
use Rattle.fb_strict.specs.{Asked.Demand, Asked.ArePlain, Asked.demand_fault, Asked.demands_reads, Asked.first_fault, Asked.links_where, Passing.Passing, Passing.Moves}
use Rattle.fb_strict.specs.Passing.{Breaks, GoesOn}
use Rattle.fb_strict.proofs.Asking.{passed, told_allowed, first_met, first_tells}

-- the site of a demand
abbrev pub site_of : Demand → Site
site_of d = record { object = d.object; field = d.field }

pub told_is : (d : Demand) (paid : ℕ) (e : Option Failure) → told (site_of d) paid e ≡ demand_fault d paid e
told_is d paid None = refl
told_is d paid (Some e) = refl

pub reads_joined : (xs ys : List Demand) → demands_reads (xs ++ ys) ≡ demands_reads xs + demands_reads ys
reads_joined xs ys = sum_by-append (λ (d : Demand). d.reads) xs ys

pub plain_joined : (xs ys : List Demand) → ArePlain xs → ArePlain ys → ArePlain (xs ++ ys)
plain_joined [] ys h i = i
plain_joined (x ∷ xs) ys h i = (h.0, plain_joined xs ys h.1 i)

-- a demand that is met is passed on the way, too
pub passed_by : (L : Bounds) (paid : ℕ) (d : Demand) (rest : List Link) → d.chain ≡ None → AreAllowed L.reads (paid + d.reads) → links_where (d.chain ▷ reads_failure L paid d.reads d.at) d.links rest ≡ rest
passed_by L paid d rest is a = rw is (let ok = (told_allowed L.reads (paid + d.reads)).1 a in rw ok refl)

-- one that isn't is where it ends
pub ends_there : (d : Demand) (paid : ℕ) (e : Option Failure) (f : Fault) (rest : List Link) → demand_fault d paid e ≡ Some f → links_where e d.links rest ≡ d.links
ends_there d paid None f rest h = absurd (cc)
ends_there d paid (Some e) f rest h = refl

-- where its own chain finds something, that is told
pub ends_at : (d : Demand) (paid : ℕ) (rest : Option Failure) (f : Fault) → demand_fault d paid d.chain ≡ Some f → demand_fault d paid (d.chain ▷ rest) ≡ Some f
ends_at d paid rest f h = by_chain d.chain h
  where
    by_chain : (e : Option Failure) → demand_fault d paid e ≡ Some f → demand_fault d paid (e ▷ rest) ≡ Some f
    by_chain None h = absurd (cc)
    by_chain (Some e) h = h

-- it is told at its own site
its_site : (d : Demand) (paid : ℕ) (e : Option Failure) (f : Fault) → demand_fault d paid e ≡ Some f → (f.object ≡ d.object) × (f.field ≡ d.field)
its_site d paid None f h = absurd (cc)
its_site d paid (Some e) f h = let same : record { at = e.at; object = d.object; field = d.field; reason = e.reason; reads = paid + e.reads } ≡ f = cc in (sym (ap (λ (x : Fault). x.object) same), sym (ap (λ (x : Fault). x.field) same))

module _ (L : Bounds) where
  -- behind demands that are met

  counted_by : (paid : ℕ) (d : Demand) (ds : List Demand) → paid + d.reads + demands_reads ds ≡ paid + demands_reads (d ∷ ds)
  counted_by paid d ds = let s = sum_by-cons (λ (x : Demand). x.reads) d ds in omega (arith, s)

  first_behind : (paid : ℕ) (xs ys : List Demand) → first_fault L paid xs ≡ None → first_fault L paid (xs ++ ys) ≡ first_fault L (paid + demands_reads xs) ys
  unfolding first_fault
  first_behind paid [] ys h = let n : paid ≡ paid + demands_reads [] = omega arith in ap (λ n. first_fault L n ys) n
  first_behind paid (x ∷ xs) ys h =
      let o = first_met L paid x (first_fault L (paid + x.reads) xs) x.chain h in
      passed L paid x (first_fault L (paid + x.reads) (xs ++ ys)) o.0 o.1 ∙ first_behind (paid + x.reads) xs ys o.2 ∙ ap (λ n. first_fault L n ys) (counted_by paid x xs)

  -- What a pass that goes on keeps.

  module _ {paid : ℕ} {ds : List Demand} {last : ℕ} {left : List Demand} (f : Moves L paid ds last left) where
    pub same_reads : paid + demands_reads ds ≡ last + demands_reads left
    same_reads = let s = ap demands_reads f.all ∙ reads_joined f.met left in omega (arith, s, f.count)

    pub still_allowed : AreAllowed L.reads paid → AreAllowed L.reads last
    still_allowed a = subst (AreAllowed L.reads) (sym f.count) (((first_tells L f.met paid a).0 f.none).1)

  pub still : (paid : ℕ) (ds : List Demand) → Moves L paid ds paid ds
  unfolding first_fault
  still paid ds = record { met = []; all = refl; plain = tt; none = refl; count = omega arith }

  -- where one demand is met
  pub one : (paid : ℕ) (d : Demand) (ds : List Demand) → d.inner ≡ None → d.chain ≡ None → AreAllowed L.reads (paid + d.reads) → Moves L paid (d ∷ ds) (paid + d.reads) ds
  unfolding first_fault
  one paid d ds plain is a = record { met = d ∷ []; all = refl; plain = (plain, tt); none = passed L paid d None is a; count = let s = counted_by paid d [] in omega (arith, s) }

  pub onward : {paid : ℕ} {ds : List Demand} {mid : ℕ} {left : List Demand} {last : ℕ} {rest : List Demand} → Moves L paid ds mid left → Moves L mid left last rest → Moves L paid ds last rest
  onward {paid} {ds} {mid} {left} {last} {rest} f g = record {
    met = f.met ++ g.met;
    all = f.all ∙ ap (λ xs. f.met ++ xs) g.all ∙ sym (append_assoc f.met g.met rest);
    plain = plain_joined f.met g.met f.plain g.plain;
    none = first_behind paid f.met g.met f.none ∙ ap (λ n. first_fault L n g.met) (sym f.count) ∙ g.none;
    count = let s = reads_joined f.met g.met in omega (arith, s, f.count, g.count);
  }

  -- others may follow
  pub before : {paid : ℕ} {ds : List Demand} {last : ℕ} {left : List Demand} (others : List Demand) → Moves L paid ds last left → Moves L paid (ds ++ others) last (left ++ others)
  before {paid} {ds} {last} {left} others f = record { met = f.met; all = ap (λ xs. xs ++ others) f.all ∙ append_assoc f.met left others; plain = f.plain; none = f.none; count = f.count }

  -- the first isn't met
  pub breaks : (paid : ℕ) (d : Demand) (ds : List Demand) (f : Fault) → demand_fault d paid (d.chain ▷ reads_failure L paid d.reads d.at) ≡ Some f → Breaks L paid (d ∷ ds) f d.links
  breaks paid d ds f h = record { last = paid; it = d; later = ds; moves = still paid (d ∷ ds); fails = h; along = refl }

  pub breaks_before : (paid : ℕ) (ds others : List Demand) (f : Fault) (links : List Link) → Breaks L paid ds f links → Breaks L paid (ds ++ others) f links
  breaks_before paid ds others f links h = record { last = h.last; it = h.it; later = h.later ++ others; moves = before others h.moves; fails = h.fails; along = h.along }

  pub breaks_then : {paid : ℕ} {ds : List Demand} {mid : ℕ} {left : List Demand} (f : Fault) (links : List Link) → Moves L paid ds mid left → Breaks L mid left f links → Breaks L paid ds f links
  breaks_then f links m h = record { last = h.last; it = h.it; later = h.later; moves = onward m h.moves; fails = h.fails; along = h.along }

-- A demand that was asked of bytes that are lent.
module _ (p : Passing) (m new : Lent) (d : Demand) (ds : List Demand) where
  pub met : {A : Type 0} (a : A) (r : Result A Stop) → d.inner ≡ None → r ≡ Ok a → IsAskedAt (site_of d) p.limits m new d.chain d.reads d.at r → GoesOn p m new (d ∷ ds) ds
  met a r plain is h =
      let o = rw is at h in
      let e = o.counted in
      rw e (record { moves = one p.limits m.count d ds plain o.ok (rw e at o.reads); grows = omega arith; same = refl })

  -- where it was told
  pub told_there : {A : Type 0} (s : Stop) (r : Result A Stop) → r ≡ Err s → IsAskedAt (site_of d) p.limits m new d.chain d.reads d.at r → ((stopped s new.count).object ≡ d.object) × ((stopped s new.count).field ≡ d.field)
  told_there s r is h = let o = rw is at h in its_site d m.count _ (stopped s new.count) (sym (told_is d m.count _) ∙ o.err)

  pub unmet : {A : Type 0} (s : Stop) (r : Result A Stop) → r ≡ Err s → IsAskedAt (site_of d) p.limits m new d.chain d.reads d.at r → Breaks p.limits m.count (d ∷ ds) (stopped s new.count) d.links
  unmet s r is h = let o = rw is at h in breaks p.limits m.count d ds (stopped s new.count) (sym (told_is d m.count _) ∙ o.err)
