-- What all that is asked comes to, where it is met, and of the buffers inside.
use Rattle.std.proofs.Common.{◌≡◌, ℕ, zero, suc, ◌+◌, ◌≤◌, List, [], ◌∷◌, slice_get, Option, Some, None, Ok, refl, sym, ap, subst, ◌∙◌, arith}
use Rattle.fb_rules.specs.declared.{fault.Fault.Fault, fault.Report.Report, link.Link.Link, start.Start.Start, start.Ident.Ident}
use Rattle.fb_rules.specs.{Bounds.AreAllowed, Question.Question, Tree.Tree, Places.target, Stops.reads_failure, WellFormed.IsWellFormed, WellFormed.cost, WellFormed.base}
use Rattle.fb_rules.specs.Order.{◌▷◌}
use Rattle.fb_rules.proofs.{Budgets.fewer_reads, Overruns.one_tree}
use Rattle.fb_strict.specs.{declared.inner.Inner.Inner, Planned.Planned, Planned.wants_in, Asked.Demand, Asked.ArePlain, Asked.AreMet, Asked.demand_fault, Asked.demands_reads}
use Rattle.fb_strict.specs.{Asked.first_fault, Asked.first_links, Nested.bytes_inside, Nested.open_at, Nested.asked_of, Nested.spent_alone, Nested.and_reads, Nested.and_walk}
use Rattle.fb_strict.specs.Nested.{budget_left, question_inside, IsMet, IsEntered, IsWalked, Course, done, unmet, past, stops, into, through, ComeTo, end_by, plain_end, PlainLaw}
use Rattle.fb_strict.specs.{Nested.IsGood, Nested.GoodInside, Nested.GoodIsStrict, Laws.IsOk}
use Rattle.fb_strict.proofs.{Asking.first_met, Asking.passed, Asking.demands_tell, Few.first_reads, Opening.more_reads, Moving.passed_by, Moving.ends_there}

-- Demands without buffers inside.

first_none : (x : Option Fault) → x ≡ None → (x ▷ None) ≡ None
first_none x h = rw h refl

-- after what was read before
end_on : (spent : Report) (d : Demand) (ds : List Demand) (links : List Link) (x : Option Fault) → end_by (and_reads spent d.reads) (demands_reads ds) links x ≡ end_by spent (demands_reads (d ∷ ds)) links x
end_on spent d ds links None = ap Ok (more_reads spent d.reads (demands_reads ds) (demands_reads (d ∷ ds)) (sym (first_reads d ds)))
end_on spent d ds links (Some f) = refl

module _ (p : Planned) (q : Question) (above : ℕ) (b : List ℕ) where
  -- the first tells
  by_first : (d : Demand) (ds : List Demand) (spent : Report) → d.inner ≡ None → (c : Course) → ComeTo c p q above b (and_reads spent d.reads) ds (plain_end q.limits (and_reads spent d.reads) ds)
      → (x : Option Fault) → demand_fault d spent.reads (d.chain ▷ reads_failure q.limits spent.reads d.reads d.at) ≡ x → (c : Course) × ComeTo c p q above b spent (d ∷ ds) (plain_end q.limits spent (d ∷ ds))
  unfolding ComeTo first_fault first_links
  by_first d ds spent plain c h None is =
      let o = first_met q.limits spent.reads d None d.chain (first_none _ is) in
      let links = passed_by q.limits spent.reads d (first_links q.limits (spent.reads + d.reads) ds) o.0 o.1 in
      let first = passed q.limits spent.reads d (first_fault q.limits (spent.reads + d.reads) ds) o.0 o.1 in
      let met : IsMet q.limits spent d = record { chain = o.0; allowed = o.1 } in
      let end = end_on spent d ds (first_links q.limits (spent.reads + d.reads) ds) (first_fault q.limits (spent.reads + d.reads) ds) ∙ (λ k. end_by spent (demands_reads (d ∷ ds)) (sym links k) (sym first k)) in
      (past c, (plain, met, subst (ComeTo c p q above b (and_reads spent d.reads) ds) end h))
  by_first d ds spent plain c h (Some f) is =
      let links = ends_there d spent.reads (d.chain ▷ reads_failure q.limits spent.reads d.reads d.at) f (first_links q.limits (spent.reads + d.reads) ds) is in
      let first = ap (λ o. o ▷ first_fault q.limits (spent.reads + d.reads) ds) is in
      (unmet, (f, is, λ k. end_by spent (demands_reads (d ∷ ds)) (links k) (first k)))

  plain_comes : (ds : List Demand) (spent : Report) → ArePlain ds → (c : Course) × ComeTo c p q above b spent ds (plain_end q.limits spent ds)
  unfolding ComeTo first_fault first_links
  plain_comes [] spent plain = let n : spent.reads + 0 ≡ spent.reads = omega arith in (done, λ k. Ok (record spent { reads = n k }))
  plain_comes (d ∷ ds) spent plain =
      let r = plain_comes ds (and_reads spent d.reads) plain.1 in
      by_first d ds spent plain.0 r.0 r.1 (demand_fault d spent.reads (d.chain ▷ reads_failure q.limits spent.reads d.reads d.at)) refl

pub plain_comes_to : PlainLaw
plain_comes_to p q above b spent ds plain = plain_comes p q above b ds spent plain

-- More is spent.

pub record IsMore (m n : Report) : Type 0 where
  pub tables : m.tables ≤ n.tables
  pub depth : m.depth ≤ n.depth
  pub reads : m.reads ≤ n.reads

more_more : (l m n : Report) → IsMore l m → IsMore m n → IsMore l n
more_more l m n h k = record { tables = omega (arith, h.tables, k.tables); depth = omega (arith, h.depth, k.depth); reads = omega (arith, h.reads, k.reads) }

more_by_reads : (m : Report) (n : ℕ) → IsMore m (and_reads m n)
more_by_reads m n = record { tables = omega arith; depth = omega arith; reads = omega arith }

more_by_walk : (m : Report) (q : Question) (b : List ℕ) (above : ℕ) (y : Tree) → IsMore m (and_walk m q b above y)
more_by_walk m q b above y = record { tables = omega arith; depth = omega arith; reads = omega arith }

module _ (p : Planned) where
  -- what is met spends more
  pub grows : (c : Course) (q : Question) (above : ℕ) (b : List ℕ) (spent : Report) (ds : List Demand) (m : Report) → ComeTo c p q above b spent ds (Ok m) → IsMore spent m
  unfolding ComeTo
  grows done q above b spent [] m h = let same : m ≡ spent = cc in rw same (record { tables = omega arith; depth = omega arith; reads = omega arith })
  grows done q above b spent (d ∷ ds) m h = absurd h
  grows unmet q above b spent [] m h = absurd h
  grows unmet q above b spent (d ∷ ds) m h = absurd (let e = h.2 in cc)
  grows (past c) q above b spent [] m h = absurd h
  grows (past c) q above b spent (d ∷ ds) m h = more_more spent (and_reads spent d.reads) m (more_by_reads spent d.reads) (grows c q above b (and_reads spent d.reads) ds m h.2)
  grows stops q above b spent [] m h = absurd h
  grows stops q above b spent (d ∷ ds) m h = absurd (let e = h.5 in cc)
  grows (into y c) q above b spent [] m h = absurd h
  grows (into y c) q above b spent (d ∷ ds) m h = absurd (let e = h.5 in cc)
  grows (through y c on) q above b spent [] m h = absurd h
  grows (through y c on) q above b spent (d ∷ ds) m h =
      let i = h.0 in
      let read = and_reads spent d.reads in
      let walk = and_walk read (question_inside q i) (bytes_inside b i) (open_at above d) y in
      let own = grows c q (open_at above d) (bytes_inside b i) walk (asked_of p (question_inside q i) (bytes_inside b i) y) h.3 h.4 in
      let rest = grows on q above b h.3 ds m h.5 in
      more_more spent read m (more_by_reads spent d.reads) (more_more read walk m (more_by_walk read (question_inside q i) (bytes_inside b i) (open_at above d) y) (more_more walk h.3 m own rest))

  -- and finds nothing
  pub all_met : (c : Course) (q : Question) (above : ℕ) (b : List ℕ) (spent : Report) (ds : List Demand) (m : Report) → ComeTo c p q above b spent ds (Ok m) → AreMet ds
  unfolding ComeTo
  all_met done q above b spent [] m h = tt
  all_met done q above b spent (d ∷ ds) m h = absurd h
  all_met unmet q above b spent [] m h = absurd h
  all_met unmet q above b spent (d ∷ ds) m h = absurd (let e = h.2 in cc)
  all_met (past c) q above b spent [] m h = absurd h
  all_met (past c) q above b spent (d ∷ ds) m h = (h.1.chain, all_met c q above b (and_reads spent d.reads) ds m h.2)
  all_met stops q above b spent [] m h = absurd h
  all_met stops q above b spent (d ∷ ds) m h = absurd (let e = h.5 in cc)
  all_met (into y c) q above b spent [] m h = absurd h
  all_met (into y c) q above b spent (d ∷ ds) m h = absurd (let e = h.5 in cc)
  all_met (through y c on) q above b spent [] m h = absurd h
  all_met (through y c on) q above b spent (d ∷ ds) m h = (h.1.met.chain, all_met on q above b h.3 ds m h.5)

pub good_is_ok : (p : Planned) (q : Question) (b : List ℕ) (r : Report) → IsGood p q b r → IsOk q b r
good_is_ok p q b r h =
    let more = grows p h.course q 0 b (spent_alone q b h.found) (asked_of p q b h.found) r h.comes in
    record {
      walked = spent_alone q b h.found;
      reports = record { found = h.found; well_formed = h.well_formed; within = h.within; tables = refl; depth = refl; reads = refl };
      tables = more.tables;
      depth = more.depth;
      reads = more.reads;
    }

pub same_tree : (q : Question) (b : List ℕ) (y z : Tree) → IsWellFormed q b y → IsWellFormed q b z → y ≡ z
same_tree q b y z h k = one_tree q.checks b q.rows y z q.root (target b (base q.start)) h.unfolds k.unfolds

pub good_is_strict : GoodIsStrict
good_is_strict p q b r y closed h w =
    let met = all_met p h.course q 0 b (spent_alone q b h.found) (asked_of p q b h.found) r h.comes in
    let strict = (demands_tell (wants_in p) q.rows closed h.found q.checks b q.root (target b (base q.start)) h.well_formed.unfolds).0 met in
    rw (same_tree q b h.found y h.well_formed w) at strict

-- The same within more.

-- what is left of more is no less
left_more : (o : Option ℕ) (m n k : ℕ) → n ≤ m → AreAllowed (budget_left o m) k → AreAllowed (budget_left o n) k
left_more None m n k h a = tt
left_more (Some most) m n k h a = omega arith

left_at_all : (o : Option ℕ) (m k : ℕ) → AreAllowed (budget_left o m) k → AreAllowed o k
left_at_all None m k a = tt
left_at_all (Some most) m k a = omega arith

module _ (p : Planned) (q : Question) (root : ℕ) (start : Start) (ident : Ident) where
  -- a question by the same rows, checks and limits
  abbrev other : Question
  other = record q { root = root; start = start; ident = ident }

  walked_more : (b : List ℕ) (i : Inner) (above above' : ℕ) (spent spent' : Report) (y : Tree) → above' ≤ above → spent'.tables ≤ spent.tables → spent'.reads ≤ spent.reads → IsWalked q b i above spent y → IsWalked other b i above' spent' y
  walked_more b i above above' spent spent' y deep tables reads h = record {
    well_formed = h.well_formed;
    within = record {
      tables = let w = (h.within).tables in omega (arith, w, tables);
      depth = let w = (h.within).depth in omega (arith, w, deep);
      reads = left_more (q.limits).reads spent.reads spent'.reads (cost (question_inside q i) (bytes_inside b i) y) reads (h.within).reads;
    };
  }

  met_more : (spent spent' : Report) (d : Demand) → spent'.reads ≤ spent.reads → IsMet q.limits spent d → IsMet q.limits spent' d
  met_more spent spent' d reads h = record { chain = h.chain; allowed = fewer_reads (q.limits).reads (spent'.reads + d.reads) (spent.reads + d.reads) (omega (arith, reads)) h.allowed }

  -- all that is met is met where fewer tables are open and less was spent
  pub record Lesser (above : ℕ) (b : List ℕ) (spent : Report) (ds : List Demand) (m : Report) (c : Course) : Type 0 where
    pub then : Report
    pub comes : ComeTo c p other above b spent ds (Ok then)
    pub tables : then.tables ≤ m.tables
    pub reads : then.reads ≤ m.reads

  pub comes_too : (c : Course) (above above' : ℕ) (b : List ℕ) (spent spent' : Report) (ds : List Demand) (m : Report) → above' ≤ above → spent'.tables ≤ spent.tables → spent'.reads ≤ spent.reads → ComeTo c p q above b spent ds (Ok m) → Lesser above' b spent' ds m c
  unfolding ComeTo
  comes_too done above above' b spent spent' [] m deep tables reads h = let same : m ≡ spent = cc in record { then = spent'; comes = refl; tables = rw same tables; reads = rw same reads }
  comes_too done above above' b spent spent' (d ∷ ds) m deep tables reads h = absurd h
  comes_too unmet above above' b spent spent' [] m deep tables reads h = absurd h
  comes_too unmet above above' b spent spent' (d ∷ ds) m deep tables reads h = absurd (let e = h.2 in cc)
  comes_too (past c) above above' b spent spent' [] m deep tables reads h = absurd h
  comes_too (past c) above above' b spent spent' (d ∷ ds) m deep tables reads h =
      let r = comes_too c above above' b (and_reads spent d.reads) (and_reads spent' d.reads) ds m deep tables (omega (arith, reads)) h.2 in
      record { then = r.then; comes = (h.0, met_more spent spent' d reads h.1, r.comes); tables = r.tables; reads = r.reads }
  comes_too stops above above' b spent spent' [] m deep tables reads h = absurd h
  comes_too stops above above' b spent spent' (d ∷ ds) m deep tables reads h = absurd (let e = h.5 in cc)
  comes_too (into y c) above above' b spent spent' [] m deep tables reads h = absurd h
  comes_too (into y c) above above' b spent spent' (d ∷ ds) m deep tables reads h = absurd (let e = h.5 in cc)
  comes_too (through y c on) above above' b spent spent' [] m deep tables reads h = absurd h
  comes_too (through y c on) above above' b spent spent' (d ∷ ds) m deep tables reads h =
      let i = h.0 in
      let walk = and_walk (and_reads spent d.reads) (question_inside q i) (bytes_inside b i) (open_at above d) y in
      let walk' = and_walk (and_reads spent' d.reads) (question_inside q i) (bytes_inside b i) (open_at above' d) y in
      let r = comes_too c (open_at above d) (open_at above' d) (bytes_inside b i) walk walk' (asked_of p (question_inside q i) (bytes_inside b i) y) h.3 (omega (arith, deep)) (omega (arith, tables)) (omega (arith, reads)) h.4 in
      let t = comes_too on above above' b h.3 r.then ds m deep r.tables r.reads h.5 in
      let entered : IsEntered q.limits spent' d i = record { met = met_more spent spent' d reads h.1.met; inner = h.1.inner } in
      let walked = walked_more b i (open_at above d) (open_at above' d) (and_reads spent d.reads) (and_reads spent' d.reads) y (omega (arith, deep)) tables (omega (arith, reads)) h.2 in
      record { then = t.then; comes = (i, entered, walked, r.then, r.comes, t.comes); tables = t.tables; reads = t.reads }

-- a buffer inside, of demands that are met
record IsMetInside (p : Planned) (q : Question) (b : List ℕ) (i : Inner) : Type 0 where
  pub above : ℕ
  pub spent : Report
  pub tree : Tree
  pub walked : IsWalked q b i above spent tree
  pub course : Course
  pub then : Report
  pub comes : ComeTo course p q above (bytes_inside b i) (and_walk spent (question_inside q i) (bytes_inside b i) above tree) (asked_of p (question_inside q i) (bytes_inside b i) tree) (Ok then)

same_demand : (d e : Demand) → Some d ≡ Some e → d ≡ e
same_demand d e h = cc

met_inside : (p : Planned) (q : Question) (i : Inner) (c : Course) (above : ℕ) (b : List ℕ) (spent : Report) (ds : List Demand) (m : Report) (n : ℕ) (x : Demand) → ComeTo c p q above b spent ds (Ok m) → slice_get ds n ≡ Some x → x.inner ≡ Some i → IsMetInside p q b i
unfolding ComeTo
met_inside p q i done above b spent [] m n x h at is = absurd (cc)
met_inside p q i done above b spent (d ∷ ds) m n x h at is = absurd h
met_inside p q i unmet above b spent [] m n x h at is = absurd h
met_inside p q i unmet above b spent (d ∷ ds) m n x h at is = absurd (let e = h.2 in cc)
met_inside p q i (past c) above b spent [] m n x h at is = absurd h
met_inside p q i (past c) above b spent (d ∷ ds) m zero x h at is = absurd (let same = same_demand d x at in let none = h.0 in cc)
met_inside p q i (past c) above b spent (d ∷ ds) m (suc n) x h at is = met_inside p q i c above b (and_reads spent d.reads) ds m n x h.2 at is
met_inside p q i stops above b spent [] m n x h at is = absurd h
met_inside p q i stops above b spent (d ∷ ds) m n x h at is = absurd (let e = h.5 in cc)
met_inside p q i (into y c) above b spent [] m n x h at is = absurd h
met_inside p q i (into y c) above b spent (d ∷ ds) m n x h at is = absurd (let e = h.5 in cc)
met_inside p q i (through y c on) above b spent [] m n x h at is = absurd h
met_inside p q i (through y c on) above b spent (d ∷ ds) m zero x h at is =
    let same = same_demand d x at in
    let inner = h.1.inner in
    let e : h.0 ≡ i = cc in
    subst (IsMetInside p q b) e (record { above = open_at above d; spent = and_reads spent d.reads; tree = y; walked = h.2; course = c; then = h.3; comes = h.4 })
met_inside p q i (through y c on) above b spent (d ∷ ds) m (suc n) x h at is = met_inside p q i on above b h.3 ds m n x h.5 at is

-- is good by itself
good_inside : (p : Planned) (q : Question) (b : List ℕ) (i : Inner) → IsMetInside p q b i → (own : Report) × IsGood p (question_inside q i) (bytes_inside b i) own
good_inside p q b i h =
    let inner = question_inside q i in
    let within = (h.walked).within in
    let r = comes_too p q i.root inner.start inner.ident h.course h.above 0 (bytes_inside b i) (and_walk h.spent inner (bytes_inside b i) h.above h.tree) (spent_alone inner (bytes_inside b i) h.tree) (asked_of p inner (bytes_inside b i) h.tree) h.then
    (omega arith) (omega arith) (omega arith) h.comes in (
      r.then,
      record {
        found = h.tree;
        well_formed = (h.walked).well_formed;
        within = record {
          tables = let w = within.tables in omega (arith, w);
          depth = let w = within.depth in omega (arith, w);
          reads = left_at_all (q.limits).reads (h.spent).reads (cost inner (bytes_inside b i) h.tree) within.reads;
        };
        course = h.course;
        comes = r.comes;
      },
    )

pub inside_is_good : GoodInside
inside_is_good p q b r y n d i h w at is =
    let same = same_tree q b y h.found w h.well_formed in
    good_inside p q b i (met_inside p q i h.course 0 b (spent_alone q b h.found) (asked_of p q b h.found) r n d h.comes (subst (λ y. slice_get (asked_of p q b y) n ≡ Some d) same at) is)
