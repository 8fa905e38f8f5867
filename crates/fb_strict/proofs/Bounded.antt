-- A buffer with those inside it costs few reads.
use Rattle.std.proofs.Common.{◌≡◌, ℕ, ◌+◌, ◌-◌, ◌*◌, ◌≤◌, List, [], ◌∷◌, length, drop, inl, inr, Option, Some, None, Result, Ok, Err, refl, sym, ap, subst, ◌∙◌, arith, length-take, length-drop, mul-le-mul_left, mul-le-mul_right, add-mul}
use Rattle.fb_schema.specs.Live.{widest}
use Rattle.fb_rules.specs.{declared.fault.Fault.Fault, declared.fault.Report.Report, declared.link.Link.Link, Bounds.Bounds, Bounds.AreAllowed, Question.Question, Tree.Tree}
use Rattle.fb_rules.specs.{Tree.size, Stops.reads_failure, Links.StopsAlong, MostReads.within_budget, MostReads.most_reads, Places.target, WellFormed.base, WellFormed.IsWellFormed}
use Rattle.fb_rules.specs.{WellFormed.cost, Order.◌▷◌}
use Rattle.fb_rules.proofs.Price.{reads_are_bounded}
use Rattle.fb_strict.specs.{declared.inner.Inner.Inner, Planned.Planned, Planned.wants_in, Asked.Demand, Asked.demand_fault, Asked.demands_reads, Asked.first_fault}
use Rattle.fb_strict.specs.Nested.{spent_alone, EndsWith, bytes_inside, open_at, asked_of, and_reads, and_walk, budget_left, question_inside, walk_inside, IsEntered, IsWalked}
use Rattle.fb_strict.specs.Nested.{Refused, outward, later, Course, done, unmet, past, stops, into, through, ComeTo}
use Rattle.fb_strict.specs.{MostReads.most_reads_strictly, MostReads.within_past, Laws.StrictCostIsBounded, Laws.StrictReadsAreBounded}
use Rattle.fb_strict.proofs.{Few.first_reads, Price.AreCheap, Price.buffer_cheap, Price.cheap_more, Price.comes_soon, Price.lesser, Price.more_past, Price.near_past}
use Rattle.fb_strict.proofs.{Nesting.stops_of, Legs.allowed_later, Verdicts.least_of, Turning.cost_few, Turning.pass_price, Turning.some_size}

-- a fault is the first of one demand
one_first : (L : Bounds) (paid : ℕ) (d : Demand) (f : Fault) → demand_fault d paid (d.chain ▷ reads_failure L paid d.reads d.at) ≡ Some f → first_fault L paid (d ∷ []) ≡ Some f
unfolding first_fault
one_first L paid d f h = ap (λ o. o ▷ None) h

-- near what is left of a budget is near the budget
pub near_left : (o : Option ℕ) (w n : ℕ) → AreAllowed o w → n ≤ within_budget (budget_left o w) n → w + n ≤ within_budget o (w + n)
near_left None w n a h = omega arith
near_left (Some most) w n a h = omega (arith, a, h)

-- what is within a bound by a budget is within that budget
own_most : (o : Option ℕ) (n k : ℕ) → k ≤ within_budget o n → k ≤ within_budget o k
own_most None n k h = omega arith
own_most (Some most) n k h = omega (arith, h)

module _ (p : Planned) (q : Question) (len : ℕ) where
  -- what so many tables cost at most: of the walks 4 a buffer and 4 a table, and of the passes 3 a table and the length
  abbrev pub price : ℕ → ℕ
  price n = n * (4 + widest q.rows * (8 + len)) + n * (3 + len + widest q.rows * ((8 + len) * (8 + len))) + 4 * n

  price_add : (a b : ℕ) → price (a + b) ≡ price a + price b
  price_add a b = omega (arith, add-mul a b (4 + widest q.rows * (8 + len)), add-mul a b (3 + len + widest q.rows * ((8 + len) * (8 + len))))

  price_more : (a b : ℕ) → a ≤ b → price a ≤ price b
  price_more a b le = omega (arith, le, mul-le-mul_right (4 + widest q.rows * (8 + len)) le, mul-le-mul_right (3 + len + widest q.rows * ((8 + len) * (8 + len))) le)

  abbrev T : ℕ
  T = (q.limits).tables

  -- a buffer's own
  own_price : (r : Question) (b : List ℕ) (y : Tree) → r.rows ≡ q.rows → length b ≤ len → IsWellFormed r b y → cost r b y + demands_reads (asked_of p r b y) ≤ price (size y)
  own_price r b y rows short h =
      let c = cost_few r b y h in
      let d = pass_price p r b y h in
      let w : widest r.rows * (8 + length b) ≤ widest q.rows * (8 + len) = subst (λ s. widest r.rows * (8 + length b) ≤ widest s * (8 + len)) rows (mul-le-mul_left (widest r.rows) (omega (arith, short))) in
      let one : size y * (4 + widest r.rows * (8 + length b)) ≤ size y * (4 + widest q.rows * (8 + len)) = mul-le-mul_left (size y) (omega (arith, w)) in
      let near : (8 + length b) * (8 + length b) ≤ (8 + length b) * (8 + len) = mul-le-mul_left (8 + length b) (omega (arith, short)) in
      let square : (8 + length b) * (8 + len) ≤ (8 + len) * (8 + len) = mul-le-mul_right (8 + len) (omega (arith, short)) in
      let more : (8 + length b) * (8 + length b) ≤ (8 + len) * (8 + len) = omega (arith, near, square) in
      let v : widest r.rows * ((8 + length b) * (8 + length b)) ≤ widest q.rows * ((8 + len) * (8 + len)) =
      subst (λ s. widest r.rows * ((8 + length b) * (8 + length b)) ≤ widest s * ((8 + len) * (8 + len))) rows (mul-le-mul_left (widest r.rows) more) in
      let each : 3 + length b + widest r.rows * ((8 + length b) * (8 + length b)) ≤ 3 + len + widest q.rows * ((8 + len) * (8 + len)) = omega (arith, v, short) in
      let two : size y * (3 + length b + widest r.rows * ((8 + length b) * (8 + length b))) ≤ size y * (3 + len + widest q.rows * ((8 + len) * (8 + len))) = mul-le-mul_left (size y) each in
      let turn : (3 + length b + widest r.rows * ((8 + length b) * (8 + length b))) * size y ≡ size y * (3 + length b + widest r.rows * ((8 + length b) * (8 + length b))) = omega arith in
      omega (arith, c, d, one, two, turn, some_size y)

  Bounded : Report → List Demand → Result Report Refused → Type 0
  Bounded spent ds (Ok m) = (m.reads + price spent.tables ≤ spent.reads + demands_reads ds + price m.tables) × (m.tables ≤ T) × AreAllowed (q.limits).reads m.reads
  Bounded spent ds (Err e) = ((e.fault).reads + price spent.tables ≤ spent.reads + demands_reads ds + price T + 4) × ((e.fault).reads ≤ within_past (q.limits).reads (7 + len) (e.fault).reads)

  is_bounded : (spent : Report) (ds : List Demand) (x y : Result Report Refused) → x ≡ y → Bounded spent ds y → Bounded spent ds x
  is_bounded spent ds x y e h = subst (Bounded spent ds) (sym e) h

  shorter : (b : List ℕ) (i : Inner) → length b ≤ len → length (bytes_inside b i) ≤ len
  shorter b i h = let t = length-take i.size (drop i.at b) in let d = length-drop i.at b in omega (arith, t, d, h)

  -- a walk that stops
  stop_bounded : (b : List ℕ) (spent : Report) (d : Demand) (ds : List Demand) (i : Inner) (above : ℕ) (f : Fault) (links : List Link) → length b ≤ len → AreAllowed (q.limits).reads (spent.reads + d.reads) → spent.tables ≤ T
      → StopsAlong (walk_inside q i above (and_reads spent d.reads)) (bytes_inside b i) f links → Bounded spent (d ∷ ds) (Err (outward d i (record { fault = later (spent.reads + d.reads) f; links = links })))
  unfolding Bounded most_reads
  stop_bounded b spent d ds i above f links short a many h =
      let inside = bytes_inside b i in
      let few = reads_are_bounded (walk_inside q i above (and_reads spent d.reads)) inside f (stops_of (walk_inside q i above (and_reads spent d.reads)) inside f links h) in
      let left = T - spent.tables in
      let w : widest q.rows * (8 + length inside) ≤ widest q.rows * (8 + len) = mul-le-mul_left (widest q.rows) (omega (arith, shorter b i short)) in
      let one : left * (4 + widest q.rows * (8 + length inside)) ≤ left * (4 + widest q.rows * (8 + len)) = mul-le-mul_left left (omega (arith, w)) in
      let all : spent.tables + left ≡ T = omega (arith, many) in
      let sum = price_add spent.tables left in
      let same = ap price (sym all) ∙ sum in
      let most = least_of (budget_left (q.limits).reads (spent.reads + d.reads)) (4 + left * (4 + widest q.rows * (8 + length inside))) in
      let near = near_left (q.limits).reads (spent.reads + d.reads) f.reads a (own_most (budget_left (q.limits).reads (spent.reads + d.reads)) _ f.reads few) in
      (omega (arith, few, most, one, same, first_reads d ds), more_past (q.limits).reads (7 + len) (spent.reads + d.reads + f.reads) _ _ (omega arith) (omega arith) near)

  -- after a demand that is met
  after_reads : (spent : Report) (d : Demand) (ds : List Demand) (end : Result Report Refused) → Bounded (and_reads spent d.reads) ds end → Bounded spent (d ∷ ds) end
  unfolding Bounded
  after_reads spent d ds (Ok m) h = (omega (arith, h.0, first_reads d ds), h.1, h.2)
  after_reads spent d ds (Err e) h = (omega (arith, h.0, first_reads d ds), h.1)

  -- a buffer inside was walked
  module _ (b : List ℕ) (spent : Report) (d : Demand) (ds : List Demand) (i : Inner) (above : ℕ) (y : Tree) (short : length b ≤ len) (entered : IsEntered q.limits spent d i) (walked : IsWalked q b i above (and_reads spent d.reads) y) where
    abbrev ask : List Demand
    ask = asked_of p (question_inside q i) (bytes_inside b i) y

    abbrev then-spent : Report
    then-spent = and_walk (and_reads spent d.reads) (question_inside q i) (bytes_inside b i) above y

    its_price : cost (question_inside q i) (bytes_inside b i) y + demands_reads ask ≤ price (size y)
    its_price = own_price (question_inside q i) (bytes_inside b i) y refl (shorter b i short) walked.well_formed

    then_allowed : AreAllowed (q.limits).reads then-spent.reads
    then_allowed = allowed_later q.limits (spent.reads + d.reads) (entered.met).allowed (cost (question_inside q i) (bytes_inside b i) y) (walked.within).reads

    then_many : spent.tables ≤ T → then-spent.tables ≤ T
    then_many many = omega (arith, (walked.within).tables, many)

    into_bounded : (e : Refused) → Bounded then-spent ask (Err e) → Bounded spent (d ∷ ds) (Err (outward d i e))
    unfolding Bounded
    into_bounded e h = (omega (arith, h.0, its_price, price_add spent.tables (size y), first_reads d ds), h.1)

    through_bounded : (mid : Report) (end : Result Report Refused) → Bounded then-spent ask (Ok mid) → Bounded mid ds end → Bounded spent (d ∷ ds) end
    unfolding Bounded
    through_bounded mid (Ok m) h k = (omega (arith, h.0, k.0, its_price, price_add spent.tables (size y), first_reads d ds), k.1, k.2)
    through_bounded mid (Err e) h k = (omega (arith, h.0, k.0, its_price, price_add spent.tables (size y), first_reads d ds), k.1)

  ok_bounded : (spent : Report) (ds : List Demand) (m : Report) → Bounded spent ds (Ok m) → (m.tables ≤ T) × AreAllowed (q.limits).reads m.reads
  unfolding Bounded
  ok_bounded spent ds m h = (h.1, h.2)

  -- what is asked of it is cheap
  inside_cheap : (b : List ℕ) (i : Inner) (y : Tree) → length b ≤ len → IsWellFormed (question_inside q i) (bytes_inside b i) y → AreCheap len (asked_of p (question_inside q i) (bytes_inside b i) y)
  inside_cheap b i y short h =
      let inside = bytes_inside b i in
      cheap_more (length inside) len (asked_of p (question_inside q i) inside y) (shorter b i short) (buffer_cheap (wants_in p) q.checks inside q.rows i.root (target inside 0) y h.unfolds)

  bounded : (c : Course) (above : ℕ) (b : List ℕ) (spent : Report) (ds : List Demand) (end : Result Report Refused) → length b ≤ len → AreCheap len ds → AreAllowed (q.limits).reads spent.reads → spent.tables ≤ T → ComeTo c p q above b spent ds end → Bounded spent ds end
  unfolding ComeTo Bounded
  bounded done above b spent [] end short cheap a many h = is_bounded spent [] end (Ok spent) h (omega arith, many, a)
  bounded done above b spent (d ∷ ds) end short cheap a many h = absurd h
  bounded unmet above b spent [] end short cheap a many h = absurd h
  bounded unmet above b spent (d ∷ ds) end short cheap a many h =
      let soon = comes_soon q.limits h.0 len (d ∷ []) spent.reads (cheap.0, tt) a (one_first q.limits spent.reads d h.0 h.1) in
      is_bounded spent (d ∷ ds) end (Err (record { fault = h.0; links = d.links })) h.2 (omega (arith, soon.0, first_reads d ds, first_reads d [], price_more spent.tables T many), soon.1)
  bounded (past c) above b spent [] end short cheap a many h = absurd h
  bounded (past c) above b spent (d ∷ ds) end short cheap a many h = after_reads spent d ds end (bounded c above b (and_reads spent d.reads) ds end short cheap.1 (h.1).allowed many h.2)
  bounded stops above b spent [] end short cheap a many h = absurd h
  bounded stops above b spent (d ∷ ds) end short cheap a many h = is_bounded spent (d ∷ ds) end _ h.5 (stop_bounded b spent d ds h.0 (open_at above d) h.2 h.3 short ((h.1).met).allowed many h.4)
  bounded (into y c) above b spent [] end short cheap a many h = absurd h
  bounded (into y c) above b spent (d ∷ ds) end short cheap a many h =
      let i = h.0 in
      let inside = bytes_inside b i in
      let ask = asked_of p (question_inside q i) inside y in
      let spent2 = and_walk (and_reads spent d.reads) (question_inside q i) inside (open_at above d) y in
      let a2 = then_allowed b spent d ds i (open_at above d) y short h.1 h.2 in
      let many2 = then_many b spent d ds i (open_at above d) y short h.1 h.2 many in
      let cheap2 = inside_cheap b i y short (h.2).well_formed in
      let r = bounded c (open_at above d) inside spent2 ask (Err h.3) (shorter b i short) cheap2 a2 many2 h.4 in
      is_bounded spent (d ∷ ds) end (Err (outward d i h.3)) h.5 (into_bounded b spent d ds i (open_at above d) y short h.1 h.2 h.3 r)
  bounded (through y c on) above b spent [] end short cheap a many h = absurd h
  bounded (through y c on) above b spent (d ∷ ds) end short cheap a many h =
      let i = h.0 in
      let inside = bytes_inside b i in
      let ask = asked_of p (question_inside q i) inside y in
      let spent2 = and_walk (and_reads spent d.reads) (question_inside q i) inside (open_at above d) y in
      let a2 = then_allowed b spent d ds i (open_at above d) y short h.1 h.2 in
      let many2 = then_many b spent d ds i (open_at above d) y short h.1 h.2 many in
      let cheap2 = inside_cheap b i y short (h.2).well_formed in
      let r = bounded c (open_at above d) inside spent2 ask (Ok h.3) (shorter b i short) cheap2 a2 many2 h.4 in
      let ok = ok_bounded spent2 ask h.3 r in
      through_bounded b spent d ds i (open_at above d) y short h.1 h.2 h.3 end r (bounded on above b h.3 ds end short cheap.1 ok.1 ok.0 h.5)

-- a whole buffer

whole_bounded : (p : Planned) (q : Question) (b : List ℕ) (end : Result Report Refused) → (h : EndsWith p q b end) → Bounded p q (length b) (spent_alone q b h.found) (asked_of p q b h.found) end
whole_bounded p q b end h =
    bounded p q (length b) h.course 0 b (spent_alone q b h.found) (asked_of p q b h.found) end (omega arith) (buffer_cheap (wants_in p) q.checks b q.rows q.root (target b (base q.start)) h.found (h.well_formed).unfolds) (h.within).reads (h.within).tables h.comes

good_costs : (p : Planned) (q : Question) (b : List ℕ) (r : Report) (y : Tree) → IsWellFormed q b y → Bounded p q (length b) (spent_alone q b y) (asked_of p q b y) (Ok r) → r.reads ≤ most_reads_strictly q.rows q.limits (length b)
unfolding Bounded most_reads_strictly
good_costs p q b r y w h =
    let own = own_price p q (length b) q b y refl (omega arith) w in
    let more = price_more p q (length b) r.tables (q.limits).tables h.1 in
    lesser (q.limits).reads (7 + length b) r.reads _ (omega (arith, h.0, own, more)) (near_past (q.limits).reads (7 + length b) r.reads r.reads (omega arith) h.2)

bad_comes : (p : Planned) (q : Question) (b : List ℕ) (e : Refused) (y : Tree) → IsWellFormed q b y → Bounded p q (length b) (spent_alone q b y) (asked_of p q b y) (Err e) → (e.fault).reads ≤ most_reads_strictly q.rows q.limits (length b)
unfolding Bounded most_reads_strictly
bad_comes p q b e y w h =
    let own = own_price p q (length b) q b y refl (omega arith) w in
    lesser (q.limits).reads (7 + length b) (e.fault).reads _ (omega (arith, h.0, own)) h.1

pub strict_cost_is_bounded : StrictCostIsBounded
strict_cost_is_bounded p q b r h = good_costs p q b r h.found h.well_formed (whole_bounded p q b (Ok r) h)

pub strict_reads_are_bounded : StrictReadsAreBounded
unfolding most_reads most_reads_strictly
strict_reads_are_bounded p q b f (inl h) = more_past (q.limits).reads (7 + length b) _ _ f.reads (omega arith) (omega arith) (reads_are_bounded q b f h)
strict_reads_are_bounded p q b f (inr h) =
    let e : Refused = record { fault = f; links = h.0 } in
    bad_comes p q b e (h.1).found (h.1).well_formed (whole_bounded p q b (Err e) h.1)
