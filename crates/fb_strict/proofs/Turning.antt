-- Turns of a strict verdict with buffers inside.
use Rattle.fb_rules.specs.{Tree.Tree, Tree.node, Tree.size, Tree.depth, Places.target, Links.StopsAlong, MostReads.most_reads, WellFormed.base, WellFormed.IsWellFormed}
use Rattle.fb_rules.specs.{WellFormed.IsWithin, WellFormed.cost, declared.fault.Report.Report, declared.link.Link.Link, Question.Question, Bounds.AreAllowed, Stops.reads_failure}
use Rattle.fb_rules.specs.Order.{◌▷◌}
use Rattle.fb_rules.proofs.Price.{cost_is_bounded}
use Rattle.fb_schema.specs.{Live.widest, Served.IsServed}
use Rattle.fb_schema.proofs.LookLemmas.{within_widest}
use Rattle.fb_strict.specs.{InOrder.length_failure, InOrder.where_asked, Planned.Planned, Planned.wants_in, declared.inner.Inner.Inner, declared.room.Frame.Frame}
use Rattle.fb_strict.specs.{declared.levels.Level.Level, declared.levels.Unmet.Unmet, declared.levels.Rest.TheVariants.Walked, Asked.Demand, Asked.demand_fault, Asked.demands_in}
use Rattle.fb_strict.specs.{Asked.demands_reads, Passing.Passing, Passing.wants_of, Passing.blank, Passing.IsLeft, Passing.IsLinked, Passing.AreLinked, Passing.AreLeft}
use Rattle.fb_strict.specs.{Passing.frame_link, Passing.frame_links, Nested.Refused, Nested.place_in, Nested.and_reads, Nested.and_walk, Nested.asked_of, Nested.bytes_inside}
use Rattle.fb_strict.specs.{Nested.open_at, Nested.question_inside, Nested.walk_inside, Nested.IsEntered, Nested.IsWalked, Nested.EndsWith, Levels.LevelsComeTo, Levels.in_whole}
use Rattle.fb_strict.specs.Levels.{Finished, Reached, Stopped, left_reads, IsUnderWay, IsAtInner, IsAsking, IsBegun, opened_inside, inside_of, IsWalkedIn, spent_inside}
use Rattle.fb_strict.specs.Levels.{asked_inside, turns_left, level_inside, HasStopped, HasBroken, IsPassed, RestIs, IsWayTo, EndsAlong, fault_of, Opened, Whole, resting, bytes_of}
use Rattle.fb_strict.specs.Levels.{way_through, IsThrough, IsOpened, opened_as, no_level, way_to, above_next, IsThroughBelow, AreOpened}
use Rattle.fb_strict.proofs.{Few.tree_few, Verdicts.first_few, Legs.allowed_later, Stacks.some_deep, Walking.short_bytes, Entering.same_bytes, Moving.same_reads}
use Rattle.fb_strict.proofs.{Moving.still_allowed, Few.first_reads, Opening.place_twice, Opening.level_moves, Opening.level_ends, Opening.level_breaks, Opening.level_stops}
use Rattle.fb_strict.proofs.Opening.{level_opens}
use Rattle.std.proofs.Common.{◌⊎◌, inl, inr, append_assoc, mul-le-mul_left, mul-le-mul_right}
use Rattle.std.proofs.{Math.Nat.eq-or-lt_of_le, lemmas.List.length-map, lemmas.List.take-take, lemmas.List.drop-take, lemmas.List.get_or-take, lemmas.List.Sums.sum_by-cons}
use Rattle.std.proofs.Common.{◌≡◌, ℕ, zero, suc, ◌+◌, ◌-◌, ◌*◌, ◌^◌, ◌<◌, ◌≤◌, List, [], ◌∷◌, ◌++◌, length, take, drop, map, get_or, Some, None, Result, Ok, Err, refl, sym, ap, subst, ◌∙◌, arith, length-take, length-drop}

-- What is kept where only later frames and levels change.

take_more : {X : Type 0} (n m : ℕ) (xs ys : List X) → n ≤ m → take m xs ≡ take m ys → take n xs ≡ take n ys
take_more n m xs ys le h = sym (take-take n m xs le) ∙ ap (take n) h ∙ take-take n m ys le

get_same : {X : Type 0} (n i : ℕ) (d : X) (xs ys : List X) → i < n → take n xs ≡ take n ys → get_or xs i d ≡ get_or ys i d
get_same n i d xs ys lt h = sym (get_or-take n xs i d lt) ∙ ap (λ l. get_or l i d) h ∙ get_or-take n ys i d lt

-- the first of those behind others
take_behind : {X : Type 0} (a n m : ℕ) (xs ys : List X) → a + n ≤ m → take m xs ≡ take m ys → take n (drop a xs) ≡ take n (drop a ys)
take_behind a n m xs ys le h = sym (drop-take a n xs) ∙ ap (drop a) (take_more (a + n) m xs ys le h) ∙ drop-take a n ys

module _ (p : Passing) (b : List ℕ) (xs ys : List Frame) (long : length xs ≡ length ys) where
  linked_same : (n : ℕ) → take n xs ≡ take n ys → AreLinked (wants_of p) p.checks b p.rows xs n → AreLinked (wants_of p) p.checks b p.rows ys n
  linked_same n h l i lt = subst (IsLinked (wants_of p) p.checks b p.rows) (get_same n i blank xs ys lt h) (l i lt)

  left_same : (n : ℕ) (ds : List Demand) → take n xs ≡ take n ys → AreLeft p b xs n ds → AreLeft p b ys n ds
  unfolding AreLeft
  left_same zero ds h l = l
  left_same (suc n) ds h l =
      let less : take n xs ≡ take n ys = take_more n (suc n) xs ys (omega arith) h in
      let top : get_or xs n blank ≡ get_or ys n blank = get_same (suc n) n blank xs ys (omega arith) h in
      let own = subst (λ fr. IsLeft p b (length ys - n) (frame_links (wants_of p) b p.rows ys n) fr l.0) top
      (subst (λ links. IsLeft p b (length ys - n) links (get_or xs n blank) l.0) (ap (map (frame_link (wants_of p) b p.rows)) less)
      (subst (λ k. IsLeft p b (k - n) (frame_links (wants_of p) b p.rows xs n) (get_or xs n blank) l.0) long l.2)) in
      (l.0, l.1, own, left_same n l.1 less l.3, l.4, linked_same n less l.5)

module _ (w : Whole) (frames frames' : List Frame) (long : length frames ≡ length frames') (bound : ℕ) (same : take bound frames ≡ take bound frames') where
  longer : (level : Level) → length (drop level.above frames) ≡ length (drop level.above frames')
  longer level = let a = length-drop level.above frames in let b = length-drop level.above frames' in omega (arith, a, b, long)

  level_same : (level : Level) (ds : List Demand) → level.above + level.many ≤ bound → IsOpened w frames level ds → IsOpened w frames' level ds
  level_same level ds le h = record {
    within = h.within;
    room = omega (arith, h.room, long);
    higher = omega (arith, h.higher, long);
    stack = left_same (resting w) (bytes_of w level) (drop level.above frames) (drop level.above frames') (longer level) level.many ds (take_behind level.above level.many bound frames frames' le same) h.stack;
    few = h.few;
  }

  through_same : (level : Level) → level.above + level.many ≤ bound → way_through w frames level ≡ way_through w frames' level
  through_same level le = ap (map (frame_link (wants_of (resting w)) (bytes_of w level) (w.question).rows)) (take_behind level.above level.many bound frames frames' le same)

  is_through_same : (level : Level) → level.above + level.many ≤ bound → IsThrough w frames level → IsThrough w frames' level
  is_through_same level le h =
      linked_same (resting w) (bytes_of w level) (drop level.above frames) (drop level.above frames') (longer level) level.many (take_behind level.above level.many bound frames frames' le same) h

  module _ (levels levels' : List Level) where
    abbrev pub Kept : ℕ → Type 0
    Kept n = (k : ℕ) → k < n → get_or levels k no_level ≡ get_or levels' k no_level

    above_same : (n : ℕ) → Kept n → above_next levels n ≡ above_next levels' n
    unfolding above_next
    above_same zero h = refl
    above_same (suc n) h = ap (λ (l : Level). l.above + l.many) (h n (omega arith))

    below_same : (n : ℕ) → Kept n → above_next levels n ≤ bound → IsThroughBelow w frames levels n → IsThroughBelow w frames' levels' n
    unfolding above_next IsThroughBelow
    below_same zero h le t = t
    below_same (suc n) h le t = subst (IsThrough w frames') (h n (omega arith)) (is_through_same (get_or levels n no_level) le t)

    pub stack_same : (n : ℕ) (os : List Opened) → Kept n → above_next levels n ≤ bound → AreOpened w frames levels n os → AreOpened w frames' levels' n os × (way_to w frames levels n ≡ way_to w frames' levels' n)
    unfolding above_next AreOpened way_to
    stack_same zero os h le s = (s, refl)
    stack_same (suc n) os h le (ds, others, opened, above, rise, through, below, all) =
        let top : get_or levels n no_level ≡ get_or levels' n no_level = h n (omega arith) in
        let kept : (k : ℕ) → k < n → get_or levels k no_level ≡ get_or levels' k no_level = λ k lt. h k (omega (arith, lt)) in
        let less : above_next levels n ≤ bound = omega (arith, above, le) in
        let r = stack_same n others kept less below in
        let next = above_same n kept in
        let way = through_same (get_or levels n no_level) le ∙ ap (way_through w frames') top in
        let all' : os ≡ opened_as w (get_or levels' n no_level) (way_to w frames' levels' n) ds ∷ others = all ∙ (λ k. opened_as w (top k) (r.1 k) ds ∷ others) in (
          (ds, others, subst (λ l. IsOpened w frames' l ds) top (level_same (get_or levels n no_level) ds le opened), ap (λ (l : Level). l.above) (sym top) ∙ above ∙ next, subst (λ k. n ≤ k) next rise, below_same n kept less through, r.0, all'),
          λ k. r.1 k ++ way k,
        )

-- each level that is open is one that is passed through, where the innermost has its links
module _ (w : Whole) (frames : List Frame) (levels : List Level) where
  passed_by : (n k : ℕ) → (k ≡ n) ⊎ (k < n) → IsPassed w frames levels n → ((j : ℕ) → j < n → IsPassed w frames levels j) → IsPassed w frames levels k
  passed_by n k (inl e) own others = subst (IsPassed w frames levels) (sym e) own
  passed_by n k (inr lt) own others = others k lt

  pub passed_through : (n : ℕ) (os : List Opened) → AreOpened w frames levels n os → IsThroughBelow w frames levels n → (k : ℕ) → k < n → IsPassed w frames levels k
  unfolding AreOpened IsThroughBelow
  passed_through zero os s below k lt = absurd (omega (arith, lt))
  passed_through (suc n) os (ds, others, opened, above, rise, through, stack, all) below k lt =
      passed_by n k (eq-or-lt_of_le (omega (arith, lt))) (record { above = above; tables = record { within = opened.within; room = opened.room; linked = below } }) (passed_through n others stack through)

-- how the way to what a pass doesn't find goes on
pub rest_is : (w : Whole) (spent : Report) (frames : List Frame) (row : List Link) (level : Level) (ds : List Demand) (u : Unmet) → (s : Stopped w spent frames level ds u) → RestIs w frames row u.level u.rest u.fault s.links
rest_is w spent frames row level ds u s =
    subst (λ l. RestIs w frames row l u.rest u.fault s.links) (sym s.level_is) (subst (λ r. RestIs w frames row level r u.fault s.links) (sym s.rest) s.leads)

-- The innermost level of a verdict that is under way, and those around it.
pub record Top (w : Whole) (spent : Report) (frames : List Frame) (levels : List Level) (n : ℕ) : Type 0 where
  pub ds : List Demand
  pub others : List Opened
  pub opened : IsOpened w frames (get_or levels n no_level) ds
  pub above : (get_or levels n no_level).above ≡ above_next levels n
  pub rise : n ≤ above_next levels n
  pub below : IsThroughBelow w frames levels n
  pub stack : AreOpened w frames levels n others
  pub ends : (end : Result Report Refused) → LevelsComeTo (opened_as w (get_or levels n no_level) (way_to w frames levels n) ds ∷ others) w.plan w.question spent end → EndsWith w.plan w.question w.bytes end
  pub few : spent.reads + (demands_reads ds + left_reads others) ≤ 2 ^ 80 * spent.tables

pub first_left : (o : Opened) (os : List Opened) → left_reads (o ∷ os) ≡ demands_reads o.left + left_reads os
first_left o os = sum_by-cons (λ (o : Opened). demands_reads o.left) o os

module _ (w : Whole) (spent : Report) (frames : List Frame) (levels : List Level) where
  top_at : (n : ℕ) → IsUnderWay w spent frames levels (suc n) → Top w spent frames levels n
  unfolding AreOpened
  top_at n h =
      let s = h.stack in
      record {
        ds = s.0;
        others = s.1;
        opened = s.2;
        above = s.3;
        rise = s.4;
        below = s.5;
        stack = s.6;
        ends = λ end k. h.ends end (subst (λ os. LevelsComeTo os w.plan w.question spent end) (sym s.7) k);
        few = let e = ap left_reads s.7 in omega (arith, h.few, e, first_left (opened_as w (get_or levels n no_level) (way_to w frames levels n) s.0) s.1);
      }

  pub top_of : (m : ℕ) → 0 < m → IsUnderWay w spent frames levels m → Top w spent frames levels (m - 1)
  top_of m some h = let e : m ≡ suc (m - 1) = omega (arith, some) in top_at (m - 1) (subst (IsUnderWay w spent frames levels) e h)

-- A leg in it.
module _ (w : Whole) (spent spent1 : Report) (frames frames1 : List Frame) (levels : List Level) (n : ℕ) (t : Top w spent frames levels n) (level : Level) (level-is : level ≡ get_or levels n no_level)
    (long : length frames1 ≡ length frames) (kept : take level.above frames1 ≡ take level.above frames) (spent-is : spent1 ≡ record spent { reads = spent1.reads }) where
  below1 : AreOpened w frames1 levels n t.others × (way_to w frames levels n ≡ way_to w frames1 levels n)
  below1 =
      let a = ap (λ (l : Level). l.above) level-is in
      stack_same w frames frames1 (sym long) level.above (sym kept) levels levels n t.others (λ k lt. refl) (omega (arith, t.above, a)) t.stack

  abbrev o : Opened
  o = opened_as w level (way_to w frames levels n) t.ds

  ends_at : (end : Result Report Refused) → LevelsComeTo (o ∷ t.others) w.plan w.question spent end → EndsWith w.plan w.question w.bytes end
  ends_at end h = t.ends end (subst (λ l. LevelsComeTo (opened_as w l (way_to w frames levels n) t.ds ∷ t.others) w.plan w.question spent end) level-is h)

  -- ends
  pub leg_done : AreAllowed ((w.question).limits).reads spent.reads → spent.tables ≤ ((w.question).limits).tables → spent.depth ≤ 4096 → Finished w spent spent1 t.ds → IsUnderWay w spent1 frames1 levels n
  leg_done a many low f =
      let same : spent1 ≡ and_reads spent (demands_reads f.met) = spent-is ∙ ap (λ x. record spent { reads = x }) f.count in
      let reads = same_reads (w.question).limits f in
      let tables = ap (λ (r : Report). r.tables) spent-is in
      let depth = ap (λ (r : Report). r.depth) spent-is in
      record {
        opened = t.others;
        stack = below1.0;
        ends = λ end h. ends_at end (level_moves w.plan w.question o t.others spent f.met [] end f.all f.plain f.none
            (level_ends w.plan w.question (record o { left = [] }) t.others (and_reads spent (demands_reads f.met)) end refl (subst (λ s. LevelsComeTo t.others w.plan w.question s end) same h)));
        allowed = still_allowed (w.question).limits f a;
        many = omega (arith, tables, many);
        low = omega (arith, depth, low);
        few = omega (arith, reads, t.few, tables);
      }

  -- or comes to a buffer inside
  pub leg_inside : (past : Level) (i : Inner) → past ≡ record level { many = past.many } → spent.tables ≤ ((w.question).limits).tables → spent.depth ≤ 4096 → Reached w spent spent1 frames1 past t.ds i → IsAtInner w spent1 frames1 levels n past i
  leg_inside past i past-is many low r =
      let before = and_reads spent (demands_reads (r.moves).met) in
      let reads = same_reads (w.question).limits r.moves in
      let tables = ap (λ (x : Report). x.tables) spent-is in
      let depth = ap (λ (x : Report). x.depth) spent-is in
      let above = ap (λ (l : Level). l.above) past-is in
      let own = ap (λ (l : Level). l.above) level-is in
      let own-count : spent.reads + demands_reads (r.moves).met + (r.it).reads ≡ spent1.reads = omega (arith, (r.moves).count, r.count) in
      record {
        before = before;
        it = r.it;
        left = r.left;
        others = t.others;
        ends = λ end h.
            let one = subst (λ l. LevelsComeTo (opened_as w l (way_to w frames1 levels n) (r.it ∷ r.left) ∷ t.others) w.plan w.question before end) past-is h in
            let two = subst (λ way. LevelsComeTo (opened_as w level way (r.it ∷ r.left) ∷ t.others) w.plan w.question before end) (sym below1.1) one in
            ends_at end (level_moves w.plan w.question o t.others spent (r.moves).met (r.it ∷ r.left) end (r.moves).all (r.moves).plain (r.moves).none two);
        entered = record { met = record { chain = r.chain; allowed = subst (AreAllowed ((w.question).limits).reads) (sym own-count) r.allowed }; inner = r.inner };
        count = spent-is ∙ ap (λ x. record spent { reads = x }) (sym own-count);
        stands = r.stands;
        opened = r.opened;
        some = r.some;
        through = r.through;
        way = r.way;
        above = omega (arith, above, own, t.above);
        rise = t.rise;
        below = below_same w frames frames1 (sym long) level.above (sym kept) levels levels n (λ k lt. refl) (omega (arith, t.above, own)) t.below;
        stack = below1.0;
        many = omega (arith, tables, many);
        low = omega (arith, depth, low);
        few = omega (arith, reads, r.count, first_reads r.it r.left, t.few, tables);
      }

  -- or stops
  pub leg_stopped : (past : Level) → past ≡ record level { many = past.many } → (row : List Link) (u : Unmet) → Stopped w spent frames1 past t.ds u → EndsAlong w frames1 levels row (record { unmet = u; levels = n })
  leg_stopped past past-is row u s =
      let b = s.breaks in
      let m = b.moves in
      let e : Refused = record { fault = u.fault; links = (b.it).links } in
      let before = and_reads spent (demands_reads m.met) in
      let fails = subst (λ n. demand_fault b.it n ((b.it).chain ▷ reads_failure (w.question).limits n (b.it).reads (b.it).at) ≡ Some u.fault) m.count b.fails in
      let broken = level_breaks w.plan w.question (record o { left = b.it ∷ b.later }) t.others before b.it b.later u.fault refl fails in
      let end = level_moves w.plan w.question o t.others spent m.met (b.it ∷ b.later) (Err (in_whole o e)) m.all m.plain m.none broken in
      let own = ap (λ (l : Level). l.above) level-is in
      let fault : fault_of u ≡ (in_whole o e).fault = ap (λ (l : Level). record u.fault { at = place_in l.begin (u.fault).at }) (s.level_is ∙ past-is) in
      let below = below_same w frames frames1 (sym long) level.above (sym kept) levels levels n (λ k lt. refl) (omega (arith, t.above, own)) t.below in
      record {
        way = (in_whole o e).links;
        ends = subst (λ f. EndsWith w.plan w.question w.bytes (Err (record { fault = f; links = (in_whole o e).links }))) (sym fault) (ends_at (Err (in_whole o e)) end);
        told = λ enough. record {
          around = passed_through w frames1 levels n t.others below1.0 below;
          above = ap (λ (l : Level). l.above) (s.level_is ∙ past-is) ∙ own ∙ t.above;
          rise = t.rise;
          links = s.links;
          rest = rest_is w spent frames1 row past t.ds u s;
          way_is = λ k. below1.1 k ++ b.along k;
        };
      }

-- What a buffer inside costs.

pub some_size : (y : Tree) → 1 ≤ size y
unfolding size
some_size (node k t kids) = omega arith

-- no bounds, but those of the tree itself
abbrev by_itself : Question → Tree → Question
by_itself q y = record q { limits = record { depth = depth y; tables = size y; reads = None } }

pub cost_few : (q : Question) (b : List ℕ) (y : Tree) → IsWellFormed q b y → cost q b y ≤ 4 + size y * (4 + widest q.rows * (8 + length b))
unfolding most_reads
cost_few q b y h =
    let within : IsWithin (by_itself q y) b y = record { tables = omega arith; depth = omega arith; reads = tt } in
    cost_is_bounded (by_itself q y) b y (record { starts = h.starts; unfolds = h.unfolds }) within

pub pass_price : (p : Planned) (q : Question) (b : List ℕ) (y : Tree) → IsWellFormed q b y → demands_reads (asked_of p q b y) ≤ (3 + length b + widest q.rows * ((8 + length b) * (8 + length b))) * size y
pass_price p q b y h =
    first_few ((wants_in p).asks q.root) (record { links = []; object = q.root; field = None; at = length b; reads = 0; chain = where_asked (p.demands).unions (length_failure b); inner = None }) (demands_in y (wants_in p) q.checks b q.rows []) _ refl
    (tree_few (wants_in p) q.checks b q.rows (widest q.rows) (within_widest q.rows) y [] q.root (target b (base q.start)) h.unfolds)

both_few : (c d s wide len : ℕ) → wide < 2 ^ 32 → len < 2 ^ 31 → 1 ≤ s → c ≤ 4 + s * (4 + wide * (8 + len)) → d ≤ (3 + len + 32766 * ((8 + len) * (8 + len))) * s → c + d ≤ 2 ^ 80 * s
both_few c d s wide len w l some h k =
    let one : wide * (8 + len) ≤ 2 ^ 32 * (8 + len) = mul-le-mul_right (8 + len) (omega (arith, w)) in
    let two : s * (4 + wide * (8 + len)) ≤ s * (2 ^ 63 + 2 ^ 36) = mul-le-mul_left s (omega (arith, one, l)) in
    let near : (8 + len) * (8 + len) ≤ (2 ^ 31 + 8) * (8 + len) = mul-le-mul_right (8 + len) (omega (arith, l)) in
    let three : (3 + len + 32766 * ((8 + len) * (8 + len))) * s ≤ 2 ^ 79 * s = mul-le-mul_right s (omega (arith, near, l)) in
    omega (arith, two, three, some, h, k)

-- no table of rows that are served has more live fields
served_price : (p : Planned) (q : Question) (b : List ℕ) (y : Tree) → IsWellFormed q b y → IsServed q.rows → demands_reads (asked_of p q b y) ≤ (3 + length b + 32766 * ((8 + length b) * (8 + length b))) * size y
served_price p q b y h served =
    let d : Demand = record { links = []; object = q.root; field = None; at = length b; reads = 0; chain = where_asked (p.demands).unions (length_failure b); inner = None } in
    first_few ((wants_in p).asks q.root) d (demands_in y (wants_in p) q.checks b q.rows []) _ refl (tree_few (wants_in p) q.checks b q.rows 32766 served.few y [] q.root (target b (base q.start)) h.unfolds)

pub price_few : (p : Planned) (q : Question) (b : List ℕ) (y : Tree) → IsWellFormed q b y → IsServed q.rows → widest q.rows < 2 ^ 32 → length b < 2 ^ 31 → cost q b y + demands_reads (asked_of p q b y) ≤ 2 ^ 80 * size y
price_few p q b y h served w l = both_few (cost q b y) (demands_reads (asked_of p q b y)) (size y) (widest q.rows) (length b) w l (some_size y) (cost_few q b y h) (served_price p q b y h served)

-- A buffer inside is opened, of which it is known how many tables are open there and how much is spent.
opens_at : (p : Planned) (q : Question) (l : Opened) (ls : List Opened) (before s : Report) (d : Demand) (ds : List Demand) (i : Inner) (y : Tree) (a : ℕ) (end : Result Report Refused) → l.left ≡ d ∷ ds → IsEntered q.limits before d i → open_at l.above d ≡ a → s ≡ and_reads before d.reads
    → IsWalked q l.bytes i a s y
    → LevelsComeTo (record (opened_inside l d i (asked_of p (question_inside q i) (bytes_inside l.bytes i) y)) { above = a } ∷ record l { left = ds } ∷ ls) p q (and_walk s (question_inside q i) (bytes_inside l.bytes i) a y) end
    → LevelsComeTo (l ∷ ls) p q before end
opens_at p q l ls before s d ds i y a end all entered at spent walked h =
    let o = open_at l.above d in
    let r = and_reads before d.reads in
    let ask = asked_of p (question_inside q i) (bytes_inside l.bytes i) y in
    let w1 = subst (λ n. IsWalked q l.bytes i n s y) (sym at) walked in
    let w2 = subst (λ m. IsWalked q l.bytes i o m y) spent w1 in
    let h1 = subst (λ n. LevelsComeTo (record (opened_inside l d i ask) { above = n } ∷ record l { left = ds } ∷ ls) p q (and_walk s (question_inside q i) (bytes_inside l.bytes i) n y) end) (sym at) h in
    let h2 = subst (λ m. LevelsComeTo (opened_inside l d i ask ∷ record l { left = ds } ∷ ls) p q (and_walk m (question_inside q i) (bytes_inside l.bytes i) o y) end) spent h1 in
    level_opens p q l ls before d ds i y end all entered w2 h2

module _ (w : Whole) (asking : IsAsking w) (spent : Report) (frames : List Frame) (levels : List Level) (n : ℕ) (level : Level) (i : Inner) (t : IsAtInner w spent frames levels n level i) where
  abbrev way : List Link
  way = way_to w frames levels n

  abbrev here-left : Opened
  here-left = opened_as w level way (t.it ∷ t.left)

  abbrev above-it : ℕ
  above-it = level.above + level.many

  -- each open table has a link
  links_open : open_at level.above t.it ≡ above-it
  links_open =
      let l = ap length t.way in
      let m = length-map (take level.many (drop level.above frames)) (frame_link (wants_of (resting w)) (bytes_of w level) (w.question).rows) in
      let k = length-take level.many (drop level.above frames) in
      let d = length-drop level.above frames in
      omega (arith, l, m, k, d, (t.opened).room)

  module _ (y : Tree) (walked : IsWalkedIn w spent level i y) where
    abbrev ask : List Demand
    ask = asked_inside w level i y

    abbrev then-spent : Report
    then-spent = spent_inside w spent level i y

    abbrev inside-ask : Opened
    inside-ask = record (opened_inside here-left t.it i ask) { above = above-it }

    allowed_spent : AreAllowed ((w.question).limits).reads spent.reads
    allowed_spent = subst (AreAllowed ((w.question).limits).reads) (sym (ap (λ (r : Report). r.reads) t.count)) ((t.entered).met).allowed

    pub allowed_walked : AreAllowed ((w.question).limits).reads then-spent.reads
    allowed_walked = allowed_later (w.question).limits spent.reads allowed_spent (cost (question_inside w.question i) (inside_of w level i) y) (walked.within).reads

    ends_inside : (end : Result Report Refused) → LevelsComeTo (inside-ask ∷ record here-left { left = t.left } ∷ t.others) w.plan w.question then-spent end → EndsWith w.plan w.question w.bytes end
    ends_inside end h = t.ends end (opens_at w.plan w.question here-left t.others t.before spent t.it t.left i y above-it end refl t.entered links_open t.count walked h)

  -- Where its frames, and it itself, are put behind those around it.
  module _ (frames2 : List Frame) (long : length frames2 ≡ length frames) (kept : take above-it frames2 ≡ take above-it frames) (levels2 : List Level) (at-level : get_or levels2 n no_level ≡ level)
      (others-kept : (k : ℕ) → k < n → get_or levels k no_level ≡ get_or levels2 k no_level) where
    below2 : AreOpened w frames2 levels2 n t.others × (way ≡ way_to w frames2 levels2 n)
    below2 = stack_same w frames frames2 (sym long) above-it (sym kept) levels levels2 n t.others others-kept (omega (arith, t.above)) t.stack

    abbrev prev : Opened
    prev = opened_as w (get_or levels2 n no_level) (way_to w frames2 levels2 n) t.left

    one : AreOpened w frames2 levels2 (suc n) (prev ∷ t.others)
    unfolding AreOpened
    one =
        let next = above_same w frames frames2 (sym long) above-it (sym kept) levels levels2 n others-kept in
        let open2 = level_same w frames frames2 (sym long) above-it (sym kept) level t.left (omega arith) t.opened in (
          t.left,
          t.others,
          subst (λ l. IsOpened w frames2 l t.left) (sym at-level) open2,
          ap (λ (l : Level). l.above) at-level ∙ t.above ∙ next,
          subst (λ k. n ≤ k) next t.rise,
          below_same w frames frames2 (sym long) above-it (sym kept) levels levels2 n others-kept (omega (arith, t.above)) t.below,
          below2.0,
          refl,
        )

    through2 : way_through w frames2 (get_or levels2 n no_level) ≡ (t.it).links
    through2 = ap (way_through w frames2) at-level ∙ sym (through_same w frames frames2 (sym long) above-it (sym kept) level (omega arith)) ∙ sym t.way

    rise2 : suc n ≤ above_next levels2 (suc n)
    unfolding above_next
    rise2 = let next = ap (λ (l : Level). l.above + l.many) at-level in omega (arith, next, t.rise, t.above, t.some)

    above2 : above-it ≡ above_next levels2 (suc n)
    unfolding above_next
    above2 = ap (λ (l : Level). l.above + l.many) (sym at-level)

    own2 : IsThrough w frames2 (get_or levels2 n no_level)
    own2 = subst (IsThrough w frames2) (sym at-level) (is_through_same w frames frames2 (sym long) above-it (sym kept) level (omega arith) t.through)

    way2 : way ++ (t.it).links ≡ way_to w frames2 levels2 (suc n)
    unfolding way_to
    way2 = λ k. below2.1 k ++ sym through2 k

    around2 : (k : ℕ) → k < suc n → IsPassed w frames2 levels2 k
    unfolding IsThroughBelow
    around2 = passed_through w frames2 levels2 (suc n) (prev ∷ t.others) one own2

    -- the way into the buffer inside goes through it
    leads_inside : (row : List Link) (u : Unmet) (links all : List Link) (m : ℕ) → m ≡ suc n → (u.level).above ≡ above-it → RestIs w frames2 row u.level u.rest u.fault links → all ≡ (way ++ (t.it).links) ++ links → IsWayTo w frames2 levels2 row (record { unmet = u; levels = m }) all
    leads_inside row u links all m m-is above rest all-is = subst (λ m. IsWayTo w frames2 levels2 row (record { unmet = u; levels = m }) all) (sym m-is) (record {
      around = around2;
      above = above ∙ above2;
      rise = rise2;
      links = links;
      rest = rest;
      way_is = all-is ∙ ap (λ xs. xs ++ links) way2;
    })

    -- a demand isn't met before it is open
    inside_breaks : (row : List Link) (u : Unmet) → HasBroken w spent frames2 level i u → (m : ℕ) → m ≡ suc n → EndsAlong w frames2 levels2 row (record { unmet = u; levels = m })
    inside_breaks row u h m m-is =
        let y = h.tree in
        let s = h.stopped in
        let b = s.breaks in
        let v = b.moves in
        let ask2 = inside-ask y h.walked in
        let e : Refused = record { fault = u.fault; links = (b.it).links } in
        let before = and_reads (then-spent y h.walked) (demands_reads v.met) in
        let fails = subst (λ n. demand_fault b.it n ((b.it).chain ▷ reads_failure (w.question).limits n (b.it).reads (b.it).at) ≡ Some u.fault) v.count b.fails in
        let rest = record here-left { left = t.left } ∷ t.others in
        let broken = level_breaks w.plan w.question (record ask2 { left = b.it ∷ b.later }) rest before b.it b.later u.fault refl fails in
        let end = level_moves w.plan w.question ask2 rest (then-spent y h.walked) v.met (b.it ∷ b.later) (Err (in_whole ask2 e)) v.all v.plain v.none broken in
        let fault : fault_of u ≡ (in_whole ask2 e).fault = ap (λ (l : Level). record u.fault { at = place_in l.begin (u.fault).at }) s.level_is in
        record {
          way = (in_whole ask2 e).links;
          ends = subst (λ f. EndsWith w.plan w.question w.bytes (Err (record { fault = f; links = (in_whole ask2 e).links }))) (sym fault) (ends_inside y h.walked (Err (in_whole ask2 e)) end);
          told = λ enough. leads_inside row u s.links (in_whole ask2 e).links m m-is (ap (λ (l : Level). l.above) s.level_is) (rest_is w (then-spent y h.walked) frames2 row (level_inside level i) (ask y h.walked) u s) (ap (λ xs. (way ++ (t.it).links) ++ xs) b.along);
        }

    -- or its walk stops
    inside_stops : (row : List Link) (u : Unmet) → HasStopped w spent row level i u → (m : ℕ) → m ≡ suc n → EndsAlong w frames2 levels2 row (record { unmet = u; levels = m })
    inside_stops row u h m m-is =
        let own = (h.stops).own in
        let links = (h.stops).links in
        let s0 : StopsAlong (walk_inside w.question i above-it spent) (inside_of w level i) own links = subst (λ b. StopsAlong (walk_inside w.question i above-it spent) b own links) (same_bytes w level i t.stands) (h.stops).stops in
        let s1 = subst (λ k. StopsAlong (walk_inside w.question i k spent) (inside_of w level i) own links) (sym links_open) s0 in
        let s2 = subst (λ s. StopsAlong (walk_inside w.question i (open_at level.above t.it) s) (inside_of w level i) own links) t.count s1 in
        let end = t.ends _ (level_stops w.plan w.question here-left t.others t.before t.it t.left i own links refl t.entered s2) in
        let reads = ap (λ (r : Report). r.reads) t.count in
        let at = place_twice level.begin i.at own.at in
        let all = way ++ ((t.it).links ++ links) in
        let fault : fault_of u ≡ record own { at = place_in level.begin (place_in i.at own.at); reads = (t.before).reads + (t.it).reads + own.reads } =
        (λ k. record ((h.stops).fault k) { at = place_in (h.level_is k).begin ((h.stops).fault k).at }) ∙ (λ k. record own { at = at k; reads = reads k + own.reads }) in
        record {
          way = all;
          ends = subst (λ f. EndsWith w.plan w.question w.bytes (Err (record { fault = f; links = all }))) (sym fault) end;
          told = λ enough.
              let l = (h.stops).told enough in
              let one : RestIs w frames2 row (level_inside level i) (Walked h.many) u.fault links = l in
              let two = subst (λ r. RestIs w frames2 row (level_inside level i) r u.fault links) (sym h.rest) one in
              leads_inside row u links all m m-is (ap (λ (l : Level). l.above) h.level_is) (subst (λ l. RestIs w frames2 row l u.rest u.fault links) (sym h.level_is) two) (sym (append_assoc way (t.it).links links));
        }

    pub inside_ends : (row : List Link) (u : Unmet) → HasStopped w spent row level i u ⊎ HasBroken w spent frames2 level i u → (m : ℕ) → m ≡ suc n → EndsAlong w frames2 levels2 row (record { unmet = u; levels = m })
    inside_ends row u (inl h) m m-is = inside_stops row u h m m-is
    inside_ends row u (inr h) m m-is = inside_breaks row u h m m-is

    -- it is open then
    module _ (y : Tree) (walked : IsWalkedIn w spent level i y) (spent2 : Report) (inside : Level) (begun : IsBegun w (then-spent y walked) spent2 frames2 inside (ask y walked)) (same : spent2 ≡ record (then-spent y walked) { reads = spent2.reads })
        (begin-is : inside.begin ≡ level.begin + i.at) (bytes-is : bytes_of w inside ≡ inside_of w level i) (above-is : inside.above ≡ above-it) (at-inside : get_or levels2 (suc n) no_level ≡ inside) where
      abbrev then-it : Report
      then-it = then-spent y walked

      abbrev asked-it : Opened
      asked-it = inside-ask y walked

      abbrev top2 : Opened
      top2 = opened_as w (get_or levels2 (suc n) no_level) (way_to w frames2 levels2 (suc n)) begun.left

      same_top : top2 ≡ record asked-it { left = begun.left }
      unfolding way_to
      same_top =
          let above = ap (λ (l : Level). l.above) at-inside ∙ above-is in
          let bytes = ap (bytes_of w) at-inside ∙ bytes-is in
          let begin = ap (λ (l : Level). l.begin) at-inside ∙ begin-is in
          λ k. record { above = above k; bytes = bytes k; begin = begin k; via = sym below2.1 k ++ through2 k; left = begun.left }

      same_prev : prev ≡ record here-left { left = t.left }
      same_prev = λ k. opened_as w (at-level k) (sym below2.1 k) t.left

      two : AreOpened w frames2 levels2 (suc (suc n)) (top2 ∷ prev ∷ t.others)
      unfolding AreOpened above_next IsThroughBelow
      two =
          let next : level.above + level.many ≡ (get_or levels2 n no_level).above + (get_or levels2 n no_level).many = ap (λ (l : Level). l.above + l.many) (sym at-level) in (
            begun.left,
            prev ∷ t.others,
            subst (λ l. IsOpened w frames2 l begun.left) (sym at-inside) begun.opened,
            ap (λ (l : Level). l.above) at-inside ∙ above-is ∙ next,
            rise2,
            own2,
            one,
            refl,
          )

      short : length (inside_of w level i) < 2 ^ 31
      short = subst (λ (b : List ℕ). length b < 2 ^ 31) bytes-is (short_bytes w inside asking)

      pub inside_opens : (m : ℕ) → m ≡ suc (suc n) → IsUnderWay w spent2 frames2 levels2 m
      inside_opens m m-is =
          let f = begun.moves in
          let reads = same_reads (w.question).limits f in
          let tables = ap (λ (r : Report). r.tables) same in
          let depth = ap (λ (r : Report). r.depth) same in
          let count : spent2 ≡ and_reads then-it (demands_reads f.met) = same ∙ ap (λ x. record then-it { reads = x }) f.count in
          let price = price_few w.plan (question_inside w.question i) (inside_of w level i) y walked.well_formed asking.served asking.wide short in
          subst (IsUnderWay w spent2 frames2 levels2) (sym m-is) (record {
            opened = top2 ∷ prev ∷ t.others;
            stack = two;
            ends = λ end h.
                let h1 = subst (λ o. LevelsComeTo (o ∷ prev ∷ t.others) w.plan w.question spent2 end) same_top h in
                let h2 = subst (λ o. LevelsComeTo (record asked-it { left = begun.left } ∷ o ∷ t.others) w.plan w.question spent2 end) same_prev h1 in
                let h3 = subst (λ s. LevelsComeTo (record asked-it { left = begun.left } ∷ record here-left { left = t.left } ∷ t.others) w.plan w.question s end) count h2 in
                ends_inside y walked end (level_moves w.plan w.question asked-it (record here-left { left = t.left } ∷ t.others) then-it f.met begun.left end f.all f.plain f.none h3);
            allowed = still_allowed (w.question).limits f (allowed_walked y walked);
            many = omega (arith, tables, (walked.within).tables, t.many);
            low = omega (arith, depth, (walked.within).depth, t.low, some_deep y, asking.deep);
            few = omega (arith, reads, tables, t.few, price, first_left top2 (prev ∷ t.others), first_left prev t.others);
          })

      pub inside_falls : turns_left w spent2 (n + 2) < turns_left w spent (n + 1)
      inside_falls =
          let tables = ap (λ (r : Report). r.tables) same in
          omega (arith, tables, (walked.within).tables, t.many, some_size y)

-- Nothing is left.
pub all_done : (w : Whole) (spent : Report) (frames : List Frame) (levels : List Level) (m : ℕ) → m ≡ 0 → IsUnderWay w spent frames levels m → EndsWith w.plan w.question w.bytes (Ok spent)
unfolding AreOpened LevelsComeTo
all_done w spent frames levels m none h =
    let s : AreOpened w frames levels 0 h.opened = rw none at h.stack in
    h.ends (Ok spent) (subst (λ os. LevelsComeTo os w.plan w.question spent (Ok spent)) (sym s) refl)
