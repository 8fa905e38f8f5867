-- A whole buffer is asked, with those inside it.
use Rattle.std.proofs.Common.{◌≡◌, ℕ, ◌^◌, ◌<◌, ◌≤◌, List, [], ◌∷◌, length, get_or, set, inl, inr, Some, Result, Ok, Err, refl, sym, ap, subst, ◌∙◌, arith, get_or-set_same}
use Rattle.fb_rules.specs.{declared.fault.Report.Report, declared.link.Link.Link, declared.table.Child.Child, Order.◌▷◌, Stops.reads_failure, Bounds.AreAllowed, Tree.Tree}
use Rattle.fb_rules.specs.Unfolds.{Unfolds}
use Rattle.fb_strict.specs.{declared.room.Frame.Frame, declared.levels.Level.Level, declared.levels.Unmet.Unmet, Planned.wants_in, Asked.Demand, Asked.demand_fault}
use Rattle.fb_strict.specs.{Asked.demands_of, Asked.demands_reads, Passing.IsRooted, Passing.Moves, Passing.Breaks, Nested.Refused, Nested.Course, Nested.ComeTo, Nested.place_in}
use Rattle.fb_strict.specs.{Nested.and_reads, Nested.asked_of, Nested.EndsWith, Levels.Opened, Levels.Whole, Levels.IsAsking, Levels.IsWalkedWhole, Levels.resting, Levels.bytes_of}
use Rattle.fb_strict.specs.Levels.{asked_from, in_whole, LevelsComeTo, IsOpened, opened_as, no_level, way_to, above_next, IsThroughBelow, AreOpened, IsBegun, Stopped, IsUnderWay}
use Rattle.fb_strict.specs.Levels.{EndsAlong, fault_of}
use Rattle.fb_strict.proofs.{Verdicts.take_all, Verdicts.walk_few, Verdicts.pass_few, Turning.price_few, Turning.first_left, Turning.rest_is, Moving.same_reads}
use Rattle.fb_strict.proofs.{Moving.still_allowed, Stacks.some_deep, Opening.level_moves, Opening.level_breaks}

module _ (w : Whole) (asking : IsAsking w) (spent : Report) (root : Child) (y : Tree) (h : IsWalkedWhole w spent root y) (size : ℕ) (all : size ≡ length w.bytes) where
  abbrev pub whole-level : Level
  whole-level = record { begin = 0; size = size; above = 0; many = 0 }

  abbrev ask : List Demand
  ask = asked_of w.plan w.question w.bytes y

  whole_bytes : bytes_of w whole-level ≡ w.bytes
  whole_bytes = take_all w.bytes size all

  pub whole_rooted : (room : ℕ) → ((w.question).limits).depth ≤ room → IsRooted (resting w) (bytes_of w whole-level) room root y
  whole_rooted room enough =
      let own = (h.well_formed).unfolds in
      let at = subst (λ t. Unfolds y (w.question).checks w.bytes (w.question).rows (w.question).root t) (sym h.at) own in
      let object = subst (λ k. Unfolds y (w.question).checks w.bytes (w.question).rows k root.at) (sym h.object) at in
      record {
        unfolds = subst (λ b. Unfolds y (w.question).checks b (w.question).rows root.object root.at) (sym whole_bytes) object;
        object = rw h.object h.table;
        near = h.near;
        deep = omega (arith, enough, (h.within).depth);
      }

  whole_asked : asked_from w whole-level root y ≡ ask
  whole_asked = λ k. demands_of (wants_in w.plan) (w.question).checks (whole_bytes k) (w.question).rows (h.object k) y

  pub whole_few : (room : ℕ) → ((w.question).limits).depth ≤ room → demands_reads (asked_from w whole-level root y) ≤ 2 ^ 112
  whole_few room enough = pass_few (resting w) (bytes_of w whole-level) room root y (whole_rooted room enough) (omega (arith, (h.within).tables, asking.many)) asking.served (rw whole_bytes asking.short)

  pub whole_spent : spent.reads ≤ 2 ^ 112
  whole_spent =
      let few = walk_few w.question w.bytes y h.well_formed h.within asking.many asking.wide asking.short in
      let same = ap (λ (r : Report). r.reads) h.spent_is in
      omega (arith, few, same)

  pub whole_allowed : AreAllowed ((w.question).limits).reads spent.reads
  whole_allowed = subst (AreAllowed ((w.question).limits).reads) (sym (ap (λ (r : Report). r.reads) h.spent_is)) (h.within).reads

  abbrev o : Opened
  o = opened_as w whole-level [] ask

  same_no : (e : Refused) → in_whole o e ≡ e
  same_no e = let at : place_in 0 (e.fault).at ≡ (e.fault).at = omega arith in λ k. record { fault = record e.fault { at = at k }; links = e.links }

  comes_whole : (c : Course) (end : Result Report Refused) → ComeTo c w.plan w.question 0 (bytes_of w whole-level) spent ask end → EndsWith w.plan w.question w.bytes end
  comes_whole c end k =
      let one = subst (λ b. ComeTo c w.plan w.question 0 b spent ask end) whole_bytes k in
      record { found = y; well_formed = h.well_formed; within = h.within; course = c; comes = subst (λ s. ComeTo c w.plan w.question 0 w.bytes s ask end) h.spent_is one }

  -- the end of what is asked of it is that of the whole
  whole_ends : (end : Result Report Refused) → LevelsComeTo (o ∷ []) w.plan w.question spent end → EndsWith w.plan w.question w.bytes end
  unfolding LevelsComeTo
  whole_ends end (inl k) = subst (EndsWith w.plan w.question w.bytes) (sym (k.3 ∙ ap Err (same_no k.1))) (comes_whole k.0 (Err k.1) k.2)
  whole_ends end (inr k) = subst (EndsWith w.plan w.question w.bytes) (sym k.3) (comes_whole k.0 (Ok k.1) k.2)

  -- it stops before its root table is open
  pub whole_stops : (past : List Frame) (levels : List Level) (row : List Link) (u : Unmet) → Stopped w spent past whole-level (asked_from w whole-level root y) u → EndsAlong w past levels row (record { unmet = u; levels = 0 })
  unfolding above_next way_to
  whole_stops past levels row u s =
      let b = subst (λ ds. Breaks (w.question).limits spent.reads ds u.fault s.links) whole_asked s.breaks in
      let m = b.moves in
      let e : Refused = record { fault = u.fault; links = (b.it).links } in
      let before = and_reads spent (demands_reads m.met) in
      let fails = subst (λ n. demand_fault b.it n ((b.it).chain ▷ reads_failure (w.question).limits n (b.it).reads (b.it).at) ≡ Some u.fault) m.count b.fails in
      let broken = level_breaks w.plan w.question (record o { left = b.it ∷ b.later }) [] before b.it b.later u.fault refl fails in
      let end = level_moves w.plan w.question o [] spent m.met (b.it ∷ b.later) (Err (in_whole o e)) m.all m.plain m.none broken in
      let fault : fault_of u ≡ (in_whole o e).fault = ap (λ (l : Level). record u.fault { at = place_in l.begin (u.fault).at }) s.level_is in
      record {
        way = (b.it).links;
        ends = subst (λ f. EndsWith w.plan w.question w.bytes (Err (record { fault = f; links = (b.it).links }))) (sym fault) (whole_ends (Err (in_whole o e)) end);
        told = λ enough. record {
          around = λ k lt. absurd (omega (arith, lt));
          above = ap (λ (l : Level). l.above) s.level_is;
          rise = omega arith;
          links = s.links;
          rest = rest_is w spent past row whole-level (asked_from w whole-level root y) u s;
          way_is = b.along;
        };
      }

  -- or goes on
  module _ (then : Report) (frames : List Frame) (levels : List Level) (first : Level) (some : 0 < length levels) (first-is : first ≡ record whole-level { many = first.many }) (same : then ≡ record spent { reads = then.reads }) (begun : IsBegun w spent then frames first (asked_from w whole-level root y)) where
    at-first : get_or (set levels 0 first) 0 no_level ≡ first
    at-first = get_or-set_same levels 0 first no_level some

    abbrev top : Opened
    top = opened_as w (get_or (set levels 0 first) 0 no_level) [] begun.left

    first_stack : AreOpened w frames (set levels 0 first) 1 (top ∷ [])
    unfolding AreOpened above_next IsThroughBelow way_to
    first_stack = (begun.left, [], subst (λ l. IsOpened w frames l begun.left) (sym at-first) begun.opened, ap (λ (l : Level). l.above) (at-first ∙ first-is), omega arith, tt, refl, refl)

    same_top : top ≡ record o { left = begun.left }
    same_top = ap (λ l. opened_as w l [] begun.left) (at-first ∙ first-is)

    pub whole_opens : IsUnderWay w then frames (set levels 0 first) 1
    whole_opens =
        let f = subst (λ ds. Moves (w.question).limits spent.reads ds then.reads begun.left) whole_asked begun.moves in
        let reads = same_reads (w.question).limits f in
        let tables = ap (λ (r : Report). r.tables) same in
        let depth = ap (λ (r : Report). r.depth) same in
        let own-reads = ap (λ (r : Report). r.reads) h.spent_is in
        let own-tables = ap (λ (r : Report). r.tables) h.spent_is in
        let own-depth = ap (λ (r : Report). r.depth) h.spent_is in
        let count : then ≡ and_reads spent (demands_reads f.met) = same ∙ ap (λ x. record spent { reads = x }) f.count in
        let price = price_few w.plan w.question w.bytes y h.well_formed asking.served asking.wide asking.short in
        record {
          opened = top ∷ [];
          stack = first_stack;
          ends = λ end k.
              let k1 = subst (λ t. LevelsComeTo (t ∷ []) w.plan w.question then end) same_top k in
              let k2 = subst (λ s. LevelsComeTo (record o { left = begun.left } ∷ []) w.plan w.question s end) count k1 in
              whole_ends end (level_moves w.plan w.question o [] spent f.met begun.left end f.all f.plain f.none k2);
          allowed = still_allowed (w.question).limits f whole_allowed;
          many = omega (arith, tables, own-tables, (h.within).tables);
          low = omega (arith, depth, own-depth, (h.within).depth, asking.deep);
          few = omega (arith, reads, tables, price, own-reads, own-tables, first_left top []);
        }

-- there is a level for it
pub some_depth : (w : Whole) (spent : Report) (root : Child) (y : Tree) → IsWalkedWhole w spent root y → 0 < ((w.question).limits).depth
some_depth w spent root y h = omega (arith, (h.within).depth, some_deep y)
