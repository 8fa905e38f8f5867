-- How open buffers go on: what is left of them comes to no other end.
use Rattle.std.proofs.Common.{◌≡◌, ℕ, ◌+◌, List, [], ◌∷◌, ◌++◌, inl, inr, Some, None, Result, Ok, Err, refl, sym, ap, subst, ◌∙◌, append_assoc, arith}
use Rattle.fb_rules.specs.{declared.fault.Fault.Fault, declared.fault.Report.Report, declared.link.Link.Link, Question.Question, Tree.Tree, Stops.reads_failure, Links.StopsAlong}
use Rattle.fb_rules.specs.Order.{◌▷◌}
use Rattle.fb_strict.specs.{declared.inner.Inner.Inner, Planned.Planned, Asked.Demand, Asked.ArePlain, Asked.demand_fault, Asked.demands_reads, Asked.first_fault}
use Rattle.fb_strict.specs.Nested.{bytes_inside, open_at, asked_of, and_reads, and_walk, question_inside, walk_inside, IsEntered, IsWalked, Refused, place_in, outward, later}
use Rattle.fb_strict.specs.{Nested.Course, Nested.done, Nested.unmet, Nested.past, Nested.stops, Nested.into, Nested.through, Nested.ComeTo, Levels.Opened, Levels.in_whole}
use Rattle.fb_strict.specs.Levels.{opened_inside, LevelsComeTo}
use Rattle.fb_strict.proofs.{Asking.first_met, Few.first_reads}

-- so many reads, and then others
pub more_reads : (spent : Report) (a b n : ℕ) → a + b ≡ n → and_reads (and_reads spent a) b ≡ and_reads spent n
more_reads spent a b n h = let s : spent.reads + a + b ≡ spent.reads + n = omega (arith, h) in ap (λ x. record spent { reads = x }) s

module _ (p : Planned) (q : Question) (above : ℕ) (b : List ℕ) where
  -- demands that are met, none of which has a buffer inside, come before others
  pub met_first : (spent : Report) (met left : List Demand) (end : Result Report Refused) → ArePlain met → first_fault q.limits spent.reads met ≡ None
      → (c : Course) → ComeTo c p q above b (and_reads spent (demands_reads met)) left end → (e : Course) × ComeTo e p q above b spent (met ++ left) end
  unfolding first_fault ComeTo
  met_first spent [] left end plain none c h = let n : spent.reads + 0 ≡ spent.reads = omega arith in (c, subst (λ x. ComeTo c p q above b (record spent { reads = x }) left end) n h)
  met_first spent (d ∷ ds) left end plain none c h =
      let o = first_met q.limits spent.reads d (first_fault q.limits (spent.reads + d.reads) ds) d.chain none in
      let same = more_reads spent d.reads (demands_reads ds) (demands_reads (d ∷ ds)) (sym (first_reads d ds)) in
      let r = met_first (and_reads spent d.reads) ds left end plain.1 o.2 c (subst (λ x. ComeTo c p q above b x left end) (sym same) h) in
      (past r.0, (plain.0, record { chain = o.0; allowed = o.1 }, r.1))

-- a place in a buffer in another
pub place_twice : (a b x : ℕ) → place_in (a + b) x ≡ place_in a (place_in b x)
place_twice a b x = omega arith

module _ (p : Planned) (q : Question) where
  -- in the innermost some are met
  pub level_moves : (l : Opened) (ls : List Opened) (spent : Report) (met left : List Demand) (end : Result Report Refused) → l.left ≡ met ++ left → ArePlain met → first_fault q.limits spent.reads met ≡ None
      → LevelsComeTo (record l { left = left } ∷ ls) p q (and_reads spent (demands_reads met)) end → LevelsComeTo (l ∷ ls) p q spent end
  unfolding LevelsComeTo
  level_moves l ls spent met left end all plain none (inl h) = let r = met_first p q l.above l.bytes spent met left (Err h.1) plain none h.0 h.2 in inl (r.0, h.1, subst (λ ds. ComeTo r.0 p q l.above l.bytes spent ds (Err h.1)) (sym all) r.1, h.3)
  level_moves l ls spent met left end all plain none (inr h) = let r = met_first p q l.above l.bytes spent met left (Ok h.1) plain none h.0 h.2 in inr (r.0, h.1, subst (λ ds. ComeTo r.0 p q l.above l.bytes spent ds (Ok h.1)) (sym all) r.1, h.3)

  -- nothing is left of it
  pub level_ends : (l : Opened) (ls : List Opened) (spent : Report) (end : Result Report Refused) → l.left ≡ [] → LevelsComeTo ls p q spent end → LevelsComeTo (l ∷ ls) p q spent end
  unfolding LevelsComeTo ComeTo
  level_ends l ls spent end none h = inr (done, spent, rw none refl, h)

  -- its first isn't met
  pub level_breaks : (l : Opened) (ls : List Opened) (spent : Report) (d : Demand) (ds : List Demand) (f : Fault) → l.left ≡ d ∷ ds → demand_fault d spent.reads (d.chain ▷ reads_failure q.limits spent.reads d.reads d.at) ≡ Some f
      → LevelsComeTo (l ∷ ls) p q spent (Err (in_whole l (record { fault = f; links = d.links })))
  unfolding LevelsComeTo ComeTo
  level_breaks l ls spent d ds f all h = inl (unmet, record { fault = f; links = d.links }, rw all (f, h, refl), refl)

  -- the walk of the buffer inside it stops
  pub level_stops : (l : Opened) (ls : List Opened) (spent : Report) (d : Demand) (ds : List Demand) (i : Inner) (f : Fault) (links : List Link) → l.left ≡ d ∷ ds → IsEntered q.limits spent d i
      → StopsAlong (walk_inside q i (open_at l.above d) (and_reads spent d.reads)) (bytes_inside l.bytes i) f links
      → LevelsComeTo (l ∷ ls) p q spent (Err (in_whole l (outward d i (record { fault = later (spent.reads + d.reads) f; links = links }))))
  unfolding LevelsComeTo ComeTo
  level_stops l ls spent d ds i f links all entered h = inl (stops, outward d i (record { fault = later (spent.reads + d.reads) f; links = links }), rw all (i, entered, f, links, h, refl), refl)

  -- a no inside it is one of the whole
  same_whole : (l : Opened) (d : Demand) (i : Inner) (ds : List Demand) (e : Refused) → in_whole (opened_inside l d i ds) e ≡ in_whole l (outward d i e)
  same_whole l d i ds e =
      let at = place_twice l.begin i.at (e.fault).at in
      let links = append_assoc l.via d.links e.links in
      λ n. record { fault = record e.fault { at = at n }; links = links n }

  -- the buffer inside is opened
  pub level_opens : (l : Opened) (ls : List Opened) (spent : Report) (d : Demand) (ds : List Demand) (i : Inner) (y : Tree) (end : Result Report Refused) → l.left ≡ d ∷ ds → IsEntered q.limits spent d i → IsWalked q l.bytes i (open_at l.above d) (and_reads spent d.reads) y
      → LevelsComeTo (opened_inside l d i (asked_of p (question_inside q i) (bytes_inside l.bytes i) y) ∷ record l { left = ds } ∷ ls) p q (and_walk (and_reads spent d.reads) (question_inside q i) (bytes_inside l.bytes i) (open_at l.above d) y) end
      → LevelsComeTo (l ∷ ls) p q spent end
  unfolding LevelsComeTo ComeTo
  level_opens l ls spent d ds i y end all entered walked (inl h) =
      inl (into y h.0, outward d i h.1, rw all (i, entered, walked, h.1, h.2, refl), h.3 ∙ ap Err (same_whole l d i (asked_of p (question_inside q i) (bytes_inside l.bytes i) y) h.1))
  level_opens l ls spent d ds i y end all entered walked (inr (c, mid, h, inl k)) = inl (through y c k.0, k.1, rw all (i, entered, walked, mid, h, k.2), k.3)
  level_opens l ls spent d ds i y end all entered walked (inr (c, mid, h, inr k)) = inr (through y c k.0, k.1, rw all (i, entered, walked, mid, h, k.2), k.3)
