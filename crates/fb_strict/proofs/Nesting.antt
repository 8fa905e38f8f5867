-- Demands come to one end.
use Rattle.std.proofs.Common.{◌≡◌, ℕ, ◌+◌, List, [], ◌∷◌, inl, inr, Some, None, Result, Ok, Err, refl, sym, ap, subst, ◌∙◌}
use Rattle.fb_rules.specs.{declared.fault.Fault.Fault, declared.fault.Report.Report, declared.link.Link.Link, Bounds.Bounds, Question.Question, Tree.Tree, Places.target}
use Rattle.fb_rules.specs.{Stops.Stops, Stops.reads_failure, Links.StopsAlong, Order.◌▷◌}
use Rattle.fb_rules.proofs.{Overruns.one_tree, Overruns.stops_nowhere, OneFault.stops_once, OneFault.leads_one_way}
use Rattle.fb_strict.specs.{declared.inner.Inner.Inner, Planned.Planned, Asked.Demand, Asked.demand_fault, Nested.bytes_inside, Nested.open_at, Nested.asked_of, Nested.and_reads}
use Rattle.fb_strict.specs.Nested.{and_walk, question_inside, walk_inside, IsMet, IsWalked, Refused, outward, later, Course, done, unmet, past, stops, into, through, ComeTo}
use Rattle.fb_strict.specs.Nested.{ComeToOneEnd}
use Rattle.fb_strict.proofs.Asking.{told_allowed}

pub stops_of : (q : Question) (b : List ℕ) (f : Fault) (links : List Link) → StopsAlong q b f links → Stops q b f
stops_of q b f links (inl h) = inl h.0
stops_of q b f links (inr h) = inr (h.0, (h.1.0, h.1.1))

pub along : (q : Question) (b : List ℕ) (f : Fault) → Stops q b f → (links : List Link) × StopsAlong q b f links
along q b f (inl h) = ([], inl (h, refl))
along q b f (inr h) = (_, inr (h.0, (h.1.0, h.1.1, refl)))

-- a fault along links is one
one_stop : (q : Question) (b : List ℕ) (f g : Fault) (xs ys : List Link) → StopsAlong q b f xs → StopsAlong q b g ys → (f ≡ g) × (xs ≡ ys)
one_stop q b f g xs ys h i = (stops_once q b f g (stops_of q b f xs h) (stops_of q b g ys i), leads_one_way q b f g xs ys h i)

-- what is met has no fault
met_no_fault : (L : Bounds) (spent : Report) (d : Demand) (f : Fault) → IsMet L spent d → demand_fault d spent.reads (d.chain ▷ reads_failure L spent.reads d.reads d.at) ≡ Some f → ⊥
met_no_fault L spent d f m h =
    let ok = (told_allowed L.reads (spent.reads + d.reads)).1 m.allowed in
    let none : demand_fault d spent.reads (d.chain ▷ reads_failure L spent.reads d.reads d.at) ≡ None = rw m.chain (rw ok refl) in
    cc

-- it has one buffer inside, or none
one_inside : (d : Demand) (i j : Inner) → d.inner ≡ Some i → d.inner ≡ Some j → j ≡ i
one_inside d i j h k = cc

none_inside : {A : Type 0} (d : Demand) (i : Inner) → d.inner ≡ Some i → d.inner ≡ None → A
none_inside d i h k = absurd (cc)

-- which unfolds into one tree, and then no walk stops
one_walk : (q : Question) (b : List ℕ) (i : Inner) (above : ℕ) (spent : Report) (y z : Tree) → IsWalked q b i above spent y → IsWalked q b i above spent z → z ≡ y
one_walk q b i above spent y z h k = one_tree q.checks (bytes_inside b i) q.rows z y i.root (target (bytes_inside b i) 0) (k.well_formed).unfolds (h.well_formed).unfolds

pub no_stop : (q : Question) (b : List ℕ) (i : Inner) (above : ℕ) (spent : Report) (y : Tree) (f : Fault) (links : List Link) → IsWalked q b i above spent y → StopsAlong (walk_inside q i above spent) (bytes_inside b i) f links → ⊥
no_stop q b i above spent y f links h s =
    stops_nowhere (walk_inside q i above spent) (bytes_inside b i) y f (record { starts = (h.well_formed).starts; unfolds = (h.well_formed).unfolds }) h.within (stops_of (walk_inside q i above spent) (bytes_inside b i) f links s)

-- two walks that stop, stop once
both_stop : (q : Question) (above : ℕ) (b : List ℕ) (spent : Report) (d : Demand) (i j : Inner) (f g : Fault) (xs ys : List Link) → j ≡ i
    → StopsAlong (walk_inside q i above spent) (bytes_inside b i) f xs → StopsAlong (walk_inside q j above spent) (bytes_inside b j) g ys
    → outward d i (record { fault = later spent.reads f; links = xs }) ≡ outward d j (record { fault = later spent.reads g; links = ys })
both_stop q above b spent d i j f g xs ys e h k =
    let r = one_stop (walk_inside q i above spent) (bytes_inside b i) f g xs ys h (subst (λ j. StopsAlong (walk_inside q j above spent) (bytes_inside b j) g ys) e k) in
    λ n. outward d (sym e n) (record { fault = later spent.reads (r.0 n); links = r.1 n })

-- no walk of the same buffer stops, that has a tree
not_both : (q : Question) (above : ℕ) (b : List ℕ) (spent : Report) (i j : Inner) (f : Fault) (links : List Link) (y : Tree) → j ≡ i → StopsAlong (walk_inside q i above spent) (bytes_inside b i) f links → IsWalked q b j above spent y → ⊥
not_both q above b spent i j f links y e h k = no_stop q b i above spent y f links (subst (λ j. IsWalked q b j above spent y) e k) h

same_walk : (q : Question) (above : ℕ) (b : List ℕ) (spent : Report) (i j : Inner) (y z : Tree) → j ≡ i → IsWalked q b i above spent y → IsWalked q b j above spent z → z ≡ y
same_walk q above b spent i j y z e h k = one_walk q b i above spent y z h (subst (λ j. IsWalked q b j above spent z) e k)

module _ (p : Planned) where
  -- what the demands of the buffer inside come to
  abbrev pub ComesInside : Course → Question → (above : ℕ) → List ℕ → Report → Demand → Inner → Tree → Result Report Refused → Type 0
  ComesInside c q above b spent d i y end =
      ComeTo c p q (open_at above d) (bytes_inside b i) (and_walk (and_reads spent d.reads) (question_inside q i) (bytes_inside b i) (open_at above d) y) (asked_of p (question_inside q i) (bytes_inside b i) y) end

  -- the same inside the same buffer
  to_same : (c : Course) (q : Question) (above : ℕ) (b : List ℕ) (spent : Report) (d : Demand) (i j : Inner) (y z : Tree) (end : Result Report Refused) → j ≡ i → z ≡ y → ComesInside c q above b spent d j z end → ComesInside c q above b spent d i y end
  to_same c q above b spent d i j y z end e t h = subst (λ y. ComesInside c q above b spent d i y end) t (subst (λ j. ComesInside c q above b spent d j z end) e h)

  one_end : (c e : Course) (q : Question) (above : ℕ) (b : List ℕ) (spent : Report) (ds : List Demand) (x y : Result Report Refused) → ComeTo c p q above b spent ds x → ComeTo e p q above b spent ds y → x ≡ y
  unfolding ComeTo
  one_end done done q above b spent [] x y h k = h ∙ sym k
  one_end done unmet q above b spent [] x y h k = absurd k
  one_end done (past e) q above b spent [] x y h k = absurd k
  one_end done stops q above b spent [] x y h k = absurd k
  one_end done (into z e') q above b spent [] x y h k = absurd k
  one_end done (through z e' g) q above b spent [] x y h k = absurd k
  one_end done e q above b spent (d ∷ ds) x y h k = absurd h
  one_end unmet e q above b spent [] x y h k = absurd h
  one_end unmet done q above b spent (d ∷ ds) x y h k = absurd k
  one_end unmet unmet q above b spent (d ∷ ds) x y h k = let same : h.0 ≡ k.0 = cc in h.2 ∙ ap (λ f. Err (record { fault = f; links = d.links })) same ∙ sym k.2
  one_end unmet (past e) q above b spent (d ∷ ds) x y h k = absurd (met_no_fault q.limits spent d h.0 k.1 h.1)
  one_end unmet stops q above b spent (d ∷ ds) x y h k = absurd (met_no_fault q.limits spent d h.0 k.1.met h.1)
  one_end unmet (into z e') q above b spent (d ∷ ds) x y h k = absurd (met_no_fault q.limits spent d h.0 k.1.met h.1)
  one_end unmet (through z e' g) q above b spent (d ∷ ds) x y h k = absurd (met_no_fault q.limits spent d h.0 k.1.met h.1)
  one_end (past c) e q above b spent [] x y h k = absurd h
  one_end (past c) done q above b spent (d ∷ ds) x y h k = absurd k
  one_end (past c) unmet q above b spent (d ∷ ds) x y h k = absurd (met_no_fault q.limits spent d k.0 h.1 k.1)
  one_end (past c) (past e) q above b spent (d ∷ ds) x y h k = one_end c e q above b (and_reads spent d.reads) ds x y h.2 k.2
  one_end (past c) stops q above b spent (d ∷ ds) x y h k = none_inside d k.0 k.1.inner h.0
  one_end (past c) (into z e') q above b spent (d ∷ ds) x y h k = none_inside d k.0 k.1.inner h.0
  one_end (past c) (through z e' g) q above b spent (d ∷ ds) x y h k = none_inside d k.0 k.1.inner h.0
  one_end stops e q above b spent [] x y h k = absurd h
  one_end stops done q above b spent (d ∷ ds) x y h k = absurd k
  one_end stops unmet q above b spent (d ∷ ds) x y h k = absurd (met_no_fault q.limits spent d k.0 h.1.met k.1)
  one_end stops (past e) q above b spent (d ∷ ds) x y h k = none_inside d h.0 h.1.inner k.0
  one_end stops stops q above b spent (d ∷ ds) x y h k =
      let e = one_inside d h.0 k.0 h.1.inner k.1.inner in
      h.5 ∙ ap Err (both_stop q (open_at above d) b (and_reads spent d.reads) d h.0 k.0 h.2 k.2 h.3 k.3 e h.4 k.4) ∙ sym k.5
  one_end stops (into z e') q above b spent (d ∷ ds) x y h k =
      let e = one_inside d h.0 k.0 h.1.inner k.1.inner in
      absurd (not_both q (open_at above d) b (and_reads spent d.reads) h.0 k.0 h.2 h.3 z e h.4 k.2)
  one_end stops (through z e' g) q above b spent (d ∷ ds) x y h k =
      let e = one_inside d h.0 k.0 h.1.inner k.1.inner in
      absurd (not_both q (open_at above d) b (and_reads spent d.reads) h.0 k.0 h.2 h.3 z e h.4 k.2)
  one_end (into w c) e q above b spent [] x y h k = absurd h
  one_end (into w c) done q above b spent (d ∷ ds) x y h k = absurd k
  one_end (into w c) unmet q above b spent (d ∷ ds) x y h k = absurd (met_no_fault q.limits spent d k.0 h.1.met k.1)
  one_end (into w c) (past e) q above b spent (d ∷ ds) x y h k = none_inside d h.0 h.1.inner k.0
  one_end (into w c) stops q above b spent (d ∷ ds) x y h k =
      let e = one_inside d k.0 h.0 k.1.inner h.1.inner in
      absurd (not_both q (open_at above d) b (and_reads spent d.reads) k.0 h.0 k.2 k.3 w e k.4 h.2)
  one_end (into w c) (into z e') q above b spent (d ∷ ds) x y h k =
      let e = one_inside d h.0 k.0 h.1.inner k.1.inner in
      let t = same_walk q (open_at above d) b (and_reads spent d.reads) h.0 k.0 w z e h.2 k.2 in
      let r = one_end c e' q (open_at above d) (bytes_inside b h.0) (and_walk (and_reads spent d.reads) (question_inside q h.0) (bytes_inside b h.0) (open_at above d) w) (asked_of p (question_inside q h.0) (bytes_inside b h.0) w) (Err h.3) (Err k.3) h.4 (to_same e' q above b spent d h.0 k.0 w z (Err k.3) e t k.4) in
      let same : h.3 ≡ k.3 = cc in
      h.5 ∙ (λ n. Err (outward d (sym e n) (same n))) ∙ sym k.5
  one_end (into w c) (through z e' g) q above b spent (d ∷ ds) x y h k =
      let e = one_inside d h.0 k.0 h.1.inner k.1.inner in
      let t = same_walk q (open_at above d) b (and_reads spent d.reads) h.0 k.0 w z e h.2 k.2 in
      let r = one_end c e' q (open_at above d) (bytes_inside b h.0) (and_walk (and_reads spent d.reads) (question_inside q h.0) (bytes_inside b h.0) (open_at above d) w) (asked_of p (question_inside q h.0) (bytes_inside b h.0) w) (Err h.3) (Ok k.3) h.4 (to_same e' q above b spent d h.0 k.0 w z (Ok k.3) e t k.4) in
      absurd (cc)
  one_end (through w c f) e q above b spent [] x y h k = absurd h
  one_end (through w c f) done q above b spent (d ∷ ds) x y h k = absurd k
  one_end (through w c f) unmet q above b spent (d ∷ ds) x y h k = absurd (met_no_fault q.limits spent d k.0 h.1.met k.1)
  one_end (through w c f) (past e) q above b spent (d ∷ ds) x y h k = none_inside d h.0 h.1.inner k.0
  one_end (through w c f) stops q above b spent (d ∷ ds) x y h k =
      let e = one_inside d k.0 h.0 k.1.inner h.1.inner in
      absurd (not_both q (open_at above d) b (and_reads spent d.reads) k.0 h.0 k.2 k.3 w e k.4 h.2)
  one_end (through w c f) (into z e') q above b spent (d ∷ ds) x y h k =
      let e = one_inside d h.0 k.0 h.1.inner k.1.inner in
      let t = same_walk q (open_at above d) b (and_reads spent d.reads) h.0 k.0 w z e h.2 k.2 in
      let r = one_end c e' q (open_at above d) (bytes_inside b h.0) (and_walk (and_reads spent d.reads) (question_inside q h.0) (bytes_inside b h.0) (open_at above d) w) (asked_of p (question_inside q h.0) (bytes_inside b h.0) w) (Ok h.3) (Err k.3) h.4 (to_same e' q above b spent d h.0 k.0 w z (Err k.3) e t k.4) in
      absurd (cc)
  one_end (through w c f) (through z e' g) q above b spent (d ∷ ds) x y h k =
      let e = one_inside d h.0 k.0 h.1.inner k.1.inner in
      let t = same_walk q (open_at above d) b (and_reads spent d.reads) h.0 k.0 w z e h.2 k.2 in
      let r = one_end c e' q (open_at above d) (bytes_inside b h.0) (and_walk (and_reads spent d.reads) (question_inside q h.0) (bytes_inside b h.0) (open_at above d) w) (asked_of p (question_inside q h.0) (bytes_inside b h.0) w) (Ok h.3) (Ok k.3) h.4 (to_same e' q above b spent d h.0 k.0 w z (Ok k.3) e t k.4) in
      let same : k.3 ≡ h.3 = cc in
      one_end f g q above b h.3 ds x y h.5 (subst (λ m. ComeTo g p q above b m ds y) same k.5)

pub come_to_one_end : ComeToOneEnd
come_to_one_end p q above b spent ds c e x y h k = one_end p c e q above b spent ds x y h k
