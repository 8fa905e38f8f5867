-- The turns of a walk, on the whole stack.
use Rattle.std.proofs.Common.{◌≡◌, ℕ, ◌+◌, max, ◌<◌, ◌≤◌, ◌⊎◌, inl, inr, List, [], ◌∷◌, ◌++◌, length, map, refl, sym, ◌∙◌, ap, subst, arith, Option, Some, None}
use Rattle.std.specs.{Prelude.slice_get, List.All}
use Rattle.std.proofs.lemmas.List.Elements.{All-nil, All-cons, All-head, All-tail}
use Rattle.fb_schema.specs.{Rows.Rows, Live.Live, Live.live_fields, Served.IsServed}
use Rattle.fb_rules.specs.{Bounds.Bounds, Bounds.AreAllowed, Places.target, Fields.Lead, Fields.to_table, Fields.entries, Tree.leaf, Tree.element_size, Tree.element_depth}
use Rattle.fb_rules.specs.{Unfolds.ElementUnfolds, Laws.IsLead, Way.Way, Way.way_to_table, Links.LeadsAlong, Told.told, Told.way_at}
use Rattle.fb_rules.specs.{Cost.head_reads, Cost.own_reads, Cost.lead_reads, Cost.element_cost, Order.Failure, Order.◌▷◌, Order.head_failure, Order.own_failure, Order.element_failure}
use Rattle.fb_rules.specs.Stops.{in_head, in_element, fault_of, budget_failure, reads_failure, lead_reads_failure, fault_at}
use Rattle.fb_rules.specs.{OffsetRows.words_of, OffsetRows.first_word, OffsetRows.past_first, OffsetRows.IsLeafLead, declared.checks.Checks.Checks, declared.fault.Fault.Fault}
use Rattle.fb_rules.specs.declared.{table.Table.Table, offset_row.Row.Row, site.Site.Site, link.Link.Link}
use Rattle.fb_verify.specs.{Walked.ended, Walked.TableWalked, Walked.IsInside, Walked.IsInField, Walked.Waits, Stack.opened as opened_frame, Stack.reached, Stack.Resting, Stack.Middle}
use Rattle.fb_verify.specs.{Stack.Goes, Stack.Context, Stack.Origin, Stack.Standing, Stack.frame_link, Stack.IsFrame, Stack.IsLinked, declared.scratch.Frame.Frame}
use Rattle.fb_rules.proofs.{Budgets.fewer_reads, Chains.head_none, Chains.own_none, Chains.element_none, Words.row_front, Words.row_none, Words.first_place}
use Rattle.fb_verify.proofs.Linked.{linked_by, is_linked}
use Rattle.fb_verify.proofs.Steps.{same_way, field_deep, opened, entered, passed_on, field_done, closed, stops_at_head, stops_at_element, stops_below}

-- The frames below the top.

module _ (c : Checks) (b : List ℕ) (S : Rows) where
  pub context_push : (xs : List Frame) (fr : Frame) (k t : ℕ) (w v : Way) (k' t' : ℕ) (u : Way) → Context c b S xs k t w (fr.table).object (fr.table).at v → Goes c b S fr v k' t' u → Context c b S (xs ++ fr ∷ []) k t w k' t' u
  context_push [] fr k t w v k' t' u h g = (sym h.0, sym h.1, k', t', u, subst (λ x. Goes c b S fr x k' t' u) (sym h.2) g, (refl, refl, refl))
  context_push (x ∷ xs) fr k t w v k' t' u h g = (h.0, h.1, h.2, h.3, h.4, h.5, context_push xs fr h.2 h.3 h.4 v k' t' u h.6 g)

  pub context_pop : (xs : List Frame) (fr : Frame) (k t k' t' : ℕ) (w u : Way) → Context c b S (xs ++ fr ∷ []) k t w k' t' u → (v : Way) × Context c b S xs k t w (fr.table).object (fr.table).at v × Goes c b S fr v k' t' u
  context_pop [] fr k t k' t' w u h =
      let e = h.6 in
      (w, (sym h.0, sym h.1, refl), subst (λ x. Goes c b S fr w k' t' x) e.2 (subst (λ x. Goes c b S fr w k' x h.4) e.1 (subst (λ x. Goes c b S fr w x h.3 h.4) e.0 h.5)))
  context_pop (x ∷ xs) fr k t k' t' w u h =
      let r = context_pop xs fr h.2 h.3 k' t' h.4 u h.6 in
      (r.0, (h.0, h.1, h.2, h.3, h.4, h.5, r.1), r.2)

  -- where a walk stops at the end of frames, their links lead there
  pub context_stop : (L : Bounds) (f : Fault) (links : List Link) (xs : List Frame) (k t k' t' : ℕ) (w v : Way) → Context c b S xs k t w k' t' v → LeadsAlong c b S L k' t' v f links → LeadsAlong c b S L k t w f (map (frame_link b S) xs ++ links)
  context_stop L f links [] k t k' t' w v h s = rw (h.0, h.1, h.2) s
  context_stop L f links (x ∷ xs) k t k' t' w v h s =
      let g = h.5 in
      let on = context_stop L f links xs h.2 h.3 k' t' h.4 v h.6 s in
      let r = stops_below c b S (x.table).object (x.table).at w L f x.next x.number (words_of b S x.row) h.2 h.3 h.4 g (map (frame_link b S) xs ++ links) on in
      let e = linked_by c b S x w g.v g.x g.in_field in
      let all : LeadsAlong c b S L (x.table).object (x.table).at w f (frame_link b S x ∷ map (frame_link b S) xs ++ links) = (r.0, r.1, r.2 ∙ ap (λ l. l ∷ map (frame_link b S) xs ++ links) e) in
      let leads = frame_link b S x ∷ map (frame_link b S) xs ++ links in
      subst (λ i. LeadsAlong c b S L k i w f leads) h.1 (subst (λ j. LeadsAlong c b S L j (x.table).at w f leads) h.0 all)

  -- each of them is left behind a word
  pub context_linked : IsServed S → (xs : List Frame) (k t k' t' : ℕ) (w v : Way) → Context c b S xs k t w k' t' v → All (IsFrame c b S) xs → All (IsLinked c b S) xs
  context_linked serves [] k t k' t' w v h frames = All-nil (IsLinked c b S)
  context_linked serves (x ∷ xs) k t k' t' w v h frames =
      let g = h.5 in
      All-cons (IsLinked c b S) x xs (is_linked c b S x w g.v g.x g.in_field serves (All-head (IsFrame c b S) x xs frames))
      (context_linked serves xs h.2 h.3 k' t' h.4 v h.6 (All-tail (IsFrame c b S) x xs frames))

  -- one more table is open in the table to which a frame leads
  goes_links : (fr : Frame) (w : Way) (k t : ℕ) (u : Way) → Goes c b S fr w k t u → u.links ≡ w.links + 1
  goes_links fr w k t u h = let f = h.in_field in grind (arith, h.after, f.after, (f.inside).after)

  -- the links of the way are the frames passed
  pub context_links : (xs : List Frame) (k t k' t' : ℕ) (w v : Way) → Context c b S xs k t w k' t' v → v.links ≡ w.links + length xs
  context_links [] k t k' t' w v h = omega (arith, ap (λ x. x.links) h.2)
  context_links (x ∷ xs) k t k' t' w v h =
      let e = goes_links x w h.2 h.3 h.4 h.5 in
      omega (arith, context_links xs h.2 h.3 k' t' h.4 v h.6)

-- a fault that is told at a site is the fault at a way to this site
pub told_is : (w : Way) (site : Site) (e : Option Failure) → site.object ≡ w.object → site.field ≡ w.field → told site w.paid e ≡ fault_of w e
told_is w site e o n = grind arith

module _ (c : Checks) (b : List ℕ) (S : Rows) where
  -- a uoffset that leads to no table unfolds to a leaf
  leaf_unfolds : (p : ℕ) (lead : Lead) → IsLeafLead lead → IsLead c b p lead → ElementUnfolds leaf c b S p lead
  unfolding ElementUnfolds
  leaf_unfolds p lead l h = grind arith

  -- nothing is left of the field, or something is
  pub at_rest : (fr : Frame) (w : Way) (n d r : ℕ) → (fr.row).left ≡ 0 → Resting c b S fr w n d r ⊎ Middle c b S fr w n d r → Resting c b S fr w n d r
  at_rest fr w n d r e (inl h) = h
  at_rest fr w n d r e (inr h) =
      let v = reached w (fr.table).object (Some fr.number) n d r in
      let m = rw (row_none b S fr.row e) at h in
      record { none = e; inside = field_done c b S (fr.table).object (fr.table).at w fr.next fr.number v m }

  pub in_middle : (fr : Frame) (w : Way) (n d r : ℕ) → 0 < (fr.row).left → Resting c b S fr w n d r ⊎ Middle c b S fr w n d r
      → IsInField c b S (fr.table).object (fr.table).at w fr.next fr.number (first_word b S fr.row ∷ words_of b S (past_first fr.row)) (reached w (fr.table).object (Some fr.number) n d r)
  in_middle fr w n d r l (inl h) = absurd (omega (arith, h.none))
  in_middle fr w n d r l (inr h) = rw (row_front b S fr.row l) at h

  -- the way to the table that a frame waits for
  pub goes_way : (fr : Frame) (w : Way) (k t : ℕ) (u : Way) (n d r : ℕ) → Goes c b S fr w k t u → record u { passed = n; deepest = d; paid = r; leading = 0 } ≡ reached w (fr.table).object (Some fr.number) n d r
  goes_way fr w k t u n d r h = let f = h.in_field in grind (arith, h.after, f.after, (f.inside).after, f.number_is)

  module _ (L : Bounds) (s : Origin) where
    -- a table that was opened
    pub fresh : (table : Table) (u : Way) (m n d r : ℕ) → u.links ≡ m → u.passed ≡ n → u.deepest ≡ d → u.paid ≡ r → head_failure c b table.at ≡ None
        → Resting c b S (opened_frame table) u (n + 1) (max d (m + 1)) (r + head_reads c)
    fresh table u m n d r ul un ud ur h =
        let i = opened c b S table.object table.at u ((head_none c b table.at).0 h) in
        record { none = refl; inside = subst (λ x. IsInside c b S table.object table.at u 0 x) (same_way _ _ refl (omega (arith, un)) (omega (arith, ul, ud)) (omega (arith, ur)) refl refl refl) i }

    -- the first table is opened
    pub begin : (table : Table) (d : ℕ) → (s.way).links ≡ 0 → (s.way).deepest ≡ d → table.object ≡ s.object → table.at ≡ s.position → head_failure c b table.at ≡ None
        → Standing c b S s [] (opened_frame table) ((s.way).passed + 1) (max d 1) ((s.way).paid + head_reads c)
    begin table d z e o p h = record { v = s.way; root = z; under = (sym o, sym p, refl); at = inl (fresh table s.way 0 (s.way).passed d (s.way).paid z refl e refl h) }

    -- it stops before the first table, or at its head
    pub stop_at_root : (t : ℕ) (site : Site) (n d r : ℕ) (f : Fault) → s.way ≡ way_at 0 n d r site → t ≡ s.position → n ≤ L.tables → d ≤ L.depth → AreAllowed L.reads r
        → (told site r (budget_failure L (way_at 0 n d r site) t) ▷ told (record { object = s.object; field = None }) r (head_failure c b t ▷ reads_failure L r (head_reads c) t)) ≡ Some f → LeadsAlong c b S L s.object s.position s.way f []
    unfolding fault_at
    stop_at_root t site n d r f e p a x y h =
        let u = way_at 0 n d r site in
        let i = told_is u site (budget_failure L u t) refl refl in
        let j = told_is (record u { object = s.object; field = None }) (record { object = s.object; field = None }) (head_failure c b t ▷ reads_failure L r (head_reads c) t) refl refl in
        let g : fault_at c b S L (in_head s.object t) u ≡ Some f = rw (i, j) at h in
        rw (p, sym e) at (stops_at_head c b S s.object t u L f (record { within = record { tables = a; depth = x; reads = fewer_reads L.reads _ r (omega arith) y }; first = g }))

    module _ (below : List Frame) (top : Frame) (n d r : ℕ) (h : Standing c b S s below top n d r) where
      abbrev here : Site
      here = record { object = (top.table).object; field = Some top.number }

      -- the way to a field of the top
      abbrev v' : Way
      v' = reached h.v (top.table).object (Some top.number) n d r

      pub links_is : (h.v).links ≡ length below
      links_is = omega (arith, context_links c b S below s.object s.position (top.table).object (top.table).at s.way h.v h.under, h.root)

      middle : 0 < (top.row).left → IsInField c b S (top.table).object (top.table).at h.v top.next top.number (first_word b S top.row ∷ words_of b S (past_first top.row)) v'
      middle l = in_middle top h.v n d r l h.at

      rests : (top.row).left ≡ 0 → Resting c b S top h.v n d r
      rests e = at_rest top h.v n d r e h.at

      -- where the top stops the walk does
      pub stop : (f : Fault) (links : List Link) → LeadsAlong c b S L (top.table).object (top.table).at h.v f links → LeadsAlong c b S L s.object s.position s.way f (map (frame_link b S) below ++ links)
      stop f links g = context_stop c b S L f links below s.object s.position (top.table).object (top.table).at s.way h.v h.under g

      -- the top, past the first word that is left
      abbrev pub past_word : Frame
      past_word = record top { row = past_first top.row }

      module _ (few : n ≤ L.tables) (shallow : d ≤ L.depth) (cheap : AreAllowed L.reads r) where
        pub stop_at_element : (f : Fault) → 0 < (top.row).left → told here r (element_failure c b (first_word b S top.row) ▷ lead_reads_failure L r (first_word b S top.row) (first_word b S top.row).lead) ≡ Some f
            → LeadsAlong c b S L s.object s.position s.way f (map (frame_link b S) below ++ frame_link b S past_word ∷ [])
        unfolding fault_at
        stop_at_element f l e =
            let x = first_word b S top.row in
            let g : fault_at c b S L (in_element x) v' ≡ Some f = sym (told_is v' here (element_failure c b x ▷ lead_reads_failure L r x x.lead) refl refl) ∙ e in
            let r = stops_at_element c b S (top.table).object (top.table).at h.v L f top.next top.number x (words_of b S (past_first top.row)) v' (middle l) (record { within = record { tables = few; depth = shallow; reads = fewer_reads L.reads _ r (omega arith) cheap }; first = g }) in
            stop f (frame_link b S past_word ∷ []) (r.0, r.1, r.2 ∙ ap (λ y. y ∷ []) (linked_by c b S past_word h.v v' x (middle l)))

      -- the first word that is left leads to a table, which is waited for
      pub waits_for : (k t : ℕ) → 0 < (top.row).left → element_failure c b (first_word b S top.row) ≡ None → (first_word b S top.row).lead ≡ to_table k → t ≡ target b (top.row).place
          → Waits c b S (top.table).object (top.table).at h.v top.next top.number (words_of b S (past_first top.row)) k t (way_to_table (first_word b S top.row) v')
      waits_for k t l o e p =
          record { x = first_word b S top.row; v = v'; in_field = middle l; leads = e; offset = rw e at ((element_none c b (first_word b S top.row)).0 o); place = rw (first_place b S top.row) p; after = refl }

      -- a uoffset that leads to no table is passed
      pub pass_leaf : (row : Row) (q : ℕ) → row ≡ past_first top.row → 0 < (top.row).left → element_failure c b (first_word b S top.row) ≡ None → IsLeafLead (first_word b S top.row).lead
          → q ≡ r + (first_word b S top.row).reads + lead_reads (first_word b S top.row).lead
          → Standing c b S s below (record top { row = row }) n d q
      unfolding element_size element_depth element_cost
      pass_leaf row q re l o k z =
          let x = first_word b S top.row in
          let u = reached h.v (top.table).object (Some top.number) n d q in
          let unfolds = leaf_unfolds x.place x.lead k ((element_none c b x).0 o) in
          let deep = field_deep c b S (top.table).object (top.table).at h.v top.next top.number _ v' (middle l) in
          let on = passed_on c b S (top.table).object (top.table).at h.v top.next top.number x (words_of b S (past_first top.row)) v' u leaf (middle l) unfolds (same_way _ _ refl (omega arith) (omega (arith, deep)) (omega (arith, z)) refl refl refl) in
          record { v = h.v; root = h.root; under = h.under; at = inr (rw re on) }

      -- a field is passed
      pub pass_more : (field : Live) (row : Row) (number q : ℕ) → (top.row).left ≡ 0 → slice_get (live_fields S (top.table).object) top.next ≡ Some field → number ≡ field.number
          → own_failure c b S (top.table).at field ≡ None → entries b S (top.table).at field ≡ words_of b S row → q ≡ r + own_reads b (top.table).at field
          → Standing c b S s below (record top { next = top.next + 1; number = number; row = row }) n d q
      pass_more field row number q l i ne o e z =
          let t = (top.table).at in
          let u = reached h.v (top.table).object None n d r in
          let enter = entered c b S (top.table).object t h.v top.next u field (rests l).inside i ((own_none c b S t field).0 o) in
          record { v = h.v; root = h.root; under = h.under; at = inr (rw (ne, z, sym e) enter) }

      -- the table of the top has no more fields
      pub close : (top.row).left ≡ 0 → length (live_fields S (top.table).object) ≤ top.next → TableWalked c b S (top.table).object (top.table).at h.v (ended h.v n d r)
      close l i = closed c b S (top.table).object (top.table).at h.v top.next (reached h.v (top.table).object None n d r) (ended h.v n d r) (rests l).inside i refl

      pub close_last : below ≡ [] → (top.row).left ≡ 0 → length (live_fields S (top.table).object) ≤ top.next → TableWalked c b S s.object s.position s.way (ended s.way n d r)
      close_last e l i =
          let x = subst (λ ys. Context c b S ys s.object s.position s.way (top.table).object (top.table).at h.v) e h.under in
          rw (x.0, x.1, x.2) (close l i)
