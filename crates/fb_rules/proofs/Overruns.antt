-- A buffer has at most one tree for an object and a position, and where it has one, a trail stops only at a limit that
-- the tree is past.
use Rattle.std.proofs.Common.{◌≡◌, ℕ, ◌+◌, ◌≤◌, inl, inr, List, [], ◌∷◌, take, refl, ap, arith, Some}
use Rattle.std.specs.Prelude.{slice_get}
use Rattle.std.proofs.lemmas.Bool.Decides.{nat_tests}
use Rattle.fb_schema.specs.{Rows.Rows, Live.Live, Live.live_fields}
use Rattle.fb_rules.specs.declared.{checks.Checks.Checks, start.Start.Start, start.Ident.Ident, fault.Fault.Fault, fault.Reason.TheVariants.TooManyReads}
use Rattle.fb_rules.specs.{Bounds.Bounds, Bounds.AreAllowed, Bounds.AreTooMany, Places.target, Facts.IsTable, Facts.IsOffset, Laws.Overruns, Laws.StopsNowhereWithin}
use Rattle.fb_rules.specs.{Fields.IsField, Fields.Lead, Fields.to_table, Fields.Entry, Fields.entries, Tree.Tree, Tree.node, Tree.Kids, Tree.no_kids, Tree.kid, Tree.Elements}
use Rattle.fb_rules.specs.Tree.{no_elements, element, Element, leaf, table, size, kids_size, elements_size, element_size, depth, kids_depth, elements_depth, element_depth}
use Rattle.fb_rules.specs.{Tree.kids_length, Tree.elements_length, Unfolds.Unfolds, Unfolds.FieldsUnfold, Unfolds.ElementsUnfold, Unfolds.ElementUnfolds, Cost.head_reads}
use Rattle.fb_rules.specs.{Cost.own_reads, Cost.lead_reads, Cost.tree_cost, Cost.kids_cost, Cost.elements_cost, Cost.element_cost, WellFormed.base, WellFormed.start_reads}
use Rattle.fb_rules.specs.{WellFormed.IsStart, WellFormed.cost, Way.Way, Way.way_to_start, Way.way_to_root, Way.way_to_field, Way.way_to_element, Way.way_to_table, Stops.in_start}
use Rattle.fb_rules.specs.Stops.{in_head, in_field, in_element, fault_at, IsFalseAt, Trail, at_head, at_field, FieldTrail, at_own, at_element, ElementTrail, at_lead, through}
use Rattle.fb_rules.specs.Stops.{IsTrail, IsFieldTrail, IsElementTrail}
use Rattle.fb_rules.proofs.{Budgets.are_too_many, Budgets.not_both, Budgets.more_reads, Chains.start_none, Chains.head_none, Chains.own_none, Chains.element_passes}
use Rattle.fb_rules.proofs.Chains.{through_passes}

module _ (c : Checks) (b : List ℕ) (S : Rows) where
  mutual
    unfolding Unfolds FieldsUnfold ElementsUnfold ElementUnfolds

    pub one_tree : (y z : Tree) (k t : ℕ) → Unfolds y c b S k t → Unfolds z c b S k t → y ≡ z
    one_tree (node k1 t1 xs) (node k2 t2 ys) k t g h =
        let kids = one_kids xs ys t (live_fields S k) g.3 h.3 in
        grind arith

    pub one_kids : (xs ys : Kids) (t : ℕ) (fs : List Live) → FieldsUnfold xs c b S t fs → FieldsUnfold ys c b S t fs → xs ≡ ys
    one_kids no_kids no_kids t fs g h = refl
    one_kids (kid x xs) (kid y ys) t (f ∷ fs) g h =
        let elements = one_elements x y (entries b S t f) g.1 h.1 in
        let kids = one_kids xs ys t fs g.2 h.2 in
        cc
    one_kids xs ys t fs g h = absurd (grind arith)

    pub one_elements : (xs ys : Elements) (es : List Entry) → ElementsUnfold xs c b S es → ElementsUnfold ys c b S es → xs ≡ ys
    one_elements no_elements no_elements es g h = refl
    one_elements (element x xs) (element y ys) (e ∷ es) g h =
        let first = one_element x y e.place e.lead g.0 h.0 in
        let rest = one_elements xs ys es g.1 h.1 in
        cc
    one_elements xs ys es g h = absurd (grind arith)

    pub one_element : (x y : Element) (p : ℕ) (lead : Lead) → ElementUnfolds x c b S p lead → ElementUnfolds y c b S p lead → x ≡ y
    one_element leaf leaf p lead g h = refl
    one_element (table x) (table y) p (to_table k) g h = ap table (one_tree x y k (target b p) g.1 h.1)
    one_element x y p lead g h = absurd (grind arith)

  -- what the field under check has in the tree
  pub kids_at : (earlier kids : Kids) (t : ℕ) (fs : List Live) (g : Live) → FieldsUnfold kids c b S t fs → FieldsUnfold earlier c b S t (take (kids_length earlier) fs) → slice_get fs (kids_length earlier) ≡ Some g
      → (ys : Elements) × IsField c b S t g × ElementsUnfold ys c b S (entries b S t g) × (kids_size earlier + elements_size ys ≤ kids_size kids) × (elements_depth ys ≤ kids_depth kids)
      × (kids_cost earlier c b S t fs + (own_reads b t g + elements_cost ys c b S (entries b S t g)) ≤ kids_cost kids c b S t fs)
  unfolding FieldsUnfold kids_length kids_size kids_depth kids_cost
  kids_at no_kids (kid ys kids) t (f ∷ fs) g h e s =
      let same : g ≡ f = cc in
      rw same (ys, h.0, h.1, omega arith, omega arith, omega arith)
  kids_at (kid xs earlier) (kid ys kids) t (f ∷ fs) g h e s =
      let r = kids_at earlier kids t fs g h.2 e.2 s in
      rw (one_elements xs ys (entries b S t f) e.1 h.1) (r.0, r.1, r.2, omega (arith, r.3), omega (arith, r.4), omega (arith, r.5))
  kids_at earlier kids t fs g h e s = absurd (grind arith)

  -- what the element under check has in the tree
  pub elements_at : (before ys : Elements) (xs : List Entry) (x : Entry) → ElementsUnfold ys c b S xs → ElementsUnfold before c b S (take (elements_length before) xs) → slice_get xs (elements_length before) ≡ Some x
      → (y : Element) × ElementUnfolds y c b S x.place x.lead × (elements_size before + element_size y ≤ elements_size ys) × (element_depth y ≤ elements_depth ys)
      × (elements_cost before c b S xs + (x.reads + lead_reads x.lead + element_cost y c b S) ≤ elements_cost ys c b S xs)
  unfolding ElementsUnfold elements_length elements_size elements_depth elements_cost
  elements_at no_elements (element y ys) (z ∷ zs) x h e s =
      let same : x ≡ z = cc in
      rw same (y, h.0, omega arith, omega arith, omega arith)
  elements_at (element v before) (element y ys) (z ∷ zs) x h e s =
      let r = elements_at before ys zs x h.1 e.1 s in
      rw (one_element v y z.place z.lead e.0 h.0) (r.0, r.1, omega (arith, r.2), omega (arith, r.3), omega (arith, r.4))
  elements_at before ys xs x h e s = absurd (grind arith)

  -- an element that leads to a table is that table's tree
  pub table_at : (y : Element) (p k : ℕ) (lead : Lead) → lead ≡ to_table k → ElementUnfolds y c b S p lead
      → (z : Tree) × Unfolds z c b S k (target b p) × (element_size y ≡ size z) × (element_depth y ≡ depth z) × (element_cost y c b S ≡ tree_cost z c b S)
  unfolding ElementUnfolds element_size element_depth element_cost
  table_at (table z) p k (to_table j) e h = let same : j ≡ k = cc in (z, rw same at h.1, refl, refl, refl)
  table_at y p k lead e h = absurd (grind arith)

  -- what was passed costs the same, however many fields or elements follow

  pub kids_cost_take : (kids : Kids) (t : ℕ) (fs : List Live) → kids_cost kids c b S t (take (kids_length kids) fs) ≡ kids_cost kids c b S t fs
  unfolding kids_cost kids_length
  kids_cost_take no_kids t fs = refl
  kids_cost_take (kid ys kids) t [] = refl
  kids_cost_take (kid ys kids) t (f ∷ fs) = ap (λ n. own_reads b t f + elements_cost ys c b S (entries b S t f) + n) (kids_cost_take kids t fs)

  pub elements_cost_take : (ys : Elements) (xs : List Entry) → elements_cost ys c b S (take (elements_length ys) xs) ≡ elements_cost ys c b S xs
  unfolding elements_cost elements_length
  elements_cost_take no_elements xs = refl
  elements_cost_take (element y ys) [] = refl
  elements_cost_take (element y ys) (x ∷ xs) = ap (λ n. x.reads + lead_reads x.lead + element_cost y c b S + n) (elements_cost_take ys xs)

  module _ (L : Bounds) where
    -- what is past a limit is past it where there is more
    more_overruns : (w v : Way) (d m r e n q : ℕ) (f : Fault) → Overruns L w d m r f → w.links + d ≤ v.links + e → w.passed + m ≤ v.passed + n → w.paid + r ≤ v.paid + q → Overruns L v e n q f
    more_overruns w v d m r e n q f past deep many reads = grind (arith, more_reads)

    -- what stays within the limits isn't past them
    pub not_past : (w : Way) (d m r q : ℕ) (f : Fault) → Overruns L w d m r f → w.links + d ≤ L.depth → w.passed + m ≤ L.tables → w.paid + r ≤ q → AreAllowed L.reads q → ⊥
    not_past w d m r q f past deep many few reads = grind (arith, not_both)

    -- where a place passes its tests, its fault is a limit

    pub start_overruns : (start : Start) (ident : Ident) (w : Way) (f : Fault) → IsStart c b start ident → IsFalseAt c b S L (in_start start ident) w f → AreTooMany L.reads (w.paid + start_reads start ident)
    unfolding fault_at
    start_overruns start ident w f h i = grind (arith, nat_tests, are_too_many, start_none)

    pub head_overruns : (k t : ℕ) (w : Way) (f : Fault) → IsTable c b t → IsFalseAt c b S L (in_head k t) w f → Overruns L w 1 1 (head_reads c) f
    unfolding fault_at
    head_overruns k t w f h i = grind (arith, nat_tests, are_too_many, head_none)

    pub own_overruns : (t : ℕ) (g : Live) (w : Way) (f : Fault) → IsField c b S t g → IsFalseAt c b S L (in_field t g) w f → (f.reason ≡ TooManyReads) × AreTooMany L.reads (w.paid + own_reads b t g)
    unfolding fault_at
    own_overruns t g w f h i = grind (arith, nat_tests, are_too_many, own_none)

    lead_overruns : (y : Element) (x : Entry) (w : Way) (f : Fault) → ElementUnfolds y c b S x.place x.lead → IsFalseAt c b S L (in_element x) w f
        → (f.reason ≡ TooManyReads) × AreTooMany L.reads (w.paid + (x.reads + lead_reads x.lead))
    unfolding fault_at
    lead_overruns y x w f h i = let passes = element_passes c b S x y h in grind (arith, nat_tests, are_too_many)

    -- an element that leads to a table isn't asked by itself
    pub no_lead_fault : (x : Entry) (k : ℕ) (w : Way) (f : Fault) → x.lead ≡ to_table k → IsOffset c b x.place → IsFalseAt c b S L (in_element x) w f → ⊥
    unfolding fault_at
    no_lead_fault x k w f l o i = let passes = through_passes c b x k l o in grind arith

    mutual
      unfolding Unfolds IsTrail IsFieldTrail IsElementTrail depth size tree_cost

      pub overruns : (s : Trail) (y : Tree) (k t : ℕ) (w : Way) (f : Fault) → Unfolds y c b S k t → IsTrail s c b S L k t w f → Overruns L w (depth y) (size y) (tree_cost y c b S) f
      overruns at_head (node k' t' kids) k t w f h i = more_overruns w w 1 1 (head_reads c) _ _ _ f (head_overruns k t w f h.2 i) (omega arith) (omega arith) (omega arith)
      overruns (at_field earlier s) (node k' t' kids) k t w f h i =
          let r = kids_at earlier kids t (live_fields S k) i.0 h.3 i.1.passed i.1.next in
          let v = way_to_field c b S k t earlier i.0 w in
          let o = field_overruns s r.0 t i.0 v f r.1 r.2 i.2 in
          rw (h.0, h.1) (more_overruns v w _ _ _ _ _ _ f o (omega (arith, r.4)) (omega (arith, r.3)) (omega (arith, r.5)))

      pub field_overruns : (s : FieldTrail) (ys : Elements) (t : ℕ) (g : Live) (w : Way) (f : Fault) → IsField c b S t g → ElementsUnfold ys c b S (entries b S t g) → IsFieldTrail s c b S L t g w f
          → Overruns L w (elements_depth ys) (elements_size ys) (own_reads b t g + elements_cost ys c b S (entries b S t g)) f
      field_overruns at_own ys t g w f o h i =
          let r = own_overruns t g w f o i in
          inr (inr (r.0, more_reads L.reads (w.paid + own_reads b t g) _ (omega arith) r.1))
      field_overruns (at_element before s) ys t g w f o h i =
          let r = elements_at before ys (entries b S t g) i.0 h i.1.passed i.1.next in
          let v = way_to_element c b S t g before w in
          more_overruns v w _ _ _ _ _ _ f (element_overruns s r.0 i.0 v f r.1 i.2) (omega (arith, r.3)) (omega (arith, r.2)) (omega (arith, r.4))

      pub element_overruns : (s : ElementTrail) (y : Element) (x : Entry) (w : Way) (f : Fault) → ElementUnfolds y c b S x.place x.lead → IsElementTrail s c b S L x w f
          → Overruns L w (element_depth y) (element_size y) (x.reads + lead_reads x.lead + element_cost y c b S) f
      element_overruns at_lead y x w f h i =
          let r = lead_overruns y x w f h i in
          inr (inr (r.0, more_reads L.reads (w.paid + (x.reads + lead_reads x.lead)) _ (omega arith) r.1))
      element_overruns (through s) y x w f h i =
          let r = table_at y x.place i.0 x.lead i.1 h in
          let v = way_to_table x w in
          let one : lead_reads x.lead ≡ 1 = ap lead_reads i.1 in
          more_overruns v w _ _ _ _ _ _ f (overruns s r.0 i.0 (target b x.place) v f r.1 i.3) (omega (arith, r.3)) (omega (arith, r.2)) (omega (arith, r.4, one))

-- where a tree is well formed and within the limits, no fault is the first
pub stops_nowhere : StopsNowhereWithin
stops_nowhere q b y f h r (inl i) = not_both q.limits.reads _ (cost q b y) (omega arith) r.reads (start_overruns q.checks b q.rows q.limits q.start q.ident (way_to_start q.root) f h.starts i)
stops_nowhere q b y f h r (inr i) =
    let w = way_to_root q.root q.start q.ident in
    not_past q.checks b q.rows q.limits w _ _ _ _ f (overruns q.checks b q.rows q.limits i.1.0 y q.root (target b (base q.start)) w f h.unfolds i.1.1) (omega (arith, r.depth)) (omega (arith, r.tables)) (omega arith) r.reads
