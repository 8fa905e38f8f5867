-- What a tree, the way to a fault, and so a whole buffer cost at most: a fault comes soon after what was asked before it.
use Rattle.std.proofs.Common.{◌≡◌, ℕ, zero, suc, ◌+◌, ◌-◌, ◌*◌, ◌<◌, ◌≤◌, ◌⊎◌, List, [], ◌∷◌, length, take, refl, ap, arith, Option, Some, None, inl, inr, mul-le-mul_left, mul-le-mul_right, length-take}
use Rattle.std.specs.Prelude.{slice_get}
use Rattle.std.proofs.lemmas.{Option.slice_get_within, Bool.Decides.nat_tests}
use Rattle.fb_schema.specs.{declared.kinds.Kind.Kind, Rows.Rows, Live.Live, Live.live_fields, Live.widest}
use Rattle.fb_schema.proofs.LookLemmas.{within_widest}
use Rattle.fb_rules.specs.{declared.checks.Checks.Checks, declared.fault.Fault.Fault, declared.start.Start.Start, declared.start.Ident.Ident, Bounds.Bounds, Places.target}
use Rattle.fb_rules.specs.{Fields.IsPresent, Fields.IsField, Fields.Lead, Fields.to_table, Fields.Entry, Fields.row, Fields.union_row, Fields.entries_of, Fields.entries, Tree.Tree}
use Rattle.fb_rules.specs.Tree.{node, Kids, no_kids, kid, Elements, no_elements, element, Element, leaf, table, size, kids_size, elements_size, element_size, kids_length}
use Rattle.fb_rules.specs.{Tree.elements_length, Unfolds.Unfolds, Unfolds.FieldsUnfold, Unfolds.ElementsUnfold, Unfolds.ElementUnfolds, Cost.present_reads, Cost.own_reads}
use Rattle.fb_rules.specs.{Cost.lead_reads, Cost.tree_cost, Cost.kids_cost, Cost.elements_cost, Cost.element_cost, MostReads.within_budget, MostReads.most_reads}
use Rattle.fb_rules.specs.{Laws.CostIsBounded, Laws.ReadsAreBounded, WellFormed.base, WellFormed.start_reads, WellFormed.cost, Order.Failure, Order.prefix_failure}
use Rattle.fb_rules.specs.Order.{ident_failure, offset_failure, start_failure, head_failure, string_failure, vector_failure, inline_failure, table_failure, present_failure}
use Rattle.fb_rules.specs.{Order.own_failure, Order.element_failure, Way.Way, Way.way_to_start, Way.way_to_root, Way.way_to_field, Way.way_to_element, Way.way_to_table}
use Rattle.fb_rules.specs.Stops.{in_start, in_head, in_field, in_element, fault_at, IsFalseAt, Trail, at_head, at_field, FieldTrail, at_own, at_element, ElementTrail, at_lead}
use Rattle.fb_rules.specs.Stops.{through, IsTrail, IsFieldTrail, IsElementTrail}
use Rattle.fb_rules.proofs.{Budgets.no_reads, Budgets.near, Overruns.kids_cost_take, Overruns.elements_cost_take, Words.row_length, Words.union_row_length, Few.lead_few}
use Rattle.fb_rules.proofs.Few.{if_present_few, own_few, head_few, slot_few}

-- no failure of the chain comes after more reads
abbrev AtMost : ℕ → Option Failure → Type 0
AtMost n None = Unit {0}
AtMost n (Some e) = e.reads ≤ n

module _ (c : Checks) (b : List ℕ) where
  offset_most : (p : ℕ) → AtMost 1 (offset_failure c b p)
  unfolding offset_failure
  offset_most p = grind (arith, nat_tests)

  string_most : (s : ℕ) → AtMost 2 (string_failure c b s)
  unfolding string_failure
  string_most s = grind (arith, nat_tests)

  vector_most : (v size align : ℕ) → AtMost 1 (vector_failure c b v size align)
  unfolding vector_failure
  vector_most v size align = grind (arith, nat_tests)

  inline_most : (p size align : ℕ) → AtMost 0 (inline_failure c b p size align)
  unfolding inline_failure
  inline_most p size align = grind (arith, nat_tests)

  table_most : (t p n : ℕ) → AtMost 0 (table_failure c b t p n)
  unfolding table_failure
  table_most t p n = grind (arith, nat_tests)

  present_most : (S : Rows) (t : ℕ) (f : Live) (p : ℕ) (kind : Kind) → AtMost 5 (present_failure c b S t f p kind)
  present_most S t f p kind = grind (arith, nat_tests, if_present_few, offset_most, vector_most, inline_most, table_most)

  -- the reads of a fault
  module _ (S : Rows) (L : Bounds) (w : Way) (f : Fault) where
    start_told : (start : Start) (ident : Ident) → IsFalseAt c b S L (in_start start ident) w f → f.reads ≤ w.paid + start_reads start ident
    unfolding fault_at start_failure prefix_failure ident_failure
    start_told start ident h = grind (arith, nat_tests, offset_most)

    -- it comes before any read of a head, or after one more table was allowed
    head_told : (k t : ℕ) → IsFalseAt c b S L (in_head k t) w f → (f.reads ≤ w.paid) ⊎ ((w.passed < L.tables) × (f.reads ≤ w.paid + 3))
    unfolding fault_at head_failure
    head_told k t h = grind (arith, nat_tests, head_few)

    own_told : (t : ℕ) (g : Live) → IsFalseAt c b S L (in_field t g) w f → f.reads ≤ w.paid + 6
    unfolding fault_at own_failure
    own_told t g h = grind (arith, nat_tests, slot_few, present_most, own_few)

    element_told : (x : Entry) → IsFalseAt c b S L (in_element x) w f → f.reads ≤ w.paid + (x.reads + lead_reads x.lead)
    unfolding fault_at element_failure
    element_told x h = grind (arith, offset_most, string_most, inline_most)

-- the start
start_price : (start : Start) (ident : Ident) → start_reads start ident ≤ 3
start_price start ident = grind arith

-- the reads of a field with all its elements, but for the tables below

unfoldable row_reads : List Entry → ℕ
row_reads [] = 0
row_reads (x ∷ xs) = x.reads + lead_reads x.lead + row_reads xs

-- at most one read told each lead
unfoldable AreShort : List Entry → Type 0
AreShort [] = Unit {0}
AreShort (x ∷ xs) = (x.reads ≤ 1) × AreShort xs

short_row : (lead : Lead) (p n : ℕ) → AreShort (row lead p n)
unfolding row AreShort
short_row lead p zero = tt
short_row lead p (suc n) = (omega arith, short_row lead (p + 4) n)

short_union_row : (b : List ℕ) (S : Rows) (e q p n : ℕ) → AreShort (union_row b S e q p n)
unfolding union_row AreShort
short_union_row b S e q p zero = tt
short_union_row b S e q p (suc n) = (omega arith, short_union_row b S e (q + 1) (p + 4) n)

few_of_short : (xs : List Entry) → AreShort xs → row_reads xs ≤ 4 * length xs
unfolding row_reads AreShort
few_of_short [] a = omega arith
few_of_short (x ∷ xs) a = omega (arith, lead_few x.lead, few_of_short xs a.1)

-- those before an element, and its own
reads_before : (xs : List Entry) (n : ℕ) (x : Entry) → AreShort xs → slice_get xs n ≡ Some x → (row_reads (take n xs) + (x.reads + lead_reads x.lead) ≤ row_reads xs) × (x.reads ≤ 1)
unfolding row_reads AreShort
reads_before [] n x a h = absurd (cc)
reads_before (y ∷ xs) zero x a h = let e : y ≡ x = cc in rw (← e) (omega arith, a.0)
reads_before (y ∷ xs) (suc n) x a h = let r = reads_before xs n x a.1 h in (omega (arith, r.0), r.1)

module _ (c : Checks) (b : List ℕ) (S : Rows) where
  short_entries : (t : ℕ) (f : Live) → AreShort (entries b S t f)
  unfolding entries AreShort
  short_entries t f = grind (arith, short_row, short_union_row)

  present_price : (t : ℕ) (f : Live) (p : ℕ) (kind : Kind) → IsPresent c b S t f p kind → present_reads b t f.slot kind + 4 * length (entries_of b S t f p kind) ≤ 6 + length b
  present_price t f p kind h = grind (arith, if_present_few, row_length, union_row_length)

  field_price : (t : ℕ) (f : Live) → IsField c b S t f → own_reads b t f + row_reads (entries b S t f) ≤ 7 + length b
  unfolding own_reads entries IsField
  field_price t f h = let few = few_of_short (entries b S t f) (short_entries t f) in grind (arith, slot_few, present_price)

  -- a table costs that much at most
  most : ℕ
  most = 3 + widest S * (7 + length b)

  all : (k : ℕ) → 3 + length (live_fields S k) * (7 + length b) ≤ most
  unfolding most
  all k = grind (arith, within_widest)

  mutual
    unfolding Unfolds FieldsUnfold ElementsUnfold ElementUnfolds tree_cost kids_cost elements_cost element_cost size kids_size elements_size element_size kids_length elements_length row_reads

    tree_price : (y : Tree) (k t : ℕ) → Unfolds y c b S k t → tree_cost y c b S ≤ most * size y
    tree_price (node k' t' kids) k t h =
        let r = kids_price kids t (live_fields S k) h.3 in rw (h.0, h.1) (omega (arith, r, all k, head_few c))

    kids_price : (kids : Kids) (t : ℕ) (fs : List Live) → FieldsUnfold kids c b S t fs → kids_cost kids c b S t fs ≤ length fs * (7 + length b) + most * kids_size kids
    kids_price no_kids t fs h = omega arith
    kids_price (kid ys kids) t [] h = absurd h
    kids_price (kid ys kids) t (f ∷ fs) h = omega (arith, elements_price ys (entries b S t f) h.1, kids_price kids t fs h.2, field_price t f h.0)

    elements_price : (ys : Elements) (xs : List Entry) → ElementsUnfold ys c b S xs → elements_cost ys c b S xs ≤ row_reads xs + most * elements_size ys
    elements_price no_elements xs h = omega arith
    elements_price (element y ys) [] h = absurd h
    elements_price (element y ys) (x ∷ xs) h = omega (arith, element_price y x.place x.lead h.0, elements_price ys xs h.1)

    element_price : (y : Element) (p : ℕ) (lead : Lead) → ElementUnfolds y c b S p lead → element_cost y c b S ≤ most * element_size y
    element_price leaf p lead h = omega arith
    element_price (table y) p (to_table k) h = tree_price y k (target b p) h.1
    element_price y p lead h = absurd h

  module _ (L : Bounds) where
    mutual
      unfolding IsTrail IsFieldTrail IsElementTrail

      trail_price : (s : Trail) (k t : ℕ) (w : Way) (f : Fault) → w.leading ≤ 2 → IsTrail s c b S L k t w f → (f.reads + most * w.passed ≤ w.paid + most * L.tables) × (f.reads ≤ within_budget L.reads f.reads)
      trail_price at_head k t w f l h =
          elim (head_told c b S L w f k t h) [
            | inl p ↦ (omega (arith, p, mul-le-mul_left most h.within.tables), near L.reads (w.paid - w.leading) f.reads (omega (arith, l, p)) h.within.reads)
            | inr p ↦
                let more : w.passed + 1 ≤ L.tables = omega (arith, p.0) in
                (omega (arith, p.1, mul-le-mul_left most more, all k), near L.reads (w.paid - w.leading) f.reads (omega (arith, l, p.1)) h.within.reads)
          ]
      trail_price (at_field earlier s) k t w f l h =
          let fs = live_fields S k in
          let n = kids_length earlier in
          let r = field_trail_price s t h.0 (way_to_field c b S k t earlier h.0 w) f refl h.2 in
          let p = kids_price earlier t (take n fs) h.1.passed in
          let fields = mul-le-mul_right (7 + length b) (slice_get_within fs n h.0 h.1.next) in
          let before : length (take n fs) * (7 + length b) ≤ n * (7 + length b) = mul-le-mul_right (7 + length b) (omega (arith, length-take n fs)) in
          (omega (arith, r.0, p, kids_cost_take c b S earlier t fs, before, fields, all k, head_few c), r.1)

      field_trail_price : (s : FieldTrail) (t : ℕ) (g : Live) (w : Way) (f : Fault) → w.leading ≡ 0 → IsFieldTrail s c b S L t g w f
          → (f.reads + most * w.passed ≤ w.paid + (7 + length b) + most * L.tables) × (f.reads ≤ within_budget L.reads f.reads)
      field_trail_price at_own t g w f l h =
          let r = own_told c b S L w f t g h in
          (omega (arith, r, mul-le-mul_left most h.within.tables), near L.reads (w.paid - w.leading) f.reads (omega (arith, l, r)) h.within.reads)
      field_trail_price (at_element before s) t g w f l h =
          let xs = entries b S t g in
          let n = reads_before xs (elements_length before) h.0 (short_entries t g) h.1.next in
          let r = element_trail_price s h.0 (way_to_element c b S t g before w) f refl n.1 h.2 in
          let p = elements_price before (take (elements_length before) xs) h.1.passed in
          (omega (arith, r.0, p, elements_cost_take c b S before xs, n.0, field_price t g h.1.own), r.1)

      element_trail_price : (s : ElementTrail) (x : Entry) (w : Way) (f : Fault) → w.leading ≡ 0 → x.reads ≤ 1 → IsElementTrail s c b S L x w f
          → (f.reads + most * w.passed ≤ w.paid + (x.reads + lead_reads x.lead) + most * L.tables) × (f.reads ≤ within_budget L.reads f.reads)
      element_trail_price at_lead x w f l few h =
          let r = element_told c b S L w f x h in
          (omega (arith, r, mul-le-mul_left most h.within.tables), near L.reads (w.paid - w.leading) f.reads (omega (arith, l, few, lead_few x.lead, r)) h.within.reads)
      element_trail_price (through s) x w f l few h =
          let r = trail_price s h.0 (target b x.place) (way_to_table x w) f (omega (arith, few)) h.3 in
          let one : lead_reads x.lead ≡ 1 = ap lead_reads h.1 in
          (omega (arith, r.0, one), r.1)

    below_bound : 3 + most * L.tables ≤ 4 + L.tables * (4 + widest S * (8 + length b))
    unfolding most
    below_bound = omega arith

-- what is near the budget and within a bound is at most their lesser
lesser : (budget : Option ℕ) (n m : ℕ) → n ≤ m → n ≤ within_budget budget n → n ≤ within_budget budget m
lesser budget n m h i = grind arith

pub cost_is_bounded : CostIsBounded
unfolding most_reads
cost_is_bounded q b y h r =
    let p = tree_price q.checks b q.rows y q.root (target b (base q.start)) h.unfolds in
    let few = mul-le-mul_left (most q.checks b q.rows) r.tables in
    lesser q.limits.reads _ _ (omega (arith, p, start_price q.start q.ident, few, below_bound q.checks b q.rows q.limits)) (near q.limits.reads (cost q b y) _ (omega arith) r.reads)

pub reads_are_bounded : ReadsAreBounded
unfolding most_reads
reads_are_bounded q b f (inl h) =
    let r = start_told q.checks b q.rows q.limits (way_to_start q.root) f q.start q.ident h in
    let price = start_price q.start q.ident in
    lesser q.limits.reads _ _ (omega (arith, r, price, below_bound q.checks b q.rows q.limits)) (near q.limits.reads 0 f.reads (omega (arith, r, price)) (no_reads q.limits.reads))
reads_are_bounded q b f (inr h) =
    let r = trail_price q.checks b q.rows q.limits h.1.0 q.root (target b (base q.start)) (way_to_root q.root q.start q.ident) f (omega arith) h.1.1 in
    lesser q.limits.reads _ _ (omega (arith, r.0, start_price q.start q.ident, below_bound q.checks b q.rows q.limits)) r.1
