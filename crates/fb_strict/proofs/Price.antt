-- A strict verdict costs few reads, and a fault comes soon after what was asked before it.
use Rattle.std.proofs.Common.{◌≡◌, ℕ, zero, suc, ◌+◌, ◌-◌, ◌≤◌, Bool, true, false, if◌then◌else◌, List, [], ◌∷◌, ◌++◌, length, refl, arith, Option, Some, None}
use Rattle.std.proofs.lemmas.Bool.Decides.{nat_tests}
use Rattle.fb_schema.specs.declared.kinds.Kind.{Kind, TheVariants.Scalar, TheVariants.Text, TheVariants.Struct, TheVariants.Table, TheVariants.Union, TheVariants.Scalars}
use Rattle.fb_schema.specs.declared.kinds.Kind.TheVariants.{Texts, Structs, Tables, Unions}
use Rattle.fb_schema.specs.{Rows.Rows, Live.Live, Live.live_fields}
use Rattle.fb_rules.specs.{declared.checks.Checks.Checks, declared.fault.Fault.Fault, declared.fault.Reason.TheVariants.TooManyReads, declared.link.Link.Link, Bounds.Bounds}
use Rattle.fb_rules.specs.{Bounds.AreAllowed, Bounds.allowed, Places.target, Places.field_place, Fields.type_place, MostReads.within_budget, Stops.reads_failure, Order.Failure}
use Rattle.fb_rules.specs.{Order.check, Order.after, Order.◌▷◌, Order.offset_failure, Tree.Tree, Tree.node, Tree.Kids, Tree.no_kids, Tree.kid, Tree.Elements, Tree.no_elements}
use Rattle.fb_rules.specs.{Tree.element, Tree.Element, Tree.leaf, Tree.table, Tree.size, declared.offset_row.Leads.Leads, declared.offset_row.Leads.TheVariants.All}
use Rattle.fb_rules.specs.declared.offset_row.{Leads.TheVariants.ByType, Referent.Referent, Referent.TheVariants.Text as AText, Referent.TheVariants.Table as ATable}
use Rattle.fb_rules.specs.{declared.offset_row.Referent.TheVariants.Struct as AStruct, declared.offset_row.Referent.TheVariants.Nothing, Facts.IsOffset, Facts.IsString}
use Rattle.fb_rules.specs.{OffsetRows.leads_after, Links.field_link, Links.element_link, Fields.Lead, Fields.to_table, Fields.to_struct, Fields.to_string, Fields.to_nothing}
use Rattle.fb_rules.specs.{Fields.Entry, Fields.entries, Unfolds.Unfolds, Unfolds.FieldsUnfold, Unfolds.ElementsUnfold, Unfolds.ElementUnfolds, Cost.slot_reads}
use Rattle.fb_strict.proofs.{Referents.IsAnswered, Referents.IsRowOf, Few.first_reads, Few.union_few, Few.vectors_few, Few.element_few, Few.its_row}
use Rattle.fb_strict.specs.{Strict.slot_count, InOrder.where_asked, InOrder.length_failure, InOrder.inside_failure, InOrder.value_failure, InOrder.value_reads}
use Rattle.fb_strict.specs.InOrder.{union_failure, union_reads, together_failure, typed_failure, typed_reads, element_failure, element_reads, text_failure}
use Rattle.fb_strict.specs.Asked.{Demand, held_demands, reading, slot_demand, slots_from, vectors_reads, field_demands, row_leads, row_place, first_referent, element_demands}
use Rattle.fb_strict.specs.Asked.{text_demands, object_of, demands_in, demands_in_fields, demands_in_row, demands_below, demands_of, demands_reads, demand_fault, first_fault}
use Rattle.fb_strict.specs.{MostReads.within_past, Skipped.Wants, Skipped.is_kind_asked, Demanded.held_of, declared.tasks.Held.Held, declared.tasks.Held.TheVariants.Buffer}
use Rattle.fb_strict.specs.{declared.tasks.Held.TheVariants.Flex, InOrder.flex_failure}
use Rattle.fb_rules.proofs.Few.{head_few, slot_few, if_present_few}

-- no failure of the chain comes after more reads
abbrev pub AtMost : ℕ → Option Failure → Type 0
AtMost n None = Unit {0}
AtMost n (Some e) = e.reads ≤ n

-- a demand fails after no more reads than it costs, and it costs at most 7 and so many
abbrev pub IsCheap : ℕ → Demand → Type 0
IsCheap len d = AtMost d.reads d.chain × (d.reads ≤ 7 + len)

abbrev pub AreCheap : ℕ → List Demand → Type 0
AreCheap len [] = Unit {0}
AreCheap len (d ∷ ds) = IsCheap len d × AreCheap len ds

-- so they are where more is allowed
pub cheap_more : (n m : ℕ) (ds : List Demand) → n ≤ m → AreCheap n ds → AreCheap m ds
cheap_more n m [] le h = tt
cheap_more n m (d ∷ ds) le h = ((h.0.0, omega (arith, le, h.0.1)), cheap_more n m ds le h.1)

cheap_joined : (len : ℕ) (xs ys : List Demand) → AreCheap len xs → AreCheap len ys → AreCheap len (xs ++ ys)
cheap_joined len [] ys h i = i
cheap_joined len (x ∷ xs) ys h i = (h.0, cheap_joined len xs ys h.1 i)

after_most : (a n : ℕ) (e : Option Failure) → AtMost n e → AtMost (a + n) (after a e)
after_most a n None h = tt
after_most a n (Some e) h = omega (arith, h)

module _ (c : Checks) (b : List ℕ) where
  inside_most : (p : ℕ) → AtMost 1 (inside_failure c b p)
  unfolding inside_failure offset_failure
  inside_most p = grind (arith, nat_tests)

  value_most : (p : ℕ) (member : Option Kind) → AtMost (value_reads member) (value_failure c b p member)
  value_most p None = inside_most p
  value_most p (Some member) = tt

  module _ (S : Rows) where
    union_most : (e t : ℕ) (types place : Option ℕ) → AtMost (union_reads true b S e types place) (union_failure c b S e t types place)
    union_most e t types place = grind (arith, nat_tests, value_most)

    typed_most : (e type p : ℕ) → AtMost (typed_reads S e type) (typed_failure c b S e type p)
    typed_most e type p = grind (arith, value_most)

    element_most : (e q p : ℕ) → AtMost (element_reads true b S e q) (element_failure c b S e q p)
    unfolding element_reads element_failure
    element_most e q p = after_most 1 _ _ (typed_most e _ p)

-- so it is where it is asked, with the reads that are made then
asked_most : (x : Bool) (n : ℕ) (e : Option Failure) → (x ≡ true → AtMost n e) → AtMost n (where_asked x e)
asked_most true n e h = h refl
asked_most false n e h = tt

union_told : (x : Bool) (c : Checks) (b : List ℕ) (S : Rows) (e t : ℕ) (types place : Option ℕ) → AtMost (union_reads x b S e types place) (where_asked x (union_failure c b S e t types place))
union_told true c b S e t types place = union_most c b S e t types place
union_told false c b S e t types place = tt

element_told : (x : Bool) (c : Checks) (b : List ℕ) (S : Rows) (e q p : ℕ) → AtMost (element_reads x b S e q) (where_asked x (element_failure c b S e q p))
element_told true c b S e q p = element_most c b S e q p
element_told false c b S e q p = tt

together_most : (types place : Option ℕ) → AtMost (vectors_reads types place) (together_failure types place)
together_most types place = grind arith

module _ (w : Wants) (c : Checks) (b : List ℕ) (S : Rows) where
  abbrev Cheap : List Demand → Type 0
  Cheap ds = AreCheap (length b) ds

  by_ask : (x : Bool) (d : Demand) (ds : List Demand) → IsCheap (length b) d → Cheap ds → Cheap (if x then d ∷ ds else [])
  by_ask true d ds h i = (h, i)
  by_ask false d ds h i = tt

  own_cheap : (links : List Link) (k n t slot : ℕ) (types place : Option ℕ) (kind : Kind) → Cheap (field_demands w.demands c b S links k n t slot types place kind)
  own_cheap links k n t slot types place Text = ((tt, omega (arith, slot_few b t slot)), tt)
  own_cheap links k n t slot types place (Table j) = ((tt, omega (arith, slot_few b t slot)), tt)
  own_cheap links k n t slot types place (Union e) =
      ((after_most _ _ _ (union_told w.demands.unions c b S e t types place), omega (arith, slot_few b t slot, slot_few b t (slot - 2), union_few w.demands.unions b S e types place)), tt)
  own_cheap links k n t slot types place Texts = ((tt, omega (arith, slot_few b t slot, if_present_few 2 place)), tt)
  own_cheap links k n t slot types place (Tables j) = ((tt, omega (arith, slot_few b t slot, if_present_few 2 place)), tt)
  own_cheap links k n t slot types place (Unions e) =
      ((after_most _ _ _ (asked_most w.demands.unions _ _ (λ on. together_most types place)), omega (arith, slot_few b t slot, slot_few b t (slot - 2), vectors_few types place)), tt)
  own_cheap links k n t slot types place (Scalar s) = tt
  own_cheap links k n t slot types place (Struct j) = tt
  own_cheap links k n t slot types place (Scalars s) = tt
  own_cheap links k n t slot types place (Structs j) = tt

  element_cheap : (links : List Link) (k n p : ℕ) (leads : Leads) → Cheap (element_demands w.demands c b S links k n p leads)
  element_cheap links k n p (All referent) = tt
  element_cheap links k n p (ByType e q) = ((element_told w.demands.unions c b S e q p, omega (arith, element_few w.demands.unions b S e q)), tt)

  flex_most : (n : ℕ) (place : Option ℕ) → AtMost n (after n (flex_failure place))
  flex_most n None = tt
  flex_most n (Some p) = omega arith

  held_cheap : (links : List Link) (k n t slot : ℕ) (place : Option ℕ) (o : Option Held) → Cheap (held_demands b links k n t slot place o)
  held_cheap links k n t slot place None = tt
  held_cheap links k n t slot place (Some (Buffer root)) = ((tt, omega (arith, slot_few b t slot, if_present_few 2 place)), tt)
  held_cheap links k n t slot place (Some Flex) = ((flex_most (slot_reads b t slot) place, omega (arith, slot_few b t slot)), tt)

  slot_most : (via : List Link) (k t slot : ℕ) → IsCheap (length b) (slot_demand b S via k t slot)
  slot_most via k t slot = (grind arith, omega arith)

  slots_each : (via : List Link) (k t n slot : ℕ) → Cheap (slots_from b S via k t n slot)
  unfolding slots_from
  slots_each via k t zero slot = tt
  slots_each via k t (suc n) slot = (slot_most via k t slot, slots_each via k t n (slot + 2))

  slots_cheap : (via : List Link) (k t : ℕ) (x : Bool) → Cheap (if x then slots_from b S via k t (slot_count b t) 4 else [])
  slots_cheap via k t true = slots_each via k t (slot_count b t) 4
  slots_cheap via k t false = tt

  -- a text fails at once, once it is read
  text_most : (s : ℕ) → AtMost 0 (text_failure b s)
  text_most s = grind arith

  text_cheap : (links : List Link) (k n p : ℕ) → IsOffset c b p × IsString c b (target b p) → Cheap (text_demands b links k n p)
  text_cheap links k n p h = ((tt, omega (arith, (h.1).within)), ((text_most (target b p), omega arith), tt))

  field_cheap : (ys : Elements) (via : List Link) (k t : ℕ) (f : Live) (x : Bool) → is_kind_asked w S f.kind ≡ x
      → (IsRowOf w S b (row_leads w b S (type_place b t f.slot) f.kind) (row_place b (field_place b t f.slot) f.kind) (entries b S t f)
      → Cheap (demands_in_row ys w c b S (λ j. via ++ element_link b k t f j ∷ []) k f.number 0 (row_place b (field_place b t f.slot) f.kind) (row_leads w b S (type_place b t f.slot) f.kind)))
      → Cheap (if x
      then field_demands w.demands c b S (via ++ field_link k f ∷ []) k f.number t f.slot (type_place b t f.slot) (field_place b t f.slot) f.kind
      ++ demands_in_row ys w c b S (λ j. via ++ element_link b k t f j ∷ []) k f.number 0 (row_place b (field_place b t f.slot) f.kind) (row_leads w b S (type_place b t f.slot) f.kind)
      else [])
  field_cheap ys via k t f false is row = tt
  field_cheap ys via k t f true is row = cheap_joined (length b) _ _ (own_cheap _ k f.number t f.slot (type_place b t f.slot) (field_place b t f.slot) f.kind) (row (its_row w c b S t f is))

  mutual
    unfolding Unfolds FieldsUnfold ElementsUnfold ElementUnfolds demands_in demands_in_fields demands_in_row demands_below IsRowOf

    tree_cheap : (y : Tree) (via : List Link) (k t : ℕ) → Unfolds y c b S k t → Cheap (demands_in y w c b S via)
    tree_cheap (node k' t' kids) via k t u = ((tt, omega (arith, head_few c)), cheap_joined (length b) _ _ (slots_cheap via k' t' w.demands.known_fields) (fields_cheap kids via k' t' (live_fields S k') (rw (u.0, u.1) u.3)))

    fields_cheap : (kids : Kids) (via : List Link) (k t : ℕ) (fs : List Live) → FieldsUnfold kids c b S t fs → Cheap (demands_in_fields kids w c b S via k t fs)
    fields_cheap no_kids via k t fs u = tt
    fields_cheap (kid ys kids) via k t [] u = tt
    fields_cheap (kid ys kids) via k t (f ∷ fs) u =
        let row = row_cheap ys (entries b S t f) (λ j. via ++ element_link b k t f j ∷ []) k f.number 0 (row_place b (field_place b t f.slot) f.kind) (row_leads w b S (type_place b t f.slot) f.kind) in
        cheap_joined (length b) _ _ (held_cheap _ k f.number t f.slot (field_place b t f.slot) (held_of w.demands k f))
        (cheap_joined (length b) _ _ (field_cheap ys via k t f (is_kind_asked w S f.kind) refl (λ is. row is u.1)) (fields_cheap kids via k t fs u.2))

    row_cheap : (ys : Elements) (xs : List Entry) (way : ℕ → List Link) (k n j p : ℕ) (leads : Leads) → IsRowOf w S b leads p xs → ElementsUnfold ys c b S xs → Cheap (demands_in_row ys w c b S way k n j p leads)
    row_cheap no_elements xs way k n j p leads is u = tt
    row_cheap (element y ys) [] way k n j p leads is u = absurd u
    row_cheap (element y ys) (x ∷ xs) way k n j p leads is u =
        let below = below_cheap y x.lead (first_referent w b S leads) (way j) k n p is.1 (rw is.0 at u.0) in
        cheap_joined (length b) _ _ (element_cheap (way j) k n p leads) (cheap_joined (length b) _ _ below (row_cheap ys xs way k n (j + 1) (p + 4) (leads_after leads) is.2 u.1))

    below_cheap : (y : Element) (lead : Lead) (referent : Referent) (links : List Link) (k n p : ℕ) → IsAnswered w referent lead → ElementUnfolds y c b S p lead → Cheap (demands_below y w c b S links k n p referent)
    below_cheap leaf lead AText links k n p a u = text_cheap links k n p (rw (a.text refl).0 at u)
    below_cheap leaf lead (ATable i) links k n p a u = tt
    below_cheap leaf lead (AStruct size align) links k n p a u = tt
    below_cheap leaf lead Nothing links k n p a u = tt
    below_cheap (table y) (to_table j) referent links k n p a u = by_ask (w.asks (object_of y)) (reading links k (Some n) p 1) (demands_in y w c b S links) (tt, omega arith) (tree_cheap y links j (target b p) u.1)
    below_cheap (table y) (to_struct size align) referent links k n p a u = absurd u
    below_cheap (table y) to_string referent links k n p a u = absurd u
    below_cheap (table y) to_nothing referent links k n p a u = absurd u

  short_cheap : AtMost 0 (length_failure b)
  short_cheap = grind (arith, nat_tests)

  gated_cheap : (x : Bool) (ds : List Demand) → Cheap ds → Cheap (if x then ds else [])
  gated_cheap true ds h = h
  gated_cheap false ds h = tt

  pub buffer_cheap : (root t : ℕ) (y : Tree) → Unfolds y c b S root t → Cheap (demands_of w c b S root y)
  buffer_cheap root t y u = ((asked_most w.demands.unions 0 (length_failure b) (λ on. short_cheap), omega arith), gated_cheap (w.asks root) (demands_in y w c b S []) (tree_cheap y [] root t u))

-- no more than so many reads past what is allowed
pub near_past : (budget : Option ℕ) (past m n : ℕ) → n ≤ m + past → AreAllowed budget m → n ≤ within_past budget past n
near_past None past m n h a = omega arith
near_past (Some most) past m n h a = omega (arith, h, a)

-- the first fault of such demands
module _ (L : Bounds) (f : Fault) (len : ℕ) where
  -- it comes after no more reads than they all cost, and than the budget, 7 and so many
  abbrev pub ComesSoon : (paid all : ℕ) → Type 0
  ComesSoon paid all = (f.reads ≤ paid + all) × (f.reads ≤ within_past L.reads (7 + len) f.reads)

  -- so do those behind a demand
  abbrev RestComesSoon : Demand → (paid all : ℕ) → Option Fault → Type 0
  RestComesSoon d paid all rest = AreAllowed L.reads (paid + d.reads) → rest ≡ Some f → ComesSoon (paid + d.reads) all

  told_at : (d : Demand) (paid : ℕ) (chain : Option Failure) → AtMost d.reads chain → demand_fault d paid chain ≡ Some f → f.reads ≤ paid + d.reads
  told_at d paid None h e = absurd (cc)
  told_at d paid (Some x) h e = grind arith

  by_budget : (d : Demand) (paid all : ℕ) (rest : Option Fault) (x : Bool) → allowed L.reads (paid + d.reads) ≡ x
      → IsCheap len d → AreAllowed L.reads paid → RestComesSoon d paid all rest
      → (demand_fault d paid (check x TooManyReads d.at d.reads None) ▷ rest) ≡ Some f → ComesSoon paid (d.reads + all)
  by_budget d paid all rest true is cheap a on h = let r = on (grind (arith, nat_tests)) h in (omega (arith, r.0), r.1)
  by_budget d paid all rest false is cheap a on h =
      let n : f.reads ≤ paid + d.reads = grind arith in (omega (arith, n), near_past L.reads (7 + len) paid f.reads (omega (arith, n, cheap.1)) a)

  by_chain : (d : Demand) (paid all : ℕ) (rest : Option Fault) (chain : Option Failure) → AtMost d.reads chain
      → IsCheap len d → AreAllowed L.reads paid → RestComesSoon d paid all rest
      → (demand_fault d paid (chain ▷ reads_failure L paid d.reads d.at) ▷ rest) ≡ Some f → ComesSoon paid (d.reads + all)
  by_chain d paid all rest None most cheap a on h = by_budget d paid all rest (allowed L.reads (paid + d.reads)) refl cheap a on h
  by_chain d paid all rest (Some x) most cheap a on h =
      let n = told_at d paid (Some x) most h in (omega (arith, n), near_past L.reads (7 + len) paid f.reads (omega (arith, n, cheap.1)) a)

  pub comes_soon : (ds : List Demand) (paid : ℕ) → AreCheap len ds → AreAllowed L.reads paid → first_fault L paid ds ≡ Some f → ComesSoon paid (demands_reads ds)
  unfolding first_fault
  comes_soon [] paid cheap a h = absurd (cc)
  comes_soon (d ∷ ds) paid cheap a h =
      let r = by_chain d paid (demands_reads ds) (first_fault L (paid + d.reads) ds) d.chain cheap.0.0 cheap.0 a (λ b e. comes_soon ds (paid + d.reads) cheap.1 b e) h in
      (omega (arith, r.0, first_reads d ds), r.1)

-- a whole buffer

pub lesser : (budget : Option ℕ) (past n m : ℕ) → n ≤ m → n ≤ within_past budget past n → n ≤ within_past budget past m
lesser None past n m h i = h
lesser (Some most) past n m h i = omega (arith, h, i)

pub more_past : (budget : Option ℕ) (past n m k : ℕ) → 7 ≤ past → n ≤ m → k ≤ within_budget budget n → k ≤ within_past budget past m
more_past None past n m k p h i = omega (arith, h, i)
more_past (Some most) past n m k p h i = omega (arith, p, h, i)
