-- What is demanded of a tree costs few reads.
use Rattle.std.proofs.Common.{◌≡◌, ℕ, zero, suc, ◌+◌, ◌*◌, ◌≤◌, List, [], ◌∷◌, ◌++◌, length, refl, arith, Option, Some, None, Bool, true, false, if◌then◌else◌, mul-le-mul_left, mul-le-mul_right}
use Rattle.std.proofs.lemmas.List.Sums.{sum_by-cons}
use Rattle.fb_bytes.specs.Word.{word}
use Rattle.fb_schema.specs.{declared.kinds.Kind.Kind, Rows.Rows, Live.Live, Live.live_fields, Members.member_of}
use Rattle.fb_rules.specs.{declared.checks.Checks.Checks, declared.link.Link.Link, Links.field_link, Links.element_link, Places.target, Places.field_place, Cost.head_reads}
use Rattle.fb_rules.specs.Fields.{union_type, IsPresent, IsField, Lead, to_table, to_struct, to_string, to_nothing, Entry, entries_of, entries, type_place}
use Rattle.fb_rules.specs.Tree.{Tree, node, Kids, no_kids, kid, Elements, no_elements, element, Element, leaf, table, size, kids_size, elements_size, element_size}
use Rattle.fb_rules.specs.{Unfolds.Unfolds, Unfolds.FieldsUnfold, Unfolds.ElementsUnfold, Unfolds.ElementUnfolds, declared.offset_row.Leads.Leads}
use Rattle.fb_rules.specs.declared.offset_row.{Leads.TheVariants.All, Leads.TheVariants.ByType, Referent.Referent, Referent.TheVariants.Text as AText}
use Rattle.fb_rules.specs.declared.offset_row.Referent.TheVariants.{Table as ATable, Struct as AStruct, Nothing}
use Rattle.fb_rules.specs.{Facts.IsTable, Facts.IsOffset, Facts.IsString, OffsetRows.leads_after}
use Rattle.fb_rules.proofs.{Words.row_length, Words.union_row_length, Few.if_present_few, Few.head_few, Few.slot_few}
use Rattle.fb_strict.specs.InOrder.{where_asked, union_reads, element_failure, value_reads, typed_reads, element_reads, text_failure, text_reads}
use Rattle.fb_strict.specs.Asked.{Demand, held_demands, reading, slot_demand, slots_from, slots_demands, vectors_reads, field_demands, row_leads, row_place, first_referent}
use Rattle.fb_strict.specs.Asked.{element_demands, text_demands, object_of, demands_in, demands_in_fields, demands_in_row, demands_below, demands_reads}
use Rattle.fb_strict.specs.{Skipped.Wants, Skipped.is_kind_asked, Strict.slot_count, Demanded.held_of, declared.tasks.Held.Held}
use Rattle.fb_strict.proofs.{Referents.IsAnswered, Referents.IsRowOf, Referents.row_at, How.not_by_kind, Moving.reads_joined}

pub first_reads : (d : Demand) (ds : List Demand) → demands_reads (d ∷ ds) ≡ d.reads + demands_reads ds
first_reads d ds = sum_by-cons (λ (x : Demand). x.reads) d ds

value_few : (o : Option Kind) → value_reads o ≤ 1
value_few o = grind arith

typed_few : (S : Rows) (e type : ℕ) → typed_reads S e type ≤ 1
typed_few S e type = grind (arith, value_few)

if_few : (x : Bool) (n : ℕ) → n ≤ 1 → (if x then n else 0) ≤ 1
if_few x n h = grind arith

pub element_few : (x : Bool) (b : List ℕ) (S : Rows) (e q : ℕ) → element_reads x b S e q ≤ 2
unfolding element_reads
element_few x b S e q = omega (arith, if_few x (typed_reads S e (word b q 1)) (typed_few S e (word b q 1)))

pub union_few : (x : Bool) (b : List ℕ) (S : Rows) (e : ℕ) (types place : Option ℕ) → union_reads x b S e types place ≤ 2
union_few x b S e types None = omega (arith, if_present_few 1 types)
union_few x b S e types (Some p) = omega (arith, if_present_few 1 types, if_few x (value_reads (member_of S e (union_type b types))) (value_few (member_of S e (union_type b types))))

pub vectors_few : (types place : Option ℕ) → vectors_reads types place ≤ 3
vectors_few types place = grind arith

module _ (w : Wants) (c : Checks) (b : List ℕ) (S : Rows) where
  pub its_row : (t : ℕ) (f : Live) → is_kind_asked w S f.kind ≡ true → IsRowOf w S b (row_leads w b S (type_place b t f.slot) f.kind) (row_place b (field_place b t f.slot) f.kind) (entries b S t f)
  unfolding entries
  its_row t f is = row_at w S b t f (field_place b t f.slot) is

  -- a text lies in the buffer
  text_few : (links : List Link) (k n p : ℕ) → IsOffset c b p × IsString c b (target b p) → demands_reads (text_demands b links k n p) ≤ length b
  text_few links k n p h =
      let one = first_reads (reading links k (Some n) p (text_reads b (target b p))) (record { links = links; object = k; field = Some n; at = p; reads = 0; chain = text_failure b (target b p); inner = None } ∷ []) in
      let two = first_reads (record { links = links; object = k; field = Some n; at = p; reads = 0; chain = text_failure b (target b p); inner = None }) [] in
      omega (arith, one, two, (h.1).within)

-- a table has no more slots than half of its vtable's bytes, all of which are in the buffer
slots_many : (b : List ℕ) (S : Rows) (via : List Link) (k t n slot : ℕ) → demands_reads (slots_from b S via k t n slot) ≡ n
unfolding slots_from
slots_many b S via k t zero slot = refl
slots_many b S via k t (suc n) slot = let rest = slots_many b S via k t n (slot + 2) in omega (arith, first_reads (slot_demand b S via k t slot) (slots_from b S via k t n (slot + 2)), rest)

slots_few : {c : Checks} (b : List ℕ) (S : Rows) (via : List Link) (k t : ℕ) (x : Bool) → IsTable c b t → demands_reads (if x then slots_from b S via k t (slot_count b t) 4 else []) ≤ length b
slots_few b S via k t false h = omega arith
slots_few b S via k t true h = omega (arith, slots_many b S via k t (slot_count b t) 4, h.vtable_whole)

-- no table has more live fields than this
module _ (w : Wants) (c : Checks) (b : List ℕ) (S : Rows) (wide : ℕ) (no_wider : (k : ℕ) → length (live_fields S k) ≤ wide) where
  own_few : (links : List Link) (k n t slot : ℕ) (types place : Option ℕ) (kind : Kind) → demands_reads (field_demands w.demands c b S links k n t slot types place kind) ≤ 5
  own_few links k n t slot types place kind = grind (arith, slot_few, union_few, vectors_few, if_present_few, first_reads)

  words_few : (t : ℕ) (f : Live) (p : ℕ) (kind : Kind) → IsPresent c b S t f p kind → 3 * length (entries_of b S t f p kind) ≤ 3 + length b
  words_few t f p kind h = grind (arith, row_length, union_row_length)

  words_few_at : (t : ℕ) (f : Live) → IsField c b S t f → 3 * length (entries b S t f) ≤ 3 + length b
  unfolding entries IsField
  words_few_at t f h = grind (arith, words_few)

  -- a field costs that much at most, with its uoffsets and the texts to which they lead, and a table that much
  abbrev pub field_most : ℕ
  field_most = (8 + length b) * (8 + length b)

  abbrev pub most : ℕ
  most = 3 + length b + wide * field_most

  row_most : (n : ℕ) → 3 * n ≤ 3 + length b → 5 + (3 + length b) * n ≤ field_most
  row_most n h = let one = mul-le-mul_left (3 + length b) h in omega (arith, one)

  all : (k : ℕ) → 3 + length b + length (live_fields S k) * field_most ≤ most
  all k = let h = mul-le-mul_right field_most (no_wider k) in omega (arith, h)

  types_few : (links : List Link) (k n p : ℕ) (leads : Leads) → demands_reads (element_demands w.demands c b S links k n p leads) ≤ 2
  types_few links k n p (All referent) = omega arith
  types_few links k n p (ByType e q) = omega (arith, first_reads (record { links = links; object = k; field = Some n; at = p; reads = element_reads w.demands.unions b S e q; chain = where_asked w.demands.unions (element_failure c b S e q p); inner = None }) [], element_few w.demands.unions b S e q)

  by_ask : (x : Bool) (d : Demand) (ds : List Demand) (n : ℕ) → d.reads ≡ 1 → demands_reads ds ≤ n → demands_reads (if x then d ∷ ds else []) ≤ 1 + n
  by_ask true d ds n one h = omega (arith, first_reads d ds, one, h)
  by_ask false d ds n one h = omega arith

  held_few : (links : List Link) (k n t slot : ℕ) (place : Option ℕ) (o : Option Held) → demands_reads (held_demands b links k n t slot place o) ≤ 3
  held_few links k n t slot place o = grind (arith, slot_few, if_present_few, first_reads)

  -- a field holds something, or is asked by its kind
  either_few : (links : List Link) (k t : ℕ) (f : Live) (place : Option ℕ) (ds : List Demand) (n : ℕ) (o : Option Held) → held_of w.demands k f ≡ o → 3 ≤ n → demands_reads (if is_kind_asked w S f.kind then ds else []) ≤ n
      → demands_reads (held_demands b links k f.number t f.slot place o) + demands_reads (if is_kind_asked w S f.kind then ds else []) ≤ n
  either_few links k t f place ds n None is three h = omega (arith, h)
  either_few links k t f place ds n (Some held) is three h = rw (not_by_kind w S k f held is) (let few = held_few links k f.number t f.slot place (Some held) in omega (arith, few, three))

  -- a field with its row, where it is asked
  field_few : (ys : Elements) (via : List Link) (k t : ℕ) (f : Live) (x : Bool) → is_kind_asked w S f.kind ≡ x → IsField c b S t f
      → (IsRowOf w S b (row_leads w b S (type_place b t f.slot) f.kind) (row_place b (field_place b t f.slot) f.kind) (entries b S t f)
      → demands_reads (demands_in_row ys w c b S (λ j. via ++ element_link b k t f j ∷ []) k f.number 0 (row_place b (field_place b t f.slot) f.kind) (row_leads w b S (type_place b t f.slot) f.kind))
      ≤ (3 + length b) * length (entries b S t f) + most * elements_size ys)
      → demands_reads (if x
      then field_demands w.demands c b S (via ++ field_link k f ∷ []) k f.number t f.slot (type_place b t f.slot) (field_place b t f.slot) f.kind
      ++ demands_in_row ys w c b S (λ j. via ++ element_link b k t f j ∷ []) k f.number 0 (row_place b (field_place b t f.slot) f.kind) (row_leads w b S (type_place b t f.slot) f.kind)
      else []) ≤ field_most + most * elements_size ys
  field_few ys via k t f false is h row = omega arith
  field_few ys via k t f true is h row =
      let links = via ++ field_link k f ∷ [] in
      let place = field_place b t f.slot in
      let types = type_place b t f.slot in
      let own = field_demands w.demands c b S links k f.number t f.slot types place f.kind in
      let words = demands_in_row ys w c b S (λ j. via ++ element_link b k t f j ∷ []) k f.number 0 (row_place b place f.kind) (row_leads w b S types f.kind) in
      let three = row_most (length (entries b S t f)) (words_few_at t f h) in
      omega (arith, reads_joined own words, own_few links k f.number t f.slot types place f.kind, row (its_row w c b S t f is), three)

  mutual
    unfolding Unfolds FieldsUnfold ElementsUnfold ElementUnfolds size kids_size elements_size element_size demands_in demands_in_fields demands_in_row demands_below IsRowOf

    pub tree_few : (y : Tree) (via : List Link) (k t : ℕ) → Unfolds y c b S k t → demands_reads (demands_in y w c b S via) ≤ most * size y
    tree_few (node k' t' kids) via k t u =
        let slots = slots_demands w.demands b S via k t in
        let others = demands_in_fields kids w c b S via k t (live_fields S k) in
        rw (u.0, u.1) (omega (arith, first_reads (reading via k None t (head_reads c)) (slots ++ others), reads_joined slots others, slots_few b S via k t w.demands.known_fields u.2, fields_few kids via k t (live_fields S k) u.3, all k, head_few c))

    fields_few : (kids : Kids) (via : List Link) (k t : ℕ) (fs : List Live) → FieldsUnfold kids c b S t fs → demands_reads (demands_in_fields kids w c b S via k t fs) ≤ length fs * field_most + most * kids_size kids
    fields_few no_kids via k t fs u = omega arith
    fields_few (kid ys kids) via k t [] u = absurd u
    fields_few (kid ys kids) via k t (f ∷ fs) u =
        let row = row_few ys (entries b S t f) (λ j. via ++ element_link b k t f j ∷ []) k f.number 0 (row_place b (field_place b t f.slot) f.kind) (row_leads w b S (type_place b t f.slot) f.kind) in
        let its = field_few ys via k t f (is_kind_asked w S f.kind) refl u.0 (λ is. row is u.1) in
        let asked = field_demands w.demands c b S (via ++ field_link k f ∷ []) k f.number t f.slot (type_place b t f.slot) (field_place b t f.slot) f.kind
        ++ demands_in_row ys w c b S (λ j. via ++ element_link b k t f j ∷ []) k f.number 0 (row_place b (field_place b t f.slot) f.kind) (row_leads w b S (type_place b t f.slot) f.kind) in
        let held = held_demands b (via ++ field_link k f ∷ []) k f.number t f.slot (field_place b t f.slot) (held_of w.demands k f) in
        let both = (if is_kind_asked w S f.kind then asked else []) in
        let rest = demands_in_fields kids w c b S via k t fs in
        let either = either_few (via ++ field_link k f ∷ []) k t f (field_place b t f.slot) asked (field_most + most * elements_size ys) (held_of w.demands k f) refl (omega (arith, row_most 0 (omega arith))) its in
        omega (arith, reads_joined held (both ++ rest), reads_joined both rest, either, fields_few kids via k t fs u.2)

    row_few : (ys : Elements) (xs : List Entry) (way : ℕ → List Link) (k n j p : ℕ) (leads : Leads) → IsRowOf w S b leads p xs → ElementsUnfold ys c b S xs → demands_reads (demands_in_row ys w c b S way k n j p leads) ≤ (3 + length b) * length xs + most * elements_size ys
    row_few no_elements xs way k n j p leads is u = omega arith
    row_few (element y ys) [] way k n j p leads is u = absurd u
    row_few (element y ys) (x ∷ xs) way k n j p leads is u =
        let own = element_demands w.demands c b S (way j) k n p leads in
        let below = demands_below y w c b S (way j) k n p (first_referent w b S leads) in
        let rest = demands_in_row ys w c b S way k n (j + 1) (p + 4) (leads_after leads) in
        let one = below_few y x.lead (first_referent w b S leads) (way j) k n p is.1 (rw is.0 at u.0) in
        omega (arith, reads_joined own (below ++ rest), reads_joined below rest, types_few (way j) k n p leads, one, row_few ys xs way k n (j + 1) (p + 4) (leads_after leads) is.2 u.1)

    below_few : (y : Element) (lead : Lead) (referent : Referent) (links : List Link) (k n p : ℕ) → IsAnswered w referent lead → ElementUnfolds y c b S p lead
        → demands_reads (demands_below y w c b S links k n p referent) ≤ 1 + length b + most * element_size y
    below_few leaf lead AText links k n p a u = let t = text_few w c b S links k n p (rw (a.text refl).0 at u) in omega (arith, t)
    below_few leaf lead (ATable i) links k n p a u = omega arith
    below_few leaf lead (AStruct size align) links k n p a u = omega arith
    below_few leaf lead Nothing links k n p a u = omega arith
    below_few (table y) (to_table j) referent links k n p a u =
        let t = by_ask (w.asks (object_of y)) (reading links k (Some n) p 1) (demands_in y w c b S links) (most * size y) refl (tree_few y links j (target b p) u.1) in omega (arith, t)
    below_few (table y) (to_struct size align) referent links k n p a u = absurd u
    below_few (table y) to_string referent links k n p a u = absurd u
    below_few (table y) to_nothing referent links k n p a u = absurd u
