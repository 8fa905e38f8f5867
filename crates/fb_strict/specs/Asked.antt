-- All that is asked of a tree, one thing after another in the order of the walk's visits.
use Rattle.std.specs.Prelude.{◌≡◌, ◌↔◌, ℕ, zero, suc, ◌+◌, if◌then◌else◌, List, [], ◌∷◌, ◌++◌, length, Option, Some, None}
use Rattle.std.specs.List.{sum_by}
use Rattle.fb_schema.specs.declared.kinds.Kind.{Kind, TheVariants.Text, TheVariants.Table, TheVariants.Union, TheVariants.Texts, TheVariants.Tables, TheVariants.Unions}
use Rattle.fb_schema.specs.{Rows.Rows, Live.Live, Live.live_fields, Members.member_of}
use Rattle.fb_rules.specs.declared.offset_row.{Leads.Leads, Leads.TheVariants.All, Leads.TheVariants.ByType, Referent.Referent, Referent.TheVariants.Text as AText}
use Rattle.fb_rules.specs.declared.{offset_row.Referent.TheVariants.Table as ATable, offset_row.Referent.TheVariants.Nothing, checks.Checks.Checks, fault.Fault.Fault}
use Rattle.fb_rules.specs.{declared.link.Link.Link, Bounds.Bounds, Bounds.AreAllowed, Places.target, Places.field_place, Places.vtable, Fields.type_place, Fields.types_begin}
use Rattle.fb_rules.specs.{Fields.union_type, OffsetRows.leads_after, Unfolds.Unfolds, Links.field_link, Links.element_link, Cost.head_reads, Cost.slot_reads}
use Rattle.fb_rules.specs.{Cost.reads_if_present, Order.Failure, Order.after, Order.◌▷◌, Stops.reads_failure, Tree.Tree, Tree.node, Tree.Kids, Tree.no_kids, Tree.kid}
use Rattle.fb_rules.specs.Tree.{Elements, no_elements, element, Element, leaf, table}
use Rattle.fb_bytes.specs.Word.{word}
use Rattle.fb_strict.specs.{declared.inner.Inner.Inner, Strict.slot_count, Strict.IsStrictBuffer, Skipped.Wants, Skipped.is_kind_asked, Skipped.IsClosed, Planned.task_of}
use Rattle.fb_strict.specs.InOrder.{where_asked, bytes_failure, bytes_reads, bytes_inner, length_failure, places_reads, union_failure, union_reads, together_failure}
use Rattle.fb_strict.specs.{InOrder.element_failure, InOrder.element_reads, InOrder.text_failure, InOrder.text_reads, InOrder.slot_failure, Demanded.Demanded, Demanded.held_of}
use Rattle.fb_strict.specs.declared.tasks.Held.{Held}

-- one thing that is asked at a table of this object, at the field with this number or at its head: a chain of tests,
-- the reads that are made where it finds nothing, and the position at which these are told to be too many; the links
-- that lead there, the root's first; and the buffer that is asked then, where the field's bytes hold one
pub record Demand : Type 0 where
  pub links : List Link
  pub object : ℕ
  pub field : Option ℕ
  pub at : ℕ
  pub reads : ℕ
  pub chain : Option Failure
  pub inner : Option Inner

-- reading what is known to hold
abbrev pub reading : List Link → ℕ → Option ℕ → (at reads : ℕ) → Demand
reading links k field at reads = record { links = links; object = k; field = field; at = at; reads = reads; chain = None; inner = None }

-- the reads of a vector of unions that is there, and of where its types begin
abbrev pub vectors_reads : (types place : Option ℕ) → ℕ
vectors_reads (Some q) (Some p) = 3
vectors_reads _ _ = 0

-- a field by itself, to which these links lead, with this number and slot, of the table at t, of the object k: its type
-- field and its value stand at these places
abbrev pub field_demands : Demanded → Checks → List ℕ → Rows → List Link → (k n t slot : ℕ) → (types place : Option ℕ) → Kind → List Demand
field_demands D c b S links k n t slot types place Text = reading links k (Some n) t (slot_reads b t slot) ∷ []
field_demands D c b S links k n t slot types place (Table j) = reading links k (Some n) t (slot_reads b t slot) ∷ []
field_demands D c b S links k n t slot types place (Union e) = record {
  links = links;
  object = k;
  field = Some n;
  at = t;
  reads = places_reads b t slot + union_reads D.unions b S e types place;
  chain = after (places_reads b t slot) (where_asked D.unions (union_failure c b S e t types place));
  inner = None;
} ∷ []
field_demands D c b S links k n t slot types place Texts = reading links k (Some n) t (slot_reads b t slot + reads_if_present 2 place) ∷ []
field_demands D c b S links k n t slot types place (Tables j) = reading links k (Some n) t (slot_reads b t slot + reads_if_present 2 place) ∷ []
field_demands D c b S links k n t slot types place (Unions e) = record {
  links = links;
  object = k;
  field = Some n;
  at = t;
  reads = places_reads b t slot + vectors_reads types place;
  chain = after (places_reads b t slot) (where_asked D.unions (together_failure types place));
  inner = None;
} ∷ []
field_demands D c b S links k n t slot types place _ = []

-- the same of a field that holds this
abbrev pub held_demands : List ℕ → List Link → (k n t slot : ℕ) → (place : Option ℕ) → Option Held → List Demand
held_demands b links k n t slot place None = []
held_demands b links k n t slot place (Some held) = record {
  links = links;
  object = k;
  field = Some n;
  at = t;
  reads = bytes_reads b t slot place held;
  chain = bytes_failure b t slot place held;
  inner = bytes_inner b held place;
} ∷ []

-- what a member of a union refers to that is asked
abbrev pub asked_referent : Wants → Option Kind → Referent
asked_referent w (Some Text) = if w.demands.utf8 then AText else Nothing
asked_referent w (Some (Table k)) = if w.asks k then ATable k else Nothing
asked_referent w _ = Nothing

-- what the uoffsets of a field of this kind lead to that is asked
abbrev pub row_leads : Wants → List ℕ → Rows → Option ℕ → Kind → Leads
row_leads w b S types Text = All AText
row_leads w b S types (Table j) = All (ATable j)
row_leads w b S types (Union e) = All (asked_referent w (member_of S e (union_type b types)))
row_leads w b S types Texts = All AText
row_leads w b S types (Tables j) = All (ATable j)
row_leads w b S types (Unions e) = ByType e (types_begin b types)
row_leads w b S types _ = All Nothing

-- what the first of such words does
abbrev pub first_referent : Wants → List ℕ → Rows → Leads → Referent
first_referent w b S (All referent) = referent
first_referent w b S (ByType e q) = asked_referent w (member_of S e (word b q 1))

-- where its uoffsets begin
abbrev pub row_place : List ℕ → Option ℕ → Kind → ℕ
row_place b None kind = 0
row_place b (Some p) Texts = target b p + 4
row_place b (Some p) (Tables j) = target b p + 4
row_place b (Some p) (Unions e) = target b p + 4
row_place b (Some p) _ = p

-- a uoffset at p by itself, through which these links lead, where its type tells what it leads to
abbrev pub element_demands : Demanded → Checks → List ℕ → Rows → List Link → (k n p : ℕ) → Leads → List Demand
element_demands D c b S links k n p (All referent) = []
element_demands D c b S links k n p (ByType e q) = record {
  links = links;
  object = k;
  field = Some n;
  at = p;
  reads = element_reads D.unions b S e q;
  chain = where_asked D.unions (element_failure c b S e q p);
  inner = None;
} ∷ []

-- the text to which the uoffset at p leads: its reads, and then its bytes
abbrev pub text_demands : List ℕ → List Link → (k n p : ℕ) → List Demand
text_demands b links k n p =
    reading links k (Some n) p (text_reads b (target b p)) ∷ record { links = links; object = k; field = Some n; at = p; reads = 0; chain = text_failure b (target b p); inner = None } ∷ []

-- what the uoffset at p leads to, where that is no table
abbrev pub leaf_demands : List ℕ → List Link → (k n p : ℕ) → Referent → List Demand
leaf_demands b links k n p AText = text_demands b links k n p
leaf_demands b links k n p _ = []

abbrev pub object_of : Tree → ℕ
object_of (node k t kids) = k

-- the slot at this place in the vtable of the table at t, of the object k, to which these links lead; and so many from
-- there on
abbrev pub slot_demand : List ℕ → Rows → List Link → (k t slot : ℕ) → Demand
slot_demand b S via k t slot = record { links = via; object = k; field = None; at = t; reads = 1; chain = slot_failure b (live_fields S k) (vtable b t) slot; inner = None }

unfoldable pub slots_from : List ℕ → Rows → List Link → (k t n slot : ℕ) → List Demand
slots_from b S via k t zero slot = []
slots_from b S via k t (suc n) slot = slot_demand b S via k t slot ∷ slots_from b S via k t n (slot + 2)

-- all of them, where they are asked
abbrev pub slots_demands : Demanded → List ℕ → Rows → List Link → (k t : ℕ) → List Demand
slots_demands D b S via k t = if D.known_fields then slots_from b S via k t (slot_count b t) 4 else []

unfoldable mutual
  -- a table to which these links lead: its head and its slots, and then its fields
  pub demands_in : Tree → Wants → Checks → List ℕ → Rows → List Link → List Demand
  demands_in (node k t kids) w c b S via = reading via k None t (head_reads c) ∷ (slots_demands w.demands b S via k t ++ demands_in_fields kids w c b S via k t (live_fields S k))

  -- what each field holds; each that is asked by itself, and then its uoffsets
  pub demands_in_fields : Kids → Wants → Checks → List ℕ → Rows → List Link → ℕ → ℕ → List Live → List Demand
  demands_in_fields no_kids w c b S via k t fs = []
  demands_in_fields (kid ys kids) w c b S via k t [] = []
  demands_in_fields (kid ys kids) w c b S via k t (f ∷ fs) =
      held_demands b (via ++ field_link k f ∷ []) k f.number t f.slot (field_place b t f.slot) (held_of w.demands k f)
      ++ ((if is_kind_asked w S f.kind
      then field_demands w.demands c b S (via ++ field_link k f ∷ []) k f.number t f.slot (type_place b t f.slot) (field_place b t f.slot) f.kind
      ++ demands_in_row ys w c b S (λ j. via ++ element_link b k t f j ∷ []) k f.number 0 (row_place b (field_place b t f.slot) f.kind) (row_leads w b S (type_place b t f.slot) f.kind)
      else []) ++ demands_in_fields kids w c b S via k t fs)

  -- each uoffset from p on by itself, and then what it leads to; j others are before it, and by such a number its
  -- links are told
  pub demands_in_row : Elements → Wants → Checks → List ℕ → Rows → (ℕ → List Link) → (k n j p : ℕ) → Leads → List Demand
  demands_in_row no_elements w c b S way k n j p leads = []
  demands_in_row (element y ys) w c b S way k n j p leads =
      element_demands w.demands c b S (way j) k n p leads
      ++ (demands_below y w c b S (way j) k n p (first_referent w b S leads) ++ demands_in_row ys w c b S way k n (j + 1) (p + 4) (leads_after leads))

  -- where anything is asked of that
  pub demands_below : Element → Wants → Checks → List ℕ → Rows → List Link → (k n p : ℕ) → Referent → List Demand
  demands_below leaf w c b S links k n p referent = leaf_demands b links k n p referent
  demands_below (table y) w c b S links k n p referent = if w.asks (object_of y) then reading links k (Some n) p 1 ∷ demands_in y w c b S links else []

-- none of them has a buffer inside
abbrev pub ArePlain : List Demand → Type 0
ArePlain [] = Unit {0}
ArePlain (d ∷ ds) = (d.inner ≡ None) × ArePlain ds

-- all chains find nothing
abbrev pub AreMet : List Demand → Type 0
AreMet [] = Unit {0}
AreMet (d ∷ ds) = (d.chain ≡ None) × AreMet ds

-- their reads
abbrev pub demands_reads : List Demand → ℕ
demands_reads ds = sum_by (λ d. d.reads) ds

-- the fault that a failure of a demand is, after so many reads
abbrev pub demand_fault : Demand → ℕ → Option Failure → Option Fault
demand_fault d paid None = None
demand_fault d paid (Some e) = Some (record { at = e.at; object = d.object; field = d.field; reason = e.reason; reads = paid + e.reads })

-- the first of these demands that isn't met within the limits, once so many reads are made
unfoldable pub first_fault : Bounds → ℕ → List Demand → Option Fault
first_fault L paid [] = None
first_fault L paid (d ∷ ds) = demand_fault d paid (d.chain ▷ reads_failure L paid d.reads d.at) ▷ first_fault L (paid + d.reads) ds

-- the links of a demand where its chain or its reads fail, or else these
abbrev pub links_where : Option Failure → (own later : List Link) → List Link
links_where None own later = later
links_where (Some e) own later = own

-- the links that lead to the first of these demands that isn't met within the limits
unfoldable pub first_links : Bounds → ℕ → List Demand → List Link
first_links L paid [] = []
first_links L paid (d ∷ ds) = links_where (d.chain ▷ reads_failure L paid d.reads d.at) d.links (first_links L (paid + d.reads) ds)

-- all that is asked of a buffer that unfolds into this tree, with a root table of this object: its length, and then the
-- tree, where anything is asked of it
abbrev pub demands_of : Wants → Checks → List ℕ → Rows → ℕ → Tree → List Demand
demands_of w c b S root y = record {
  links = [];
  object = root;
  field = None;
  at = length b;
  reads = 0;
  chain = where_asked w.demands.unions (length_failure b);
  inner = None;
} ∷ (if w.asks root then demands_in y w c b S [] else [])

-- it finds nothing exactly where the buffer is strict
abbrev pub DemandsLaw : Type 0
DemandsLaw =
    (w : Wants) (S : Rows) → IsClosed w S → (y : Tree) (c : Checks) (b : List ℕ) (root t : ℕ) → Unfolds y c b S root t → AreMet (demands_of w c b S root y) ↔ IsStrictBuffer w.demands c b S y

-- none is the first exactly where all chains find nothing, within the limits
abbrev pub FirstLaw : Type 0
FirstLaw = (L : Bounds) (ds : List Demand) (paid : ℕ) → AreAllowed L.reads paid → (first_fault L paid ds ≡ None) ↔ (AreMet ds × AreAllowed L.reads (paid + demands_reads ds))

-- a field without a task is asked nothing, nor is what it leads to
abbrev pub TasksLaw : Type 0
TasksLaw =
    (w : Wants) (S : Rows) (f : Live) (fs : List Live) (ys : Elements) (kids : Kids) (c : Checks) (b : List ℕ) (via : List Link) (k t : ℕ)
    → task_of w S k f ≡ None → demands_in_fields (kid ys kids) w c b S via k t (f ∷ fs) ≡ demands_in_fields kids w c b S via k t fs
