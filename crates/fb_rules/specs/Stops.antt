-- The first place where a condition fails, and the fault that this is.
use Rattle.std.specs.Prelude.{◌≡◌, ℕ, ◌+◌, ◌⊎◌, nat_lt, List, Option, Some, None, take, slice_get}
use Rattle.fb_schema.specs.{Rows.Rows, Live.Live, Live.live_fields}
use Rattle.fb_rules.specs.declared.{checks.Checks.Checks, start.Start.Start, start.Ident.Ident, fault.Reason.TheVariants.TooDeep, fault.Reason.TheVariants.TooManyTables}
use Rattle.fb_rules.specs.{declared.fault.Reason.TheVariants.TooManyReads, declared.fault.Fault.Fault, Bounds.Bounds, Bounds.allowed, Question.Question, Places.target}
use Rattle.fb_rules.specs.{Facts.IsTable, Facts.IsOffset, Unfolds.FieldsUnfold, Unfolds.ElementsUnfold, Cost.head_reads, Cost.own_reads, Cost.lead_reads, WellFormed.base}
use Rattle.fb_rules.specs.{WellFormed.start_reads, WellFormed.IsStart, Fields.IsField, Fields.Lead, Fields.to_table, Fields.Entry, Fields.entries, Tree.Kids, Tree.kids_length}
use Rattle.fb_rules.specs.{Tree.Elements, Tree.elements_length, Order.Failure, Order.check, Order.◌▷◌, Order.start_failure, Order.head_failure, Order.own_failure}
use Rattle.fb_rules.specs.{Order.element_failure, Way.Way, Way.way_to_start, Way.way_to_root, Way.way_to_field, Way.way_to_element, Way.way_to_table, Way.StaysWithin}

-- a place where conditions are asked: the start, the head of the table at t of the object k, the field g of the table
-- at t before its elements, or an element of a field
pub data Place : Type 0 where
  in_start : Start → Ident → Place
  in_head : (k t : ℕ) → Place
  in_field : (t : ℕ) → (g : Live) → Place
  in_element : Entry → Place

-- the fault that a failure is, at the end of this way
abbrev pub fault_of : Way → Option Failure → Option Fault
fault_of w None = None
fault_of w (Some e) = Some (record { at = e.at; object = w.object; field = w.field; reason = e.reason; reads = w.paid + e.reads })

-- whether the limits allow to open one more table, which stands at t
abbrev pub budget_failure : Bounds → Way → ℕ → Option Failure
budget_failure L w t = check (nat_lt w.links L.depth) TooDeep t 0 (check (nat_lt w.passed L.tables) TooManyTables t 0 None)

-- whether the limits allow n reads more than were paid, which is told at p
abbrev pub reads_failure : Bounds → (paid n p : ℕ) → Option Failure
reads_failure L paid n p = check (allowed L.reads (paid + n)) TooManyReads p n None

-- the same of an element by its lead; the reads that lead to a table are asked with its head
abbrev pub lead_reads_failure : Bounds → (paid : ℕ) → Entry → Lead → Option Failure
lead_reads_failure L paid x (to_table k) = None
lead_reads_failure L paid x lead = reads_failure L paid (x.reads + lead_reads lead) x.place

-- the first condition that fails at this place, its own before that on the reads; in the head of a table the fault's
-- object is that table's
unfoldable pub fault_at : Checks → List ℕ → Rows → Bounds → Place → Way → Option Fault
fault_at c b S L (in_start start ident) w = fault_of w (start_failure c b start ident ▷ reads_failure L w.paid (start_reads start ident) (base start))
fault_at c b S L (in_head k t) w =
    fault_of w (budget_failure L w t) ▷ fault_of (record w { object = k; field = None }) (head_failure c b t ▷ reads_failure L w.paid (head_reads c) t)
fault_at c b S L (in_field t g) w = fault_of w (own_failure c b S t g ▷ reads_failure L w.paid (own_reads b t g) t)
fault_at c b S L (in_element x) w = fault_of w (element_failure c b x ▷ lead_reads_failure L w.paid x x.lead)

-- at the end of this way, which stays within the limits, f is the first condition of this place that fails
pub record IsFalseAt (c : Checks) (b : List ℕ) (S : Rows) (L : Bounds) (p : Place) (w : Way) (f : Fault) : Type 0 where
  pub within : StaysWithin w L
  pub first : fault_at c b S L p w ≡ Some f

-- A trail from a table inwards: to its head, or past its earlier fields, whose elements are told, to one of its fields.
mutual
  pub data Trail : Type 0 where
    at_head : Trail
    at_field : Kids → FieldTrail → Trail

  -- from a field: to its own tests, or past some elements to one of its elements
  pub data FieldTrail : Type 0 where
    at_own : FieldTrail
    at_element : Elements → ElementTrail → FieldTrail

  -- from an element: to its tests, or on from the table that it leads to
  pub data ElementTrail : Type 0 where
    at_lead : ElementTrail
    through : Trail → ElementTrail

-- the table at t is open with these earlier fields passed, and g is the field under check
pub record IsLink (c : Checks) (b : List ℕ) (S : Rows) (k t : ℕ) (earlier : Kids) (g : Live) : Type 0 where
  pub head : IsTable c b t
  pub passed : FieldsUnfold earlier c b S t (take (kids_length earlier) (live_fields S k))
  pub next : slice_get (live_fields S k) (kids_length earlier) ≡ Some g

-- the field g holds by itself, these elements of it are passed, and x is the element under check
pub record IsInField (c : Checks) (b : List ℕ) (S : Rows) (t : ℕ) (g : Live) (before : Elements) (x : Entry) : Type 0 where
  pub own : IsField c b S t g
  pub passed : ElementsUnfold before c b S (take (elements_length before) (entries b S t g))
  pub next : slice_get (entries b S t g) (elements_length before) ≡ Some x

unfoldable mutual
  -- this trail leads from the table at t, of the object k, to the place of the fault; w is the way to this table
  pub IsTrail : Trail → Checks → List ℕ → Rows → Bounds → ℕ → ℕ → Way → Fault → Type 0
  IsTrail at_head c b S L k t w f = IsFalseAt c b S L (in_head k t) w f
  IsTrail (at_field earlier s) c b S L k t w f =
      (g : Live) × IsLink c b S k t earlier g × IsFieldTrail s c b S L t g (way_to_field c b S k t earlier g w) f

  pub IsFieldTrail : FieldTrail → Checks → List ℕ → Rows → Bounds → ℕ → Live → Way → Fault → Type 0
  IsFieldTrail at_own c b S L t g w f = IsFalseAt c b S L (in_field t g) w f
  IsFieldTrail (at_element before s) c b S L t g w f =
      (x : Entry) × IsInField c b S t g before x × IsElementTrail s c b S L x (way_to_element c b S t g before w) f

  pub IsElementTrail : ElementTrail → Checks → List ℕ → Rows → Bounds → Entry → Way → Fault → Type 0
  IsElementTrail at_lead c b S L x w f = IsFalseAt c b S L (in_element x) w f
  IsElementTrail (through s) c b S L x w f =
      (k : ℕ) × (x.lead ≡ to_table k) × IsOffset c b x.place × IsTrail s c b S L k (target b x.place) (way_to_table x w) f

-- from the table at t a trail leads to this fault
abbrev pub StopsFrom : Checks → List ℕ → Rows → Bounds → ℕ → ℕ → Way → Fault → Type 0
StopsFrom c b S L k t w f = (s : Trail) × IsTrail s c b S L k t w f

-- the fault is the one at the start, or the one at the end of a trail from the root
abbrev pub Stops : Question → List ℕ → Fault → Type 0
Stops q b f =
    IsFalseAt q.checks b q.rows q.limits (in_start q.start q.ident) (way_to_start q.root) f
    ⊎ (IsStart q.checks b q.start q.ident × StopsFrom q.checks b q.rows q.limits q.root (target b (base q.start)) (way_to_root q.root q.start q.ident) f)
