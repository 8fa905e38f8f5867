-- The laws of the definitions.
use Rattle.std.specs.Prelude.{◌≡◌, ◌↔◌, ◌⊎◌, ℕ, ◌+◌, ◌*◌, ◌<◌, ◌≤◌, List, [], ◌∷◌, ◌++◌, length, slice_index, Some, None, Result, Ok, Err}
use Rattle.fb_bytes.specs.Word.{word}
use Rattle.fb_schema.specs.{Rows.Rows, Live.Live}
use Rattle.fb_rules.specs.declared.{checks.Checks.Checks, start.Start.Start, start.Ident.Ident, fault.Reason.TheVariants.TooDeep, fault.Reason.TheVariants.TooManyTables}
use Rattle.fb_rules.specs.{declared.fault.Reason.TheVariants.TooManyReads, declared.fault.Fault.Fault, declared.fault.Report.Report, declared.link.Link.Link, Bounds.Bounds}
use Rattle.fb_rules.specs.{Bounds.AreAllowed, Bounds.AreTooMany, Bounds.limits_of_length, Question.Question, Places.target, Tree.Tree, Tree.size, Tree.depth, Unfolds.Unfolds}
use Rattle.fb_rules.specs.{Cost.tree_cost, Way.Way, Stops.Trail, Stops.IsTrail, Stops.Stops, Links.StopsAlong, MostReads.most_reads, Verdict.Reports, Facts.IsTable, Facts.IsOffset}
use Rattle.fb_rules.specs.{Facts.IsString, Facts.IsVector, Facts.IsInline, Fields.IsField, Fields.Lead, Fields.to_table, Fields.to_struct, Fields.to_string, Fields.to_nothing}
use Rattle.fb_rules.specs.{Fields.Entry, WellFormed.IsStart, WellFormed.IsWellFormed, WellFormed.IsWithin, WellFormed.cost, Order.start_failure, Order.head_failure}
use Rattle.fb_rules.specs.Order.{offset_failure, string_failure, vector_failure, inline_failure, own_failure, element_failure}

-- a chain of tests finds nothing exactly where the facts hold

abbrev pub StartLaw : Type 0
StartLaw = (c : Checks) (b : List ℕ) (start : Start) (ident : Ident) → (start_failure c b start ident ≡ None) ↔ IsStart c b start ident

abbrev pub HeadLaw : Type 0
HeadLaw = (c : Checks) (b : List ℕ) (t : ℕ) → (head_failure c b t ≡ None) ↔ IsTable c b t

abbrev pub OffsetLaw : Type 0
OffsetLaw = (c : Checks) (b : List ℕ) (p : ℕ) → (offset_failure c b p ≡ None) ↔ IsOffset c b p

abbrev pub StringLaw : Type 0
StringLaw = (c : Checks) (b : List ℕ) (s : ℕ) → (string_failure c b s ≡ None) ↔ IsString c b s

abbrev pub VectorLaw : Type 0
VectorLaw = (c : Checks) (b : List ℕ) (v size align : ℕ) → (vector_failure c b v size align ≡ None) ↔ IsVector c b v size align

abbrev pub InlineLaw : Type 0
InlineLaw = (c : Checks) (b : List ℕ) (p size align : ℕ) → (inline_failure c b p size align ≡ None) ↔ IsInline c b p size align

-- an element by itself, but for the table that it may lead to
abbrev pub IsLead : Checks → List ℕ → ℕ → Lead → Type 0
IsLead c b p (to_table k) = IsOffset c b p
IsLead c b p (to_struct size align) = IsOffset c b p × IsInline c b (target b p) size align
IsLead c b p to_string = IsOffset c b p × IsString c b (target b p)
IsLead c b p to_nothing = Unit {0}

abbrev pub ElementLaw : Type 0
ElementLaw = (c : Checks) (b : List ℕ) (x : Entry) → (element_failure c b x ≡ None) ↔ IsLead c b x.place x.lead

abbrev pub FieldLaw : Type 0
FieldLaw = (c : Checks) (b : List ℕ) (S : Rows) (t : ℕ) (f : Live) → (own_failure c b S t f ≡ None) ↔ IsField c b S t f

-- two numbers of four bytes, each below 256, are one exactly where the bytes are the same, as for the identifier
abbrev pub IdentifierLaw : Type 0
IdentifierLaw =
    (b name : List ℕ) (p : ℕ) → ((i : ℕ) → i < 4 → slice_index b (p + i) < 256) → ((i : ℕ) → i < 4 → slice_index name i < 256)
    → (word b p 4 ≡ word name 0 4) ↔ ((i : ℕ) → i < 4 → slice_index b (p + i) ≡ slice_index name i)

-- a buffer has at most one tree for an object and a position
abbrev pub HasOneTree : Type 0
HasOneTree = (c : Checks) (b : List ℕ) (S : Rows) (k t : ℕ) (y z : Tree) → Unfolds y c b S k t → Unfolds z c b S k t → y ≡ z

-- the fault is a limit, and a tree of this depth, size and cost at the end of this way is past it
abbrev pub Overruns : Bounds → Way → ℕ → ℕ → ℕ → Fault → Type 0
Overruns L w deep many reads f =
    ((f.reason ≡ TooDeep) × (L.depth < w.links + deep))
    ⊎ (((f.reason ≡ TooManyTables) × (L.tables < w.passed + many)) ⊎ ((f.reason ≡ TooManyReads) × AreTooMany L.reads (w.paid + reads)))

-- where the way w leads to a table with a tree, a trail from there stops only at a limit, and the tree is past it
abbrev pub StopsOnlyAtLimits : Type 0
StopsOnlyAtLimits =
    (c : Checks) (b : List ℕ) (S : Rows) (L : Bounds) (k t : ℕ) (y : Tree) (w : Way) (s : Trail) (f : Fault) → Unfolds y c b S k t
    → IsTrail s c b S L k t w f → Overruns L w (depth y) (size y) (tree_cost y c b S) f

-- at most one fault is the first
abbrev pub StopsOnce : Type 0
StopsOnce = (q : Question) (b : List ℕ) (f g : Fault) → Stops q b f → Stops q b g → f ≡ g

-- at most one row of links leads to it
abbrev pub LeadsOneWay : Type 0
LeadsOneWay = (q : Question) (b : List ℕ) (f g : Fault) (xs ys : List Link) → StopsAlong q b f xs → StopsAlong q b g ys → xs ≡ ys

-- the last of these links is to this field of a table of this object
pub record EndIn (object field : ℕ) (links : List Link) : Type 0 where
  pub before : List Link
  pub last : Link
  pub all : links ≡ before ++ last ∷ []
  pub object_is : last.object ≡ object
  pub field_is : last.field ≡ field

-- where a fault names a field, the last link to it is to that field
abbrev pub LinksEndInField : Type 0
LinksEndInField = (q : Question) (b : List ℕ) (f : Fault) (links : List Link) (n : ℕ) → StopsAlong q b f links → f.field ≡ Some n → EndIn f.object n links

-- no fault is, where a tree is well formed and within the limits
abbrev pub StopsNowhereWithin : Type 0
StopsNowhereWithin = (q : Question) (b : List ℕ) (y : Tree) (f : Fault) → IsWellFormed q b y → IsWithin q b y → Stops q b f → ⊥

-- an answer applies: a report that counts a tree, or the fault that is the first
abbrev pub Applies : Question → List ℕ → Result Report Fault → Type 0
Applies q b (Ok r) = Reports q b r
Applies q b (Err f) = Stops q b f

-- at most one applies to a question
abbrev pub HasOneVerdict : Type 0
HasOneVerdict = (q : Question) (b : List ℕ) (x y : Result Report Fault) → Applies q b x → Applies q b y → x ≡ y

-- a well formed tree within the limits costs at most that many reads
abbrev pub CostIsBounded : Type 0
CostIsBounded = (q : Question) (b : List ℕ) (y : Tree) → IsWellFormed q b y → IsWithin q b y → cost q b y ≤ most_reads q.rows q.limits (length b)

-- so does a fault: within a budget of reads it comes after at most 7 more than these
abbrev pub ReadsAreBounded : Type 0
ReadsAreBounded = (q : Question) (b : List ℕ) (f : Fault) → Stops q b f → f.reads ≤ most_reads q.rows q.limits (length b)

-- by the limits of a length so many reads are allowed exactly where the limits allow them, and the length does
abbrev pub LengthAllows : Type 0
LengthAllows = (L : Bounds) (per_byte len n : ℕ) → AreAllowed (limits_of_length L per_byte len).reads n ↔ (AreAllowed L.reads n × (n ≤ per_byte * (len + 64)))
