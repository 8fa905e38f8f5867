-- What is false where a buffer stops, by the reason of the fault and its position, said without an order of tests.
use Rattle.std.specs.Prelude.{◌≡◌, ◌≢◌, ℕ, suc, ◌+◌, ◌*◌, ◌%◌, ◌<◌, ◌≤◌, ◌⊎◌, IsTrue, IsFalse, List, length, slice_get, Option, Some, None}
use Rattle.fb_bytes.specs.Word.{word}
use Rattle.fb_schema.specs.declared.kinds.Kind.{Kind, TheVariants.Scalar, TheVariants.Text, TheVariants.Struct, TheVariants.Table, TheVariants.Union, TheVariants.Scalars}
use Rattle.fb_schema.specs.declared.kinds.Kind.TheVariants.{Texts, Structs, Tables, Unions}
use Rattle.fb_schema.specs.{Rows.Rows, Live.Live, Live.live_fields}
use Rattle.fb_rules.specs.declared.{checks.Checks.Checks, fault.Fault.Fault, fault.Reason.Reason, start.Start.Start, start.Start.TheVariants.Prefixed, start.Ident.Ident}
use Rattle.fb_rules.specs.declared.{start.Ident.TheVariants.Want, fault.Reason.TheVariants.WrongPrefix, fault.Reason.TheVariants.OutOfBuffer, fault.Reason.TheVariants.Misaligned}
use Rattle.fb_rules.specs.declared.fault.Reason.TheVariants.{ZeroOffset, WrongIdentifier, TooDeep, TooManyTables, BadVtable, MissingRequired, NoTerminator, LengthsDiffer}
use Rattle.fb_rules.specs.{declared.fault.Reason.TheVariants.PastTable, declared.fault.Reason.TheVariants.TooManyReads, Bounds.Bounds, Bounds.AreTooMany, Question.Question}
use Rattle.fb_rules.specs.{Facts.IsTable, Facts.IsOffset, Tree.kids_size, Tree.elements_size, WellFormed.base, WellFormed.IsStart, Way.way_to_root, Places.target}
use Rattle.fb_rules.specs.{Places.has_vtable, Places.vtable, Places.vtable_size, Places.inline_size, Places.field_place, Fields.IsField, Fields.type_place, Fields.type_count}
use Rattle.fb_rules.specs.{Fields.Lead, Fields.to_table, Fields.to_struct, Fields.to_string, Fields.to_nothing, Fields.Entry, Fields.entries, Stops.Trail, Stops.at_head}
use Rattle.fb_rules.specs.Stops.{at_field, FieldTrail, at_own, at_element, ElementTrail, at_lead, through, IsTrail, Stops}

-- The parts of a buffer: what is false of each, by the reason and the position that are told.

-- n bytes at p are in the buffer, or not
abbrev pub AreIn : List ℕ → ℕ → ℕ → Type 0
AreIn b p n = p + n ≤ length b

abbrev pub AreOut : List ℕ → ℕ → ℕ → Type 0
AreOut b p n = length b < p + n

-- alignment is checked, and p is no multiple of it
abbrev pub IsMisaligned : Checks → ℕ → ℕ → Type 0
IsMisaligned c p align = IsTrue c.alignment × (p % align ≢ 0)

-- of a prefix
abbrev pub PrefixIsFalse : List ℕ → Start → Reason → ℕ → Type 0
PrefixIsFalse b Prefixed OutOfBuffer at = (at ≡ 0) × AreOut b 0 4
PrefixIsFalse b Prefixed WrongPrefix at = (at ≡ 0) × AreIn b 0 4 × (word b 0 4 + 4 ≢ length b)
PrefixIsFalse b _ _ at = ⊥

-- of the identifier at p
abbrev pub IdentIsFalse : List ℕ → ℕ → Ident → Reason → ℕ → Type 0
IdentIsFalse b p (Want name) OutOfBuffer at = (at ≡ p) × AreOut b p 4
IdentIsFalse b p (Want name) WrongIdentifier at = (at ≡ p) × AreIn b p 4 × (word b p 4 ≢ word name 0 4)
IdentIsFalse b p _ _ at = ⊥

-- of a uoffset at p
abbrev pub OffsetIsFalse : Checks → List ℕ → ℕ → Reason → ℕ → Type 0
OffsetIsFalse c b p OutOfBuffer at = (at ≡ p) × AreOut b p 4
OffsetIsFalse c b p Misaligned at = (at ≡ p) × AreIn b p 4 × IsMisaligned c p 4
OffsetIsFalse c b p ZeroOffset at = (at ≡ p) × AreIn b p 4 × (word b p 4 ≡ 0)
OffsetIsFalse c b p _ at = ⊥

-- of the head of a table at t: its vtable may be out of the buffer, which is told at the table, or may not end in
-- it
abbrev pub HeadIsFalse : Checks → List ℕ → ℕ → Reason → ℕ → Type 0
HeadIsFalse c b t OutOfBuffer at =
    ((at ≡ t) × AreOut b t 4)
    ⊎ (((at ≡ t) × AreIn b t 4 × (IsFalse (has_vtable b t) ⊎ AreOut b (vtable b t) 2)) ⊎ ((at ≡ vtable b t) × AreOut b (vtable b t) (vtable_size b t)))
HeadIsFalse c b t Misaligned at = ((at ≡ t) × AreIn b t 4 × IsMisaligned c t 4) ⊎ ((at ≡ vtable b t) × AreIn b (vtable b t) 2 × IsMisaligned c (vtable b t) 2)
HeadIsFalse c b t BadVtable at = (at ≡ vtable b t) × AreIn b (vtable b t) 2 × ((vtable_size b t % 2 ≢ 0) ⊎ (vtable_size b t < 4))
HeadIsFalse c b t _ at = ⊥

-- of a string at s: its count, or its bytes with the terminator
abbrev pub StringIsFalse : Checks → List ℕ → ℕ → Reason → ℕ → Type 0
StringIsFalse c b s OutOfBuffer at = ((at ≡ s) × AreOut b s 4) ⊎ ((at ≡ s + 4) × AreOut b (s + 4) (word b s 4 + 1))
StringIsFalse c b s Misaligned at = (at ≡ s) × AreIn b s 4 × IsMisaligned c s 4
StringIsFalse c b s NoTerminator at = (at ≡ s + 4 + word b s 4) × AreIn b (s + 4) (word b s 4 + 1) × (word b (s + 4 + word b s 4) 1 ≢ 0)
StringIsFalse c b s _ at = ⊥

-- of a vector at v of elements of this size and alignment: its count, or its elements
abbrev pub VectorIsFalse : Checks → List ℕ → ℕ → ℕ → ℕ → Reason → ℕ → Type 0
VectorIsFalse c b v size align OutOfBuffer at = ((at ≡ v) × AreOut b v 4) ⊎ ((at ≡ v + 4) × AreOut b (v + 4) (word b v 4 * size))
VectorIsFalse c b v size align Misaligned at =
    ((at ≡ v) × AreIn b v 4 × IsMisaligned c v 4) ⊎ ((at ≡ v + 4) × AreIn b (v + 4) (word b v 4 * size) × (0 < word b v 4) × IsMisaligned c (v + 4) align)
VectorIsFalse c b v size align _ at = ⊥

-- of a scalar or struct at p
abbrev pub InlineIsFalse : Checks → List ℕ → ℕ → ℕ → ℕ → Reason → ℕ → Type 0
InlineIsFalse c b p size align OutOfBuffer at = (at ≡ p) × AreOut b p size
InlineIsFalse c b p size align Misaligned at = (at ≡ p) × AreIn b p size × IsMisaligned c p align
InlineIsFalse c b p size align _ at = ⊥

-- n bytes at p don't end within the table at t, and inline sizes are checked
abbrev pub PastIsFalse : Checks → List ℕ → ℕ → ℕ → ℕ → Reason → ℕ → Type 0
PastIsFalse c b t p n PastTable at = (at ≡ p) × IsTrue c.inline_size × (t + inline_size b t < p + n)
PastIsFalse c b t p n _ at = ⊥

-- Fields by themselves, and elements.

-- of a scalar or struct field at p
abbrev pub InlineFieldIsFalse : Checks → List ℕ → ℕ → ℕ → ℕ → ℕ → Reason → ℕ → Type 0
InlineFieldIsFalse c b t p size align reason at = PastIsFalse c b t p size reason at ⊎ InlineIsFalse c b p size align reason at

-- of a field at p that holds a uoffset to a vector
abbrev pub VectorFieldIsFalse : Checks → List ℕ → ℕ → ℕ → ℕ → ℕ → Reason → ℕ → Type 0
VectorFieldIsFalse c b t p size align reason at =
    PastIsFalse c b t p 4 reason at ⊎ (OffsetIsFalse c b p reason at ⊎ (IsOffset c b p × VectorIsFalse c b (target b p) size align reason at))

-- of the count of a vector of unions, whose types' field is at this place
abbrev pub CountIsFalse : List ℕ → ℕ → Option ℕ → Reason → ℕ → Type 0
CountIsFalse b p types LengthsDiffer at = (at ≡ target b p) × (word b (target b p) 4 ≢ type_count b types)
CountIsFalse b p types _ at = ⊥

-- of a field at p of this kind
abbrev pub PresentIsFalse : Checks → List ℕ → ℕ → Live → ℕ → Kind → Reason → ℕ → Type 0
PresentIsFalse c b t g p (Scalar s) reason at = InlineFieldIsFalse c b t p g.size g.align reason at
PresentIsFalse c b t g p (Struct k) reason at = InlineFieldIsFalse c b t p g.size g.align reason at
PresentIsFalse c b t g p Text reason at = PastIsFalse c b t p 4 reason at
PresentIsFalse c b t g p (Table k) reason at = PastIsFalse c b t p 4 reason at
PresentIsFalse c b t g p (Union e) reason at = PastIsFalse c b t p 4 reason at
PresentIsFalse c b t g p (Scalars s) reason at = VectorFieldIsFalse c b t p g.size g.align reason at
PresentIsFalse c b t g p (Structs k) reason at = VectorFieldIsFalse c b t p g.size g.align reason at
PresentIsFalse c b t g p Texts reason at = VectorFieldIsFalse c b t p 4 4 reason at
PresentIsFalse c b t g p (Tables k) reason at = VectorFieldIsFalse c b t p 4 4 reason at
PresentIsFalse c b t g p (Unions e) reason at = VectorFieldIsFalse c b t p 4 4 reason at ⊎ CountIsFalse b p (type_place b t g.slot) reason at

-- of a field with this place in the table at t, or of one that is absent
abbrev pub PlacedIsFalse : Checks → List ℕ → ℕ → Live → Option ℕ → Reason → ℕ → Type 0
PlacedIsFalse c b t g None MissingRequired at = (at ≡ t) × IsTrue g.required
PlacedIsFalse c b t g None _ at = ⊥
PlacedIsFalse c b t g (Some p) reason at = PresentIsFalse c b t g p g.kind reason at

-- of a uoffset at p, or of what it leads to, but for a table
abbrev pub LeadIsFalse : Checks → List ℕ → ℕ → Lead → Reason → ℕ → Type 0
LeadIsFalse c b p (to_table k) reason at = OffsetIsFalse c b p reason at
LeadIsFalse c b p (to_struct size align) reason at = OffsetIsFalse c b p reason at ⊎ (IsOffset c b p × InlineIsFalse c b (target b p) size align reason at)
LeadIsFalse c b p to_string reason at = OffsetIsFalse c b p reason at ⊎ (IsOffset c b p × StringIsFalse c b (target b p) reason at)
LeadIsFalse c b p to_nothing reason at = ⊥

-- Where it is false.

-- the reads that the fault tells are more than the budget, which is told at p
pub record IsOverBudget (L : Bounds) (p : ℕ) (f : Fault) : Type 0 where
  pub reason : f.reason ≡ TooManyReads
  pub at : f.at ≡ p
  pub reads : AreTooMany L.reads f.reads

-- an entry of a live field of the table at t, of the object k
pub record HasEntry (c : Checks) (b : List ℕ) (S : Rows) (k t : ℕ) : Type 0 where
  pub head : IsTable c b t
  pub field : Live
  pub place : ℕ
  pub is_live : slice_get (live_fields S k) place ≡ Some field
  pub own : IsField c b S t field
  pub entry : Entry
  pub entry_place : ℕ
  pub is_entry : slice_get (entries b S t field) entry_place ≡ Some entry

-- that table leads on to the table at u, of the object j
pub record LeadsOn (c : Checks) (b : List ℕ) (S : Rows) (k t j u : ℕ) : Type 0 where
  pub by : HasEntry c b S k t
  pub lead : (by.entry).lead ≡ to_table j
  pub offset : IsOffset c b (by.entry).place
  pub is_target : u ≡ target b (by.entry).place

-- The tables to which a buffer leads from the table at `begin`, of the object `root`: each with the number of tables
-- above it, and the object and field that lead to it, which are the root's and none for that table itself.
pub data IsReached (c : Checks) (b : List ℕ) (S : Rows) (root begin : ℕ) : ℕ → ℕ → ℕ → ℕ → Option ℕ → Type 0 where
  as_root : IsReached c b S root begin root begin 0 root None
  from_above : (k t above object : ℕ) (field : Option ℕ) (j u : ℕ) → IsReached c b S root begin k t above object field
      → (on : LeadsOn c b S k t j u) → IsReached c b S root begin j u (suc above) k (Some ((on.by).field).number)

-- at the start
pub record FailsAtStart (q : Question) (b : List ℕ) (f : Fault) : Type 0 where
  pub object : f.object ≡ q.root
  pub field : f.field ≡ None
  pub because : PrefixIsFalse b q.start f.reason f.at
      ⊎ (IdentIsFalse b (base q.start + 4) q.ident f.reason f.at ⊎ (OffsetIsFalse q.checks b (base q.start) f.reason f.at ⊎ IsOverBudget q.limits (base q.start) f))

-- with so many tables above the one at t: as many are open as is allowed, or as many were opened, which TablesRunOut says
abbrev pub LimitIsReached : Bounds → ℕ → ℕ → Reason → ℕ → Type 0
LimitIsReached L t above TooDeep at = (at ≡ t) × (L.depth ≤ above)
LimitIsReached L t above TooManyTables at = at ≡ t
LimitIsReached L t above _ at = ⊥

-- before the head of that table, which is told of the object and field that lead to it
pub record FailsAtLimit (t above object : ℕ) (field : Option ℕ) (L : Bounds) (f : Fault) : Type 0 where
  pub object_is : f.object ≡ object
  pub field_is : f.field ≡ field
  pub because : LimitIsReached L t above f.reason f.at

-- in the head of the table at t, of the object k
pub record FailsInHead (c : Checks) (b : List ℕ) (k t : ℕ) (L : Bounds) (f : Fault) : Type 0 where
  pub object : f.object ≡ k
  pub field : f.field ≡ None
  pub because : HeadIsFalse c b t f.reason f.at ⊎ IsOverBudget L t f

-- in a field of that table by itself
pub record FailsInField (c : Checks) (b : List ℕ) (S : Rows) (k t : ℕ) (L : Bounds) (f : Fault) : Type 0 where
  pub head : IsTable c b t
  pub at_fault : Live
  pub place : ℕ
  pub is_live : slice_get (live_fields S k) place ≡ Some at_fault
  pub object : f.object ≡ k
  pub field : f.field ≡ Some at_fault.number
  pub because : PlacedIsFalse c b t at_fault (field_place b t at_fault.slot) f.reason f.at ⊎ IsOverBudget L t f

-- in an element of a field of that table
pub record FailsInElement (c : Checks) (b : List ℕ) (S : Rows) (k t : ℕ) (L : Bounds) (f : Fault) : Type 0 where
  pub by : HasEntry c b S k t
  pub object : f.object ≡ k
  pub field : f.field ≡ Some (by.field).number
  pub because : LeadIsFalse c b (by.entry).place (by.entry).lead f.reason f.at ⊎ IsOverBudget L (by.entry).place f

-- at a table that is reached: before or in its head, in a field, or in an element of one
pub record FailsAtTable (c : Checks) (b : List ℕ) (S : Rows) (root begin : ℕ) (L : Bounds) (f : Fault) : Type 0 where
  pub object : ℕ
  pub table : ℕ
  pub above : ℕ
  pub leading_object : ℕ
  pub leading_field : Option ℕ
  pub reached : IsReached c b S root begin object table above leading_object leading_field
  pub because : FailsAtLimit table above leading_object leading_field L f ⊎ (FailsInHead c b object table L f ⊎ (FailsInField c b S object table L f ⊎ FailsInElement c b S object table L f))

-- where a buffer stops, the reason is true: at the start, or past it at a table that is reached
abbrev pub StopsTruly : Type 0
StopsTruly =
    (q : Question) (b : List ℕ) (f : Fault) → Stops q b f → FailsAtStart q b f ⊎ (IsStart q.checks b q.start q.ident × FailsAtTable q.checks b q.rows q.root (target b (base q.start)) q.limits f)

-- how many tables a trail opens: those that are open at its end, and the nodes of all trees that it passes
unfoldable mutual
  pub opened_on : Trail → ℕ
  opened_on at_head = 0
  opened_on (at_field earlier s) = 1 + kids_size earlier + opened_on_field s

  pub opened_on_field : FieldTrail → ℕ
  opened_on_field at_own = 0
  opened_on_field (at_element before s) = elements_size before + opened_on_element s

  pub opened_on_element : ElementTrail → ℕ
  opened_on_element at_lead = 0
  opened_on_element (through s) = opened_on s

-- where a trail stops since too many tables were opened, it opens as many as are allowed
abbrev pub TablesRunOut : Type 0
TablesRunOut =
    (q : Question) (b : List ℕ) (s : Trail) (f : Fault) → IsTrail s q.checks b q.rows q.limits q.root (target b (base q.start)) (way_to_root q.root q.start q.ident) f
    → f.reason ≡ TooManyTables → (q.limits).tables ≤ opened_on s
