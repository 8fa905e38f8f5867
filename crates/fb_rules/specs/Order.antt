-- The tests in their order: each chain answers the first that fails.
use Rattle.std.specs.Prelude.{ℕ, ◌+◌, ◌*◌, ◌%◌, Bool, not, ◌&&◌, ◌||◌, ◌==◌, nat_le, if◌then◌else◌, List, length, Option, Some, None}
use Rattle.fb_bytes.specs.Word.{word}
use Rattle.fb_schema.specs.declared.kinds.Kind.{Kind}
use Rattle.fb_schema.specs.declared.kinds.Kind.TheVariants.{Scalar, Text, Struct, Table, Union, Scalars, Texts, Structs, Tables, Unions}
use Rattle.fb_schema.specs.{Rows.Rows, Live.Live, Members.member_of}
use Rattle.fb_rules.specs.declared.{checks.Checks.Checks, start.Start.Start, start.Start.TheVariants.Bare, start.Start.TheVariants.Prefixed}
use Rattle.fb_rules.specs.declared.{start.Ident.Ident, start.Ident.TheVariants.Any, start.Ident.TheVariants.Want, fault.Reason.Reason}
use Rattle.fb_rules.specs.declared.fault.Reason.TheVariants.{WrongPrefix, OutOfBuffer, Misaligned, ZeroOffset, WrongIdentifier, BadVtable, MissingRequired, NoTerminator, LengthsDiffer, PastTable}
use Rattle.fb_rules.specs.Places.{fits, is_aligned, target, has_vtable, vtable, vtable_size, field_place, ends_in_table}
use Rattle.fb_rules.specs.Fields.{type_place, union_type, type_count, Lead, to_table, to_struct, to_string, to_nothing, Entry}
use Rattle.fb_rules.specs.{Cost.slot_reads, Cost.reads_if_present, WellFormed.base, WellFormed.prefix_reads, WellFormed.ident_reads}

-- a test that fails: why, at which position, and the reads counted by then
pub record Failure : Type 0 where
  pub reason : Reason
  pub at : ℕ
  pub reads : ℕ

-- one test, after so many reads, and then the others
abbrev pub check : Bool → Reason → ℕ → ℕ → Option Failure → Option Failure
check holds reason at reads rest = if holds then rest else Some (record { reason = reason; at = at; reads = reads })

-- the same after n more reads
abbrev pub after : ℕ → Option Failure → Option Failure
after n None = None
after n (Some e) = Some (record { reason = e.reason; at = e.at; reads = n + e.reads })

-- the first, or else the second
infixr 10 ◌▷◌
abbrev pub ◌▷◌ : {A : Type 0} → Option A → Option A → Option A
None ▷ second = second
(Some e) ▷ second = Some e

-- the prefix
unfoldable pub prefix_failure : List ℕ → Start → Option Failure
prefix_failure b Bare = None
prefix_failure b Prefixed =
    check (fits b 0 4) OutOfBuffer 0 0
    (check (word b 0 4 + 4 == length b) WrongPrefix 0 1 None)

-- the identifier at p
unfoldable pub ident_failure : List ℕ → ℕ → Ident → Option Failure
ident_failure b p Any = None
ident_failure b p (Want name) =
    check (fits b p 4) OutOfBuffer p 0
    (check (word b p 4 == word name 0 4) WrongIdentifier p 1 None)

-- a uoffset at p
unfoldable pub offset_failure : Checks → List ℕ → ℕ → Option Failure
offset_failure c b p =
    check (fits b p 4) OutOfBuffer p 0
    (check (is_aligned c p 4) Misaligned p 0
    (check (not (word b p 4 == 0)) ZeroOffset p 1 None))

-- the start of the buffer, up to its root offset
unfoldable pub start_failure : Checks → List ℕ → Start → Ident → Option Failure
start_failure c b start ident =
    prefix_failure b start
    ▷ after (prefix_reads start) (ident_failure b (base start + 4) ident
    ▷ after (ident_reads ident) (offset_failure c b (base start)))

-- the head of the table at t
unfoldable pub head_failure : Checks → List ℕ → ℕ → Option Failure
head_failure c b t =
    check (fits b t 4) OutOfBuffer t 0
    (check (is_aligned c t 4) Misaligned t 0
    (check (has_vtable b t && fits b (vtable b t) 2) OutOfBuffer t 1
    (check (is_aligned c (vtable b t) 2) Misaligned (vtable b t) 1
    (check ((vtable_size b t % 2 == 0) && nat_le 4 (vtable_size b t)) BadVtable (vtable b t) 2
    (check (fits b (vtable b t) (vtable_size b t)) OutOfBuffer (vtable b t) 2 None)))))

-- a string at s
unfoldable pub string_failure : Checks → List ℕ → ℕ → Option Failure
string_failure c b s =
    check (fits b s 4) OutOfBuffer s 0
    (check (is_aligned c s 4) Misaligned s 0
    (check (fits b (s + 4) (word b s 4 + 1)) OutOfBuffer (s + 4) 1
    (check (word b (s + 4 + word b s 4) 1 == 0) NoTerminator (s + 4 + word b s 4) 2 None)))

-- a vector at v of elements of this size and alignment
unfoldable pub vector_failure : Checks → List ℕ → ℕ → ℕ → ℕ → Option Failure
vector_failure c b v size align =
    check (fits b v 4) OutOfBuffer v 0
    (check (is_aligned c v 4) Misaligned v 0
    (check (fits b (v + 4) (word b v 4 * size)) OutOfBuffer (v + 4) 1
    (check ((word b v 4 == 0) || is_aligned c (v + 4) align) Misaligned (v + 4) 1 None)))

-- a scalar or struct at p
unfoldable pub inline_failure : Checks → List ℕ → ℕ → ℕ → ℕ → Option Failure
inline_failure c b p size align =
    check (fits b p size) OutOfBuffer p 0
    (check (is_aligned c p align) Misaligned p 0 None)

-- what stands inline in the table at t for a field at p, n bytes
unfoldable pub table_failure : Checks → List ℕ → ℕ → ℕ → ℕ → Option Failure
table_failure c b t p n = check (ends_in_table c b t p n) PastTable p 0 None

-- a scalar or struct field at p
abbrev pub inline_field_failure : Checks → List ℕ → ℕ → ℕ → ℕ → ℕ → Option Failure
inline_field_failure c b t p size align = table_failure c b t p size ▷ inline_failure c b p size align

-- a field at p that holds a uoffset to a vector
abbrev pub vector_field_failure : Checks → List ℕ → ℕ → ℕ → ℕ → ℕ → Option Failure
vector_field_failure c b t p size align =
    table_failure c b t p 4 ▷ offset_failure c b p ▷ after 1 (vector_failure c b (target b p) size align)

-- the same for a vector of unions, whose types' field is at this place
abbrev pub unions_field_failure : Checks → List ℕ → ℕ → ℕ → Option ℕ → Option Failure
unions_field_failure c b t p types =
    vector_field_failure c b t p 4 4
    ▷ after 2 (check (word b (target b p) 4 == type_count b types) LengthsDiffer (target b p) 0 None)

-- the value of a union at p, where its type has this member
abbrev pub union_field_failure : Checks → List ℕ → ℕ → ℕ → Option Kind → Option Failure
union_field_failure c b t p None = None
union_field_failure c b t p (Some member) = table_failure c b t p 4

-- a present field at p of this kind, before any element
abbrev pub present_failure : Checks → List ℕ → Rows → ℕ → Live → ℕ → Kind → Option Failure
present_failure c b S t f p (Scalar s) = inline_field_failure c b t p f.size f.align
present_failure c b S t f p (Struct k) = inline_field_failure c b t p f.size f.align
present_failure c b S t f p Text = table_failure c b t p 4
present_failure c b S t f p (Table k) = table_failure c b t p 4
present_failure c b S t f p (Union e) =
    after (1 + reads_if_present 1 (type_place b t f.slot)) (union_field_failure c b t p (member_of S e (union_type b (type_place b t f.slot))))
present_failure c b S t f p (Scalars s) = vector_field_failure c b t p f.size f.align
present_failure c b S t f p (Structs k) = vector_field_failure c b t p f.size f.align
present_failure c b S t f p Texts = vector_field_failure c b t p 4 4
present_failure c b S t f p (Tables k) = vector_field_failure c b t p 4 4
present_failure c b S t f p (Unions e) =
    after (1 + reads_if_present 2 (type_place b t f.slot)) (unions_field_failure c b t p (type_place b t f.slot))

-- the same of a field that may be absent
abbrev pub failure_at : Checks → List ℕ → Rows → ℕ → Live → Option ℕ → Option Failure
failure_at c b S t f None = check (not f.required) MissingRequired t 0 None
failure_at c b S t f (Some p) = present_failure c b S t f p f.kind

-- the field f of the table at t, its own slot first, before any element
unfoldable pub own_failure : Checks → List ℕ → Rows → ℕ → Live → Option Failure
own_failure c b S t f = after (slot_reads b t f.slot) (failure_at c b S t f (field_place b t f.slot))

-- the uoffset at p, and what it leads to, but for a table
abbrev pub lead_failure : Checks → List ℕ → ℕ → Lead → Option Failure
lead_failure c b p (to_table k) = offset_failure c b p
lead_failure c b p (to_struct size align) = offset_failure c b p ▷ after 1 (inline_failure c b (target b p) size align)
lead_failure c b p to_string = offset_failure c b p ▷ after 1 (string_failure c b (target b p))
lead_failure c b p to_nothing = None

-- an element, what tells its lead first
unfoldable pub element_failure : Checks → List ℕ → Entry → Option Failure
element_failure c b x = after x.reads (lead_failure c b x.place x.lead)
