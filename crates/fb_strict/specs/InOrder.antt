-- The demands in their order: each chain answers the first that isn't met, after the reads that were made by then.
use Rattle.std.specs.Prelude.{◌≡◌, ◌↔◌, ℕ, ◌+◌, ◌-◌, ◌*◌, ◌<◌, ◌≤◌, ◌≢◌, ◌==◌, ◌||◌, nat_le, Bool, true, false, if◌then◌else◌, List, length, Option, Some, None}
use Rattle.fb_bytes.specs.Word.{word}
use Rattle.fb_schema.specs.{declared.kinds.Kind.Kind, Rows.Rows, Live.Live, Live.live_fields, Members.member_of}
use Rattle.std.specs.{List.list_any, Str.is_utf8, Str.Lossy.utf8_valid_len}
use Rattle.fb_rules.specs.declared.{checks.Checks.Checks, fault.Reason.TheVariants.OutOfBuffer, fault.Reason.TheVariants.MissingRequired, fault.Reason.TheVariants.LengthsDiffer}
use Rattle.fb_rules.specs.{declared.fault.Reason.TheVariants.FlexContent, declared.fault.Reason.TheVariants.NotUtf8, declared.fault.Reason.TheVariants.UnknownField, Places.fits}
use Rattle.fb_rules.specs.{Places.target, Cost.slot_reads, Cost.reads_if_present, Fields.union_type, Fields.types_begin, Order.Failure, Order.check, Order.after, Order.◌▷◌}
use Rattle.fb_rules.specs.Order.{offset_failure}
use Rattle.fb_strict.specs.{declared.inner.Inner.Inner, declared.tasks.Held.Held, declared.tasks.Held.TheVariants.Buffer, declared.tasks.Held.TheVariants.Flex, Strict.text_at}
use Rattle.fb_strict.specs.Strict.{IsUtf8At, IsLiveSlot, LeadsInside, IsStrictUnion, IsStrictElement, IsStrictUnions}

-- a chain, where it is asked
abbrev pub where_asked : Bool → Option Failure → Option Failure
where_asked true chain = chain
where_asked false chain = None

-- the buffer's length, told at its end
abbrev pub length_failure : List ℕ → Option Failure
length_failure b = check (nat_le 12 (length b)) OutOfBuffer (length b) 0 None

-- a uoffset at p that leads to what nobody knows
unfoldable pub inside_failure : Checks → List ℕ → ℕ → Option Failure
inside_failure c b p = offset_failure c b p ▷ after 1 (check (fits b (target b p) 1) OutOfBuffer (target b p) 0 None)

-- the same where the type of its union has this member, which the walk followed
abbrev pub value_failure : Checks → List ℕ → ℕ → Option Kind → Option Failure
value_failure c b p None = inside_failure c b p
value_failure c b p (Some member) = None

abbrev pub value_reads : Option Kind → ℕ
value_reads None = 1
value_reads (Some member) = 0

-- a union of the table at t, whose type field and value stand at these places; its type is read first
abbrev pub union_failure : Checks → List ℕ → Rows → (e t : ℕ) → (types place : Option ℕ) → Option Failure
union_failure c b S e t types None = after (reads_if_present 1 types) (check (union_type b types == 0) MissingRequired t 0 None)
union_failure c b S e t types (Some p) = after (reads_if_present 1 types) (value_failure c b p (member_of S e (union_type b types)))

-- the reads of it, and of where its value leads if that is asked
abbrev pub union_reads : Bool → List ℕ → Rows → ℕ → (types place : Option ℕ) → ℕ
union_reads asked b S e types None = reads_if_present 1 types
union_reads asked b S e types (Some p) = reads_if_present 1 types + (if asked then value_reads (member_of S e (union_type b types)) else 0)

-- the member that a value has, none where there is no value
abbrev pub member_at : List ℕ → Rows → ℕ → (types place : Option ℕ) → Option Kind
member_at b S e types None = None
member_at b S e types (Some p) = member_of S e (union_type b types)

-- a vector of unions and that of its types, both or none: told at the field that is there
abbrev pub together_failure : (types place : Option ℕ) → Option Failure
together_failure (Some q) None = Some (record { reason = LengthsDiffer; at = q; reads = 0 })
together_failure None (Some p) = Some (record { reason = LengthsDiffer; at = p; reads = 0 })
together_failure _ _ = None

-- the uoffset at p in a vector of unions, of this type
abbrev pub typed_failure : Checks → List ℕ → Rows → (e type p : ℕ) → Option Failure
typed_failure c b S e type p = if type == 0 then None else value_failure c b p (member_of S e type)

abbrev pub typed_reads : Rows → (e type : ℕ) → ℕ
typed_reads S e type = if type == 0 then 0 else value_reads (member_of S e type)

-- the same, whose type stands at q and is read first
unfoldable pub element_failure : Checks → List ℕ → Rows → (e q p : ℕ) → Option Failure
element_failure c b S e q p = after 1 (typed_failure c b S e (word b q 1) p)

unfoldable pub element_reads : Bool → List ℕ → Rows → (e q : ℕ) → ℕ
element_reads asked b S e q = 1 + (if asked then typed_reads S e (word b q 1) else 0)

-- a field whose value stands at this place, and whose bytes hold a flexbuffer: none may be there
abbrev pub flex_failure : (place : Option ℕ) → Option Failure
flex_failure None = None
flex_failure (Some p) = Some (record { reason = FlexContent; at = p; reads = 0 })

-- a field with this slot of the table at t, whose bytes hold this: its chain, its reads, and the buffer that lies in it
abbrev pub bytes_failure : List ℕ → (t slot : ℕ) → (place : Option ℕ) → Held → Option Failure
bytes_failure b t slot place (Buffer k) = None
bytes_failure b t slot place Flex = after (slot_reads b t slot) (flex_failure place)

abbrev pub bytes_reads : List ℕ → (t slot : ℕ) → (place : Option ℕ) → Held → ℕ
bytes_reads b t slot place (Buffer k) = slot_reads b t slot + reads_if_present 2 place
bytes_reads b t slot place Flex = slot_reads b t slot

abbrev pub bytes_inner : List ℕ → Held → (place : Option ℕ) → Option Inner
bytes_inner b (Buffer k) (Some p) = Some (record { at = target b p + 4; size = word b (target b p) 4; root = k })
bytes_inner b _ _ = None

-- the text at s, told at its first byte that can't go on
abbrev pub text_failure : List ℕ → ℕ → Option Failure
text_failure b s = check (is_utf8 (text_at b s)) NotUtf8 (s + 4 + utf8_valid_len (text_at b s)) 0 None

-- its uoffset, its length, and each of its bytes
abbrev pub text_reads : List ℕ → ℕ → ℕ
text_reads b s = 2 + word b s 4

-- the slot at this place in the vtable at v, of a table with these live fields: it is read first
abbrev pub is_live_slot : List Live → ℕ → Bool
is_live_slot fs slot = list_any (λ (f : Live). f.slot == slot) fs

abbrev pub slot_failure : List ℕ → List Live → (v slot : ℕ) → Option Failure
slot_failure b fs v slot = check (word b (v + slot) 2 == 0 || is_live_slot fs slot) UnknownField (v + slot) 1 None

-- the reads of where a union or a vector of them stands in the table at t, and of where its types do
abbrev pub places_reads : List ℕ → (t slot : ℕ) → ℕ
places_reads b t slot = slot_reads b t slot + slot_reads b t (slot - 2)

-- a chain finds nothing exactly where the facts hold

abbrev pub LengthLaw : Type 0
LengthLaw = (b : List ℕ) → (length_failure b ≡ None) ↔ (12 ≤ length b)

abbrev pub InsideLaw : Type 0
InsideLaw = (c : Checks) (b : List ℕ) (p : ℕ) → (inside_failure c b p ≡ None) ↔ LeadsInside c b p

abbrev pub UnionLaw : Type 0
UnionLaw = (c : Checks) (b : List ℕ) (S : Rows) (e t : ℕ) (types place : Option ℕ) → (union_failure c b S e t types place ≡ None) ↔ IsStrictUnion c b S e types place

abbrev pub ElementLaw : Type 0
ElementLaw = (c : Checks) (b : List ℕ) (S : Rows) (e q p : ℕ) → (element_failure c b S e q p ≡ None) ↔ IsStrictElement c b S e (word b q 1) p

abbrev pub SlotLaw : Type 0
SlotLaw = (b : List ℕ) (S : Rows) (k v slot : ℕ) → (slot_failure b (live_fields S k) v slot ≡ None) ↔ (word b (v + slot) 2 ≢ 0 → IsLiveSlot S k slot)

abbrev pub TextLaw : Type 0
TextLaw = (b : List ℕ) (s : ℕ) → (text_failure b s ≡ None) ↔ IsUtf8At b s

-- of a vector of unions: that it is there with its types, and of each of its uoffsets
abbrev pub UnionsAreTold : Checks → List ℕ → Rows → ℕ → (types place : Option ℕ) → Type 0
UnionsAreTold c b S e types place =
    (together_failure types place ≡ None)
    × ((p j : ℕ) → place ≡ Some p → j < word b (target b p) 4 → element_failure c b S e (types_begin b types + j) (target b p + 4 + 4 * j) ≡ None)

abbrev pub UnionsLaw : Type 0
UnionsLaw = (c : Checks) (b : List ℕ) (S : Rows) (e : ℕ) (types place : Option ℕ) → UnionsAreTold c b S e types place ↔ IsStrictUnions c b S e types place
