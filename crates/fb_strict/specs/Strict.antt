-- What is demanded of a buffer beside the rules of the format: what the accessors of generated code follow leads
-- inside.
use Rattle.std.specs.Prelude.{◌≡◌, ◌≢◌, ◌↔◌, ℕ, ◌+◌, ◌-◌, ◌*◌, ◌/◌, ◌<◌, ◌≤◌, true, IsUtf8, List, length, take, drop, slice_get, Option, Some, None}
use Rattle.fb_bytes.specs.Word.{word}
use Rattle.fb_schema.specs.{declared.kinds.Kind.Kind, declared.kinds.Kind.TheVariants.Union, declared.kinds.Kind.TheVariants.Unions, Rows.Rows, Live.Live, Live.live_fields}
use Rattle.fb_schema.specs.Members.{member_of}
use Rattle.fb_rules.specs.{declared.checks.Checks.Checks, Places.target, Places.field_place, Places.vtable, Places.vtable_size, Facts.IsOffset, Fields.type_place}
use Rattle.fb_rules.specs.{Fields.types_begin, Fields.union_type, Fields.Entry, Fields.entries, Fields.to_string, Tree.Tree, Tree.node, Tree.Kids, Tree.no_kids, Tree.kid}
use Rattle.fb_rules.specs.Tree.{Elements, no_elements, element, Element, leaf, table}
use Rattle.fb_strict.specs.{Demanded.Demanded, Demanded.held_of, declared.tasks.Held.Held, declared.tasks.Held.TheVariants.Flex}

-- a uoffset stands at p, and leads inside the buffer
pub record LeadsInside (c : Checks) (b : List ℕ) (p : ℕ) : Type 0 where
  pub offset : IsOffset c b p
  pub inside : target b p < length b

-- a union whose type field and value stand at these places: where its type isn't 0 its value is there, and a value
-- whose type has no member leads inside
pub record IsStrictUnion (c : Checks) (b : List ℕ) (S : Rows) (e : ℕ) (types place : Option ℕ) : Type 0 where
  pub valued : place ≡ None → union_type b types ≡ 0
  pub leads : (p : ℕ) → place ≡ Some p → member_of S e (union_type b types) ≡ None → LeadsInside c b p

-- the uoffset at p in a vector of unions, of this type: where that isn't 0 and has no member, it leads inside
abbrev pub IsStrictElement : Checks → List ℕ → Rows → (e type p : ℕ) → Type 0
IsStrictElement c b S e type p = type ≢ 0 → member_of S e type ≡ None → LeadsInside c b p

-- a vector of unions, likewise: it is there exactly where the vector of its types is
pub record IsStrictUnions (c : Checks) (b : List ℕ) (S : Rows) (e : ℕ) (types place : Option ℕ) : Type 0 where
  pub together : (types ≡ None) ↔ (place ≡ None)
  pub leads : (p j : ℕ) → place ≡ Some p → j < word b (target b p) 4 → IsStrictElement c b S e (word b (types_begin b types + j) 1) (target b p + 4 + 4 * j)

-- a field of this kind whose type field and value stand at these places: nothing is demanded of what is no union
abbrev pub HasStrictUnions : Checks → List ℕ → Rows → (types place : Option ℕ) → Kind → Type 0
HasStrictUnions c b S types place (Union e) = IsStrictUnion c b S e types place
HasStrictUnions c b S types place (Unions e) = IsStrictUnions c b S e types place
HasStrictUnions c b S types place _ = Unit {0}

-- the bytes of the text at s, and that they are UTF-8
abbrev pub text_at : List ℕ → ℕ → List ℕ
text_at b s = take (word b s 4) (drop (s + 4) b)

abbrev pub IsUtf8At : List ℕ → ℕ → Type 0
IsUtf8At b s = IsUtf8 (text_at b s)

-- each of these uoffsets that leads to a text leads to one that is UTF-8
abbrev pub AreUtf8 : List ℕ → List Entry → Type 0
AreUtf8 b xs = (i : ℕ) (x : Entry) → slice_get xs i ≡ Some x → x.lead ≡ to_string → IsUtf8At b (target b x.place)

-- what is demanded of the field f of the table at t
pub record IsStrictField (D : Demanded) (c : Checks) (b : List ℕ) (S : Rows) (t : ℕ) (f : Live) : Type 0 where
  pub unions : D.unions ≡ true → HasStrictUnions c b S (type_place b t f.slot) (field_place b t f.slot) f.kind
  pub texts : D.utf8 ≡ true → AreUtf8 b (entries b S t f)

-- the field f of the table at t, which holds this: a flexbuffer isn't there
abbrev pub IsFlexless : List ℕ → (t : ℕ) → Live → Option Held → Type 0
IsFlexless b t f (Some Flex) = field_place b t f.slot ≡ None
IsFlexless b t f _ = Unit {0}

-- how many slots the vtable of the table at t has
abbrev pub slot_count : List ℕ → ℕ → ℕ
slot_count b t = (vtable_size b t - 4) / 2

-- a live field of the object k has this slot
abbrev pub IsLiveSlot : Rows → (k slot : ℕ) → Type 0
IsLiveSlot S k slot = (i : ℕ) × (f : Live) × (slice_get (live_fields S k) i ≡ Some f) × (f.slot ≡ slot)

-- each slot in the vtable of the table at t, of the object k, that isn't 0 is one of a live field: they stand from 4 on
abbrev pub HasKnownFields : List ℕ → Rows → (k t : ℕ) → Type 0
HasKnownFields b S k t = (i : ℕ) → i < slot_count b t → word b (vtable b t + (4 + 2 * i)) 2 ≢ 0 → IsLiveSlot S k (4 + 2 * i)

-- what is demanded of the table at t, of the object k: of its slots, of each of its live fields, and that none of these
-- holds a flexbuffer
pub record IsStrictTable (D : Demanded) (c : Checks) (b : List ℕ) (S : Rows) (k t : ℕ) : Type 0 where
  pub known : D.known_fields ≡ true → HasKnownFields b S k t
  pub fields : (i : ℕ) (f : Live) → slice_get (live_fields S k) i ≡ Some f → IsStrictField D c b S t f
  pub flexless : (i : ℕ) (f : Live) → slice_get (live_fields S k) i ≡ Some f → IsFlexless b t f (held_of D k f)

-- all tables of a tree
unfoldable mutual
  pub IsStrict : Tree → Demanded → Checks → List ℕ → Rows → Type 0
  IsStrict (node k t kids) D c b S = IsStrictTable D c b S k t × KidsAreStrict kids D c b S

  pub KidsAreStrict : Kids → Demanded → Checks → List ℕ → Rows → Type 0
  KidsAreStrict no_kids D c b S = Unit {0}
  KidsAreStrict (kid ys kids) D c b S = ElementsAreStrict ys D c b S × KidsAreStrict kids D c b S

  pub ElementsAreStrict : Elements → Demanded → Checks → List ℕ → Rows → Type 0
  ElementsAreStrict no_elements D c b S = Unit {0}
  ElementsAreStrict (element y ys) D c b S = ElementIsStrict y D c b S × ElementsAreStrict ys D c b S

  pub ElementIsStrict : Element → Demanded → Checks → List ℕ → Rows → Type 0
  ElementIsStrict leaf D c b S = Unit {0}
  ElementIsStrict (table y) D c b S = IsStrict y D c b S

-- a buffer that unfolds into this tree: its tables are strict, and where unions are asked it has no fewer than 12
-- bytes, a prefix included
pub record IsStrictBuffer (D : Demanded) (c : Checks) (b : List ℕ) (S : Rows) (y : Tree) : Type 0 where
  pub long : D.unions ≡ true → 12 ≤ length b
  pub tables : IsStrict y D c b S
