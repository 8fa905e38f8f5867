-- What a reader of a strict buffer relies on, wherever it comes to a table.
use Rattle.std.specs.Prelude.{◌≡◌, ◌≢◌, ◌↔◌, ◌⊎◌, ℕ, ◌+◌, ◌*◌, ◌<◌, ◌≤◌, true, List, length, slice_get, Some, None}
use Rattle.fb_bytes.specs.Word.{word}
use Rattle.fb_schema.specs.{declared.kinds.Kind.TheVariants.Union, declared.kinds.Kind.TheVariants.Unions, Rows.Rows, Live.Live, Live.live_fields, Members.member_of}
use Rattle.fb_rules.specs.{declared.checks.Checks.Checks, Places.target, Places.field_place, Fields.type_place, Fields.types_begin, Fields.union_type, Fields.entries, Tree.Tree}
use Rattle.fb_rules.specs.{Tree.node, Tree.Kids, Tree.no_kids, Tree.kid, Tree.Elements, Tree.no_elements, Tree.element, Tree.Element, Tree.leaf, Tree.table, Question.Question}
use Rattle.fb_rules.specs.declared.fault.Report.{Report}
use Rattle.fb_strict.specs.{declared.inner.Inner.Inner, declared.tasks.Held.TheVariants.Buffer, declared.tasks.Held.TheVariants.Flex, Demanded.Demanded, Demanded.held_of}
use Rattle.fb_strict.specs.{Planned.Planned, Nested.bytes_inside, Nested.question_inside, Nested.IsGood, Strict.IsStrict, Strict.IsStrictTable, Strict.AreUtf8}
use Rattle.fb_strict.specs.Strict.{HasKnownFields}

-- the tree has a visit of a table of the object k at t
unfoldable mutual
  pub HasNode : Tree → ℕ → ℕ → Type 0
  HasNode (node k' t' kids) k t = ((k' ≡ k) × (t' ≡ t)) ⊎ KidsHave kids k t

  pub KidsHave : Kids → ℕ → ℕ → Type 0
  KidsHave no_kids k t = ⊥
  KidsHave (kid ys kids) k t = ElementsHave ys k t ⊎ KidsHave kids k t

  pub ElementsHave : Elements → ℕ → ℕ → Type 0
  ElementsHave no_elements k t = ⊥
  ElementsHave (element y ys) k t = ElementHas y k t ⊎ ElementsHave ys k t

  pub ElementHas : Element → ℕ → ℕ → Type 0
  ElementHas leaf k t = ⊥
  ElementHas (table y) k t = HasNode y k t

-- a tree is strict exactly where each table in it is
abbrev pub TablesLaw : Type 0
TablesLaw = (y : Tree) (D : Demanded) (c : Checks) (b : List ℕ) (S : Rows) → IsStrict y D c b S ↔ ((k t : ℕ) → HasNode y k t → IsStrictTable D c b S k t)

-- the uoffset at p lies in the buffer, and leads inside
pub record MayFollow (b : List ℕ) (p : ℕ) : Type 0 where
  pub within : p + 4 ≤ length b
  pub inside : target b p < length b

-- what `u()` follows may be followed, where nobody knows what it leads to: wherever a table of this tree stands, the
-- value of a union whose type is 0 or unknown
abbrev pub ValuesLeadInside : Tree → List ℕ → Rows → Type 0
ValuesLeadInside y b S =
    (k t i : ℕ) (f : Live) (e p : ℕ) → HasNode y k t → slice_get (live_fields S k) i ≡ Some f → f.kind ≡ Union e → field_place b t f.slot ≡ Some p
    → member_of S e (union_type b (type_place b t f.slot)) ≡ None → MayFollow b p

-- so may the j-th uoffset of a vector of unions, whose type isn't 0 and is unknown
abbrev pub ElementsLeadInside : Tree → List ℕ → Rows → Type 0
ElementsLeadInside y b S =
    (k t i : ℕ) (f : Live) (e p j : ℕ) → HasNode y k t → slice_get (live_fields S k) i ≡ Some f → f.kind ≡ Unions e → field_place b t f.slot ≡ Some p
    → j < word b (target b p) 4 → word b (types_begin b (type_place b t f.slot) + j) 1 ≢ 0 → member_of S e (word b (types_begin b (type_place b t f.slot) + j) 1) ≡ None
    → MayFollow b (target b p + 4 + 4 * j)

-- each text is UTF-8 to which a uoffset of a table of this tree leads
abbrev pub TextsAreUtf8 : Tree → List ℕ → Rows → Type 0
TextsAreUtf8 y b S = (k t i : ℕ) (f : Live) → HasNode y k t → slice_get (live_fields S k) i ≡ Some f → AreUtf8 b (entries b S t f)

-- it holds of a strict tree, where texts are asked
abbrev pub TextsLaw : Type 0
TextsLaw = (y : Tree) (D : Demanded) (c : Checks) (b : List ℕ) (S : Rows) → D.utf8 ≡ true → IsStrict y D c b S → TextsAreUtf8 y b S

-- no table of this tree has a slot of no live field
abbrev pub HasNoUnknownFields : Tree → List ℕ → Rows → Type 0
HasNoUnknownFields y b S = (k t : ℕ) → HasNode y k t → HasKnownFields b S k t

-- it holds of a strict tree, where slots are asked
abbrev pub SlotsLaw : Type 0
SlotsLaw = (y : Tree) (D : Demanded) (c : Checks) (b : List ℕ) (S : Rows) → D.known_fields ≡ true → IsStrict y D c b S → HasNoUnknownFields y b S

-- the buffer in the bytes of the vector to which the uoffset at p leads, with a root table of this object
abbrev pub buffer_at : List ℕ → (root p : ℕ) → Inner
buffer_at b root p = record { at = target b p + 4; size = word b (target b p) 4; root = root }

-- what `x_nested_root()` returns is the root of a good buffer: wherever a table of this tree stands, the bytes of a
-- field that holds a buffer are good by themselves, by the plan, the rows, the checks and the limits of the whole
abbrev pub HeldAreGood : Planned → Question → List ℕ → Tree → Type 0
HeldAreGood p q b y =
    (k t i : ℕ) (f : Live) (root place : ℕ) → HasNode y k t → slice_get (live_fields q.rows k) i ≡ Some f → held_of p.demands k f ≡ Some (Buffer root) → field_place b t f.slot ≡ Some place
    → (own : Report) × IsGood p (question_inside q (buffer_at b root place)) (bytes_inside b (buffer_at b root place)) own

-- no field of a table of this tree that holds a flexbuffer is there
abbrev pub HasNoFlexbuffers : Demanded → Tree → List ℕ → Rows → Type 0
HasNoFlexbuffers D y b S = (k t i : ℕ) (f : Live) → HasNode y k t → slice_get (live_fields S k) i ≡ Some f → held_of D k f ≡ Some Flex → field_place b t f.slot ≡ None

-- it holds of a strict tree
abbrev pub FlexLaw : Type 0
FlexLaw = (y : Tree) (D : Demanded) (c : Checks) (b : List ℕ) (S : Rows) → IsStrict y D c b S → HasNoFlexbuffers D y b S

-- the two about unions do, where these are asked

abbrev pub ValuesLaw : Type 0
ValuesLaw = (y : Tree) (D : Demanded) (c : Checks) (b : List ℕ) (S : Rows) → D.unions ≡ true → IsStrict y D c b S → ValuesLeadInside y b S

abbrev pub ElementsLaw : Type 0
ElementsLaw = (y : Tree) (D : Demanded) (c : Checks) (b : List ℕ) (S : Rows) → D.unions ≡ true → IsStrict y D c b S → ElementsLeadInside y b S
