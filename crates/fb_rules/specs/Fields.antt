-- What a field of a table must meet by itself, and the uoffsets by which it leads on.
use Rattle.std.specs.Prelude.{◌≡◌, ℕ, zero, suc, ◌+◌, ◌-◌, IsFalse, List, [], ◌∷◌, Option, Some, None}
use Rattle.fb_bytes.specs.Word.{word}
use Rattle.fb_schema.specs.declared.kinds.Kind.{Kind, TheVariants.Scalar, TheVariants.Text, TheVariants.Struct, TheVariants.Table, TheVariants.Union, TheVariants.Scalars}
use Rattle.fb_schema.specs.declared.kinds.Kind.TheVariants.{Texts, Structs, Tables, Unions}
use Rattle.fb_schema.specs.{Rows.Rows, Kinds.struct_size, Kinds.struct_align, Live.Live, Members.member_of}
use Rattle.fb_rules.specs.{declared.checks.Checks.Checks, Places.target, Places.field_place, Facts.EndsInTable, Facts.IsOffset, Facts.IsVector, Facts.IsInline}

-- where the type field of the union with the slot o stands: its slot is the one before
abbrev pub type_place : List ℕ → ℕ → ℕ → Option ℕ
type_place b t o = field_place b t (o - 2)

-- the type in the type field at this place, 0 where that is absent
abbrev pub union_type : List ℕ → Option ℕ → ℕ
union_type b None = 0
union_type b (Some q) = word b q 1

-- the number of types in the vector of the type field at this place, 0 where that is absent
abbrev pub type_count : List ℕ → Option ℕ → ℕ
type_count b None = 0
type_count b (Some q) = word b (target b q) 4

-- where these types begin
abbrev pub types_begin : List ℕ → Option ℕ → ℕ
types_begin b None = 0
types_begin b (Some q) = target b q + 4

-- a scalar or struct field at p
pub record IsInlineField (c : Checks) (b : List ℕ) (t p size align : ℕ) : Type 0 where
  pub in_table : EndsInTable c b t p size
  pub value : IsInline c b p size align

-- a field at p that holds a uoffset to a vector
pub record IsVectorField (c : Checks) (b : List ℕ) (t p size align : ℕ) : Type 0 where
  pub in_table : EndsInTable c b t p 4
  pub offset : IsOffset c b p
  pub vector : IsVector c b (target b p) size align

-- a field at p that holds a uoffset to a vector of unions, whose types' field is at this place
pub record IsUnionsField (c : Checks) (b : List ℕ) (t p : ℕ) (types : Option ℕ) : Type 0 where
  pub field : IsVectorField c b t p 4 4
  pub counts_agree : word b (target b p) 4 ≡ type_count b types

-- the value of a union at p, where its type has this member
abbrev pub IsUnionField : Checks → List ℕ → ℕ → ℕ → Option Kind → Type 0
IsUnionField c b t p None = Unit {0}
IsUnionField c b t p (Some member) = EndsInTable c b t p 4

-- a present field at p of this kind, but for the strings, structs and tables that it leads to
abbrev pub IsPresent : Checks → List ℕ → Rows → ℕ → Live → ℕ → Kind → Type 0
IsPresent c b S t f p (Scalar s) = IsInlineField c b t p f.size f.align
IsPresent c b S t f p (Struct k) = IsInlineField c b t p f.size f.align
IsPresent c b S t f p Text = EndsInTable c b t p 4
IsPresent c b S t f p (Table k) = EndsInTable c b t p 4
IsPresent c b S t f p (Union e) = IsUnionField c b t p (member_of S e (union_type b (type_place b t f.slot)))
IsPresent c b S t f p (Scalars s) = IsVectorField c b t p f.size f.align
IsPresent c b S t f p (Structs k) = IsVectorField c b t p f.size f.align
IsPresent c b S t f p Texts = IsVectorField c b t p 4 4
IsPresent c b S t f p (Tables k) = IsVectorField c b t p 4 4
IsPresent c b S t f p (Unions e) = IsUnionsField c b t p (type_place b t f.slot)

-- the same of a field that may be absent, if it isn't required
abbrev pub IsPresentOrAbsent : Checks → List ℕ → Rows → ℕ → Live → Option ℕ → Type 0
IsPresentOrAbsent c b S t f None = IsFalse f.required
IsPresentOrAbsent c b S t f (Some p) = IsPresent c b S t f p f.kind

-- the field f of the table at t holds by itself
unfoldable pub IsField : Checks → List ℕ → Rows → ℕ → Live → Type 0
IsField c b S t f = IsPresentOrAbsent c b S t f (field_place b t f.slot)

-- What a uoffset leads to: a table of this object, a struct, a string, or nothing, since the type of the union is
-- 0 or unknown.
pub data Lead : Type 0 where
  to_table : (object : ℕ) → Lead
  to_struct : (size align : ℕ) → Lead
  to_string : Lead
  to_nothing : Lead

-- what a member of a union leads to
abbrev pub lead_of : Rows → Option Kind → Lead
lead_of S None = to_nothing
lead_of S (Some (Table k)) = to_table k
lead_of S (Some (Struct k)) = to_struct (struct_size S k) (struct_align S k)
lead_of S (Some Text) = to_string
lead_of S (Some _) = to_nothing

-- a uoffset by which a field leads on: its place, what it leads to, and the reads that told this
pub record Entry : Type 0 where
  pub lead : Lead
  pub place : ℕ
  pub reads : ℕ

abbrev pub entry : Lead → ℕ → ℕ → Entry
entry lead place reads = record { lead = lead; place = place; reads = reads }

-- n uoffsets from p on that lead to the same
unfoldable pub row : Lead → ℕ → ℕ → List Entry
row lead p zero = []
row lead p (suc n) = entry lead p 0 ∷ row lead (p + 4) n

-- n uoffsets from p on that lead where the types from q on say
unfoldable pub union_row : List ℕ → Rows → ℕ → ℕ → ℕ → ℕ → List Entry
union_row b S e q p zero = []
union_row b S e q p (suc n) = entry (lead_of S (member_of S e (word b q 1))) p 1 ∷ union_row b S e (q + 1) (p + 4) n

-- the uoffset of a union at p, where its type has this member
abbrev pub union_entry : Rows → ℕ → Option Kind → List Entry
union_entry S p None = []
union_entry S p (Some member) = entry (lead_of S (Some member)) p 0 ∷ []

-- the uoffsets of a present field at p of this kind
abbrev pub entries_of : List ℕ → Rows → ℕ → Live → ℕ → Kind → List Entry
entries_of b S t f p (Scalar s) = []
entries_of b S t f p (Struct k) = []
entries_of b S t f p Text = entry to_string p 0 ∷ []
entries_of b S t f p (Table k) = entry (to_table k) p 0 ∷ []
entries_of b S t f p (Union e) = union_entry S p (member_of S e (union_type b (type_place b t f.slot)))
entries_of b S t f p (Scalars s) = []
entries_of b S t f p (Structs k) = []
entries_of b S t f p Texts = row to_string (target b p + 4) (word b (target b p) 4)
entries_of b S t f p (Tables k) = row (to_table k) (target b p + 4) (word b (target b p) 4)
entries_of b S t f p (Unions e) = union_row b S e (types_begin b (type_place b t f.slot)) (target b p + 4) (word b (target b p) 4)

-- the same of a field that may be absent
abbrev pub entries_at : List ℕ → Rows → ℕ → Live → Option ℕ → List Entry
entries_at b S t f None = []
entries_at b S t f (Some p) = entries_of b S t f p f.kind

-- the uoffsets by which the field f of the table at t leads on, in order
unfoldable pub entries : List ℕ → Rows → ℕ → Live → List Entry
entries b S t f = entries_at b S t f (field_place b t f.slot)
