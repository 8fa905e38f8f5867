-- What the rows of a schema give a reader of buffers.
use Rattle.std.specs.Prelude.{◌*◌, ◌≡◌, ℕ, ◌+◌, ◌%◌, ◌^◌, ◌<◌, ◌≤◌, List, length, slice_get, Option, Some, IsTrue}
use Rattle.fb_schema.specs.declared.{kinds.Kind.Kind, kinds.Scalar.TheVariants.UType, views.PartView.PartView, kinds.Kind.TheVariants.Scalar, kinds.Kind.TheVariants.Text}
use Rattle.fb_schema.specs.declared.kinds.Kind.TheVariants.{Struct, Table, Union, Scalars, Texts, Structs, Tables, Unions}
use Rattle.fb_schema.specs.{Rows.Rows, Rows.Field, Rows.Object, Rows.is_table, Rows.is_union, Kinds.kind_of, Kinds.kind_size, Kinds.kind_align, Kinds.struct_align}
use Rattle.fb_schema.specs.{Kinds.struct_size, Live.Live, Live.live_fields, Live.live_rows, Live.live_as, Members.member_of, Parts.PartFits, Parts.part_at}

-- an alignment is a power of two
abbrev pub IsAlignment : ℕ → Type 0
IsAlignment n = (k : ℕ) × (n ≡ 2 ^ k)

-- what a field's kind names is there, and what stands in place has an alignment
abbrev pub KindHolds : Rows → Live → Kind → Type 0
KindHolds rows f (Scalar s) = IsAlignment f.align
KindHolds rows f Text = Unit {0}
KindHolds rows f (Struct k) = IsAlignment f.align
KindHolds rows f (Table k) = IsTrue (is_table rows k)
KindHolds rows f (Union e) = IsTrue (is_union rows e)
KindHolds rows f (Scalars s) = IsAlignment f.align
KindHolds rows f Texts = Unit {0}
KindHolds rows f (Structs k) = IsAlignment f.align
KindHolds rows f (Tables k) = IsTrue (is_table rows k)
KindHolds rows f (Unions e) = IsTrue (is_union rows e)

-- a live field has its kind's size and alignment
pub record IsSized (rows : Rows) (f : Live) : Type 0 where
  pub size : f.size ≡ kind_size rows f.kind
  pub align : f.align ≡ kind_align rows f.kind

-- before place i, a live field of this kind in the slot two below
pub record HasTypeField (fs : List Live) (i slot : ℕ) (kind : Kind) : Type 0 where
  pub place : ℕ
  pub lower : place < i
  pub field : Live
  pub found : slice_get fs place ≡ Some field
  pub below : field.slot + 2 ≡ slot
  pub kind_is : field.kind ≡ kind
  pub size_is : field.size ≡ 1

-- a union, or a vector of unions, has its type field before it
abbrev pub IsTyped : List Live → ℕ → ℕ → Kind → Type 0
IsTyped fs i slot (Union e) = HasTypeField fs i slot (Scalar UType)
IsTyped fs i slot (Unions e) = HasTypeField fs i slot (Scalars UType)
IsTyped fs i slot _ = Unit {0}

-- what a member of a union names is there
abbrev pub MemberHolds : Rows → Option Kind → Type 0
MemberHolds rows (Some (Table k)) = IsTrue (is_table rows k)
MemberHolds rows (Some (Struct k)) = (k < length rows.objects) × IsAlignment (struct_align rows k)
MemberHolds rows _ = Unit {0}

-- what a reader of buffers may look up by the rows
pub record IsServed (rows : Rows) : Type 0 where
  pub few : (k : ℕ) → length (live_fields rows k) ≤ 32766
  pub kinds : (k i : ℕ) (f : Live) → slice_get (live_fields rows k) i ≡ Some f → KindHolds rows f f.kind
  pub typed : (k i : ℕ) (f : Live) → slice_get (live_fields rows k) i ≡ Some f → IsTyped (live_fields rows k) i f.slot f.kind
  pub sized : (k i : ℕ) (f : Live) → slice_get (live_fields rows k) i ≡ Some f → IsSized rows f
  pub rising : (k i j : ℕ) (f g : Live) → slice_get (live_fields rows k) i ≡ Some f → slice_get (live_fields rows k) j ≡ Some g → i < j → f.slot < g.slot
  pub even : (k i : ℕ) (f : Live) → slice_get (live_fields rows k) i ≡ Some f → f.slot % 2 ≡ 0
  pub slots : (k i : ℕ) (f : Live) → slice_get (live_fields rows k) i ≡ Some f → f.slot ≡ 2 * f.number + 4
  pub numbers : (k i j : ℕ) (f g : Live) → slice_get (live_fields rows k) i ≡ Some f → slice_get (live_fields rows k) j ≡ Some g → f.number ≡ g.number → i ≡ j
  pub members : (e value : ℕ) → MemberHolds rows (member_of rows e value)
  pub parts : (k i : ℕ) (part : PartView) → part_at rows k i ≡ Some part → PartFits rows (struct_size rows k) part part.kind

-- the live field at place i is that of the i-th live row, of the kind that its type has
pub record HasKind (rows : Rows) (k i : ℕ) (live : List Field) (f : Field) : Type 0 where
  pub kind : Kind
  pub is : kind_of rows f.ty ≡ Some kind
  pub listed : slice_get (live_fields rows k) i ≡ Some (live_as rows live f kind)

-- each live field has a kind, so that none is left out
pub record HaveKinds (rows : Rows) : Type 0 where
  pub at : (k i : ℕ) (o : Object) (f : Field) → slice_get rows.objects k ≡ Some o → slice_get (live_rows o) i ≡ Some f → HasKind rows k i (live_rows o) f
