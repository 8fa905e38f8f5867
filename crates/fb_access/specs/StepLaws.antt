-- The laws that tie steps to what the verifier checks: places of fields, and the uoffsets by which they lead on.
use Rattle.std.specs.Prelude.{◌≡◌, ◌≢◌, ℕ, ◌+◌, ◌*◌, ◌<◌, ◌⊎◌, List, [], ◌∷◌, slice_get, Option, Some, None, option_and_then}
use Rattle.fb_bytes.specs.Word.{word}
use Rattle.fb_schema.specs.declared.kinds.Kind.TheVariants.{Scalar as AScalar, Struct, Union, Scalars, Texts, Structs, Tables, Unions}
use Rattle.fb_schema.specs.{Rows.Rows, Kinds.scalar_size, Kinds.struct_size, Kinds.struct_align, Live.Live, Members.member_of, declared.kinds.Kind.Kind}
use Rattle.fb_rules.specs.Places.{target, field_place}
use Rattle.fb_rules.specs.Fields.{Lead, to_table, to_struct, to_string, to_nothing, lead_of, Entry, entries}
use Rattle.fb_access.specs.declared.{step.Step.Step, step.Step.TheVariants.Field, step.Step.TheVariants.Element, step.Step.TheVariants.Member, spot.Spot.Spot}
use Rattle.fb_access.specs.declared.spot.Spot.TheVariants.{AtTable, AtInline, AtStruct, AtText, AtScalars, AtStructs, AtScalarArray, AtStructArray, AtTexts, AtTables, AtUnions, AtUnion, AtOtherMember}
use Rattle.fb_access.specs.declared.extent.Extent.{Extent}
use Rattle.fb_access.specs.{Fitting.numbered, Spots.kind_at, Denotes.Leads, Denotes.Reaches, Denotes.value, Denotes.vector, Extents.extent}

-- the position of a spot, if it is one in the buffer
abbrev pub position_of : Spot → Option ℕ
position_of (AtTable k t) = Some t
position_of (AtInline s p) = Some p
position_of (AtStruct k p) = Some p
position_of (AtText c) = Some c
position_of (AtScalars s c) = Some c
position_of (AtStructs k c) = Some c
position_of (AtScalarArray s n p) = Some p
position_of (AtStructArray k n p) = Some p
position_of (AtTexts c) = Some c
position_of (AtTables k c) = Some c
position_of (AtUnions e q c) = Some c
position_of (AtUnion e y p) = Some p
position_of _ = None

-- where the value of a field of this kind is that stands at p: there, or where the uoffset there leads
abbrev pub value_place : List ℕ → ℕ → Kind → ℕ
value_place b p (AScalar s) = p
value_place b p (Struct k) = p
value_place b p (Union e) = p
value_place b p _ = target b p

-- Field steps.

-- a present field leads to its value, of its kind, and an absent one to no place in the buffer
pub record IsFieldOf (b : List ℕ) (t : ℕ) (f : Live) (q : Spot) : Type 0 where
  pub kind : (p : ℕ) → field_place b t f.slot ≡ Some p → kind_at q ≡ Some f.kind
  pub present : (p : ℕ) → field_place b t f.slot ≡ Some p → position_of q ≡ Some (value_place b p f.kind)
  pub absent : field_place b t f.slot ≡ None → position_of q ≡ None

-- a field step leads to where `field_place` says
abbrev pub FieldsStandInPlace : Type 0
FieldsStandInPlace = (b : List ℕ) (S : Rows) (k t n : ℕ) (f : Live) (q : Spot) → numbered S k n ≡ Some f → Leads b S (AtTable k t) (Field n) q → IsFieldOf b t f q

-- Steps along uoffsets.

-- what the uoffset at p leads to, by its lead
abbrev pub IsLedTo : List ℕ → Rows → ℕ → Lead → Spot → Type 0
IsLedTo b S p (to_table k) q = q ≡ AtTable k (target b p)
IsLedTo b S p (to_struct size align) q = (k : ℕ) × (q ≡ AtStruct k (target b p)) × (struct_size S k ≡ size) × (struct_align S k ≡ align)
IsLedTo b S p to_string q = q ≡ AtText (target b p)
IsLedTo b S p to_nothing q = q ≡ AtOtherMember

-- the spot of a uoffset by which a field leads on: the union that it belongs to, or else what it leads to
abbrev pub IsOfEntry : List ℕ → Rows → Entry → Spot → Type 0
IsOfEntry b S x (AtUnion e y p) = (p ≡ x.place) × (lead_of S (member_of S e y) ≡ x.lead)
IsOfEntry b S x q = IsLedTo b S x.place x.lead q

-- past a field of this kind, the steps to the j-th of these uoffsets
abbrev pub steps_on : ℕ → Kind → List Step
steps_on j Texts = Element j ∷ []
steps_on j (Tables k) = Element j ∷ []
steps_on j (Unions e) = Element j ∷ []
steps_on j _ = []

-- steps lead to each uoffset by which the verifier says that a field leads on
abbrev pub StepsFollowEntries : Type 0
StepsFollowEntries =
    (b : List ℕ) (S : Rows) (k t n j : ℕ) (f : Live) (x : Entry) → numbered S k n ≡ Some f → slice_get (entries b S t f) j ≡ Some x
    → (q : Spot) × Reaches b S (AtTable k t) (Field n ∷ steps_on j f.kind) q × IsOfEntry b S x q

-- a vector of uoffsets
abbrev pub AreOffsets : Kind → Type 0
AreOffsets Texts = Unit {0}
AreOffsets (Tables k) = Unit {0}
AreOffsets (Unions e) = Unit {0}
AreOffsets _ = ⊥

-- and to no other
abbrev pub NoOtherElements : Type 0
NoOtherElements =
    (b : List ℕ) (S : Rows) (k t n j : ℕ) (f : Live) (q : Spot) → numbered S k n ≡ Some f → AreOffsets f.kind → slice_get (entries b S t f) j ≡ None
    → Reaches b S (AtTable k t) (Field n ∷ Element j ∷ []) q → position_of q ≡ None

-- a member step leads where the verifier says that a union of this type leads, and from one of another type to
-- nothing
abbrev pub MembersFollowLeads : Type 0
MembersFollowLeads =
    (b : List ℕ) (S : Rows) (e y p m : ℕ) (q : Spot) → Leads b S (AtUnion e y p) (Member m) q → ((y ≡ m) × IsLedTo b S p (lead_of S (member_of S e y)) q) ⊎ ((y ≢ m) × (q ≡ AtOtherMember))

-- Elements in place.

-- a vector of scalars or structs
abbrev pub AreInline : Kind → Type 0
AreInline (Scalars s) = Unit {0}
AreInline (Structs k) = Unit {0}
AreInline _ = ⊥

-- they stand one after another behind the count, each of the size that the verifier asks for
abbrev pub ElementsStandInRow : Type 0
ElementsStandInRow =
    (b : List ℕ) (S : Rows) (k t n j p : ℕ) (f : Live) (q : Spot) → numbered S k n ≡ Some f → AreInline f.kind → field_place b t f.slot ≡ Some p
    → j < word b (target b p) 4 → Reaches b S (AtTable k t) (Field n ∷ Element j ∷ []) q
    → position_of q ≡ Some (target b p + 4 + f.size * j)

-- how many bytes each element of a vector or array of this kind has, where they stand in place
abbrev pub size_in_place : Rows → Kind → Option ℕ
size_in_place S (Scalars s) = Some (scalar_size s)
size_in_place S (Structs k) = Some (struct_size S k)
size_in_place S _ = None

-- the extent of n elements is that of so many bytes for each, one after another; those behind uoffsets have none
abbrev pub HoldsElements : List ℕ → Rows → Spot → ℕ → Option ℕ → Option Extent → Type 0
HoldsElements b S q n (Some size) (Some e) = (e.size ≡ n * size) × ((j : ℕ) (r : Spot) → j < n → Leads b S q (Element j) r → position_of r ≡ Some (e.at + size * j))
HoldsElements b S q n None None = Unit {0}
HoldsElements b S q n _ _ = ⊥

-- the bytes of a vector or array are those of its elements
abbrev pub ElementsFillExtents : Type 0
ElementsFillExtents = (b : List ℕ) (S : Rows) (q : Spot) (n : ℕ) → value b S q ≡ vector n → HoldsElements b S q n (option_and_then (size_in_place S) (kind_at q)) (extent b S q)
