-- From where something is, certain steps lead to where something is; and numbers are as wide as their scalars.
use Rattle.std.specs.Prelude.{◌≡◌, ℕ, ◌<◌, ◌^◌, Bool, true, false, ◌||◌, ◌⊎◌, if◌then◌else◌, List, length, Option, Some, None, option_and_then}
use Rattle.std.specs.Int.{Width, w8, w16, w32, w64, RustNames.FitsSigned}
use Rattle.fb_schema.specs.declared.kinds.{Scalar.Scalar, Kind.Kind, Kind.TheVariants.Scalar as AScalar, Kind.TheVariants.Table, Scalar.TheVariants.Byte, Scalar.TheVariants.Short}
use Rattle.fb_schema.specs.{declared.kinds.Scalar.TheVariants.Int as AsInt, declared.kinds.Scalar.TheVariants.Long, Rows.Rows, Kinds.scalar_size, Live.Live}
use Rattle.fb_access.specs.declared.{step.Step.Step, step.Step.TheVariants.Field, step.Step.TheVariants.Element, step.Step.TheVariants.Member, spot.Spot.Spot}
use Rattle.fb_access.specs.declared.{spot.Spot.TheVariants.AtAbsent, answer.Answer.Answer, answer.Answer.TheVariants.Int, answer.Answer.TheVariants.UInt}
use Rattle.fb_access.specs.{declared.answer.Answer.TheVariants.Float, Fitting.numbered, Fitting.next_kind, Spots.kind_at, Denotes.Reaches, Denotes.Shown, Denotes.value}

-- a value of this kind is here, or its default
abbrev pub IsHere : Spot → Kind → Type 0
IsHere p kind = kind_at p ≡ Some kind

-- a value of this kind is here, or a field of this kind is absent
abbrev pub MayBeHere : Spot → Kind → Type 0
MayBeHere p kind = IsHere p kind ⊎ (p ≡ AtAbsent)

-- a value of this kind is here, or nothing is
abbrev pub IsOfKind : Spot → Kind → Type 0
IsOfKind p kind = IsHere p kind ⊎ (kind_at p ≡ None)

-- from a spot of a kind such a step leads to a spot of the next kind
abbrev pub KindsGoOn : Rows → Spot → Step → Spot → Type 0
KindsGoOn S p s q = (kind next : Kind) → IsOfKind p kind → next_kind S kind s ≡ Some next → IsOfKind q next

-- whether a field that isn't required is here even so: a scalar by its default
abbrev pub defaults : Bool → Kind → Bool
defaults true kind = false
defaults false (AScalar s) = true
defaults false _ = false

-- the kind of a field that is certainly here
abbrev pub sure_field : Live → Option Kind
sure_field f = if f.required || defaults f.optional f.kind then Some f.kind else None

-- the kind of a table's field with this number, if it is certainly here
abbrev pub sure_field_of : Rows → Kind → ℕ → Option Kind
sure_field_of S (Table k) n = option_and_then sure_field (numbered S k n)
sure_field_of S _ n = None

-- the kind to which a step certainly leads: one to a field that is required or has a default
unfoldable pub sure_kind : Rows → Kind → Step → Option Kind
sure_kind S kind (Field n) = sure_field_of S kind n
sure_kind S kind (Element j) = None
sure_kind S kind (Member m) = None

-- from where something is, such a step leads to where something is
abbrev pub HereGoesOn : Rows → Spot → Step → Spot → Type 0
HereGoesOn S p s q = (kind next : Kind) → IsHere p kind → sure_kind S kind s ≡ Some next → IsHere q next

-- a scalar that is shown as a signed number
abbrev pub IsSigned : Scalar → Type 0
IsSigned Byte = Unit {0}
IsSigned Short = Unit {0}
IsSigned AsInt = Unit {0}
IsSigned Long = Unit {0}
IsSigned _ = ⊥

-- the width of a signed scalar
abbrev pub width_of : Scalar → Width
width_of Byte = w8
width_of Short = w16
width_of AsInt = w32
width_of _ = w64

-- a number fits the scalar, and a float has as many bytes
abbrev pub FitsScalar : Scalar → Answer → Type 0
FitsScalar s (Int z) = FitsSigned (width_of s) z
FitsScalar s (UInt n) = n < 256 ^ scalar_size s
FitsScalar s (Float bytes) = length bytes.now ≡ scalar_size s
FitsScalar s _ = Unit {0}

-- the number or float at a scalar fits it
abbrev pub IsNarrow : Spot → Answer → Type 0
IsNarrow p a = (s : Scalar) → IsHere p (AScalar s) → FitsScalar s a

-- the steps from this spot lead to one with this value
abbrev pub Shows : List ℕ → Rows → Spot → List Step → Shown → Type 0
Shows b S p steps x = (q : Spot) × Reaches b S p steps q × (x ≡ value b S q)
