-- Which steps a kind has, and to which kind each leads.
use Rattle.std.specs.Prelude.{◌≡◌, ℕ, ◌==◌, List, [], ◌∷◌, find, Option, Some, None, option_map}
use Rattle.fb_schema.specs.declared.kinds.Kind.TheVariants.{Scalar, Text, Struct, Table, Union, Scalars, Texts, Structs, Tables, Unions}
use Rattle.fb_schema.specs.{Rows.Rows, Live.Live, Live.live_fields, Members.member_of, Parts.part_at, declared.kinds.Kind.Kind, declared.views.PartView.PartView}
use Rattle.fb_access.specs.declared.{step.Step.Step, step.Step.TheVariants.Field, step.Step.TheVariants.Element, step.Step.TheVariants.Member}

-- the live field of table k with this number
abbrev pub numbered : Rows → ℕ → ℕ → Option Live
numbered S k n = find (λ f. f.number == n) (live_fields S k)

-- the kind of the elements of a vector
abbrev pub element_kind : Kind → Option Kind
element_kind (Scalars s) = Some (Scalar s)
element_kind Texts = Some Text
element_kind (Structs k) = Some (Struct k)
element_kind (Tables k) = Some (Table k)
element_kind (Unions e) = Some (Union e)
element_kind _ = None

-- the kind of the field with this number of a table, or at this place of a struct, where an array is of a vector's
abbrev pub field_kind : Rows → Kind → ℕ → Option Kind
field_kind S (Table k) n = option_map (λ f. f.kind) (numbered S k n)
field_kind S (Struct k) n = option_map (λ (part : PartView). part.kind) (part_at S k n)
field_kind S _ n = None

-- the kind of the member of a union with this value
abbrev pub member_kind : Rows → Kind → ℕ → Option Kind
member_kind S (Union e) m = member_of S e m
member_kind S _ m = None

-- the kind to which a step leads from a kind, if it has this step
unfoldable pub next_kind : Rows → Kind → Step → Option Kind
next_kind S kind (Field n) = field_kind S kind n
next_kind S kind (Element j) = element_kind kind
next_kind S kind (Member m) = member_kind S kind m

-- each step fits the kind to which those before it lead
abbrev pub StepsFit : Rows → Kind → List Step → Type 0
StepsFit S kind [] = Unit {0}
StepsFit S kind (s ∷ steps) = (next : Kind) × (next_kind S kind s ≡ Some next) × StepsFit S next steps
