-- What the text of a path resolves to, against the rows of a schema.
use Rattle.std.specs.Prelude.{◌≡◌, ℕ, ◌<◌, ◌^◌, nat_lt, if◌then◌else◌, ◌⊎◌, List, [], ◌∷◌, ◌++◌, length, find, Option, Some, None, Result, Ok, Err}
use Rattle.std.specs.Str.{bytes_eq}
use Rattle.fb_schema.specs.declared.{kinds.Kind.Kind, kinds.Kind.TheVariants.Struct, kinds.Kind.TheVariants.Table, kinds.Kind.TheVariants.Union, views.PartView.PartView}
use Rattle.fb_schema.specs.{Rows.Rows, Live.Live, Live.live_fields, Members.member_of, Members.member_named, Parts.part_at, Parts.part_named}
use Rattle.fb_access.specs.declared.{step.Step.Step, step.Step.TheVariants.Field, step.Step.TheVariants.Element, step.Step.TheVariants.Member, misfit.Misfit.Misfit}
use Rattle.fb_access.specs.declared.{misfit.Fitted.Fitted, path_fault.PathFault.PathFault, misfit.Misfit.TheVariants.NoSuchField, misfit.Misfit.TheVariants.NotIndexable}
use Rattle.fb_access.specs.declared.misfit.Misfit.TheVariants.{NotAUnion, NoSuchMember, NotATable}
use Rattle.fb_access.specs.declared.path_fault.PathFault.TheVariants.{BadText, NoSuchField as NoSuchFieldAt, NotIndexable as NotIndexableAt, NotAUnion as NotAUnionAt}
use Rattle.fb_access.specs.declared.path_fault.PathFault.TheVariants.{NoSuchMember as NoSuchMemberAt, NotATable as NotATableAt, OutOfMemory}
use Rattle.fb_access.specs.{Fitting.element_kind, Grammar.Part, Grammar.field, Grammar.element, Grammar.member, Grammar.number_of, Grammar.IsReading, Grammar.IsWrongAt}

-- the live field of table k with this name
abbrev pub field_with_name : Rows → ℕ → List ℕ → Option Live
field_with_name S k name = find (λ f. bytes_eq f.name name) (live_fields S k)

-- the step to the field that was found, if there is one
abbrev pub to_field : Option Live → Result Fitted Misfit
to_field None = Err NoSuchField
to_field (Some f) = Ok (record { step = Field f.number; kind = f.kind })

-- the step to element j, if there are elements of some kind
abbrev pub to_element : ℕ → Option Kind → Result Fitted Misfit
to_element j None = Err NotIndexable
to_element j (Some kind) = Ok (record { step = Element j; kind = kind })

-- the step to the member of this value, if it has a kind
abbrev pub to_kind : ℕ → Option Kind → Result Fitted Misfit
to_kind value None = Err NoSuchMember
to_kind value (Some kind) = Ok (record { step = Member value; kind = kind })

-- the step to the member with the value that was found, if there is one
abbrev pub to_member : Rows → ℕ → Option ℕ → Result Fitted Misfit
to_member S e None = Err NoSuchMember
to_member S e (Some value) = to_kind value (member_of S e value)

-- the step to the field of a struct at this place, if it has a kind there; a step tells places below 2 ^ 16
abbrev pub to_part : ℕ → Option PartView → Result Fitted Misfit
to_part i None = Err NoSuchField
to_part i (Some part) = if nat_lt i (2 ^ 16) then Ok (record { step = Field i; kind = part.kind }) else Err NoSuchField

-- the step to the field of a struct whose place was found, if there is one
abbrev pub to_place : Rows → ℕ → Option ℕ → Result Fitted Misfit
to_place S k None = Err NoSuchField
to_place S k (Some i) = to_part i (part_at S k i)

-- `.name` is a step from a table that has this live field, and from a struct that has this field
abbrev pub field_step : Rows → Kind → List ℕ → Result Fitted Misfit
field_step S (Table k) name = to_field (field_with_name S k name)
field_step S (Struct k) name = to_place S k (part_named S k name)
field_step S _ name = Err NotATable

-- `[j]` is a step from every vector and array
abbrev pub element_step : Kind → ℕ → Result Fitted Misfit
element_step kind j = to_element j (element_kind kind)

-- `@name` is a step from a union that has this member
abbrev pub member_step : Rows → Kind → List ℕ → Result Fitted Misfit
member_step S (Union e) name = to_member S e (member_named S e name)
member_step S _ name = Err NotAUnion

-- the step that a part is at a kind, with the kind to which it leads, or why it is none
abbrev pub fitting : Rows → Kind → Part → Result Fitted Misfit
fitting S kind (field name) = field_step S kind name
fitting S kind (element digits) = element_step kind (number_of digits)
fitting S kind (member name) = member_step S kind name

-- each part fits the kind to which those before it lead; these are the steps, and the last kind
abbrev pub Follows : Rows → Kind → List Part → List Step → Kind → Type 0
Follows S kind [] steps last = (steps ≡ []) × (kind ≡ last)
Follows S kind (p ∷ parts) steps last = (x : Fitted) × (fitting S kind p ≡ Ok x) × (rest : List Step) × (steps ≡ x.step ∷ rest) × Follows S x.kind parts rest last

-- the whole text is of the grammar, and its parts follow one another from the root: these are the steps
pub record Resolves (S : Rows) (root : ℕ) (text : List ℕ) (steps : List Step) : Type 0 where
  pub name : List ℕ
  pub parts : List Part
  pub last : Kind
  pub reading : IsReading text name parts
  pub follows : Follows S (Table root) (field name ∷ parts) steps last

-- the whole text is of the grammar, so many parts follow one another from the root, and the part after them doesn't fit
pub record Misfits (S : Rows) (root : ℕ) (text : List ℕ) (misfit : Misfit) (step : ℕ) : Type 0 where
  pub name : List ℕ
  pub parts : List Part
  pub reading : IsReading text name parts
  pub before : List Part
  pub part : Part
  pub after : List Part
  pub all : field name ∷ parts ≡ before ++ part ∷ after
  pub number : step ≡ length before
  pub steps : List Step
  pub last : Kind
  pub follows : Follows S (Table root) before steps last
  pub unfit : fitting S last part ≡ Err misfit

-- the fault of the step of this number
abbrev pub fault_of : Misfit → ℕ → PathFault
fault_of NoSuchField step = NoSuchFieldAt step
fault_of NotIndexable step = NotIndexableAt step
fault_of NotAUnion step = NotAUnionAt step
fault_of NoSuchMember step = NoSuchMemberAt step
fault_of NotATable step = NotATableAt step

-- the text has this fault
abbrev pub IsFault : Rows → ℕ → List ℕ → PathFault → Type 0
IsFault S root text (BadText at) = IsWrongAt text at
IsFault S root text (NoSuchFieldAt step) = Misfits S root text NoSuchField step
IsFault S root text (NotIndexableAt step) = Misfits S root text NotIndexable step
IsFault S root text (NotAUnionAt step) = Misfits S root text NotAUnion step
IsFault S root text (NoSuchMemberAt step) = Misfits S root text NoSuchMember step
IsFault S root text (NotATableAt step) = Misfits S root text NotATable step
IsFault S root text OutOfMemory = ⊥

-- the text has this fault, or memory ran out
abbrev pub Refuses : Rows → ℕ → List ℕ → PathFault → Type 0
Refuses S root text fault = IsFault S root text fault ⊎ (fault ≡ OutOfMemory)

-- the text resolves to these steps, or has this fault
abbrev pub IsAnswer : Rows → ℕ → List ℕ → Result (List Step) PathFault → Type 0
IsAnswer S root text (Ok steps) = Resolves S root text steps
IsAnswer S root text (Err fault) = IsFault S root text fault

-- each field of a struct is a step by its name, but for those from the 65,537th on
abbrev pub PartsAreNamed : Type 0
PartsAreNamed =
    (S : Rows) (k i : ℕ) (name : List ℕ) (part : PartView) → part_named S k name ≡ Some i → part_at S k i ≡ Some part → i < 2 ^ 16
    → fitting S (Struct k) (field name) ≡ Ok (record { step = Field i; kind = part.kind })
