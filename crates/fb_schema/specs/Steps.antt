-- What a reader of buffers does at each live field of a table.
use Rattle.std.specs.Prelude.{ℕ, ◌==◌, ◌&&◌, if◌then◌else◌, Bool, true, false, List, [], ◌∷◌, ◌++◌, map}
use Rattle.fb_schema.specs.declared.{index.Sorts.Sorts, kinds.Kind.Kind, views.Act.Act, views.Step.Step}
use Rattle.fb_schema.specs.declared.kinds.Kind.TheVariants.{Scalar, Text, Struct, Table, Union, Scalars, Texts, Structs, Tables, Unions}
use Rattle.fb_schema.specs.declared.views.Act.TheVariants.{One, Two, Four, Eight, Inline, Text as AText, Vector, Other}
use Rattle.fb_schema.specs.{Live.Live, Live.live_fields, Rows.Rows}

-- at a scalar or struct of this size and alignment, which is required or may be absent
abbrev pub inline_act : Bool → ℕ → ℕ → Act
inline_act true size align = Inline
inline_act false size align =
    if size == 1 && align == 1 then One
    else (if size == 2 && align == 2 then Two
    else (if size == 4 && align == 4 then Four
    else (if size == 8 && align == 8 then Eight else Inline)))

-- at a field of this kind
abbrev pub act_of : Live → Kind → Act
act_of f (Scalar s) = inline_act f.required f.size f.align
act_of f (Struct k) = inline_act f.required f.size f.align
act_of f Text = AText
act_of f (Table k) = Other
act_of f (Union e) = Other
act_of f (Scalars s) = Vector
act_of f (Structs k) = Vector
act_of f Texts = Other
act_of f (Tables k) = Other
act_of f (Unions e) = Other

-- a bit for each act; of what has 1, 2, 4 or 8 bytes it is their number
abbrev pub bit_of : Act → ℕ
bit_of One = 1
bit_of Two = 2
bit_of Four = 4
bit_of Eight = 8
bit_of AText = 16
bit_of Vector = 32
bit_of Inline = 64
bit_of Other = 128

-- the bits of a field of this kind: that of its act, and one more where it leads to one table
abbrev pub bits_of : Live → Kind → ℕ
bits_of f (Table k) = 384
bits_of f kind = bit_of (act_of f kind)

-- what its step says of sizes: the object of the one table that it leads to, or the size of its elements or its own
abbrev pub size_of : Live → Kind → ℕ
size_of f (Table k) = k
size_of f kind = f.size

-- the step of a field
abbrev pub step_of : Live → Step
step_of f = record { act = act_of f f.kind; required = f.required; slot = f.slot; bit = bits_of f f.kind; size = size_of f f.kind; align = f.align }

-- what leads to no table
abbrev pub is_plain_act : Act → Bool
is_plain_act Other = false
is_plain_act _ = true

-- what is done at each of these fields passes a test
abbrev pub have_acts : (Act → Bool) → List Live → Bool
have_acts p [] = true
have_acts p (f ∷ fs) = p (act_of f f.kind) && have_acts p fs

-- none of these fields leads to a table
abbrev pub are_plain : List Live → Bool
are_plain fs = have_acts is_plain_act fs

-- no live field of table n leads to a table
abbrev pub is_plain : Rows → ℕ → Bool
is_plain rows n = are_plain (live_fields rows n)

-- what is done at a scalar or struct of 1, 2, 4 or 8 bytes, aligned to as many, that may be absent
abbrev pub is_small_act : Act → Bool
is_small_act One = true
is_small_act Two = true
is_small_act Four = true
is_small_act Eight = true
is_small_act _ = false

-- these fields are all of that sort
abbrev pub are_small : List Live → Bool
are_small fs = have_acts is_small_act fs

-- and so are those of table n
abbrev pub is_small : Rows → ℕ → Bool
is_small rows n = are_small (live_fields rows n)

-- what holds of all of these fields
abbrev pub sorts_of : List Live → Sorts
sorts_of fs = record { plain = are_plain fs; small = are_small fs }

-- the step behind the last one: its slot lies behind each vtable
abbrev pub end_step : Step
end_step = record { act = One; required = false; slot = 65534; bit = 1; size = 1; align = 1 }

-- the steps of these fields, with that one behind them
abbrev pub chain_of : List Live → List Step
chain_of fs = map step_of fs ++ end_step ∷ []
