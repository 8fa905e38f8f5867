-- What a reader knows of a field who knows the schema, and where it leads.
use Rattle.std.specs.Prelude.{◌≡◌, ℕ, List, Option, Some, None, option_map}
use Rattle.fb_schema.specs.{Rows.Rows, Live.Live, declared.kinds.Kind.TheVariants.Table}
use Rattle.fb_rules.specs.Places.{field_place}
use Rattle.fb_access.specs.{declared.known.KnownField.KnownField, declared.spot.Spot.Spot, Fitting.numbered, Here.IsHere, Spots.present_spot, Spots.absent_spot}

-- what is known of a live field
abbrev pub known_of : Live → KnownField
known_of f = record { number = f.number; slot = f.slot; kind = f.kind; default = f.default; optional = f.optional }

-- a table is here whose live field of this number is the one that is known
pub record HasKnown (S : Rows) (p : Spot) (field : KnownField) : Type 0 where
  pub object : ℕ
  pub here : IsHere p (Table object)
  pub found : option_map known_of (numbered S object field.number) ≡ Some field

-- the field of the table at t, if it stands at this place
abbrev pub known_at : List ℕ → ℕ → KnownField → Option ℕ → Spot
known_at b t f None = absent_spot f.optional f.default f.kind
known_at b t f (Some p) = present_spot b t f.slot p f.kind

-- the field of the table at t
abbrev pub known_spot : List ℕ → ℕ → KnownField → Spot
known_spot b t f = known_at b t f (field_place b t f.slot)
