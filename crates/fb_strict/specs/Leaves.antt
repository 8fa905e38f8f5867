-- What the tests of a table that unfolds may rely on, and what they leave.
use Rattle.std.specs.Prelude.{◌≡◌, ℕ, ◌^◌, ◌<◌, ◌==◌, Bool, false, List, Option, Some, None}
use Rattle.fb_schema.specs.Live.{Live}
use Rattle.fb_rules.specs.{Places.field_place, Fields.type_place, Plain.place_from}
use Rattle.fb_strict.specs.declared.unions.Places.{Places}

-- these are the places of the type field and the value of the union, or vector of unions, with this slot in the table
-- at t: the table's own where they are absent
pub record ArePlaces (b : List ℕ) (t slot : ℕ) (places : Places) : Type 0 where
  pub types : place_from t places.types ≡ type_place b t slot
  pub value : place_from t places.value ≡ field_place b t slot
  pub types_near : places.types < 2 ^ 34
  pub value_near : places.value < 2 ^ 34

-- whether there is a live field, and it has this slot
abbrev pub is_next_slot : Option Live → ℕ → Bool
is_next_slot None slot = false
is_next_slot (Some f) slot = f.slot == slot
