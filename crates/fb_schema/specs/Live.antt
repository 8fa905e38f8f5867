-- The live fields of a table in rising slot, with what a reader of buffers needs.
use Rattle.std.specs.Prelude.{◌≡◌, ◌<◌, ◌≤◌, slice_index_or, ℕ, ◌+◌, ◌*◌, ◌-◌, ◌/◌, ℤ, Bool, not, nat_le, ◌==◌, if◌then◌else◌, List, [], ◌∷◌}
use Rattle.std.specs.Prelude.{filter, length, drop, max, position, slice_get, Option, Some, None, IsSome, option_map, filter_map, bytes_eq}
use Rattle.fb_schema.specs.declared.{kinds.Kind.Kind, kinds.Kind.TheVariants.Union, kinds.Kind.TheVariants.Unions, views.FieldView.FieldView, rows.FieldRow.FieldRow}
use Rattle.fb_schema.specs.{Rows.Field, Rows.Object, Rows.Rows, Kinds.kind_of, Kinds.kind_size, Kinds.kind_align}

-- a live field: its number, slot and name, its kind with size and alignment, and the place of its type field
pub record Live : Type 0 where
  pub number : ℕ
  pub slot : ℕ
  pub name : List ℕ
  pub kind : Kind
  pub default : ℤ
  pub required : Bool
  pub optional : Bool
  pub size : ℕ
  pub align : ℕ
  pub companion : Option ℕ

-- a field's view without where its name lies in memory
abbrev pub live_of_view : FieldView → Live
live_of_view f = record {
  number = f.number;
  slot = f.slot;
  name = f.name.now;
  kind = f.kind;
  default = f.default;
  required = f.required;
  optional = f.optional;
  size = f.size;
  align = f.align;
  companion = f.companion;
}

-- a field of a table is live unless it is deprecated
abbrev pub is_live : Field → Bool
is_live f = not f.deprecated

-- before the first field that has no lower slot
abbrev pub insert_by_slot : Field → List Field → List Field
insert_by_slot f [] = f ∷ []
insert_by_slot f (g ∷ gs) = if nat_le f.slot g.slot then f ∷ g ∷ gs else g ∷ insert_by_slot f gs

abbrev pub by_slot : List Field → List Field
by_slot [] = []
by_slot (f ∷ fs) = insert_by_slot f (by_slot fs)

-- the rows of an object's live fields in rising slot; a struct has none
abbrev pub live_rows : Object → List Field
live_rows o = if o.is_struct then [] else by_slot (filter is_live o.fields)

-- the place of the field in the slot two below, for a union and a vector of unions
abbrev pub companion_of : List Field → ℕ → Kind → Option ℕ
companion_of live slot (Union e) = position (λ g. g.slot + 2 == slot) live
companion_of live slot (Unions e) = position (λ g. g.slot + 2 == slot) live
companion_of live slot _ = None

-- a field of this kind among the live fields of its table
abbrev pub live_as : Rows → List Field → Field → Kind → Live
live_as rows live f kind = record {
  number = (f.slot - 4) / 2;
  slot = f.slot;
  name = f.name;
  kind = kind;
  default = f.default;
  required = f.required;
  optional = f.optional;
  size = kind_size rows kind;
  align = kind_align rows kind;
  companion = companion_of live f.slot kind;
}

-- a field of its type's kind, if it has one
abbrev pub live_of : Rows → List Field → Field → Option Live
live_of rows live f = option_map (live_as rows live f) (kind_of rows f.ty)

-- those that have a kind, which of legal rows are all
abbrev pub live_in : Rows → Option Object → List Live
live_in rows None = []
live_in rows (Some o) = filter_map (live_of rows (live_rows o)) (live_rows o)

-- the live fields of table n in rising slot; none where n is no table
unfoldable pub live_fields : Rows → ℕ → List Live
live_fields rows n = live_in rows (slice_get rows.objects n)

-- the place of the next required one of these fields, at this place or behind it; none where no such field is required
abbrev pub next_required_of : List Live → ℕ → Option ℕ
next_required_of fields i = option_map (λ j. i + j) (position (λ f. f.required) (drop i fields))

-- the same of the live fields of table n
abbrev pub next_required : Rows → ℕ → ℕ → Option ℕ
next_required rows n i = next_required_of (live_fields rows n) i

abbrev pub widest_of : List Object → ℕ
widest_of [] = 0
widest_of (o ∷ os) = max (length (live_rows o)) (widest_of os)

-- the greatest number of live fields of a table, 0 without tables
unfoldable pub widest : Rows → ℕ
widest rows = widest_of rows.objects

-- the place of the live field of this name
abbrev pub field_named : Rows → ℕ → List ℕ → Option ℕ
field_named rows n name = position (λ f. bytes_eq f.name name) (live_fields rows n)

-- no slot stands twice
pub record AreApart (fields : List Field) : Type 0 where
  pub at : (i j : ℕ) (d : Field) → i < length fields → j < length fields → (slice_index_or fields i d).slot ≡ (slice_index_or fields j d).slot → i ≡ j

-- each slot is below those after it
pub record AreRising (fields : List FieldRow) : Type 0 where
  pub at : (i j : ℕ) (d : FieldRow) → i < j → j < length fields → (slice_index_or fields i d).slot < (slice_index_or fields j d).slot

-- each field's type has a kind
pub record AreKinded (rows : Rows) (fields : List Field) : Type 0 where
  pub at : (i : ℕ) (f : Field) → slice_get fields i ≡ Some f → IsSome (kind_of rows f.ty)

-- the first slot is 4 at least, and each is two above the one before it at least
pub record AreSpaced (fields : List Field) : Type 0 where
  pub at : (i : ℕ) (f : Field) → slice_get fields i ≡ Some f → 4 + 2 * i ≤ f.slot
