-- Examples of schema files: what they describe, what is loaded of them, and what their attributes say.
use Rattle.std.specs.Prelude.{◌≡◌, ℕ, true, false, List, [], ◌∷◌, codes, Some, None}
use Rattle.fb_access.specs.{declared.step.Step.TheVariants.Field as ToField, Denotes.text}
use Rattle.fb_rules.specs.Samples.{published_limits}
use Rattle.fb_bfbs.specs.{Describes.Describes, Describes.IsRoot, Loads.told, Loads.IsLoaded, Samples.plain, Samples.plain_rows, Samples.reals, Samples.real_rows, Samples.detailed}
use Rattle.fb_bfbs.specs.{Samples.detailed_rows, Samples.marking, declared.marks.Builtins.TheVariants.Written, declared.marks.Builtins.TheVariants.LeftOut}
use Rattle.fb_bfbs.specs.{declared.marks.Builtins.TheVariants.Untold, Marks.Attribute, Marks.Attributed, Marks.buffer, Marks.flex, Marks.held_in, Marks.told_by, Marks.SaysMarks}

-- a file with one table, which is its root: a default, and nothing else that could be absent
pub record PlainFile : Type 0 where
  pub rows : Describes (told plain) plain_rows
  pub loaded : IsLoaded plain published_limits (record { schema = plain_rows; root = Some 0; ident = None })

-- a file with a Float that has a real default, and a Double that has none: 0.0
pub record RealFile : Type 0 where
  pub rows : Describes (told reals) real_rows

-- a file with all that is copied, without a root
pub record DetailedFile : Type 0 where
  pub rows : Describes (told detailed) detailed_rows
  pub root : IsRoot (told detailed) detailed_rows None
  pub ident : told detailed (ToField 2 ∷ []) (text (codes "TEST"))

-- attributes, and fields with these
abbrev pub attribute : List ℕ → List ℕ → Attribute
attribute key value = record { key = key; value = value }

abbrev pub nested : List ℕ → Attribute
nested name = attribute (codes "nested_flatbuffer") name

abbrev pub flexible : Attribute
flexible = attribute (codes "flexbuffer") (codes "0")

abbrev pub with_attributes : List Attribute → Attributed
with_attributes attributes = record { slot = 4; deprecated = false; required = false; key = false; attributes = attributes }

abbrev pub required : List Attribute → Attributed
required attributes = record (with_attributes attributes) { required = true }

abbrev pub former : List Attribute → Attributed
former attributes = record (with_attributes attributes) { deprecated = true }

-- what fields hold by their attributes, and what they tell of built-in ones
pub record WorkedFields : Type 0 where
  pub none : held_in (with_attributes (attribute (codes "unit") (codes "flexbuffer") ∷ [])) ≡ None
  pub table : held_in (with_attributes (nested (codes "A.B") ∷ nested (codes "C") ∷ [])) ≡ Some (buffer (codes "A.B"))
  pub flexbuffer : held_in (with_attributes (flexible ∷ [])) ≡ Some flex
  pub both : held_in (with_attributes (flexible ∷ nested (codes "A") ∷ [])) ≡ Some (buffer (codes "A"))
  pub deprecated : held_in (former (nested (codes "A") ∷ [])) ≡ None
  pub untold : told_by (with_attributes (attribute (codes "required") [] ∷ [])) ≡ Untold
  pub left_out : told_by (required (attribute (codes "key") [] ∷ [])) ≡ LeftOut
  pub written : told_by (required (nested (codes "A") ∷ attribute (codes "required") [] ∷ [])) ≡ Written

-- a file with two fields, of which the attributes of one were written
pub record MarkedFile : Type 0 where
  pub marks : SaysMarks (told marking) (record { object = 0; slot = 4; held = buffer (codes "A") } ∷ []) Written
