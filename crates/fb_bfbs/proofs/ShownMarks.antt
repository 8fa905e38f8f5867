-- What the attributes of the examples say.
use Rattle.std.proofs.Common.{◌≡◌, ℕ, List, [], ◌∷◌, true, refl, Some, None, inl, inr}
use Rattle.std.specs.Prelude.{codes}
use Rattle.fb_access.specs.declared.{step.Step.TheVariants.Field as ToField, step.Step.TheVariants.Element, spot.Spot.TheVariants.AtTable, spot.Spot.TheVariants.AtTables}
use Rattle.fb_access.specs.Denotes.{nothing, text}
use Rattle.fb_bfbs.specs.{Says.AreRows, Samples.marking, declared.marks.Builtins.TheVariants.Written, declared.marks.Builtins.TheVariants.LeftOut, Marks.Attribute}
use Rattle.fb_bfbs.specs.{Marks.Attributed, Marks.Tagged, Marks.IsAttribute, Marks.IsAttributed, Marks.IsTagged, Marks.AreTagged, Marks.buffer, Examples.attribute, Examples.nested}
use Rattle.fb_bfbs.specs.Examples.{required, with_attributes, WorkedFields, MarkedFile}
use Rattle.fb_bfbs.proofs.{Composed.attribute_within, Composed.tagged_within, Composed.fields_within, Composed.rows_within, Shown.computing, Shown.From, Shown.onward}
use Rattle.fb_bfbs.proofs.Shown.{told_by, said, some_rows, two_rows}

pub worked_fields : WorkedFields
worked_fields = record { none = refl; table = refl; flexbuffer = refl; both = refl; deprecated = refl; untold = refl; left_out = refl; written = refl }

-- a table KeyValue of the file, by the values of its fields
attribute_row : (p : ℕ) (a : Attribute) → (told_by marking (AtTable 1 p) 0 ≡ Some (text a.key)) × (told_by marking (AtTable 1 p) 1 ≡ Some (text a.value)) → IsAttribute (From marking (AtTable 1 p)) a
attribute_row p a (key, value) = record { key = inl (said marking (AtTable 1 p) 0 _ key); value = inl (said marking (AtTable 1 p) 1 _ value) }

abbrev written : List Attribute
written = attribute (codes "required") (codes "0") ∷ nested (codes "A") ∷ []

attributes : AreRows IsAttribute (From marking (AtTables 1 176)) written
unfolding computing
attributes = two_rows IsAttribute attribute_within marking 1 176 200 248 (attribute (codes "required") (codes "0")) (nested (codes "A")) refl refl refl
    (attribute_row 200 _ (refl, refl)) (attribute_row 248 _ (refl, refl))

-- its two fields
first_field : IsAttributed (From marking (AtTable 4 104)) (required written)
unfolding computing
first_field = record {
  slot = said marking (AtTable 4 104) 3 _ refl;
  deprecated = said marking (AtTable 4 104) 6 _ refl;
  required = said marking (AtTable 4 104) 7 _ refl;
  key = said marking (AtTable 4 104) 8 _ refl;
  attributes = inl (onward (AreRows IsAttribute) (rows_within IsAttribute attribute_within) marking (AtTable 4 104) (AtTables 1 176) (ToField 9) written refl attributes);
}

abbrev key_field : Attributed
key_field = record (with_attributes []) { slot = 6; key = true }

second_field : IsAttributed (From marking (AtTable 4 312)) key_field
unfolding computing
second_field = record {
  slot = said marking (AtTable 4 312) 3 _ refl;
  deprecated = said marking (AtTable 4 312) 6 _ refl;
  required = said marking (AtTable 4 312) 7 _ refl;
  key = said marking (AtTable 4 312) 8 _ refl;
  attributes = inr (said marking (AtTable 4 312) 9 nothing refl, refl);
}

abbrev first : Tagged
first = record { slot = 4; held = Some (buffer (codes "A")); builtins = Written }

abbrev second : Tagged
second = record { slot = 6; held = None; builtins = LeftOut }

fields : AreRows IsTagged (From marking (AtTables 4 68)) (first ∷ second ∷ [])
unfolding computing
fields = two_rows IsTagged tagged_within marking 4 68 104 312 first second refl refl refl
    (record { field = _; read = first_field; slot = refl; held = refl; builtins = refl }) (record { field = _; read = second_field; slot = refl; held = refl; builtins = refl })

objects : AreRows AreTagged (From marking (AtTables 5 28)) ((first ∷ second ∷ []) ∷ [])
unfolding computing
objects = some_rows AreTagged marking 5 28 ((first ∷ second ∷ []) ∷ []) refl (
  onward AreTagged fields_within marking (AtTables 5 28) (AtTable 5 48) (Element 0) (first ∷ second ∷ []) refl
      (onward (AreRows IsTagged) (rows_within IsTagged tagged_within) marking (AtTable 5 48) (AtTables 4 68) (ToField 1) (first ∷ second ∷ []) refl fields),
  tt,
)

pub marked_file : MarkedFile
unfolding computing
marked_file = record {
  marks = record {
    objects = (first ∷ second ∷ []) ∷ [];
    tagged = onward (AreRows AreTagged) (rows_within AreTagged fields_within) marking (AtTable 9 16) (AtTables 5 28) (ToField 0) ((first ∷ second ∷ []) ∷ []) refl objects;
    marks = refl;
    told = refl;
  };
}
