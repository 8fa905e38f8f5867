-- What is read of fields for their marks.
use Rattle.std.specs.Prelude.{ℕ, List, map, Bool, IsTrue, Option, Some, None, option_map}
use Rattle.fb_bfbs.specs.declared.{attributes.AttributeRow.AttributeRow, tags.TaggedRow.TaggedRow, tags.TaggedObject.TaggedObject, marks.Marks.Marks}
use Rattle.fb_bfbs.specs.{Says.Says, Sums.IsToldFew, Sums.most_rows}
use Rattle.fb_bfbs.specs.Marks.{Attribute, Tagged, held_of, marked, SaysMarks, HasFewRows, HasManyRows}

-- rows without where their texts lie in memory
abbrev pub attribute_of : AttributeRow → Attribute
attribute_of a = record { key = a.key.now; value = a.value.now }

abbrev pub tagged_of : TaggedRow → Tagged
tagged_of t = record { slot = t.slot; held = option_map held_of t.content; builtins = t.builtins }

abbrev pub fields_of : TaggedObject → List Tagged
fields_of o = map tagged_of o.fields.items

-- whether so many bytes pay for the rows of a schema file; without a number all are paid for
abbrev pub IsToldPaid : Says → Option ℕ → Bool → Type 0
IsToldPaid D None paid = IsTrue paid
IsToldPaid D (Some n) paid = IsToldFew D (most_rows n) paid

-- the file says that these are its marks
abbrev pub AreToldMarks : Says → Marks → Type 0
AreToldMarks D marks = SaysMarks D (map marked marks.fields.items) marks.builtins

-- what is read of it: its marks, as far as so many bytes pay for its rows
abbrev pub AreMarksRead : Says → Option ℕ → Option Marks → Type 0
AreMarksRead D None None = ⊥
AreMarksRead D None (Some marks) = AreToldMarks D marks
AreMarksRead D (Some n) None = HasManyRows D n
AreMarksRead D (Some n) (Some marks) = AreToldMarks D marks × HasFewRows D n
