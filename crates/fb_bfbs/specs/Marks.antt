-- What the attributes of fields say: which fields hold buffers, and whether built-in attributes were written at all.
use Rattle.std.specs.Prelude.{◌≡◌, ◌+◌, ◌<◌, ◌≤◌, ◌⊎◌, ℕ, Bool, true, false, IsSome, List, [], ◌∷◌, ◌++◌, map, find}
use Rattle.std.specs.Prelude.{filter_map, length, codes, bytes_eq, Option, Some, None, is_some, option_map, if◌then◌else◌}
use Rattle.fb_rules.specs.Bounds.{Bounds}
use Rattle.fb_access.specs.declared.step.Step.TheVariants.{Field as ToField}
use Rattle.fb_access.specs.Denotes.{nothing, truth, unsigned, text}
use Rattle.fb_bfbs.specs.declared.{marks.Mark.Mark, marks.Marks.Marks, marks.Content.Content, marks.Builtins.Builtins, load_fault.LoadFault.LoadFault}
use Rattle.fb_bfbs.specs.declared.marks.{Content.TheVariants.Buffer, Content.TheVariants.Flex, Builtins.TheVariants.Written, Builtins.TheVariants.LeftOut, Builtins.TheVariants.Untold}
use Rattle.fb_bfbs.specs.declared.load_fault.LoadFault.TheVariants.{BadSchema, RootNotListed, TooMuchShared}
use Rattle.fb_bfbs.specs.{Says.Says, Says.after, Says.AreRows, Sums.HasRows, Sums.most_rows, Loads.IsSchemaFile, Loads.IsLoadFault, Loads.told}

-- Rows.

-- an attribute; a key or a value that is absent has no bytes
pub record Attribute : Type 0 where
  pub key : List ℕ
  pub value : List ℕ

-- a text, which has no bytes where it is absent
abbrev pub IsTextOrEmpty : Says → List ℕ → Type 0
IsTextOrEmpty D s = D [] (text s) ⊎ (D [] nothing × (s ≡ []))

-- a table KeyValue
pub record IsAttribute (D : Says) (a : Attribute) : Type 0 where
  pub key : IsTextOrEmpty (after D (ToField 0)) a.key
  pub value : IsTextOrEmpty (after D (ToField 1)) a.value

-- the attributes in a vector, none where it is absent
abbrev pub AreAttributes : Says → List Attribute → Type 0
AreAttributes D attributes = AreRows IsAttribute D attributes ⊎ (D [] nothing × (attributes ≡ []))

-- a field: its slot, the flags that `flatc` sets by attributes, and its attributes
pub record Attributed : Type 0 where
  pub slot : ℕ
  pub deprecated : Bool
  pub required : Bool
  pub key : Bool
  pub attributes : List Attribute

-- a table Field, as far as that
pub record IsAttributed (D : Says) (f : Attributed) : Type 0 where
  pub slot : D (ToField 3 ∷ []) (unsigned f.slot)
  pub deprecated : D (ToField 6 ∷ []) (truth f.deprecated)
  pub required : D (ToField 7 ∷ []) (truth f.required)
  pub key : D (ToField 8 ∷ []) (truth f.key)
  pub attributes : AreAttributes (after D (ToField 9)) f.attributes

-- What attributes say.

-- the value of the first attribute with this key
abbrev pub value_of : List ℕ → List Attribute → Option (List ℕ)
value_of key attributes = option_map (λ a. a.value) (find (λ a. bytes_eq a.key key) attributes)

-- what the bytes of a field hold: a buffer whose root is the table of a name, or a flexbuffer
pub data Held : Type 0 where
  buffer : List ℕ → Held
  flex : Held

-- what a nested buffer's attribute, and else a flexbuffer's, says
abbrev pub held_by : Option (List ℕ) → Option (List ℕ) → Option Held
held_by (Some name) _ = Some (buffer name)
held_by None (Some _) = Some flex
held_by None None = None

-- what the bytes of a field hold by its attributes; of a deprecated field nothing is said
abbrev pub held_in : Attributed → Option Held
held_in f = if f.deprecated then None else held_by (value_of (codes "nested_flatbuffer") f.attributes) (value_of (codes "flexbuffer") f.attributes)

-- what is told together: one attribute that was written shows that all were
abbrev pub beside : Builtins → Builtins → Builtins
beside Written _ = Written
beside LeftOut Written = Written
beside LeftOut _ = LeftOut
beside Untold b = b

abbrev pub together : List Builtins → Builtins
together [] = Untold
together (b ∷ bs) = beside b (together bs)

-- what a flag tells of the built-in attribute of this key, which sets it: whether it was written
abbrev pub told_by_flag : Bool → List ℕ → List Attribute → Builtins
told_by_flag false key attributes = Untold
told_by_flag true key attributes = if is_some (value_of key attributes) then Written else LeftOut

-- and what a field tells by its flags
abbrev pub told_by : Attributed → Builtins
told_by f = beside (told_by_flag f.required (codes "required") f.attributes) (beside (told_by_flag f.deprecated (codes "deprecated") f.attributes) (told_by_flag f.key (codes "key") f.attributes))

-- a field by what its attributes say
pub record Tagged : Type 0 where
  pub slot : ℕ
  pub held : Option Held
  pub builtins : Builtins

-- a table Field by what its attributes say
pub record IsTagged (D : Says) (t : Tagged) : Type 0 where
  pub field : Attributed
  pub read : IsAttributed D field
  pub slot : t.slot ≡ field.slot
  pub held : t.held ≡ held_in field
  pub builtins : t.builtins ≡ told_by field

-- a table Object, by its fields
abbrev pub AreTagged : Says → List Tagged → Type 0
AreTagged D fields = AreRows IsTagged (after D (ToField 1)) fields

-- Marks.

-- a field whose bytes hold something: its object's number, its slot, and what they hold
pub record Marked : Type 0 where
  pub object : ℕ
  pub slot : ℕ
  pub held : Held

-- what is held, and a mark, without where a name lies in memory
abbrev pub held_of : Content → Held
held_of (Buffer name) = buffer name.now
held_of Flex = flex

abbrev pub marked : Mark → Marked
marked m = record { object = m.object; slot = m.slot; held = held_of m.content }

-- the mark of a field
abbrev pub mark_of : ℕ → Tagged → Option Marked
mark_of object t = option_map (λ h. record { object = object; slot = t.slot; held = h }) t.held

-- the marks of an object's fields, and of objects that are numbered from n on
abbrev pub marks_in : ℕ → List Tagged → List Marked
marks_in object fields = filter_map (mark_of object) fields

abbrev pub marks_from : ℕ → List (List Tagged) → List Marked
marks_from n [] = []
marks_from n (fields ∷ objects) = marks_in n fields ++ marks_from (n + 1) objects

-- what the fields of an object tell together
abbrev pub told_in : List Tagged → Builtins
told_in fields = together (map (λ t. t.builtins) fields)

-- a schema file says these marks, and tells this of built-in attributes
pub record SaysMarks (D : Says) (fields : List Marked) (builtins : Builtins) : Type 0 where
  pub objects : List (List Tagged)
  pub tagged : AreRows AreTagged (after D (ToField 0)) objects
  pub marks : fields ≡ marks_from 0 objects
  pub told : builtins ≡ together (map told_in objects)

-- Answers.

-- n bytes pay for as many rows as a schema file says that it has, or don't
pub record HasFewRows (D : Says) (n : ℕ) : Type 0 where
  pub rows : ℕ
  pub has : HasRows D rows
  pub few : rows ≤ most_rows n

pub record HasManyRows (D : Says) (n : ℕ) : Type 0 where
  pub rows : ℕ
  pub has : HasRows D rows
  pub many : most_rows n < rows

-- the marks of a schema file, whose length pays for its rows where the limits have a budget of reads
pub record AreMarks (b : List ℕ) (L : Bounds) (marks : Marks) : Type 0 where
  pub file : IsSchemaFile b L
  pub says : SaysMarks (told b) (map marked marks.fields.items) marks.builtins
  pub paid : IsSome L.reads → HasFewRows (told b) (length b)

-- the limits have a budget of reads, and a schema file has more rows than its length pays for
pub record HasTooManyRows (b : List ℕ) (L : Bounds) : Type 0 where
  pub file : IsSchemaFile b L
  pub budget : IsSome L.reads
  pub many : HasManyRows (told b) (length b)

-- why no marks are read: what also keeps a file from being loaded, but neither its rows nor the lengths of names
abbrev pub IsMarksFault : List ℕ → Bounds → LoadFault → Type 0
IsMarksFault b L TooMuchShared = HasTooManyRows b L
IsMarksFault b L (BadSchema fault) = ⊥
IsMarksFault b L RootNotListed = ⊥
IsMarksFault b L fault = IsLoadFault b L fault

-- a schema file says one list of marks at most, and tells one thing of built-in attributes
abbrev pub MarksOnce : Type 0
MarksOnce = (b : List ℕ) (fields others : List Marked) (x y : Builtins) → SaysMarks (told b) fields x → SaysMarks (told b) others y → (fields ≡ others) × (x ≡ y)
