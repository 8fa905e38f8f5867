-- What the rows of a schema file are: each is what the paths of its table lead to, by the field numbers of
-- reflection.fbs.
use Rattle.std.specs.Prelude.{◌≡◌, ℕ, ℤ, pos, negsuc, Bool, true, false, ◌||◌, List, [], ◌∷◌, ◌⊎◌, Option, Some, None}
use Rattle.std.specs.{Borrow.Bor, Int.cast_signed, Int.w64, Ordering.int_eq}
use Rattle.fb_schema.specs.{declared.rows.TypeRow.TypeRow, Rows.Field, Rows.Object, Rows.Member, Rows.Enum, Rows.Rows, Rows.table_named}
use Rattle.fb_access.specs.{declared.step.Step.TheVariants.Field as ToField, Denotes.nothing, Denotes.truth, Denotes.signed, Denotes.unsigned, Denotes.text, Denotes.table}
use Rattle.fb_bfbs.specs.Says.{Says, after, AreRows, HasDouble}

-- a table Type
pub record IsTypeRow (D : Says) (ty : TypeRow) : Type 0 where
  pub base : D (ToField 0 ∷ []) (signed ty.base)
  pub element : D (ToField 1 ∷ []) (signed ty.element)
  pub index : D (ToField 2 ∷ []) (signed ty.index)
  pub fixed_length : D (ToField 3 ∷ []) (unsigned ty.fixed_length)

-- the base types Float and Double
abbrev pub is_float : ℤ → Bool
is_float base = int_eq base (pos 11) || int_eq base (pos 12)

-- the default of a field, which is a float or isn't: the bits of its real one, or its integer
abbrev pub IsDefault : Says → Bool → ℤ → Type 0
IsDefault D true default = (bits : ℕ) × HasDouble (after D (ToField 5)) bits × (default ≡ cast_signed w64 bits)
IsDefault D false default = D (ToField 4 ∷ []) (signed default)

-- a table Field
pub record IsFieldRow (D : Says) (f : Field) : Type 0 where
  pub name : D (ToField 0 ∷ []) (text f.name)
  pub ty : IsTypeRow (after D (ToField 1)) f.ty
  pub slot : D (ToField 3 ∷ []) (unsigned f.slot)
  pub default : IsDefault D (is_float (f.ty).base) f.default
  pub deprecated : D (ToField 6 ∷ []) (truth f.deprecated)
  pub required : D (ToField 7 ∷ []) (truth f.required)
  pub optional : D (ToField 11 ∷ []) (truth f.optional)
  pub offset64 : D (ToField 13 ∷ []) (truth f.offset64)

-- a table Object
pub record IsObjectRow (D : Says) (o : Object) : Type 0 where
  pub name : D (ToField 0 ∷ []) (text o.name)
  pub fields : AreRows IsFieldRow (after D (ToField 1)) o.fields
  pub is_struct : D (ToField 2 ∷ []) (truth o.is_struct)
  pub minalign : D (ToField 3 ∷ []) (signed o.minalign)
  pub bytesize : D (ToField 4 ∷ []) (signed o.bytesize)

-- the type of what has none: no base type, and no index
abbrev pub no_type : TypeRow
no_type = record { base = pos 0; element = pos 0; index = negsuc 0; fixed_length = 0 }

-- a table Type, or no type where it is absent
abbrev pub IsTypeOrNone : Says → TypeRow → Type 0
IsTypeOrNone D ty = (D [] table × IsTypeRow D ty) ⊎ (D [] nothing × (ty ≡ no_type))

-- a table EnumVal
pub record IsMemberRow (D : Says) (m : Member) : Type 0 where
  pub name : D (ToField 0 ∷ []) (text m.name)
  pub value : D (ToField 1 ∷ []) (signed m.value)
  pub ty : IsTypeOrNone (after D (ToField 3)) m.ty

-- a table Enum
pub record IsEnumRow (D : Says) (e : Enum) : Type 0 where
  pub name : D (ToField 0 ∷ []) (text e.name)
  pub members : AreRows IsMemberRow (after D (ToField 1)) e.members
  pub is_union : D (ToField 2 ∷ []) (truth e.is_union)

-- a schema file says that these are its rows
pub record Describes (D : Says) (rows : Rows) : Type 0 where
  pub objects : AreRows IsObjectRow (after D (ToField 0)) rows.objects
  pub enums : AreRows IsEnumRow (after D (ToField 1)) rows.enums

-- the root table has this name
abbrev pub NamesRoot : Says → List ℕ → Type 0
NamesRoot D name = D (ToField 4 ∷ ToField 0 ∷ []) (text name)

-- the name of the root table, none where there is no root table
abbrev pub IsRootName : Says → Option (Bor (List ℕ)) → Type 0
IsRootName D None = D (ToField 4 ∷ []) nothing
IsRootName D (Some name) = NamesRoot D name.now

-- the root is the listed table that has the name of the root table, none where the file has no root table
abbrev pub IsRoot : Says → Rows → Option ℕ → Type 0
IsRoot D rows None = D (ToField 4 ∷ []) nothing
IsRoot D rows (Some n) = (name : List ℕ) × NamesRoot D name × (table_named rows name ≡ Some n)

-- the file has a root table, and no listed table has its name
abbrev pub HasStrayRoot : Says → Rows → Type 0
HasStrayRoot D rows = (name : List ℕ) × NamesRoot D name × (table_named rows name ≡ None)
