-- What the rows of a schema file come to, and how much of that its length pays for.
use Rattle.std.specs.Prelude.{◌≡◌, ℕ, ◌+◌, ◌*◌, ◌/◌, ◌^◌, ◌<◌, ◌≤◌, ◌⊎◌, ◌↔◌, Bool, IsTrue, List, [], ◌∷◌, length, sum_by}
use Rattle.fb_schema.specs.Rows.{Field, Object, Member, Enum, Rows}
use Rattle.fb_access.specs.{declared.step.Step.TheVariants.Field as ToField, Denotes.vector}
use Rattle.fb_bfbs.specs.{Says.Says, Says.after, Says.AreRows, Describes.Describes}

-- an object with its fields, and an enum with its members
abbrev pub object_rows : Object → ℕ
object_rows o = 1 + length o.fields

abbrev pub enum_rows : Enum → ℕ
enum_rows e = 1 + length e.members

-- how many rows there are: objects, fields, enums and members
abbrev pub rows_count : Rows → ℕ
rows_count rows = sum_by object_rows rows.objects + sum_by enum_rows rows.enums

-- the bytes of names: of a field and of an object with its fields, of a member and of an enum with its members
abbrev pub field_name : Field → ℕ
field_name f = length f.name

abbrev pub object_names : Object → ℕ
object_names o = length o.name + sum_by field_name o.fields

abbrev pub member_name : Member → ℕ
member_name m = length m.name

abbrev pub enum_names : Enum → ℕ
enum_names e = length e.name + sum_by member_name e.members

-- the bytes of all names, each counted in every row that has it
abbrev pub names_length : Rows → ℕ
names_length rows = sum_by object_names rows.objects + sum_by enum_names rows.enums

-- so many rows a file of n bytes pays for
abbrev pub most_rows : ℕ → ℕ
most_rows n = n / 20 + 2 ^ 14

-- and so many bytes of names
abbrev pub most_names : ℕ → ℕ
most_names n = 16 * n + 2 ^ 20

-- rows that n bytes pay for
pub record IsPaid (rows : Rows) (n : ℕ) : Type 0 where
  pub count : rows_count rows ≤ most_rows n
  pub names : names_length rows ≤ most_names n

-- a table lists so many rows: an object its fields, and an enum its members
abbrev pub Lists : Says → ℕ → Type 0
Lists D n = D (ToField 1 ∷ []) (vector n)

-- one for a list's owner, with what it lists
abbrev pub listed_rows : ℕ → ℕ
listed_rows n = 1 + n

-- a schema file says that it has so many rows, by the lengths of its vectors
pub record HasRows (D : Says) (n : ℕ) : Type 0 where
  pub objects : List ℕ
  pub enums : List ℕ
  pub fields : AreRows Lists (after D (ToField 0)) objects
  pub members : AreRows Lists (after D (ToField 1)) enums
  pub total : n ≡ sum_by listed_rows objects + sum_by listed_rows enums

-- a schema file says more than n bytes pay for: it has more rows, or these have longer names
abbrev pub IsOver : Says → ℕ → Type 0
IsOver D n = ((m : ℕ) × HasRows D m × (most_rows n < m)) ⊎ ((rows : Rows) × Describes D rows × (most_names n < names_length rows))

-- whether a schema file has so many rows at most
pub record IsToldFew (D : Says) (most : ℕ) (few : Bool) : Type 0 where
  pub rows : ℕ
  pub has : HasRows D rows
  pub told : IsTrue few ↔ (rows ≤ most)

-- n bytes pay for rows with such names, and for as many as a schema file says that it has
pub record ArePaid (D : Says) (rows : Rows) (n : ℕ) : Type 0 where
  pub count : ℕ
  pub has : HasRows D count
  pub few : count ≤ most_rows n
  pub names : names_length rows ≤ most_names n
