-- Objects without their fields.
use Rattle.std.specs.Prelude.{ℕ, ℤ, Bool, List}
use Rattle.fb_schema.specs.{declared.views.ObjectView.ObjectView, Rows.Object}

-- what is said of an object before its fields
pub record Head : Type 0 where
  pub name : List ℕ
  pub is_struct : Bool
  pub minalign : ℤ
  pub bytesize : ℤ

abbrev pub head_of : Object → Head
head_of o = record { name = o.name; is_struct = o.is_struct; minalign = o.minalign; bytesize = o.bytesize }

-- an object's view without where its name lies in memory
abbrev pub head_of_view : ObjectView → Head
head_of_view o = record { name = o.name.now; is_struct = o.is_struct; minalign = o.minalign; bytesize = o.bytesize }
