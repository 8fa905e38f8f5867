-- What the handle of a caller in C owns: a boxed value at its pointer, or nothing, and the pointer is null.
use mir.Syntax.{Ty}
use base.Fml.{Fml, feq}
use denote.{RattleType.RattleType, RawPtr.Ptr, RawPtr.null_ptr}
use Rattle.std.specs.{Prelude.Option, Prelude.Some, Prelude.None, Box.Ownership.box_owns}

abbrev pub held : (Ty → Ptr → Fml) → (R : RattleType) → Ptr → Option R.Denot → Fml
held token R at None = feq Ptr at null_ptr
held token R at (Some value) = box_owns token R at value
