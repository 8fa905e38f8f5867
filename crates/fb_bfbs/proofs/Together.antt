-- What several fields tell, one after another.
use Rattle.std.proofs.Common.{◌≡◌, refl}
use Rattle.fb_bfbs.specs.declared.marks.{Builtins.Builtins, Builtins.TheVariants.Written, Builtins.TheVariants.LeftOut, Builtins.TheVariants.Untold}
use Rattle.fb_bfbs.specs.Marks.{beside}

pub beside_assoc : (a b c : Builtins) → beside (beside a b) c ≡ beside a (beside b c)
beside_assoc Written b c = refl
beside_assoc Untold b c = refl
beside_assoc LeftOut Written c = refl
beside_assoc LeftOut Untold c = refl
beside_assoc LeftOut LeftOut Written = refl
beside_assoc LeftOut LeftOut LeftOut = refl
beside_assoc LeftOut LeftOut Untold = refl

pub beside_untold : (a : Builtins) → beside a Untold ≡ a
beside_untold Written = refl
beside_untold LeftOut = refl
beside_untold Untold = refl
