-- What is no table has no live field.
use Rattle.std.proofs.Common.{arith, ◌≡◌, ℕ, Bool, false, not, if◌then◌else◌, List, [], find, slice_get, Option, None, ap, ◌==◌}
use Rattle.fb_schema.specs.{Live.Live, Live.live_fields, Live.live_in, Rows.Field, Rows.Object, Rows.Rows, Rows.is_table, Rows.is_some_table}
use Rattle.fb_access.specs.Fitting.{numbered}

no_rows : (b : Bool) (fields : List Field) → not b ≡ false → (if b then [] else fields) ≡ []
no_rows b fields h = grind arith

no_fields : (rows : Rows) (o : Option Object) → is_some_table o ≡ false → live_in rows o ≡ []
no_fields rows o h = grind (arith, no_rows)

pub none_numbered : (rows : Rows) (k n : ℕ) → is_table rows k ≡ false → numbered rows k n ≡ None
unfolding live_fields
none_numbered rows k n h = ap (find (λ (f : Live). f.number == n)) (no_fields rows (slice_get rows.objects k) h)
