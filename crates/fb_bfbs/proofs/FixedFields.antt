-- The fields of the fixed table, by computing.
use Rattle.std.proofs.Common.{◌≡◌, ℕ, Some}
use Rattle.fb_schema.specs.{Kinds.base_types, Kinds.shape_of, Kinds.kind_of, Live.live_fields, declared.kinds.Kind.Kind, declared.kinds.Kind.TheVariants.Table}
use Rattle.fb_access.specs.{Held.Placed, Fitting.next_kind, Here.sure_kind, declared.step.Step.TheVariants.Field as ToField}
use Rattle.fb_bfbs.specs.{Fixed.fixed, Seen.IsAt, Seen.HasField, Seen.MayHaveField}

-- all that is computed where the kind of a field is asked
unfoldable pub computing : ℕ
unfolding fixed sure_kind next_kind live_fields kind_of shape_of base_types
computing = 0

-- a field of this table that is always there, and one that may be absent
pub always : {p : Placed} {k n : ℕ} {kind : Kind} → IsAt p (Table k) → sure_kind fixed (Table k) (ToField n) ≡ Some kind → HasField p n kind
always {p} {k} {n} {kind} at e = record { object = k; at = at; sure = e }

pub maybe : {p : Placed} {k n : ℕ} {kind : Kind} → IsAt p (Table k) → next_kind fixed (Table k) (ToField n) ≡ Some kind → MayHaveField p n kind
maybe {p} {k} {n} {kind} at e = record { object = k; at = at; field = e }
