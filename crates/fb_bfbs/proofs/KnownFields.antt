-- What is known of the fields of the fixed table: each has the slot of its number, none is optional, and all but an Int
-- have the default 0.
use Rattle.std.proofs.Common.{◌≡◌, ℕ, zero, suc, ℤ, pos, ◌+◌, ◌*◌, ◌<◌, ◌==◌, ◌&&◌, nat_lt, Bool, true, false, not, List, [], ◌∷◌, slice_get, Option, Some, None, refl, sym, ◌∙◌, ap, subst}
use Rattle.std.specs.{Prelude.option_map, Prelude.option_and_then, List.list_all, Cmp.signed_Decides, Ordering.int_eq}
use Rattle.std.proofs.lemmas.Bool.{and_parts, ltb-true, Decides.Decides-eqb}
use Rattle.fb_schema.specs.{Rows.Object, Live.Live, Live.live_fields, Live.live_in, declared.kinds.Kind.Kind, declared.kinds.Kind.TheVariants.Scalar}
use Rattle.fb_schema.specs.declared.kinds.{Kind.TheVariants.Table, Scalar.TheVariants.Int}
use Rattle.fb_access.specs.{declared.known.KnownField.KnownField, Held.Placed, Fitting.numbered, Fitting.next_kind, Here.sure_field, Here.sure_kind, Known.known_of, Known.HasKnown}
use Rattle.fb_schema.proofs.Numbers.{negated}
use Rattle.fb_access.proofs.{Found.found_there, Sure.sure_kind_of}
use Rattle.fb_bfbs.specs.{Fixed.fixed, Seen.IsAt, Seen.HasField, Seen.HasInt, Seen.IsKnown, Seen.MayHaveField}
use Rattle.fb_bfbs.proofs.FixedFields.{computing}

-- the default is 0, unless the field is an Int
is_zero : Kind → ℤ → Bool
is_zero (Scalar Int) d = true
is_zero kind d = int_eq d (pos 0)

is_plain : Live → Bool
is_plain f = (f.slot == 4 + 2 * f.number) && (nat_lt f.number 16 && ((not f.optional) && is_zero f.kind f.default))

-- so each is
all_plain : list_all (λ o. list_all is_plain (live_in fixed (Some o))) fixed.objects ≡ true
unfolding computing is_plain is_zero
all_plain = refl

in_all : {X : Type 0} (p : X → Bool) (xs : List X) (i : ℕ) (x : X) → list_all p xs ≡ true → slice_get xs i ≡ Some x → p x ≡ true
in_all p [] i x h e = absurd cc
in_all p (y ∷ ys) zero x h e = let same : y ≡ x = cc in ap p (sym same) ∙ (and_parts _ _ h).0
in_all p (y ∷ ys) (suc i) x h e = in_all p ys i x (and_parts _ _ h).1 e

plain_in : (k i : ℕ) (f : Live) (o : Option Object) → slice_get fixed.objects k ≡ o → slice_get (live_in fixed o) i ≡ Some f → is_plain f ≡ true
plain_in k i f None e h = absurd cc
plain_in k i f (Some o) e h = in_all is_plain (live_in fixed (Some o)) i f (in_all (λ o. list_all is_plain (live_in fixed (Some o))) fixed.objects k o all_plain e) h

record IsPlain (n : ℕ) (f : Live) : Type 0 where
  number : f.number ≡ n
  slot : f.slot ≡ 4 + 2 * n
  few : n < 16
  optional : f.optional ≡ false
  default : is_zero f.kind f.default ≡ true

plain : (k n : ℕ) (f : Live) → numbered fixed k n ≡ Some f → IsPlain n f
unfolding live_fields is_plain
plain k n f e =
    let t = found_there (λ g. g.number == n) (live_fields fixed k) f e in
    let number = (Decides-eqb f.number n).0 t.2 in
    let parts = and_parts _ _ (plain_in k t.0 f (slice_get fixed.objects k) refl t.1) in
    let few = and_parts _ _ parts.1 in
    let rest = and_parts _ _ few.1 in
    record {
      number = number;
      slot = (Decides-eqb f.slot (4 + 2 * f.number)).0 parts.0 ∙ ap (λ m. 4 + 2 * m) number;
      few = subst (λ m. m < 16) number (ltb-true _ _ few.0);
      optional = negated f.optional rest.0;
      default = rest.1;
    }

-- what is known of a field with this number, kind and default
abbrev pub by_number : ℕ → Kind → ℤ → KnownField
by_number n kind d = record { number = n; slot = 4 + 2 * n; kind = kind; default = d; optional = false }

-- a field of which kind and default are known is known
pub known_here : (p : Placed) (n : ℕ) (kind : Kind) (d : ℤ) → IsKnown p n kind d → HasKnown (p.sealed).schema p.spot (by_number n kind d)
known_here p n kind d h =
    let is = plain h.object n h.live h.found in
    let same : known_of h.live ≡ by_number n kind d = λ i. record { number = is.number i; slot = is.slot i; kind = h.kind_is i; default = h.default_is i; optional = is.optional i } in
    record { object = h.object; here = h.at.here; found = rw (h.at.by_fixed) (ap (option_map known_of) h.found ∙ ap Some same) }

-- and its number is low
pub number_low : (p : Placed) (n : ℕ) (kind : Kind) (d : ℤ) → IsKnown p n kind d → n < 16
number_low p n kind d h = (plain h.object n h.live h.found).few

-- any kind but an Int
abbrev pub HasZero : Kind → Type 0
HasZero (Scalar Int) = ⊥
HasZero kind = Unit {0}

zero_default : (kind : Kind) (d : ℤ) → HasZero kind → is_zero kind d ≡ true → d ≡ pos 0
unfolding is_zero
zero_default (Scalar Int) d z h = absurd z
zero_default kind d z h = (signed_Decides d (pos 0)).0 h

found_known : (p : Placed) (k n : ℕ) (kind : Kind) (f : Live) → IsAt p (Table k) → HasZero kind → numbered fixed k n ≡ Some f → f.kind ≡ kind → IsKnown p n kind (pos 0)
found_known p k n kind f at z e same = record { object = k; at = at; live = f; found = e; kind_is = same; default_is = zero_default kind f.default z (rw same at ((plain k n f e).default)) }

sure_known : (p : Placed) (k n : ℕ) (kind : Kind) (o : Option Live) → IsAt p (Table k) → HasZero kind → numbered fixed k n ≡ o → option_and_then sure_field o ≡ Some kind → IsKnown p n kind (pos 0)
sure_known p k n kind None at z i e = absurd cc
sure_known p k n kind (Some f) at z i e = found_known p k n kind f at z i (sure_kind_of f kind e)

maybe_known : (p : Placed) (k n : ℕ) (kind : Kind) (o : Option Live) → IsAt p (Table k) → HasZero kind → numbered fixed k n ≡ o → option_map (λ f. f.kind) o ≡ Some kind → IsKnown p n kind (pos 0)
maybe_known p k n kind None at z i e = absurd cc
maybe_known p k n kind (Some f) at z i e = found_known p k n kind f at z i cc

-- fields that are always there, or may be absent
pub field_known : (p : Placed) (n : ℕ) (kind : Kind) → HasZero kind → HasField p n kind → IsKnown p n kind (pos 0)
unfolding sure_kind
field_known p n kind z h = sure_known p h.object n kind (numbered fixed h.object n) h.at z refl h.sure

pub may_be_known : (p : Placed) (n : ℕ) (kind : Kind) → HasZero kind → MayHaveField p n kind → IsKnown p n kind (pos 0)
unfolding next_kind
may_be_known p n kind z h = maybe_known p h.object n kind (numbered fixed h.object n) h.at z refl h.field

-- an Int by its default
int_of : (p : Placed) (k n : ℕ) (d : ℤ) (o : Option Live) → IsAt p (Table k) → numbered fixed k n ≡ o → option_and_then sure_field o ≡ Some (Scalar Int) → option_map (λ f. f.default) o ≡ Some d → IsKnown p n (Scalar Int) d
int_of p k n d None at i e f = absurd cc
int_of p k n d (Some live) at i e f = record { object = k; at = at; live = live; found = i; kind_is = sure_kind_of live (Scalar Int) e; default_is = cc }

pub int_known : (p : Placed) (n : ℕ) (d : ℤ) → HasInt p n d → IsKnown p n (Scalar Int) d
unfolding sure_kind
int_known p n d h = int_of p h.object n d (numbered fixed h.object n) h.at refl h.sure h.default_is

pub int_field : (p : Placed) (n : ℕ) (d : ℤ) → HasInt p n d → HasField p n (Scalar Int)
int_field p n d h = record { object = h.object; at = h.at; sure = h.sure }
