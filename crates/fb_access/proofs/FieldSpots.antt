-- A field of a table leads to a spot where what is to hold holds.
use Rattle.std.proofs.Common.{◌≡◌, ℕ, zero, suc, ◌+◌, ◌≤◌, ◌<◌, ℤ, List, [], ◌∷◌, length, refl, subst, arith, Option, Some, Bool}
use Rattle.std.proofs.lemmas.Nat.{pow_pos}
use Rattle.std.specs.Prelude.{slice_get, IfSome}
use Rattle.fb_bytes.specs.Word.{word}
use Rattle.fb_schema.specs.declared.kinds.Kind.TheVariants.{Scalar as AScalar, Text, Struct, Table, Union, Scalars, Texts, Structs, Tables, Unions}
use Rattle.fb_schema.specs.{Rows.Rows, Rows.Object, Kinds.kind_size, Kinds.kind_align, Kinds.align_in, Live.Live, Members.member_of, declared.kinds.Kind.Kind, Served.IsAlignment}
use Rattle.fb_schema.specs.Served.{IsServed, KindHolds}
use Rattle.fb_rules.specs.{Places.target, Places.field_place, Tree.Elements, Unfolds.ElementsUnfold, OffsetRows.TypesFit, OffsetRows.IsTyped, declared.checks.Checks.Checks}
use Rattle.fb_rules.specs.Fields.{IsPresent, IsPresentOrAbsent, IsField, entries, entries_of, entries_at, union_entry, union_type, type_count, types_begin, type_place, to_table}
use Rattle.fb_rules.specs.Fields.{to_string, lead_of}
use Rattle.fb_access.specs.{Fitting.numbered, Spots.absent_spot, Spots.present_spot, Spots.spot_at, Spots.field_spot, Held.IsTableAt, Held.IsLed, Held.IsSpot, Held.IsReadable}
use Rattle.fb_access.proofs.{Leading.row_led, Leading.union_row_led, Leading.one_led, Leading.led_to_table, Leading.led_to_string, Leading.led_to_nothing, TableFields.HoldsField}
use Rattle.fb_access.proofs.TableFields.{field_holds}

-- what has an alignment is there
object_there : (os : List Object) (k : ℕ) → IsAlignment (align_in (slice_get os k)) → k < length os
object_there [] zero h = absurd (omega (arith, pow_pos h.0, h.1))
object_there [] (suc k) h = absurd (omega (arith, pow_pos h.0, h.1))
object_there (o ∷ os) zero h = omega arith
object_there (o ∷ os) (suc k) h = let r = object_there os k h in omega arith

module _ (c : Checks) (b : List ℕ) (S : Rows) (t : ℕ) (f : Live) (p : ℕ) where
  -- the types of a vector of unions, as many as its values
  types_within : TypesFit b t f.slot → (n : ℕ) → (types : Option ℕ) → type_place b t f.slot ≡ types → n ≡ type_count b types → types_begin b types + n ≤ length b
  types_within h n types e same = grind arith

  union_led : (ys : Elements) (member : Option Kind) → ElementsUnfold ys c b S (union_entry S p member) → IsLed b S p (lead_of S member)
  union_led ys member u = grind (arith, led_to_nothing, one_led)

  -- a present field leads to such a spot
  present_holds : (ys : Elements) (kind : Kind) → IsPresent c b S t f p kind → ElementsUnfold ys c b S (entries_of b S t f p kind) → KindHolds S f kind → f.size ≡ kind_size S kind → f.align ≡ kind_align S kind → IsTyped b t f.slot kind → IsSpot b S (present_spot b t f.slot p kind)
  unfolding IsSpot present_spot
  present_holds ys (AScalar s) h u k size align typed = omega (arith, h.value.within, size)
  present_holds ys Text h u k size align typed = (led_to_string b S p (one_led c b S ys to_string p 0 u)).1
  present_holds ys (Struct o) h u k size align typed = record { object = object_there S.objects o (subst IsAlignment align k); within = omega (arith, h.value.within, size) }
  present_holds ys (Table o) h u k size align typed = (led_to_table b S p o k (one_led c b S ys (to_table o) p 0 u)).1
  present_holds ys (Union e) h u k size align typed = record { union = k; led = union_led ys (member_of S e (union_type b (type_place b t f.slot))) u }
  present_holds ys (Scalars s) h u k size align typed = record { count = h.vector.count; within = rw size at h.vector.within }
  present_holds ys Texts h u k size align typed = record { counted = record { count = h.vector.count; within = h.vector.within }; led = row_led c b S ys to_string (target b p + 4) (word b (target b p) 4) u }
  present_holds ys (Structs o) h u k size align typed = record { object = object_there S.objects o (subst IsAlignment align k); counted = record { count = h.vector.count; within = rw size at h.vector.within } }
  present_holds ys (Tables o) h u k size align typed = record { object = k; counted = record { count = h.vector.count; within = h.vector.within }; led = row_led c b S ys (to_table o) (target b p + 4) (word b (target b p) 4) u }
  present_holds ys (Unions e) h u k size align typed = record {
    union = k;
    counted = record { count = h.field.vector.count; within = h.field.vector.within };
    types = types_within typed (word b (target b p) 4) (type_place b t f.slot) refl h.counts_agree;
    led = union_row_led c b S ys e (types_begin b (type_place b t f.slot)) (target b p + 4) (word b (target b p) 4) u;
  }

  -- and what following it needs is there
  present_readable : (ys : Elements) (kind : Kind) → IsPresent c b S t f p kind → ElementsUnfold ys c b S (entries_of b S t f p kind) → KindHolds S f kind → IsTyped b t f.slot kind → IsReadable b t f.slot p kind
  present_readable ys (AScalar s) h u k typed = tt
  present_readable ys Text h u k typed = (led_to_string b S p (one_led c b S ys to_string p 0 u)).0
  present_readable ys (Struct o) h u k typed = tt
  present_readable ys (Table o) h u k typed = (led_to_table b S p o k (one_led c b S ys (to_table o) p 0 u)).0
  present_readable ys (Union e) h u k typed = typed
  present_readable ys (Unions e) h u k typed = (h.field.offset.within, typed)
  present_readable ys kind h u k typed = h.offset.within

module _ (b : List ℕ) (S : Rows) where
  absent_holds : (optional : Bool) (d : ℤ) (kind : Kind) → IsSpot b S (absent_spot optional d kind)
  unfolding IsSpot absent_spot
  absent_holds optional d kind = grind arith

  module _ (c : Checks) (t : ℕ) (f : Live) where
    spot_holds : (place : Option ℕ) (ys : Elements) → IsPresentOrAbsent c b S t f place → ElementsUnfold ys c b S (entries_at b S t f place) → KindHolds S f f.kind → f.size ≡ kind_size S f.kind → f.align ≡ kind_align S f.kind → IsTyped b t f.slot f.kind → IsSpot b S (spot_at b t f place)
    spot_holds place ys h u k size align typed = grind (arith, absent_holds, present_holds)

    spot_readable : (place : Option ℕ) (ys : Elements) → IsPresentOrAbsent c b S t f place → ElementsUnfold ys c b S (entries_at b S t f place) → KindHolds S f f.kind → IsTyped b t f.slot f.kind → IfSome place (λ p. IsReadable b t f.slot p f.kind)
    spot_readable place ys h u k typed = grind (arith, present_readable)

    field_spot_held : HoldsField c b S t f → IsSpot b S (field_spot b t f)
    unfolding IsField entries
    field_spot_held h = spot_holds (field_place b t f.slot) h.found h.met h.unfolds h.kind h.size_is h.align_is h.typed

    field_read : HoldsField c b S t f → IfSome (field_place b t f.slot) (λ p. IsReadable b t f.slot p f.kind)
    unfolding IsField entries
    field_read h = spot_readable (field_place b t f.slot) h.found h.met h.unfolds h.kind h.typed

  -- a live field of a table that unfolds leads to a spot where what is to hold holds, and can be followed
  pub field_spot_holds : (k t n : ℕ) (f : Live) → IsServed S → IsTableAt b S k t → numbered S k n ≡ Some f → IsSpot b S (field_spot b t f)
  field_spot_holds k t n f s h e = field_spot_held h.checks t f (field_holds b S k t n f s h e)

  pub field_readable : (k t n : ℕ) (f : Live) → IsServed S → IsTableAt b S k t → numbered S k n ≡ Some f → IfSome (field_place b t f.slot) (λ p. IsReadable b t f.slot p f.kind)
  field_readable k t n f s h e = field_read h.checks t f (field_holds b S k t n f s h e)
