-- Where a field leads of which a reader knows its row.
use Rattle.std.proofs.Common.{◌≡◌, ℕ, List, Option, Some, None, refl, sym, ◌∙◌, ap, subst}
use Rattle.std.specs.Prelude.{option_map, IfSome}
use Rattle.fb_schema.specs.{Rows.Rows, Live.Live, Served.IsServed, declared.kinds.Kind.TheVariants.Table}
use Rattle.fb_rules.specs.Places.{field_place}
use Rattle.fb_access.specs.declared.{known.KnownField.KnownField, step.Step.TheVariants.Field, spot.Spot.Spot, spot.Spot.TheVariants.AtTable}
use Rattle.fb_access.specs.{Fitting.numbered, Denotes.next_spot, Denotes.Leads, Held.IsSpot, Held.HasVtable, Held.IsReadable, Here.IsHere, Spots.field_spot, Spots.spot_at}
use Rattle.fb_access.specs.Known.{known_of, HasKnown, known_at, known_spot}
use Rattle.fb_access.proofs.{Held.at_table, TableFields.table_has_vtable, FieldSpots.field_readable}

-- the live field
record IsField (S : Rows) (k : ℕ) (field : KnownField) : Type 0 where
  live : Live
  found : numbered S k field.number ≡ Some live
  same : known_of live ≡ field

the_field : (S : Rows) (k : ℕ) (field : KnownField) (o : Option Live) → numbered S k field.number ≡ o → option_map known_of o ≡ Some field → IsField S k field
the_field S k field None i e = absurd cc
the_field S k field (Some f) i e = record { live = f; found = i; same = cc }

-- what is known of a live field says where it leads
spot_same : (b : List ℕ) (t : ℕ) (f : Live) (place : Option ℕ) → spot_at b t f place ≡ known_at b t (known_of f) place
spot_same b t f None = refl
spot_same b t f (Some p) = refl

module _ (b : List ℕ) (S : Rows) (p : Spot) (field : KnownField) (h : HasKnown S p field) where
  -- the table is the one that is here
  field_of : (k t : ℕ) → p ≡ AtTable k t → IsField S k field
  field_of k t e =
      let same : k ≡ h.object = (let i : IsHere (AtTable k t) (Table h.object) = subst (λ q. IsHere q (Table h.object)) e h.here in cc) in
      the_field S k field (numbered S k field.number) refl (rw same h.found)

  pub known_leads : (k t : ℕ) → p ≡ AtTable k t → Leads b S p (Field field.number) (known_spot b t field)
  unfolding next_spot
  known_leads k t e =
      let f = field_of k t e in
      let led : option_map (field_spot b t) (numbered S k field.number) ≡ Some (field_spot b t f.live) = ap (option_map (field_spot b t)) f.found in
      let there : field_spot b t f.live ≡ known_spot b t field = spot_same b t f.live (field_place b t f.live.slot) ∙ ap (known_spot b t) f.same in
      subst (λ q. next_spot b S q (Field field.number) ≡ Some (known_spot b t field)) (sym e) (led ∙ ap Some there)

  pub known_vtable : (k t : ℕ) → p ≡ AtTable k t → IsSpot b S p → HasVtable b t
  known_vtable k t e holds = table_has_vtable b S k t (at_table b S p k t e holds)

  pub known_readable : (k t : ℕ) → IsServed S → p ≡ AtTable k t → IsSpot b S p → IfSome (field_place b t field.slot) (λ q. IsReadable b t field.slot q field.kind)
  known_readable k t served e holds =
      let f = field_of k t e in
      subst (λ (g : KnownField). IfSome (field_place b t g.slot) (λ q. IsReadable b t g.slot q g.kind)) f.same (field_readable b S k t field.number f.live served (at_table b S p k t e holds) f.found)
