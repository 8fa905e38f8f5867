-- Marks of a schema file, and the plan by them.
use Rattle.std.proofs.Common.{◌≡◌, ℕ, Bool, true, false, List, [], length, map, refl, sym, ap, subst, arith, eqb-true}
use Rattle.std.specs.Prelude.{◌==◌, ◌&&◌, is_none}
use Rattle.std.proofs.lemmas.Option.{slice_get_within}
use Rattle.fb_schema.specs.{Live.Live, Rows.Rows}
use Rattle.fb_bfbs.specs.{ByteFields.HasUnmarked, ByteFields.IsField, ByteFields.is_at, ByteFields.is_bytes, Loads.IsLoaded, Loads.IsLoadFault, Marks.AreMarks, Marks.Marked, Marks.marked}
use Rattle.fb_bfbs.specs.declared.{loading.Loaded.Loaded, marks.Mark.Mark, marks.Marks.Marks}
use Rattle.fb_strict.specs.{Holding.IsPlanFault, Holding.has_bytes, Holding.meant, declared.holding.PlanFault.TheVariants.NoSuchTable as LostAt}
use Rattle.fbcheck_calls.specs.Answered.{AreMarksFor, HasLostAt, IsInSlot, IsLostAt, IsNotOpened, IsNotPlanned}
use Rattle.fbcheck_calls.specs.{Asked.HasLimits, Asked.asks_marks, Asked.limits_of, declared.outcome.Outcome.Outcome, declared.outcome.FieldAt.FieldAt, declared.options.Options.Options}
use Rattle.fbcheck_calls.specs.declared.outcome.Outcome.TheVariants.{NoSchema, NoSuchTable}

-- where both hold, the first does
first_holds : (x y : Bool) → (x && y) ≡ true → x ≡ true
first_holds true y h = refl
first_holds false y h = h

-- a field of bytes with a slot stands in it
pub in_slot : (S : Rows) (k slot : ℕ) (f : Live) → IsField S k (is_at slot) f → IsInSlot S k slot f
in_slot S k slot f is = record { place = is.place; at = is.at; slot_is = eqb-true f.slot slot (first_holds (f.slot == slot) (is_bytes f.kind) is.is) }

-- a mark that names no table is of a field of bytes
pub lost_has_bytes : (S : Rows) (k slot : ℕ) (ms : List Marked) → IsPlanFault S ms (LostAt k slot) → has_bytes S k slot ≡ true
lost_has_bytes S k slot ms (i, m, at, lost, object_is, slot_is) =
    let owned = subst (λ j. has_bytes S j m.slot ≡ true) object_is (first_holds (has_bytes S m.object m.slot) (is_none (meant S m.object m.held)) lost) in
    subst (λ t. has_bytes S k t ≡ true) slot_is owned

-- the marks of a file where they are asked, and none where they aren't
module _ (file : List ℕ) (o : Options) (S : Rows) where
  pub marks_for : (marks : Marks) → asks_marks o.demands ≡ true → AreMarks file (limits_of o (length file)) marks → (HasUnmarked S (map marked marks.fields.items) marks.builtins → ⊥)
      → AreMarksFor (asks_marks o.demands) file o S (map marked marks.fields.items)
  marks_for marks asked are told = subst (λ t. AreMarksFor t file o S (map marked marks.fields.items)) (sym asked) (marks, (asked, are), refl, told)

  pub no_marks_for : (marks : List Mark) → asks_marks o.demands ≡ false → marks ≡ [] → AreMarksFor (asks_marks o.demands) file o S (map marked marks)
  no_marks_for marks asked none = subst (λ t. AreMarksFor t file o S (map marked marks)) (sym asked) (ap (map marked) none)

-- none is lost among none
none_lost : (S : Rows) (at : FieldAt) → IsLostAt S [] at → ⊥
none_lost S at (object, slot, f, numbered, in_slot, (i, m, there, lost, object_is, slot_is)) = let inside = slice_get_within [] i m there in omega (arith, inside)

-- the file marks such a field where one of the marks that are asked of it is
lost_at : (t : Bool) (file : List ℕ) (o : Options) (l : Loaded) (ms : List Marked) (at : FieldAt) → IsLoaded file (limits_of o (length file)) l → AreMarksFor t file o l.schema ms → IsLostAt l.schema ms at → HasLostAt file o at
lost_at false file o l ms at loaded none lost = absurd (none_lost l.schema at (subst (λ xs. IsLostAt l.schema xs at) none lost))
lost_at true file o l ms at loaded (marks, asked, same, told) lost = (l, loaded, marks, asked, subst (λ xs. IsLostAt l.schema xs at) same lost)

-- why no schema is made where no plan is
pub not_opened : (file : List ℕ) (o : Options) (l : Loaded) (ms : List Marked) (a : Outcome) → HasLimits o 4096 → IsLoaded file (limits_of o (length file)) l
    → AreMarksFor (asks_marks o.demands) file o l.schema ms → IsNotPlanned l.schema ms a → IsNotOpened file o a
not_opened file o l ms (NoSchema fault) has loaded say why = (has, subst (IsLoadFault file (limits_of o (length file))) (sym why) (loaded.file).short)
not_opened file o l ms (NoSuchTable at) has loaded say why = (has, lost_at (asks_marks o.demands) file o l ms at loaded say why)
not_opened file o l ms a has loaded say why = absurd why
