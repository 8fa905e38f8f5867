-- A field of which nothing is asked but what its uoffsets lead to.
use Rattle.std.proofs.Common.{◌≡◌, ℕ, ◌+◌, List, Option, Some, None, Result, refl, ◌∙◌}
use Rattle.std.specs.Prelude.{IfOk}
use Rattle.std.proofs.lemmas.Result.{IfOk-weaker}
use Rattle.fb_bytes.specs.Word.{Lent, word}
use Rattle.fb_schema.specs.Rows.{Rows}
use Rattle.fb_rules.specs.declared.{site.Site.Site, site.Stop.Stop, offset_row.Row.Row, offset_row.Leads.TheVariants.All, offset_row.Referent.Referent}
use Rattle.fb_rules.specs.{Places.target, Places.field_place, Fields.type_place, Cost.slot_reads, Cost.reads_if_present, Told.IsAskedAt}
use Rattle.fb_strict.specs.declared.tasks.Ask.{Ask}
use Rattle.fb_strict.specs.declared.tasks.Ask.TheVariants.{Text as AskText, Texts as AskTexts, Union as AskUnion, Unions as AskUnions, Table as GoInto, Tables as GoIntoEach, Bytes as AskBytes}
use Rattle.fb_strict.specs.{Skipped.Wants, Passing.Passing, Passing.wants_of, Passing.task_row, Passing.IsOne, Passing.IsEach, Passing.TaskPassed}

-- the words of such a field that stands at this place: one, or those of its vector
abbrev pub one_row : Referent → Option ℕ → Row → Row
one_row referent None old = old
one_row referent (Some p) old = record { leads = All referent; place = p; left = 1 }

abbrev pub each_row : List ℕ → Referent → Option ℕ → Row → Row
each_row b referent None old = old
each_row b referent (Some p) old = record { leads = All referent; place = target b p + 4; left = word b (target b p) 4 }

module _ (w : Wants) (b : List ℕ) (S : Rows) (types : Option ℕ) (referent : Referent) (old : Row) where
  one_is : (place : Option ℕ) (ask : Ask) → IsOne ask referent → one_row referent place old ≡ task_row w b S types place ask old
  one_is None ask h = refl
  one_is (Some p) AskText h = rw h refl
  one_is (Some p) (GoInto k) h = rw h refl
  one_is (Some p) AskTexts h = absurd h
  one_is (Some p) (AskUnion e) h = absurd h
  one_is (Some p) (GoIntoEach k) h = absurd h
  one_is (Some p) (AskUnions e) h = absurd h
  one_is (Some p) (AskBytes held) h = absurd h

  each_is : (place : Option ℕ) (ask : Ask) → IsEach ask referent → each_row b referent place old ≡ task_row w b S types place ask old
  each_is None ask h = refl
  each_is (Some p) AskTexts h = rw h refl
  each_is (Some p) (GoIntoEach k) h = rw h refl
  each_is (Some p) AskText h = absurd h
  each_is (Some p) (AskUnion e) h = absurd h
  each_is (Some p) (GoInto k) h = absurd h
  each_is (Some p) (AskUnions e) h = absurd h
  each_is (Some p) (AskBytes held) h = absurd h

module _ (p : Passing) (m new : Lent) (t : ℕ) (site : Site) (slot : ℕ) (referent : Referent) (old past : Row) (result : Result (Unit {0}) Stop) where
  abbrev place : Option ℕ
  place = field_place m.bytes t slot

  abbrev types : Option ℕ
  types = type_place m.bytes t slot

  pub one_passed : (ask : Ask) → IsOne ask referent → IsAskedAt {A = Unit {0}} site p.limits m new None (slot_reads m.bytes t slot) t result → IfOk result (λ _. past ≡ one_row referent place old)
      → TaskPassed {A = Unit {0}} p m new t site slot ask old past result
  one_passed AskText h asked row = record { asked = asked; row = IfOk-weaker result _ _ (λ u e. e ∙ one_is (wants_of p) m.bytes p.rows types referent old place AskText h) row }
  one_passed (GoInto k) h asked row = record { asked = asked; row = IfOk-weaker result _ _ (λ u e. e ∙ one_is (wants_of p) m.bytes p.rows types referent old place (GoInto k) h) row }
  one_passed AskTexts h asked row = absurd h
  one_passed (AskUnion e) h asked row = absurd h
  one_passed (GoIntoEach k) h asked row = absurd h
  one_passed (AskUnions e) h asked row = absurd h
  one_passed (AskBytes held) h asked row = absurd h

  pub each_passed : (ask : Ask) → IsEach ask referent → IsAskedAt {A = Unit {0}} site p.limits m new None (slot_reads m.bytes t slot + reads_if_present 2 place) t result → IfOk result (λ _. past ≡ each_row m.bytes referent place old)
      → TaskPassed {A = Unit {0}} p m new t site slot ask old past result
  each_passed AskTexts h asked row = record { asked = asked; row = IfOk-weaker result _ _ (λ u e. e ∙ each_is (wants_of p) m.bytes p.rows types referent old place AskTexts h) row }
  each_passed (GoIntoEach k) h asked row = record { asked = asked; row = IfOk-weaker result _ _ (λ u e. e ∙ each_is (wants_of p) m.bytes p.rows types referent old place (GoIntoEach k) h) row }
  each_passed AskText h asked row = absurd h
  each_passed (AskUnion e) h asked row = absurd h
  each_passed (GoInto k) h asked row = absurd h
  each_passed (AskUnions e) h asked row = absurd h
  each_passed (AskBytes held) h asked row = absurd h
