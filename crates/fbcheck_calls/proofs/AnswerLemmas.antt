-- To whom a yes is due, and to whom a no.
use Rattle.std.proofs.Common.{length, ◌≡◌, ◌==◌, ℕ, ◌≤◌, ◌<◌, ◌^◌, List, refl, sym, subst, arith, Bool, true, false, Option, Some, None, option_map, IfSome, IsSome, IsSomeAnd, IsTrue, if◌then◌else◌, eqb-true}
use Rattle.std.proofs.lemmas.Bool.{ne_eqb}
use Rattle.fb_schema.specs.Rows.{Rows, is_table}
use Rattle.fb_bfbs.specs.{Loads.HasTableForRoot, declared.loading.Loaded.Loaded}
use Rattle.fb_rules.specs.{Question.Question, declared.start.Ident.Ident, declared.fault.Report.Report}
use Rattle.fb_strict.specs.{AsAsked.HasNoneBy, AsAsked.ReportsBy, Planned.Planned}
use Rattle.fbcheck_calls.specs.{Answered.IsBadFrom, Answered.IsChecked, Answered.IsGoodFrom, Answered.IsUnserved, Answered.Serves, AnswerLaws.CanServe, AnswerLaws.DemandsArePlanned}
use Rattle.fbcheck_calls.specs.{AnswerLaws.IsAsAsked, AnswerLaws.PlainIsPlain, Asked.ident_asked, Asked.if_table, Asked.plan_asked, Asked.plan_for, Asked.question_of, Asked.root_asked}
use Rattle.fbcheck_calls.specs.{Bases.Based, Told.told, declared.outcome.Outcome.Outcome, declared.options.Options.Options}
use Rattle.fbcheck_calls.specs.declared.outcome.Outcome.TheVariants.{Good, Bad, UnknownOptions, OutOfRange, NoIdent, NoRoot, TooLong, NotPlanned}

-- what holds of the value that there is
at_value : {X : Type 0} (o : Option X) (x : X) (P : X → Type 0) → o ≡ Some x → IsSomeAnd o P → P x
at_value o x P e h = subst (λ v. IsSomeAnd v P) e h

-- the buffer isn't as it is asked for where nothing is said to be, and is where a report counts it
none_asked : (plan : Option Planned) (q : Question) (b : List ℕ) → HasNoneBy plan q b → IsAsAsked plan q b → ⊥
none_asked None q b none is = none is.0 is.1 is.2
none_asked (Some plan) q b none is = none is.0 is.1

some_asked : (plan : Option Planned) (q : Question) (b : List ℕ) (r : Report) → ReportsBy plan q b r → IsAsAsked plan q b
some_asked None q b r h = (h.found, h.well_formed, h.within)
some_asked (Some plan) q b r h = (r, h)

-- a root that is a table is the table of its number
own_table : (rows : Rows) (root : Option ℕ) → IfSome root (λ n. IsTrue (is_table rows n)) → root ≡ if_table rows root
own_table rows None h = refl
own_table rows (Some n) h = rw h refl

-- a schema's own root, which is a table, is the one that is asked for
pub own_root : (l : Loaded) (o : Options) → HasTableForRoot l → o.root ≡ 4294967295 → l.root ≡ root_asked l o
own_root l o h own =
    let rows = l.schema in
    subst (λ (n : ℕ). l.root ≡ (if n == 4294967295 then if_table rows l.root else (if n == 4294967294 then None else if_table rows (Some n)))) (sym own) (own_table rows l.root h)

module _ (s : Based) (n : ℕ) (o : Options) (b : List ℕ) (plan : Option Planned) (root : ℕ) (ident : Ident) (c : CanServe s n o plan root ident) where
  served : (P : Option Planned → ℕ → Ident → Type 0) → Serves s n o P → P plan root ident
  served P h =
      let by_plan = at_value (plan_asked s o) plan (λ p. IsSomeAnd (root_asked s.loaded o) (λ r. IsSomeAnd (ident_asked s.loaded o) (P p r))) c.plan_is h.1 in
      at_value (ident_asked s.loaded o) ident (P plan root) c.ident_is (at_value (root_asked s.loaded o) root (λ r. IsSomeAnd (ident_asked s.loaded o) (P plan r)) c.root_is by_plan)

  -- no answer is that a check can't begin
  never_unserved : (a : Outcome) → IsUnserved s n o a → ⊥
  never_unserved UnknownOptions h = h c.limits.known
  never_unserved OutOfRange h = let room = c.limits.depth in let past = h.1 in omega arith
  never_unserved NotPlanned h = let e = c.plan_is in let none = h.1 in cc
  never_unserved NoIdent h = let e = c.ident_is in let none = h.3 in cc
  never_unserved NoRoot h = let e = c.root_is in let none = h.2 in cc
  never_unserved _ h = h

  pub good_gets_yes : (a : Outcome) → IsAsAsked plan (question_of s.loaded o b root ident) b → length b < 2 ^ 31 → IsChecked s n o b a → (told a).status ≡ 0
  good_gets_yes (Good r) is short h = refl
  good_gets_yes (Bad f) is short h = let bad = served (IsBadFrom s o b f) h.1 in absurd (none_asked plan (question_of s.loaded o b root ident) b bad.none is)
  good_gets_yes TooLong is short h = let long = served (λ p r d. 2 ^ 31 ≤ length b) h in absurd (omega arith)
  good_gets_yes a is short h = absurd (never_unserved a h)

  pub bad_gets_no : (a : Outcome) → (IsAsAsked plan (question_of s.loaded o b root ident) b → ⊥) → length b < 2 ^ 31 → IsChecked s n o b a → (told a).status ≡ 1
  bad_gets_no (Good r) none short h =
      let good = served (IsGoodFrom s o b r) h.1 in absurd (none (some_asked plan (question_of s.loaded o b root ident) b r good))
  bad_gets_no (Bad f) none short h = refl
  bad_gets_no TooLong none short h = let long = served (λ p r d. 2 ^ 31 ≤ length b) h in absurd (omega arith)
  bad_gets_no a none short h = absurd (never_unserved a h)

  pub long_gets_its_number : (a : Outcome) → 2 ^ 31 ≤ length b → IsChecked s n o b a → (told a).status ≡ 7
  long_gets_its_number (Good r) long h = let short = h.0 in absurd (omega arith)
  long_gets_its_number (Bad f) long h = let short = h.0 in absurd (omega arith)
  long_gets_its_number TooLong long h = refl
  long_gets_its_number a long h = absurd (never_unserved a h)

-- by which plan is asked
pub plain_is_plain : PlainIsPlain
plain_is_plain s o e = subst (λ (t : Bool). (if t then Some None else option_map Some (plan_for s o.demands)) ≡ Some None) (sym (subst (λ m. (m == 0) ≡ true) (sym e) refl)) refl

planned_by : (same : Bool) (own plan : Option Planned) → option_map Some (if same then own else None) ≡ Some plan → IsSome plan × (plan ≡ own) × (same ≡ true)
planned_by true (Some p) (Some q) e = (refl, cc, refl)
planned_by true (Some p) None e = cc
planned_by true None plan e = cc
planned_by false own plan e = cc

pub demands_are_planned : DemandsArePlanned
demands_are_planned s o plan some e =
    let by : option_map Some (plan_for s o.demands) ≡ Some plan = subst (λ (t : Bool). (if t then Some None else option_map Some (plan_for s o.demands)) ≡ Some plan) (ne_eqb o.demands 0 some) e in
    let h = planned_by (o.demands == s.demands) s.plan plan by in
    (h.0, h.1, eqb-true o.demands s.demands h.2)
