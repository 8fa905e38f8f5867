-- How values are read in bytes that aren't checked.
use Rattle.std.proofs.Common.{◌≡◌, ℕ, ◌+◌, ◌<◌, ◌≤◌, ◌^◌, List, [], ◌∷◌, ◌++◌, append-nil, inl, length, get_or, arith, refl, sym, ap, subst, ◌∙◌, IsTrue, Option, Some, None, IfSome, IsSomeAnd}
use Rattle.std.proofs.lemmas.List.{get_or_default}
use Rattle.fb_schema.specs.{Rows.Rows, Rows.is_table, declared.kinds.Kind.TheVariants.Table}
use Rattle.fb_rules.specs.{Places.target, Question.Question, Verdict.Reports, WellFormed.base, declared.fault.Report.Report, declared.start.Start.Start, declared.start.Ident.Ident}
use Rattle.fb_verify.specs.Sealed.{Sealed, IsUnfolded, sealed_by}
use Rattle.fb_bfbs.specs.declared.loading.Loaded.{Loaded}
use Rattle.fb_strict.specs.{AsAsked.ReportsBy, Planned.Planned}
use Rattle.fb_strict.proofs.OneVerdict.{strict_is_ok}
use Rattle.fb_access.specs.{Denotes.Reaches, Denotes.Shown, Denotes.next_spot, Denotes.root_spot, Held.IsSpot, Tested.IsOther, declared.extent.Extent.Extent}
use Rattle.fb_access.specs.declared.{step.Step.Step, spot.Spot.Spot}
use Rattle.fb_access.proofs.{StepKinds.allowed_leads, StepKinds.kind_allows, Walks.root_placed}
use Rattle.fbcheck_calls.specs.{Again.AreOther, Again.GoodStaysRead, Again.IsReadAgain, Again.IsToldOf, Again.LiesWithin, Again.ValuesAreOne, Answered.IsGoodFrom, Answered.IsChecked}
use Rattle.fbcheck_calls.specs.{Asked.AreKnown, Asked.ident_asked, Asked.if_table, Asked.limits_of, Asked.plan_asked, Asked.question_of, Asked.root_asked, Asked.start_asked, Bases.Based}
use Rattle.fbcheck_calls.specs.{Steps.AllFit, Steps.AreSteps, Steps.DontFit, Steps.EndAt, Steps.FitFrom, Steps.FitHere, Steps.step_of, Steps.steps_in, Values.placed, Values.value_at}
use Rattle.fbcheck_calls.specs.{Values.value_told, Walks.GoTo, Walks.IsToldFrom, Walks.NoneFit, declared.options.Options.Options, declared.steps.PlainPath.PlainPath}
use Rattle.fbcheck_calls.specs.declared.{steps.PlainStep.PlainStep, values.Value.Value, outcome.Outcome.TheVariants.Changed as BytesChanged, outcome.Outcome.TheVariants.Good}

-- if these are the bytes of a good buffer, this holds at the spot
abbrev pub IsHeldAt : List ℕ → Rows → Start → ℕ → Spot → Type 0
IsHeldAt b S start root q = (v : Sealed) → v.bytes ≡ b → v.schema ≡ S → v.start ≡ start → v.root ≡ root → IsUnfolded v → IsSpot b S q

module _ (b : List ℕ) (S : Rows) (start : Start) (root : ℕ) where
  pub root_held : IsHeldAt b S start root (root_spot b start root)
  root_held v bytes_are rows_are start_is root_is h =
      rw (sym bytes_are, sym rows_are, sym start_is, sym root_is) (root_placed v v.root (target v.bytes (base v.start)) h refl refl).spot

  -- where it doesn't hold, they aren't
  pub is_other : (q : Spot) → IsHeldAt b S start root q → (IsSpot b S q → ⊥) → IsOther b S start root
  is_other q held fails v bytes_are rows_are start_is root_is h = fails (held v bytes_are rows_are start_is root_is h)

  -- where it fails at the root table, nor are they
  pub root_is_other : (q : Spot) → q ≡ root_spot b start root → (IsSpot b S q → ⊥) → IsOther b S start root
  root_is_other q same fails = is_other q (rw same root_held) fails

  module _ (first q : Spot) (plain : List PlainStep) (same : first ≡ root_spot b start root) (go : GoTo b S first plain q) where
    -- steps from the root table lead where those from there do
    pub end_at : EndAt b S start root plain q
    end_at = (go.lead.0, go.lead.1, subst (λ p. Reaches b S p go.lead.0 q) same go.lead.2)

    pub end_is_other : (IsSpot b S q → ⊥) → IsOther b S start root
    end_is_other fails = root_is_other first same (λ h. fails (go.held h))

  -- what is told at the end of steps from there is told at that of those from the root table
  pub end_told : (first : Spot) (plain : List PlainStep) (v : Value) → first ≡ root_spot b start root → IsToldFrom b S first plain v → ((q : Spot) × EndAt b S start root plain q × (v ≡ value_at b S q)) × LiesWithin (length b) v
  end_told first plain v same (q, lead, told) = ((q, (lead.0, lead.1, subst (λ p. Reaches b S p lead.0 q) same lead.2), told.value), told.within)

  -- what fits from the root table fits there
  pub from_root : (first : Spot) (plain : List PlainStep) → first ≡ root_spot b start root → FitFrom S (Table root) plain → FitHere S first plain
  from_root first plain same (path, are, fits) = (path, Table root, are, rw same (inl refl), fits)

  pub none_from_root : (first : Spot) (plain : List PlainStep) → first ≡ root_spot b start root → NoneFit S first plain → DontFit S root plain
  none_from_root first plain same none path are fits = none [] (from_root first (plain ++ []) same (path, subst (λ xs. AreSteps xs path) (sym (append-nil plain)) are, fits))

  pub none_stuck : (paths : List PlainPath) (n : ℕ) (d : PlainPath) (plain : List PlainStep) (first : Spot) → first ≡ root_spot b start root → n < length paths → Some plain ≡ steps_in (get_or paths n d) → AllFit S root paths → NoneFit S first plain → ⊥
  none_stuck paths n d plain first same there e fit none =
      let fits : FitFrom S (Table root) plain = subst (λ o. IsSomeAnd o (FitFrom S (Table root))) (sym e) (fit n there d) in
      none_from_root first plain same none fits.0 fits.1 fits.2

-- where a step doesn't lead on, the steps don't fit
module _ (S : Rows) (p : Spot) (c : PlainStep) (cs : List PlainStep) where
  pub no_step_fits : step_of c ≡ None → FitHere S p (c ∷ cs) → ⊥
  no_step_fits e ([], kind, are, is, fits) = are
  no_step_fits e (s ∷ path, kind, are, is, fits) = let found : step_of c ≡ Some s = are.0 in let wrong : None ≡ Some s = cc in cc

  pub stuck_fits : (b : List ℕ) (s : Step) → step_of c ≡ Some s → next_spot b S p s ≡ None → FitHere S p (c ∷ cs) → ⊥
  stuck_fits b s e none ([], kind, are, is, fits) = are
  stuck_fits b s e none (s' ∷ path, kind, are, is, fits) =
      let found : step_of c ≡ Some s' = are.0 in
      let same : s' ≡ s = cc in
      allowed_leads b S p s' (kind_allows S p s' kind fits.0 is fits.1) (subst (λ x. next_spot b S p x ≡ None) (sym same) none)

-- where a value's bytes are told, they lie where its extent does
pub lies_within : (n : ℕ) (x : Shown) (e : Option Extent) → IfSome e (λ (y : Extent). y.at + y.size ≤ n) → LiesWithin n (placed (value_told x) e)
lies_within n x e h = grind arith

module _ (b : List ℕ) (S : Rows) (start : Start) (root : ℕ) where
  -- what was found at the end of a path
  told_here : (p : PlainPath) (plain : List PlainStep) (x : Value) → steps_in p ≡ Some plain → ((q : Spot) × EndAt b S start root plain q × (x ≡ value_at b S q)) × LiesWithin (length b) x → IsToldOf b S start root p x
  told_here p plain x e h = record { value = subst (λ o. IsSomeAnd o (λ plain. (q : Spot) × EndAt b S start root plain q × (x ≡ value_at b S q))) (sym e) h.0; within = h.1 }

  pub told_at : (paths : List PlainPath) (n : ℕ) (p d : PlainPath) (plain : List PlainStep) (x : Value) → n < length paths → Some plain ≡ steps_in (get_or paths n d) → ((q : Spot) × EndAt b S start root plain q × (x ≡ value_at b S q)) × LiesWithin (length b) x → IsToldOf b S start root (get_or paths n p) x
  told_at paths n p d plain x there e h = rw (get_or_default paths n p d there) (told_here (get_or paths n d) plain x (sym e) h)

pub changed_is_read : (l : Loaded) (o : Options) (b : List ℕ) (paths : List PlainPath) (v v' : List Value) (place root : ℕ) → AreKnown o → root_asked l o ≡ Some root → length b < 2 ^ 31 → AreOther l o b paths v v' place root → IsReadAgain l o b paths v v' (BytesChanged place)
changed_is_read l o b paths v v' place root known asked short other = ((known, subst (λ x. IsSomeAnd x (AreOther l o b paths v v' place)) (sym asked) other), short)

-- ---- laws

-- the tree that a report counts
walked : (plan : Option Planned) (q : Question) (b : List ℕ) (r : Report) → ReportsBy plan q b r → (own : Report) × Reports q b own
walked None q b r h = (r, h)
walked (Some plan) q b r h = let ok = strict_is_ok plan q b r h in (ok.walked, ok.reports)

table_asked : (rows : Rows) (n : Option ℕ) (root : ℕ) → if_table rows n ≡ Some root → IsTrue (is_table rows root)
table_asked rows n root e = grind arith

root_is_table : (l : Loaded) (o : Options) (root : ℕ) → root_asked l o ≡ Some root → IsTrue (is_table l.schema root)
root_is_table l o root e = grind (arith, table_asked)

-- what there is, where it holds of what there is
some_of : {X : Type 0} (o : Option X) (P : X → Type 0) → IsSomeAnd o P → (x : X) × (o ≡ Some x) × P x
some_of (Some x) P h = (x, refl, h)
some_of None P h = absurd h

some_both : {X : Type 0} (o : Option X) (P Q : X → Type 0) → IsSomeAnd o P → IsSomeAnd o Q → (x : X) × (o ≡ Some x) × P x × Q x
some_both (Some x) P Q h i = (x, refl, h, i)
some_both None P Q h i = absurd h

good_unfolds : (l : Loaded) (o : Options) (b : List ℕ) (plan : Option Planned) (root : ℕ) (ident : Ident) (r : Report) → length b < 2 ^ 31 → root_asked l o ≡ Some root → ReportsBy plan (question_of l o b root ident) b r → IsOther b l.schema (start_asked o) root → ⊥
good_unfolds l o b plan root ident r short root_is good other =
    let own = walked plan (question_of l o b root ident) b r good in
    other (sealed_by (question_of l o b root ident) b own.0) refl refl refl refl (record {
      short = short;
      root_is_table = root_is_table l o root root_is;
      ident = ident;
      limits = limits_of o (length b);
      found = own.1.found;
      well_formed = own.1.well_formed;
      tables = own.1.tables;
      depth = own.1.depth;
      reads = own.1.reads;
    })

-- where a check said that the bytes are good, they are no others
pub good_is_no_other : (s : Based) (n : ℕ) (o : Options) (b : List ℕ) (r : Report) (P : ℕ → Type 0) → IsChecked s n o b (Good r) → IsSomeAnd (root_asked s.loaded o) P → ((root : ℕ) → P root → IsOther b s.loaded.schema (start_asked o) root) → ⊥
good_is_no_other s n o b r P (short, (limits, served)) others other =
    let plan = some_of (plan_asked s o) (λ plan. IsSomeAnd (root_asked s.loaded o) (λ root. IsSomeAnd (ident_asked s.loaded o) (IsGoodFrom s o b r plan root))) served in
    let root = some_both (root_asked s.loaded o) (λ root. IsSomeAnd (ident_asked s.loaded o) (IsGoodFrom s o b r plan.0 root)) P plan.2 others in
    let ident = some_of (ident_asked s.loaded o) (IsGoodFrom s o b r plan.0 root.0) root.2 in
    good_unfolds s.loaded o b plan.0 root.0 ident.0 r short root.1 ident.2 (other root.0 root.3)

pub good_stays_read : GoodStaysRead
good_stays_read s n o b r paths v v' place good ((known, others), still) =
    good_is_no_other s n o b r (AreOther s.loaded o b paths v v' place) good others (λ root h. h.other)

-- steps and what they lead to are one
steps_one : (plain : List PlainStep) (path other : List Step) → AreSteps plain path → AreSteps plain other → path ≡ other
steps_one [] [] [] h i = refl
steps_one [] [] (t ∷ other) h i = absurd i
steps_one [] (s ∷ path) other h i = absurd h
steps_one (c ∷ cs) [] other h i = absurd h
steps_one (c ∷ cs) (s ∷ path) [] h i = absurd i
steps_one (c ∷ cs) (s ∷ path) (t ∷ other) h i =
    let found : step_of c ≡ Some s = h.0 in
    let again : step_of c ≡ Some t = i.0 in
    let same : s ≡ t = cc in
    ap (λ x. x ∷ path) same ∙ ap (λ xs. t ∷ xs) (steps_one cs path other h.1 i.1)

module _ (b : List ℕ) (S : Rows) where
  reaches_one : (p : Spot) (steps : List Step) (q r : Spot) → Reaches b S p steps q → Reaches b S p steps r → q ≡ r
  reaches_one p [] q r h i = sym h ∙ i
  reaches_one p (s ∷ steps) q r h i = grind (arith, reaches_one h.0 steps q r)

  end_one : (start : Start) (root : ℕ) (plain : List PlainStep) (q r : Spot) → EndAt b S start root plain q → EndAt b S start root plain r → q ≡ r
  end_one start root plain q r (path, are, reach) (other, others, reaches) =
      reaches_one (root_spot b start root) path q r reach (subst (λ x. Reaches b S (root_spot b start root) x r) (sym (steps_one plain path other are others)) reaches)

pub values_are_one : ValuesAreOne
values_are_one b S start root p v w h i =
    let plain = some_both (steps_in p) (λ plain. (q : Spot) × EndAt b S start root plain q × (v ≡ value_at b S q)) (λ plain. (q : Spot) × EndAt b S start root plain q × (w ≡ value_at b S q)) h i in
    let one = plain.2 in
    let two = plain.3 in
    one.2 ∙ ap (value_at b S) (end_one b S start root plain.0 one.0 two.0 one.1 two.1) ∙ sym two.2
