-- How the elements of a vector are read in bytes that aren't checked.
use Rattle.std.proofs.Common.{◌≡◌, ◌≢◌, ℕ, suc, ◌+◌, ◌-◌, ◌<◌, ◌≤◌, ◌^◌, List, [], ◌∷◌, ◌++◌, length, take, drop, get_or, get_or-set_other, get_or-set_same, below_more, take-append-drop, length-append, length-take-le, drop-cons, append-nil, arith, refl, sym, ap, subst, ◌∙◌, Option, Some, None, IsSomeAnd}
use Rattle.std.specs.Prelude.{IsErrAnd, MatchOption, MatchResult, Result, Ok, Err}
use Rattle.std.proofs.{Math.ListN.set, Math.Seq.take-append-add, lemmas.List.get_or_past, lemmas.List.length-set}
use Rattle.fb_schema.specs.{Rows.Rows, Served.IsServed, declared.kinds.Kind.Kind, declared.kinds.Kind.TheVariants.Table}
use Rattle.fb_rules.specs.declared.start.Start.{Start}
use Rattle.fb_access.specs.{Denotes.next_spot, Denotes.root_spot, Denotes.shown, Fitting.StepsFit, Fitting.next_kind, Held.IsSpot, Tested.IsSeen, declared.extent.Extent.Extent}
use Rattle.fb_access.specs.declared.{step.Step.Step, step.Step.TheVariants.Element, spot.Spot.Spot, tested_value.Seen.Seen}
use Rattle.fb_access.proofs.{StepKinds.kinds_go_on, Staying.step_stays, Walks.reaches_on}
use Rattle.fb_bfbs.specs.declared.loading.Loaded.{Loaded}
use Rattle.fbcheck_calls.specs.Each.{AreElementsTold, FitsEach, GoodStaysReadOfEach, HasEach, IsCountTold, IsEachOther, IsReadOfEach, MarkedPathsServe, elements_of, path_to, path_to_all}
use Rattle.fbcheck_calls.specs.{Each.to_element, Asked.AreKnown, Asked.root_asked, Again.AreFilled, Again.IsToldOf, Marked.IsEach, Marked.IsEachAfter}
use Rattle.fbcheck_calls.specs.Steps.{AreSteps, EndAt, FitFrom, FitHere, IsPathOf, no_step, step_of, steps_in, steps_said}
use Rattle.fbcheck_calls.specs.{Values.placed, Values.value_at, Values.value_told, Walks.DontBegin, Walks.IsVector, Walks.IsElementTold, Walks.IsToldAt, Walks.IsToldFrom, Walks.NoneFit}
use Rattle.fbcheck_calls.specs.declared.{outcome.Outcome.TheVariants.Changed as BytesChanged, options.Options.Options, steps.PlainPath.PlainPath, steps.PlainStep.PlainStep}
use Rattle.fbcheck_calls.specs.declared.values.Value.{Value}
use Rattle.fbcheck_calls.proofs.{AgainLemmas.good_is_no_other, AgainLemmas.lies_within, AgainLemmas.stuck_fits, StepLemmas.fit_more}

-- ---- the steps of a path to an element

-- some steps, one that goes to an element, and others behind it, of so many in all
cut_around : (xs ys : List PlainStep) (x : PlainStep) (n m count : ℕ) → length xs ≡ n → count ≡ n + (m + 1) → take count (xs ++ x ∷ ys) ≡ xs ++ x ∷ take m ys
cut_around xs ys x n m count long is =
    let all : count ≡ length xs + suc m = omega arith in
    rw all (take-append-add xs (x ∷ ys) (suc m))

module _ (p : PlainPath) (has : HasEach p) where
  -- that step is there
  is_there : p.each - 1 < length p.steps
  is_there = grind (arith, get_or_past p.steps (p.each - 1) no_step, has.element no_step)

  before_long : length (take (p.each - 1) p.steps) ≡ p.each - 1
  before_long = let there = is_there in length-take-le (p.each - 1) p.steps (omega arith)

  -- the steps before it, a step, and the steps behind it
  abbrev pub around : PlainStep → List PlainStep
  around x = take (p.each - 1) p.steps ++ x ∷ take (p.count - p.each) (drop p.each p.steps)

  pub steps_to : (j : ℕ) → steps_in (path_to p j) ≡ Some (around (to_element j))
  steps_to j =
      let some = has.some in
      let within = has.within in
      let room = has.room in
      let all : p.count ≡ p.each - 1 + (p.count - p.each + 1) = omega arith in
      let cut = cut_around (take (p.each - 1) p.steps) (drop p.each p.steps) (to_element j) (p.each - 1) (p.count - p.each) p.count before_long all in
      grind (arith, cut)

  pub steps_to_all : steps_in (path_to_all p) ≡ Some (take (p.each - 1) p.steps)
  steps_to_all =
      let within = has.within in
      let room = has.room in
      grind arith

  -- all steps as they stand there
  said_around : (j : ℕ) × (take p.count p.steps ≡ around (to_element j))
  said_around =
      let some = has.some in
      let within = has.within in
      let x = get_or p.steps (p.each - 1) no_step in
      let element : x.kind ≡ 2 = has.element no_step in
      let is : x ≡ to_element x.number = rw (← element) refl in
      let each_is : suc (p.each - 1) ≡ p.each = omega arith in
      let rest : drop (p.each - 1) p.steps ≡ to_element x.number ∷ drop p.each p.steps = drop-cons p.steps (p.each - 1) no_step is_there ∙ (λ i. is i ∷ drop (each_is i) p.steps) in
      let split : p.steps ≡ take (p.each - 1) p.steps ++ to_element x.number ∷ drop p.each p.steps = sym (take-append-drop (p.each - 1) p.steps) ∙ ap (λ r. take (p.each - 1) p.steps ++ r) rest in
      let all : p.count ≡ p.each - 1 + (p.count - p.each + 1) = omega arith in
      let cut = cut_around (take (p.each - 1) p.steps) (drop p.each p.steps) (to_element x.number) (p.each - 1) (p.count - p.each) p.count before_long all in
      (x.number, ap (take p.count) split ∙ cut)

-- which element it is doesn't matter to what fits
module _ (S : Rows) where
  other_fits : (kind : Kind) (xs ys : List PlainStep) (i j : ℕ) → FitFrom S kind (xs ++ to_element i ∷ ys) → FitFrom S kind (xs ++ to_element j ∷ ys)
  unfolding next_kind
  other_fits kind [] ys i j ([], are, fits) = absurd are
  other_fits kind [] ys i j (s ∷ path, are, fits) =
      let same : s ≡ Element i = cc (are.0) in
      (Element j ∷ path, (refl, are.1), (fits.0, subst (λ x. next_kind S kind x ≡ Some fits.0) same fits.1, fits.2))
  other_fits kind (x ∷ xs) ys i j ([], are, fits) = absurd are
  other_fits kind (x ∷ xs) ys i j (s ∷ path, are, fits) =
      let on = other_fits fits.0 xs ys i j (path, are.1, fits.2) in
      (s ∷ on.0, (are.0, on.1), (fits.0, fits.1, on.2))

  module _ (root : ℕ) (p : PlainPath) where
    -- a path to each element fits exactly where its steps do
    pub each_fits : HasEach p → FitFrom S (Table root) (take p.count p.steps) → FitsEach S root p
    each_fits has h =
        let said = said_around p has in
        record {
          has = has;
          fits = λ j. rw (steps_to p has j) (other_fits (Table root) (take (p.each - 1) p.steps) (take (p.count - p.each) (drop p.each p.steps)) said.0 j (subst (FitFrom S (Table root)) said.1 h));
        }

    pub fits_each : FitsEach S root p → FitFrom S (Table root) (take p.count p.steps)
    fits_each h =
        let said = said_around p h.has in
        subst (FitFrom S (Table root)) (sym said.1) (rw (steps_to p h.has said.0) at (h.fits said.0))

    -- the path to each element
    pub fits_at : (h : FitsEach S root p) (j : ℕ) → FitFrom S (Table root) (around p h.has (to_element j))
    fits_at h j = rw (steps_to p h.has j) at (h.fits j)

-- what is said to be the steps
pub said_is : (p : PlainPath) (plain : List PlainStep) → Some plain ≡ steps_said p → plain ≡ take p.count p.steps
said_is p plain e = grind arith

-- ---- what is told at its end

steps_append : (xs ys : List PlainStep) (ss rs : List Step) → AreSteps xs ss → AreSteps ys rs → AreSteps (xs ++ ys) (ss ++ rs)
steps_append [] ys [] rs h g = g
steps_append [] ys (s ∷ ss) rs h g = absurd h
steps_append (x ∷ xs) ys [] rs h g = absurd h
steps_append (x ∷ xs) ys (s ∷ ss) rs h g = (h.0, steps_append xs ys ss rs h.1 g)

module _ (b : List ℕ) (S : Rows) (start : Start) (root : ℕ) (p : PlainPath) (has : HasEach p) where
  pub element_is_told : (q : Spot) (j : ℕ) (v : Value) → EndAt b S start root (take (p.each - 1) p.steps) q → IsElementTold b S q (take (p.count - p.each) (drop p.each p.steps)) j v → IsToldOf b S start root (path_to p j) v
  element_is_told q j v (path, are, reach) (end, (more, those, reaches), told) =
      let ends : EndAt b S start root (around p has (to_element j)) end = (path ++ more, steps_append (take (p.each - 1) p.steps) (to_element j ∷ take (p.count - p.each) (drop p.each p.steps)) path more are those, reaches_on b S (root_spot b start root) q end path more reach reaches) in
      record { value = rw (steps_to p has j) (end, ends, told.value); within = told.within }

  pub count_is_told : (q : Spot) (n : ℕ) → EndAt b S start root (take (p.each - 1) p.steps) q → (v : Value) × IsToldAt b S q v × (n ≡ elements_of v) → IsCountTold b S start root p n
  count_is_told q n ends (v, told, is) = (v, record { value = rw (steps_to_all p has) (q, ends, told.value); within = told.within }, is)

module _ (b : List ℕ) (S : Rows) (p q : Spot) (j : ℕ) (after : List PlainStep) (leads : next_spot b S p (Element j) ≡ Some q) where
  -- what fits behind a vector fits behind its element
  behind_fits : FitHere S p (to_element j ∷ after) → FitHere S q after
  behind_fits h = fit_more S p (to_element j) after (Element j) q refl (kinds_go_on b S p (Element j) q leads) h

  none_behind : NoneFit S q after → FitHere S p (to_element j ∷ after) → ⊥
  none_behind none h = none [] (subst (FitHere S q) (sym (append-nil after)) (behind_fits h))

  told_behind : (v : Value) → IsToldFrom b S q after v → IsElementTold b S p after j v
  told_behind v (end, lead, told) = (end, (Element j ∷ lead.0, (refl, lead.1), (q, leads, lead.2)), told)

  fails_before : IsServed S → (IsSpot b S q → ⊥) → IsSpot b S p → ⊥
  fails_before served fails h = fails (step_stays b S p (Element j) q served h leads)

  -- what is answered of the steps behind it is answered of the element
  pub told_of_element : {E : Type 0} → IsServed S → (r : Result (Option Value) E) → MatchResult r (λ o. MatchOption o (NoneFit S q after) (IsToldFrom b S q after)) (λ _. IsSpot b S q → ⊥)
      → MatchResult r (λ o. MatchOption o (FitHere S p (to_element j ∷ after) → ⊥) (IsElementTold b S p after j)) (λ _. IsSpot b S p → ⊥)
  told_of_element served (Ok None) none = none_behind none
  told_of_element served (Ok (Some v)) told = told_behind v told
  told_of_element served (Err e) fails = fails_before served fails

-- what is told at a spot, and of how many elements
placed_elements : (x : Value) (e : Option Extent) → elements_of (placed x e) ≡ elements_of x
placed_elements x None = refl
placed_elements x (Some e) = refl

pub seen_is_told : (b : List ℕ) (S : Rows) (q : Spot) (seen : Seen) → IsSeen b S q seen → (n : ℕ) → n ≡ elements_of (value_told (shown seen.answer)) → (v : Value) × IsToldAt b S q v × (n ≡ elements_of v)
seen_is_told b S q seen h n is =
    let same : placed (value_told (shown seen.answer)) seen.extent ≡ value_at b S q = λ i. placed (value_told (h.shows i)) (h.stands i) in (
      placed (value_told (shown seen.answer)) seen.extent,
      record { value = same; within = lies_within (length b) (shown seen.answer) seen.extent h.within },
      is ∙ sym (placed_elements (value_told (shown seen.answer)) seen.extent),
    )

-- where an element step leads nowhere
pub no_element : (b : List ℕ) (S : Rows) (p : Spot) (j : ℕ) (after : List PlainStep) → next_spot b S p (Element j) ≡ None → FitHere S p (to_element j ∷ after) → ⊥
no_element b S p j after none h = stuck_fits S p (to_element j) after b (Element j) refl none h

-- ---- values one after another

module _ (P : ℕ → Value → Type 0) (values : List Value) where
  pub filled_on : (n : ℕ) (values' : List Value) (x : Value) → n < length values' → AreFilled P n values values' → P n x → AreFilled P (n + 1) values (set values' n x)
  filled_on n values' x within filled here = record {
    filled = below_more (λ k. k < length (set values' n x) → (v : Value) → P k (get_or (set values' n x) k v)) n
        (λ k h _ v. let ne : k ≢ n = omega arith in rw (get_or-set_other values' n k x v ne) (filled.filled k h (omega arith) v))
        (λ _ v. rw (get_or-set_same values' n x v within) here);
    kept = λ k past v. let ne : k ≢ n = omega arith in rw (get_or-set_other values' n k x v ne) (filled.kept k (omega arith) v);
    long = length-set values' n x ∙ filled.long;
  }

  pub none_filled : AreFilled P 0 values values
  none_filled = record { filled = λ k lt. absurd (omega arith); kept = λ k past v. refl; long = refl }

  -- where there are no more
  pub filled_all : (n m : ℕ) (values' : List Value) → n ≤ m → ((k : ℕ) → k < m → k < length values' → k < n) → AreFilled P n values values' → AreFilled P m values values'
  filled_all n m values' le reach filled = record {
    filled = λ k lt within v. filled.filled k (reach k lt within) within v;
    kept = λ k past v. filled.kept k (omega arith) v;
    long = filled.long;
  }

  pub filled_as : (Q : ℕ → Value → Type 0) (n : ℕ) (values' : List Value) → ((k : ℕ) (v : Value) → P k v → Q k v) → AreFilled P n values values' → AreFilled Q n values values'
  filled_as Q n values' more filled = record { filled = λ k lt within v. more k (get_or values' k v) (filled.filled k lt within v); kept = filled.kept; long = filled.long }

-- ---- of a vector that was found

module _ (b : List ℕ) (S : Rows) (start : Start) (root : ℕ) (p : PlainPath) (fits : FitsEach S root p) (before after : List PlainStep) where
  module _ (is : before ≡ take (p.each - 1) p.steps) (behind : after ≡ take (p.count - p.each) (drop p.each p.steps)) where
    fits_around : (j : ℕ) → FitFrom S (Table root) (before ++ to_element j ∷ after)
    fits_around j = rw (is, behind) (fits_at S root p fits j)

    pub none_begins : DontBegin S root before → ⊥
    none_begins none = none (to_element 0 ∷ after) (fits_around 0)

    module _ (q : Spot) (n : ℕ) (found : IsVector b S start root before q n) where
      ends_there : EndAt b S start root (take (p.each - 1) p.steps) q
      ends_there = subst (λ steps. EndAt b S start root steps q) is found.ends

      pub vector_fits : (j : ℕ) → FitHere S q (to_element j ∷ after)
      vector_fits j = found.fit (to_element j ∷ after) (fits_around j)

      pub all_told : (first m : ℕ) (values values' : List Value) → AreFilled (λ k v. IsElementTold b S q after (first + k) v) m values values' → AreElementsTold b S start root p first m values values'
      all_told first m values values' filled = filled_as (λ k v. IsElementTold b S q after (first + k) v) values (λ k v. IsToldOf b S start root (path_to p (first + k)) v) m values'
          (λ k v h. element_is_told b S start root p fits.has q (first + k) v ends_there (subst (λ steps. IsElementTold b S q steps (first + k) v) behind h)) filled

      pub count_told : IsCountTold b S start root p n
      count_told = count_is_told b S start root p fits.has q n ends_there found.told

-- where an error is answered
pub err_is : {A E : Type 0} (r : Result A E) (e : E) (P : A → Type 0) (Q : E → Type 0) → IsErrAnd r (λ x. x ≡ e) → Q e → MatchResult r P Q
err_is (Ok a) e P Q h q = absurd h
err_is (Err x) e P Q h q = subst Q (sym h) q

pub changed_is_read_of_each : (l : Loaded) (o : Options) (b : List ℕ) (p : PlainPath) (first : ℕ) (v v' : List Value) (n place root : ℕ) → AreKnown o → root_asked l o ≡ Some root → length b < 2 ^ 31
    → IsEachOther l o b p first v v' place root → IsReadOfEach l o b p first v v' n n (BytesChanged place)
changed_is_read_of_each l o b p first v v' n place root known asked short other = ((known, subst (λ x. IsSomeAnd x (IsEachOther l o b p first v v' place)) (sym asked) other), short, refl)

-- ---- laws

pub good_stays_read_of_each : GoodStaysReadOfEach
good_stays_read_of_each s n o b r p first v v' e e' place good ((known, others), still, kept) =
    good_is_no_other s n o b r (IsEachOther s.loaded o b p first v v' place) good others (λ root h. h.other)

-- the step at a place of steps that are written
step_there : (plain more : List PlainStep) (front back : List Step) (s : Step) (d : PlainStep) → AreSteps plain (front ++ s ∷ back) → step_of (get_or (plain ++ more) (length front) d) ≡ Some s
step_there [] more [] back s d h = absurd h
step_there [] more (t ∷ front) back s d h = absurd h
step_there (c ∷ plain) more [] back s d h = h.0
step_there (c ∷ plain) more (t ∷ front) back s d h = step_there plain more front back s d h.1

steps_long : (plain : List PlainStep) (path : List Step) → AreSteps plain path → length plain ≡ length path
steps_long [] [] h = refl
steps_long [] (s ∷ path) h = absurd h
steps_long (c ∷ plain) [] h = absurd h
steps_long (c ∷ plain) (s ∷ path) h = ap suc (steps_long plain path h.1)

element_kind : (c : PlainStep) (n : ℕ) → step_of c ≡ Some (Element n) → c.kind ≡ 2
element_kind c n e = grind arith

module _ (S : Rows) (root : ℕ) (p : PlainPath) (path : List Step) (written : IsPathOf path p) where
  pub has_each : (before : List ℕ) → IsEachAfter S root before path p.each → HasEach p
  has_each before h =
      let number = h.number in
      let count = written.count in
      let stands = h.stands in
      let long : length path ≡ length h.front + suc (length h.back) = ap length stands ∙ length-append h.front (Element 0 ∷ h.back) in
      let within = written.front.within in
      let at : p.each - 1 ≡ length h.front = omega arith in
      record {
        some = omega arith;
        within = omega arith;
        room = grind arith;
        element = λ d. element_kind (get_or p.steps (p.each - 1) d) 0 (rw (at, written.front.room_is) (step_there written.front.front _ h.front h.back (Element 0) d (subst (AreSteps written.front.front) stands written.front.steps)));
      }

  pub written_fits : StepsFit S (Table root) path → FitFrom S (Table root) (take p.count p.steps)
  written_fits fits =
      let long = steps_long written.front.front path written.front.steps in
      let count : p.count ≡ length written.front.front + 0 = grind arith in
      let is : take p.count p.steps ≡ written.front.front = rw (written.front.room_is, count) (take-append-add written.front.front _ 0) ∙ append-nil written.front.front in
      subst (FitFrom S (Table root)) (sym is) (path, written.front.steps, fits)

pub marked_paths_serve : MarkedPathsServe
marked_paths_serve l text p root h some = serve h.mark h.each where
  serve : (mark : Option ℕ) → IsEach l.schema root text mark h.path p.each → FitsEach l.schema root p
  serve None e = absurd (some e)
  serve (Some at) e = each_fits l.schema root p (has_each l.schema root p h.path h.written (take at text) e) (written_fits l.schema root p h.path h.written h.fits)
