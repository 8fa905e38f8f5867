-- What is answered of a buffer, by what its check found once it has begun.
use Rattle.std.proofs.Common.{◌≡◌, ℕ, ◌≤◌, ◌^◌, List, length, take, Option, Some, None, Result, Ok, Err, sym, subst, refl, IfOk, IfErr, IsSome, IsSomeAnd, MatchResult}
use Rattle.std.proofs.lemmas.Bool.{false≢true}
use Rattle.fb_access.specs.Location.{location_text}
use Rattle.fb_schema.specs.Rows.{Rows}
use Rattle.fb_rules.specs.{Question.Question, Question.question, declared.fault.Fault.Fault, declared.fault.Report.Report, declared.link.Link.Link, declared.start.Ident.Ident}
use Rattle.fb_verify.specs.{Sealed.Sealed, declared.links.Located.Located}
use Rattle.fb_strict.specs.{AsAsked.ReportsBy, AsAsked.HasNoneBy, AsAsked.StopsBy, AsAsked.StopsAlongBy, Planned.Planned}
use Rattle.fbcheck_calls.specs.Answered.{Begins, CanBegin, IfSchema, IsBadFrom, IsChecked, IsGoodFrom, IsTold, IsUnchecked, IsUnserved, Serves, Starts}
use Rattle.fbcheck_calls.specs.{Asked.HasLimits, Asked.ident_asked, Asked.plan_asked, Asked.question_of, Asked.root_asked, Asked.start_asked, Bases.Based}
use Rattle.fbcheck_calls.specs.{Placed.IsLocated, Placed.IsPlaceTold, Placed.IsTextTold, Placed.IsUntold, Told.found_by, Told.told, Reached.IsRead, Reached.IsUnread}
use Rattle.fbcheck_calls.specs.{Steps.AllFit, Steps.IsFirstMisfit, Values.AreValues, declared.outcome.Outcome.Outcome, declared.outcome.Verdict.Verdict, declared.held.Held.Held}
use Rattle.fbcheck_calls.specs.declared.{held.Held.TheVariants.Schema, options.Options.Options, steps.PlainPath.PlainPath, values.Value.Value}
use Rattle.fbcheck_calls.specs.declared.outcome.Outcome.TheVariants.{Good, Bad, NoIdent, TooLong, Misfit}

-- what a call answers by a schema
pub by_schema : {held : Held} {s : Based} (a : Outcome) (P : Based → Type 0) → held ≡ Schema s → P s → IfSchema held a P
by_schema a P is h = subst (λ (v : Held). IfSchema v a P) (sym is) h

-- what holds of every plan holds of that which there is
any_plan : (o : Option (Option Planned)) (P : Option Planned → Type 0) → IsSome o → ((plan : Option Planned) → P plan) → IsSomeAnd o P
any_plan (Some plan) P h all = all plan
any_plan None P h all = absurd (false≢true h)

-- a check that can't begin, though it has all the rest, has no identifier
pub unidentified : (s : Based) (n : ℕ) (o : Options) → HasLimits o n → IsSome (plan_asked s o) → IsSome (root_asked s.loaded o) → (CanBegin s n o → ⊥) → IsUnserved s n o NoIdent
unidentified s n o has planned rooted fails = (has, planned, rooted, none_asked (ident_asked s.loaded o) refl) where
  none_asked : (ident : Option Ident) → ident_asked s.loaded o ≡ ident → ident_asked s.loaded o ≡ None
  none_asked None is = is
  none_asked (Some ident) is = absurd (fails (record { has = has; planned = planned; rooted = rooted; identified = rw is refl }))

module _ (s : Based) (n : ℕ) (o : Options) (b : List ℕ) where
  -- why a buffer isn't checked is an answer of every call
  pub unserved_is_unchecked : (a : Outcome) → IsUnserved s n o a → IsUnchecked s n o b a
  unserved_is_unchecked TooLong h = absurd h
  unserved_is_unchecked _ h = h

  pub unserved_is_unread : (paths : List PlainPath) (a : Outcome) → IsUnserved s n o a → IsUnread s n o b paths a
  unserved_is_unread paths TooLong h = absurd h
  unserved_is_unread paths (Misfit place) h = absurd h
  unserved_is_unread paths _ h = h

  pub unchecked_is_checked : (a : Outcome) → IsUnchecked s n o b a → IsChecked s n o b a
  unchecked_is_checked (Good r) h = absurd h
  unchecked_is_checked (Bad f) h = absurd h
  unchecked_is_checked _ h = h

  pub unchecked_is_located : (text : List ℕ) (written : ℕ) (a : Outcome) → IsUnchecked s n o b a → IsLocated s n o b text text written written a
  unchecked_is_located text written (Good r) h = absurd h
  unchecked_is_located text written (Bad f) h = absurd h
  unchecked_is_located text written _ h = (h, record { length_is = refl; room_is = refl })

  pub unread_is_read : (paths : List PlainPath) (values : List Value) (a : Outcome) → IsUnread s n o b paths a → IsRead s n o b paths values values a
  unread_is_read paths values (Good r) h = absurd h
  unread_is_read paths values (Bad f) h = absurd h
  unread_is_read paths values _ h = (h, refl)

  module _ (begun : Question) (begins : Begins s n o (length b) begun) where
    -- what holds of the root and the identifier with which a check begins
    rooted : (Q : ℕ → Ident → Type 0) → Q begun.root begun.ident → IsSomeAnd (root_asked s.loaded o) (λ r. IsSomeAnd (ident_asked s.loaded o) (Q r))
    rooted Q h =
        let inner : IsSomeAnd (ident_asked s.loaded o) (Q begun.root) = subst (λ v. IsSomeAnd v (Q begun.root)) (sym begins.ident_is) h in
        subst (λ v. IsSomeAnd v (λ r. IsSomeAnd (ident_asked s.loaded o) (Q r))) (sym begins.root_is) inner

    -- whatever the plan is
    serve_all : (P : Option Planned → ℕ → Ident → Type 0) → ((plan : Option Planned) → P plan begun.root begun.ident) → Serves s n o P
    serve_all P all = (begins.has, any_plan (plan_asked s o) (λ plan. IsSomeAnd (root_asked s.loaded o) (λ r. IsSomeAnd (ident_asked s.loaded o) (P plan r))) begins.planned (λ plan. rooted (P plan) (all plan)))

    pub long_is_unchecked : 2 ^ 31 ≤ length b → IsUnchecked s n o b TooLong
    long_is_unchecked long = serve_all (λ plan root ident. 2 ^ 31 ≤ length b) (λ plan. long)

    -- what holds of the root with which it begins
    at_root : (P : ℕ → Type 0) → P begun.root → IsSomeAnd (root_asked s.loaded o) P
    at_root P h = subst (λ v. IsSomeAnd v P) (sym begins.root_is) h

    pub long_is_unread : (paths : List PlainPath) → AllFit s.loaded.schema begun.root paths → 2 ^ 31 ≤ length b → IsUnread s n o b paths TooLong
    long_is_unread paths fit long = (long_is_unchecked long, at_root (λ root. AllFit s.loaded.schema root paths) fit)

    pub misfit_is_unread : (paths : List PlainPath) (place : ℕ) → IsFirstMisfit s.loaded.schema begun.root paths place → IsUnread s n o b paths (Misfit place)
    misfit_is_unread paths place first = serve_all (λ plan root ident. IsFirstMisfit s.loaded.schema root paths place) (λ plan. first)

-- what a call tells where it tells an answer of which more holds
pub told_as : {v : Verdict} {P : Outcome → Type 0} {k : ℕ} (Q : Outcome → Type 0) → ((a : Outcome) → P a → Q a) → IsTold v P k → (a : Outcome) × (v ≡ told a) × Q a
told_as Q more t = (t.answer, t.told, more t.answer t.holds)

-- the check of these bytes, which are the buffer's, has begun by this plan
pub record HasBegun (s : Based) (n : ℕ) (o : Options) (b : List ℕ) (begun : Question) (bytes : List ℕ) (plan : Option Planned) : Type 0 where
  pub starts : Starts s n o b begun
  pub same : bytes ≡ b
  pub plan_is : plan_asked s o ≡ Some plan

-- what it found
module _ (plan : Option Planned) (begun : Question) (bytes : List ℕ) where
  abbrev pub Yes : {G B : Type 0} → (G → Report) → Result G B → Type 0
  Yes report found = IfOk found (λ g. ReportsBy plan begun bytes (report g))

  abbrev pub HasNo : {G B : Type 0} → Result G B → Type 0
  HasNo found = IfErr found (λ _. HasNoneBy plan begun bytes)

  abbrev pub No : {G B : Type 0} → (B → Fault) → Result G B → Type 0
  No fault found = IfErr found (λ e. StopsBy plan begun bytes (fault e))

module _ {s : Based} {n : ℕ} {o : Options} {b : List ℕ} {begun : Question} {bytes : List ℕ} {plan : Option Planned} (h : HasBegun s n o b begun bytes plan) where
  abbrev begins : Begins s n o (length b) begun
  begins = h.starts.0

  -- what holds of the plan, the root and the identifier
  serve : (P : Option Planned → ℕ → Ident → Type 0) → P plan begun.root begun.ident → Serves s n o P
  serve P x = (begins.has, subst (λ v. IsSomeAnd v (λ p. IsSomeAnd (root_asked s.loaded o) (λ r. IsSomeAnd (ident_asked s.loaded o) (P p r)))) (sym h.plan_is) (rooted s n o b begun begins (P plan) x))

  by_options : (P : Question → List ℕ → Type 0) → P begun bytes → P (question_of s.loaded o b begun.root begun.ident) b
  by_options P x =
      let asks : begun ≡ question_of s.loaded o b begun.root begun.ident = λ i. question (begins.rows_are i) begun.root (begins.start_is i) begun.ident (begins.limits_are i) (begins.checks_are i) in
      subst (λ q. P q b) asks (subst (P begun) h.same x)

  pub found_is_checked : {G B : Type 0} (report : G → Report) (fault : B → Fault) (found : Result G B)
      → Yes plan begun bytes report found → HasNo plan begun bytes found → No plan begun bytes fault found → IsChecked s n o b (found_by report fault found)
  found_is_checked report fault (Ok g) good none stops = (h.starts.1, serve (IsGoodFrom s o b (report g)) (by_options (λ q y. ReportsBy plan q y (report g)) good))
  found_is_checked report fault (Err e) good none stops =
      (h.starts.1, serve (IsBadFrom s o b (fault e)) (record { none = by_options (HasNoneBy plan) none; stops = by_options (λ q y. StopsBy plan q y (fault e)) stops }))

  pub found_told : {G B : Type 0} (report : G → Report) (fault : B → Fault) (found : Result G B) {v : Verdict} → v ≡ told (found_by report fault found)
      → Yes plan begun bytes report found → HasNo plan begun bytes found → No plan begun bytes fault found → (a : Outcome) × (v ≡ told a) × IsChecked s n o b a
  found_told report fault found is good none stops = (found_by report fault found, is, found_is_checked report fault found good none stops)

  pub found_located : {G : Type 0} (report : G → Report) {rows : Rows} → rows ≡ s.loaded.schema → (found : Result G Located) (links : List Link) (text text' : List ℕ) (written written' : ℕ) {v : Verdict} → v ≡ told (found_by report (λ e. e.fault) found)
      → Yes plan begun bytes report found → HasNo plan begun bytes found → No plan begun bytes (λ e. e.fault) found
      → IfErr found (λ e. StopsAlongBy plan begun bytes e.fault (take e.links links))
      → MatchResult found (λ _. IsUntold text text' written written') (λ e. IsTextTold (location_text rows e.fault (take e.links links)) text text' written') → (a : Outcome) × (v ≡ told a) × IsLocated s n o b text text' written written' a
  found_located report rows_are (Ok g) links text text' written written' is good none stops along placed = (Good (report g), is, (found_is_checked report (λ (e : Located). e.fault) (Ok g) good none stops, placed))
  found_located report rows_are (Err e) links text text' written written' is good none stops along placed = (
    Bad e.fault,
    is,
    (
      found_is_checked report (λ e. e.fault) (Err e) good none stops,
      serve (IsPlaceTold s o b e.fault text text' written') (take e.links links, by_options (λ q y. StopsAlongBy plan q y e.fault (take e.links links)) along, subst (λ (S : Rows). IsTextTold (location_text S e.fault (take e.links links)) text text' written') rows_are placed),
    ),
  )

  -- what was verified is what was asked, and the paths fit
  module _ {G : Type 0} (verified : G → Sealed) (paths : List PlainPath) (fit : AllFit s.loaded.schema begun.root paths) where
    abbrev pub Kept : Result G Fault → Type 0
    Kept found = IfOk found (λ g. verified g ≡ record { bytes = bytes; schema = begun.rows; root = begun.root; start = begun.start; checks = begun.checks; report = (verified g).report })

    pub found_fits : (found : Result G Fault) → Kept found → IfOk found (λ g. AllFit (verified g).schema (verified g).root paths)
    found_fits (Ok g) kept = subst (λ (x : Sealed). AllFit x.schema x.root paths) (sym kept) (subst (λ (S : Rows). AllFit S begun.root paths) (sym begins.rows_are) fit)
    found_fits (Err f) kept = tt

    pub found_read : (report : G → Report) (found : Result G Fault) (values values' : List Value) {v : Verdict} → v ≡ told (found_by report (λ f. f) found)
        → Yes plan begun bytes report found → Kept found → HasNo plan begun bytes found → No plan begun bytes (λ f. f) found
        → MatchResult found (λ g. AreValues (verified g).bytes (verified g).schema (verified g).start (verified g).root paths values') (λ _. values' ≡ values) → (a : Outcome) × (v ≡ told a) × IsRead s n o b paths values values' a
    found_read report (Ok g) values values' is good kept none stops are =
        let there : AreValues bytes begun.rows begun.start begun.root paths values' = subst (λ (x : Sealed). AreValues x.bytes x.schema x.start x.root paths values') kept are in
        let here : AreValues bytes s.loaded.schema begun.start begun.root paths values' = subst (λ (S : Rows). AreValues bytes S begun.start begun.root paths values') begins.rows_are there in
        let asked : AreValues b s.loaded.schema (start_asked o) begun.root paths values' = subst (λ y. AreValues y s.loaded.schema (start_asked o) begun.root paths values') h.same (subst (λ t. AreValues bytes s.loaded.schema t begun.root paths values') begins.start_is here) in (
          Good (report g),
          is,
          (
            found_is_checked report (λ (f : Fault). f) (Ok g) good none stops,
            at_root s n o b begun begins (λ root. AllFit s.loaded.schema root paths) fit,
            at_root s n o b begun begins (λ root. AreValues b s.loaded.schema (start_asked o) root paths values') asked,
          ),
        )
    found_read report (Err f) values values' is good kept none stops are =
        (Bad f, is, (found_is_checked report (λ f. f) (Err f) good none stops, at_root s n o b begun begins (λ root. AllFit s.loaded.schema root paths) fit, are))
