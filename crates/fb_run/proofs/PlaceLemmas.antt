-- What a checker answers of a buffer, by its job.
use Rattle.std.proofs.Common.{◌≡◌, ◌≢◌, ◌≤◌, ◌∙◌, ℕ, true, List, [], ◌∷◌, Option, Some, None, IfSome, IfOk, IfErr, IsTrue, Result, Ok, Err, ap, refl, subst, sym}
use Rattle.fb_schema.specs.Rows.{Rows}
use Rattle.fb_rules.specs.{Bounds.Bounds, Question.Question, Question.question}
use Rattle.fb_rules.specs.declared.{checks.Checks.Checks, fault.Fault.Fault, fault.Report.Report, link.Link.Link, start.Ident.Ident, start.Start.Start}
use Rattle.fb_strict.specs.{AsAsked.ReportsBy, AsAsked.StopsBy, AsAsked.StopsAlongBy, Planned.Planned}
use Rattle.fb_verify.specs.Sealed.{sealed_by}
use Rattle.fb_run.specs.{Wanted.Wanted}
use Rattle.fb_run.specs.Job.{AreAnswers, Beside, HasRoom, IsChecked, IsVerdict, IsVerified, Job, Verdict, asked_of, asks_little, brief_verdict, is_brief, job_of, place_beside, place_told, start_in}
use Rattle.fb_run.specs.declared.{checker.Checked.Checked, options.LineForm.LineForm, options.LineForm.TheVariants.Plain, options.LineForm.TheVariants.Json, options.Options.Options}
use Rattle.fb_run.specs.declared.{options.Mode.Mode, options.Mode.TheVariants.Lines, options.Mode.TheVariants.BadLines, options.Mode.TheVariants.Filter, options.Mode.TheVariants.Csv}
use Rattle.fb_run.specs.declared.{options.Places.Places, options.Places.TheVariants.Numbers, options.Places.TheVariants.Words}

-- room that is as large serves as well
pub same_room : {job : Job} {room now : Beside} → HasRoom job room → now.levels ≡ room.levels → now.pass ≡ room.pass → now.links ≡ room.links → now.label ≡ room.label → HasRoom job now
same_room {job = job} has levels pass links label = record {
  deep = rw levels has.deep;
  strict = subst (λ n. IfSome job.plan (λ _. job.terms.limits.depth ≤ n)) (sym pass) has.strict;
  long = λ words. rw links (has.long words);
  label_is = label ∙ has.label_is;
}

module _ {job : Job} {rows : Rows} (options : Options) (bytes : List ℕ) {plan : Option Planned} (is : job_of rows options ≡ job) (planned : options.plan ≡ plan) {q : Question} (asks : q ≡ asked_of job bytes) where
  -- what is said by what they ask is said by what the job does
  pub by_job : (Says : Option Planned → Question → Type 0) → Says plan q → Says job.plan (asked_of job bytes)
  by_job Says says =
      let plans : plan ≡ job.plan = sym planned ∙ ap (λ (j : Job). j.plan) is in
      subst (λ p. Says p (asked_of job bytes)) plans (subst (Says plan) asks says)

  -- it is well formed, and strict where there is a plan
  pub checked_yes : (checked : Checked) → ReportsBy plan q bytes checked.report → checked.verified ≡ sealed_by q bytes checked.verified.report → IsChecked job bytes checked
  checked_yes checked reports kept = record { reports = by_job (λ p q. ReportsBy p q bytes checked.report) reports; kept = kept ∙ ap (λ q. sealed_by q bytes checked.verified.report) asks }

  -- or that is the fault
  pub checked_no : (fault : Fault) → StopsBy plan q bytes fault → StopsBy job.plan (asked_of job bytes) bytes fault
  checked_no fault stops = by_job (λ p q. StopsBy p q bytes fault) stops

  -- or these links lead to its fault
  pub checked_along : (fault : Fault) (links : List Link) → StopsAlongBy plan q bytes fault links → StopsAlongBy job.plan (asked_of job bytes) bytes fault links
  checked_along fault links along = by_job (λ p q. StopsAlongBy p q bytes fault links) along

-- a question from the same start within the same limits is the same
pub asks_same : (rows : Rows) (root : ℕ) (start begins : Start) (ident : Ident) (limits within : Bounds) (checks : Checks) → start ≡ begins → limits ≡ within → question rows root start ident limits checks ≡ question rows root begins ident within checks
asks_same rows root start begins ident limits within checks starts limited = rw (starts, limited) refl

-- where the job has no plan, what is said of what it asks is said by it
pub by_lenient : (job : Job) {q : Question} (bytes : List ℕ) → job.plan ≡ None → q ≡ asked_of job bytes → (Says : Option Planned → Question → Type 0) → Says None q → Says job.plan (asked_of job bytes)
by_lenient job bytes lenient asks Says says = subst (λ p. Says p (asked_of job bytes)) (sym lenient) (subst (Says None) asks says)

-- where no more is asked than a report, there are no values, no words, no name, no JSON, and no rows
pub asks_none : (paths : List Wanted) (names : Places) (label : Option (List ℕ)) (form : LineForm) (mode : Mode) → asks_little paths names label form mode ≡ true
    → (paths ≡ []) × (names ≡ Numbers) × (label ≡ None) × (form ≡ Plain) × (mode ≢ Csv)
asks_none [] Numbers None Plain Lines little = (refl, refl, refl, refl, λ csv. cc)
asks_none [] Numbers None Plain BadLines little = (refl, refl, refl, refl, λ csv. cc)
asks_none [] Numbers None Plain Filter little = (refl, refl, refl, refl, λ csv. cc)
asks_none [] Numbers None Plain Csv little = cc
asks_none [] Numbers None Json mode little = cc
asks_none [] Numbers (Some name) form mode little = cc
asks_none [] Words label form mode little = cc
asks_none (path ∷ paths) names label form mode little = cc

-- so the report, or the fault, is all of the verdict
pub told_briefly : (job : Job) (bytes : List ℕ) (answer : Result Report Fault) → IsTrue (is_brief job) → IfOk answer (ReportsBy job.plan (asked_of job bytes) bytes)
    → IfErr answer (StopsBy job.plan (asked_of job bytes) bytes) → IsVerdict job bytes (brief_verdict answer)
told_briefly job bytes (Ok report) brief reports stops =
    let none = asks_none job.paths job.terms.names job.label job.terms.form job.terms.mode brief in
    (reports, subst (λ (paths : List Wanted). AreAnswers bytes job.rows (start_in job) job.root paths []) (sym none.0) tt)
told_briefly job bytes (Err fault) brief reports stops = (stops, (asks_none job.paths job.terms.names job.label job.terms.form job.terms.mode brief).1)

module _ {job : Job} {rows : Rows} (options : Options) (bytes : List ℕ) (fault : Fault) (links : List Link) (is : job_of rows options ≡ job) (words : options.terms.names ≡ Words)
    (stops : StopsBy job.plan (asked_of job bytes) bytes fault) (along : StopsAlongBy job.plan (asked_of job bytes) bytes fault links) where
  in_words : (text : List ℕ) → text ≡ place_told job.terms.form job.rows fault links → IsVerdict job bytes (Err (record { fault = fault; place = Some text }))
  in_words text told = (stops, (rw (sym is) words, links, along, told))

  -- where words are asked for, its fault has them
  pub told_no : (text : List ℕ) → text ≡ place_told options.terms.form rows fault links → IsVerified job bytes text (Err fault)
  told_no text told = subst (λ (n : Places). IsVerdict job bytes (Err (record { fault = fault; place = place_beside n text }))) (sym words ∙ ap (λ (j : Job). j.terms.names) is) (in_words text (rw (sym is) told))

  -- and there is a verdict also where there is no memory for them
  pub told_none : ((verdict : Verdict) × IsVerdict job bytes verdict) × (job.terms.names ≡ Words)
  told_none = ((Err (record { fault = fault; place = Some (place_told job.terms.form job.rows fault links) }), in_words _ refl), rw (sym is) words)
