-- Files that are gone through one behind another.
use Rattle.std.proofs.Common.{◌≡◌, ◌∙◌, ℕ, zero, suc, ◌+◌, ◌<◌, ◌≤◌, List, [], ◌∷◌, ◌++◌, Bool, Option, Ok, Err, length, take, take_all, drop, drop_of_length-le, drop-cons, get_or, append_assoc, add-one, arith, refl, sym, ap, subst}
use Rattle.std.proofs.{Math.ListN.set, lemmas.List.append-nil}
use Rattle.std.specs.Global.{Global}
use Rattle.std.specs.Prelude.{Vec, option_map, vec_items}
use Rattle.fb_schema.specs.Rows.{Rows}
use mathlib.Core.Logic.{inl}
use Rattle.fb_run.specs.{Faults.End, Job.Job, Job.job_of, declared.fault.RunFault.RunFault, declared.options.Options.Options}
use Rattle.fbcheck_serve.specs.Inputs.{Folder, HaltsAmong, Passes, PassesAll, Stand, Tries, label_of, with_label, sum_of_counts, sums, are_named}
use Rattle.fbcheck_serve.specs.{Names.Named, declared.inputs.Standard.Standard, declared.inputs.Standard.TheVariants.Unread, declared.inputs.Standard.TheVariants.Spent}

-- the counts up to a place are added; then those up to the next are
sums_on : (some more : List ℕ) (i : ℕ) → i < length some → length some ≡ length more
    → set (sums (take i some) more ++ drop i some) i (sum_of_counts (get_or (sums (take i some) more ++ drop i some) i 0) (get_or more i 0)) ≡ sums (take (suc i) some) more ++ drop (suc i) some
sums_on [] more i within same = absurd (omega (arith, within))
sums_on (a ∷ some) [] i within same = absurd (omega (arith, same))
sums_on (a ∷ some) (b ∷ more) zero within same = refl
sums_on (a ∷ some) (b ∷ more) (suc i) within same =
    ap (λ l. sum_of_counts a b ∷ l) (sums_on some more i (omega (arith, within)) (omega (arith, same)))

pub sum_at : (some more counts : List ℕ) (i sum : ℕ) → i < length some → length some ≡ length more → counts ≡ sums (take i some) more ++ drop i some
    → sum ≡ sum_of_counts (get_or counts i 0) (get_or more i 0) → set counts i sum ≡ sums (take (i + 1) some) more ++ drop (i + 1) some
sum_at some more counts i sum within same are is = rw (add-one, is, are) (sums_on some more i within same)

pub all_summed : (some more : List ℕ) (i : ℕ) → length some ≤ i → sums (take i some) more ++ drop i some ≡ sums some more
all_summed some more i within = rw (take_all i some within, drop_of_length-le some within, append-nil) refl

pub sums_length : (some more : List ℕ) → length (sums some more) ≡ length some
sums_length [] more = refl
sums_length (a ∷ some) [] = refl
sums_length (a ∷ some) (b ∷ more) = ap (λ n. suc n) (sums_length some more)

module _ (folder : Folder) where
  -- what came behind a file is how it was gone through
  pub tries_of : (job : Job) (name : Named) (before after : Stand) (end : End) → Passes folder job name before after end → Tries folder job name before after end
  tries_of job name before after (Ok done) passes = passes
  tries_of job name before after (Err fault) passes = inl passes

  -- one file more behind those that were gone through
  pub passes_more : (job : Job) (several : Bool) (names : List Named) (name : Named) (a b c : Stand) → PassesAll folder job several names a b
      → Tries folder (with_label (label_of several name.bytes) job) name b c (Ok tt) → PassesAll folder job several (names ++ (name ∷ [])) a c
  passes_more job several [] name a b c is tries = (c, subst (λ (s : Stand). Tries folder (with_label (label_of several name.bytes) job) name s c (Ok tt)) is tries, refl)
  passes_more job several (first ∷ names) name a b c (mid, one, rest) tries = (mid, one, passes_more job several names name mid b c rest tries)

  -- the same behind a front of the names
  pub front_more : (job : Job) (several : Bool) (names front left rest : List Named) (name : Named) (a b c : Stand) → names ≡ front ++ left → left ≡ name ∷ rest
      → PassesAll folder job several front a b → Tries folder (with_label (label_of several name.bytes) job) name b c (Ok tt)
      → (more : List Named) × (names ≡ more ++ rest) × PassesAll folder job several more a c
  front_more job several names front left rest name a b c are next passes tries =
      (front ++ (name ∷ []), rw (are, next, append_assoc) refl, passes_more job several front name a b c passes tries)

  -- all of them
  pub front_all : (job : Job) (several : Bool) (names front left : List Named) (a b : Stand) → names ≡ front ++ left → left ≡ [] → PassesAll folder job several front a b
      → PassesAll folder job several names a b
  front_all job several names front left a b are none passes = rw (are, none, append-nil front) passes

  -- one of them ended it all
  pub halts_among : (job : Job) (names front left rest : List Named) (name : Named) (a b c : Stand) (fault : RunFault) → names ≡ front ++ left → left ≡ name ∷ rest
      → PassesAll folder job (are_named job.label names) front a b → Tries folder (with_label (label_of (are_named job.label names) name.bytes) job) name b c (Err fault)
      → HaltsAmong folder job names a c fault
  halts_among job names front left rest name a b c fault are next passes tries = record {
    front = front;
    name = name;
    rest = rest;
    names_are = are ∙ ap (λ l. front ++ l) next;
    mid = b;
    passes = passes;
    halts = tries;
  }

-- the names from the next file on
pub next_name : (names : List Named) (i : ℕ) (name : Named) → i < length names → name ≡ get_or names i name → drop i names ≡ name ∷ drop (i + 1) names
next_name names i name within is = rw (add-one, drop-cons names i name within, ← is) refl

-- calls of the reader that standard input is
pub turns_on : {S : Type 0} (calls : S → ℕ) (old new : Standard) (first before after : S) → (old ≡ Unread → before ≡ first) → (old ≡ Spent → (new ≡ Spent) × (after ≡ before))
    → calls after ≤ calls before + 4294967296 → calls before ≤ calls first + 4294967296 → calls after ≤ calls first + 4294967296
turns_on calls Unread new first before after kept spent now then = subst (λ s. calls after ≤ calls s + 4294967296) (kept refl) now
turns_on calls Spent new first before after kept spent now then = subst (λ s. calls s ≤ calls first + 4294967296) (sym (spent refl).1) then

-- what is asked, with another label: that of a name, by what is asked of it
pub relabelled : (rows : Rows) (options : Options) (job : Job) (label : Option (Vec ℕ Global)) (old : Option (List ℕ)) (named other : Bool) (text bytes : List ℕ) → job_of rows options ≡ with_label old job
    → option_map vec_items label ≡ label_of named text → named ≡ other → text ≡ bytes → job_of rows (record options { label = label }) ≡ with_label (label_of other bytes) job
relabelled rows options job label old named other text bytes is label_is same are =
    ap (λ (j : Job). with_label (option_map vec_items label) j) is ∙ ap (λ (t : Option (List ℕ)). with_label t job) (rw (label_is, same, are) refl)
