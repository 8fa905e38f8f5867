-- A path has as many steps as its text shows.
use Rattle.std.proofs.Common.{◌≡◌, ◌∙◌, ◌++◌, ℕ, IsTrue, List, [], ◌∷◌, ap, arith, false, length, refl, rules, suc, true}
use mathlib.Core.Logic.{inl, inr}
use Rattle.std.proofs.{Math.Bool.cond, lemmas.Bool.Decides.nat_tests, lemmas.List.Sums.sum_by-append, lemmas.List.Sums.sum_by-cons}
use Rattle.std.specs.Prelude.{count_by}
use Rattle.std.specs.List.{AllByRecursion}
use Rattle.fb_access.specs.Grammar.{IsName, IsNumber, IsPart, Part, element, field, goes_on, is_digit, member, spelling}
use Rattle.fb_access.specs.{Resolving.Follows, declared.step.Step.Step}
use Rattle.fb_schema.specs.{Rows.Rows, declared.kinds.Kind.Kind, declared.kinds.Kind.TheVariants.Table}
use Rattle.fbcheck_texts.specs.Given.{is_sign}
use Rattle.fbcheck_serve.specs.CheckLaws.{AreStepsAsWritten}

-- how many bytes of a text begin a further step
abbrev begun : List ℕ → ℕ
begun text = count_by is_sign text

begun_not : (x : ℕ) (xs : List ℕ) → is_sign x ≡ false → begun (x ∷ xs) ≡ begun xs
begun_not x xs other =
    let none : ◌≡◌ {A = ℕ} (cond (is_sign x) 1 0) 0 = ap (λ b. cond {A = ℕ} b 1 0) other in
    omega (arith, sum_by-cons (λ b. cond (is_sign b) 1 0) x xs, none)

begun_more : (x : ℕ) (xs : List ℕ) → is_sign x ≡ true → begun (x ∷ xs) ≡ suc (begun xs)
begun_more x xs sign =
    let one : ◌≡◌ {A = ℕ} (cond (is_sign x) 1 0) 1 = ap (λ b. cond {A = ℕ} b 1 0) sign in
    omega (arith, sum_by-cons (λ b. cond (is_sign b) 1 0) x xs, one)

begun_behind : (xs ys : List ℕ) → begun xs ≡ 0 → begun (xs ++ ys) ≡ begun ys
begun_behind xs ys none = omega (arith, sum_by-append (λ b. cond (is_sign b) 1 0) xs ys, none)

-- neither a byte of a name nor a digit begins a step
name_apart : (x : ℕ) → IsTrue (goes_on x) → is_sign x ≡ false
name_apart x on = grind (arith, nat_tests, rules)

digit_apart : (x : ℕ) → IsTrue (is_digit x) → is_sign x ≡ false
digit_apart x on = grind (arith, nat_tests, rules)

letters : (xs : List ℕ) → AllByRecursion (λ x. IsTrue (goes_on x)) xs → begun xs ≡ 0
letters [] all = refl
letters (x ∷ xs) all = begun_not x xs (name_apart x all.0) ∙ letters xs all.1

digits : (xs : List ℕ) → AllByRecursion (λ x. IsTrue (is_digit x)) xs → begun xs ≡ 0
digits [] all = refl
digits (x ∷ xs) all = begun_not x xs (digit_apart x all.0) ∙ digits xs all.1

name : (xs : List ℕ) → IsName xs → begun xs ≡ 0
name [] is = absurd is
name (x ∷ xs) is = begun_not x xs (name_apart x (grind (rules))) ∙ letters xs is.1

number : (xs : List ℕ) → IsNumber xs → begun xs ≡ 0
number [] is = absurd is
number (x ∷ xs) (inl (zero, none)) = rw (zero, none) refl
number (x ∷ xs) (inr (some, all, few)) = digits (x ∷ xs) all

-- parts as they are written
parts_begun : (parts : List Part) → AllByRecursion IsPart parts → begun (spelling parts) ≡ length parts
parts_begun [] all = refl
parts_begun (field text ∷ parts) all = begun_more 46 (text ++ spelling parts) refl ∙ ap suc (begun_behind text (spelling parts) (name text all.0) ∙ parts_begun parts all.1)
parts_begun (element text ∷ parts) all =
    begun_more 91 (text ++ 93 ∷ spelling parts) refl
    ∙ ap suc (begun_behind text (93 ∷ spelling parts) (number text all.0) ∙ begun_not 93 (spelling parts) refl ∙ parts_begun parts all.1)
parts_begun (member text ∷ parts) all = begun_more 64 (text ++ spelling parts) refl ∙ ap suc (begun_behind text (spelling parts) (name text all.0) ∙ parts_begun parts all.1)

-- a step for each part
step_each : (S : Rows) (kind : Kind) (parts : List Part) (steps : List Step) (last : Kind) → Follows S kind parts steps last → length steps ≡ length parts
step_each S kind [] steps last h = ap length h.0
step_each S kind (p ∷ parts) steps last (x, fits, rest, is, more) = ap length is ∙ ap suc (step_each S x.kind parts rest last more)

pub steps_as_written : AreStepsAsWritten
steps_as_written rows root text steps h =
    let spelled = begun_behind h.name (spelling h.parts) (name h.name h.reading.is_name) ∙ parts_begun h.parts h.reading.are_parts in
    let each = step_each rows (Table root) (field h.name ∷ h.parts) steps h.last h.follows in
    omega (arith, each, ap begun h.reading.spelled, spelled)
