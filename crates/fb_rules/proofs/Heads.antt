-- The head of a table is tested by its first word, and then by its vtable.
use Rattle.std.proofs.Common.{◌≡◌, ℕ, ◌+◌, List, sym, ◌∙◌, ap, arith, Option, Some, None}
use Rattle.fb_bytes.specs.Word.{Lent}
use Rattle.fb_rules.specs.{declared.checks.Checks.Checks, declared.fault.Reason.Reason, Cost.head_reads, Order.Failure, Order.after, Order.◌▷◌, Order.head_failure, Plain.IsTested}
use Rattle.fb_rules.specs.Plain.{first_word_failure, vtable_failure, vtable_reads}
use Rattle.fb_rules.proofs.Plains.{after_twice}

pub head_parts : (c : Checks) (b : List ℕ) (t : ℕ) → head_failure c b t ≡ first_word_failure c b t ▷ after 1 (vtable_failure c b t)
unfolding head_failure first_word_failure vtable_failure
head_parts c b t = grind arith

pub head_reads_parts : (c : Checks) → head_reads c ≡ 1 + vtable_reads c
head_reads_parts c = grind arith

-- the first word holds, and the vtable is tested
pub vtable_tested : (c : Checks) (m mid new : Lent) (t at : ℕ) (result : Option Reason) → first_word_failure c m.bytes t ≡ None → mid.count ≡ m.count + 1 → mid.bytes ≡ m.bytes → mid.base ≡ m.base
    → IsTested mid new at (vtable_failure c mid.bytes t) (vtable_reads c) result → IsTested m new at (head_failure c m.bytes t) (head_reads c) result
vtable_tested c m mid new t at result holds count bytes base e =
    let chain = head_parts c m.bytes t ∙ ap (λ o. o ▷ after 1 (vtable_failure c m.bytes t)) holds in
    record {
      told = e.told ∙ ap (λ k. after k (vtable_failure c mid.bytes t)) count ∙ ap (λ b. after (m.count + 1) (vtable_failure c b t)) bytes ∙ sym (after_twice m.count 1 (vtable_failure c m.bytes t)) ∙ ap (after m.count) (sym chain);
      counted = λ none. omega (arith, e.counted none, count, head_reads_parts c);
      bytes = e.bytes ∙ bytes;
      base = e.base ∙ base;
    }

-- a first word that fails fails the head
pub first_fails : (c : Checks) (b : List ℕ) (t k : ℕ) (failed : Failure) → Some failed ≡ after k (first_word_failure c b t) → Some failed ≡ after k (head_failure c b t)
first_fails c b t k failed h = let e = head_parts c b t in grind arith
