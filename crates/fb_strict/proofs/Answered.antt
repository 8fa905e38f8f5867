-- Tests that were made, and the budget that was asked after them.
use Rattle.std.proofs.Common.{◌≡◌, ℕ, ◌+◌, ◌^◌, ◌<◌, ◌≤◌, true, false, List, Option, Some, None, Result, Ok, Err, refl, sym, ap, ◌∙◌, subst, arith, Bool, inl, inr, ◌⊎◌}
use Rattle.std.specs.Prelude.{IfOk, IfErr, IsErrAnd}
use Rattle.std.specs.{Option.is_some, Str.is_utf8, Str.Lossy.utf8_valid_len}
use Rattle.std.proofs.lemmas.Bool.Decides.{nat_tests}
use Rattle.fb_bytes.specs.Word.{Lent, word}
use Rattle.fb_rules.specs.{declared.site.Site.Site, declared.site.Stop.Stop, declared.fault.Reason.Reason, Bounds.Bounds, Bounds.AreAllowed, Plain.tested_by, Plain.place_from}
use Rattle.fb_rules.specs.{Plain.IsTested, Told.IsAskedAt, Order.Failure, Order.check, Order.after, Places.field_place, Places.target, declared.fault.Reason.TheVariants.NotUtf8}
use Rattle.fb_rules.specs.declared.{fault.Reason.TheVariants.UnknownField, offset_row.Row.Row}
use Rattle.fb_strict.specs.{declared.inner.Inner.Inner, declared.tasks.Ask.Ask, declared.tasks.Ask.TheVariants.Bytes, declared.tasks.Held.Held, InOrder.together_failure}
use Rattle.fb_strict.specs.{InOrder.flex_failure, Passing.Passing, Passing.IsRoom, Passing.wants_of, Passing.task_inner, Passing.task_row, Passing.TaskPassed, Passing.TaskDone}
use Rattle.fb_strict.specs.{Skipped.Wants, InOrder.where_asked, Asked.vectors_reads, declared.tasks.Ask.TheVariants.Unions as AskUnions, InOrder.text_reads, Strict.text_at}
use Rattle.fb_strict.specs.Passing.{TextPassed}
use Rattle.fb_schema.specs.Rows.{Rows}
use Rattle.fb_strict.proofs.Asking.{told_allowed}

same_lent : (m new : Lent) (n : ℕ) → new.bytes ≡ m.bytes → new.count ≡ n → new.base ≡ m.base → new ≡ record m { count = n }
same_lent m new n b c e = λ i. record { bytes = b i; count = c i; base = e i }

nothing_found : (n : ℕ) (e : Option Failure) → None ≡ after n e → e ≡ None
nothing_found n None h = refl
nothing_found n (Some e) h = absurd (cc)

pub after_after : (a b : ℕ) (e : Option Failure) → after (a + b) e ≡ after a (after b e)
after_after a b None = refl
after_after a b (Some e) = let s : a + b + e.reads ≡ a + (b + e.reads) = omega arith in rw s refl

-- the room allows so many reads
pub allowed_by : (L : Bounds) (base room n : ℕ) → IsRoom L base room → n < 2 ^ 64 → n ≤ room → AreAllowed L.reads (base + n)
allowed_by L base room n h few le = (told_allowed L.reads (base + n)).0 (h n few ∙ grind (arith, nat_tests))

-- where no test failed, and the room allows the reads
pub answered : (site : Site) (L : Bounds) (m new : Lent) (chain : Option Failure) (n tested at room count : ℕ) → IsRoom L new.base room → new.count ≡ new.base + count → count < 2 ^ 64 → count ≤ room → IsTested m new tested chain n None
    → IsAskedAt {A = Unit {0}} site L m new chain n at (Ok tt)
answered site L m new chain n tested at room count room-is since few le h = record {
  ok = nothing_found m.count chain h.told;
  counted = same_lent m new (m.count + n) h.bytes (h.counted refl) h.base;
  reads = subst (AreAllowed L.reads) (sym since) (allowed_by L new.base room count room-is few le);
  err = tt;
  bytes = h.bytes;
}

-- nothing was tested, but so many reads were made
pub only_read : (m new : Lent) (at n : ℕ) → new ≡ record m { count = m.count + n } → IsTested m new at None n None
only_read m new at n is = record { told = refl; counted = λ h. ap (λ (x : Lent). x.count) is; bytes = ap (λ (x : Lent). x.bytes) is; base = ap (λ (x : Lent). x.base) is }

-- a chain was tested after so many reads
pub tested_after : (m mid new : Lent) (at : ℕ) (chain : Option Failure) (a n : ℕ) (result : Option Reason) → mid ≡ record m { count = m.count + a } → IsTested mid new at chain n result → IsTested m new at (after a chain) (a + n) result
tested_after m mid new at chain a n result is h =
    let c = ap (λ (x : Lent). x.count) is in
    record {
      told = h.told ∙ ap (λ k. after k chain) c ∙ after_after m.count a chain;
      counted = λ e. let k = h.counted e in omega (arith, k, c);
      bytes = h.bytes ∙ ap (λ (x : Lent). x.bytes) is;
      base = h.base ∙ ap (λ (x : Lent). x.base) is;
    }

-- where a field stands

pub stands : (t at : ℕ) → (at ≡ t → ⊥) → place_from t at ≡ Some at
stands t at h = grind (arith, nat_tests)

pub stands_not : (t at : ℕ) → at ≡ t → place_from t at ≡ None
stands_not t at h = grind (arith, nat_tests)

-- a vector of unions of which one part isn't there has no words

pub nothing_read : (o q : Option ℕ) → (q ≡ None) ⊎ (o ≡ None) → vectors_reads o q ≡ 0
nothing_read None q n = refl
nothing_read (Some o) None n = refl
nothing_read (Some o) (Some q) n = absurd (elim n [ inl e ↦ cc | inr e ↦ cc ])

pub nothing_put : (w : Wants) (b : List ℕ) (S : Rows) (e : ℕ) (old : Row) (o q : Option ℕ) → (q ≡ None) ⊎ (o ≡ None) → old ≡ task_row w b S o q (AskUnions e) old
nothing_put w b S e old None None n = refl
nothing_put w b S e old None (Some q) n = refl
nothing_put w b S e old (Some o) None n = refl
nothing_put w b S e old (Some o) (Some q) n = absurd (elim n [ inl e ↦ cc | inr e ↦ cc ])

pub always : {A E : Type 0} {P : Type 0} (r : Result A E) → P → IfOk r (λ _. P)
always (Ok a) h = h
always (Err e) h = tt

pub none_tested : (m : Lent) (at : ℕ) → IsTested m m at None 0 None
none_tested m at = record { told = refl; counted = λ h. omega arith; bytes = refl; base = refl }

-- a test of a vector of unions, which reads nothing
pub together_tested : (x : Bool) (m : Lent) (at : ℕ) (failed : Option Reason) (o q : Option ℕ) (n : ℕ) → tested_by at m.count failed ≡ after m.count (where_asked x (together_failure o q)) → (failed ≡ None → n ≡ 0) → IsTested m m at (where_asked x (together_failure o q)) n failed
together_tested x m at failed o q n told none = record { told = told; counted = λ h. let z = none h in omega arith; bytes = refl; base = refl }

pub none_failed : (at n : ℕ) (failed : Option Reason) → tested_by at n failed ≡ None → failed ≡ None
none_failed at n None h = refl
none_failed at n (Some reason) h = absurd (cc)

-- nothing was found, as it was told
pub found_none : (at n : ℕ) (failed : Option Reason) (e : Option Failure) → tested_by at n failed ≡ after n e → failed ≡ None → e ≡ None
found_none at n failed e h none = nothing_found n e (ap (tested_by at n) (sym none) ∙ h)

pub failed_none : (m new : Lent) (at n : ℕ) (failed : Option Reason) (e : Option Failure) → IsTested m new at e n failed → e ≡ None → failed ≡ None
failed_none m new at n failed e h none = none_failed at new.count failed (h.told ∙ ap (after m.count) none)

pub not_none : {X : Type 0} (o : Option X) → true ≡ is_some o → o ≡ None → ⊥
not_none None h e = cc
not_none (Some x) h e = cc

pub is_none : {X : Type 0} (o : Option X) → false ≡ is_some o → o ≡ None
is_none None h = refl
is_none (Some x) h = absurd (cc)

pub place_is : (t at p : ℕ) → place_from t at ≡ Some p → p ≡ at
place_is t at p h = grind (arith, nat_tests)

pub reads_more : (m mid new : Lent) (a b : ℕ) → mid ≡ record m { count = m.count + a } → new ≡ record mid { count = mid.count + b } → new ≡ record m { count = m.count + (a + b) }
reads_more m mid new a b one two =
    let c = ap (λ (x : Lent). x.count) one in
    let d = ap (λ (x : Lent). x.count) two in
    same_lent m new _ (ap (λ (x : Lent). x.bytes) two ∙ ap (λ (x : Lent). x.bytes) one) (omega (arith, c, d)) (ap (λ (x : Lent). x.base) two ∙ ap (λ (x : Lent). x.base) one)

pub nothing_after : (n : ℕ) (e : Option Failure) → after n e ≡ None → e ≡ None
nothing_after n None h = refl
nothing_after n (Some e) h = absurd (cc)

-- what was asked doesn't tell what is answered
pub ok_for : {A B : Type 0} (a : A) (b : B) (site : Site) (L : Bounds) (m new : Lent) (chain : Option Failure) (n p : ℕ) → IsAskedAt {A = A} site L m new chain n p (Ok a) → IsAskedAt {A = B} site L m new chain n p (Ok b)
ok_for a b site L m new chain n p h = record { ok = h.ok; counted = h.counted; reads = h.reads; err = tt; bytes = h.bytes }

pub err_for : {A B : Type 0} (s : Stop) (site : Site) (L : Bounds) (m new : Lent) (chain : Option Failure) (n p : ℕ) → IsAskedAt {A = A} site L m new chain n p (Err s) → IsAskedAt {A = B} site L m new chain n p (Err s)
err_for s site L m new chain n p h = record { ok = tt; counted = tt; reads = tt; err = h.err; bytes = h.bytes }

-- what `?` answers
pub err_is : {B : Type 0} (r : Result B Stop) (s : Stop) → IsErrAnd r (λ e. e ≡ s) → r ≡ Err s
err_is (Ok b) s h = absurd h
err_is (Err e) s h = ap Err h

-- a task whose field holds no buffer
pub holds_none : (p : Passing) (m new : Lent) (t : ℕ) (site : Site) (slot : ℕ) (ask : Ask) (old past : Row) (r : Result Unit Stop) (result : Result (Option Inner) Stop) → task_inner m.bytes ask (field_place m.bytes t slot) ≡ None
    → TaskPassed p m new t site slot ask old past r → IfOk r (λ _. result ≡ Ok None) → IfErr r (λ s. result ≡ Err s) → TaskDone p m new t site slot ask old past result
holds_none p m new t site slot ask old past (Ok u) result none h ok err = rw ok (record { passed = record { asked = ok_for _ _ _ _ _ _ _ _ _ h.asked; row = h.row }; inner = sym none })
holds_none p m new t site slot ask old past (Err s) result none h ok err = rw err (record { passed = record { asked = err_for _ _ _ _ _ _ _ _ h.asked; row = tt }; inner = tt })

-- a test of a field that may not be there, which reads nothing
pub flex_tested : (m : Lent) (at : ℕ) (failed : Option Reason) (o : Option ℕ) → tested_by at m.count failed ≡ after m.count (flex_failure o) → IsTested m m at (flex_failure o) 0 failed
flex_tested m at failed o told = record { told = told; counted = λ h. omega arith; bytes = refl; base = refl }

-- a field of bytes leads to no words
pub bytes_row : (p : Passing) (b : List ℕ) (types place : Option ℕ) (held : Held) (row : Row) → row ≡ task_row (wants_of p) b p.rows types place (Bytes held) row
bytes_row p b types None held row = refl
bytes_row p b types (Some q) held row = refl

-- A text that was read.
module _ (p : Passing) (m : Lent) (site : Site) (place at size : ℕ) (at_is : at ≡ target m.bytes place) (size_is : size ≡ word m.bytes at 4) where
  -- all of its reads
  pub all_read : (mid new : Lent) → mid ≡ record m { count = m.count + 1 } → new ≡ record mid { count = mid.count + (1 + size) } → new ≡ record m { count = m.count + text_reads m.bytes (target m.bytes place) }
  all_read mid new one two =
      let all = reads_more m mid new 1 (1 + size) one two in
      let same : 1 + (1 + size) ≡ text_reads m.bytes (target m.bytes place) = (let n = size_is ∙ ap (λ a. word m.bytes a 4) at_is in omega (arith, n)) in
      all ∙ ap (λ n. record m { count = m.count + n }) same

  module _ (new : Lent) (read : new ≡ record m { count = m.count + text_reads m.bytes (target m.bytes place) }) (text : List ℕ) (text_is : text ≡ text_at m.bytes at) where
    its_text : text ≡ text_at m.bytes (target m.bytes place)
    its_text = text_is ∙ ap (text_at m.bytes) at_is

    pub text_told : IsTested m new place None (text_reads m.bytes (target m.bytes place)) None
    text_told = only_read m new place (text_reads m.bytes (target m.bytes place)) read

    -- it was asked, and is whole
    pub text_whole : AreAllowed (p.limits).reads new.count → is_utf8 text ≡ true → TextPassed p m new site place (Ok tt)
    text_whole a whole = (read, a, let same = ap is_utf8 (sym its_text) ∙ whole in rw same refl)

    -- it isn't
    pub text_wrong : AreAllowed (p.limits).reads new.count → is_utf8 text ≡ false → (front : ℕ) → front ≡ utf8_valid_len text → TextPassed p m new site place (Err (record { refusal = record { at = at + 4 + front; reason = NotUtf8 }; site = site }))
    text_wrong a wrong front front_is =
        let same = ap is_utf8 (sym its_text) ∙ wrong in
        let front_same : utf8_valid_len (text_at m.bytes (target m.bytes place)) ≡ front = ap utf8_valid_len (sym its_text) ∙ sym front_is in
        let none : new.count + 0 ≡ new.count = omega arith in
        inr (read, a, rw (same, front_same, sym at_is, none) refl)

-- a slot that was read
pub slot_tested : (m new : Lent) (at : ℕ) (x : Bool) (failed : Option Reason) → new ≡ record m { count = m.count + 1 } → (x ≡ true → failed ≡ None) → (x ≡ false → failed ≡ Some UnknownField) → IsTested m new at (check x UnknownField at 1 None) 1 failed
slot_tested m new at true failed is known unknown = rw (known refl) (only_read m new at 1 is)
slot_tested m new at false failed is known unknown =
    let c = ap (λ (x : Lent). x.count) is in
    rw (unknown refl) (record { told = rw c refl; counted = λ h. absurd (cc); bytes = ap (λ (x : Lent). x.bytes) is; base = ap (λ (x : Lent). x.base) is })
