-- What is left of a row.
use Rattle.std.proofs.Common.{◌≡◌, ℕ, zero, suc, ◌+◌, ◌-◌, ◌^◌, ◌<◌, nat_lt, true, false, List, [], ◌∷◌, length, refl, sym, ◌∙◌, ap, subst, arith}
use Rattle.std.proofs.lemmas.Bool.Decides.{nat_tests}
use Rattle.fb_bytes.specs.Word.{word}
use Rattle.fb_schema.specs.Rows.{Rows}
use Rattle.fb_rules.specs.declared.offset_row.{Leads.Leads, Leads.TheVariants.All, Leads.TheVariants.ByType, Row.Row, Referent.Referent}
use Rattle.fb_rules.specs.{Fields.Lead, Fields.entry, Fields.row, Fields.union_row, Places.target, OffsetRows.lead_to, OffsetRows.words, OffsetRows.words_of, OffsetRows.word_at}
use Rattle.fb_rules.specs.OffsetRows.{first_word, leads_after, past_first, AreLeads, IsReferent, IsRow, LeavesRow, PutsWords}

module _ (b : List ℕ) (S : Rows) where
  words-front : (leads : Leads) (p n : ℕ) → 0 < n → words b S leads p n ≡ word_at b S leads p ∷ words b S (leads_after leads) (p + 4) (n - 1)
  unfolding row union_row
  words-front leads p zero h = absurd (omega arith)
  words-front leads p (suc n) h = grind arith

  words-none : (leads : Leads) (p : ℕ) → words b S leads p 0 ≡ []
  unfolding row union_row
  words-none leads p = grind arith

  -- the first, and the others
  pub row_front : (r : Row) → 0 < r.left → words_of b S r ≡ first_word b S r ∷ words_of b S (past_first r)
  row_front r h = words-front r.leads r.place r.left h

  pub row_none : (r : Row) → r.left ≡ 0 → words_of b S r ≡ []
  row_none r h = rw h (words-none r.leads r.place)

  pub first_place : (r : Row) → (first_word b S r).place ≡ r.place
  first_place r = grind arith

  leads_on : (leads : Leads) (n : ℕ) → AreLeads b S n leads → 0 < n → AreLeads b S (n - 1) (leads_after leads)
  leads_on (All referent) n h l = h
  leads_on (ByType e q) n h l = (h.0, omega (arith, h.1), omega (arith, h.2))

  pub row_on : (r : Row) → 0 < r.left → IsRow b S r → IsRow b S (past_first r)
  row_on r l h = record { place = omega (arith, h.place); left = omega (arith, h.left); leads = λ m. leads_on r.leads r.left (h.leads l) l }

  -- so many words were put into a row that was empty, if there are any
  words_left : (leads : Leads) (p n : ℕ) (old new : Row) → old.left ≡ 0 → (n ≡ 0 → new ≡ old) → (0 < n → new ≡ record { leads = leads; place = p; left = n }) → (0 < n → IsRow b S (record { leads = leads; place = p; left = n }))
      → LeavesRow b S (words b S leads p n) old new (nat_lt 0 new.left)
  words_left leads p zero old new rests none some good =
      subst (λ (y : Row). LeavesRow b S (words b S leads p zero) old y (nat_lt 0 y.left)) (sym (none refl))
      (rw rests (record { none = λ _. (words-none leads p, refl); entries = λ e. absurd (let w : false ≡ true = e in cc); row = λ e. absurd (let w : false ≡ true = e in cc) }))
  words_left leads p (suc n) old new rests none some good =
      subst (λ (y : Row). LeavesRow b S (words b S leads p (suc n)) old y (nat_lt 0 y.left)) (sym (some (omega arith)))
      (record { none = λ e. absurd (let t : nat_lt 0 (suc n) ≡ true = grind (arith, nat_tests) in let w : true ≡ false = sym t ∙ e in cc); entries = λ _. refl; row = λ _. (good (omega arith), omega arith) })

  -- those of a vector, so far as they are told
  pub vector_left : {p : ℕ} {leads : Leads} {old new : Row} → PutsWords b p leads old new → old.left ≡ 0 → AreLeads b S (word b (target b p) 4) leads
      → LeavesRow b S (words b S leads (target b p + 4) (word b (target b p) 4)) old new (nat_lt 0 new.left)
  vector_left h rests good = words_left _ _ _ _ _ rests h.none h.some (λ _. record { place = omega (arith, h.within); left = omega (arith, h.within); leads = λ _. good })

  pub row_length : (lead : Lead) (p n : ℕ) → length (row lead p n) ≡ n
  unfolding row
  row_length lead p zero = refl
  row_length lead p (suc n) = ap suc (row_length lead (p + 4) n)

  pub union_row_length : (e q p n : ℕ) → length (union_row b S e q p n) ≡ n
  unfolding union_row
  union_row_length e q p zero = refl
  union_row_length e q p (suc n) = ap suc (union_row_length e (q + 1) (p + 4) n)

  -- a row has as many words as are left of it
  pub row_words : (r : Row) → length (words_of b S r) ≡ r.left
  row_words r = grind (arith, row_length, union_row_length)

-- the row of a field that leads on by one word
pub word_left : {b : List ℕ} {S : Rows} (referent : Referent) (p : ℕ) (old : Row) → p < 2 ^ 34 → IsReferent S referent → LeavesRow b S (entry (lead_to referent) p 0 ∷ []) old (record { leads = All referent; place = p; left = 1 }) true
unfolding row
word_left referent p old near holds =
    record { none = λ x. absurd cc; entries = λ _. refl; row = λ _. (record { place = omega (arith, near); left = omega arith; leads = λ _. holds }, omega arith) }
