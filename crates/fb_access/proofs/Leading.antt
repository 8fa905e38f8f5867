-- The uoffsets of a field lead where their leads say.
use Rattle.std.proofs.Common.{◌≡◌, ℕ, zero, suc, ◌+◌, ◌*◌, ◌<◌, ◌≤◌, List, [], ◌∷◌, length, refl, subst, arith, Some, None, IsTrue, nat_lt, if◌then◌else◌}
use Rattle.std.specs.Prelude.{slice_get}
use Rattle.std.proofs.lemmas.Bool.Decides.{nat_tests}
use Rattle.fb_bytes.specs.Word.{word}
use Rattle.fb_schema.specs.{Rows.Rows, Rows.is_table, Members.member_of}
use Rattle.fb_rules.specs.{Places.target, Unfolds.ElementsUnfold, Unfolds.ElementUnfolds, declared.checks.Checks.Checks}
use Rattle.fb_rules.specs.Fields.{Lead, to_table, to_struct, to_string, to_nothing, lead_of, Entry, entry, row, union_row}
use Rattle.fb_rules.specs.Tree.{Elements, no_elements, element, Element, leaf, table}
use Rattle.fb_access.specs.Held.{IsTableAt, IsTextAt, IsLed, AreLed}

-- the j-th of n uoffsets
pub record IsNth (xs : List Entry) (n j : ℕ) (x : Entry) : Type 0 where
  pub is : slice_get xs j ≡ (if nat_lt j n then Some x else None)

pub row_at : (lead : Lead) (p n j : ℕ) → IsNth (row lead p n) n j (entry lead (p + 4 * j) 0)
unfolding row
row_at lead p zero j = record { is = grind (arith, nat_tests) }
row_at lead p (suc n) zero = let e : p + 4 * 0 ≡ p = omega arith in record { is = grind (arith, nat_tests) }
row_at lead p (suc n) (suc j) =
    let e : p + 4 + 4 * j ≡ p + 4 * suc j = omega arith in
    record { is = grind (arith, nat_tests, (row_at lead (p + 4) n j).is) }

pub union_row_at : (b : List ℕ) (S : Rows) (e q p n j : ℕ) → IsNth (union_row b S e q p n) n j (entry (lead_of S (member_of S e (word b (q + j) 1))) (p + 4 * j) 1)
unfolding union_row
union_row_at b S e q p zero j = record { is = grind (arith, nat_tests) }
union_row_at b S e q p (suc n) zero =
    let i : p + 4 * 0 ≡ p = omega arith in
    let k : q + 0 ≡ q = omega arith in
    record { is = grind (arith, nat_tests) }
union_row_at b S e q p (suc n) (suc j) =
    let i : p + 4 + 4 * j ≡ p + 4 * suc j = omega arith in
    let k : q + 1 + j ≡ q + suc j = omega arith in
    record { is = grind (arith, nat_tests, (union_row_at b S e (q + 1) (p + 4) n j).is) }

module _ {xs : List Entry} {n j : ℕ} {x : Entry} (nth : IsNth xs n j x) where
  row_there : j < n → slice_get xs j ≡ Some x
  row_there lt = let i = nth.is in grind (arith, nat_tests)

  pub row_get : (y : Entry) → slice_get xs j ≡ Some y → (j < n) × (x ≡ y)
  row_get y h = let i = nth.is in grind (arith, nat_tests)

  pub row_end : slice_get xs j ≡ None → n ≤ j
  row_end h = let i = nth.is in grind (arith, nat_tests)

module _ (c : Checks) (b : List ℕ) (S : Rows) where
  -- each element of a row unfolds
  led_at : (ys : Elements) (xs : List Entry) (j : ℕ) (x : Entry) → ElementsUnfold ys c b S xs → slice_get xs j ≡ Some x → IsLed b S x.place x.lead
  unfolding ElementsUnfold
  led_at no_elements [] j x u e = absurd cc
  led_at no_elements (z ∷ zs) j x u e = absurd u
  led_at (element y ys) [] j x u e = absurd u
  led_at (element y ys) (z ∷ zs) zero x u e = let i : z ≡ x = cc in subst (λ w. IsLed b S w.place w.lead) i (record { checks = c; found = y; unfolds = u.0 })
  led_at (element y ys) (z ∷ zs) (suc j) x u e = led_at ys zs j x u.1 e

  -- so do the elements of a vector of strings or tables, and those of a vector of unions
  pub row_led : (ys : Elements) (lead : Lead) (p n : ℕ) → ElementsUnfold ys c b S (row lead p n) → AreLed b S p n (λ j. lead)
  row_led ys lead p n u = record { at = λ j lt. led_at ys (row lead p n) j _ u (row_there (row_at lead p n j) lt) }

  pub union_row_led : (ys : Elements) (e q p n : ℕ) → ElementsUnfold ys c b S (union_row b S e q p n) → AreLed b S p n (λ j. lead_of S (member_of S e (word b (q + j) 1)))
  union_row_led ys e q p n u = record { at = λ j lt. led_at ys (union_row b S e q p n) j _ u (row_there (union_row_at b S e q p n j) lt) }

  -- one uoffset alone
  pub one_led : (ys : Elements) (lead : Lead) (p reads : ℕ) → ElementsUnfold ys c b S (entry lead p reads ∷ []) → IsLed b S p lead
  one_led ys lead p reads u = led_at ys (entry lead p reads ∷ []) 0 (entry lead p reads) u refl

  table_found : (y : Element) (p k : ℕ) → IsTrue (is_table S k) → ElementUnfolds y c b S p (to_table k) → (p + 4 ≤ length b) × IsTableAt b S k (target b p)
  unfolding ElementUnfolds
  table_found leaf p k o u = absurd u
  table_found (table y) p k o u = (u.0.within, record { object = o; checks = c; found = y; unfolds = u.1 })

  string_found : (y : Element) (p : ℕ) → ElementUnfolds y c b S p to_string → (p + 4 ≤ length b) × IsTextAt b (target b p)
  unfolding ElementUnfolds
  string_found leaf p u = (
    u.0.within,
    record {
      counted = record { count = u.1.count; within = omega (arith, u.1.within) };
      ends = omega (arith, u.1.within);
      terminated = u.1.terminated;
    },
  )
  string_found (table y) p u = absurd u

  struct_found : (y : Element) (p size align : ℕ) → ElementUnfolds y c b S p (to_struct size align) → (p + 4 ≤ length b) × (target b p + size ≤ length b)
  unfolding ElementUnfolds
  struct_found leaf p size align u = (u.0.within, u.1.within)
  struct_found (table y) p size align u = absurd u

module _ (b : List ℕ) (S : Rows) (p : ℕ) where
  -- what a uoffset leads to is there
  pub led_to_table : (k : ℕ) → IsTrue (is_table S k) → IsLed b S p (to_table k) → (p + 4 ≤ length b) × IsTableAt b S k (target b p)
  led_to_table k o h = table_found h.checks b S h.found p k o h.unfolds

  pub led_to_string : IsLed b S p to_string → (p + 4 ≤ length b) × IsTextAt b (target b p)
  led_to_string h = string_found h.checks b S h.found p h.unfolds

  pub led_to_struct : (size align : ℕ) → IsLed b S p (to_struct size align) → (p + 4 ≤ length b) × (target b p + size ≤ length b)
  led_to_struct size align h = struct_found h.checks b S h.found p size align h.unfolds

-- a uoffset leads to nothing where a type has no member
pub led_to_nothing : (c : Checks) (b : List ℕ) (S : Rows) (p : ℕ) → IsLed b S p to_nothing
unfolding ElementUnfolds
led_to_nothing c b S p = record { checks = c; found = leaf; unfolds = tt }
