-- Products that stop at the greatest number.
use Rattle.std.proofs.Common.{◌≡◌, ℕ, zero, suc, ◌+◌, ◌*◌, ◌≤◌, min, inl, inr, ap, ◌∙◌, arith, mul-le-mul_left}
use Rattle.std.proofs.lemmas.Bool.{cases_lt}

-- a factor that was stopped leaves the product as it is, once that is stopped
pub times : (m a b : ℕ) → min (a * min b m) m ≡ min (a * b) m
times m zero b = omega arith
times m (suc a) b = elim (cases_lt b m) [
  | inl lt ↦ (let same : min b m ≡ b = omega (arith, lt) in rw same (omega arith))
  | inr le ↦ (let same : min b m ≡ m = omega (arith, le) in
      let one : suc a * m ≤ suc a * b = mul-le-mul_left (suc a) le in
      rw same (omega (arith, one)))
]

-- nor does one of a sum
plus : (m a b : ℕ) → min (min a m + b) m ≡ min (a + b) m
plus m a b = omega arith

turned : (m a b : ℕ) → min (a + b) m ≡ min (b + a) m
turned m a b = omega arith

before : (m a b : ℕ) → min (a + min b m) m ≡ min (a + b) m
before m a b = omega arith

-- the price of the passes beside that of the walks and of where they start
pub price : (m start walk walks tables wide len square fields table pass most : ℕ) → walks ≡ min (start + walk) m → square ≡ min ((8 + len) * (8 + len)) m → fields ≡ min (wide * square) m → table ≡ min (fields + (3 + len)) m → pass ≡ min (tables * table) m → most ≡ min (walks + pass) m
    → most ≡ min (start + walk + tables * (3 + len + wide * ((8 + len) * (8 + len)))) m
price m start walk walks tables wide len square fields table pass most walks_is square_is fields_is table_is pass_is most_is =
    let all : ℕ = wide * ((8 + len) * (8 + len)) in
    let one : fields ≡ min all m = fields_is ∙ ap (λ n. min (wide * n) m) square_is ∙ times m wide ((8 + len) * (8 + len)) in
    let two : table ≡ min (3 + len + all) m = table_is ∙ ap (λ n. min (n + (3 + len)) m) one ∙ plus m all (3 + len) ∙ turned m all (3 + len) in
    let three : pass ≡ min (tables * (3 + len + all)) m = pass_is ∙ ap (λ n. min (tables * n) m) two ∙ times m tables (3 + len + all) in
    most_is ∙ ap (λ n. min (walks + n) m) three ∙ before m walks (tables * (3 + len + all)) ∙ ap (λ n. min (n + tables * (3 + len + all)) m) walks_is ∙ plus m (start + walk) (tables * (3 + len + all))

-- the lesser of it and what the budget lets
pub least : (m n most budget past result : ℕ) → most ≡ min n m → result ≡ min most (budget + 7 + past) → result ≡ min (min n (budget + (7 + past))) m
least m n most budget past result most_is result_is = omega (arith, most_is, result_is)
