-- A test of the items of a list, one after another, against a limit.
use Rattle.std.proofs.Common.{◌≡◌, ℕ, ◌+◌, ◌<◌, ◌≤◌, ◌↔◌, true, false, IsTrue, List, All, length, get_or, take, subst, ap, ◌∙◌, arith}
use Rattle.std.proofs.lemmas.List.Elements.{All-more}

module _ {X : Type 0} (size : X → ℕ) (limit : ℕ) (xs : List X) (i : ℕ) where
  pub below_step : (x : X) (n : ℕ) → i < length xs → x ≡ get_or xs i x → All (λ x. size x < limit) (take i xs) → n ≡ size x → n < limit → All (λ x. size x < limit) (take (i + 1) xs)
  below_step x n lt at before is below = All-more (λ x. size x < limit) xs i x lt before (subst (λ m. m < limit) (is ∙ ap size at) below)

  pub one_beyond : (x : X) (n : ℕ) → i < length xs → x ≡ get_or xs i x → n ≡ size x → limit ≤ n → IsTrue false ↔ All (λ x. size x < limit) xs
  one_beyond x n lt at is beyond = (λ t. absurd (let w : false ≡ true = t in cc), λ all. absurd (let below = all i x lt in let same = is ∙ ap size at in omega (arith, same, below, beyond)))
