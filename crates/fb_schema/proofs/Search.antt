-- What a binary search by a key finds.
use Rattle.std.proofs.Common.{◌≡◌, ℕ, ◌+◌, ◌-◌, ◌<◌, ◌≤◌, ◌==◌, false, List, length, get_or, refl, sym, ap, ◌∙◌, arith, is_ok, Result, Ok, Err, Ordering, Less, Equal, Greater}
use Rattle.std.proofs.lemmas.{Cmp.nat_cmp_total, Cmp.ranked, Cmp.by_ranked, Cmp.tied_itself, Bool.Decides.Decides-eqb, Bool.Decides.nat_tests, List.Folds.list_any_at}
use Rattle.std.proofs.lemmas.List.{Folds.list_any_none, Sorted.searchable_from_sorted}
pub use Rattle.std.proofs.lemmas.Bool.{false_from_ne_true as not_true}
use Rattle.std.specs.{List.list_any, Cmp.IsTotalOrder, Ordering.nat_cmp, Ordering.is_lt, Ordering.ordering_index}
use Rattle.std.specs.List.Sorted.{IsSorted, IsSortedBy, IsNonDecreasingBy, IsPartitionPoint, IsBinarySearchResult, IsSearchInRange}

-- where the search found nothing, no item has the key
pub search_missed : {K X : Type 0} (R : K → K → Ordering) (o : IsTotalOrder R) (key : X → K) (xs : List X) (x : K) (at : ℕ) → IsSortedBy (λ a b. is_lt (R (key a) (key b))) xs
    → (IsNonDecreasingBy (λ y. ordering_index (R (key y) x)) xs → IsPartitionPoint (λ y. R (key y) x ≡ Less) (λ y. R (key y) x ≡ Greater) xs at)
    → (k : ℕ) (d : X) → k < length xs → R (key (get_or xs k d)) x ≡ Equal → ⊥
search_missed R o key xs x at up split k d lt tied =
    let s = split (searchable_from_sorted o key xs x up) in
    grind (arith, s.0 k d, s.1 k d, tied)

pub nat_tied : (x y : ℕ) → nat_cmp x y ≡ Equal → x ≡ y
nat_tied x y h = by_ranked (x < y) (x ≡ y) (y < x) (nat_cmp x y) (ranked x y _ refl) (λ e lt. absurd (let w : Less ≡ Equal = sym e ∙ h in cc)) (λ _ e. e) (λ e lt. absurd (let w : Greater ≡ Equal = sym e ∙ h in cc))

-- a number is found where it stands
pub number_found : (xs : List ℕ) (x : ℕ) (r : Result ℕ ℕ) → IsSorted nat_cmp xs → IsSearchInRange r (length xs) → IsBinarySearchResult (λ y. nat_cmp y x) xs r → is_ok r ≡ list_any (λ s. s == x) xs
number_found xs x (Ok k) up range found = sym (list_any_at (λ s. s == x) xs k 0 range ((Decides-eqb (get_or xs k 0) x).1 (nat_tied (get_or xs k 0) x (found 0))))
number_found xs x (Err k) up range split = sym (list_any_none (λ s. s == x) xs (λ i d lt. not_true (get_or xs i d == x) (λ e.
    search_missed nat_cmp nat_cmp_total (λ (y : ℕ). y) xs x k up split i d lt (ap (λ y. nat_cmp y x) ((Decides-eqb (get_or xs i d) x).0 e) ∙ tied_itself nat_cmp_total x))))

same_tests : (slot s : ℕ) → 2 ≤ slot → (s == slot - 2) ≡ (s + 2 == slot)
same_tests slot s h = grind (arith, nat_tests)

-- a slot two below is looked for two below
pub two_below : (xs : List ℕ) (slot : ℕ) → 2 ≤ slot → list_any (λ s. s == slot - 2) xs ≡ list_any (λ s. s + 2 == slot) xs
two_below xs slot h = ap (λ p. list_any p xs) (λ i s. same_tests slot s h i)

pub none_below : (xs : List ℕ) (slot : ℕ) → slot < 2 → list_any (λ s. s + 2 == slot) xs ≡ false
none_below xs slot h = list_any_none (λ s. s + 2 == slot) xs (λ i d lt. not_true (get_or xs i d + 2 == slot) (λ e. let w = (Decides-eqb (get_or xs i d + 2) slot).0 e in omega arith))
