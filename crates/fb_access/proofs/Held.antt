-- What holds at a spot, by what is there.
use Rattle.std.proofs.Common.{◌≡◌, ℕ, List}
use Rattle.fb_schema.specs.Rows.{Rows}
use Rattle.fb_access.specs.{declared.spot.Spot.Spot, declared.spot.Spot.TheVariants.AtTable, Held.IsSpot, Held.IsTableAt}

module _ (b : List ℕ) (S : Rows) (q : Spot) where
  pub at_table : (k t : ℕ) → q ≡ AtTable k t → IsSpot b S q → IsTableAt b S k t
  unfolding IsSpot
  at_table k t e h = rw e at h
