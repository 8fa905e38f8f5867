-- Steps that fit lead on from the root.
use Rattle.std.proofs.Common.{◌≡◌, ℕ, ◌+◌, ◌<◌, suc, get_or, add-one, List, [], ◌∷◌, ◌++◌, length, take, drop, refl, sym, subst, IsTrue}
use Rattle.std.proofs.{Math.Seq.drop-cons, lemmas.List.take_more}
use Rattle.fb_schema.specs.Rows.{Rows}
use Rattle.fb_rules.specs.{Places.target, WellFormed.base}
use Rattle.fb_verify.specs.Sealed.{Sealed, IsUnfolded}
use Rattle.fb_access.specs.{declared.step.Step.Step, declared.spot.Spot.Spot, declared.spot.Spot.TheVariants.AtTable, Denotes.Leads, Denotes.allows, Denotes.Reaches, Held.IsSpot}
use Rattle.fb_access.specs.{Held.IsPlaced, Underway.IsWalked}
use Rattle.fb_access.proofs.StepKinds.{kind_allows, kinds_go_on}

-- the root table of a buffer that unfolds
pub root_placed : (v : Sealed) (k t : ℕ) → IsUnfolded v → k ≡ v.root → t ≡ target v.bytes (base v.start) → IsPlaced (record { sealed = v; spot = AtTable k t })
unfolding IsSpot
root_placed v k t h i e = record { unfolds = h; spot = rw (i, e) (record { object = h.root_is_table; checks = v.checks; found = h.found; unfolds = h.well_formed.unfolds }) }

module _ (b : List ℕ) (S : Rows) where
  -- steps behind other steps
  pub reaches_on : (p m q : Spot) (ss rs : List Step) → Reaches b S p ss m → Reaches b S m rs q → Reaches b S p (ss ++ rs) q
  reaches_on p m q [] rs h g = subst (λ x. Reaches b S x rs q) (sym h) g
  reaches_on p m q (s ∷ ss) rs h g = (h.0, h.1, reaches_on h.0 m q ss rs h.2 g)

  module _ (first : Spot) where
    walked_allows : (taken left : List Step) (s : Step) (q : Spot) → IsWalked b S first taken (s ∷ left) q → IsTrue (allows S q s)
    walked_allows taken left s q w = kind_allows S q s w.kind w.fits.0 w.is w.fits.1

    walked_more : (taken left : List Step) (s : Step) (q m : Spot) → IsWalked b S first taken (s ∷ left) q → Leads b S q s m → IsWalked b S first (taken ++ s ∷ []) left m
    walked_more taken left s q m w l = record {
      reached = reaches_on first q m taken (s ∷ []) w.reached (m, l, refl);
      kind = w.fits.0;
      is = kinds_go_on b S q s m l w.kind w.fits.0 w.is w.fits.1;
      fits = w.fits.2;
    }

    -- the next step is allowed, and leads on
    pub walked_allows_at : (ss : List Step) (i : ℕ) (d : Step) (q : Spot) → i < length ss → IsWalked b S first (take i ss) (drop i ss) q → IsTrue (allows S q (get_or ss i d))
    walked_allows_at ss i d q l w = walked_allows (take i ss) (drop (suc i) ss) (get_or ss i d) q (subst (λ r. IsWalked b S first (take i ss) r q) (drop-cons ss i d l) w)

    pub walked_more_at : (ss : List Step) (i : ℕ) (d : Step) (q m : Spot) → i < length ss → IsWalked b S first (take i ss) (drop i ss) q → Leads b S q (get_or ss i d) m → IsWalked b S first (take (i + 1) ss) (drop (i + 1) ss) m
    walked_more_at ss i d q m l w g = rw (take_more ss i d l, add-one) (walked_more (take i ss) (drop (suc i) ss) (get_or ss i d) q m (subst (λ r. IsWalked b S first (take i ss) r q) (drop-cons ss i d l) w) g)
