-- A pass after so many reads is one within what is left of the budget.
use Rattle.std.proofs.Common.{◌≡◌, ℕ, ◌+◌, ◌-◌, ◌≤◌, nat_le, List, [], ◌∷◌, Option, Some, None, option_map, refl, ap, ◌∙◌, arith}
use Rattle.std.proofs.lemmas.Bool.Decides.{nat_tests}
use Rattle.fb_rules.specs.{declared.fault.Fault.Fault, declared.fault.Reason.TheVariants.TooManyReads, Bounds.Bounds, Bounds.AreAllowed, Bounds.allowed, Stops.reads_failure}
use Rattle.fb_rules.specs.Order.{Failure, check, ◌▷◌}
use Rattle.fb_strict.specs.{Asked.Demand, Asked.demand_fault, Asked.first_fault, Nested.budget_left, Nested.limits_left, Nested.later}

same_test : (most w n : ℕ) → w ≤ most → nat_le (w + n) most ≡ nat_le n (most - w)
same_test most w n le = grind (arith, nat_tests)

allowed_left : (o : Option ℕ) (w n : ℕ) → AreAllowed o w → allowed o (w + n) ≡ allowed (budget_left o w) n
allowed_left None w n a = refl
allowed_left (Some most) w n a = same_test most w n a

module _ (L : Bounds) (w : ℕ) (a : AreAllowed L.reads w) where
  pub budget : (paid n at : ℕ) → reads_failure L (w + paid) n at ≡ reads_failure (limits_left L w) paid n at
  budget paid n at =
      let s : w + paid + n ≡ w + (paid + n) = omega arith in
      ap (λ x. check x TooManyReads at n None) (ap (allowed L.reads) s ∙ allowed_left L.reads w (paid + n) a)

  pub fault_later : (d : Demand) (paid : ℕ) (e : Option Failure) → demand_fault d (w + paid) e ≡ option_map (later w) (demand_fault d paid e)
  fault_later d paid None = refl
  fault_later d paid (Some e) = let s : w + paid + e.reads ≡ w + (paid + e.reads) = omega arith in rw s refl

  first_later : (e f : Option Fault) → (option_map (later w) e ▷ option_map (later w) f) ≡ option_map (later w) (e ▷ f)
  first_later None f = refl
  first_later (Some e) f = refl

  pub shifted : (paid : ℕ) (ds : List Demand) → first_fault L (w + paid) ds ≡ option_map (later w) (first_fault (limits_left L w) paid ds)
  unfolding first_fault
  shifted paid [] = refl
  shifted paid (d ∷ ds) =
      let s : w + paid + d.reads ≡ w + (paid + d.reads) = omega arith in
      let one = ap (λ e. demand_fault d (w + paid) (d.chain ▷ e)) (budget paid d.reads d.at) ∙ fault_later d paid (d.chain ▷ reads_failure (limits_left L w) paid d.reads d.at) in
      let rest = ap (λ n. first_fault L n ds) s ∙ shifted (paid + d.reads) ds in
      ap (λ e. e ▷ first_fault L (w + paid + d.reads) ds) one ∙ ap (λ f. option_map (later w) (demand_fault d paid (d.chain ▷ reads_failure (limits_left L w) paid d.reads d.at)) ▷ f) rest
      ∙ first_later (demand_fault d paid (d.chain ▷ reads_failure (limits_left L w) paid d.reads d.at)) (first_fault (limits_left L w) (paid + d.reads) ds)
