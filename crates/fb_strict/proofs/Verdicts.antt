-- Counts of a verdict that 128 bits hold.
use Rattle.std.proofs.Common.{◌≡◌, ℕ, zero, suc, ◌+◌, Bool, true, false, if◌then◌else◌, take, ◌*◌, ◌^◌, ◌<◌, ◌≤◌, List, [], ◌∷◌, length, Option, Some, None, refl, ap, arith, mul-le-mul_left, mul-le-mul_right}
use Rattle.fb_rules.specs.{declared.table.Child.Child, Question.Question, Tree.Tree, Tree.size, WellFormed.IsWellFormed, WellFormed.IsWithin, WellFormed.cost}
use Rattle.fb_rules.specs.MostReads.{within_budget, most_reads}
use Rattle.fb_schema.specs.{Live.widest, Served.IsServed}
use Rattle.fb_rules.proofs.Price.{cost_is_bounded}
use Rattle.fb_strict.specs.{InOrder.where_asked, InOrder.length_failure, Asked.Demand, Asked.demands_in, Asked.demands_of, Asked.demands_reads, Passing.Passing, Passing.wants_of}
use Rattle.fb_strict.specs.Passing.{IsRooted}
use Rattle.fb_strict.proofs.Few.{first_reads, tree_few}

pub few_reads : (tables wide len : ℕ) → tables < 2 ^ 32 → wide < 2 ^ 32 → len < 2 ^ 31 → 4 + tables * (4 + wide * (8 + len)) ≤ 2 ^ 112
few_reads tables wide len t w l =
    let one : wide * (8 + len) ≤ 2 ^ 32 * (8 + len) = mul-le-mul_right (8 + len) (omega (arith, w)) in
    let two : tables * (4 + wide * (8 + len)) ≤ tables * (2 ^ 63 + 2 ^ 36) = mul-le-mul_left tables (omega (arith, one, l)) in
    omega (arith, two, t)

pub least_of : (o : Option ℕ) (n : ℕ) → within_budget o n ≤ n
least_of None n = omega arith
least_of (Some most) n = omega arith

pub walk_few : (q : Question) (b : List ℕ) (y : Tree) → IsWellFormed q b y → IsWithin q b y → (q.limits).tables < 2 ^ 32 → widest q.rows < 2 ^ 32 → length b < 2 ^ 31 → cost q b y ≤ 2 ^ 112
unfolding most_reads
walk_few q b y h w t wide l =
    let c = cost_is_bounded q b y h w in
    omega (arith, c, least_of (q.limits).reads (4 + (q.limits).tables * (4 + widest q.rows * (8 + length b))), few_reads (q.limits).tables (widest q.rows) (length b) t wide l)

-- and so are those of the pass
few_demands : (size len n : ℕ) → size < 2 ^ 32 → len < 2 ^ 31 → n ≤ (3 + len + 32766 * ((8 + len) * (8 + len))) * size → n ≤ 2 ^ 112
few_demands size len n t l h =
    let near : (8 + len) * (8 + len) ≤ (2 ^ 31 + 8) * (8 + len) = mul-le-mul_right (8 + len) (omega (arith, l)) in
    let two : (3 + len + 32766 * ((8 + len) * (8 + len))) * size ≤ 2 ^ 79 * size = mul-le-mul_right size (omega (arith, near, l)) in
    omega (arith, two, t, h)

pub first_few : (x : Bool) (d : Demand) (ds : List Demand) (n : ℕ) → d.reads ≡ 0 → demands_reads ds ≤ n → demands_reads (d ∷ (if x then ds else [])) ≤ n
first_few true d ds n none h = omega (arith, first_reads d ds, none, h)
first_few false d ds n none h = omega (arith, first_reads d [], none)

module _ (p : Passing) (b : List ℕ) (room : ℕ) (root : Child) where
  pub pass_few : (y : Tree) → IsRooted p b room root y → size y < 2 ^ 32 → IsServed p.rows → length b < 2 ^ 31 → demands_reads (demands_of (wants_of p) p.checks b p.rows root.object y) ≤ 2 ^ 112
  pass_few y h s served l =
      let few = few_demands (size y) (length b) (demands_reads (demands_in y (wants_of p) p.checks b p.rows [])) s l (tree_few (wants_of p) p.checks b p.rows 32766 served.few y [] root.object root.at h.unfolds) in
      let d : Demand = record { links = []; object = root.object; field = None; at = length b; reads = 0; chain = where_asked (p.plan).demands.unions (length_failure b); inner = None } in
      first_few ((wants_of p).asks root.object) d (demands_in y (wants_of p) p.checks b p.rows []) (2 ^ 112) refl few

-- all bytes of a slice
pub take_all : (xs : List ℕ) (n : ℕ) → n ≡ length xs → take n xs ≡ xs
take_all [] zero h = refl
take_all [] (suc n) h = absurd (omega arith)
take_all (x ∷ xs) zero h = absurd (omega arith)
take_all (x ∷ xs) (suc n) h = ap (λ ys. x ∷ ys) (take_all xs n (omega arith))
