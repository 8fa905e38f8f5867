-- A buffer with those inside it: what all of them spend together, and the first fault.
use Rattle.std.specs.Prelude.{◌≡◌, ℕ, ◌+◌, ◌-◌, min, max, List, [], ◌∷◌, ◌++◌, length, take, drop, slice_get, Option, Some, None, option_map, Result, Ok, Err}
use Rattle.fb_rules.specs.declared.{fault.Fault.Fault, fault.Report.Report, link.Link.Link, start.Start.TheVariants.Bare, start.Ident.TheVariants.Any}
use Rattle.fb_rules.specs.{Bounds.Bounds, Bounds.AreAllowed, Question.Question, Tree.Tree, Tree.size, Tree.depth, WellFormed.IsWellFormed, WellFormed.IsWithin, WellFormed.cost}
use Rattle.fb_rules.specs.{Stops.reads_failure, Links.StopsAlong, Order.◌▷◌}
use Rattle.fb_strict.specs.{declared.inner.Inner.Inner, Planned.Planned, Planned.wants_in, Skipped.IsClosed, Strict.IsStrictBuffer, Asked.Demand, Asked.ArePlain}
use Rattle.fb_strict.specs.Asked.{demand_fault, demands_of, demands_reads, first_fault, first_links}

-- the bytes of a buffer inside
abbrev pub bytes_inside : List ℕ → Inner → List ℕ
bytes_inside b i = take i.size (drop i.at b)

-- how many tables are open at a demand, where so many are above the root: each link leads on from one
abbrev pub open_at : ℕ → Demand → ℕ
open_at above d = above + length d.links

-- all that is asked of a buffer that unfolds into this tree
abbrev pub asked_of : Planned → Question → List ℕ → Tree → List Demand
asked_of p q b y = demands_of (wants_in p) q.checks b q.rows q.root y

-- What is spent, counted as in a report: tables that were opened, how many were open at once, and reads.

-- by the walk of a buffer that unfolds into this tree
abbrev pub spent_alone : Question → List ℕ → Tree → Report
spent_alone q b y = record { tables = size y; depth = depth y; reads = cost q b y }

-- so many reads more
abbrev pub and_reads : Report → ℕ → Report
and_reads spent n = record spent { reads = spent.reads + n }

-- and the walk of a buffer, above whose root so many tables are open
abbrev pub and_walk : Report → Question → List ℕ → (above : ℕ) → Tree → Report
and_walk spent q b above y = record { tables = spent.tables + size y; depth = max spent.depth (above + depth y); reads = spent.reads + cost q b y }

-- what is left then of a budget of reads, and of limits where so many tables are open
abbrev pub budget_left : Option ℕ → ℕ → Option ℕ
budget_left budget paid = option_map (λ most. most - paid) budget

abbrev pub limits_left : Bounds → ℕ → Bounds
limits_left L paid = record L { reads = budget_left L.reads paid }

abbrev pub limits_inside : Bounds → (above : ℕ) → (spent : Report) → Bounds
limits_inside L above spent = record { depth = L.depth - above; tables = L.tables - spent.tables; reads = budget_left L.reads spent.reads }

-- the question of a buffer inside, which is bare, by the rows, checks and limits of the whole
abbrev pub question_inside : Question → Inner → Question
question_inside q i = record q { root = i.root; start = Bare; ident = Any }

-- the same within what is left of the limits
abbrev pub walk_inside : Question → Inner → (above : ℕ) → (spent : Report) → Question
walk_inside q i above spent = record (question_inside q i) { limits = limits_inside q.limits above spent }

-- a demand is met by itself: its chain finds nothing, and its reads are allowed
pub record IsMet (L : Bounds) (spent : Report) (d : Demand) : Type 0 where
  pub chain : d.chain ≡ None
  pub allowed : AreAllowed L.reads (spent.reads + d.reads)

-- so far it is, and this buffer is inside
pub record IsEntered (L : Bounds) (spent : Report) (d : Demand) (i : Inner) : Type 0 where
  pub met : IsMet L spent d
  pub inner : d.inner ≡ Some i

-- which unfolds into this tree within what is left
pub record IsWalked (q : Question) (b : List ℕ) (i : Inner) (above : ℕ) (spent : Report) (y : Tree) : Type 0 where
  pub well_formed : IsWellFormed (question_inside q i) (bytes_inside b i) y
  pub within : IsWithin (walk_inside q i above spent) (bytes_inside b i) y

-- a no: the fault, and the links that lead to it
pub record Refused : Type 0 where
  pub fault : Fault
  pub links : List Link

-- a place of a buffer that begins there, in the one around it. It stops at what 64 bits hold, to which none comes
abbrev pub place_in : (begin at : ℕ) → ℕ
place_in begin at = max at (min (begin + at) 18446744073709551615)

-- that of a buffer inside, in the one around it: its links are behind those of the demand
abbrev pub outward : Demand → Inner → Refused → Refused
outward d i e = record { fault = record e.fault { at = place_in i.at (e.fault).at }; links = d.links ++ e.links }

-- after so many reads more
abbrev pub later : ℕ → Fault → Fault
later paid f = record f { reads = paid + f.reads }

-- How demands are asked, one after another: until none is left, or to one that isn't met by itself; past one that has
-- no buffer inside; to one whose buffer's walk stops; into one whose buffer, with this tree, has a demand that isn't
-- met; or through one whose buffer's demands are all met, to those behind it.
pub data Course : Type 0 where
  done : Course
  unmet : Course
  past : Course → Course
  stops : Course
  into : Tree → Course → Course
  through : Tree → (inside behind : Course) → Course

-- So asked, the demands of a buffer come to this: all are met, and so much is spent in the end, or a no. So many tables
-- are open above the buffer's root, and so much was spent before; the question's rows, checks and limits are those of
-- the whole.
unfoldable pub ComeTo : Course → Planned → Question → (above : ℕ) → List ℕ → (spent : Report) → List Demand → Result Report Refused → Type 0
ComeTo done p q above b spent [] end = end ≡ Ok spent
ComeTo done p q above b spent (d ∷ ds) end = ⊥
ComeTo unmet p q above b spent [] end = ⊥
ComeTo unmet p q above b spent (d ∷ ds) end =
    (f : Fault) × (demand_fault d spent.reads (d.chain ▷ reads_failure q.limits spent.reads d.reads d.at) ≡ Some f) × (end ≡ Err (record { fault = f; links = d.links }))
ComeTo (past c) p q above b spent [] end = ⊥
ComeTo (past c) p q above b spent (d ∷ ds) end = (d.inner ≡ None) × IsMet q.limits spent d × ComeTo c p q above b (and_reads spent d.reads) ds end
ComeTo stops p q above b spent [] end = ⊥
ComeTo stops p q above b spent (d ∷ ds) end =
    (i : Inner) × IsEntered q.limits spent d i
    × (f : Fault) × (links : List Link) × StopsAlong (walk_inside q i (open_at above d) (and_reads spent d.reads)) (bytes_inside b i) f links
    × (end ≡ Err (outward d i (record { fault = later (spent.reads + d.reads) f; links = links })))
ComeTo (into y c) p q above b spent [] end = ⊥
ComeTo (into y c) p q above b spent (d ∷ ds) end =
    (i : Inner) × IsEntered q.limits spent d i × IsWalked q b i (open_at above d) (and_reads spent d.reads) y
    × (e : Refused)
    × ComeTo c p q (open_at above d) (bytes_inside b i) (and_walk (and_reads spent d.reads) (question_inside q i) (bytes_inside b i) (open_at above d) y)
    (asked_of p (question_inside q i) (bytes_inside b i) y) (Err e)
    × (end ≡ Err (outward d i e))
ComeTo (through y c on) p q above b spent [] end = ⊥
ComeTo (through y c on) p q above b spent (d ∷ ds) end =
    (i : Inner) × IsEntered q.limits spent d i × IsWalked q b i (open_at above d) (and_reads spent d.reads) y
    × (mid : Report)
    × ComeTo c p q (open_at above d) (bytes_inside b i) (and_walk (and_reads spent d.reads) (question_inside q i) (bytes_inside b i) (open_at above d) y)
    (asked_of p (question_inside q i) (bytes_inside b i) y) (Ok mid)
    × ComeTo on p q above b mid ds end

-- those of a whole buffer, which is well formed with this tree, come to this
pub record EndsWith (p : Planned) (q : Question) (b : List ℕ) (end : Result Report Refused) : Type 0 where
  pub found : Tree
  pub well_formed : IsWellFormed q b found
  pub within : IsWithin q b found
  pub course : Course
  pub comes : ComeTo course p q 0 b (spent_alone q b found) (asked_of p q b found) end

-- whatever they come to, it is one
abbrev pub ComeToOneEnd : Type 0
ComeToOneEnd =
    (p : Planned) (q : Question) (above : ℕ) (b : List ℕ) (spent : Report) (ds : List Demand) (c e : Course) (x y : Result Report Refused)
    → ComeTo c p q above b spent ds x → ComeTo e p q above b spent ds y → x ≡ y

-- where no demand has a buffer inside, they come to the first that isn't met, as a pass over one buffer tells it
abbrev pub end_by : Report → (reads : ℕ) → List Link → Option Fault → Result Report Refused
end_by spent reads links None = Ok (and_reads spent reads)
end_by spent reads links (Some f) = Err (record { fault = f; links = links })

abbrev pub plain_end : Bounds → Report → List Demand → Result Report Refused
plain_end L spent ds = end_by spent (demands_reads ds) (first_links L spent.reads ds) (first_fault L spent.reads ds)

abbrev pub PlainLaw : Type 0
PlainLaw = (p : Planned) (q : Question) (above : ℕ) (b : List ℕ) (spent : Report) (ds : List Demand) → ArePlain ds → (c : Course) × ComeTo c p q above b spent ds (plain_end q.limits spent ds)

-- a buffer with those inside it is a good one: all that is asked of them is met, and so much is spent
abbrev pub IsGood : Planned → Question → List ℕ → Report → Type 0
IsGood p q b r = EndsWith p q b (Ok r)

-- or something isn't met, and this is the fault
abbrev pub IsBad : Planned → Question → List ℕ → Fault → Type 0
IsBad p q b f = (links : List Link) × EndsWith p q b (Err (record { fault = f; links = links }))

-- and so is each that is inside, by itself
abbrev pub GoodInside : Type 0
GoodInside =
    (p : Planned) (q : Question) (b : List ℕ) (r : Report) (y : Tree) (n : ℕ) (d : Demand) (i : Inner) → IsGood p q b r
    → IsWellFormed q b y → slice_get (asked_of p q b y) n ≡ Some d → d.inner ≡ Some i
    → (own : Report) × IsGood p (question_inside q i) (bytes_inside b i) own

-- and its tree is strict
abbrev pub GoodIsStrict : Type 0
GoodIsStrict = (p : Planned) (q : Question) (b : List ℕ) (r : Report) (y : Tree) → IsClosed (wants_in p) q.rows → IsGood p q b r → IsWellFormed q b y → IsStrictBuffer p.demands q.checks b q.rows y
