-- What a strict verdict says of a buffer.
use Rattle.std.specs.Prelude.{◌⊎◌, ℕ, ◌+◌, List, Err}
use Rattle.fb_rules.specs.{declared.fault.Fault.Fault, declared.fault.Report.Report, Question.Question, Tree.Tree, WellFormed.cost, Stops.Stops, declared.link.Link.Link}
use Rattle.fb_rules.specs.Links.{StopsAlong}
use Rattle.fb_strict.specs.{Planned.Planned, Planned.wants_in, Nested.IsGood, Nested.IsBad, Nested.EndsWith, Asked.demands_of, Asked.demands_reads}

-- all reads of a buffer that unfolds into this tree: those of the walk, and those of the pass by this plan
abbrev pub strict_cost : Planned → Question → List ℕ → Tree → ℕ
strict_cost p q b y = cost q b y + demands_reads (demands_of (wants_in p) q.checks b q.rows q.root y)

-- a tree is well formed and within the limits, all that is asked of it and of the buffers inside is met, and the report
-- counts them together
abbrev pub ReportsStrictly : Planned → Question → List ℕ → Report → Type 0
ReportsStrictly p q b r = IsGood p q b r

-- nothing can be reported
abbrev pub HasNoneStrictly : Planned → Question → List ℕ → Type 0
HasNoneStrictly p q b = (r : Report) → ReportsStrictly p q b r → ⊥

-- the walk's first fault, or else the first of what isn't met, inside too
abbrev pub StopsStrictly : Planned → Question → List ℕ → Fault → Type 0
StopsStrictly p q b f = Stops q b f ⊎ IsBad p q b f

-- the same, with the links that lead there
abbrev pub StopsAlongStrictly : Planned → Question → List ℕ → Fault → List Link → Type 0
StopsAlongStrictly p q b f links = StopsAlong q b f links ⊎ EndsWith p q b (Err (record { fault = f; links = links }))
