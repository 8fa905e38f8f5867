-- What a verdict says where a plan is given, and where none is.
use Rattle.std.specs.Prelude.{ℕ, List, Option, Some, None}
use Rattle.fb_rules.specs.{declared.fault.Fault.Fault, declared.fault.Report.Report, declared.link.Link.Link, Question.Question, Verdict.Reports, Verdict.HasNone, Stops.Stops}
use Rattle.fb_rules.specs.Links.{StopsAlong}
use Rattle.fb_strict.specs.{Planned.Planned, Strictly.ReportsStrictly, Strictly.HasNoneStrictly, Strictly.StopsStrictly, Strictly.StopsAlongStrictly}

-- a yes: a tree is well formed and within the limits, by a plan also strict, and the report counts it
abbrev pub ReportsBy : Option Planned → Question → List ℕ → Report → Type 0
ReportsBy None = Reports
ReportsBy (Some p) = ReportsStrictly p

-- a no: no such tree is
abbrev pub HasNoneBy : Option Planned → Question → List ℕ → Type 0
HasNoneBy None = HasNone
HasNoneBy (Some p) = HasNoneStrictly p

-- the fault that stops: the walk's first, or else by a plan the pass's
abbrev pub StopsBy : Option Planned → Question → List ℕ → Fault → Type 0
StopsBy None = Stops
StopsBy (Some p) = StopsStrictly p

-- and the links that lead to it
abbrev pub StopsAlongBy : Option Planned → Question → List ℕ → Fault → List Link → Type 0
StopsAlongBy None = StopsAlong
StopsAlongBy (Some p) = StopsAlongStrictly p
