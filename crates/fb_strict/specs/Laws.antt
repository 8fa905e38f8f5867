-- The laws of strict verdicts.
use Rattle.std.specs.Prelude.{◌≡◌, ℕ, ◌≤◌, true, List, length, Result, Ok, Err}
use Rattle.fb_rules.specs.{declared.fault.Fault.Fault, declared.fault.Report.Report, Question.Question, Places.target, Tree.Tree, Unfolds.Unfolds, WellFormed.base, Verdict.Reports}
use Rattle.fb_strict.specs.{Planned.Planned, Planned.IsPlan, MostReads.most_reads_strictly, Readers.ValuesLeadInside, Readers.ElementsLeadInside, Readers.TextsAreUtf8}
use Rattle.fb_strict.specs.{Readers.HasNoUnknownFields, Readers.HeldAreGood, Readers.HasNoFlexbuffers, Strictly.ReportsStrictly, Strictly.StopsStrictly}

-- the walk alone reports no more tables, depth and reads: those of buffers inside count with it
pub record IsOk (q : Question) (b : List ℕ) (r : Report) : Type 0 where
  pub walked : Report
  pub reports : Reports q b walked
  pub tables : walked.tables ≤ r.tables
  pub depth : walked.depth ≤ r.depth
  pub reads : walked.reads ≤ r.reads

-- a strict ok is an ok
abbrev pub StrictIsOk : Type 0
StrictIsOk = (p : Planned) (q : Question) (b : List ℕ) (r : Report) → ReportsStrictly p q b r → IsOk q b r

-- where unions are asked, the tree into which the buffer unfolds then is one whose unions lead inside
abbrev pub UnionsLeadInside : Type 0
UnionsLeadInside =
    (p : Planned) (q : Question) (b : List ℕ) (r : Report) (y : Tree) → IsPlan q.rows p.demands p → p.demands.unions ≡ true
    → ReportsStrictly p q b r → Unfolds y q.checks b q.rows q.root (target b (base q.start))
    → ValuesLeadInside y b q.rows × ElementsLeadInside y b q.rows

-- where texts are asked, each text of that tree is UTF-8
abbrev pub AllTextsAreUtf8 : Type 0
AllTextsAreUtf8 =
    (p : Planned) (q : Question) (b : List ℕ) (r : Report) (y : Tree) → IsPlan q.rows p.demands p → p.demands.utf8 ≡ true → ReportsStrictly p q b r
    → Unfolds y q.checks b q.rows q.root (target b (base q.start)) → TextsAreUtf8 y b q.rows

-- where slots are asked, no table of that tree has a slot of no live field
abbrev pub NoFieldIsUnknown : Type 0
NoFieldIsUnknown =
    (p : Planned) (q : Question) (b : List ℕ) (r : Report) (y : Tree) → IsPlan q.rows p.demands p → p.demands.known_fields ≡ true → ReportsStrictly p q b r
    → Unfolds y q.checks b q.rows q.root (target b (base q.start)) → HasNoUnknownFields y b q.rows

-- each buffer that a field of that tree holds is good by itself, and no field that holds a flexbuffer is there
abbrev pub HeldBuffersAreGood : Type 0
HeldBuffersAreGood =
    (p : Planned) (q : Question) (b : List ℕ) (r : Report) (y : Tree) → IsPlan q.rows p.demands p → ReportsStrictly p q b r
    → Unfolds y q.checks b q.rows q.root (target b (base q.start)) → HeldAreGood p q b y × HasNoFlexbuffers p.demands y b q.rows

-- an answer applies: a report that counts a strict tree, or the fault that is the first
abbrev pub AppliesStrictly : Planned → Question → List ℕ → Result Report Fault → Type 0
AppliesStrictly p q b (Ok r) = ReportsStrictly p q b r
AppliesStrictly p q b (Err f) = StopsStrictly p q b f

-- at most one applies to a question
abbrev pub HasOneStrictVerdict : Type 0
HasOneStrictVerdict = (p : Planned) (q : Question) (b : List ℕ) (x y : Result Report Fault) → AppliesStrictly p q b x → AppliesStrictly p q b y → x ≡ y

-- what is reported costs at most that many reads
abbrev pub StrictCostIsBounded : Type 0
StrictCostIsBounded = (p : Planned) (q : Question) (b : List ℕ) (r : Report) → ReportsStrictly p q b r → r.reads ≤ most_reads_strictly q.rows q.limits (length b)

-- so does a fault
abbrev pub StrictReadsAreBounded : Type 0
StrictReadsAreBounded = (p : Planned) (q : Question) (b : List ℕ) (f : Fault) → StopsStrictly p q b f → f.reads ≤ most_reads_strictly q.rows q.limits (length b)
