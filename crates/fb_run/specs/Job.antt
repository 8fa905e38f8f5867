-- What the buffers of a run are checked by, and what a verdict on one of them says.
use Rattle.std.specs.Prelude.{◌≡◌, ℕ, ◌<◌, ◌≤◌, ◌^◌, All, IsTrue, Bool, true, false, List, [], drop, length, map, IfSome, Option, Some, None, Result, Ok, Err, option_map}
use Rattle.std.specs.{Borrow.Bor, List.AllZip, declared.alloc.AllocError.AllocError}
use Rattle.fb_bytes.specs.declared.cut.{Cut.Cut, Endian.Endian, Endian.TheVariants.Little}
use Rattle.fb_schema.specs.{Rows.Rows, Rows.is_table, declared.kinds.Kind.TheVariants.Table}
use Rattle.fb_rules.specs.{Bounds.Bounds, Bounds.limits_of_length, Question.Question, Question.question, declared.link.Link.Link, declared.fault.Fault.Fault}
use Rattle.fb_rules.specs.declared.{fault.Report.Report, start.Ident.Ident, start.Start.Start, start.Start.TheVariants.Bare, start.Start.TheVariants.Prefixed}
use Rattle.fb_strict.specs.{Planned.Planned, Planned.IsPlan, AsAsked.ReportsBy, AsAsked.StopsBy, AsAsked.StopsAlongBy}
use Rattle.fb_access.specs.{Denotes.Denotes, Denotes.Shown, Denotes.shown, Fitting.StepsFit, Location.location_text, Location.place_text}
use Rattle.fb_run.specs.{AnswerText.label_text, Wanted.Wanted, declared.checker.Checked.Checked, declared.checker.Course.Course, declared.checker.Found.Found}
use Rattle.fb_run.specs.declared.{checker.Wrong.Wrong, options.LineForm.LineForm, checker.Course.TheVariants.Brief, checker.Course.TheVariants.BriefStrictly}
use Rattle.fb_run.specs.declared.{checker.Course.TheVariants.AtLength, options.LineForm.TheVariants.Plain, options.LineForm.TheVariants.Json, options.Mode.Mode}
use Rattle.fb_run.specs.declared.options.{Mode.TheVariants.Csv, Places.Places, Places.TheVariants.Numbers, Places.TheVariants.Words, Prefix.Prefix, Prefix.TheVariants.Part}
use Rattle.fb_run.specs.declared.options.{Prefix.TheVariants.Apart, Rejects.Rejects, Options.Options, Terms.Terms}

-- a schema with its root, the identifier that is wanted, the values that are asked for, what is asked of every run alike,
-- whether bad messages are kept, the name of the input, where lines tell it, and the plan by which buffers are to be
-- strict, if they are
pub record Job : Type 0 where
  pub rows : Rows
  pub root : ℕ
  pub ident : Ident
  pub paths : List Wanted
  pub terms : Terms
  pub rejects : Rejects
  pub label : Option (List ℕ)
  pub plan : Option Planned

-- whether a buffer begins bare or with its size: by whether the input is one bare buffer, and what a prefix is
abbrev pub start_of : Bool → Prefix → Start
start_of false Part = Prefixed
start_of _ _ = Bare

-- how many bytes of a message stand before the buffer
abbrev pub skip_of : Bool → Prefix → ℕ
skip_of false (Apart order) = 4
skip_of _ _ = 0

-- in which order the bytes of a message's length stand: in the lengths of FlatBuffers the lowest is first
abbrev pub order_of : Prefix → Endian
order_of (Apart order) = order
order_of Part = Little

-- how the buffers of a job begin
abbrev pub start_in : Job → Start
start_in job = start_of job.terms.bare job.terms.prefix

-- how a stream is cut into messages
abbrev pub cut_of : Job → Cut
cut_of job = record { limit = job.terms.max_bytes; order = order_of job.terms.prefix }

-- what is checked of an input: all but the bytes at its beginning that are left out
abbrev pub checked_in : Job → List ℕ → List ℕ
checked_in job bytes = drop job.terms.skip bytes

-- the buffer in a message
abbrev pub buffer_in : Job → List ℕ → List ℕ
buffer_in job message = drop (skip_of job.terms.bare job.terms.prefix) message

-- the limits of a buffer, by its length
abbrev pub limits_for : Job → List ℕ → Bounds
limits_for job bytes = limits_of_length job.terms.limits job.terms.reads_per_byte (length bytes)

-- what is asked of a buffer
abbrev pub asked_of : Job → List ℕ → Question
asked_of job bytes = question job.rows job.root (start_in job) job.ident (limits_for job bytes) job.terms.checks

-- a yes: what was counted, and the values that were asked for
pub record Yes : Type 0 where
  pub report : Report
  pub answers : List Shown

-- a no: the fault, and where it is in words, if these were asked for
pub record No : Type 0 where
  pub fault : Fault
  pub place : Option (List ℕ)

-- a yes or a no
abbrev pub Verdict : Type 0
Verdict = Result Yes No

-- each value is the one to which the path in its place leads in these bytes, and there are no others
abbrev pub AreAnswers : List ℕ → Rows → Start → ℕ → List Wanted → List Shown → Type 0
AreAnswers bytes rows start root = AllZip (λ (wanted : Wanted) value. Denotes bytes rows start root wanted.steps value)

-- the place of a fault in words: in a line of JSON, which tells the names of its object and field itself, its path alone
abbrev pub place_told : LineForm → Rows → Fault → List Link → List ℕ
place_told Plain rows fault links = location_text rows fault links
place_told Json rows fault links = place_text rows links

-- where words are asked for, they tell the place to which links lead, the links of the trail at whose end the fault is;
-- where none are, there are none
abbrev pub IsPlace : Job → List ℕ → Fault → Option (List ℕ) → Type 0
IsPlace job bytes fault None = job.terms.names ≡ Numbers
IsPlace job bytes fault (Some text) =
    (job.terms.names ≡ Words) × (links : List Link) × StopsAlongBy job.plan (asked_of job bytes) bytes fault links × (text ≡ place_told job.terms.form job.rows fault links)

-- what a verdict on these bytes says: a yes counts a tree that is well formed and within the limits, and strict where
-- there is a plan, and has the values that are asked for; a no is the one fault that stops, with its place
abbrev pub IsVerdict : Job → List ℕ → Verdict → Type 0
IsVerdict job bytes (Ok found) = ReportsBy job.plan (asked_of job bytes) bytes found.report × AreAnswers bytes job.rows (start_in job) job.root job.paths found.answers
IsVerdict job bytes (Err bad) = StopsBy job.plan (asked_of job bytes) bytes bad.fault × IsPlace job bytes bad.fault bad.place

-- a verdict without where the bytes of its values or place lie in memory
abbrev pub verdict_of : Result Found Wrong → Verdict
verdict_of (Ok found) = Ok (record { report = found.report; answers = map shown found.answers })
verdict_of (Err wrong) = Err (record { fault = wrong.fault; place = option_map (λ (text : Bor (List ℕ)). text.now) wrong.place })

-- the words of a place, where they are asked for
abbrev pub place_beside : Places → List ℕ → Option (List ℕ)
place_beside Numbers text = None
place_beside Words text = Some text

-- a verdict, where these are the words of a fault's place
abbrev pub verdict_beside : Job → List ℕ → Result Found Fault → Verdict
verdict_beside job text (Ok found) = Ok (record { report = found.report; answers = map shown found.answers })
verdict_beside job text (Err fault) = Err (record { fault = fault; place = place_beside job.terms.names text })

-- whether no more is asked of a buffer than what was counted, or its fault by numbers: neither a value, nor words, nor a
-- name, nor JSON, nor rows
abbrev pub asks_little : List Wanted → Places → Option (List ℕ) → LineForm → Mode → Bool
asks_little [] Numbers None Plain Csv = false
asks_little [] Numbers None Plain mode = true
asks_little _ _ _ _ _ = false

abbrev pub is_brief : Job → Bool
is_brief job = asks_little job.paths job.terms.names job.label job.terms.form job.terms.mode

-- by which course a message is checked: where no more is asked by one without a plan or by one with it
abbrev pub course_by : Bool → Option Planned → Course
course_by true None = Brief
course_by true (Some p) = BriefStrictly
course_by false plan = AtLength

abbrev pub course_of : Job → Course
course_of job = course_by (is_brief job) job.plan

-- a verdict where no more is asked
abbrev pub brief_verdict : Result Report Fault → Verdict
brief_verdict (Ok report) = Ok (record { report = report; answers = [] })
brief_verdict (Err fault) = Err (record { fault = fault; place = None })

-- a buffer that is well formed by a job, and strict where there is a plan
pub record IsChecked (job : Job) (bytes : List ℕ) (checked : Checked) : Type 0 where
  pub reports : ReportsBy job.plan (asked_of job bytes) bytes checked.report
  pub kept : checked.verified ≡ record { bytes = bytes; schema = job.rows; root = job.root; start = start_in job; checks = job.terms.checks; report = checked.verified.report }

-- the same, or its fault with these words
abbrev pub IsVerified : Job → List ℕ → List ℕ → Result Checked Fault → Type 0
IsVerified job bytes text (Ok checked) = IsChecked job bytes checked
IsVerified job bytes text (Err fault) = IsVerdict job bytes (Err (record { fault = fault; place = place_beside job.terms.names text }))

-- the same, or there was no memory for these words, which were asked for
abbrev pub VerifiesBy : Job → List ℕ → List ℕ → Result (Result Checked Fault) AllocError → Type 0
VerifiesBy job bytes text (Ok verified) = IsVerified job bytes text verified
VerifiesBy job bytes text (Err refused) = ((verdict : Verdict) × IsVerdict job bytes verdict) × (job.terms.names ≡ Words)

-- what the options of a run ask of each buffer
abbrev pub job_of : Rows → Options → Job
job_of rows options = record {
  rows = rows;
  root = options.root;
  ident = options.ident;
  paths = options.paths.items;
  terms = options.terms;
  rejects = options.rejects;
  label = option_map (λ name. name.items) options.label;
  plan = options.plan;
}

-- the steps of each path fit from this table on
abbrev pub PathsFit : Rows → ℕ → List Wanted → Type 0
PathsFit rows root = All (λ (wanted : Wanted). StepsFit rows (Table root) wanted.steps)

-- the terms' numbers are in their ranges: a framer may have the limit, and a message may be told
pub record AreRanged (terms : Terms) : Type 0 where
  pub least : 8 ≤ terms.max_bytes
  pub most : terms.max_bytes < 2 ^ 31
  pub some_messages : 1 ≤ terms.most_messages
  pub some_bad : 1 ≤ terms.most_bad

-- the options serve the schema: the root is a table of it, at most 16 paths fit from there, the terms are in their
-- ranges, and a plan is that of this schema
pub record Serves (rows : Rows) (options : Options) : Type 0 where
  pub table : IsTrue (is_table rows options.root)
  pub fits : PathsFit rows options.root options.paths.items
  pub few : length options.paths.items ≤ 16
  pub terms : AreRanged options.terms
  pub planned : IfSome options.plan (λ p. IsPlan rows p.demands p)

-- what a checker needs beside a buffer: so many levels for open tables, so many for those of a pass, so many links, the
-- words of the last place, and what lines begin with
pub record Beside : Type 0 where
  pub levels : ℕ
  pub pass : ℕ
  pub links : ℕ
  pub text : List ℕ
  pub label : List ℕ

-- the levels suffice for a job, where it has a plan those of a pass do, where it asks for words the links do, and lines
-- begin with the name that it gives
pub record HasRoom (job : Job) (room : Beside) : Type 0 where
  pub deep : job.terms.limits.depth ≤ room.levels
  pub strict : IfSome job.plan (λ _. job.terms.limits.depth ≤ room.pass)
  pub long : job.terms.names ≡ Words → job.terms.limits.depth ≤ room.links
  pub label_is : room.label ≡ label_text job.label
