-- The law of a strict job.
use Rattle.std.specs.Prelude.{ℕ, ◌≤◌, List, None, Ok}
use Rattle.fb_rules.specs.declared.fault.Report.{Report}
use Rattle.fb_run.specs.Job.{IsVerdict, Job, Yes}

-- the same job without a plan
abbrev pub leniently : Job → Job
leniently job = record job { plan = None }

-- a strict ok is an ok: with the same values, of no more tables and depth, in no more reads
abbrev pub StrictIsOk : Type 0
StrictIsOk = (job : Job) (bytes : List ℕ) (found : Yes) → IsVerdict job bytes (Ok found)
    → (walked : Report) × IsVerdict (leniently job) bytes (Ok (record { report = walked; answers = found.answers }))
    × (walked.tables ≤ found.report.tables) × (walked.depth ≤ found.report.depth) × (walked.reads ≤ found.report.reads)
