-- Where messages stand in their input.
use Rattle.std.specs.Prelude.{ℕ, ◌+◌, ◌-◌, ◌<◌, ◌≤◌, ◌^◌, ◌⊎◌, List, Ok, Err, length}
use Rattle.fb_run.specs.{Job.Job, Job.Verdict, Sums.count_of, declared.spot.Spot.Spot, declared.tally.Tally.Tally}

-- how many messages stand before a message, how many of them were bad, and how many bytes
pub record Before : Type 0 where
  pub messages : ℕ
  pub bad : ℕ
  pub bytes : ℕ

-- before the first stand the bytes that are left out
abbrev pub at_first : Job → Before
at_first job = record { messages = 0; bad = 0; bytes = job.terms.skip }

-- what stands before the next, behind this message
abbrev pub past : Before → List ℕ → Verdict → Before
past before message (Ok found) = record { messages = before.messages + 1; bad = before.bad; bytes = before.bytes + length message }
past before message (Err bad) = record { messages = before.messages + 1; bad = before.bad + 1; bytes = before.bytes + length message }

-- the same behind all messages that came to this
abbrev pub past_all : Job → Tally → Before
past_all job tally = record { messages = count_of tally; bad = tally.no; bytes = job.terms.skip + tally.bytes }

-- behind so much another message is told
pub record IsDue (job : Job) (before : Before) : Type 0 where
  pub messages : before.messages < job.terms.most_messages
  pub bad : before.bad < job.terms.most_bad

-- behind so much none is
abbrev pub IsFull : Job → Before → Type 0
IsFull job before = (job.terms.most_messages ≤ before.messages) ⊎ (job.terms.most_bad ≤ before.bad)

-- behind so much as many more are told, whatever their verdicts
pub record HasDue (job : Job) (before : Before) (more : ℕ) : Type 0 where
  pub messages : more ≤ job.terms.most_messages - before.messages
  pub bad : more ≤ job.terms.most_bad - before.bad

-- where this message stands
abbrev pub spot_of : Before → List ℕ → Spot
spot_of before message = record { number = 1 + before.messages; begin = before.bytes; bytes = length message }

-- each of its numbers has at most 64 bits
pub record IsShort (spot : Spot) : Type 0 where
  pub number : spot.number < 2 ^ 64
  pub begin : spot.begin < 2 ^ 64
  pub bytes : spot.bytes < 2 ^ 64
