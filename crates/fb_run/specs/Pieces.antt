-- What each step of a run over a stream answers.
use Rattle.std.specs.Prelude.{◌≡◌, ℕ, ◌+◌, ◌<◌, ◌≤◌, ◌^◌, ◌⊎◌, false, List, [], ◌++◌, Result, Ok, Err, length, take}
use Rattle.fb_bytes.specs.{Framing.Framing, Messages.declared, Messages.IsOversize, Messages.IsPartial, Messages.Splits}
use Rattle.fb_bytes.specs.declared.ends.Sink as sink
use Rattle.fb_bytes.specs.declared.stream_fault.StreamFault.TheVariants as stream
use Rattle.fb_run.specs.{AllTold.AreTold, Ends.Outs, Job.Beside, Job.HasRoom, Job.Job, Job.cut_of, Puts.AreCut, Puts.AreOpen, Puts.AreSound, Puts.IsUnused, Puts.PutsTold}
use Rattle.fb_run.specs.{Puts.Queues, Puts.all_unused, Puts.queues_of, Spot.IsFull, Spot.at_first, Spot.past_all, Stream.TellsMore, Sums.count_of, Sums.no_tally, Texts.Texts}
use Rattle.fb_run.specs.declared.{fault.RunFault.RunFault, stream.Carried.Carried, tally.Tally.Tally, fault.RunFault.TheVariants.Stream, fault.RunFault.TheVariants.OutOfMemory}

-- what a run carries: what was counted, its framer and its room, and what was put for the writer, the notes and the rejects
pub record Carry : Type 0 where
  pub tally : Tally
  pub framer : Framing
  pub room : Beside
  pub queues : Queues

abbrev pub carry_of : {A K N R : Type 0} → sink.Ghosts K → sink.Ghosts N → sink.Ghosts R → Carried A → K → N → R → Carry
carry_of k n r carried writer notes rejects = record {
  tally = carried.output.counter;
  framer = carried.framer;
  room = carried.room;
  queues = queues_of k n r carried.output writer notes rejects;
}

-- nothing was told, and nothing is held
abbrev pub IsFirst : {A : Type 0} → Carried A → Type 0
IsFirst carried = IsUnused carried.output × (carried.output.counter ≡ no_tally) × (carried.framer.held ≡ [])

-- the framer is fit to go on with a job, and there is room for it
pub record IsReady (job : Job) (framer : Framing) (room : Beside) : Type 0 where
  pub fits : HasRoom job room
  pub fine : framer.failed ≡ false
  pub cut : framer.cut ≡ cut_of job
  pub short : framer.cut.limit < 2 ^ 31
  pub part : IsPartial framer.cut framer.held

-- these bytes are whole messages and what is held, and what is told of those was put behind these ends
pub record Stands (job : Job) (first : Outs) (bytes : List ℕ) (now : Carry) : Type 0 where
  pub messages : List (List ℕ)
  pub text : Texts
  pub splits : Splits (cut_of job) bytes messages now.framer.held
  pub told : AreTold job (at_first job) messages text now.tally
  pub puts : PutsTold text (all_unused first) now.queues

-- what is told of the first messages of these bytes was put behind these ends
pub record Gathers (job : Job) (first : Outs) (bytes : List ℕ) (tally : Tally) (queues : Queues) : Type 0 where
  pub done : List (List ℕ)
  pub left : List (List ℕ)
  pub rest : List ℕ
  pub text : Texts
  pub splits : Splits (cut_of job) bytes (done ++ left) rest
  pub told : AreTold job (at_first job) done text tally
  pub puts : PutsTold text (all_unused first) queues

-- why a run came to rest in them, where no write failed
abbrev pub Why : Job → Tally → List (List ℕ) → List ℕ → RunFault → Type 0
Why job tally left rest (Stream (stream.Oversize number)) = TellsMore job tally × (left ≡ []) × IsOversize (cut_of job) rest × (number ≡ declared (cut_of job).order rest)
Why job tally left rest OutOfMemory = Unit {0}
Why job tally left rest fault = ⊥

abbrev pub Halts : Job → Outs → List ℕ → Tally → Queues → RunFault → Type 0
Halts job first bytes tally queues fault =
    (gathers : Gathers job first bytes tally queues) × (AreCut queues fault ⊎ (AreOpen queues × Why job tally gathers.left gathers.rest fault))

-- whatever was read before, with this piece more it stands so, or comes to rest
abbrev pub Onward : Job → Carry → List ℕ → Carry → Type 0
Onward job before piece after = (first : Outs) (bytes : List ℕ) → Stands job first bytes before → Stands job first (bytes ++ piece) after

abbrev pub Stops : Job → Carry → List ℕ → Carry → RunFault → Type 0
Stops job before piece after fault = (first : Outs) (bytes : List ℕ) → Stands job first bytes before → Halts job first (bytes ++ piece) after.tally after.queues fault

-- bytes were passed, and the run can go on
pub record GoesOn (job : Job) (bytes : List ℕ) (before after : Carry) : Type 0 where
  pub onward : Onward job before bytes after
  pub ready : IsReady job after.framer after.room
  pub unfailed : AreOpen after.queues
  pub few : count_of after.tally ≤ count_of before.tally + length bytes

-- one message more was told at most
pub record TellsOne (before after : Tally) : Type 0 where
  pub messages : count_of after ≤ count_of before + 1
  pub bad : after.no ≤ before.no + 1

-- so many bytes from the front of a piece were passed
pub record Passes (job : Job) (piece : List ℕ) (used : ℕ) (before after : Carry) : Type 0 where
  pub within : used ≤ length piece
  pub some : 0 < used
  pub goes_on : GoesOn job (take used piece) before after
  pub one : TellsOne before.tally after.tally

abbrev pub PassesBy : Job → List ℕ → Carry → Carry → Result ℕ RunFault → Type 0
PassesBy job piece before after (Ok used) = Passes job piece used before after
PassesBy job piece before after (Err fault) = Stops job before piece after fault × AreSound after.queues

-- all of it was, or the messages at its front up to a bound of the job
pub record PassesFront (job : Job) (piece : List ℕ) (before after : Carry) : Type 0 where
  pub front : List ℕ
  pub left : List ℕ
  pub whole : piece ≡ front ++ left
  pub goes_on : GoesOn job front before after
  pub stopped : IsFull job (past_all job after.tally) ⊎ (left ≡ [])

abbrev pub PassesAllBy : Job → List ℕ → Carry → Carry → Result (Unit {0}) RunFault → Type 0
PassesAllBy job piece before after (Ok done) = PassesFront job piece before after
PassesAllBy job piece before after (Err fault) = Stops job before piece after fault × AreSound after.queues

-- nothing waits
abbrev pub AreEmpty : Queues → Type 0
AreEmpty queues = (queues.out.waits ≡ []) × (queues.notes.waits ≡ []) × (queues.rejects.waits ≡ [])

-- a write failed as the fault says, or all that was put is written
abbrev pub AreSettled : Queues → RunFault → Type 0
AreSettled queues fault = AreCut queues fault ⊎ AreEmpty queues

-- the same, and what is told in it is written
abbrev pub WritesBy : Job → List ℕ → Carry → Carry → Result (Unit {0}) RunFault → Type 0
WritesBy job piece before after (Ok done) = PassesFront job piece before after × AreEmpty after.queues
WritesBy job piece before after (Err fault) = Stops job before piece after fault × AreSettled after.queues fault
