-- What is told of many messages, and what gathers and writes it.
use Rattle.std.specs.Prelude.{◌≡◌, ℕ, ◌+◌, ◌<◌, List, [], ◌∷◌, ◌++◌, Option, length, take}
use Rattle.std.specs.Io.KnownBytes.{Appends, Keeps}
use Rattle.fb_run.specs.{Job.Job, Job.Verdict, Ends.Outs, Line.IsTold, Spot.Before, Spot.IsDue, Spot.past, Sums.no_tally, Sums.tally_with, Texts.IsCounted, Texts.Sizes}
use Rattle.fb_run.specs.{Texts.Texts, Texts.followed, Texts.silent, declared.tally.Tally.Tally, declared.fault.RunFault.RunFault, declared.fault.RunFault.TheVariants.WriteFault}
use Rattle.fb_run.specs.declared.fault.RunFault.TheVariants.{NoteFault, RejectFault}

-- the text is what is told of each message, the first of them behind so much and each where another is told, and the
-- messages come to this by their verdicts
abbrev pub AreTold : Job → Before → List (List ℕ) → Texts → Tally → Type 0
AreTold job before [] text tally = (text ≡ silent) × (tally ≡ no_tally)
AreTold job before (message ∷ messages) text tally =
    (verdict : Verdict) × (line : Texts) × (rest : Texts) × (others : Tally)
    × IsDue job before × IsTold job before message verdict line × (text ≡ followed line rest) × AreTold job (past before message verdict) messages rest others
    × (tally ≡ tally_with message verdict others)

-- a write came to rest within this text: its first bytes are written, with which so many were in all
pub record WritesFront (text : List ℕ) (sink sink' : Option (List ℕ)) (before written : ℕ) : Type 0 where
  pub taken : ℕ
  pub within : taken < length text
  pub wrote : Appends sink sink' (take taken text)
  pub written_is : IsCounted (before + taken) written

-- this text came behind what waited: a front of both is written, with which so many bytes were in all, and the rest
-- waits
pub record ComesBehind (waits text waits' : List ℕ) (sink sink' : Option (List ℕ)) (before written : ℕ) : Type 0 where
  pub front : List ℕ
  pub whole : waits ++ text ≡ front ++ waits'
  pub wrote : Appends sink sink' front
  pub written_is : IsCounted (before + length front) written

-- of this text a front was written
abbrev pub TakesFront : List ℕ → Option (List ℕ) → Option (List ℕ) → Type 0
TakesFront text sink sink' = (taken : ℕ) × Appends sink sink' (take taken text)

-- a write came to rest within these texts: within that for the writer, with nothing noted; or behind it within the
-- notes; or behind both within the rejects, of which before a front alone was written
abbrev pub WritesFronts : Texts → Outs → Outs → Sizes → RunFault → Type 0
WritesFronts text outs outs' before (WriteFault written) =
    WritesFront text.out outs.writer.bytes outs'.writer.bytes before.out written × Keeps outs.notes.bytes outs'.notes.bytes
    × TakesFront text.rejects outs.rejects.bytes outs'.rejects.bytes
WritesFronts text outs outs' before (NoteFault written) =
    Appends outs.writer.bytes outs'.writer.bytes text.out × WritesFront text.notes outs.notes.bytes outs'.notes.bytes before.notes written
    × TakesFront text.rejects outs.rejects.bytes outs'.rejects.bytes
WritesFronts text outs outs' before (RejectFault written) =
    Appends outs.writer.bytes outs'.writer.bytes text.out × Appends outs.notes.bytes outs'.notes.bytes text.notes
    × WritesFront text.rejects outs.rejects.bytes outs'.rejects.bytes before.rejects written
WritesFronts text outs outs' before _ = ⊥
