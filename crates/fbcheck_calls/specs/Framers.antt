-- What a framer of a caller in C holds, and what its calls do.
use Rattle.std.specs.Prelude.{◌≡◌, ℕ, ◌+◌, ◌-◌, ◌<◌, ◌≤◌, ◌==◌, ◌⊎◌, min, not, true, false, List, [], ◌++◌, length, take, Result, Ok, Err, if◌then◌else◌}
use Rattle.fb_bytes.specs.{Messages.IsMessage, Messages.little, Framing.Framing, Framing.IsHeld, Framing.Feeds, Framing.IsRefused, declared.framer.Taken.Taken}
use Rattle.fb_bytes.specs.declared.stream_fault.StreamFault.{StreamFault, TheVariants.Oversize, TheVariants.Truncated, TheVariants.Failed}
use Rattle.fbcheck_calls.specs.{Told.number, Told.told, declared.outcome.Outcome.Outcome}
use Rattle.fbcheck_calls.specs.declared.{outcome.Outcome.TheVariants.Done, outcome.Outcome.TheVariants.OutOfRange, outcome.Outcome.TheVariants.BadStream, framer.Framer.Framer}
use Rattle.fbcheck_calls.specs.declared.status.Status.TheVariants as status

-- a message may have so much room
abbrev pub IsRoom : ℕ → Type 0
IsRoom size = (8 ≤ size) × (size ≤ 2147483647)

-- what is held at the front of the room: the limit is all of the room, and lengths are little-endian
abbrev pub framing : List ℕ → Framer → Framing
framing room f = record { cut = little (length room); held = take f.held room; failed = not (f.failed == 0) }

-- what C keeps is as the calls left it: the room has what is held, and this is a message or the part of one
pub record IsKept (room : List ℕ) (f : Framer) : Type 0 where
  pub within : f.held ≤ length room
  pub held : f.failed ≡ 0 → IsHeld (little (length room)) (take f.held room)

-- so many bytes of a piece stand behind the first h of the room, until these are the goal, as far as the piece goes
pub record IsFilled (room room' piece : List ℕ) (h goal count : ℕ) : Type 0 where
  pub same : length room' ≡ length room
  pub count_is : count ≡ min (goal - h) (length piece)
  pub bytes : take (h + count) room' ≡ take h room ++ take count piece

-- what a piece does to a framer that answers a fault
abbrev pub FedFails : Framing → Framing → List ℕ → StreamFault → Type 0
FedFails old new piece (Oversize number) = (old.failed ≡ false) × IsRefused old new piece number
FedFails old new piece Failed = (old.failed ≡ true) × (new ≡ old)
FedFails old new piece _ = ⊥

-- the number that is declared: that of the prefix by which a framer fails, else what it was
abbrev pub KeepsNumber : Framer → Framer → Result Taken Outcome → Type 0
KeepsNumber f f' (Err (BadStream (Oversize number))) = f'.declared ≡ number
KeepsNumber f f' _ = f'.declared ≡ f.declared

-- what a piece does to a framer: it goes on, or fails, as the framer that takes memory does
abbrev pub IsFed : List ℕ → Framer → List ℕ → List ℕ → Framer → Result Taken Outcome → Type 0
IsFed room f piece room' f' (Ok t) = IsRoom (length room) × (IsKept room f → Feeds (framing room f) (framing room' f') piece t.used t.whole)
IsFed room f piece room' f' (Err OutOfRange) = (IsRoom (length room) → ⊥) × (room' ≡ room) × (f' ≡ f)
IsFed room f piece room' f' (Err (BadStream fault)) = IsRoom (length room) × (IsKept room f → FedFails (framing room f) (framing room' f') piece fault)
IsFed room f piece room' f' (Err _) = ⊥

-- a framer goes on, and a whole message is held
abbrev pub IsWhole : Framing → Type 0
IsWhole v = (v.failed ≡ false) × IsMessage v.cut v.held

-- a whole message is given up; where none is held, nothing changes
pub record Passes (old new : Framing) : Type 0 where
  pub whole : IsWhole old → new ≡ record old { held = [] }
  pub other : (IsWhole old → ⊥) → new ≡ old

abbrev pub IsNext : List ℕ → Framer → Framer → Outcome → Type 0
IsNext room f f' Done = IsRoom (length room) × (IsKept room f → Passes (framing room f) (framing room f'))
IsNext room f f' OutOfRange = (IsRoom (length room) → ⊥) × (f' ≡ f)
IsNext room f f' _ = ⊥

-- the stream ended between two messages
pub record Ends (old new : Framing) : Type 0 where
  pub fine : old.failed ≡ false
  pub same : new ≡ old
  pub held : (old.held ≡ []) ⊎ IsMessage old.cut old.held

-- it ended inside one
pub record BreaksOff (old new : Framing) (held : ℕ) : Type 0 where
  pub fine : old.failed ≡ false
  pub after : new ≡ record old { failed = true }
  pub some : 0 < length old.held
  pub part : IsMessage old.cut old.held → ⊥
  pub count : held ≡ length old.held

-- what the end of the stream does to a framer that answers a fault
abbrev pub EndFails : Framing → Framing → StreamFault → Type 0
EndFails old new (Truncated held) = BreaksOff old new held
EndFails old new Failed = (old.failed ≡ true) × (new ≡ old)
EndFails old new _ = ⊥

abbrev pub IsFinished : List ℕ → Framer → Framer → Outcome → Type 0
IsFinished room f f' Done = IsRoom (length room) × (IsKept room f → Ends (framing room f) (framing room f'))
IsFinished room f f' OutOfRange = (IsRoom (length room) → ⊥) × (f' ≡ f)
IsFinished room f f' (BadStream fault) = IsRoom (length room) × (IsKept room f → EndFails (framing room f) (framing room f') fault)
IsFinished room f f' _ = ⊥

-- the number of what a piece did: of a whole message, of one that goes on, or of a fault
abbrev pub fed_status : Result Taken Outcome → ℕ
fed_status (Ok t) = number (if t.whole then status.Done else status.More)
fed_status (Err a) = (told a).status

-- how many bytes were taken, or what stood there where none were
abbrev pub used_or : Result Taken Outcome → ℕ → ℕ
used_or (Ok t) n = t.used
used_or (Err a) n = n

-- that in numbers, with what stood before and stands then where they are written
pub record IsFedTold (room : List ℕ) (f : Framer) (piece room' : List ℕ) (f' : Framer) (used used' status : ℕ) : Type 0 where
  pub answer : Result Taken Outcome
  pub fed : IsFed room f piece room' f' answer
  pub number : KeepsNumber f f' answer
  pub used_is : used' ≡ used_or answer used
  pub status_is : status ≡ fed_status answer
