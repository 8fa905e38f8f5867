-- What a framer holds, and what a piece of the stream does to it.
use Rattle.std.specs.Prelude.{◌≡◌, ℕ, ◌+◌, ◌<◌, ◌≤◌, ◌⊎◌, Bool, true, false, List, [], ◌∷◌, ◌++◌, length, take}
use Rattle.fb_bytes.specs.{Messages.declared, Messages.IsMessage, Messages.IsPartial, Messages.IsOversize, declared.cut.Cut.Cut, declared.stream_fault.StreamFault.StreamFault}
use Rattle.fb_bytes.specs.declared.stream_fault.StreamFault.TheVariants.{Oversize, Truncated, OutOfMemory, Failed}

-- how the stream is cut, the bytes that are held, and whether the framer has failed
pub record Framing : Type 0 where
  pub cut : Cut
  pub held : List ℕ
  pub failed : Bool

-- no byte, a part of one message, or a whole one
abbrev pub IsHeld : Cut → List ℕ → Type 0
IsHeld cut held = IsPartial cut held ⊎ IsMessage cut held

-- the framer goes on: it holds so many more bytes of the piece, and says whether they end a message
pub record Feeds (old new : Framing) (piece : List ℕ) (used : ℕ) (whole : Bool) : Type 0 where
  pub cut : new.cut ≡ old.cut
  pub fine : (old.failed ≡ false) × (new.failed ≡ false)
  pub within : used ≤ length piece
  pub held : new.held ≡ old.held ++ take used piece
  pub message : whole ≡ true → IsMessage new.cut new.held
  pub partial : whole ≡ false → IsPartial new.cut new.held × (used ≡ length piece)

-- the prefix tells too much: the framer has failed, and holds the four bytes of that prefix
pub record IsRefused (old new : Framing) (piece : List ℕ) (told : ℕ) : Type 0 where
  pub oversize : IsOversize old.cut (old.held ++ piece)
  pub number : told ≡ declared old.cut.order (old.held ++ piece)
  pub after : new ≡ record { cut = old.cut; held = take 4 (old.held ++ piece); failed = true }

-- memory is refused to a message within the limit: the framer has failed, and holds a part of what came
pub record IsStarved (old new : Framing) (piece : List ℕ) : Type 0 where
  pub unfinished : IsMessage old.cut old.held → ⊥
  pub prefixed : 4 ≤ length (old.held ++ piece)
  pub some : 0 < declared old.cut.order (old.held ++ piece)
  pub fits : 4 + declared old.cut.order (old.held ++ piece) ≤ old.cut.limit
  pub held : (n : ℕ) × (n ≤ length piece) × (new.held ≡ old.held ++ take n piece)
  pub part : IsPartial new.cut new.held
  pub cut : new.cut ≡ old.cut
  pub failed : new.failed ≡ true

-- what a piece does to a framer that fails at it
abbrev pub FeedFails : Framing → Framing → List ℕ → StreamFault → Type 0
FeedFails old new piece (Oversize number) = IsRefused old new piece number
FeedFails old new piece OutOfMemory = IsStarved old new piece
FeedFails old new piece (Truncated held) = ⊥
FeedFails old new piece Failed = ⊥

-- the bytes of a framer's fields: those of the prefix until the body has begun with them
abbrev pub held_bytes : List ℕ → ℕ → List ℕ → List ℕ
held_bytes prefix filled [] = take filled prefix
held_bytes prefix filled (x ∷ xs) = x ∷ xs

-- what the fields of a framer keep
pub record IsFramed (cut : Cut) (filled : ℕ) (prefix body : List ℕ) (failed : Bool) : Type 0 where
  pub low : 8 ≤ cut.limit
  pub high : cut.limit ≤ 2147483647
  pub part : filled ≤ 4
  pub four : length prefix ≡ 4
  pub within : failed ≡ false → filled ≡ 4 → 4 + declared cut.order prefix ≤ cut.limit
  pub full : 0 < length body → filled ≡ 4
  pub front : 0 < length body → take 4 body ≡ prefix
  pub fits : 0 < length body → length body ≤ 4 + declared cut.order prefix
  pub most : length (held_bytes prefix filled body) ≤ cut.limit
