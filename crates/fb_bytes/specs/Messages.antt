-- A stream of messages, each with its length in front.
use Rattle.std.specs.Prelude.{◌≡◌, ℕ, ◌+◌, ◌<◌, ◌≤◌, ◌⊎◌, List, ◌++◌, length, All}
use Rattle.std.specs.{Int.from_be_bytes, Int.w32, List.concat}
use Rattle.fb_bytes.specs.{Word.word, declared.cut.Cut.Cut, declared.cut.Endian.Endian, declared.cut.Endian.TheVariants.Little, declared.cut.Endian.TheVariants.Big}

-- the number in the first four bytes, the highest byte first
unfoldable pub big_word : List ℕ → ℕ
big_word bytes = from_be_bytes w32 bytes

-- the number in the four bytes of the prefix, which counts the bytes after it
abbrev pub declared : Endian → List ℕ → ℕ
declared Little bytes = word bytes 0 4
declared Big bytes = big_word bytes

-- what a stream is cut by that has little-endian lengths, as in FlatBuffers
abbrev pub little : ℕ → Cut
little limit = record { limit = limit; order = Little }

-- a whole message, its prefix included
pub record IsMessage (cut : Cut) (bytes : List ℕ) : Type 0 where
  pub prefixed : 4 ≤ length bytes
  pub whole : length bytes ≡ 4 + declared cut.order bytes
  pub within : length bytes ≤ cut.limit

-- a message that is still coming: less than a prefix, or less than its prefix tells, and that within the limit
abbrev pub IsPartial : Cut → List ℕ → Type 0
IsPartial cut bytes = 4 ≤ length bytes → (length bytes < 4 + declared cut.order bytes) × (4 + declared cut.order bytes ≤ cut.limit)

-- a whole prefix that tells more than the limit allows
abbrev pub IsOversize : Cut → List ℕ → Type 0
IsOversize cut bytes = (4 ≤ length bytes) × (cut.limit < 4 + declared cut.order bytes)

-- a stream is these messages one after another, and then this rest, in which no message is whole
pub record Splits (cut : Cut) (stream : List ℕ) (messages : List (List ℕ)) (rest : List ℕ) : Type 0 where
  pub joined : stream ≡ concat messages ++ rest
  pub each : All (IsMessage cut) messages
  pub last : IsPartial cut rest ⊎ IsOversize cut rest

-- two readings of one stream are one
abbrev pub OneReading : Type 0
OneReading = (cut : Cut) (stream : List ℕ) (messages messages' : List (List ℕ)) (rest rest' : List ℕ)
    → Splits cut stream messages rest → Splits cut stream messages' rest' → (messages ≡ messages') × (rest ≡ rest')

-- each stream has a reading
abbrev pub SomeReading : Type 0
SomeReading = (cut : Cut) (stream : List ℕ) → (messages : List (List ℕ)) × (rest : List ℕ) × Splits cut stream messages rest
