-- Marks while they are made, and the marked objects in the order in which they were marked.
use Rattle.std.specs.Prelude.{◌≡◌, ◌⊎◌, ◌+◌, ◌<◌, ℕ, Bool, true, false, not, List, [], length, replicate, slice_get, Some, count_by}
use Rattle.fb_schema.specs.Rows.{Rows}
use Rattle.fb_strict.specs.{Demanded.Demanded, Skipped.has_asked, Planned.marked, Planned.marked_wants, Planned.AreFounded}

-- exactly the objects that are marked are in the queue
pub record IsQueue (marks : List Bool) (queue : List ℕ) : Type 0 where
  pub all : (k : ℕ) → marked marks k ≡ true → (i : ℕ) × (slice_get queue i ≡ Some k)
  pub only : (i k : ℕ) → slice_get queue i ≡ Some k → marked marks k ≡ true

-- no object is marked of so many
pub record NoneMarked (n : ℕ) (marks : List Bool) (queue : List ℕ) : Type 0 where
  pub marks_are : marks ≡ replicate n false
  pub queue_is : queue ≡ []

-- only objects of which P holds were marked beside, each at the end of the queue
pub record Grew (P : ℕ → Type 0) (marks : List Bool) (queue : List ℕ) (marks' : List Bool) (queue' : List ℕ) : Type 0 where
  pub queued : IsQueue marks' queue'
  pub long : length marks' ≡ length marks
  pub kept : (k : ℕ) → marked marks k ≡ true → marked marks' k ≡ true
  pub only : (k : ℕ) → marked marks' k ≡ true → (marked marks k ≡ true) ⊎ P k
  pub ahead : (i k : ℕ) → slice_get queue i ≡ Some k → slice_get queue' i ≡ Some k
  pub weight : count_by not marks' + length queue' ≡ count_by not marks + length queue

-- and all of these are
pub record Spread (P : ℕ → Type 0) (marks : List Bool) (queue : List ℕ) (marks' : List Bool) (queue' : List ℕ) : Type 0 where
  pub grew : Grew P marks queue marks' queue'
  pub all : (k : ℕ) → P k → marked marks' k ≡ true

-- an object that isn't marked has no field that is asked where these are
abbrev pub AreClosed : Demanded → Rows → List Bool → Type 0
AreClosed D S marks = (k : ℕ) → marked marks k ≡ false → has_asked (marked_wants D marks) S k ≡ false

-- of the first n objects those are marked of which something is demanded by itself, and no others
pub record OwnMarked (D : Demanded) (S : Rows) (n : ℕ) (marks : List Bool) (queue : List ℕ) : Type 0 where
  pub queued : IsQueue marks queue
  pub long : length marks ≡ length S.objects
  pub founded : AreFounded D S marks
  pub all : (k : ℕ) → k < n → has_asked (marked_wants D []) S k ≡ true → marked marks k ≡ true
