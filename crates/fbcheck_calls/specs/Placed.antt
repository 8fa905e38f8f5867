-- What is written of where a fault is.
use Rattle.std.specs.Prelude.{◌≡◌, ℕ, List, ◌++◌, drop, length, take, Option}
use Rattle.fb_strict.specs.{AsAsked.StopsAlongBy, Planned.Planned}
use Rattle.fb_rules.specs.declared.{fault.Fault.Fault, link.Link.Link, start.Ident.Ident}
use Rattle.fb_access.specs.Location.{location_text}
use Rattle.fbcheck_calls.specs.{Answered.IsChecked, Answered.Serves, Asked.question_of, Bases.Based, declared.outcome.Outcome.Outcome, declared.outcome.Outcome.TheVariants.Bad}
use Rattle.fbcheck_calls.specs.declared.{outcome.Outcome.TheVariants.NoRoot, held.Held.Held, held.Held.TheVariants.Schema, held.Held.TheVariants.Room, options.Options.Options}

-- room after as much of a text was copied to its front as there is place for
abbrev pub cut_to : List ℕ → List ℕ → List ℕ
cut_to text room = take (length room) text ++ drop (length text) room

-- a text stands in the room, cut to it, and its whole length is told
pub record IsTextTold (text room room' : List ℕ) (told : ℕ) : Type 0 where
  pub length_is : told ≡ length text
  pub room_is : room' ≡ cut_to text room

-- nothing was written
pub record IsUntold (room room' : List ℕ) (told told' : ℕ) : Type 0 where
  pub length_is : told' ≡ told
  pub room_is : room' ≡ room

-- the place of this fault is told, by the links that lead to it from the root
abbrev pub IsPlaceTold : Based → Options → List ℕ → Fault → List ℕ → List ℕ → ℕ → Option Planned → ℕ → Ident → Type 0
IsPlaceTold s o b f room room' told plan root ident = (links : List Link)
    × StopsAlongBy plan (question_of s.loaded o b root ident) b f links
    × IsTextTold (location_text s.loaded.schema f links) room room' told

-- what is answered where the place of a fault is asked for: what a check answers, with the place of a bad buffer's
abbrev pub IsLocated : Based → ℕ → Options → List ℕ → List ℕ → List ℕ → ℕ → ℕ → Outcome → Type 0
IsLocated s n o b room room' told told' (Bad f) = IsChecked s n o b (Bad f) × Serves s n o (IsPlaceTold s o b f room room' told')
IsLocated s n o b room room' told told' a = IsChecked s n o b a × IsUntold room room' told told'

abbrev pub IsLocatedBy : Held → ℕ → Options → List ℕ → List ℕ → List ℕ → ℕ → Outcome → Type 0
IsLocatedBy (Schema s) n o b room room' told a = IsLocated s n o b room room' 0 told a
IsLocatedBy (Room r) n o b room room' told a = (a ≡ NoRoot) × IsUntold room room' 0 told
