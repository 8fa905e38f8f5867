-- The law of rejects.
use Rattle.std.specs.Prelude.{◌≡◌, ◌⊎◌, ℕ, List, [], ◌∷◌, Ok, Err, length}
use Rattle.std.specs.List.{flat_map}
use Rattle.fb_run.specs.{Job.IsVerdict, Job.Job, Job.No, Job.Yes, Job.buffer_in, AllTold.AreTold, Spot.Before, Texts.Texts}
use Rattle.fb_run.specs.declared.{tally.Tally.Tally, options.Mode.TheVariants.Filter, options.Rejects.TheVariants.Kept}

-- the buffer in a message has a yes, or a no
abbrev pub IsGood : Job → List ℕ → Type 0
IsGood job message = (found : Yes) × IsVerdict job (buffer_in job message) (Ok found)

abbrev pub IsBad : Job → List ℕ → Type 0
IsBad job message = (bad : No) × IsVerdict job (buffer_in job message) (Err bad)

-- each of these messages stands in one of both lists, which have them in their order and have no others: the good ones in
-- the first, the bad ones in the second
abbrev pub ArePartedInto : Job → List (List ℕ) → List (List ℕ) → List (List ℕ) → Type 0
ArePartedInto job [] good bad = (good ≡ []) × (bad ≡ [])
ArePartedInto job (message ∷ messages) good bad =
    (IsGood job message × ((others : List (List ℕ)) × (good ≡ message ∷ others) × ArePartedInto job messages others bad))
    ⊎ (IsBad job message × ((others : List (List ℕ)) × (bad ≡ message ∷ others) × ArePartedInto job messages good others))

-- messages, byte for byte, one behind another
abbrev pub joined : List (List ℕ) → List ℕ
joined messages = flat_map (λ (message : List ℕ). message) messages

-- where bad messages are kept, the rejects get these alone, and of a filter the writer gets the others alone: each message
-- that is told stands in exactly one of both outputs, as it came
abbrev pub RejectsPart : Type 0
RejectsPart = (job : Job) (before : Before) (messages : List (List ℕ)) (text : Texts) (tally : Tally) → job.rejects ≡ Kept → AreTold job before messages text tally
    → (good : List (List ℕ)) × (bad : List (List ℕ)) × ArePartedInto job messages good bad × (text.rejects ≡ joined bad)
    × (job.terms.mode ≡ Filter → text.out ≡ joined good) × (length good ≡ tally.yes) × (length bad ≡ tally.no)
