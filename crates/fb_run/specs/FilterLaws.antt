-- The law of a filter.
use Rattle.std.specs.Prelude.{◌≡◌, ℕ, List, []}
use Rattle.fb_bytes.specs.{Messages.Splits, declared.cut.Cut.Cut}
use Rattle.fb_run.specs.{Job.Job, AllTold.AreTold, Spot.at_first, Texts.Texts, Texts.to_out, declared.tally.Tally.Tally, declared.options.Mode.TheVariants.Filter}

-- what a filter passes on of a stream is itself a stream of whole messages, of which it passes all on and notes nothing
abbrev pub PassesAgain : Type 0
PassesAgain = (job : Job) (cut : Cut) (bytes rest : List ℕ) (messages : List (List ℕ)) (text : Texts) (tally : Tally)
    → job.terms.mode ≡ Filter → Splits cut bytes messages rest → AreTold job (at_first job) messages text tally
    → (passed : List (List ℕ)) × (good : Tally) × Splits cut text.out passed [] × AreTold job (at_first job) passed (to_out text.out) good
    × (good.yes ≡ tally.yes) × (good.no ≡ 0)
