-- The ranges of what words ask for.
use Rattle.std.specs.Prelude.{◌≤◌, length, map, string_bytes}
use Rattle.fb_run.specs.Job.{AreRanged}
use Rattle.fbcheck_texts.specs.{Given.steps_of, declared.choices.Settings.Settings}

-- the settings' numbers are in their ranges, and there are no more paths than may be, nor steps of all
pub record AreInRange (settings : Settings) : Type 0 where
  pub terms : AreRanged settings.terms
  pub few : length settings.paths.items ≤ 16
  pub few_steps : steps_of (map string_bytes settings.paths.items) ≤ 1024
