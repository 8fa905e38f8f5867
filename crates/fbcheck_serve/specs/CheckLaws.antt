-- The laws of what a schema file and the settings ask.
use Rattle.std.specs.Prelude.{◌≡◌, ◌≢◌, ℕ, List, [], ◌∷◌, ◌++◌, Option, Result, length, map}
use Rattle.std.specs.{List.AllByRecursion, Borrow.Bor}
use Rattle.fb_access.specs.{Resolving.Resolves, declared.step.Step.Step}
use Rattle.fb_run.specs.Job.{Job}
use Rattle.fb_schema.specs.Rows.{Rows}
use Rattle.fbcheck_texts.specs.{Given.steps_in, declared.choices.Settings.Settings, declared.fault.AskFault.AskFault}
use Rattle.fbcheck_serve.specs.{Checking.Asks, Names.last_name, Names.listed_name, Names.listed_names}

-- a schema file and the settings ask at most one thing
abbrev pub AsksOnce : Type 0
AsksOnce = (file : Option (Bor (List ℕ))) (settings : Settings) (x y : Result Job AskFault) → Asks file settings x → Asks file settings y → x ≡ y

-- a path has as many steps as are counted in its text
abbrev pub AreStepsAsWritten : Type 0
AreStepsAsWritten = (rows : Rows) (root : ℕ) (text : List ℕ) (steps : List Step) → Resolves rows root text steps → length steps ≡ steps_in text

-- names as they stand in a list, each ended by a zero byte
abbrev pub spelled : List (List ℕ) → List ℕ
spelled [] = []
spelled (name ∷ names) = name ++ (0 ∷ spelled names)

-- a name without a zero byte
abbrev pub IsUnbroken : List ℕ → Type 0
IsUnbroken name = AllByRecursion (λ b. b ≢ 0) name

-- names that stand so in a list are those that are read from it; and behind them one that isn't ended, unless it has no
-- bytes
abbrev pub AreNamesAsWritten : Type 0
AreNamesAsWritten =
    (names : List (List ℕ)) (last : List ℕ) → AllByRecursion IsUnbroken names → IsUnbroken last
    → listed_names (spelled names ++ last) ≡ map listed_name names ++ last_name last
