use Rattle.std.proofs.Common.{◌≡◌, drop, fold, map}
use Rattle.clap.specs.Simple.{app_of, with_rule}
use Rattle.fbcheck_texts.specs.{CommandLine.program, OptionTable.choice_rule}
use Rattle.fbcheck_texts.proofs.command.command.Given as goal

-- what is left makes the program of what stands
abbrev pub invariant-loop-choice : goal.invariant-loop-choice
invariant-loop-choice l = fold with_rule (app_of l.command) (map choice_rule (drop l.choice-index l.choice-items)) ≡ program
