-- The options as the table of the code has them.
use Rattle.clap.specs.Walk.{Rule, Text}
use Rattle.fbcheck_texts.specs.CommandLine.{flag_rule, lettered, most_rule, text_rule, texts_rule, value_rule, words_rule}
use Rattle.fbcheck_texts.specs.declared.{command.Choice.Choice, command.Takes.Takes}
use Rattle.fbcheck_texts.specs.declared.command.Takes.TheVariants as takes

-- an option by its name and what it takes
abbrev pub taking_rule : Text → Takes → Rule
taking_rule name (takes.Text value) = text_rule name
taking_rule name (takes.Texts value) = texts_rule name
taking_rule name (takes.Number value default) = value_rule name value default.now
taking_rule name takes.Most = most_rule name
taking_rule name takes.Nothing = flag_rule name
taking_rule name (takes.Words value) = words_rule name

-- an option as the table of options has it
abbrev pub choice_rule : Choice → Rule
choice_rule choice = lettered choice.letter (taking_rule choice.name.now choice.takes)
