use Rattle.std.proofs.Common.{Option, subst}
use Rattle.clap.specs.Words.{Text, found_of}
use Rattle.clap.proofs.WalkLemmas.{one_text-rows}
use Rattle.fbcheck_texts.specs.Values.{IsNumberIn}
use Rattle.fbcheck_texts.proofs.ProgramLemmas.{holds_wide_number}
use Rattle.fbcheck_texts.proofs.words.wide_number.Goals as goal

pub held_wide_number-requires : goal.held_wide_number-requires
held_wide_number-requires c = holds_wide_number c.requires.read.0 c.args.matches.now c.requires.read.1 c.args.least c.args.id.now c.requires.takes

pub returns : goal.returns
returns c = subst (λ (o : Option Text). IsNumberIn o c.args.least 18446744073709551615 c.held_wide_number.result) (one_text-rows (found_of c.args.matches.now) c.args.id.now) c.held_wide_number.ensures
