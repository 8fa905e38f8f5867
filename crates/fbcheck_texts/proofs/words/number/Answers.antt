use Rattle.std.proofs.Common.{Option, subst}
use Rattle.clap.specs.Words.{Text, found_of}
use Rattle.clap.proofs.WalkLemmas.{one_text-rows}
use Rattle.fbcheck_texts.specs.Values.{IsNumberIn}
use Rattle.fbcheck_texts.proofs.ProgramLemmas.{holds_number}
use Rattle.fbcheck_texts.proofs.words.number.Goals as goal

pub held_number-requires : goal.held_number-requires
held_number-requires c = holds_number c.requires.read.0 c.args.matches.now c.requires.read.1 c.args.least c.args.most c.args.id.now c.requires.takes

pub returns : goal.returns
returns c = subst (λ (o : Option Text). IsNumberIn o c.args.least c.args.most c.held_number.result) (one_text-rows (found_of c.args.matches.now) c.args.id.now) c.held_number.ensures
