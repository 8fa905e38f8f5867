use Rattle.fbcheck_calls.proofs.FramerLemmas.{failed_is_kept}
use Rattle.fbcheck_calls.proofs.framer.Framer.finish.Goals as goal

pub returns-clause-kept : goal.returns-clause-kept
returns-clause-kept c = λ kept. failed_is_kept c.args.room.now c.args.self.now.held c.args.self.now.declared kept.within
