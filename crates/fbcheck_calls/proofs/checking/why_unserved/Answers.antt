use Rattle.std.proofs.Common.{rules}
use Rattle.fbcheck_calls.proofs.BegunLemmas.{unidentified}
use Rattle.fbcheck_calls.proofs.checking.why_unserved.Goals as goal

pub returns : goal.returns
returns c = unidentified c.args.basis.now c.args.levels c.args.options.now (search rules) (search rules) (search rules) c.requires

pub returns-then-not-serves : goal.returns-then-not-serves
returns-then-not-serves c = search rules
