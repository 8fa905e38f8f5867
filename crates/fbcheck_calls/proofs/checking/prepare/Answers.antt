use Rattle.std.proofs.Common.{arith}
use Rattle.fbcheck_calls.specs.declared.outcome.Outcome.TheVariants.{TooLong}
use Rattle.fbcheck_calls.proofs.BegunLemmas.{long_is_unchecked, unserved_is_unchecked}
use Rattle.fbcheck_calls.proofs.checking.prepare.Goals as goal

pub returns-in_default-clause-starts : goal.returns-in_default-clause-starts
returns-in_default-clause-starts c =
    let why = c.refuse.ensures in
    record { answer = why.answer; told = why.told; holds = unserved_is_unchecked c.args.basis.now c.args.levels c.args.options.now c.args.buffer.now why.answer why.holds; status = why.status }

pub returns-then-length-gt-LONGEST-clause-starts : goal.returns-then-length-gt-LONGEST-clause-starts
returns-then-length-gt-LONGEST-clause-starts c =
    record { answer = TooLong; told = c.tell_blank.ensures.told; holds = long_is_unchecked c.args.basis.now c.args.levels c.args.options.now c.args.buffer.now c.in-Some.begun c.in-Some.ensures.begins (omega arith); status = c.tell_blank.ensures.status }
