use Rattle.std.proofs.Common.{ap, arith}
use Rattle.fb_rules.specs.Question.{Question}
use Rattle.fbcheck_calls.specs.declared.outcome.Outcome.TheVariants.{Misfit, TooLong}
use Rattle.fbcheck_calls.proofs.BegunLemmas.{long_is_unread, misfit_is_unread, unserved_is_unread}
use Rattle.fbcheck_calls.proofs.checking.prepare_read.Goals as goal

pub returns-in_default-clause-starts : goal.returns-in_default-clause-starts
returns-in_default-clause-starts c =
    let why = c.refuse.ensures in
    record { answer = why.answer; told = why.told; holds = unserved_is_unread c.args.basis.now c.args.levels c.args.options.now c.args.buffer.now c.args.paths.now why.answer why.holds; status = why.status }

pub returns-in-Some-first_misfit-clause-starts : goal.returns-in-Some-first_misfit-clause-starts
returns-in-Some-first_misfit-clause-starts c =
    record { answer = Misfit c.in-Some-first_misfit.place; told = c.tell.ensures.told; holds = misfit_is_unread c.args.basis.now c.args.levels c.args.options.now c.args.buffer.now c.in-Some.begun c.in-Some.ensures.begins c.args.paths.now c.in-Some-first_misfit.place (rw (c.loaded.ensures, ap (λ (q : Question). q.root) c.begun.view_is) at c.in-Some-first_misfit.ensures); status = c.tell.ensures.status }

pub returns-then-length-gt-LONGEST-clause-starts : goal.returns-then-length-gt-LONGEST-clause-starts
returns-then-length-gt-LONGEST-clause-starts c =
    record { answer = TooLong; told = c.tell_blank.ensures.told; holds = long_is_unread c.args.basis.now c.args.levels c.args.options.now c.args.buffer.now c.in-Some.begun c.in-Some.ensures.begins c.args.paths.now (rw (c.loaded.ensures, ap (λ (q : Question). q.root) c.begun.view_is) at c.in_default-first_misfit.ensures) (omega arith); status = c.tell_blank.ensures.status }
