use Rattle.std.proofs.Common.{rules}
use Rattle.fb_verify.specs.Sealed.{Sealed}
use Rattle.fbcheck_calls.proofs.{AnswerLemmas.plain_is_plain, BegunLemmas.found_fits, BegunLemmas.found_read, BegunLemmas.told_as, BegunLemmas.unread_is_read}
use Rattle.fbcheck_calls.proofs.checking.read_shallow.Goals as goal

pub tell_read-requires : goal.tell_read-requires
tell_read-requires c = found_fits (record { starts = c.in-Ok.ensures.starts.0; same = c.metered.ensures.bytes; plan_is = plain_is_plain c.args.basis.now c.args.options.now c.if-options-ne0.false }) (λ (v : Sealed). v) c.args.paths.now c.in-Ok.ensures.starts.1 c.verify-found.result c.verify-found.ensures.kept

pub returns-in-Err-clause-told : goal.returns-in-Err-clause-told
returns-in-Err-clause-told c = told_as _ (unread_is_read c.args.basis.now _ c.args.options.now c.args.buffer.now c.args.paths.now c.args.values.now) c.in-Err.ensures.starts

pub returns-clause-told : goal.returns-clause-told
returns-clause-told c =
    found_read (record { starts = c.in-Ok.ensures.starts.0; same = c.metered.ensures.bytes; plan_is = plain_is_plain c.args.basis.now c.args.options.now c.if-options-ne0.false }) (λ (v : Sealed). v) c.args.paths.now c.in-Ok.ensures.starts.1 (λ (v : Sealed). v.report) c.verify-found.result _ _
    c.tell_read.ensures.told c.verify-found.ensures.yes c.verify-found.ensures.kept c.verify-found.ensures.none c.verify-found.ensures.no c.tell_read.ensures.values

pub returns-then-options-ne0-clause-told : goal.returns-then-options-ne0-clause-told
returns-then-options-ne0-clause-told c = search rules
