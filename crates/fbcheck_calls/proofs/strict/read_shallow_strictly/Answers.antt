use Rattle.fb_strict.specs.declared.strictly.VerifiedStrictly.{VerifiedStrictly}
use Rattle.fbcheck_calls.proofs.BegunLemmas.{found_fits, found_read, told_as, unread_is_read}
use Rattle.fbcheck_calls.proofs.strict.read_shallow_strictly.Goals as goal

pub tell_read-requires : goal.tell_read-requires
tell_read-requires c = found_fits (record { starts = c.in-Ok.ensures.starts.0; same = c.metered.ensures.bytes; plan_is = c.plan_of.ensures.plan }) (λ (v : VerifiedStrictly). v.verified) c.args.paths.now c.in-Ok.ensures.starts.1 c.verify_strictly-found.result c.verify_strictly-found.ensures.kept

pub returns-in-Err-clause-told : goal.returns-in-Err-clause-told
returns-in-Err-clause-told c = told_as _ (unread_is_read c.args.basis.now _ c.args.options.now c.args.buffer.now c.args.paths.now c.args.values.now) c.in-Err.ensures.starts

pub returns-clause-told : goal.returns-clause-told
returns-clause-told c =
    found_read (record { starts = c.in-Ok.ensures.starts.0; same = c.metered.ensures.bytes; plan_is = c.plan_of.ensures.plan }) (λ (v : VerifiedStrictly). v.verified) c.args.paths.now c.in-Ok.ensures.starts.1 (λ (v : VerifiedStrictly). v.report) c.verify_strictly-found.result _ _
    c.tell_read.ensures.told c.verify_strictly-found.ensures.yes c.verify_strictly-found.ensures.kept c.verify_strictly-found.ensures.none c.verify_strictly-found.ensures.no c.tell_read.ensures.values
