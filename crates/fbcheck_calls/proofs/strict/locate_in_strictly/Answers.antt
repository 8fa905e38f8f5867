use Rattle.std.proofs.Common.{◌≡◌, ◌∙◌, ap, length, sym}
use Rattle.std.specs.List.{length_refill}
use Rattle.fb_strict.specs.declared.strictly.VerifiedStrictly.{VerifiedStrictly}
use Rattle.fb_bfbs.specs.declared.loading.Loaded.{Loaded}
use Rattle.fbcheck_calls.proofs.BegunLemmas.{found_located, told_as, unchecked_is_located}
use Rattle.fbcheck_calls.proofs.strict.locate_in_strictly.Goals as goal

pub returns-in-Err-clause-told : goal.returns-in-Err-clause-told
returns-in-Err-clause-told c = told_as _ (unchecked_is_located c.args.basis.now _ c.args.options.now c.args.buffer.now c.args.text.now c.args.written.now) (rw c.levels.ensures at c.in-Err.ensures.starts)

pub returns-clause-told : goal.returns-clause-told
returns-clause-told c =
    found_located (record { starts = rw c.levels.ensures at c.in-Ok.ensures.starts; same = c.metered.ensures.bytes; plan_is = c.plan_of.ensures.plan }) (λ (v : VerifiedStrictly). v.report) (ap (λ (l : Loaded). l.schema) c.loaded.ensures) c.verify_strictly_and_locate-found.result _ _ _ _ _
    c.tell_located.ensures.told c.verify_strictly_and_locate-found.ensures.yes c.verify_strictly_and_locate-found.ensures.none c.verify_strictly_and_locate-found.ensures.no c.verify_strictly_and_locate-found.ensures.along c.tell_located.ensures.text

-- there are as many levels for a pass, and as many links as before, and so as many as levels
pub invariant_of-room : goal.invariant_of-room
invariant_of-room c =
    let old = c.room.inside.links in
    let call = c.verify_strictly_and_locate-found in
    let is : old.len ≡ length old.items = sym c.as_mut_slice-links.ensures.len ∙ ap length c.as_mut_slice-links.ensures.value in
    (call.ensures.room ∙ c.room.invariant.0, sym (length_refill old.len old.items call.new.links is) ∙ is ∙ c.room.invariant.1)
