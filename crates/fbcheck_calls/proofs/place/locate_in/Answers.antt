use Rattle.std.proofs.Common.{◌≡◌, ◌∙◌, ap, length, sym}
use Rattle.std.specs.List.{length_refill}
use Rattle.fb_verify.specs.Sealed.{Sealed}
use Rattle.fb_bfbs.specs.declared.loading.Loaded.{Loaded}
use Rattle.fbcheck_calls.proofs.{AnswerLemmas.plain_is_plain, BegunLemmas.found_located, BegunLemmas.told_as, BegunLemmas.unchecked_is_located}
use Rattle.fbcheck_calls.proofs.place.locate_in.Goals as goal

pub returns-in-Err-clause-told : goal.returns-in-Err-clause-told
returns-in-Err-clause-told c = told_as _ (unchecked_is_located c.args.basis.now _ c.args.options.now c.args.buffer.now c.args.text.now c.args.written.now) (rw c.levels.ensures at c.in-Err.ensures.starts)

pub returns-clause-told : goal.returns-clause-told
returns-clause-told c =
    found_located (record { starts = rw c.levels.ensures at c.in-Ok.ensures.starts; same = c.metered.ensures.bytes; plan_is = plain_is_plain c.args.basis.now c.args.options.now c.if-options-ne0.false }) (λ (v : Sealed). v.report) (ap (λ (l : Loaded). l.schema) c.loaded.ensures) c.verify_and_locate-found.result _ _ _ _ _
    c.tell_located.ensures.told c.verify_and_locate-found.ensures.yes c.verify_and_locate-found.ensures.none c.verify_and_locate-found.ensures.no c.verify_and_locate-found.ensures.along c.tell_located.ensures.text

-- there are as many levels for a pass, and as many links as before, and so as many as levels
pub invariant_of-room : goal.invariant_of-room
invariant_of-room c =
    let old = c.room.inside.links in
    let is : old.len ≡ length old.items = sym c.as_mut_slice-links.ensures.len ∙ ap length c.as_mut_slice-links.ensures.value in
    (c.room.invariant.0, sym (length_refill old.len old.items c.verify_and_locate-found.new.links is) ∙ is ∙ c.room.invariant.1)
