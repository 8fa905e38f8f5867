use Rattle.std.proofs.Common.{◌∙◌, None, Some, subst}
use Rattle.fbcheck_calls.specs.Marked.{IsFirstMark}
use Rattle.fbcheck_calls.proofs.HintLemmas.{plain_resolves}
use Rattle.fbcheck_calls.proofs.hints.hint_at.Goals as goal

pub returns-in_default-clause-none : goal.returns-in_default-clause-none
returns-in_default-clause-none c = λ h.
    let found = plain_resolves c.args.schema.now c.args.table c.args.path.now None (subst (IsFirstMark c.args.path.now) c.in_default.is c.first_mark.ensures) h in
    c.plain_hint.ensures.none found.0 found.1

pub returns-in-Some-at_zero-clause-none : goal.returns-in-Some-at_zero-clause-none
returns-in-Some-at_zero-clause-none c = λ h.
    let found = plain_resolves c.args.schema.now c.args.table c.args.path.now (Some c.in-Some.at) (subst (IsFirstMark c.args.path.now) c.in-Some.is c.first_mark.ensures) h in
    let text = c.as_slice.ensures.value ∙ c.in-Some-at_zero.ensures in
    c.plain_hint-in-Some-at_zero.ensures.none found.0 (rw text found.1)
