use Rattle.std.proofs.Common.{◌≡◌, ◌∙◌, subst, sym}
use Rattle.fbcheck_calls.specs.{Asked.root_asked, declared.options.Options.Options}
use Rattle.fbcheck_calls.proofs.HintLemmas.{nothing_told}
use Rattle.fbcheck_calls.proofs.hints.path_hint.Goals as goal

pub returns-in-Some-clause-none : goal.returns-in-Some-clause-none
returns-in-Some-clause-none c =
    let loaded = c.loaded-loaded.result.now in
    let asked = subst (λ (o : Options). c.root.result ≡ root_asked loaded (record o { root = c.args.root })) c.published.ensures c.root.ensures.root in
    nothing_told c.args.held.now c.in-Schema.basis loaded c.args.root c.args.path.now c.in-Some.table c.hint_at.result c.in-Schema.is c.loaded-loaded.ensures (sym c.in-Some.is ∙ asked) c.hint_at.ensures.none
