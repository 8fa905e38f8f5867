use Rattle.std.proofs.Common.{◌≡◌, ◌∙◌, sym, None, Some}
use Rattle.fb_access.specs.{Denotes.next_spot, declared.step.Step.TheVariants.Element}
use Rattle.fbcheck_calls.proofs.EachLemmas.{no_element, told_of_element}
use Rattle.fbcheck_calls.proofs.each.element_told.Goals as goal

pub returns-in_default : goal.returns-in_default
returns-in_default c =
    let stuck : next_spot c.args.window.now c.args.schema.now c.args.spot (Element c.args.number) ≡ None = sym c.in_ok-element.ensures.0 ∙ c.in_default.is in
    no_element c.args.window.now c.args.schema.now c.args.spot c.args.number c.args.after.now stuck

pub returns : goal.returns
returns c =
    let leads : next_spot c.args.window.now c.args.schema.now c.args.spot (Element c.args.number) ≡ Some c.in-Some.element = sym c.in_ok-element.ensures.0 ∙ c.in-Some.is in
    told_of_element c.args.window.now c.args.schema.now c.args.spot c.in-Some.element c.args.number c.args.after.now leads c.lawful.ensures.served c.tell_from.result c.tell_from.ensures
