use Rattle.std.proofs.Common.{sym, ◌∙◌, arith}
use Rattle.std.proofs.lemmas.Bool.Decides.{nat_tests}
use Rattle.fb_schema.proofs.Search.{number_found, two_below, none_below}
use Rattle.fb_schema.proofs.type_fields.stands_below.Goals as goal

pub returns-then-slot-ge2 : goal.returns-then-slot-ge2
returns-then-slot-ge2 c = λ wanted fields h. c.is_ok.ensures.value ∙ number_found c.args.slots.now _ c.binary_search.result h.rises c.binary_search.ensures.bound c.binary_search.ensures.position ∙ two_below c.args.slots.now c.args.slot c.if-slot-ge2.true ∙ h.same c.args.slot

pub returns-else-slot-ge2 : goal.returns-else-slot-ge2
returns-else-slot-ge2 c = λ wanted fields h. grind (arith, nat_tests) ∙ sym (none_below c.args.slots.now c.args.slot c.if-slot-ge2.false) ∙ h.same c.args.slot
