use Rattle.std.proofs.Common.{◌∙◌}
use Rattle.fb_bfbs.proofs.ByteLemmas.{slot_found}
use Rattle.fb_bfbs.proofs.byte_fields.has_slot.Goals as goal

pub returns : goal.returns
returns c = c.is_ok.ensures.value ∙ slot_found c.args.object c.args.slot c.args.slots.now c.binary_search.result c.requires c.binary_search.ensures.bound c.binary_search.ensures.position
