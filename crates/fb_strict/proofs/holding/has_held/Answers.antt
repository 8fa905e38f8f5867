use Rattle.std.proofs.Common.{sym, ap, ◌∙◌}
use Rattle.std.specs.Prelude.{is_some}
use Rattle.std.specs.List.{list_any}
use Rattle.fb_schema.specs.Live.{Live, live_of_view}
use Rattle.fb_schema.proofs.Blank.{blank_view}
use Rattle.fb_strict.specs.{Demanded.held_by, Holding.held_in}
use Rattle.fb_strict.proofs.Lists.{one_does}
use Rattle.fb_strict.proofs.holding.has_held.Goals as goal

-- src/holding.rt
pub returns-then-is_some : goal.returns-then-is_some
returns-then-is_some c =
    let test = λ (f : Live). is_some (held_by (held_in c.args.holdings.now c.args.object f.slot) f.kind) in
    sym (ap (list_any test) (sym c.fields_of-fields.ensures.value) ∙ one_does live_of_view test c.fields_of-fields.result.now c.loop-field.field-index blank_view c.loop-field-test.true (ap is_some (sym c.held_of.ensures) ∙ sym c.is_some.ensures ∙ c.if-is_some.true))
