use Rattle.std.proofs.Common.{sym, ap, ◌∙◌, map, List}
use Rattle.fb_strict.specs.{declared.holding.Holding.Holding, Holding.field_of, Holding.held_in}
use Rattle.fb_strict.proofs.HeldOrder.{held_first, held_nowhere}
use Rattle.fb_strict.proofs.holding.Holdings.held_at.Goals as goal

-- src/holding.rt
pub returns-in-Some : goal.returns-in-Some
returns-in-Some c =
    let hs = c.self.inside.items.now in
    sym (held_first hs c.args.object c.args.slot c.in-Some.place _ (rw c.in-Some.is at (c.first_place.ensures (map field_of hs) c.self.invariant))) ∙ ap (λ (l : List Holding). held_in l c.args.object c.args.slot) c.self.view_is

pub returns-in-None : goal.returns-in-None
returns-in-None c =
    let hs = c.self.inside.items.now in
    sym (held_nowhere hs c.args.object c.args.slot (rw c.in-None.is at (c.first_place.ensures (map field_of hs) c.self.invariant))) ∙ ap (λ (l : List Holding). held_in l c.args.object c.args.slot) c.self.view_is
