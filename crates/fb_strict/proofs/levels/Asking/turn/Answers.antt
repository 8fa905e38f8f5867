use Rattle.std.proofs.Common.{◌-◌, refl, arith}
use Rattle.fb_strict.proofs.Turning.{Top, top_of, leg_done, leg_inside, leg_stopped}
use Rattle.fb_strict.proofs.levels.Asking.turn.Goals as goal
use Rattle.fb_strict.proofs.levels.Asking.turn.Goals.{After-leg}

top : (g : _) (c : After-leg g) → Top c.args.self.now c.args.spent.now c.args.frames.now c.args.levels.now (c.args.many - 1)
top g c = top_of c.args.self.now c.args.spent.now c.args.frames.now c.args.levels.now c.args.many c.requires.some c.requires.under

-- src/levels.rt
pub slice_copy_out-level : goal.slice_copy_out-level
slice_copy_out-level g c =
    let t = top_of c.args.self.now c.args.spent.now c.args.frames.now c.args.levels.now c.args.many c.requires.some c.requires.under in
    omega (arith, t.opened.higher, t.above, t.rise, c.requires.frames, c.requires.levels)

pub leg-requires-clause-opened : goal.leg-requires-clause-opened
leg-requires-clause-opened g c =
    let t = top_of c.args.self.now c.args.spent.now c.args.frames.now c.args.levels.now c.args.many c.requires.some c.requires.under in
    (t.ds, t.opened)

pub go_in-requires-clause-reached : goal.go_in-requires-clause-reached
go_in-requires-clause-reached g c =
    let d = (goal.at.go_in-requires-clause-reached g c).After-leg in
    let t = top g d in
    leg_inside c.args.self.now c.args.spent.now c.leg.new.spent c.args.frames.now c.leg.new.frames c.args.levels.now (c.args.many - 1) t _ refl c.leg.auto.frames c.leg.ensures.below c.leg.ensures.spent c.leg.new.level c.in-Ok-Some.inner c.leg.ensures.level c.requires.under.many c.requires.under.low
    (rw c.in-Ok-Some.field-0-is at (c.in-Ok-Some.ensures.went t.ds t.opened))

pub returns-in-Ok-None-clause-on : goal.returns-in-Ok-None-clause-on
returns-in-Ok-None-clause-on g c =
    let d = (goal.at.returns-in-Ok-None-clause-on g c).After-leg in
    let t = top g d in
    leg_done c.args.self.now c.args.spent.now c.leg.new.spent c.args.frames.now c.leg.new.frames c.args.levels.now (c.args.many - 1) t _ refl c.leg.auto.frames c.leg.ensures.below c.leg.ensures.spent c.requires.under.allowed c.requires.under.many c.requires.under.low
    (rw c.in-Ok-None.field-0-is at (c.in-Ok-None.ensures.went t.ds t.opened))

pub returns-in-Err-clause-no : goal.returns-in-Err-clause-no
returns-in-Err-clause-no g c =
    let d = (goal.at.returns-in-Err-clause-no g c).After-leg in
    let t = top g d in
    leg_stopped c.args.self.now c.args.spent.now c.leg.new.spent c.args.frames.now c.leg.new.frames c.args.levels.now (c.args.many - 1) t _ refl c.leg.auto.frames c.leg.ensures.below c.leg.ensures.spent c.leg.new.level c.leg.ensures.level c.args.links.now c.in-Err.unmet (c.in-Err.ensures.went t.ds t.opened)
