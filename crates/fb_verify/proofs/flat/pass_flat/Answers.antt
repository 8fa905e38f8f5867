use Rattle.std.proofs.Common.{refl}
use Rattle.fb_verify.specs.Flat.{PassesFlat}
use Rattle.fb_verify.proofs.{Flats.flat_between, Flats.flat_room, Flats.flat_came, Flats.head_flat, Flats.reason_of, flat.pass_flat.Goals.In_default, flat.pass_flat.Goals.After-pass_steps}
use Rattle.fb_verify.proofs.flat.pass_flat.Goals as goal

pub pass_steps-requires : goal.pass_steps-requires
pass_steps-requires g c =
    let r = c.requires in
    let e = rw r.same at c.test_head-failed.ensures.tested in
    let none = c.in_default.is in
    (flat_between r e none _ (rw r.same at (c.test_head-failed.ensures.head none)), (flat_room r e none c.test_head-failed.new.head, (r.same, (r.schema, (refl, (refl, (r.its, r.few)))))))

-- its fields were passed, or one fails
came : (g : _) (c : After-pass_steps g)
    → PassesFlat (g.going).walk c.args.reads.now c.pass_steps.new.reads (g.going).under c.args.object c.args.at.now c.pass_steps.new.next c.pass_steps.new.at (reason_of c.pass_steps.result)
came g c = flat_came c.requires (rw c.requires.same at c.test_head-failed.ensures.tested) c.in_default.is c.test_head-failed.new.head c.pass_steps.result c.pass_steps.ensures

pub returns-in-Ok : goal.returns-in-Ok
returns-in-Ok g c = rw c.in-Ok.is at (came g (goal.at.returns-in-Ok g c).After-pass_steps)

pub returns-in-Err : goal.returns-in-Err
returns-in-Err g c = rw c.in-Err.is at (came g (goal.at.returns-in-Err g c).After-pass_steps)

pub returns-in-Some : goal.returns-in-Some
returns-in-Some g c =
    let e = rw c.requires.same at c.test_head-failed.ensures.tested in
    head_flat (rw c.in-Some.is at e.told) e.bytes
