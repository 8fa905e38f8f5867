use Rattle.std.proofs.Common.{◌^◌, ◌<◌, length, refl, ap, arith}
use Rattle.fb_schema.specs.{Live.live_fields, Steps.step_of}
use Rattle.fb_verify.proofs.Frames.{length_map}
use Rattle.fb_verify.proofs.stack.Walk.pass_plain.Goals as goal

pub pass_steps-answer-requires : goal.pass_steps-answer-requires
pass_steps-answer-requires g c =
    let r = c.requires.1.1.1 in
    let fs = live_fields c.args.self.now.schema.now (c.args.top.now.table).object in
    let few : length c.args.steps.now < 2 ^ 32 = omega (arith, (((r.0).walking).served).few (c.args.top.now.table).object, ap length c.requires.0, length_map step_of fs) in
    rw (c.requires.1.0, c.requires.1.1.0) (r.0, (r.1.0, (r.1.1, (refl, (refl, (refl, (c.requires.0, few)))))))
