use Rattle.std.proofs.Common.{◌<◌, ap, ◌∙◌, arith}
use Rattle.fb_schema.specs.Targets.{kind_to}
use Rattle.fb_schema.proofs.ToldKinds.{told_of}
use Rattle.fb_schema.proofs.schema.Schema.member_of.Goals as goal

pub returns : goal.returns
returns g c =
    let small : c.args.value < 256 = omega arith in
    c.kind.ensures ∙ ap kind_to (c.get.ensures ∙ c.targets_of.ensures c.args.value small) ∙ told_of c.args.self.now c.lawful.ensures.legal c.args.e c.args.value
