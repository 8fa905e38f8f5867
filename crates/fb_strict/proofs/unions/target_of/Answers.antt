use Rattle.std.proofs.Common.{◌<◌, ap, ◌∙◌, arith}
use Rattle.fb_schema.specs.Targets.{kind_to}
use Rattle.fb_schema.proofs.ToldKinds.{told_of}
use Rattle.fb_strict.proofs.unions.target_of.Goals as goal

-- src/unions.rt
pub returns : goal.returns
returns c =
    let small : c.args.value < 256 = omega arith in
    ap kind_to (c.get.ensures ∙ c.requires.targets c.args.value small) ∙ told_of c.args.schema.now c.lawful.ensures.legal c.args.union c.args.value
