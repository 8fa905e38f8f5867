use Rattle.std.proofs.Common.{◌≡◌, false, refl, rules}
use Rattle.std.specs.Prelude.{is_some, option_map, vec_items}
use Rattle.fbcheck_serve.proofs.inputs.are_named.Goals as goal

pub returns-else-is_some : goal.returns-else-is_some
returns-else-is_some c =
    let none : is_some (option_map vec_items c.args.options.now.label) ≡ false = search rules in
    rw none refl
