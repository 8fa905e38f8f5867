use Rattle.std.proofs.Common.{◌∙◌, Some, ap, sym}
use Rattle.std.specs.Prelude.{option_map, string_bytes}
use Rattle.fbcheck_serve.proofs.serve.names_of.Goals as goal

pub returns-in_ok-hint-in-Err-clause-none : goal.returns-in_ok-hint-in-Err-clause-none
returns-in_ok-hint-in-Err-clause-none g c =
    (c.as_str.result.now, ap (λ o. option_map string_bytes o) c.in-Some.is ∙ ap (λ t. Some t) (sym c.as_str.ensures.value), c.in-Err.ensures.fault)
