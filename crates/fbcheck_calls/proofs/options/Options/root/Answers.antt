use Rattle.std.proofs.Common.{◌≡◌, ℕ, ◌==◌, if◌then◌else◌, None, Some, sym, subst}
use Rattle.fbcheck_calls.specs.Asked.{if_table}
use Rattle.fbcheck_calls.proofs.options.Options.root.Goals as goal

pub returns-in-4294967295-clause-root : goal.returns-in-4294967295-clause-root
returns-in-4294967295-clause-root c =
    let rows = c.args.loaded.now.schema in
    subst
    (λ (n : ℕ). c.if_table.result ≡ (if n == 4294967295 then if_table rows c.args.loaded.now.root else (if n == 4294967294 then None else if_table rows (Some n))))
    (sym c.in-4294967295.is) c.if_table.ensures.value
