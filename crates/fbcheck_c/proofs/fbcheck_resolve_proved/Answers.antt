use Rattle.fbcheck_c.proofs.fbcheck_resolve_proved.Goals as goal

pub returns-clause-told : goal.returns-clause-told
returns-clause-told c = (c.resolve.result, c.told-resolved.ensures, rw (← c.held.ensures) c.resolve.ensures)
