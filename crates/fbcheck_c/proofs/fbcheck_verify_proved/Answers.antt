use Rattle.fbcheck_c.proofs.fbcheck_verify_proved.Goals as goal

pub returns-clause-told : goal.returns-clause-told
returns-clause-told c = rw (← c.held.ensures) c.check.ensures.told
