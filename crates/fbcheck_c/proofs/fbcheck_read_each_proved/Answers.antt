use Rattle.fbcheck_c.proofs.fbcheck_read_each_proved.Goals as goal

pub returns-clause-told : goal.returns-clause-told
returns-clause-told c = (c.read_each.result, c.told-answered.ensures, rw (← c.held.ensures) c.read_each.ensures)
