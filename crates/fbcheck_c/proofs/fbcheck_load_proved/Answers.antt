use Rattle.fbcheck_c.proofs.fbcheck_load_proved.Goals as goal

pub returns-clause-told : goal.returns-clause-told
returns-clause-told c = (c.load.result, c.told-why.ensures, c.load.ensures)
