use Rattle.std.proofs.Common.{ap, ◌++◌, codes, rules}
use Rattle.fb_run.proofs.AnswerLemmas.{answers_each}
use Rattle.fb_run.proofs.values.put_values.Goals as goal

pub returns-in-Plain : goal.returns-in-Plain
returns-in-Plain g c = rw c.in-Plain.is (_, ap (λ l. l ++ codes "\n") (answers_each c.args.answers.now), c.put_plain.ensures)

pub returns-in-Json : goal.returns-in-Json
returns-in-Json g c = search rules
