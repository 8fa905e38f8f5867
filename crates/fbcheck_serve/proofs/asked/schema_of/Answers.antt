use Rattle.fbcheck_serve.proofs.AskedLemmas.{schema_is_table}
use Rattle.fbcheck_serve.proofs.asked.schema_of.Goals as goal

pub returns-in_ok-reflection-in-None-clause-table : goal.returns-in_ok-reflection-in-None-clause-table
returns-in_ok-reflection-in-None-clause-table c = schema_is_table c.in_ok-reflection-in-None.field-0 c.in_ok-reflection-in-None.ensures
