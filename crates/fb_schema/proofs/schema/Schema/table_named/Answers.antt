use Rattle.std.proofs.Common.{rules}
use Rattle.fb_schema.specs.Rows.{table_named}
use Rattle.fb_schema.proofs.schema.Schema.table_named.Goals as goal

pub returns-in-Some-clause-number : goal.returns-in-Some-clause-number
unfolding table_named
returns-in-Some-clause-number g c = search rules

pub returns-in-Some-clause-table : goal.returns-in-Some-clause-table
unfolding table_named
returns-in-Some-clause-table g c = search rules
