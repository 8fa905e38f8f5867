use Rattle.std.proofs.Common.{◌≡◌, map, take}
use Rattle.fb_schema.specs.{Rows.field_of, Rows.object_of, Builders.plain_table}
use Rattle.fb_bfbs.proofs.fixed.made.Given as goal

-- the tables that were passed are made
abbrev pub invariant-loop-name : goal.invariant-loop-name
invariant-loop-name l = map object_of l.rows.items ≡ map (λ t. plain_table t.0.now (map field_of t.1.now)) (take l.name-index l.tables)
