use Rattle.std.proofs.Common.{ℕ, ◌+◌, ◌*◌, ◌≤◌, ◌<◌, rules, arith}
use Rattle.std.proofs.lemmas.Nat.{mul-le}
use Rattle.fb_rules.specs.MostReads.{most_reads}
use Rattle.fb_rules.proofs.most.most_reads.Goals as goal

pub returns-in-None : goal.returns-in-None
unfolding most_reads
returns-in-None c = search rules

-- it has 128 bits
short : (tables fields field : ℕ) → tables ≤ 4294967295 → fields ≤ 4294967295 → field ≤ 18446744073709551623 → 4 + tables * (4 + fields * field) < 340282366920938463463374607431768211456
short tables fields field few narrow near = omega (arith, mul-le tables (4 + fields * field) 4294967295 79228162495817593549899169789 few (omega (arith, mul-le fields field 4294967295 18446744073709551623 narrow near)))

pub overflow_add-most : goal.overflow_add-most
overflow_add-most c = record { fits = short _ _ _ (omega arith) (omega arith) (omega arith) }
