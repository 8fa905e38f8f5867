-- The examples of what C is told, by computing.
use Rattle.std.proofs.Common.{arith, rules}
use lib.Ieee.{of_bits, to_bits}
use Rattle.fbcheck_calls.specs.Examples.{Verdicts, Questions, Paths, Values, Pieces}

pub verdicts_shown : Verdicts × Questions
verdicts_shown = search rules

pub values_shown : Paths × Values × Pieces
unfolding of_bits to_bits
values_shown = search (rules, arith)
