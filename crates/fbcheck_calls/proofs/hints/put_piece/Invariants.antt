use Rattle.std.specs.Prelude.{IsTrue}
use Rattle.std.specs.List.{list_all}
use Rattle.fbcheck_calls.specs.Hinted.{is_shown}
use Rattle.fbcheck_calls.proofs.hints.put_piece.Given as goal

abbrev pub invariant-loop-byte : goal.invariant-loop-byte
invariant-loop-byte l = IsTrue (list_all is_shown l.text.items)
