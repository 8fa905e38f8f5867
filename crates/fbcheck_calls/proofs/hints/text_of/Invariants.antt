use Rattle.std.specs.Prelude.{IsTrue}
use Rattle.std.specs.List.{list_all}
use Rattle.fbcheck_calls.specs.Hinted.{is_shown}
use Rattle.fbcheck_calls.proofs.hints.text_of.Given as goal

abbrev pub invariant-loop-piece : goal.invariant-loop-piece
invariant-loop-piece l = IsTrue (list_all is_shown l.text.items)
