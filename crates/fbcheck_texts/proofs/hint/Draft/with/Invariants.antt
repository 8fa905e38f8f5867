use Rattle.fbcheck_texts.specs.Hints.{IsUnended}
use Rattle.fbcheck_texts.proofs.hint.Draft.with.Given as goal

abbrev pub invariant-loop-byte : goal.invariant-loop-byte
invariant-loop-byte l = IsUnended l.text.items
