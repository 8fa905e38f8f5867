use Rattle.std.proofs.Common.{◌≡◌, ◌+◌, take}
use Rattle.std.specs.Prelude.{count_by}
use Rattle.fbcheck_texts.specs.Given.{is_sign}
use Rattle.fbcheck_texts.proofs.words.steps_in.Given as goal

-- the steps so far
abbrev pub invariant-loop-byte : goal.invariant-loop-byte
invariant-loop-byte l = l.steps ≡ 1 + count_by is_sign (take l.byte-index l.path)
