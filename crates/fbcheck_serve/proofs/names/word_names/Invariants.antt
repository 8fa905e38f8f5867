use Rattle.std.proofs.Common.{◌≡◌, map, string_bytes, take}
use Rattle.fbcheck_serve.specs.Names.{word_names}
use Rattle.fbcheck_serve.proofs.names.word_names.Given as goal

-- the words up to this one are names
abbrev pub invariant-loop-word : goal.invariant-loop-word
invariant-loop-word l = l.names.items ≡ word_names (map string_bytes (take l.word-index l.words))
