use Rattle.std.proofs.Common.{◌≡◌, ◌++◌, drop, map, string_bytes}
use Rattle.fbcheck_texts.proofs.words.copies.Given as goal

-- the copies so far and what is left are all the texts
abbrev pub invariant-loop-text : goal.invariant-loop-text
invariant-loop-text l = map string_bytes l.copies.items ++ map (λ s. s.now) (drop l.text-index l.texts) ≡ map (λ s. s.now) l.texts
