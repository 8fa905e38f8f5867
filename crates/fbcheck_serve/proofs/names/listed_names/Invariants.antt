use Rattle.std.proofs.Common.{◌≡◌, ◌++◌, drop}
use Rattle.fbcheck_serve.specs.Names.{listed_from, listed_names}
use Rattle.fbcheck_serve.proofs.names.listed_names.Given as goal

-- the names before this byte stand there, and the next begins with what was read of it
abbrev pub invariant-loop-byte : goal.invariant-loop-byte
invariant-loop-byte l = listed_names l.list ≡ l.names.items ++ listed_from l.bytes.items (drop l.byte-index l.list)
