use Rattle.fbcheck_serve.proofs.AskedLemmas.{marks_read}
use Rattle.fbcheck_serve.proofs.strict.marks_of.Goals as goal

pub unreachable-requires : goal.unreachable-requires
unreachable-requires c = marks_read c.args.bytes.now _ c.requires.0 c.in-Err.fault c.requires.1 (rw c.schema_limits.ensures at c.in-Err.ensures.no) c.in_default.not-OutOfMemory
