use Rattle.std.proofs.Common.{sym}
use Rattle.fbcheck_calls.proofs.again.tell_values.Goals as goal

pub unreachable-requires : goal.unreachable-requires
unreachable-requires c =
    let (there, told, other) = c.in-Err.ensures in
    other c.args.verified.now (sym c.window.ensures.value) (sym c.schema.ensures.value) (sym c.start.ensures.value) (sym c.root.ensures.value) c.root.ensures.unfolds
