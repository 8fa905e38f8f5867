use Rattle.std.proofs.Common.{arith, rules}
use Rattle.fb_strict.proofs.Holds.{bytes_stand, bytes_within}
use Rattle.fbcheck_serve.proofs.byte_fields.lost.Goals as goal

pub unreachable-requires : goal.unreachable-requires
unreachable-requires c = bytes_stand c.args.schema.now c.args.table c.args.slot c.requires c.in_default.ensures.none

pub unasked-requires : goal.unasked-requires
unasked-requires c = let within = bytes_within c.args.schema.now c.args.table c.args.slot c.requires in omega (arith, c.in-Some.ensures.some.1, within)

pub returns : goal.returns
returns c = search rules
