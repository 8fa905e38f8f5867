use Rattle.std.proofs.Common.{rules}
use Rattle.fb_strict.proofs.slots.test_slot.Goals as goal

pub returns-then-place-eq0-clause-unknown : goal.returns-then-place-eq0-clause-unknown
returns-then-place-eq0-clause-unknown c = search rules
