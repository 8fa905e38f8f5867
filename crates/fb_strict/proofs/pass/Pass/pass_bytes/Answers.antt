use Rattle.fb_strict.proofs.Answered.{holds_none}
use Rattle.std.proofs.Common.{refl}
use Rattle.fb_strict.proofs.pass.Pass.pass_bytes.Goals as goal

-- src/pass.rt
pub pass_buffer-requires-clause-taskable : goal.pass_buffer-requires-clause-taskable
pass_buffer-requires-clause-taskable g c = rw c.in-Buffer.is at c.requires.taskable

pub returns-in-Buffer : goal.returns-in-Buffer
returns-in-Buffer g c row = rw c.in-Buffer.is (c.pass_buffer.ensures row)

pub returns-in-Flex : goal.returns-in-Flex
returns-in-Flex g c row = rw c.in-Flex.is (holds_none _ _ _ _ _ _ _ row row c.pass_flex.result c.holding_none.result refl (c.pass_flex.ensures row) c.holding_none.ensures.yes c.holding_none.ensures.no)
