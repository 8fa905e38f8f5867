use Rattle.std.proofs.Common.{refl, arith}
use Rattle.std.proofs.Math.Nat.{max-eq_left, max-eq_right}
use Rattle.fb_verify.proofs.stack.Walk.count_table.Goals as goal

pub returns-then-self-links : goal.returns-then-self-links
returns-then-self-links c = rw (max-eq_right {n = c.args.self.now.deepest} {m = c.args.links} (omega (arith, c.if-self-links.true))) refl

pub returns-else-self-links : goal.returns-else-self-links
returns-else-self-links c = rw (max-eq_left c.if-self-links.false) refl
