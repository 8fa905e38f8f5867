use Rattle.std.proofs.Common.{rules, ◌+◌, arith, refl}
use Rattle.fb_run.proofs.FrontLemmas.{front_is_message, front_is_none}
use Rattle.fb_run.proofs.front.front_message.Goals as goal
use Rattle.fb_run.proofs.front.front_message.Goals.{then-len-from-via-then-len-from, then-len-from-via-else-len-from+then-len-bytes}

pub returns-then-len-from-clause-none : goal.returns-then-len-from-clause-none
returns-then-len-from-clause-none c =
    front_is_none c.args.cut (c.from-len.result + 4) c.in_ok-prefix.prefix.now c.args.bytes.now (search rules) (search rules) (search rules) (λ fits. elim c.then-len-from.branch [
      | then-len-from-via-then-len-from w ↦ absurd (search (rules, arith))
      | then-len-from-via-else-len-from+then-len-bytes w ↦ search (rules, arith)
    ])

pub returns-clause-whole : goal.returns-clause-whole
returns-clause-whole c =
    front_is_message c.args.cut (c.from-len.result + 4) c.in_ok-prefix.prefix.now c.args.bytes.now _ (search rules) (search rules) (search rules) (search rules) refl
