use Rattle.std.proofs.Common.{◌≡◌}
use Rattle.fb_rules.specs.OffsetRows.{AreTargetsOf}
use Rattle.fb_verify.specs.Turns.{GoesOn, RowStands}
use Rattle.fb_verify.proofs.stack.Walk.pass_members.Given as goal

-- the walk goes on in the same field, between two uoffsets
abbrev pub invariant-loop-targets : goal.invariant-loop-targets
invariant-loop-targets g l = record {
  on : GoesOn l.fn.self l.self l.fn.reads l.reads g.under l.fn.top (record l.top { row = l.row });
  next : l.top.next ≡ l.fn.top.next;
  stands : RowStands l.fn.checks l.reads.bytes l.row;
  targets : AreTargetsOf l.fn.self.schema.now l.targets (l.row).leads;
}

abbrev pub decreases-loop-targets : goal.decreases-loop-targets
decreases-loop-targets g l = (l.row).left

-- the same frames wait
abbrev pub ghost-pass_member : goal.ghost-pass_member
ghost-pass_member g a = g.under
