use Rattle.std.proofs.Common.{◌≡◌, ◌+◌, ◌*◌, ◌≤◌}
use Rattle.fb_rules.specs.declared.offset_row.Leads.TheVariants.{All}
use Rattle.fb_verify.specs.Turns.{GoesOn, RowStands}
use Rattle.fb_verify.proofs.stack.Walk.pass_words_of.Given as goal

-- the walk goes on in the same field, between two uoffsets
abbrev pub invariant-loop-row : goal.invariant-loop-row
invariant-loop-row g l = record {
  on : GoesOn l.self l.self l.fn.reads l.reads g.under l.fn.top (record l.fn.top { row = l.row });
  same : l.top ≡ l.fn.top;
  leads : (l.row).leads ≡ All l.fn.referent;
  stands : RowStands l.fn.checks l.reads.bytes l.row;
  paid : l.reads.count + 4 * (l.row).left ≤ l.fn.reads.count + 4 * (l.fn.top.row).left;
}

abbrev pub decreases-loop-row : goal.decreases-loop-row
decreases-loop-row g l = (l.row).left
