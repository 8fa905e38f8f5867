use Rattle.std.proofs.Common.{◌≡◌, ◌+◌, ◌-◌, ◌*◌, ◌≤◌, length, map, [], ◌∷◌, ◌++◌}
use Rattle.fb_schema.specs.{Live.live_fields, Steps.step_of}
use Rattle.fb_rules.specs.Alike.{IsKept}
use Rattle.fb_verify.specs.Turns.{GoesOn, RowStands, with_tables}
use Rattle.fb_verify.proofs.stack.Walk.pass_flats.Given as goal

-- the walk goes on in the same field, between two uoffsets; the tables behind those that were passed aren't counted yet
abbrev pub invariant-loop-schema : goal.invariant-loop-schema
invariant-loop-schema g l = record {
  self : l.self ≡ l.fn.self;
  top : l.top ≡ l.fn.top;
  on : GoesOn l.fn.self (with_tables l.fn.self (l.fn.waiting + 2) ((l.fn.top.row).left - (l.row).left)) l.fn.reads l.reads g.under l.fn.top (record l.fn.top { row = l.row });
  fewer : (l.row).left ≤ (l.fn.top.row).left;
  stands : RowStands l.fn.checks l.reads.bytes l.row;
  paid : l.reads.count + (l.row).left * (8 + 6 * length (live_fields l.fn.self.schema.now l.fn.object)) ≤ l.fn.reads.count + (l.fn.top.row).left * (8 + 6 * length (live_fields l.fn.self.schema.now l.fn.object));
  leads : (l.row).leads ≡ (l.fn.top.row).leads;
  kept : IsKept l.fn.checks l.reads.bytes (map step_of (live_fields l.fn.self.schema.now l.fn.object)) l.passed;
}

abbrev pub decreases-loop-schema : goal.decreases-loop-schema
decreases-loop-schema g l = (l.row).left

-- the top waits for the table that is passed
abbrev pub ghost-pass_alike : goal.ghost-pass_alike
ghost-pass_alike g a = record {
  walk = with_tables (a.walk).now (length (g.under).frames + 2) ((((a.above).now).row).left - (a.row).left);
  under = record { start = (g.under).start; frames = (g.under).frames ++ record (a.above).now { row = a.row } ∷ [] };
}
