use Rattle.std.proofs.Common.{◌≡◌, ◌-◌, ◌≤◌, length}
use Rattle.fb_schema.specs.Live.{live_fields}
use Rattle.fb_verify.specs.PassesOn.{IsBetween, steps_left}
use Rattle.fb_verify.proofs.Passing.{GoesBy}
use Rattle.fb_verify.proofs.flat.pass_by.Given as goal

-- the walk goes on in the same table, between two fields, of which so many are left
abbrev pub invariant-loop-step : goal.invariant-loop-step
invariant-loop-step g l =
    record {
      base : l.reads.base ≡ l.fn.reads.base;
      within : length l.rest ≤ length l.fn.steps;
      rest : l.rest ≡ steps_left (g.of).walk.schema.now (record (g.of).top { next = length (live_fields (g.of).walk.schema.now ((g.of).top.table).object) - length l.rest });
      between : IsBetween (g.of).walk l.reads (g.of).under (record (g.of).top { next = length (live_fields (g.of).walk.schema.now ((g.of).top.table).object) - length l.rest });
      goes : GoesBy (g.of).walk l.fn.reads l.reads (g.of).top (length (live_fields (g.of).walk.schema.now ((g.of).top.table).object) - length l.rest);
    }

abbrev pub decreases-loop-step : goal.decreases-loop-step
decreases-loop-step g l = length l.rest
