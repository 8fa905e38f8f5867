use Rattle.std.proofs.Common.{◌≡◌, ◌-◌, ◌≤◌, length}
use Rattle.fb_schema.specs.Live.{live_fields}
use Rattle.fb_verify.specs.PassesOn.{IsBetween}
use Rattle.fb_verify.proofs.Passing.{GoesBy}
use Rattle.fb_verify.proofs.flat.pass_small_steps.Given as goal

-- the walk goes on in the same table, between two fields, and so many are passed
abbrev pub invariant-loop-here : goal.invariant-loop-here
invariant-loop-here g l =
    record {
      base : l.reads.base ≡ l.fn.reads.base;
      within : l.here ≤ length (live_fields (g.of).walk.schema.now ((g.of).top.table).object);
      between : IsBetween (g.of).walk l.reads (g.of).under (record (g.of).top { next = l.here });
      goes : GoesBy (g.of).walk l.fn.reads l.reads (g.of).top l.here;
    }

abbrev pub decreases-loop-here : goal.decreases-loop-here
decreases-loop-here g l = length l.fn.chain - l.here
