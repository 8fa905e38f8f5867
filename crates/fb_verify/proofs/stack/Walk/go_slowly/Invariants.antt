use Rattle.std.proofs.Common.{◌≡◌, take, slice_index_or}
use Rattle.fb_verify.specs.{Stack.blank, Stack.work, Turns.IsUnderWayOver}
use Rattle.fb_verify.proofs.stack.Walk.go_slowly.Given as goal

-- the frames below the top are a walk that began where this one did
abbrev pub ghost-turn_by_units : goal.ghost-turn_by_units
ghost-turn_by_units g a = record { start = g.start; frames = take a.waiting a.frames.now }

abbrev pub ghost-walk_on : goal.ghost-walk_on
ghost-walk_on g a = g.start

-- each turn leaves less work, by more than the reads that it counts
abbrev pub invariant-loop-waiting : goal.invariant-loop-waiting
invariant-loop-waiting g l = record {
  same : l.self ≡ record l.fn.self { tables = l.self.tables; deepest = l.self.deepest };
  bytes : l.loan.bytes ≡ l.fn.loan.bytes;
  goes : IsUnderWayOver l.self l.loan g.start l.frames l.waiting;
}

abbrev pub decreases-loop-waiting : goal.decreases-loop-waiting
decreases-loop-waiting g l = work l.fn.self.schema.now l.fn.self.limits (take l.waiting l.frames) (slice_index_or l.frames l.waiting blank) l.self.tables
