use Rattle.std.proofs.Common.{true, min, ◌≡◌, ◌+◌, ◌≤◌, length, take, slice_index_or}
use Rattle.fb_verify.specs.{Stack.blank, Stack.work, Turns.IsShort, Turns.WentOn}
use Rattle.fb_verify.proofs.stack.Walk.walk_by.Given as goal

-- the frames below the top are a walk that began where this one did
abbrev pub ghost-turn : goal.ghost-turn
ghost-turn g a = record { start = g.start; frames = take a.waiting a.frames.now }

-- each turn leaves less work, by more than the reads that it counts
abbrev pub invariant-loop-has_below : goal.invariant-loop-has_below
invariant-loop-has_below g l = record {
  on : WentOn l.fn.self l.self l.fn.reads l.reads g.start l.fn.frames l.fn.waiting l.frames l.at 0;
  short : IsShort l.reads.count;
  below : l.has_below ≡ true → min (l.fn.self.limits).depth (l.at + 2) ≤ length l.frames;
}

abbrev pub decreases-loop-has_below : goal.decreases-loop-has_below
decreases-loop-has_below g l = work l.fn.self.schema.now l.fn.self.limits (take l.at l.frames) (slice_index_or l.frames l.at blank) l.self.tables
