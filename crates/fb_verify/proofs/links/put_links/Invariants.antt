use Rattle.std.proofs.Common.{◌≡◌, ◌-◌, ◌≤◌, length, map, take}
use Rattle.fb_verify.specs.Stack.{frame_link}
use Rattle.fb_verify.proofs.links.put_links.Given as goal

-- the links so far are those of as many frames
abbrev pub invariant-loop-count : goal.invariant-loop-count
invariant-loop-count l = record {
  same : length l.links ≡ length l.fn.links;
  within : l.count ≤ length l.frames;
  done : take l.count l.links ≡ map (frame_link l.window l.schema) (take l.count l.frames);
}

abbrev pub decreases-loop-count : goal.decreases-loop-count
decreases-loop-count l = length l.frames - l.count
