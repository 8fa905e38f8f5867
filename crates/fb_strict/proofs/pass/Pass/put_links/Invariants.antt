use Rattle.std.proofs.Common.{◌≡◌, ◌-◌, ◌≤◌, length, take}
use Rattle.fb_strict.specs.Passing.{wants_of, frame_links}
use Rattle.fb_strict.proofs.pass.Pass.put_links.Given as goal

-- the links so far are those of as many frames
abbrev pub invariant-loop-count : goal.invariant-loop-count
invariant-loop-count g l = record {
  same : length l.links ≡ length l.fn.links;
  within : l.count ≤ length l.links;
  done : take l.count l.links ≡ frame_links (wants_of l.self) l.window l.self.rows l.frames l.count;
}

abbrev pub decreases-loop-count : goal.decreases-loop-count
decreases-loop-count g l = length l.links - l.count
