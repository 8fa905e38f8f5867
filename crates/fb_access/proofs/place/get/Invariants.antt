use Rattle.std.proofs.Common.{◌≡◌, take, drop}
use Rattle.fb_access.specs.{Denotes.root_spot, Underway.IsWalked}
use Rattle.fb_access.proofs.place.get.Given as goal

-- the steps taken lead here, and those that are left fit
abbrev pub invariant-loop-step : goal.invariant-loop-step
invariant-loop-step g l = record {
  steps : l.step-items ≡ l.path;
  same : l.place.sealed ≡ l.verified;
  walked : IsWalked l.verified.bytes l.verified.schema (root_spot l.verified.bytes l.verified.start l.verified.root) (take l.step-index l.step-items) (drop l.step-index l.step-items) l.place.spot;
}
