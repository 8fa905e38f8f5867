use Rattle.std.proofs.Common.{◌≡◌, length, map, take}
use Rattle.std.specs.Prelude.{string_bytes}
use Rattle.fb_run.specs.Job.{PathsFit}
use Rattle.fbcheck_serve.specs.Asked.{ArePaths}
use Rattle.fbcheck_serve.proofs.asked.find_paths.Given as goal

abbrev pub invariant-loop-text : goal.invariant-loop-text
invariant-loop-text l = record {
  named : ArePaths l.schema l.root (map string_bytes (take l.text-index l.texts)) l.paths.items;
  fit : PathsFit l.schema l.root l.paths.items;
  count : length l.paths.items ≡ l.text-index;
}
