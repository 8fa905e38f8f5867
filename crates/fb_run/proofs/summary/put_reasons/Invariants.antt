use Rattle.std.proofs.Common.{◌≡◌, ◌+◌, ◌*◌, ◌≤◌, drop, length}
use Rattle.fb_rules.specs.Reasons.{reason_count}
use Rattle.fb_run.specs.Sums.{reasons_from}
use Rattle.fb_run.proofs.summary.put_reasons.Given as goal

abbrev pub invariant-loop-place : goal.invariant-loop-place
invariant-loop-place l = record {
  within : l.place ≤ reason_count;
  text : l.line ≡ reasons_from l.form (l.place + 1) (drop l.place l.counts) l.initial.line;
  short : length l.line + 27 * l.place ≤ 150 + 27 * reason_count;
}

abbrev pub decreases-loop-place : goal.decreases-loop-place
decreases-loop-place l = l.place
