use Rattle.std.proofs.Common.{◌≡◌, ℕ, ◌<◌, length, get_or}
use Rattle.fbcheck_calls.specs.{Answered.levels, Spans.IsSpanTold, declared.outcome.Verdict.Verdict, declared.spans.Span.Span}
use Rattle.fbcheck_calls.proofs.spans.check_each.Given as goal

-- the handle holds what it held, and each verdict below this place is told
abbrev pub invariant-loop-place : goal.invariant-loop-place
invariant-loop-place l = record {
  kept : l.handle.inside ≡ l.initial.handle.inside;
  told : (k : ℕ) → k < l.place → k < length l.verdicts → (s : Span) (d : Verdict) → IsSpanTold l.held (levels l.initial.handle.inside) l.options l.block (get_or l.spans k s) (get_or l.verdicts k d);
}
