use Rattle.std.proofs.Common.{List, ℕ, ap, ◌∙◌}
use Rattle.fb_run.specs.Sums.{reasons_part, verdicts_part}
use Rattle.fb_run.proofs.JsonSumsLemmas.{summary_parts}
use Rattle.fb_run.proofs.summary.summary.Goals as goal

pub returns : goal.returns
returns c =
    c.put_verdicts.ensures
    ∙ ap (λ (l : List ℕ). verdicts_part c.args.form c.args.tally.now l) (c.put_reasons.ensures.text ∙ ap (λ (l : List ℕ). reasons_part c.args.form c.args.tally.now.reasons l) c.put_counts.ensures.text)
    ∙ summary_parts c.args.form c.args.tally.now c.requires
