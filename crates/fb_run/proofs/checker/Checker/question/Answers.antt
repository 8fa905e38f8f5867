use Rattle.std.proofs.Common.{◌∙◌, ap}
use Rattle.fb_rules.specs.Bounds.{limits_of_length}
use Rattle.fb_run.proofs.PlaceLemmas.{asks_same}
use Rattle.fb_run.proofs.checker.Checker.question.Goals as goal

pub returns-clause-asks : goal.returns-clause-asks
returns-clause-asks c =
    let options = c.self.inside.options.now in
    let limited = c.of_length.ensures ∙ ap (limits_of_length options.terms.limits options.terms.reads_per_byte) c.len.ensures.len in
    rw (← c.self.view_is) (asks_same c.self.inside.schema.now options.root _ _ options.ident _ _ options.terms.checks c.self.invariant.1 limited)
