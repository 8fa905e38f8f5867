use Rattle.std.proofs.Common.{◌≡◌, ℕ, List, [], ◌∷◌, length, sym, ◌∙◌, eqb-true, arith}
use Rattle.fbcheck_calls.specs.{Answered.IfSchema, Answered.levels, Spans.IsEachAnswered, Spans.IsTried, Told.told, declared.outcome.Outcome.Outcome, declared.outcome.Verdict.Verdict}
use Rattle.fbcheck_calls.specs.declared.{held.Held.Held, options.Options.Options, spans.Span.Span, outcome.Outcome.TheVariants.Done}
use Rattle.fbcheck_c.proofs.fbcheck_verify_each_proved.Goals as goal

pub returns-clause-told : goal.returns-clause-told
returns-clause-told c = rw (← c.held-held.ensures) c.check_each.ensures.told

-- of no spans is answered what the options tell
of_none : (held : Held) (n : ℕ) (o : Options) (spans : List Span) (verdicts : List Verdict) (status : ℕ) → length spans ≡ 0
    → ((a : Outcome) × (status ≡ (told a).status) × IfSchema held a (λ s. IsTried Done s n o a)) → IsEachAnswered held n o spans verdicts status
of_none held n o [] verdicts status e h = h
of_none held n o (span ∷ more) verdicts status e h = absurd (omega arith)

pub returns-then-is_empty-clause-good : goal.returns-then-is_empty-clause-good
returns-then-is_empty-clause-good c =
    let none = eqb-true (length c.args.spans.now) 0 (sym c.is_empty.ensures ∙ c.if-is_empty.true) in
    of_none c.args.schema.held (levels c.args.room.now.inside) c.args.options.now c.args.spans.now c.check_each.new.verdicts c.try_options.result none (rw (← c.held-held.ensures, ← c.check_each.ensures.kept) c.try_options.ensures.tried)
