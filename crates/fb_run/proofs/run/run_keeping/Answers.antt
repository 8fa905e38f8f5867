use Rattle.std.proofs.Common.{ap, sym, ◌∙◌}
use Rattle.fb_run.specs.{Leave.all_ends, declared.options.Terms.Terms}
use Rattle.fb_run.proofs.RunLemmas.{ends_none, prompt_by, runs_from, runs_none}
use Rattle.fb_run.proofs.run.run_keeping.Goals as goal

pub returns-clause-run : goal.returns-clause-run
returns-clause-run g c = rw c.tally-tally-2.ensures (rw c.new-checker.ensures at (runs_from (sym c.if-terms.false ∙ ap (λ (t : Terms). t.bare) c.terms.ensures.value) c.pass_all-end.ensures)).run

pub returns-then-terms-clause-run : goal.returns-then-terms-clause-run
returns-then-terms-clause-run g c = rw c.tally-tally.ensures (rw c.new-checker.ensures at (runs_from (sym c.if-terms.true ∙ ap (λ (t : Terms). t.bare) c.terms.ensures.value) c.pass_bare-end.ensures)).run

pub pass_all-end-requires-clause-leave : goal.pass_all-end-requires-clause-leave
pass_all-end-requires-clause-leave g c now prompt unended =
    c.requires.leave now (prompt_by (all_ends g.S.Input g.K.Sink g.N.Sink g.R.Sink c.args.reader.now c.args.writer.now c.args.notes.now c.args.rejects.now) now c.new-checker.ensures (sym (ap (λ (t : Terms). t.bare) c.terms.ensures.value) ∙ c.if-terms.false) prompt) unended

pub pass_bare-end-requires-clause-leave : goal.pass_bare-end-requires-clause-leave
pass_bare-end-requires-clause-leave g c now prompt unended =
    c.requires.leave now (prompt_by (all_ends g.S.Input g.K.Sink g.N.Sink g.R.Sink c.args.reader.now c.args.writer.now c.args.notes.now c.args.rejects.now) now c.new-checker.ensures (sym (ap (λ (t : Terms). t.bare) c.terms.ensures.value) ∙ c.if-terms.true) prompt) unended

pub returns-in_default-clause-run : goal.returns-in_default-clause-run
returns-in_default-clause-run g c = runs_none _ _ _ c.none.ensures

pub returns-in_default-clause-end : goal.returns-in_default-clause-end
returns-in_default-clause-end g c = ends_none (all_ends g.S.Input g.K.Sink g.N.Sink g.R.Sink c.args.reader.now c.args.writer.now c.args.notes.now c.args.rejects.now) _ _ c.none.ensures

pub returns-in_default-new-clause-run : goal.returns-in_default-new-clause-run
returns-in_default-new-clause-run g c = runs_none _ _ _ c.none-in_default-new.ensures

pub returns-in_default-new-clause-end : goal.returns-in_default-new-clause-end
returns-in_default-new-clause-end g c = ends_none (all_ends g.S.Input g.K.Sink g.N.Sink g.R.Sink c.args.reader.now c.args.writer.now c.args.notes.now c.args.rejects.now) _ _ c.none-in_default-new.ensures
