use Rattle.std.proofs.Common.{arith, sym, ◌∙◌}
use Rattle.fb_schema.specs.Live.{live_of_view}
use Rattle.fbcheck_calls.proofs.MarkLemmas.{marks_for, no_marks_for}
use Rattle.fbcheck_calls.proofs.basis.marks_asked.Goals as goal

pub returns-then-not-asks_marks-clause-ok : goal.returns-then-not-asks_marks-clause-ok
returns-then-not-asks_marks-clause-ok c = no_marks_for c.args.file.now c.args.options.now c.args.loaded.now.schema c.new.result.items (sym c.asks_marks.ensures ∙ c.if-not-asks_marks.true) (grind arith)

pub returns-in-Ok-None-clause-ok : goal.returns-in-Ok-None-clause-ok
returns-in-Ok-None-clause-ok c =
    marks_for c.args.file.now c.args.options.now c.args.loaded.now.schema c.in-Ok.marks (sym c.asks_marks.ensures ∙ c.if-not-asks_marks.false) (rw c.requires.limits at c.in-Ok.ensures.yes)
    (rw c.in-Ok-None.field-0-is at c.in-Ok-None.ensures)

pub returns-in-Ok-Some-clause-no : goal.returns-in-Ok-Some-clause-no
returns-in-Ok-Some-clause-no c =
    let found = c.in-Ok-Some.found in (
      c.requires.has,
      (c.args.loaded.now, rw c.requires.limits at c.requires.loaded, c.in-Ok.marks, (sym c.asks_marks.ensures ∙ c.if-not-asks_marks.false, rw c.requires.limits at c.in-Ok.ensures.yes), found.table, live_of_view found.field, c.numbered.ensures, rw c.in-Ok-Some.field-0-is at c.in-Ok-Some.ensures),
    )
