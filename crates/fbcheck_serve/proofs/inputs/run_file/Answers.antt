use Rattle.std.proofs.Common.{◌∙◌, refl, rules, sym}
use Rattle.fbcheck_serve.proofs.inputs.run_file.Goals as goal

pub returns-in-Ok-open-clause-comes : goal.returns-in-Ok-open-clause-comes
returns-in-Ok-open-clause-comes g c =
    rw (c.by-in-Ok-open.ensures.what, sym c.is_standard.ensures ∙ c.if-is_standard.false) (record {
      from = c.in-Ok-open.file;
      to = c.run_keeping-ran-in-Ok-open.new.reader;
      named = c.in-Ok.ensures.text.1;
      opened = rw c.in-Ok.ensures.text.0 at c.in-Ok-open.ensures.opened;
      fresh = (c.in-Ok-open.ensures.fresh, c.in-Ok-open.ensures.unended);
      bytes = rw c.in-Ok.ensures.text.0 at c.in-Ok-open.ensures.bytes;
      run = c.run_keeping-ran-in-Ok-open.ensures.run;
      end = c.run_keeping-ran-in-Ok-open.ensures.end;
      turns = rw c.in-Ok-open.ensures.fresh at c.run_keeping-ran-in-Ok-open.ensures.turns;
      cause_is = c.by-in-Ok-open.ensures.cause;
      reader = refl;
      unread = refl;
    })

pub run_keeping-ran-requires-in-Ok-open-clause-leave : goal.run_keeping-ran-requires-in-Ok-open-clause-leave
run_keeping-ran-requires-in-Ok-open-clause-leave g c now prompt unended =
    c.requires.files (sym c.is_standard.ensures ∙ c.if-is_standard.false) c.in-Ok-open.file now (rw c.in-Ok.ensures.text.0 at c.in-Ok-open.ensures.opened) prompt unended

pub returns-in-Err-open-clause-comes : goal.returns-in-Err-open-clause-comes
returns-in-Err-open-clause-comes g c =
    rw c.missed-in-Err-open.ensures ((sym c.is_standard.ensures ∙ c.if-is_standard.false, c.in-Ok.ensures.text.1, rw c.in-Ok.ensures.text.0 at c.in-Err-open.ensures.fault), refl)

pub returns-in-Err-clause-comes : goal.returns-in-Err-clause-comes
returns-in-Err-clause-comes g c = rw c.missed-in-Err.ensures ((sym c.is_standard.ensures ∙ c.if-is_standard.false, c.in-Err.ensures.wrong), refl)

pub returns-in-Spent-clause-comes : goal.returns-in-Spent-clause-comes
returns-in-Spent-clause-comes g c = rw c.missed.ensures ((sym c.is_standard.ensures ∙ c.if-is_standard.true, c.in-Spent.is), refl)

pub returns-in-Unread-clause-comes : goal.returns-in-Unread-clause-comes
returns-in-Unread-clause-comes g c = search rules
