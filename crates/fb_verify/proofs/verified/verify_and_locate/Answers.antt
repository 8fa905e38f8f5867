use Rattle.std.proofs.Common.{ℕ, List, take, refl, sym, ◌∙◌, ap, subst}
use Rattle.std.specs.List.{All}
use Rattle.fb_rules.specs.{Stops.Stops, Told.stopped}
use Rattle.fb_rules.proofs.Price.{reads_are_bounded}
use Rattle.fb_verify.specs.{Sealed.Sealed, Stack.IsLinked}
use Rattle.fb_verify.proofs.Verdicts.{links_along, price_of_yes, sealed_kept}
use Rattle.fb_verify.proofs.verified.verify_and_locate.Goals as goal

pub of-requires-clause-reports : goal.of-requires-clause-reports
of-requires-clause-reports c =
    rw (ap (λ m. m.bytes) c.settle.ensures.count ∙ ap (λ m. m.bytes) c.lend-loan.ensures.untold) (rw (ap (λ m. m.bytes) c.lend-loan.ensures.lent) at c.in-Ok.ensures.yes)

pub returns-in-Ok : goal.returns-in-Ok
returns-in-Ok c =
    let yes = rw (ap (λ m. m.bytes) c.lend-loan.ensures.lent) at c.in-Ok.ensures.yes in
    let report = ap (λ (v : Sealed). v.report) c.of.ensures in
    let kept = sealed_kept c.of.ensures (ap (λ m. m.bytes) c.settle.ensures.count ∙ ap (λ m. m.bytes) c.lend-loan.ensures.untold) in
    record { yes = rw report yes; kept = kept; none = tt; no = tt; along = tt; few = tt; price_of_yes = rw report (price_of_yes yes); price_of_no = tt; room = refl }

-- Where there is a fault.

pub located-requires-clause-linked : goal.located-requires-clause-linked
located-requires-clause-linked c =
    let a = c.args in
    let bytes = ap (λ m. m.bytes) c.settle.ensures.count ∙ ap (λ m. m.bytes) c.lend-loan.ensures.untold ∙ sym (ap (λ m. m.bytes) c.lend-loan.ensures.lent) in
    subst (λ (b : List ℕ). All (IsLinked a.question.now.checks b a.question.now.rows) (take c.in-Err.halt.links c.trace-answer.new.frames)) (sym bytes) (c.in-Err.ensures.along (rw c.trace-answer.auto.frames c.requires.room)).linked

pub located-requires-clause-frames : goal.located-requires-clause-frames
located-requires-clause-frames c = rw c.trace-answer.auto.frames c.requires.room

pub returns-in-Err : goal.returns-in-Err
returns-in-Err c =
    let a = c.args in
    let e = c.in-Err.ensures in
    let l = c.located.ensures in
    let lent = ap (λ m. m.bytes) c.lend-loan.ensures.lent in
    let bytes = ap (λ m. m.bytes) c.settle.ensures.count ∙ ap (λ m. m.bytes) c.lend-loan.ensures.untold in
    let fault = l.fault ∙ ap (λ m. stopped c.in-Err.halt.stop m.count) c.settle.ensures.count in
    let no : Stops a.question.now a.meter.bytes c.located.result.fault = rw fault (rw lent at e.no) in
    record {
      yes = tt;
      kept = tt;
      none = rw lent at e.none;
      no = no;
      along = links_along (rw lent at (e.along (rw c.trace-answer.auto.frames c.requires.room))) fault bytes l.links;
      few = l.within;
      price_of_yes = tt;
      price_of_no = reads_are_bounded a.question.now a.meter.bytes _ no;
      room = c.located.auto.links;
    }
