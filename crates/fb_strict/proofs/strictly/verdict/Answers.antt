use Rattle.std.proofs.Common.{◌≡◌, ◌≤◌, IsTrue, Err, List, inl, inr, length, take, ap, sym, subst, ◌∙◌, arith}
use Rattle.fb_schema.specs.Rows.{is_table}
use Rattle.fb_rules.specs.Verdict.{Reports}
use Rattle.fb_verify.specs.Sealed.{Sealed}
use Rattle.fb_strict.specs.{Levels.Whole, Nested.EndsWith}
use Rattle.fb_strict.proofs.Walking.{enough_still}
use Rattle.fb_strict.proofs.strictly.verdict.Goals as goal
use Rattle.fb_strict.proofs.strictly.verdict.Goals.{After-asking_of-asking}

-- what is asked, of the bytes that were walked
whole : (g : _) (c : After-asking_of-asking g) → c.asking_of-asking.result ≡ record { plan = c.args.plan.now; question = c.args.question.now; bytes = c.args.meter.bytes }
whole g c = c.asking_of-asking.ensures.value ∙ ap (λ (b : List _). record { plan = c.args.plan.now; question = c.args.question.now; bytes = b }) (c.window.ensures.value ∙ ap (λ (v : Sealed). v.bytes) c.in-Ok.ensures.kept)

-- src/strictly.rt
pub returns-in-Err-clause-no : goal.returns-in-Err-clause-no
returns-in-Err-clause-no g c = inl c.in-Err.ensures.no

pub returns-in-Err-clause-along : goal.returns-in-Err-clause-along
returns-in-Err-clause-along g c enough = inl (c.in-Err.ensures.along enough)

pub ask-requires-clause-table : goal.ask-requires-clause-table
ask-requires-clause-table g c = subst (λ (w : Whole). IsTrue (is_table (w.question).rows (w.question).root)) (sym c.asking_of-asking.ensures.value) c.requires.table

pub ask-requires-clause-reports : goal.ask-requires-clause-reports
ask-requires-clause-reports g c =
    let d = (goal.at.ask-requires-clause-reports g c).After-asking_of-asking in
    rw c.report.ensures.value (subst (λ (w : Whole). Reports w.question w.bytes c.in-Ok.verified.report) (sym (whole g d)) c.in-Ok.ensures.yes)

pub ask-requires-clause-lent : goal.ask-requires-clause-lent
ask-requires-clause-lent g c = enough_still c.requires.lent (ap (λ (w : Whole). ((w.question).limits).depth) c.asking_of-asking.ensures.value) c.walk.auto.lent c.walk.auto.links

pub ask-requires-clause-room : goal.ask-requires-clause-room
ask-requires-clause-room g c = omega (arith, c.requires.room, ap (λ (w : Whole). ((w.question).limits).depth) c.asking_of-asking.ensures.value)

pub returns-in-Ok-ask-clause-yes : goal.returns-in-Ok-ask-clause-yes
returns-in-Ok-ask-clause-yes g c =
    let d = (goal.at.returns-in-Ok-ask-clause-yes g c).After-asking_of-asking in
    rw (whole g d) at c.in-Ok-ask.ensures.yes

pub returns-in-Err-ask-clause-no : goal.returns-in-Err-ask-clause-no
returns-in-Err-ask-clause-no g c =
    let d = (goal.at.returns-in-Err-ask-clause-no g c).After-asking_of-asking in
    inr (rw (whole g d) at c.in-Err-ask.ensures.no)

pub returns-in-Err-ask-clause-along : goal.returns-in-Err-ask-clause-along
returns-in-Err-ask-clause-along g c enough =
    let d = (goal.at.returns-in-Err-ask-clause-along g c).After-asking_of-asking in
    let l = c.in-Err-ask.located in
    let row = c.walk.new.links in
    inr (subst (λ (w : Whole). ((w.question).limits).depth ≤ length row → EndsWith w.plan w.question w.bytes (Err (record { fault = l.fault; links = take l.links c.ask.new.links }))) (whole g d) c.in-Err-ask.ensures.along (omega (arith, enough, c.walk.auto.links)))
