use Rattle.std.proofs.Common.{◌+◌, ◌≤◌, List, min, max, length, IsTrue, None, ap, refl, sym, subst, ◌∙◌, [], arith}
use Rattle.fb_schema.specs.Rows.{is_table}
use Rattle.fb_rules.specs.{Question.Question, Question.question, Told.stopped, Told.way_at, WellFormed.start_reads, Verdict.Reports, declared.fault.Report.Report, declared.start.Ident.Ident}
use Rattle.fb_rules.specs.declared.{start.Start.Start, site.LastLink.TheVariants.Behind}
use Rattle.fb_bytes.specs.Word.{Lent}
use Rattle.fb_rules.proofs.Refusals.{unfailed}
use Rattle.fb_verify.specs.{Stack.HaltsAlong, Stack.StopsIn, Stack.last_link, Stack.links_left, declared.scratch.Frame.Frame}
use Rattle.fb_verify.proofs.Turning.{walked_over}
use Rattle.fb_verify.proofs.Verdicts.{halts_at_start, halts_below, reports_all, fault_along, none_along, price_of_no, price_of_yes}
use Rattle.fb_verify.proofs.verdict.trace.Goals as goal

few_words : (start : Start) (ident : Ident) → start_reads start ident ≤ 3
few_words start ident = grind arith

pub returns-in-Err : goal.returns-in-Err
returns-in-Err c =
    let i = c.question.inside in
    let lent = c.lend-reads.ensures in
    let asked = rw (lent.bare, c.base_of-base.ensures.value) at c.in-Err.ensures _ _ _ _ (rw lent.lent at c.test_start-failed.ensures.0) in
    let f = stopped c.in-Err.stop c.answer.new.loan.count in
    let start = subst (λ q. HaltsAlong q c.args.loan.now.bytes [] Behind f) c.question.view_is (halts_at_start (question i.schema.now i.root i.start i.ident i.limits i.checks) c.args.loan.now c.answer.new.loan c.requires.fresh c.in-Err.stop asked) in
    record { yes = tt; none = none_along start; deep = rw c.halt.ensures (omega arith); no = rw c.halt.ensures (fault_along start); along = λ _. rw c.halt.ensures start; price = price_of_no start; read = tt; bytes = asked.bytes }

pub run-requires : goal.run-requires
run-requires c =
    let i = c.question.inside in
    let back = sym c.question.view_is in
    let lent = c.lend-reads.ensures in
    let tested = rw lent.lent at c.test_start-failed.ensures in
    let asked = rw (lent.bare, c.base_of-base.ensures.value) at c.in-Ok.ensures _ _ _ _ tested.0 in
    let near = (tested.1 (unfailed _ _ _ _ _ tested.0.told asked.ok)).1 in
    let table = subst (λ (q : Question). IsTrue (is_table q.rows q.root)) back c.requires.table in
    let some = subst (λ (q : Question). min (q.limits).depth 1 ≤ length c.args.frames.now) back c.requires.some in
    let room = subst (λ (q : Question). (q.limits).depth ≤ max 64 (length c.args.frames.now)) back c.requires.room in
    (refl, (c.lawful.ensures.served, (table, (near, (some, (room, (omega arith, (omega arith, (asked.reads, omega (arith, few_words i.start i.ident, c.requires.fresh, ap (λ (m : Lent). m.count) asked.counted))))))))))

pub returns-in-Ok-run : goal.returns-in-Ok-run
returns-in-Ok-run c =
    let i = c.question.inside in
    let lent = c.lend-reads.ensures in
    let tested = rw lent.lent at c.test_start-failed.ensures in
    let asked = rw (lent.bare, c.base_of-base.ensures.value) at c.in-Ok.ensures _ _ _ _ tested.0 in
    let at = (tested.1 (unfailed _ _ _ _ _ tested.0.told asked.ok)).0 in
    let ran = c.in-Ok-run.ensures in
    let report : Report = record { tables = c.run.new.self.tables; depth = c.run.new.self.deepest; reads = c.reads.result } in
    let all = reports_all (question i.schema.now i.root i.start i.ident i.limits i.checks) c.args.loan.now c.answer.new.loan c.requires.fresh _ at asked c.run.new.self.tables c.run.new.self.deepest c.run.new.loan.count c.reads.result
    (rw asked.bytes at (walked_over ran)) ran.within ran.shallow ran.reads c.reads.ensures.count in
    let t = subst (λ q. Reports q c.args.loan.now.bytes report) c.question.view_is all in
    let count = c.reads.ensures.count in
    record { yes = t; none = tt; deep = tt; no = tt; along = tt; price = omega (arith, price_of_yes t, count); read = sym count; bytes = ran.bytes ∙ asked.bytes }

pub returns-in-Err-run : goal.returns-in-Err-run
returns-in-Err-run c =
    let i = c.question.inside in
    let lent = c.lend-reads.ensures in
    let tested = rw lent.lent at c.test_start-failed.ensures in
    let asked = rw (lent.bare, c.base_of-base.ensures.value) at c.in-Ok.ensures _ _ _ _ tested.0 in
    let at = (tested.1 (unfailed _ _ _ _ _ tested.0.told asked.ok)).0 in
    let e = c.in-Err-run.ensures in
    let halt = c.in-Err-run.halt in
    let f = stopped halt.stop c.run.new.loan.count in
    let b = c.args.loan.now.bytes in
    let q : Question = question i.schema.now i.root i.start i.ident i.limits i.checks in
    let halts : (way : List Frame) → StopsIn q.checks b q.rows q.limits (record { object = q.root; position = c.test_start-failed.new.at; way = way_at 0 0 0 c.answer.new.loan.count (record { object = q.root; field = None }) }) way (last_link halt.last f) f
    → HaltsAlong c.args.question.now b way halt.last f = λ way h. subst (λ q. HaltsAlong q b way halt.last f) c.question.view_is (halts_below q c.args.loan.now c.answer.new.loan c.requires.fresh _ at asked way halt.last f h) in
    let some = halts _ (rw asked.bytes at (e.wrong).err) in
    record {
      yes = tt;
      none = none_along some;
      deep = subst (λ (q : Question). halt.links + links_left halt.last ≤ (q.limits).depth) c.question.view_is (e.wrong).deep;
      no = fault_along some;
      along = λ enough. halts _ (rw asked.bytes at (e.along (subst (λ (q : Question). (q.limits).depth ≤ length c.run.new.frames) (sym c.question.view_is) enough)));
      price = price_of_no some;
      read = tt;
      bytes = (e.wrong).bytes ∙ asked.bytes;
    }
