use Rattle.std.proofs.Common.{◌≡◌, ◌+◌, refl, sym, ◌∙◌, ap, None, arith}
use Rattle.fb_bytes.specs.Word.{Lent}
use Rattle.fb_rules.specs.{Cost.lead_reads, OffsetRows.first_word, OffsetRows.lead_to, Order.element_failure}
use Rattle.fb_rules.proofs.{Words.first_place, Refusals.unfound, Refusals.tested_tells, Refusals.spent, Refusals.told_lead_reads}
use Rattle.fb_verify.proofs.{Flats.word_told, Flats.is_leaf, stack.Walk.pass_element.Goals.In_default}
use Rattle.fb_verify.proofs.stack.Walk.pass_element.Goals as goal

pub test_lead-failed-requires-clause-stands : goal.test_lead-failed-requires-clause-stands
test_lead-failed-requires-clause-stands c = λ e. absurd cc

-- an element of which no test failed holds
holds : (c : In_default) → element_failure c.args.self.now.checks c.args.loan.now.bytes (first_word c.args.loan.now.bytes c.args.self.now.schema.now c.args.row) ≡ None
holds c =
    let m = c.args.loan.now in
    let r = rw c.lend-reads.ensures.lent at c.first_referent-referent.ensures in
    let t = rw r.counted at c.test_lead-failed.ensures in
    unfound _ _ _ _ _ (word_told c.args.self.now.checks m.bytes c.args.self.now.schema.now c.args.row _ r.lead _ _ refl _ t.told) c.in_default.ensures.ok

-- and these are its reads
counted : (c : In_default) → let x = first_word c.args.loan.now.bytes c.args.self.now.schema.now c.args.row in c.settle.new.self ≡ record c.args.loan.now { count = c.args.loan.now.count + x.reads + lead_reads x.lead }
counted c =
    let lent = c.lend-reads.ensures in
    let r = rw lent.lent at c.first_referent-referent.ensures in
    let t = rw r.counted at c.test_lead-failed.ensures in
    rw (c.settle.ensures, lent.bare, t.bytes, rw r.lead at t.counted c.in_default.ensures.ok) refl

pub returns-in-Err : goal.returns-in-Err
returns-in-Err c =
    let m = c.args.loan.now in
    let r = rw c.lend-reads.ensures.lent at c.first_referent-referent.ensures in
    let t = rw r.counted at c.test_lead-failed.ensures in
    let e = c.in-Err.ensures.err in
    let found = word_told c.args.self.now.checks m.bytes c.args.self.now.schema.now c.args.row _ r.lead _ _ refl _ t.told in
    record { err = rw (e.1, c.settle.ensures) (tested_tells c.args.site m.count _ _ _ _ _ (rw e.0 at found)); bytes = rw c.settle.ensures t.bytes }

pub returns-in-Table : goal.returns-in-Table
returns-in-Table c =
    let d = (goal.at.returns-in-Table c).In_default in
    let r = rw c.lend-reads.ensures.lent at c.first_referent-referent.ensures in
    let t = rw r.counted at c.test_lead-failed.ensures in
    let none = c.in_default.ensures.ok in
    record { ok = holds d; leads = sym r.lead ∙ ap lead_to c.in-Table.is; at = t.value none _ c.in-Table.is; table = c.in-Table.ensures.referent; near = t.near none _ c.in-Table.is; counted = counted d }

pub returns-in-Ok : goal.returns-in-Ok
returns-in-Ok c =
    let d = (goal.at.returns-in-Ok c).In_default in
    let r = rw c.lend-reads.ensures.lent at c.first_referent-referent.ensures in
    record { ok = holds d; leaf = rw r.lead at (is_leaf c.first_referent-referent.result c.in_default-referent.not-Table); counted = counted d; reads = c.in-Ok.ensures.ok }

pub returns-in-Err-ask_reads : goal.returns-in-Err-ask_reads
returns-in-Err-ask_reads c =
    let d = (goal.at.returns-in-Err-ask_reads c).In_default in
    let m = c.args.loan.now in
    let S = c.args.self.now.schema.now in
    let x = first_word m.bytes S c.args.row in
    let r = rw c.lend-reads.ensures.lent at c.first_referent-referent.ensures in
    let e = c.in-Err-ask_reads.ensures in
    let leaf = rw r.lead at (is_leaf c.first_referent-referent.result c.in_default-referent.not-Table) in
    let all : c.settle.new.self.count ≡ m.count + (x.reads + lead_reads x.lead) = omega (arith, ap (λ (n : Lent). n.count) (counted d)) in
    record {
      err = told_lead_reads c.args.self.now.limits c.args.site m.count _ x x.lead _ _ leaf (holds d) all e.spent (e.err ∙ ap (spent c.args.site) (sym (first_place m.bytes S c.args.row)));
      bytes = ap (λ (n : Lent). n.bytes) (counted d);
    }
