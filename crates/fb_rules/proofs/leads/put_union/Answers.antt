use Rattle.std.proofs.Common.{◌≡◌, refl, sym, ◌∙◌, ap, true≢false, None, Some}
use Rattle.fb_schema.specs.Members.{member_of}
use Rattle.fb_schema.proofs.ToldKinds.{told_of}
use Rattle.fb_rules.specs.{Fields.lead_of, OffsetRows.lead_to, OffsetRows.type_of_slot, OffsetRows.type_reads, Order.table_failure}
use Rattle.fb_rules.proofs.{Words.word_left, Members.no_member, Members.some_member, Plains.after_twice}
use Rattle.fb_rules.proofs.leads.put_union.Goals as goal

-- the type of the union has no member
none : (c : goal.In-Nothing) → member_of c.args.schema.now c.args.union (type_of_slot c.args.reads.now.bytes c.args.table.at c.args.slot) ≡ None
none c =
    let member = member_of c.args.schema.now c.args.union c.type_of-value.result in
    let lead = (c.referent_among-referent.ensures).lead in
    ap (member_of c.args.schema.now c.args.union) (sym c.type_of-value.ensures.0) ∙ no_member c.args.schema.now member (told_of c.args.schema.now c.lawful.ensures.legal c.args.union c.type_of-value.result) (rw c.in-Nothing.is at lead)

pub returns-in-Nothing-clause-tested : goal.returns-in-Nothing-clause-tested
returns-in-Nothing-clause-tested c =
    let counted = c.type_of-value.ensures.1 in
    record { told = rw (none c) refl; counted = λ _. ap (λ m. m.count) counted; bytes = ap (λ m. m.bytes) counted; base = ap (λ m. m.base) counted }

pub returns-in-Nothing-clause-leads : goal.returns-in-Nothing-clause-leads
returns-in-Nothing-clause-leads c =
    let rests = c.requires.rests in
    λ _. record { none = λ _. (rw (none c) refl, refl); entries = rw rests (λ e. absurd (true≢false (sym e))); row = rw rests (λ e. absurd (true≢false (sym e))) }

pub returns : goal.returns
returns c =
    let value = c.type_of-value.ensures.0 in
    let e = c.referent_among-referent.ensures in
    let counted = c.type_of-value.ensures.1 in
    let some = some_member c.args.schema.now (member_of c.args.schema.now c.args.union c.type_of-value.result) c.referent_among-referent.result e.lead c.in_default.not-Nothing in
    let lead : lead_to c.referent_among-referent.result ≡ lead_of c.args.schema.now (Some some.0) = rw some.1 at e.lead in
    let failure = table_failure c.args.checks c.args.reads.now.bytes c.args.table.at c.args.at 4 in
    record {
      tested = record {
        told = rw (sym value, some.1, counted) (rw counted at c.put_word.ensures.told ∙ sym (after_twice c.args.reads.now.count (type_reads c.args.reads.now.bytes c.args.table.at c.args.slot) failure));
        counted = λ _. ap (λ m. m.count) counted;
        bytes = ap (λ m. m.bytes) counted;
        base = ap (λ m. m.base) counted;
      };
      one = λ ok more. rw (c.put_word.ensures.row ok) (refl, tt);
      leads = λ ok. rw (sym value, some.1, c.put_word.ensures.row ok, ← lead) (word_left c.referent_among-referent.result c.args.at c.args.row.now c.requires.placed.place e.referent);
    }
