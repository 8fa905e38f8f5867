use Rattle.std.proofs.Common.{◌≡◌, ◌⊎◌, inl, inr, Some, None, sym, ap, ◌∙◌}
use Rattle.std.proofs.lemmas.Result.{IfOk-weaker}
use Rattle.fb_bytes.specs.Word.{Lent, word}
use Rattle.fb_rules.specs.{Places.field_place, Fields.type_place}
use Rattle.fb_rules.specs.Order.{after}
use Rattle.fb_strict.specs.declared.demands.Demands.{Demands}
use Rattle.fb_strict.specs.{InOrder.where_asked, InOrder.together_failure, Asked.vectors_reads, Planned.Planned, Passing.Passing, Passing.wants_of}
use Rattle.fb_strict.proofs.Answered.{only_read, stands, stands_not, nothing_read, nothing_put, tested_after, none_tested, together_tested, found_none, none_failed, nothing_after, reads_more, not_none, is_none, always}
use Rattle.fb_strict.proofs.pass.Pass.pass_unions.Goals as goal
use Rattle.fb_strict.proofs.pass.Pass.pass_unions.Goals.{After-u32_at-arg-1}

-- src/pass.rt
pub returns-then-is_some : goal.returns-then-is_some
returns-then-is_some g c =
    let m = c.args.reads.now in
    let mid = c.read_places-places.new.reads in
    let t = c.args.table.at in
    let p = c.read_places-places.ensures.places in
    let k = c.args.self.now in
    let x = (k.plan).demands.unions in
    let plan = ap (λ (x : Passing). x.plan) c.self.view_is in
    let asked = ap (λ (D : Demands). D.unions) c.demands-asked.ensures ∙ ap (λ (q : Planned). q.demands.unions) plan in
    let failed = c.test_together-failed.result in
    let some = not_none failed (sym c.if-is_some.true ∙ c.is_some.ensures) in
    let told = rw (p.types, p.value, asked) at (c.test_together-failed.ensures mid.count) in
    let o = type_place m.bytes t c.args.slot in
    let q = field_place m.bytes t c.args.slot in
    let a = c.answer.ensures m _ _ (tested_after m mid mid c.test_together-failed.new.at (where_asked x (together_failure o q)) _ (vectors_reads o q) failed c.read_places-places.ensures.counted
    (together_tested x mid c.test_together-failed.new.at failed o q _ told (λ none. absurd (some none)))) in
    record { asked = a; row = IfOk-weaker c.answer.result _ _ (λ u h. absurd (some (none_failed c.test_together-failed.new.at mid.count failed (told ∙ ap (after mid.count) (nothing_after _ _ h))))) a.ok }

-- src/pass.rt
pub returns-then-places-table : goal.returns-then-places-table
returns-then-places-table g c =
    let m = c.args.reads.now in
    let mid = c.read_places-places.new.reads in
    let t = c.args.table.at in
    let p = c.read_places-places.ensures.places in
    let x = (c.args.self.now.plan).demands.unions in
    let plan = ap (λ (x : Passing). x.plan) c.self.view_is in
    let asked = ap (λ (D : Demands). D.unions) c.demands-asked.ensures ∙ ap (λ (q : Planned). q.demands.unions) plan in
    let o = type_place m.bytes t c.args.slot in
    let q = field_place m.bytes t c.args.slot in
    let failed = c.test_together-failed.result in
    let none = is_none failed (sym c.if-is_some.false ∙ c.is_some.ensures) in
    let met : where_asked x (together_failure o q) ≡ None = found_none c.test_together-failed.new.at 0 failed _ (rw (p.types, p.value, asked) at (c.test_together-failed.ensures 0)) none in
    let absent : (q ≡ None) ⊎ (o ≡ None) = inl (sym p.value ∙ stands_not t c.read_places-places.result.value c.if-places-table.true) in
    record {
      asked = rw (met, nothing_read o q absent) (c.answer-then-places-table.ensures m None _ (tested_after m mid mid t None _ 0 None c.read_places-places.ensures.counted (none_tested mid t)));
      row = always c.answer-then-places-table.result (nothing_put (wants_of c.args.self.now) m.bytes c.args.self.now.rows c.args.union c.args.row.now o q absent);
    }

pub returns-then-places-table-2 : goal.returns-then-places-table-2
returns-then-places-table-2 g c =
    let m = c.args.reads.now in
    let mid = c.read_places-places.new.reads in
    let t = c.args.table.at in
    let p = c.read_places-places.ensures.places in
    let x = (c.args.self.now.plan).demands.unions in
    let plan = ap (λ (x : Passing). x.plan) c.self.view_is in
    let asked = ap (λ (D : Demands). D.unions) c.demands-asked.ensures ∙ ap (λ (q : Planned). q.demands.unions) plan in
    let o = type_place m.bytes t c.args.slot in
    let q = field_place m.bytes t c.args.slot in
    let failed = c.test_together-failed.result in
    let none = is_none failed (sym c.if-is_some.false ∙ c.is_some.ensures) in
    let met : where_asked x (together_failure o q) ≡ None = found_none c.test_together-failed.new.at 0 failed _ (rw (p.types, p.value, asked) at (c.test_together-failed.ensures 0)) none in
    let absent : (q ≡ None) ⊎ (o ≡ None) = inr (sym p.types ∙ stands_not t c.read_places-places.result.types c.if-places-table-2.true) in
    record {
      asked = rw (met, nothing_read o q absent) (c.answer-then-places-table-2.ensures m None _ (tested_after m mid mid t None _ 0 None c.read_places-places.ensures.counted (none_tested mid t)));
      row = always c.answer-then-places-table-2.result (nothing_put (wants_of c.args.self.now) m.bytes c.args.self.now.rows c.args.union c.args.row.now o q absent);
    }

-- the field and its types are there
value_there : (g : _) (c : After-u32_at-arg-1 g) → field_place c.args.reads.now.bytes c.args.table.at c.args.slot ≡ Some c.read_places-places.result.value
value_there g c = sym c.read_places-places.ensures.places.value ∙ stands c.args.table.at c.read_places-places.result.value c.if-places-table.false

types_there : (g : _) (c : After-u32_at-arg-1 g) → type_place c.args.reads.now.bytes c.args.table.at c.args.slot ≡ Some c.read_places-places.result.types
types_there g c = sym c.read_places-places.ensures.places.types ∙ stands c.args.table.at c.read_places-places.result.types c.if-places-table-2.false

same_bytes : (g : _) (c : After-u32_at-arg-1 g) → c.read_places-places.new.reads.bytes ≡ c.args.reads.now.bytes
same_bytes g c = ap (λ (x : Lent). x.bytes) c.read_places-places.ensures.counted

pub u32_at-requires-clause-fits : goal.u32_at-requires-clause-fits
u32_at-requires-clause-fits g c = rw (same_bytes g c) (c.requires.taskable.0.offset _ (types_there g c))

pub read_row-words-requires-clause-stands : goal.read_row-words-requires-clause-stands
read_row-words-requires-clause-stands g c =
    let u = (goal.at.read_row-words-requires-clause-stands g c).After-u32_at-arg-1 in
    rw (ap (λ (x : Lent). x.bytes) c.u32_at.ensures.counted ∙ same_bytes g u) (c.requires.taskable.1 _ (value_there g u))

pub returns : goal.returns
returns g c =
    let u = (goal.at.returns g c).After-u32_at-arg-1 in
    let m = c.args.reads.now in
    let mid = c.read_places-places.new.reads in
    let t = c.args.table.at in
    let p = c.read_places-places.ensures.places in
    let x = (c.args.self.now.plan).demands.unions in
    let plan = ap (λ (x : Passing). x.plan) c.self.view_is in
    let asked = ap (λ (D : Demands). D.unions) c.demands-asked.ensures ∙ ap (λ (q : Planned). q.demands.unions) plan in
    let o = type_place m.bytes t c.args.slot in
    let q = field_place m.bytes t c.args.slot in
    let failed = c.test_together-failed.result in
    let none = is_none failed (sym c.if-is_some.false ∙ c.is_some.ensures) in
    let met : where_asked x (together_failure o q) ≡ None = found_none c.test_together-failed.new.at 0 failed _ (rw (p.types, p.value, asked) at (c.test_together-failed.ensures 0)) none in
    let bytes = ap (λ (x : Lent). x.bytes) c.u32_at.ensures.counted in
    let number = c.from.ensures ∙ c.u32_at.ensures.number ∙ ap (λ b. word b c.read_places-places.result.types 4) (same_bytes g u) in
    let all = reads_more mid c.u32_at.new.self c.read_row-words.new.reads 1 2 c.u32_at.ensures.counted c.read_row-words.ensures.counted in
    let told = c.in_ok-answer.ensures m None _ (tested_after m mid c.read_row-words.new.reads t None _ 3 None c.read_places-places.ensures.counted (only_read mid c.read_row-words.new.reads t 3 all)) in
    record { asked = rw met (rw (types_there g u, value_there g u) told); row = rw (types_there g u, value_there g u) (rw (bytes, same_bytes g u, number) at c.read_row-words.ensures.row) }
