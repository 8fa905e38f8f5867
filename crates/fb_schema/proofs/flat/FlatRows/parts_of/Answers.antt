use Rattle.std.proofs.Common.{[], slice_get, length, ◌≤◌, map, if◌then◌else◌, sym, ap, subst, ◌∙◌}
use Rattle.fb_schema.specs.{Flat.part, FlatRows.object_in, Rows.field_of, Parts.parts_in}
use Rattle.fb_schema.proofs.{LookLemmas.past_mapped, NextRequired.item_lent, NextRequired.no_item_lent, WalkLemmas.mapped_at}
use Rattle.fb_schema.proofs.flat.FlatRows.parts_of.Goals as goal
use Rattle.fb_schema.proofs.flat.FlatRows.parts_of.Goals.{in-Some, in_default-2, in_default}

pub returns-clause-value : goal.returns-clause-value
returns-clause-value g c =
    let s = c.args.self.now in
    let k = c.args.k in
    let fields = s.fields.items in
    let objects = s.objects.items in
    ap (map field_of) (c.part.ensures.value ∙ ap (λ xs. part xs c.match-get.range) c.deref-2.ensures.value)
    ∙ elim c.match-get.branch [
      | in-Some w ↦ (
          let o = w.in-Some.object in
          let at = ap (λ xs. slice_get xs k) (sym c.deref.ensures.value) ∙ item_lent c.deref.result.now k c.get.result o c.get.ensures.lookup w.in-Some.is in
          ap (λ r. map field_of (part fields r)) w.range-is ∙ sym (ap parts_in (mapped_at (object_in fields) objects k o.now at) ∙ ap (λ b. if b then map field_of (part fields o.now.fields) else []) w.if-object.true)
          )
      | in_default-2 w ↦ (
          let o = w.in-Some.object in
          let at = ap (λ xs. slice_get xs k) (sym c.deref.ensures.value) ∙ item_lent c.deref.result.now k c.get.result o c.get.ensures.lookup w.in-Some.is in
          ap (λ r. map field_of (part fields r)) w.range-is ∙ sym (ap parts_in (mapped_at (object_in fields) objects k o.now at) ∙ ap (λ b. if b then map field_of (part fields o.now.fields) else []) w.if-object.false)
          )
      | in_default w ↦ (
          let past = subst (λ xs. length xs ≤ k) c.deref.ensures.value (no_item_lent c.deref.result.now k c.get.result c.get.ensures.lookup w.in_default.is) in
          ap (λ r. map field_of (part fields r)) w.range-is ∙ sym (ap parts_in (past_mapped (object_in fields) objects k past))
          )
    ]
