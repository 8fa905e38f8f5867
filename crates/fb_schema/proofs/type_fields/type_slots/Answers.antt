use Rattle.std.proofs.Common.{◌≡◌, ◌==◌, ◌+◌, map, take, length, sym, ap, ◌∙◌, arith}
use Rattle.std.proofs.{lemmas.List.Sorted.list_any-IsPermutation, Math.Seq.take-length}
use Rattle.fb_schema.specs.{Rows.field_of, Demands.stands_below, Demands.is_type_field}
use Rattle.fb_schema.proofs.SlotLemmas.{slot_added, slot_dead, slot_other}
use Rattle.fb_schema.proofs.type_fields.type_slots.Goals as goal
use Rattle.fb_schema.proofs.type_fields.type_slots.Goals.{then-not-field+then-is_type_field+in_ok-push, else-not-field, else-not-field-via-then-not-field+else-is_type_field, else-not-field-via-else-not-field}

pub returns : goal.returns
returns g c =
    let fields = c.args.fields.now in
    let whole : c.loop-field.field-index ≡ length fields = omega arith in
    let all : take c.loop-field.field-index fields ≡ fields = ap (λ n. take n fields) whole ∙ take-length fields in
    record {
      rises = c.sort_unstable.ensures.sorted;
      same = λ slot. sym (list_any-IsPermutation (λ s. s + 2 == slot) _ _ c.sort_unstable.ensures.permutation)
          ∙ c.loop-field.invariant slot
          ∙ ap (λ fs. stands_below c.args.wanted (map field_of fs) slot) all;
    }

pub loop-field-preserved : goal.loop-field-preserved
loop-field-preserved g c = elim c.if-not-field.branch [
  | then-not-field+then-is_type_field+in_ok-push w ↦ slot_added c.args.wanted c.args.fields.now c.loop-field.field-index _ c.loop-field.slots.items c.loop-field-test.true c.loop-field.invariant _ (ap (λ v. v.items) w.slots-is ∙ w.in_ok-push.ensures.items) w.if-not-field.true (ap (is_type_field c.args.wanted) (sym w.shape_of.ensures) ∙ sym w.is_type_field.ensures ∙ w.if-is_type_field.true)
  | else-not-field w ↦ elim w.else-not-field.branch [
    | else-not-field-via-then-not-field+else-is_type_field v ↦ slot_other c.args.wanted c.args.fields.now c.loop-field.field-index _ c.loop-field.slots.items c.loop-field-test.true c.loop-field.invariant _ (ap (λ v. v.items) w.slots-is) (ap (is_type_field c.args.wanted) (sym v.shape_of.ensures) ∙ sym v.is_type_field.ensures ∙ v.if-is_type_field.false)
    | else-not-field-via-else-not-field v ↦ slot_dead c.args.wanted c.args.fields.now c.loop-field.field-index _ c.loop-field.slots.items c.loop-field-test.true c.loop-field.invariant _ (ap (λ v. v.items) w.slots-is) v.if-not-field.false
  ]
]
