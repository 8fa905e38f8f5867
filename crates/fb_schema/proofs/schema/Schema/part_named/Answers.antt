use Rattle.std.proofs.Common.{◌≡◌, ℕ, List, map, true, false, position, bytes_eq, sym, ap, ◌∙◌, arith}
use Rattle.fb_schema.specs.{declared.rows.FieldRow.FieldRow, Parts.part_named, Parts.parts_of, Rows.Field, Rows.Rows, Rows.field_of}
use Rattle.fb_schema.proofs.PositionLemmas.{first_position, no_position, below_same, position_mapped}
use Rattle.fb_schema.proofs.schema.Schema.part_named.Goals as goal

-- the place among the fields is that among the rows
told : (rows : Rows) (n : ℕ) (fields : List FieldRow) (name : List ℕ) → map field_of fields ≡ parts_of rows n → position (λ (f : FieldRow). bytes_eq f.name.now name) fields ≡ part_named rows n name
unfolding part_named
told rows n fields name e = sym (position_mapped field_of (λ (f : Field). bytes_eq f.name name) fields) ∙ ap (position (λ (f : Field). bytes_eq f.name name)) e

pub returns-then-eq : goal.returns-then-eq
returns-then-eq g c = sym (first_position (λ (f : FieldRow). bytes_eq f.name.now c.args.name.now) c.parts_of-fields.result.now c.loop-place.place _ c.loop-place-test.true (sym c.eq.ensures ∙ c.if-eq.true) c.loop-place.invariant)
    ∙ told c.args.self.now c.args.n c.parts_of-fields.result.now c.args.name.now c.parts_of-fields.ensures.value

pub loop-place-preserved : goal.loop-place-preserved
loop-place-preserved g c = below_same (λ (f : FieldRow). bytes_eq f.name.now c.args.name.now) c.parts_of-fields.result.now c.loop-place.place _ false c.loop-place-test.true c.loop-place.invariant (sym c.eq.ensures ∙ c.if-eq.false)

pub returns : goal.returns
returns g c = sym (no_position (λ (f : FieldRow). bytes_eq f.name.now c.args.name.now) c.parts_of-fields.result.now (λ j d lt passes. let w : true ≡ false = sym passes ∙ c.loop-place.invariant j d (let past = c.loop-place-test.false in omega (arith, lt, past)) in cc))
    ∙ told c.args.self.now c.args.n c.parts_of-fields.result.now c.args.name.now c.parts_of-fields.ensures.value
