use Rattle.std.proofs.Common.{◌≡◌, map, get_or, sym, ◌∙◌, below_more, refl}
use Rattle.std.proofs.lemmas.{Option.slice_get-get_or, List.length-map}
use Rattle.fb_schema.specs.{FlatRows.borrowed_rows, Rows.field_of, Demands.demands_of_struct_field, Demands.first_code, Demands.struct_asked}
use Rattle.fb_schema.proofs.{Blank.blank_field, WalkLemmas.struct_code, WalkLemmas.past_list}
use Rattle.fb_schema.proofs.first_fault.struct_fields_fault.Goals as goal
use Rattle.fb_schema.proofs.first_fault.struct_fields_fault.Goals.{After-struct_field_fault}

found : (g : _) (c : After-struct_field_fault g) → c.struct_field_fault.result ≡ first_code (struct_asked (borrowed_rows c.args.rows.now) c.args.object.now.bytesize (map field_of c.args.fields.now) c.loop-p.p)
found g c =
    let fields = c.args.fields.now in
    let p = c.loop-p.p in
    c.struct_field_fault.ensures
    ∙ struct_code (borrowed_rows c.args.rows.now) c.args.object.now.bytesize fields p (get_or fields p blank_field) c.in_ok-again.again c.is_at-named.result (slice_get-get_or fields p blank_field c.loop-p-test.true) c.in_ok-again.ensures c.loop-p.invariant c.is_at-named.ensures

pub returns-in-Some : goal.returns-in-Some
returns-in-Some g c = (sym (found g (goal.at.returns-in-Some g c).After-struct_field_fault) ∙ c.in-Some.is, c.loop-p.invariant)

pub loop-p-preserved : goal.loop-p-preserved
loop-p-preserved g c = below_more _ _ c.loop-p.invariant (sym (found g (goal.at.loop-p-preserved g c).After-struct_field_fault) ∙ c.in_default.is)

pub returns : goal.returns
returns g c = past_list _ (demands_of_struct_field (borrowed_rows c.args.rows.now) c.args.object.now.bytesize (map field_of c.args.fields.now)) (λ q. refl) c.loop-p.p (rw length-map c.loop-p-test.false) c.loop-p.invariant
