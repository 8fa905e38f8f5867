use Rattle.std.proofs.Common.{◌≡◌, map, get_or, sym, ◌∙◌, below_more}
use Rattle.std.proofs.lemmas.Option.{slice_get-get_or}
use Rattle.fb_schema.specs.declared.kinds.TypeField.TheVariants.{ForUnion, ForUnions}
use Rattle.fb_schema.specs.{FlatRows.borrowed_rows, Rows.field_of, Demands.first_code, Demands.table_asked}
use Rattle.fb_schema.proofs.{Blank.blank_field, WalkLemmas.table_code}
use Rattle.fb_schema.proofs.first_fault.first_table_fault.Goals as goal
use Rattle.fb_schema.proofs.first_fault.first_table_fault.Goals.{After-table_field_fault}

found : (c : After-table_field_fault) → c.table_field_fault.result ≡ first_code (table_asked (borrowed_rows c.args.rows.now) (map field_of c.args.fields.now) c.loop-p.p)
found c =
    let fields = c.args.fields.now in
    let p = c.loop-p.p in
    c.table_field_fault.ensures
    ∙ table_code (borrowed_rows c.args.rows.now) fields p (get_or fields p blank_field) c.args.name_again c.args.slot_again c.is_at.result c.is_at-in-loop-p.result c.stands_below.result c.stands_below-in-loop-p.result (slice_get-get_or fields p blank_field c.loop-p-test.true)
    c.requires.names c.requires.slots c.loop-p.invariant c.is_at.ensures c.is_at-in-loop-p.ensures (c.stands_below.ensures ForUnion (map field_of fields) c.requires.bytes) (c.stands_below-in-loop-p.ensures ForUnions (map field_of fields) c.requires.vectors)

pub returns-in-Some : goal.returns-in-Some
returns-in-Some c = (sym (found (goal.at.returns-in-Some c).After-table_field_fault) ∙ c.in-Some.is, c.loop-p.invariant)

pub loop-p-preserved : goal.loop-p-preserved
loop-p-preserved c = below_more _ _ c.loop-p.invariant (sym (found (goal.at.loop-p-preserved c).After-table_field_fault) ∙ c.in_default.is)
