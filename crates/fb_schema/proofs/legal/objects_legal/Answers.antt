use Rattle.std.proofs.Common.{◌≡◌, Some, slice_get, get_or, refl, sym, ◌∙◌, inl}
use Rattle.std.proofs.lemmas.{List.length-map, Option.slice_get-get_or}
use Rattle.fb_schema.specs.{declared.flat.ObjectPart.ObjectPart, FlatRows.borrowed_rows}
use Rattle.fb_schema.proofs.{Blank.blank_object, OwnerLemmas.refused_object, OwnerLemmas.refused_field, OwnerLemmas.clear_object, OwnerLemmas.all_owners}
use Rattle.fb_schema.proofs.legal.objects_legal.Goals as goal
use Rattle.fb_schema.proofs.{legal.objects_legal.Goals.After-object_fault, DemandLaws.owners_end}

-- the object that is gone through
abbrev item : (g : _) → After-object_fault g → ObjectPart
item g c = get_or c.args.rows.now.objects.now c.loop-n.n blank_object

at_row : (g : _) (c : After-object_fault g) → slice_get c.args.rows.now.objects.now c.loop-n.n ≡ Some (item g c)
at_row g c = slice_get-get_or c.args.rows.now.objects.now c.loop-n.n blank_object c.loop-n-test.true

pub returns-in-Some-clause-refused : goal.returns-in-Some-clause-refused
returns-in-Some-clause-refused g c =
    let d = (goal.at.returns-in-Some-clause-refused g c).After-object_fault in
    inl (rw c.fault_of.ensures (refused_object (borrowed_rows c.args.rows.now) c.args.rows.now.fields.now c.args.rows.now.objects.now refl c.loop-n.n (item g d) (at_row g d) c.args.again c.requires.again c.loop-n.invariant c.is_at.result c.in-Some.code c.is_at.ensures (sym c.in-Some.is ∙ c.object_fault.ensures c.args.rows.now.fields.now)))

pub returns-in-Some-fault-clause-refused : goal.returns-in-Some-fault-clause-refused
returns-in-Some-fault-clause-refused g c =
    let d = (goal.at.returns-in-Some-fault-clause-refused g c).After-object_fault in
    inl (rw c.fault_of-in-Some-fault.ensures (refused_field (borrowed_rows c.args.rows.now) c.args.rows.now.fields.now c.args.rows.now.objects.now refl c.loop-n.n (item g d) (at_row g d) c.args.again c.requires.again c.loop-n.invariant c.is_at.result c.is_at.ensures (sym c.in_default.is ∙ c.object_fault.ensures c.args.rows.now.fields.now) c.in-Some-fault.code c.in-Some-fault.p
    (rw c.in-Some-fault.is at c.in_ok-fault.ensures)))

pub loop-n-preserved : goal.loop-n-preserved
loop-n-preserved g c =
    let d = (goal.at.loop-n-preserved g c).After-object_fault in
    clear_object (borrowed_rows c.args.rows.now) c.args.rows.now.fields.now c.args.rows.now.objects.now refl c.loop-n.n (item g d) (at_row g d) c.args.again c.requires.again c.loop-n.invariant c.is_at.result c.is_at.ensures (sym c.in_default.is ∙ c.object_fault.ensures c.args.rows.now.fields.now)
    (rw c.in_default-fault.is at c.in_ok-fault.ensures)

pub returns-clause-clear : goal.returns-clause-clear
unfolding owners_end
returns-clause-clear g c = all_owners (borrowed_rows c.args.rows.now) 0 c.loop-n.n (rw length-map c.loop-n-test.false) c.loop-n.invariant
