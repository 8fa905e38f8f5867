use Rattle.std.proofs.Common.{◌≡◌, Some, slice_get, get_or, inl}
use Rattle.std.proofs.lemmas.{List.length-map, Option.slice_get-get_or}
use Rattle.fb_schema.specs.FlatRows.{borrowed_rows, enum_in}
use Rattle.fb_schema.proofs.{Blank.blank_enum, OwnerLemmas.refused_member, OwnerLemmas.clear_enum, OwnerLemmas.all_owners, WalkLemmas.mapped_at}
use Rattle.fb_schema.proofs.legal.unions_legal.Goals as goal
use Rattle.fb_schema.proofs.{legal.unions_legal.Goals.After-union_fault, DemandLaws.owners_end}

at_row : (g : _) (c : After-union_fault g) → slice_get (borrowed_rows c.args.rows.now).enums c.loop-n.n ≡ Some (enum_in c.args.rows.now.members.now (get_or c.args.rows.now.enums.now c.loop-n.n blank_enum))
at_row g c = mapped_at (enum_in c.args.rows.now.members.now) c.args.rows.now.enums.now c.loop-n.n (get_or c.args.rows.now.enums.now c.loop-n.n blank_enum) (slice_get-get_or c.args.rows.now.enums.now c.loop-n.n blank_enum c.loop-n-test.true)

pub returns-in-Some-clause-refused : goal.returns-in-Some-clause-refused
returns-in-Some-clause-refused g c =
    let d = (goal.at.returns-in-Some-clause-refused g c).After-union_fault in
    inl (rw c.fault_of.ensures (refused_member (borrowed_rows c.args.rows.now) c.requires.objects c.loop-n.n (enum_in c.args.rows.now.members.now (get_or c.args.rows.now.enums.now c.loop-n.n blank_enum)) (at_row g d) c.loop-n.invariant c.in-Some.code c.in-Some.p (rw c.in-Some.is at c.in_ok-fault.ensures)))

pub loop-n-preserved : goal.loop-n-preserved
loop-n-preserved g c =
    let d = (goal.at.loop-n-preserved g c).After-union_fault in
    clear_enum (borrowed_rows c.args.rows.now) c.requires.objects c.loop-n.n (enum_in c.args.rows.now.members.now (get_or c.args.rows.now.enums.now c.loop-n.n blank_enum)) (at_row g d) c.loop-n.invariant (rw c.in_default.is at c.in_ok-fault.ensures)

pub returns-clause-clear : goal.returns-clause-clear
unfolding owners_end
returns-clause-clear g c = all_owners (borrowed_rows c.args.rows.now) 1 c.loop-n.n (rw length-map c.loop-n-test.false) c.loop-n.invariant
