use Rattle.std.proofs.Common.{List, map}
use Rattle.fb_schema.specs.{declared.rows.MemberRow.MemberRow, FlatRows.borrowed_rows, Rows.member_of_row, Targets.target_of, Targets.kind_among, Targets.AreSorted}
use Rattle.fb_schema.specs.Targets.{LeadBelow}
use Rattle.fb_schema.proofs.targets.put_targets.Given as goal

abbrev pub invariant-loop-value : goal.invariant-loop-value
invariant-loop-value g l =
    let rows = borrowed_rows l.rows in
    record {
      lead : (members : List MemberRow) → AreSorted rows members l.values l.kinds → LeadBelow (λ v. target_of rows (kind_among rows (map member_of_row members) v)) l.value l.places.items l.targets.items;
    }
