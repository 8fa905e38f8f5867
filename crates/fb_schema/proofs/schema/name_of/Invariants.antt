use Rattle.std.proofs.Common.{◌≡◌, drop, find, map, pos, int_eq}
use Rattle.fb_schema.specs.Rows.{member_of_row}
use Rattle.fb_schema.proofs.schema.name_of.Given as goal

-- the members that are left give what all give
abbrev pub invariant-loop-member : goal.invariant-loop-member
invariant-loop-member l = find (λ m. int_eq m.value (pos l.value)) (map member_of_row (drop l.member-index l.members)) ≡ find (λ m. int_eq m.value (pos l.value)) (map member_of_row l.members)
