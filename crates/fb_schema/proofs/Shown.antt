-- The examples, by computing.
use Rattle.std.proofs.Common.{ℕ, rules}
use Rattle.fb_schema.specs.{Kinds.base_types, Kinds.shape_of, Kinds.kind_of, Live.live_fields, Live.widest, Members.member_of, Members.member_named, Members.member_name}
use Rattle.fb_schema.specs.{LookUps.KindFields, LookUps.UnionMembers, Demands.names_no_object, Demands.names_table, Demands.names_no_union, Demands.inline_bytes, Examples.Demanded}
use Rattle.fb_schema.specs.Examples.{Firsts}
use Rattle.fb_schema.proofs.{DemandLaws.levels_end, DemandLaws.owners_end, DemandLaws.places_end, DemandLaws.object_end, DemandLaws.enum_end, Judged.first_below, Judged.or_at}
use Rattle.fb_schema.proofs.Judged.{in_owner, in_level, in_rows, first_fault, legal, refused}

-- all that is computed
computing : ℕ
unfolding base_types shape_of kind_of names_no_object names_table names_no_union inline_bytes live_fields widest member_of member_named member_name levels_end owners_end places_end object_end enum_end first_below or_at in_owner in_level in_rows first_fault
computing = 0

pub demands_shown : Demanded
unfolding computing
demands_shown = search (rules, legal, refused)

pub firsts_shown : Firsts
unfolding computing
firsts_shown = search (rules, legal, refused)

pub look_ups_shown : KindFields × UnionMembers
unfolding computing
look_ups_shown = search rules
