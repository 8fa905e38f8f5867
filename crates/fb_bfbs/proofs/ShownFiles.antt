-- The plain file is loaded: it unfolds, its rows are legal, and its root is among them.
use Rattle.std.proofs.Common.{◌≡◌, ℕ, false, true, refl, arith, length}
use Rattle.std.specs.Prelude.{codes}
use Rattle.fb_bytes.specs.Word.{word}
use Rattle.fb_schema.specs.{Rows.table_named, Kinds.shape_of, Kinds.kind_of, Kinds.base_types, Live.live_fields}
use Rattle.fb_schema.specs.Demands.{IsLegal, names_no_object, names_table, names_no_union, inline_bytes}
use Rattle.fb_schema.proofs.DemandLaws.{levels_end, owners_end, places_end, object_end, enum_end}
use Rattle.fb_schema.proofs.Judged.{first_below, or_at, in_owner, in_level, in_rows, first_fault, legal}
use Rattle.fb_rules.specs.Places.{is_aligned, has_vtable, vtable, field_place, ends_in_table}
use Rattle.fb_rules.specs.{Fields.entries, Fields.row, Fields.union_row, Unfolds.Unfolds, Cost.own_reads, Cost.tree_cost, Samples.published_limits}
use Rattle.fb_rules.specs.Tree.{Tree, node, no_kids, kid, no_elements, element, leaf, table, size, depth}
use Rattle.fb_rules.specs.Order.{own_failure, start_failure, prefix_failure, ident_failure, head_failure, offset_failure, string_failure, vector_failure, inline_failure, table_failure}
use Rattle.fb_rules.proofs.Shown.{start, head, own, offset, string}
use Rattle.fb_access.specs.Spots.{present_spot, absent_spot, spot_of_element, member_spot}
use Rattle.fb_access.specs.Denotes.{next_spot, number, inline_value, default_value, value}
use Rattle.fb_bfbs.specs.{Fixed.fixed, Loads.published, Loads.IsSchemaFile, Samples.plain, Samples.plain_rows, Examples.PlainFile}
use Rattle.fb_bfbs.proofs.Shown.{plain_described}

-- all that is computed of the buffer
computing : ℕ
unfolding fixed word live_fields kind_of shape_of base_types is_aligned has_vtable vtable field_place ends_in_table entries row union_row size depth Unfolds own_reads tree_cost own_failure start_failure prefix_failure ident_failure head_failure offset_failure string_failure vector_failure inline_failure table_failure
computing = 0

-- of its rows
judging : ℕ
unfolding base_types shape_of kind_of names_no_object names_table names_no_union inline_bytes levels_end owners_end places_end object_end enum_end first_below or_at in_owner in_level in_rows first_fault
judging = 0

-- and of what its paths denote
reading : ℕ
unfolding fixed word live_fields shape_of kind_of base_types has_vtable vtable field_place present_spot absent_spot spot_of_element member_spot next_spot number inline_value default_value value table_named
reading = 0

-- The tree.

abbrev type_tree : ℕ → Tree
type_tree place = node 0 place (kid no_elements (kid no_elements (kid no_elements (kid no_elements no_kids))))

abbrev field_tree : ℕ → Tree → Tree
field_tree place ty = node 4 place (kid (element leaf no_elements) (kid (element (table ty) no_elements) (kid no_elements (kid no_elements (kid no_elements (kid no_elements (kid no_elements (kid no_elements (kid no_elements (kid no_elements (kid no_elements (kid no_elements (kid no_elements no_kids)))))))))))))

abbrev monster_tree : Tree
monster_tree = node 5 60 (kid (element leaf no_elements) (kid (element (table (field_tree 112 (type_tree 152))) (element (table (field_tree 172 (type_tree 200))) no_elements)) (kid no_elements (kid no_elements (kid no_elements (kid no_elements (kid no_elements (kid no_elements no_kids))))))))

abbrev plain_tree : Tree
plain_tree = node 9 24 (kid (element (table monster_tree) no_elements) (kid no_elements (kid no_elements (kid no_elements (kid (element (table monster_tree) no_elements) (kid no_elements (kid no_elements (kid no_elements no_kids))))))))

hp_type_unfolds : Unfolds (type_tree 152) published plain fixed 0 152
unfolding computing
hp_type_unfolds = (refl, refl, head refl, (own _ _ _ _ _ refl, tt, (own _ _ _ _ _ refl, tt, (own _ _ _ _ _ refl, tt, (own _ _ _ _ _ refl, tt, tt)))))

name_type_unfolds : Unfolds (type_tree 200) published plain fixed 0 200
unfolding computing
name_type_unfolds = (refl, refl, head refl, (own _ _ _ _ _ refl, tt, (own _ _ _ _ _ refl, tt, (own _ _ _ _ _ refl, tt, (own _ _ _ _ _ refl, tt, tt)))))

hp_unfolds : Unfolds (field_tree 112 (type_tree 152)) published plain fixed 4 112
unfolding computing
hp_unfolds = (refl, refl, head refl, (own _ _ _ _ _ refl, ((offset refl, string refl), tt), (own _ _ _ _ _ refl, ((offset refl, hp_type_unfolds), tt), (own _ _ _ _ _ refl, tt, (own _ _ _ _ _ refl, tt, (own _ _ _ _ _ refl, tt, (own _ _ _ _ _ refl, tt, (own _ _ _ _ _ refl, tt, (own _ _ _ _ _ refl, tt, (own _ _ _ _ _ refl, tt, (own _ _ _ _ _ refl, tt, (own _ _ _ _ _ refl, tt, (own _ _ _ _ _ refl, tt, (own _ _ _ _ _ refl, tt, tt))))))))))))))

name_unfolds : Unfolds (field_tree 172 (type_tree 200)) published plain fixed 4 172
unfolding computing
name_unfolds = (refl, refl, head refl, (own _ _ _ _ _ refl, ((offset refl, string refl), tt), (own _ _ _ _ _ refl, ((offset refl, name_type_unfolds), tt), (own _ _ _ _ _ refl, tt, (own _ _ _ _ _ refl, tt, (own _ _ _ _ _ refl, tt, (own _ _ _ _ _ refl, tt, (own _ _ _ _ _ refl, tt, (own _ _ _ _ _ refl, tt, (own _ _ _ _ _ refl, tt, (own _ _ _ _ _ refl, tt, (own _ _ _ _ _ refl, tt, (own _ _ _ _ _ refl, tt, (own _ _ _ _ _ refl, tt, tt))))))))))))))

monster_unfolds : Unfolds monster_tree published plain fixed 5 60
unfolding computing
monster_unfolds = (refl, refl, head refl, (own _ _ _ _ _ refl, ((offset refl, string refl), tt), (own _ _ _ _ _ refl, ((offset refl, hp_unfolds), ((offset refl, name_unfolds), tt)), (own _ _ _ _ _ refl, tt, (own _ _ _ _ _ refl, tt, (own _ _ _ _ _ refl, tt, (own _ _ _ _ _ refl, tt, (own _ _ _ _ _ refl, tt, (own _ _ _ _ _ refl, tt, tt)))))))))

plain_unfolds : Unfolds plain_tree published plain fixed 9 24
unfolding computing
plain_unfolds = (refl, refl, head refl, (own _ _ _ _ _ refl, ((offset refl, monster_unfolds), tt), (own _ _ _ _ _ refl, tt, (own _ _ _ _ _ refl, tt, (own _ _ _ _ _ refl, tt, (own _ _ _ _ _ refl, ((offset refl, monster_unfolds), tt), (own _ _ _ _ _ refl, tt, (own _ _ _ _ _ refl, tt, (own _ _ _ _ _ refl, tt, tt)))))))))

plain_is_file : IsSchemaFile plain published_limits
unfolding computing
plain_is_file =
    let bytes : length plain ≡ 208 = refl in
    let tables : size plain_tree ≡ 11 = refl in
    let levels : depth plain_tree ≡ 4 = refl in
    record {
      short = omega (arith, bytes);
      found = plain_tree;
      well_formed = record { starts = start refl; unfolds = plain_unfolds };
      within = record { tables = omega (arith, tables); depth = omega (arith, levels); reads = tt };
    }

plain_is_legal : IsLegal plain_rows
unfolding judging
plain_is_legal = legal refl

pub plain_file : PlainFile
unfolding reading
plain_file = record {
  rows = plain_described;
  loaded = record { file = plain_is_file; rows = plain_described; paid = λ h. absurd (let w : false ≡ true = h in cc); legal = plain_is_legal; root = (codes "M", (_, (_, refl, (_, refl, refl)), refl), refl); root_is_table = refl; ident = (_, (_, refl, refl), refl) };
}
