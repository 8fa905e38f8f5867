-- The examples, by computing the chains of tests.
use Rattle.std.proofs.Common.{◌≡◌, ℕ, List, [], ◌∷◌, take, refl, rules, inl, inr, None, Some}
use Rattle.std.specs.Prelude.{slice_get}
use Rattle.fb_bytes.specs.Word.{word}
use Rattle.fb_schema.specs.{Rows.Rows, Live.Live, Live.live_fields, Kinds.shape_of, Kinds.kind_of, Kinds.base_types, Members.member_of}
use Rattle.fb_rules.specs.{declared.checks.Checks.Checks, declared.start.Start.Start, declared.start.Ident.Ident, Facts.IsTable, Facts.IsOffset, Facts.IsString, Examples.kids_of}
use Rattle.fb_rules.specs.{Examples.one_field, WellFormed.IsStart, Unfolds.Unfolds, Unfolds.FieldsUnfold, Unfolds.ElementsUnfold, Cost.own_reads, Cost.tree_cost, Places.is_aligned}
use Rattle.fb_rules.specs.{Places.has_vtable, Places.vtable, Places.field_place, Places.ends_in_table, Fields.IsField, Fields.Entry, Fields.entries, Fields.row, Fields.union_row}
use Rattle.fb_rules.specs.Tree.{Tree, node, Kids, no_kids, no_elements, element, Elements, table, size, depth, kids_length, elements_length}
use Rattle.fb_rules.specs.Order.{own_failure, element_failure, start_failure, prefix_failure, ident_failure, head_failure, offset_failure, string_failure, vector_failure}
use Rattle.fb_rules.specs.{Order.inline_failure, Order.table_failure, Stops.fault_at, Stops.IsLink, Stops.IsInField, Stops.Trail, Stops.at_head, Stops.at_field, Stops.at_own}
use Rattle.fb_rules.specs.{Stops.at_element, Stops.at_lead, Stops.through, Stops.IsTrail, Links.links_of, Links.links_in_field, Links.links_in_element, LinkExamples.LinksFound}
use Rattle.fb_rules.proofs.Chains.{start_none, head_none, own_none, offset_none, string_none, inline_none}

-- all that is computed, with the facts of fields
unfoldable pub computing : ℕ
unfolding word IsField live_fields kind_of shape_of base_types member_of is_aligned has_vtable vtable field_place ends_in_table entries row union_row size depth Unfolds own_reads tree_cost own_failure element_failure start_failure prefix_failure ident_failure head_failure offset_failure string_failure vector_failure inline_failure table_failure IsTrail fault_at kids_length elements_length
computing = 0

pub ruleset shown = (rules, start_none, head_none, own_none, offset_none, string_none, inline_none)

-- a chain that finds nothing tells the facts

pub start : {c : Checks} {b : List ℕ} {s : Start} {i : Ident} → start_failure c b s i ≡ None → IsStart c b s i
start h = (start_none _ _ _ _).0 h

pub head : {c : Checks} {b : List ℕ} {t : ℕ} → head_failure c b t ≡ None → IsTable c b t
head h = (head_none _ _ _).0 h

pub own : (c : Checks) (b : List ℕ) (S : Rows) (t : ℕ) (f : Live) → own_failure c b S t f ≡ None → IsField c b S t f
own c b S t f h = (own_none c b S t f).0 h

pub offset : {c : Checks} {b : List ℕ} {p : ℕ} → offset_failure c b p ≡ None → IsOffset c b p
offset h = (offset_none _ _ _).0 h

pub string : {c : Checks} {b : List ℕ} {s : ℕ} → string_failure c b s ≡ None → IsString c b s
string h = (string_none _ _ _).0 h

-- a trail goes on past fields of a table, and past elements of a field

pub past : {c : Checks} {b : List ℕ} {S : Rows} {k t : ℕ} {earlier : Kids} {g : Live} → head_failure c b t ≡ None → FieldsUnfold earlier c b S t (take (kids_length earlier) (live_fields S k))
    → slice_get (live_fields S k) (kids_length earlier) ≡ Some g → IsLink c b S k t earlier g
past h passed next = record { head = (head_none _ _ _).0 h; passed = passed; next = next }

pub among : {c : Checks} {b : List ℕ} {S : Rows} {t : ℕ} {g : Live} {before : Elements} {x : Entry} → own_failure c b S t g ≡ None → ElementsUnfold before c b S (take (elements_length before) (entries b S t g))
    → slice_get (entries b S t g) (elements_length before) ≡ Some x → IsInField c b S t g before x
among h passed next = record { own = (own_none _ _ _ _ _).0 h; passed = passed; next = next }

-- links: all that is computed
unfoldable linking : ℕ
unfolding computing links_of links_in_field links_in_element
linking = 0

-- the table at 60, which the list has twice
empty : Tree
empty = node 2 60 (kids_of (no_elements ∷ []))

twice : Elements
twice = element (table empty) (element (table empty) no_elements)

-- past the type of the union and past these tables, on from the third
to_third : Trail → Trail
to_third s = at_field one_field (at_element no_elements (through (at_field no_kids (at_element twice (through s)))))

pub links_found : LinksFound
unfolding linking empty twice to_third
links_found = record {
  at_the_start = inl (record { within = search rules; first = refl }, refl);
  at_the_root = inr (start refl, (at_head, record { within = search rules; first = refl }, refl));
  in_a_type = inr (start refl, (at_field no_kids at_own, (_, past refl tt refl, record { within = search rules; first = refl }), refl));
  in_the_head_of_a_vector = inr (start refl, (at_field no_kids at_own, (_, past refl tt refl, record { within = search rules; first = refl }), refl));
  in_a_third_table = inr (start refl, (to_third at_head, (_, past refl (search shown, tt, tt) refl, (_, among refl tt refl, (_, refl, search shown, (_, past refl tt refl, (_, among refl (search shown) refl, (_, refl, search shown, record { within = search rules; first = refl })))))), refl));
  in_its_field = inr (start refl, (to_third (at_field no_kids (at_element no_elements at_lead)), (_, past refl (search shown, tt, tt) refl, (_, among refl tt refl, (_, refl, search shown, (_, past refl tt refl, (_, among refl (search shown) refl, (_, refl, search shown, (_, past refl tt refl, (_, among refl tt refl, record { within = search rules; first = refl })))))))), refl));
  one_table_too_many = inr (start refl, (to_third at_head, (_, past refl (search shown, tt, tt) refl, (_, among refl tt refl, (_, refl, search shown, (_, past refl tt refl, (_, among refl (search shown) refl, (_, refl, search shown, record { within = search rules; first = refl })))))), refl));
}
