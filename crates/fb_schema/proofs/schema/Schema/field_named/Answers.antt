use Rattle.std.proofs.Common.{◌≡◌, IsTrue, Some, map, length, position, sym, ap, subst, ◌∙◌, arith, bytes_eq}
use Rattle.std.proofs.lemmas.{Option.slice_get_within, List.length-map}
use Rattle.fb_schema.specs.{FlatLists.lists_of, Index.view_name, Sorting.name_cmp, FlatRows.flat_rows, FlatRows.object_in, Rows.Rows, Rows.is_table}
use Rattle.fb_schema.specs.Live.{Live, live_in, live_fields, live_of_view}
use Rattle.fb_schema.proofs.{LookLemmas.live_read, LookLemmas.table_listed, NameLemmas.table_at, NameLemmas.view_not_again, Numbers.slice_get_some, PlaceLemmas.place_position}
use Rattle.fb_schema.proofs.WalkLemmas.{mapped_at, names_agree, names_total}
use Rattle.fb_schema.proofs.schema.Schema.field_named.Goals as goal

pub returns : goal.returns
unfolding live_fields
returns g c =
    let s = c.self.inside in
    let rows = flat_rows s.rows in
    let n = c.args.n in
    let name = c.args.name in
    let t = table_at s.rows.fields.items s.rows.objects.items n (subst (λ (r : Rows). IsTrue (is_table r n)) (sym c.self.view_is) c.requires) in
    let lists = lists_of s.index.live.fields in
    let long = c.self.invariant.fields.names.long in
    let in_names = slice_get_within (lists_of s.index.live.names) n c.get.result.now c.get.ensures in
    let views = slice_get_some lists n (omega arith) in
    let order = c.self.invariant.fields.names.at n views.0 c.get.result.now views.1 c.get.ensures in
    let value = live_read rows rows.objects (map (map live_of_view) lists) n (map live_of_view views.0) c.self.invariant.fields.live (mapped_at (map live_of_view) lists n views.0 views.1) in
    let at = mapped_at (object_in s.rows.fields.items) s.rows.objects.items n t.0 t.1 in
    let same : map live_of_view views.0 ≡ live_in rows (Some (object_in s.rows.fields.items t.0)) = value ∙ ap (live_in rows) at in
    let found = c.place_of.ensures (map view_name views.0) order in
    place_position name_cmp names_total view_name live_of_view views.0 name (λ (f : Live). bytes_eq f.name name.now) (λ k v at. names_agree v.name.now name.now)
    (view_not_again rows n s.rows.fields.items t.0 c.self.invariant.legal at t.2 views.0 same) c.place_of.result found
    ∙ ap (position (λ (f : Live). bytes_eq f.name name.now)) value
    ∙ ap (λ r. position (λ (f : Live). bytes_eq f.name name.now) (live_fields r n)) c.self.view_is

pub get-requires : goal.get-requires
get-requires g c =
    let s = c.self.inside in
    let rows = flat_rows s.rows in
    let lists = lists_of s.index.live.fields in
    let long = sym (length-map lists (map live_of_view)) ∙ ap length c.self.invariant.fields.live ∙ length-map rows.objects (λ o. live_in rows (Some o)) in
    table_listed (lists_of s.index.live.names) rows c.args.self.now c.args.n (c.self.invariant.fields.names.long ∙ long) c.self.view_is c.requires
