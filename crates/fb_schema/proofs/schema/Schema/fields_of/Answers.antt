use Rattle.std.proofs.Common.{◌≡◌, ◌≤◌, length, map, ◌∙◌, ap, sym, Some, arith}
use Rattle.std.proofs.lemmas.List.{length-map}
use Rattle.fb_schema.specs.{FlatLists.lists_of, Live.live_fields, Live.live_in, Live.live_of_view, Live.widest, FlatRows.flat_rows}
use Rattle.fb_schema.proofs.{LookLemmas.live_read, LookLemmas.table_listed, LookLemmas.within_widest, LookLemmas.few_read, WalkLemmas.mapped_at}
use Rattle.fb_schema.proofs.schema.Schema.fields_of.Goals as goal
use Rattle.fb_schema.proofs.schema.Schema.fields_of.Goals.{After-get}

value : (g : _) (c : After-get g) → map live_of_view c.get.result.now ≡ live_fields c.args.self.now c.args.n
unfolding live_fields
value g c =
    let s = c.self.inside in
    let rows = flat_rows s.rows in
    live_read rows rows.objects (map (map live_of_view) (lists_of s.index.live.fields)) c.args.n (map live_of_view c.get.result.now) c.self.invariant.fields.live
    (mapped_at (map live_of_view) (lists_of s.index.live.fields) c.args.n c.get.result.now c.get.ensures)
    ∙ ap (λ r. live_fields r c.args.n) c.self.view_is

counted : (g : _) (c : After-get g) → length c.get.result.now ≤ widest c.args.self.now
counted g c = let a = length-map c.get.result.now live_of_view in let b = ap length (value g c) in let w = within_widest c.args.self.now c.args.n in omega arith

pub returns-clause-value : goal.returns-clause-value
returns-clause-value g c = value g (goal.at.returns-clause-value g c).After-get

pub returns-clause-within : goal.returns-clause-within
returns-clause-within g c = counted g (goal.at.returns-clause-within g c).After-get

pub returns-clause-few : goal.returns-clause-few
returns-clause-few g c =
    let s = c.self.inside in
    few_read (flat_rows s.rows) c.args.self.now s.index.live.widest (length c.get.result.now) c.self.invariant.fields.widest c.self.invariant.fields.few c.self.view_is (counted g (goal.at.returns-clause-few g c).After-get)

pub get-requires : goal.get-requires
get-requires g c =
    let s = c.self.inside in
    let rows = flat_rows s.rows in
    let lists = lists_of s.index.live.fields in
    table_listed lists rows c.args.self.now c.args.n (sym (length-map lists (map live_of_view)) ∙ ap length c.self.invariant.fields.live ∙ length-map rows.objects (λ o. live_in rows (Some o))) c.self.view_is c.requires
