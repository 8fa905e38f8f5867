use Rattle.std.proofs.Common.{IsTrue, sym, subst}
use Rattle.fb_schema.specs.{FlatLists.lists_of, Index.AreNextRequired, Live.live_fields, FlatRows.flat_rows, Rows.is_table}
use Rattle.fb_schema.proofs.NextRequired.{item_lent, no_item_lent, next_found, next_missed, next_past, next_read}
use Rattle.fb_schema.proofs.LookLemmas.{table_listed}
use Rattle.fb_schema.proofs.schema.Schema.next_required.Goals as goal
use Rattle.fb_schema.proofs.schema.Schema.next_required.Goals.{After-get-places}

-- the table's places, as the index has them
places : (g : _) (c : After-get-places g) → AreNextRequired (live_fields c.args.self.now c.args.n) c.get-places.result.now
places g c =
    let s = c.self.inside in
    let n = c.args.n in
    let rows = flat_rows s.rows in
    subst (λ r. AreNextRequired (live_fields r n) c.get-places.result.now) c.self.view_is
    (next_read rows (lists_of s.index.live.next_required) n c.get-places.result.now c.self.invariant.fields.next_required (subst (λ r. IsTrue (is_table r n)) (sym c.self.view_is) c.requires) c.get-places.ensures)

pub returns-in-Some : goal.returns-in-Some
returns-in-Some g c =
    let all = places g (goal.at.returns-in-Some g c).After-get-places in
    next_found _ _ _ all _ (item_lent _ _ _ _ c.get.ensures.lookup c.in-Some.is) c.if-place-places.true

pub returns-in_default : goal.returns-in_default
returns-in_default g c =
    let all = places g (goal.at.returns-in_default g c).After-get-places in
    next_missed _ _ _ all _ (item_lent _ _ _ _ c.get.ensures.lookup c.in-Some.is) c.if-place-places.false

pub returns-in_default-2 : goal.returns-in_default-2
returns-in_default-2 g c = next_past _ _ _ (places g (goal.at.returns-in_default-2 g c).After-get-places) (no_item_lent _ _ _ c.get.ensures.lookup c.in_default.is)

pub get-places-requires : goal.get-places-requires
get-places-requires g c =
    let s = c.self.inside in
    table_listed (lists_of s.index.live.next_required) (flat_rows s.rows) c.args.self.now c.args.n c.self.invariant.fields.next_required.long c.self.view_is c.requires
