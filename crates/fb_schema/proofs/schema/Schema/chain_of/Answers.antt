use Rattle.std.proofs.Common.{◌≡◌, ◌∷◌, [], length, map, ◌∙◌, ap, Some, arith}
use Rattle.std.proofs.lemmas.List.{length-map, length-append}
use Rattle.fb_schema.specs.{FlatLists.lists_of, Live.live_fields, Live.live_in, FlatRows.flat_rows, Steps.chain_of, Steps.end_step, Steps.step_of}
use Rattle.fb_schema.proofs.LookLemmas.{chain_read, table_listed, within_widest, few_read}
use Rattle.fb_schema.proofs.schema.Schema.chain_of.Goals as goal
use Rattle.fb_schema.proofs.schema.Schema.chain_of.Goals.{After-get}

value : (g : _) (c : After-get g) → c.get.result.now ≡ chain_of (live_fields c.args.self.now c.args.n)
value g c =
    let s = c.self.inside in
    chain_read (flat_rows s.rows) (lists_of s.index.live.steps) c.args.n c.get.result.now c.self.invariant.fields.steps c.get.ensures
    ∙ ap (λ r. chain_of (live_fields r c.args.n)) c.self.view_is

pub returns-clause-value : goal.returns-clause-value
returns-clause-value g c = value g (goal.at.returns-clause-value g c).After-get

pub returns-clause-few : goal.returns-clause-few
returns-clause-few g c =
    let d = (goal.at.returns-clause-few g c).After-get in
    let s = c.self.inside in
    let fs = live_fields c.args.self.now c.args.n in
    let few = few_read (flat_rows s.rows) c.args.self.now s.index.live.widest (length fs) c.self.invariant.fields.widest c.self.invariant.fields.few c.self.view_is (within_widest c.args.self.now c.args.n) in
    omega (arith, few, ap length (value g d), length-append (map step_of fs) (end_step ∷ []), length-map fs step_of)

pub get-requires : goal.get-requires
get-requires g c =
    let s = c.self.inside in
    let rows = flat_rows s.rows in
    table_listed (lists_of s.index.live.steps) rows c.args.self.now c.args.n (ap length c.self.invariant.fields.steps ∙ length-map rows.objects (λ o. chain_of (live_in rows (Some o)))) c.self.view_is c.requires
