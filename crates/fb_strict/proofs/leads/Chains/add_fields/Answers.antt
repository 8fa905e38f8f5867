use Rattle.std.proofs.Common.{get_or, map, take, [], ◌∷◌, ◌++◌}
use Rattle.fb_schema.specs.Live.{live_of_view}
use Rattle.fb_schema.proofs.Blank.{blank_view}
use Rattle.fb_strict.specs.Leading.{OneOf, KindNames}
use Rattle.fb_strict.proofs.Leading.{added_as, added_both, among_last, among_more, field_more}
use Rattle.fb_strict.proofs.leads.Chains.add_fields.Goals as goal

-- src/leads.rt
pub loop-field-preserved : goal.loop-field-preserved
loop-field-preserved g c =
    let P = KindNames c.args.ends in
    let fields = c.fields_of-fields.result.now in
    let i = c.loop-field.field-index in
    let fs = map live_of_view (take i fields) in
    let x = live_of_view (get_or fields i blank_view) in
    let lasts = c.args.self.now.lasts.items in
    let edges = c.args.self.now.edges.items in
    let lasts' = c.add_kind.new.self.lasts.items in
    let edges' = c.add_kind.new.self.edges.items in
    let both = added_both c.args.object lasts edges (OneOf P fs) (P x.kind) c.loop-field.self.lasts.items c.loop-field.self.edges.items lasts' edges' c.loop-field.invariant c.in_ok-add_kind.ensures in
    rw (field_more fields i blank_view c.loop-field-test.true) (added_as c.args.object lasts edges _ (OneOf P (fs ++ x ∷ [])) lasts' edges' (among_more P fs x) (among_last P fs x) both)
