use Rattle.std.proofs.Common.{sym, subst, refl, arith, ◌≡◌, ◌+◌, ◌∙◌, length}
use Rattle.std.proofs.Math.ListN.{set}
use Rattle.fb_strict.specs.{declared.leads.Edge.Edge, Leading.Added, Leading.last_to}
use Rattle.fb_strict.proofs.Leading.{last_at, grown_chained, added_grown, added}
use Rattle.fb_strict.proofs.leads.Chains.add.Goals as goal

-- src/leads.rt
pub returns : goal.returns
returns g c =
    let lasts = c.args.self.now.lasts.items in
    let mid = c.grow.new.lasts.items in
    let edges = c.args.self.now.edges.items in
    let grown = c.in_ok-grow.ensures in
    let e : Edge = record { from = c.args.from; before = c.index-before.result.now } in
    let n_is : c.len.result ≡ length edges + 1 = grind (arith, c.len.ensures, c.in_ok-push.ensures.len) in
    let before_is : c.index-before.result.now ≡ last_to mid c.args.to = c.index-before.ensures ∙ last_at mid c.args.to _ grown.within in
    added_grown c.args.to lasts mid edges grown c.args.from (λ t. t ≡ c.args.to) (set mid c.args.to c.len.result) c.push.new.self.items
    (subst (Added c.args.from (λ t. t ≡ c.args.to) mid edges (set mid c.args.to c.len.result)) (sym c.in_ok-push.ensures.items)
    (added c.args.from c.args.to mid edges (grown_chained c.args.to lasts mid edges grown c.requires) grown.within c.len.result e n_is refl before_is))
