use Rattle.std.proofs.Common.{sym, subst, ◌∙◌, length}
use Rattle.fb_strict.specs.Planned.{IsPlan}
use Rattle.fb_strict.proofs.Ways.{tables_linked, tables_put}
use Rattle.fb_strict.proofs.levels.Asking.put_tables.Goals as goal

-- src/way.rt
pub put_links-requires-clause-plan : goal.put_links-requires-clause-plan
put_links-requires-clause-plan g c = subst (λ p. IsPlan p.rows p.plan.demands p.plan) (sym c.resting.ensures) c.requires.asking.plan

pub put_links-requires-clause-linked : goal.put_links-requires-clause-linked
put_links-requires-clause-linked g c =
    tables_linked c.args.self.now c.args.frames.now c.args.level.now c.resting.result c.resting.ensures _ (c.seal-window.ensures.bytes ∙ c.in-Ok.ensures.meter.0 ∙ c.bytes_of.ensures) _ c.split_at.ensures.back (length c.args.links.now) c.requires.tables.linked

pub returns : goal.returns
returns g c =
    c.put_links.ensures ∙ tables_put c.args.self.now c.args.frames.now c.args.level.now c.resting.result c.resting.ensures _ (c.seal-window.ensures.bytes ∙ c.in-Ok.ensures.meter.0 ∙ c.bytes_of.ensures) _ c.split_at.ensures.back (length c.args.links.now)
