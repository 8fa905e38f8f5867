use Rattle.std.proofs.Common.{◌≡◌, ◌+◌, ◌*◌, ◌-◌, ◌^◌, min, sym, ◌∙◌}
use Rattle.fb_schema.specs.Live.{widest}
use Rattle.fb_strict.specs.MostReads.{most_reads_strictly}
use Rattle.fb_strict.proofs.Saturating.{price, least}
use Rattle.fb_strict.proofs.most.most_reads_strictly.Goals as goal
use Rattle.fb_strict.proofs.most.most_reads_strictly.Goals.{After-saturating_add-most}

-- the price without a budget
whole : (c : After-saturating_add-most) → c.saturating_add-most.result
    ≡ min (4 * (2 + (c.args.limits).tables) + (c.args.limits).tables * (4 + widest c.args.schema.now * (8 + c.args.len)) + (c.args.limits).tables * (3 + c.args.len + widest c.args.schema.now * ((8 + c.args.len) * (8 + c.args.len)))) (2 ^ 128 - 1)
whole c =
    let len = c.from-len.ensures in
    let wide = c.from-fields.ensures ∙ c.widest.ensures in
    let tables = c.from-tables.ensures ∙ c.tables_of.ensures in
    rw (len, wide, tables) at (price (2 ^ 128 - 1) _ _ c.saturating_add-walks.result c.from-tables.result c.from-fields.result c.from-len.result c.saturating_mul-square.result c.saturating_mul.result c.saturating_add.result c.saturating_mul-passes.result c.saturating_add-most.result
    c.saturating_add-walks.ensures c.saturating_mul-square.ensures c.saturating_mul.ensures c.saturating_add.ensures c.saturating_mul-passes.ensures c.saturating_add-most.ensures)

-- src/most.rt
pub returns-in-None : goal.returns-in-None
unfolding most_reads_strictly
returns-in-None c =
    let s = (goal.at.returns-in-None c).After-saturating_add-most in
    let none = sym c.reads.ensures ∙ c.in-None.is in
    rw none (whole s)

pub returns-in-Some : goal.returns-in-Some
unfolding most_reads_strictly
returns-in-Some c =
    let s = (goal.at.returns-in-Some c).After-saturating_add-most in
    let some = sym c.reads.ensures ∙ c.in-Some.is in
    rw some (least (2 ^ 128 - 1) _ c.saturating_add-most.result c.in-Some.budget c.args.len c.min.result (whole s) (rw (c.from.ensures, c.from-len.ensures) at c.min.ensures))
