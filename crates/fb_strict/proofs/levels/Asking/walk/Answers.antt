use Rattle.std.proofs.Common.{ℕ, List, ◌<◌, ◌^◌, ap, ◌∙◌, arith, length, refl, subst, sym}
use Rattle.fb_schema.specs.Live.{widest}
use Rattle.fb_rules.specs.{Bounds.Bounds, declared.fault.Report.Report, declared.start.Start.TheVariants.Bare, declared.start.Ident.TheVariants.Any}
use Rattle.fb_strict.specs.Levels.{Whole}
use Rattle.fb_strict.proofs.Walking.{report_few, most_few, report_deep, short_bytes, enough_inside, walk_stops}
use Rattle.fb_strict.proofs.levels.Asking.walk.Goals as goal
use Rattle.fb_strict.proofs.levels.Asking.walk.Goals.{After-walk}

short : (g : _) (c : After-walk g) → length c.in-Ok.meter.bytes < 2 ^ 31
short g c = subst (λ (b : List ℕ). length b < 2 ^ 31) (sym (c.in-Ok.ensures.meter.0 ∙ c.bytes_of.ensures)) (short_bytes c.args.self.now c.args.level.now c.requires.asking)

fewer : (g : _) (c : After-walk g) → c.limits_inside-limits.result.tables < 2 ^ 32
fewer g c = let t = ap (λ (L : Bounds). L.tables) c.limits_inside-limits.ensures in omega (arith, t, c.requires.asking.many)

-- src/levels.rt
pub walk-requires-clause-lent : goal.walk-requires-clause-lent
walk-requires-clause-lent g c =
    let limits = ap (λ (L : Bounds). L.depth) c.limits_inside-limits.ensures in
    enough_inside c.args.level.now.above c.requires.lent limits (omega (arith, c.split_at_mut-own.ensures.front_len, c.split_at_mut-own.ensures.back_len, c.min-around.ensures))

pub overflow_add-level : goal.overflow_add-level
overflow_add-level g c =
    let deep = report_deep _ _ c.in-Ok-walk.verified.report c.in-Ok-walk.ensures.yes in
    let same = ap (λ (r : Report). r.depth) c.report-report.ensures.value in
    let limits = ap (λ (L : Bounds). L.depth) c.limits_inside-limits.ensures in
    omega (arith, deep, same, limits, c.requires.asking.deep, c.requires.deep)

pub overflow_add-spent-in-Ok-walk : goal.overflow_add-spent-in-Ok-walk
overflow_add-spent-in-Ok-walk g c =
    let d = (goal.at.overflow_add-spent-in-Ok-walk g c).After-walk in
    let wide : widest c.self.inside.schema.now < 2 ^ 32 = omega (arith, c.widest.ensures, c.widest.type_inv) in
    let few = report_few _ _ c.in-Ok-walk.verified.report c.in-Ok-walk.ensures.yes (fewer g d) wide (short g d) in
    let same = ap (λ (r : Report). r.reads) c.report-report.ensures.value in
    omega (arith, few, same, c.requires.few)

pub overflow_add-fault : goal.overflow_add-fault
overflow_add-fault g c =
    let d = (goal.at.overflow_add-fault g c).After-walk in
    let wide : widest c.self.inside.schema.now < 2 ^ 32 = omega (arith, c.widest.ensures, c.widest.type_inv) in
    let few = most_few c.self.inside.schema.now c.limits_inside-limits.result (length c.in-Ok.meter.bytes) (fewer g d) wide (short g d) in
    omega (arith, few, c.in-Err.ensures.few, c.requires.few)

pub returns-in-Err-clause-no : goal.returns-in-Err-clause-no
returns-in-Err-clause-no g c =
    let w = c.args.self.now in
    let root = c.args.root in
    let whole = ap (λ (x : Whole). record x.question { root = root; start = Bare; ident = Any; limits = c.limits_inside-limits.result }) c.self.view_is in
    let limits = ap (λ (L : Bounds). record w.question { root = root; start = Bare; ident = Any; limits = L }) c.limits_inside-limits.ensures in
    walk_stops w c.args.spent.now _ _ c.walk.new.links c.args.level.now root refl _ (sym c.walk.auto.links) (omega (arith, c.split_at_mut-own.ensures.front_len, c.split_at_mut-own.ensures.back_len, c.min-around.ensures)) c.requires.deep _ (whole ∙ limits) _ (c.in-Ok.ensures.meter.0 ∙ c.bytes_of.ensures) c.in-Err.located.fault _ c.in-Err.located.links c.in-Err.ensures.no c.in-Err.ensures.along c.in-Err.ensures.within refl
