use Rattle.std.proofs.Common.{◌≤◌, ap, refl, length, arith, rules}
use Rattle.fb_strict.specs.Levels.{Whole}
use Rattle.fb_strict.proofs.Ways.{its_way, ends_in, levels_few, way_walked, way_tables}
use Rattle.fb_strict.proofs.levels.Asking.put_way.Goals as goal

-- src/way.rt
pub put_levels-requires-clause-levels : goal.put_levels-requires-clause-levels
put_levels-requires-clause-levels g c =
    let enough : c.args.self.now.question.limits.depth ≤ length c.args.links.now = omega (arith, c.if-links-depth.false, c.depth.ensures.value, ap (λ (w : Whole). ((w.question).limits).depth) c.self.view_is) in
    let t = its_way c.args.self.now c.args.frames.now c.args.levels.now c.args.links.now c.args.missed.now c.requires.ends enough in
    omega (arith, levels_few c.args.self.now c.args.frames.now c.args.levels.now c.args.links.now c.args.missed.now _ t, c.requires.frames, c.requires.levels)

pub returns-in-Walked-clause-along : goal.returns-in-Walked-clause-along
returns-in-Walked-clause-along g c enough =
    let w = c.args.self.now in
    let row = c.args.links.now in
    let m = c.args.missed.now in
    let t = its_way w c.args.frames.now c.args.levels.now row m c.requires.ends enough in
    let s = c.split_at_mut-front.ensures in
    ends_in w c.args.frames.now c.args.levels.now row m c.requires.ends enough _ (way_walked w c.args.frames.now c.args.levels.now row m _ t c.split_at_mut-front.result.0.now c.put_levels.new.links c.split_at_mut-front.result.1.now s.value s.front_len c.put_levels.auto.links c.put_levels.ensures c.in-Walked.many c.in-Walked.is _ (search rules))

pub returns-in-Tables-clause-along : goal.returns-in-Tables-clause-along
returns-in-Tables-clause-along g c enough =
    let w = c.args.self.now in
    let row = c.args.links.now in
    let m = c.args.missed.now in
    let t = its_way w c.args.frames.now c.args.levels.now row m c.requires.ends enough in
    let s = c.split_at_mut-front.ensures in
    let own = c.split_at_mut-tables.result.0.now in
    ends_in w c.args.frames.now c.args.levels.now row m c.requires.ends enough _ (way_tables w c.args.frames.now c.args.levels.now row m _ t c.split_at_mut-front.result.0.now c.put_levels.new.links c.split_at_mut-front.result.1.now s.value s.front_len c.put_levels.auto.links c.put_levels.ensures
    c.in-Tables.many c.in-Tables.last c.in-Tables.is own c.put_tables.new.links c.put_last.new.links c.put_last.result c.split_at_mut-tables.ensures.front_len c.put_tables.auto.links c.put_tables.ensures c.put_last.ensures.links _ refl)
