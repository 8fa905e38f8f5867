use Rattle.std.proofs.Common.{◌≡◌, ℕ, suc, ◌+◌, ◌<◌, List, set, get_or, length, sym, ap, ◌∙◌, arith, length-set, get_or-set_same, get_or-set_other}
use Rattle.fb_strict.specs.{declared.levels.Level.Level, Levels.no_level}
use Rattle.fb_strict.proofs.Turning.{inside_opens, inside_falls, inside_ends}
use Rattle.fb_strict.proofs.levels.Asking.go_in.Goals as goal

-- a level is put
module _ (levels : List Level) (n : ℕ) (level : Level) (room : n < length levels) where
  at_one : get_or (set levels n level) n no_level ≡ level
  at_one = get_or-set_same levels n level no_level room

  one_kept : (k : ℕ) → k < n → get_or levels k no_level ≡ get_or (set levels n level) k no_level
  one_kept k lt = sym (get_or-set_other levels n k level no_level (λ e. omega (arith, e, lt)))

-- two levels are put
module _ (levels : List Level) (n : ℕ) (level inside : Level) (room : n + 1 < length levels) where
  at_level : get_or (set (set levels n level) (n + 1) inside) n no_level ≡ level
  at_level = get_or-set_other (set levels n level) (n + 1) n inside no_level (λ e. omega (arith, e)) ∙ get_or-set_same levels n level no_level (omega (arith, room))

  at_inside : get_or (set (set levels n level) (n + 1) inside) (suc n) no_level ≡ inside
  at_inside =
      let e : suc n ≡ n + 1 = omega arith in
      ap (λ k. get_or (set (set levels n level) (n + 1) inside) k no_level) e ∙ get_or-set_same (set levels n level) (n + 1) inside no_level (let l = length-set levels n level in omega (arith, room, l))

  others_kept : (k : ℕ) → k < n → get_or levels k no_level ≡ get_or (set (set levels n level) (n + 1) inside) k no_level
  others_kept k lt = sym (get_or-set_other (set levels n level) (n + 1) k inside no_level (λ e. omega (arith, e, lt)) ∙ get_or-set_other levels n k level no_level (λ e. omega (arith, e, lt)))

-- src/levels.rt
pub returns-in-Ok-clause-on : goal.returns-in-Ok-clause-on
returns-in-Ok-clause-on g c =
    let e = c.in-Ok.ensures.entered in
    let t = c.requires.reached in
    let w = c.args.self.now in
    let n = c.args.others in
    let room : n + 1 < length c.args.levels.now = omega (arith, e.above, e.begun.opened.higher, c.enter.auto.frames, c.requires.frames, c.requires.levels, t.above, t.rise, t.some) in
    inside_opens w c.requires.asking c.args.spent.now c.args.frames.now c.args.levels.now n c.args.level c.args.inner t c.enter.new.frames c.enter.auto.frames c.in-Ok.ensures.below _ (at_level c.args.levels.now n c.args.level c.in-Ok.inside room) (others_kept c.args.levels.now n c.args.level c.in-Ok.inside room)
    e.tree e.walked c.enter.new.spent c.in-Ok.inside e.begun e.same e.begin e.bytes e.above (at_inside c.args.levels.now n c.args.level c.in-Ok.inside room) (n + 2) (omega arith)

pub returns-in-Ok-clause-falls : goal.returns-in-Ok-clause-falls
returns-in-Ok-clause-falls g c =
    let e = c.in-Ok.ensures.entered in
    let t = c.requires.reached in
    let w = c.args.self.now in
    let n = c.args.others in
    let room : n + 1 < length c.args.levels.now = omega (arith, e.above, e.begun.opened.higher, c.enter.auto.frames, c.requires.frames, c.requires.levels, t.above, t.rise, t.some) in
    inside_falls w c.requires.asking c.args.spent.now c.args.frames.now c.args.levels.now n c.args.level c.args.inner t c.enter.new.frames c.enter.auto.frames c.in-Ok.ensures.below _ (at_level c.args.levels.now n c.args.level c.in-Ok.inside room) (others_kept c.args.levels.now n c.args.level c.in-Ok.inside room)
    e.tree e.walked c.enter.new.spent c.in-Ok.inside e.begun e.same e.begin e.bytes e.above (at_inside c.args.levels.now n c.args.level c.in-Ok.inside room)

pub returns-in-Err-clause-no : goal.returns-in-Err-clause-no
returns-in-Err-clause-no g c =
    let t = c.requires.reached in
    let n = c.args.others in
    let room : n < length c.args.levels.now = omega (arith, t.above, t.rise, t.some, t.opened.room, c.requires.frames, c.requires.levels) in
    inside_ends c.args.self.now c.requires.asking c.args.spent.now c.args.frames.now c.args.levels.now n c.args.level c.args.inner t c.enter.new.frames c.enter.auto.frames c.in-Err.ensures.below _ (at_one c.args.levels.now n c.args.level room) (one_kept c.args.levels.now n c.args.level room)
    c.enter.new.links c.in-Err.unmet c.in-Err.ensures.entered (n + 1) (omega arith)
