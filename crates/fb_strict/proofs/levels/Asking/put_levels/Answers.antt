use Rattle.std.proofs.Common.{◌≡◌, ◌+◌, ◌++◌, sym, ap, subst, ◌∙◌, refl, arith, length-append}
use Rattle.fb_strict.specs.Levels.{AreOpen}
use Rattle.fb_strict.proofs.Ways.{room_around, room_own, put_one, put_all, put_none}
use Rattle.fb_strict.proofs.levels.Asking.put_levels.Goals as goal

-- src/way.rt
pub loop-passed-init : goal.loop-passed-init
loop-passed-init g c = record { same = refl; within = omega arith; done = put_none c.args.self.now c.args.frames.now c.args.levels.now c.args.links.now }

pub split_at_mut-behind-requires : goal.split_at_mut-behind-requires
split_at_mut-behind-requires g c =
    let l = c.loop-passed in
    room_around c.args.self.now c.args.frames.now c.args.levels.now c.args.many c.requires.passed l.passed c.loop-passed-test.true l.links (l.invariant.same ∙ c.requires.room)

pub split_at_mut-own-requires : goal.split_at_mut-own-requires
split_at_mut-own-requires g c =
    let l = c.loop-passed in
    room_own c.args.self.now c.args.frames.now c.args.levels.now c.args.many c.requires.passed l.passed c.loop-passed-test.true l.links (l.invariant.same ∙ c.requires.room) _ c.split_at_mut-behind.ensures.back_len

pub put_tables-requires-clause-tables : goal.put_tables-requires-clause-tables
put_tables-requires-clause-tables g c =
    let l = c.loop-passed in
    subst (AreOpen c.args.self.now c.args.frames.now _) (sym c.split_at_mut-own.ensures.front_len) (c.requires.passed l.passed c.loop-passed-test.true).tables

pub loop-passed-preserved : goal.loop-passed-preserved
loop-passed-preserved g c =
    let l = c.loop-passed in
    let a = c.split_at_mut-behind.ensures in
    let b = c.split_at_mut-own.ensures in
    let front = c.split_at_mut-behind.result.0.now in
    let own = c.put_tables.new.links in
    let behind = c.split_at_mut-own.result.1.now in
    record {
      same = let f = length-append front (own ++ behind) in let o = length-append own behind in omega (arith, f, o, a.front_len, a.back_len, b.front_len, b.back_len, c.put_tables.auto.links, l.invariant.same);
      within = omega (arith, c.loop-passed-test.true);
      done = put_one c.args.self.now c.args.frames.now c.args.levels.now l.passed (c.requires.passed l.passed c.loop-passed-test.true) l.links front c.split_at_mut-own.result.0.now own behind (a.value ∙ ap (λ xs. front ++ xs) b.value) a.front_len b.front_len c.put_tables.auto.links
          c.put_tables.ensures l.invariant.done (l.passed + 1) (omega arith);
    }

pub returns : goal.returns
returns g c =
    let l = c.loop-passed in
    let e : l.passed ≡ c.args.many = omega (arith, c.loop-passed-test.false, l.invariant.within) in
    put_all c.args.self.now c.args.frames.now c.args.levels.now c.args.many l.links (l.invariant.same ∙ c.requires.room) (rw e at l.invariant.done)
