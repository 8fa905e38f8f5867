use Rattle.std.proofs.Common.{arith, length, inl, refl}
use Rattle.fb_strict.proofs.Entering.{enter_rooted, enter_few, enter_spent, enter_ends}
use Rattle.fb_strict.proofs.levels.Asking.enter.Goals as goal

-- src/levels.rt
pub returns-in-Err-clause-entered : goal.returns-in-Err-clause-entered
returns-in-Err-clause-entered g c = inl (record { level_is = refl; many = _; rest = refl; stops = c.in-Err.ensures.no })

pub begin-requires-clause-tree : goal.begin-requires-clause-tree
begin-requires-clause-tree g c =
    let yes = c.in-Ok.ensures.yes in
    let n = length c.args.frames.now in (
      yes.0,
      enter_rooted c.args.self.now c.args.around c.args.inner c.requires.inner c.requires.asking c.args.spent.now c.walk.new.spent c.in-Ok.root yes.0 yes.1 n c.requires.frames,
      enter_few c.args.self.now c.args.around c.args.inner c.requires.inner c.requires.asking c.args.spent.now c.walk.new.spent c.in-Ok.root yes.0 yes.1 n c.requires.frames,
    )

pub begin-requires-clause-few : goal.begin-requires-clause-few
begin-requires-clause-few g c =
    let yes = c.in-Ok.ensures.yes in
    omega (arith, enter_spent c.args.self.now c.args.around c.args.inner c.requires.inner c.requires.asking c.args.spent.now c.walk.new.spent c.in-Ok.root yes.0 yes.1, c.requires.few)

pub returns-in-Ok-clause-entered : goal.returns-in-Ok-clause-entered
returns-in-Ok-clause-entered g c =
    let w = c.args.self.now in
    let yes = c.in-Ok.ensures.yes in
    let n = length c.args.frames.now in
    let rooted = enter_rooted w c.args.around c.args.inner c.requires.inner c.requires.asking c.args.spent.now c.walk.new.spent c.in-Ok.root yes.0 yes.1 n c.requires.frames in
    let few = enter_few w c.args.around c.args.inner c.requires.inner c.requires.asking c.args.spent.now c.walk.new.spent c.in-Ok.root yes.0 yes.1 n c.requires.frames in
    enter_ends w c.args.around c.args.inner c.requires.inner c.requires.asking c.args.spent.now c.walk.new.spent c.in-Ok.root yes.0 yes.1 c.begin.new.spent c.begin.new.frames c.walk.new.links c.begin.result c.begin.ensures.spent (c.begin.ensures.begun yes.0 rooted few)
