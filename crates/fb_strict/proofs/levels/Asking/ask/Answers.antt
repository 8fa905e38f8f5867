use Rattle.std.proofs.Common.{◌≡◌, ◌-◌, ◌<◌, ap, ◌∙◌, arith, length}
use Rattle.fb_strict.specs.Levels.{Whole}
use Rattle.fb_strict.proofs.Wholes.{whole_rooted, whole_few, whole_spent, whole_stops, whole_opens, some_depth}
use Rattle.fb_strict.proofs.levels.Asking.ask.Goals as goal
use Rattle.fb_strict.proofs.levels.Asking.ask.Goals.{After-len}

all : (g : _) (c : After-len g) → c.len.result ≡ length c.args.self.now.bytes
all g c = c.len.ensures.len ∙ ap (λ (w : Whole). length w.bytes) c.self.view_is

-- src/whole.rt
pub begin-requires-clause-tree : goal.begin-requires-clause-tree
begin-requires-clause-tree g c =
    let d = (goal.at.begin-requires-clause-tree g c).After-len in
    let w = c.args.self.now in
    let t = c.requires.walked in
    let n = length c.args.frames.now - 0 in (
      t.0,
      whole_rooted w c.requires.asking c.args.spent.now c.args.root t.0 t.1 c.len.result (all g d) n (omega (arith, c.requires.frames)),
      whole_few w c.requires.asking c.args.spent.now c.args.root t.0 t.1 c.len.result (all g d) n (omega (arith, c.requires.frames)),
    )

pub begin-requires-clause-few : goal.begin-requires-clause-few
begin-requires-clause-few g c =
    let d = (goal.at.begin-requires-clause-few g c).After-len in
    let t = c.requires.walked in
    omega (arith, whole_spent c.args.self.now c.requires.asking c.args.spent.now c.args.root t.0 t.1 c.len.result (all g d))

pub bounds-levels-0 : goal.bounds-levels-0
bounds-levels-0 g c =
    let t = c.requires.walked in
    let some : 0 < length c.args.levels.now = omega (arith, some_depth c.args.self.now c.args.spent.now c.args.root t.0 t.1, c.requires.levels) in
    some

pub returns-in-Err-clause-no : goal.returns-in-Err-clause-no
returns-in-Err-clause-no g c =
    let d = (goal.at.returns-in-Err-clause-no g c).After-len in
    let w = c.args.self.now in
    let t = c.requires.walked in
    let n = length c.args.frames.now - 0 in
    let rooted = whole_rooted w c.requires.asking c.args.spent.now c.args.root t.0 t.1 c.len.result (all g d) n (omega (arith, c.requires.frames)) in
    let few = whole_few w c.requires.asking c.args.spent.now c.args.root t.0 t.1 c.len.result (all g d) n (omega (arith, c.requires.frames)) in
    whole_stops w c.requires.asking c.args.spent.now c.args.root t.0 t.1 c.len.result (all g d) c.begin.new.frames c.args.levels.now c.args.links.now c.in-Err.unmet (c.in-Err.ensures.begun t.0 rooted few)

pub run-requires-clause-under : goal.run-requires-clause-under
run-requires-clause-under g c =
    let d = (goal.at.run-requires-clause-under g c).After-len in
    let w = c.args.self.now in
    let t = c.requires.walked in
    let n = length c.args.frames.now - 0 in
    let rooted = whole_rooted w c.requires.asking c.args.spent.now c.args.root t.0 t.1 c.len.result (all g d) n (omega (arith, c.requires.frames)) in
    let few = whole_few w c.requires.asking c.args.spent.now c.args.root t.0 t.1 c.len.result (all g d) n (omega (arith, c.requires.frames)) in
    let some : 0 < length c.args.levels.now = omega (arith, some_depth c.args.self.now c.args.spent.now c.args.root t.0 t.1, c.requires.levels) in
    let begun = c.in-Ok.ensures.begun t.0 rooted few in
    whole_opens w c.requires.asking c.args.spent.now c.args.root t.0 t.1 c.len.result (all g d) c.begin.new.spent c.begin.new.frames c.args.levels.now c.in-Ok.first some begun.1 c.begin.ensures.spent begun.0
