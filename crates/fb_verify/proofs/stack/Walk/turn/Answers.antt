use Rattle.std.proofs.Common.{◌<◌, [], ◌∷◌, length, sym, ◌∙◌, ap, subst, arith}
use Rattle.std.proofs.{Math.ListN.set, Math.ListN.length-set, lemmas.List.get_or-set_same, lemmas.List.length-append, lemmas.List.length-take}
use Rattle.fb_verify.specs.{Stack.blank, Stack.IsWalking, declared.scratch.Frame.Frame, declared.stack.Walk.Walk}
use Rattle.fb_verify.proofs.{Turning.AreParted, Turning.stands, Turning.frames_down, Turning.frames_turned, stack.Walk.turn.Goals.After-split_at_mut-low}
use Rattle.fb_verify.proofs.stack.Walk.turn.Goals as goal

-- the frames in two parts
parted : (g : _) (c : After-split_at_mut-low g) → AreParted g.under c.args.frames.now c.split_at_mut-low.result.0.now c.split_at_mut-low.result.1.now c.args.waiting
parted g c = record { parts = c.split_at_mut-low.ensures.value; front = c.split_at_mut-low.ensures.front_len; below = c.requires.0 }

pub pass_top-requires : goal.pass_top-requires
pass_top-requires g c =
    let top = stands (parted g (goal.at.pass_top-requires g c).After-split_at_mut-low) in (
      omega (arith, ap length c.requires.0, length-take c.args.waiting c.args.frames.now, c.requires.1.1.1.0),
      (subst (λ (x : Frame). IsWalking c.args.self.now c.args.reads.now (g.under).start (g.under).frames x) (sym top) c.requires.1.0, (c.requires.1.1.1.1.0, (c.requires.1.1.1.1.1.0, c.requires.1.1.1.1.1.1))),
    )

pub open_child-requires : goal.open_child-requires
open_child-requires g c =
    let d = c.in-Down.ensures in
    let checks = ap (λ (x : Walk). x.checks) d.same in (
      omega (arith, ap length c.requires.0, length-take c.args.waiting c.args.frames.now, c.requires.1.1.1.0, length-append (g.under).frames (c.pass_top.new.top ∷ [])),
      (d.down, (d.short, c.requires.1.1.1.1.1.1 ∙ sym checks)),
    )

pub returns-in_default : goal.returns-in_default
returns-in_default g c = frames_turned (parted g (goal.at.returns-in_default g c).After-split_at_mut-low) c.pass_top.new.top c.split_at_mut-low.result.1.now c.args.self.now c.pass_top.new.self c.args.reads.now c.pass_top.new.reads c.pass_top.new.child c.pass_top.result c.in_default.not-Down c.pass_top.ensures

pub returns-in-Down : goal.returns-in-Down
returns-in-Down g c =
    let high = c.split_at_mut-low.result.1.now in
    let d = rw c.in-Down.is at c.pass_top.ensures in
    let some : 0 < length high = omega (arith, c.requires.1.1.0, d.deep, ap length c.requires.0, length-take c.args.waiting c.args.frames.now, c.split_at_mut-low.ensures.back_len, (c.requires.1.0).links) in
    frames_down (parted g (goal.at.returns-in-Down g c).After-split_at_mut-low) c.pass_top.new.top (set high 0 c.open_child.new.below) c.open_child.new.self c.open_child.new.reads c.open_child.new.below
    (get_or-set_same high 0 c.open_child.new.below blank some) (omega (arith, some, length-set high 0 c.open_child.new.below)) d c.open_child.result c.open_child.ensures
