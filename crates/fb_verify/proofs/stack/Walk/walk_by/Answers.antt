use Rattle.std.proofs.Common.{◌≡◌, ℕ, ◌+◌, ◌<◌, ◌≤◌, List, take, get_or, refl, sym, ◌∙◌, ap, subst, arith}
use Rattle.fb_bytes.specs.Word.{Lent}
use Rattle.fb_verify.specs.{Stack.blank, Stack.Origin, Stack.work, Turns.FramesTurned, Turns.IsBrim, Turns.Walked, Turns.WentOn, declared.scratch.Frame.Frame}
use Rattle.fb_verify.specs.declared.stack.{Walk.Walk, Turn.Turn, Turn.TheVariants.Down, Turn.TheVariants.Up, Turn.TheVariants.Slowly, Turn.TheVariants.Halt as Halted}
use Rattle.fb_verify.proofs.Turning.{begins, over_from, wrong_from}
use Rattle.fb_verify.proofs.stack.Walk.walk_by.Goals as goal

module _ {w now then : Walk} {m been new : Lent} {s : Origin} {old frames past : List Frame} {waiting at left fewer : ℕ}
    (before : WentOn w now m been s old waiting frames at 0) (turn : WentOn now then been new s frames at past left fewer) where
  schema : now.schema ≡ w.schema
  schema = ap (λ (x : Walk). x.schema) before.same

  limits : now.limits ≡ w.limits
  limits = ap (λ (x : Walk). x.limits) before.same

  falls : fewer + new.count + work w.schema.now w.limits (take left past) (get_or past left blank) then.tables ≤ been.count + work w.schema.now w.limits (take at frames) (get_or frames at blank) now.tables
  falls = rw (schema, limits) at turn.falls

  -- a turn leaves less work
  less : 0 < fewer → work w.schema.now w.limits (take left past) (get_or past left blank) then.tables < work w.schema.now w.limits (take at frames) (get_or frames at blank) now.tables
  less some = omega (arith, falls, turn.grows)

  -- and the walk went on by it
  goes_on : WentOn w then m new s old waiting past left 0
  goes_on = record {
    same = turn.same ∙ ap (λ (x : Walk). record x { tables = then.tables; deepest = then.deepest }) before.same;
    walking = turn.walking;
    top = turn.top;
    falls = omega (arith, falls, before.falls);
    grows = omega (arith, before.grows, turn.grows);
    bytes = turn.bytes ∙ before.bytes;
  }

-- it stops, or goes on where it was
ends_turn : {w now : Walk} {m been : Lent} {s : Origin} {old frames : List Frame} {waiting at : ℕ} → WentOn w now m been s old waiting frames at 0
    → (then : Walk) (new : Lent) (past : List Frame) (turn : Turn) → (turn ≡ Down → ⊥) → (turn ≡ Up → ⊥) → FramesTurned now then been new s frames past at turn → Walked w then m new s old waiting past at turn
ends_turn before _ _ _ Down down up h = absurd (down refl)
ends_turn before _ _ _ Up down up h = absurd (up refl)
ends_turn before _ _ _ Slowly down up h = goes_on before h
ends_turn before _ _ _ Halted down up h = wrong_from before.same before.bytes h

pub loop-has_below-smaller : goal.loop-has_below-smaller
loop-has_below-smaller g c =
    let up = c.in-Up.ensures.above (omega (arith, c.if-at-eq0.false)) in
    less c.loop-has_below.invariant.on up.0 (omega arith)

pub loop-has_below-preserved : goal.loop-has_below-preserved
loop-has_below-preserved g c =
    let up = c.in-Up.ensures.above (omega (arith, c.if-at-eq0.false)) in
    record {
      on = goes_on c.loop-has_below.invariant.on up.0;
      short = up.1;
      below = λ more. omega (arith, c.loop-has_below.invariant.below more, c.turn.auto.frames);
    }

pub loop-has_below-init : goal.loop-has_below-init
loop-has_below-init g c = record {
  on = begins c.requires.0 c.requires.1.0;
  short = c.requires.1.1.0;
  below = λ more. rw c.depth-depth.ensures.value at (c.has_frame_below-has_below.ensures more);
}

pub turn-requires : goal.turn-requires
turn-requires g c =
    let i = c.loop-has_below.invariant in
    let checks = ap (λ (x : Walk). x.checks) i.on.same in
    let depth = ap (λ (x : Walk). (x.limits).depth) i.on.same in (
      refl,
      (i.on.walking, (rw depth (i.below c.loop-has_below-test.true), (i.on.top, (i.short, (subst (λ (x : Walk). IsBrim x c.brim-brim.result) (sym i.on.same) c.brim-brim.ensures, c.requires.1.1.1 ∙ sym checks))))),
    )

pub loop-has_below-smaller-in-Down : goal.loop-has_below-smaller-in-Down
loop-has_below-smaller-in-Down g c = less c.loop-has_below.invariant.on c.in-Down.ensures.0 (omega arith)

pub loop-has_below-preserved-in-Down : goal.loop-has_below-preserved-in-Down
loop-has_below-preserved-in-Down g c = record {
  on = goes_on c.loop-has_below.invariant.on c.in-Down.ensures.0;
  short = c.in-Down.ensures.1;
  below = λ more. rw c.depth-depth.ensures.value at (c.has_frame_below-has_below-in-Down.ensures more);
}

pub returns-then-at-eq0 : goal.returns-then-at-eq0
returns-then-at-eq0 g c = over_from c.loop-has_below.invariant.on.same c.loop-has_below.invariant.on.bytes (c.in-Up.ensures.over c.if-at-eq0.true)

pub returns-in_default : goal.returns-in_default
returns-in_default g c = ends_turn c.loop-has_below.invariant.on _ _ _ c.turn.result c.in_default.not-Down c.in_default.not-Up c.turn.ensures
