use Rattle.std.proofs.Common.{refl, ◌≡◌, ◌+◌, ◌≤◌, ◌<◌, length, length-drop, drop, take, take_all, ◌-◌, arith}
use Rattle.std.proofs.lemmas.Bool.{eqb-true, eqb-false}
use Rattle.fbcheck_calls.proofs.FramerLemmas.{failed_is_kept, fed_is_held, fed_message, refused, short_is_kept}
use Rattle.fbcheck_calls.proofs.framer.Framer.feed.Goals as goal

pub returns-then-declared-room-clause-fed : goal.returns-then-declared-room-clause-fed
returns-then-declared-room-clause-fed c =
    let f = c.args.self.now in
    let room = c.is_room.ensures.0 c.if-not-is_room.false in
    let zero : f.failed ≡ 0 = c.if-self-ne0.false in (
      room,
      λ kept.
          let over : length c.args.room.now < 4 + c.declared-declared.result = omega (arith, room.0, c.fill-used.ensures.size) in
          rw zero (refl, refused c.args.room.now c.fill-used.new.room c.args.piece.now f.held c.fill-used.result kept.within room.0 (kept.held zero) c.fill-used.ensures.filled c.if-self-lt4.false c.declared-declared.result c.declared-declared.ensures over),
    )

pub returns-then-declared-room-clause-kept : goal.returns-then-declared-room-clause-kept
returns-then-declared-room-clause-kept c = λ kept. failed_is_kept c.fill-used.new.room _ _ c.fill-used.ensures.within

pub returns-then-self-lt4-clause-kept : goal.returns-then-self-lt4-clause-kept
returns-then-self-lt4-clause-kept c = λ kept. short_is_kept c.fill-used.new.room _ c.fill-used.ensures.within c.if-self-lt4.true

pub returns-clause-fed : goal.returns-clause-fed
returns-clause-fed c =
    let f = c.args.self.now in
    let room = c.is_room.ensures.0 c.if-not-is_room.false in
    let zero : f.failed ≡ 0 = c.if-self-ne0.false in (
      room,
      λ kept.
          let fits : c.declared-declared.result + 4 ≤ length c.args.room.now = omega (arith, room.0, c.fill-used.ensures.size) in
          let rest : take (length c.args.piece.now - c.fill-used.result) (drop c.fill-used.result c.args.piece.now) ≡ drop c.fill-used.result c.args.piece.now = take_all _ _ (omega (arith, length-drop c.fill-used.result c.args.piece.now)) in
          rw zero (fed_message c.args.room.now c.fill-used.new.room c.args.piece.now f.held c.fill-used.result kept.within room.0 (kept.held zero) c.fill-used.ensures.filled c.if-self-lt4.false c.declared-declared.result c.declared-declared.ensures c.fill-more.new.room c.fill-more.result (rw rest at c.fill-more.ensures.filled) fits _
          (eqb-true _ _) (eqb-false _ _)),
    )

pub returns-clause-kept : goal.returns-clause-kept
returns-clause-kept c = λ kept. record { within = c.fill-more.ensures.within; held = λ _. fed_is_held _ _ _ _ _ ((returns-clause-fed c).1 kept) }
