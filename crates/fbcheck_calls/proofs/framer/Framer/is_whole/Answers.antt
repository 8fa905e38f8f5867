use Rattle.std.proofs.Common.{rules, ◌≡◌, ◌-◌, eq-eqb, arith}
use Rattle.fbcheck_calls.proofs.FramerLemmas.{first_is_message, message_is_first}
use Rattle.fbcheck_calls.proofs.framer.Framer.is_whole.Goals as goal

pub returns : goal.returns
returns c = λ kept.
    let room = c.args.room.now in
    let held = c.args.self.now.held in (
      λ same.
          let equal : held - 4 ≡ c.declared.result = search (rules, same) in
          (c.if-self-ne0.false, first_is_message room held kept.within c.if-self-lt4.false (omega (arith, c.declared.ensures))),
      λ whole.
          let first = message_is_first room held kept.within whole.1 in
          eq-eqb (held - 4) c.declared.result (omega (arith, c.declared.ensures)),
    )
