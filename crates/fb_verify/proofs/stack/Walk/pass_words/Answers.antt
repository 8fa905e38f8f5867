use Rattle.std.proofs.Common.{◌≡◌, ℕ, ◌+◌, ◌*◌, ◌^◌, ◌<◌, ◌≤◌, sym, ◌∙◌, ap, arith}
use Rattle.std.proofs.Math.Nat.{le_trans}
use Rattle.fb_rules.proofs.Budgets.{fewer_reads}
use Rattle.fb_verify.specs.{Turns.IsShort, declared.stack.Walk.Walk}
use Rattle.fb_verify.proofs.{Turns.halts_behind, stack.Walk.pass_words.Goals.in-Text, stack.Walk.pass_words.Goals.in_default}
use Rattle.fb_verify.proofs.stack.Walk.pass_words.Goals as goal

-- the budget allows whatever the words cost
fits : (n k f left : ℕ) {room : ℕ} → (n < 2 ^ 57 → k ≡ n) → IsShort n → f ≡ left → k + 4 * f ≤ room → n + 4 * left ≤ room
fits n k f left all short from enough = let same : k ≡ n = all (omega arith) in omega (arith, same)

pub pass_words_of-answer-requires : goal.pass_words_of-answer-requires
pass_words_of-answer-requires g c =
    let r = c.requires.0 in
    let fit = fits _ _ _ _ c.count.ensures.all r.short c.from.ensures c.if-count-from.false in
    rw c.lend-own.ensures.lent (r.walking, (fewer_reads (c.args.self.now.limits).reads _ _ fit c.short_of.ensures.allowed, (le_trans fit c.short_of.ensures.short, (rw c.in-Text.is at c.requires.1.0, (tt, (c.requires.1.1.1, c.stands.ensures c.if-not-stands.false))))))

pub pass_words_of-answer-requires-in_default : goal.pass_words_of-answer-requires-in_default
pass_words_of-answer-requires-in_default g c =
    let r = c.requires.0 in
    let fit = fits _ _ _ _ c.count.ensures.all r.short c.from.ensures c.if-count-from.false in
    rw c.lend-own.ensures.lent (r.walking, (fewer_reads (c.args.self.now.limits).reads _ _ fit c.short_of.ensures.allowed, (le_trans fit c.short_of.ensures.short, (c.requires.1.0, (c.requires.1.1.0, (c.requires.1.1.1, c.stands.ensures c.if-not-stands.false))))))

pub returns-in-Ok : goal.returns-in-Ok
returns-in-Ok g c _ = elim c.match-referent.branch [
  | in-Text w ↦ rw (c.settle.ensures, w.own-is, w.top-is) (rw (sym w.answer-is ∙ c.in-Ok.is, c.lend-own.ensures.lent) at w.pass_words_of-answer.ensures.rests)
  | in_default w ↦ rw (c.settle.ensures, w.own-is, w.top-is) (rw (sym w.answer-is ∙ c.in-Ok.is, c.lend-own.ensures.lent) at w.pass_words_of-answer-in_default.ensures.rests)
]

pub returns-in-Err : goal.returns-in-Err
returns-in-Err g c _ =
    let r = c.requires.0 in
    let stop = ap (λ (x : Walk). x.halt) c.stop.ensures.halt in
    rw c.stop.ensures.turn (elim c.match-referent.branch [
      | in-Text w ↦
          let e = w.pass_words_of-answer.ensures in
          rw (c.settle.ensures, w.own-is, w.top-is) (halts_behind r.many (rw c.lend-own.ensures.lent at e.bytes) (r.walking).links c.in-Err.stop stop (rw (sym w.answer-is ∙ c.in-Err.is, c.lend-own.ensures.lent) at e.err))
      | in_default w ↦
          let e = w.pass_words_of-answer-in_default.ensures in
          rw (c.settle.ensures, w.own-is, w.top-is) (halts_behind r.many (rw c.lend-own.ensures.lent at e.bytes) (r.walking).links c.in-Err.stop stop (rw (sym w.answer-is ∙ c.in-Err.is, c.lend-own.ensures.lent) at e.err))
    ])
