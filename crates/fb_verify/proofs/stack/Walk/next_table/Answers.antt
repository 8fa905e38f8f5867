use Rattle.std.proofs.Common.{arith}
use Rattle.fb_rules.proofs.Budgets.{fewer_reads}
use Rattle.fb_verify.proofs.stack.Walk.next_table.Goals as goal

pub take_word-requires : goal.take_word-requires
take_word-requires g c =
    let test = c.if-not-may_open.false in
    let room = c.may_open.ensures.room test in
    (c.requires.0, (c.may_open.ensures.limits test, (fewer_reads (c.args.self.now.limits).reads _ _ (omega (arith, room)) c.short_of.ensures.allowed, (omega (arith, room, c.short_of.ensures.short), c.requires.1))))
