use Rattle.std.proofs.Common.{◌+◌, refl, ap, sym, ◌∙◌, subst}
use Rattle.fb_bytes.specs.Word.{Lent}
use Rattle.fb_strict.specs.{Passing.IsStanding, Levels.passing_of}
use Rattle.fb_strict.proofs.Legs.{leg_stands, leg_goes, leg_halts}
use Rattle.fb_strict.proofs.levels.Asking.leg.Goals as goal

-- src/levels.rt
pub go_on-answer-requires-clause-stands : goal.go_on-answer-requires-clause-stands
go_on-answer-requires-clause-stands g c =
    let w = c.args.self.now in
    let m = c.lend-loan.result in
    let bytes = ap (λ (x : Lent). x.bytes) c.lend-loan.ensures.lent ∙ c.in-Ok.ensures.meter.0 ∙ c.bytes_of.ensures in
    let none = ap (λ (x : Lent). x.count) c.lend-loan.ensures.lent ∙ c.in-Ok.ensures.meter.1 in
    let stands = leg_stands w c.args.spent.now c.requires.allowed c.args.frames.now c.args.level.now m bytes none c.requires.small c.requires.opened.0 c.requires.opened.1 in
    subst (λ p. IsStanding p m c.split_at_mut-own.result.1.now c.args.level.now.many) (sym c.pass.ensures)
    (subst (λ fs. IsStanding (passing_of w c.args.spent.now) m fs c.args.level.now.many) (sym c.split_at_mut-own.ensures.back) stands)

pub returns-in-Ok-answer-clause-went : goal.returns-in-Ok-answer-clause-went
returns-in-Ok-answer-clause-went g c ds it =
    let w = c.args.self.now in
    let m = c.lend-loan.result in
    let bytes = ap (λ (x : Lent). x.bytes) c.lend-loan.ensures.lent ∙ c.in-Ok.ensures.meter.0 ∙ c.bytes_of.ensures in
    let none = ap (λ (x : Lent). x.count) c.lend-loan.ensures.lent ∙ c.in-Ok.ensures.meter.1 in
    let spent = c.args.spent.now in
    leg_goes w spent c.requires.allowed c.args.frames.now c.args.level.now m bytes none c.go_on-answer.new.loan (record spent { reads = spent.reads + c.reads.result }) (ap (λ n. spent.reads + n) c.reads.ensures.count)
    c.go_on-answer.new.frames c.go_on-answer.new.many _ c.split_at_mut-own.result.0.now refl c.split_at_mut-own.ensures.front_len c.pass.result c.pass.ensures c.split_at_mut-own.result.1.now c.split_at_mut-own.ensures.back c.go_on-answer.result c.go_on-answer.ensures.went ds it c.in-Ok-answer.inner c.in-Ok-answer.is

pub returns-in-Err-clause-went : goal.returns-in-Err-clause-went
returns-in-Err-clause-went g c ds it =
    let w = c.args.self.now in
    let m = c.lend-loan.result in
    let bytes = ap (λ (x : Lent). x.bytes) c.lend-loan.ensures.lent ∙ c.in-Ok.ensures.meter.0 ∙ c.bytes_of.ensures in
    let none = ap (λ (x : Lent). x.count) c.lend-loan.ensures.lent ∙ c.in-Ok.ensures.meter.1 in
    let spent = c.args.spent.now in
    leg_halts w spent c.requires.allowed c.args.frames.now c.args.level.now m bytes none c.go_on-answer.new.loan (record spent { reads = spent.reads + c.reads.result }) (ap (λ n. spent.reads + n) c.reads.ensures.count)
    c.go_on-answer.new.frames c.go_on-answer.new.many _ c.split_at_mut-own.result.0.now refl c.split_at_mut-own.ensures.front_len c.pass.result c.pass.ensures c.split_at_mut-own.result.1.now c.split_at_mut-own.ensures.back c.go_on-answer.result c.go_on-answer.ensures.went ds it c.in-Err.halt c.in-Err.is c.told.result c.told.ensures
