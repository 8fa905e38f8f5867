use Rattle.std.proofs.Common.{[], sym, ap, subst, length}
use Rattle.fb_bytes.specs.Word.{Lent}
use Rattle.fb_rules.specs.Facts.{IsTable}
use Rattle.fb_strict.specs.Passing.{IsPassing}
use Rattle.fb_strict.proofs.{Frames.next_table, Looping.some_frame, Looping.root_stops, Looping.begins_on, Looping.first_stands}
use Rattle.fb_strict.proofs.pass.Pass.begin.Goals as goal

-- src/pass.rt
pub bounds-frames-0 : goal.bounds-frames-0
bounds-frames-0 g c = some_frame c.args.self.now c.args.loan.now c.requires.passing c.requires.allowed c.args.frames.now c.requires.small c.args.root c.requires.next.0 c.requires.next.1 c.requires.next.2

pub open-opened-requires-clause-table : goal.open-opened-requires-clause-table
open-opened-requires-clause-table g c =
    subst (λ b. IsTable c.args.self.now.checks b c.args.root.at) (sym (ap (λ (x : Lent). x.bytes) c.lend-reads.ensures.lent)) (next_table c.args.self.now c.args.loan.now.bytes c.requires.passing (length c.args.frames.now) [] c.args.root c.requires.next.0 c.requires.next.1)

pub open-opened-requires-clause-object : goal.open-opened-requires-clause-object
open-opened-requires-clause-object g c = c.requires.next.1.object

pub open-opened-requires-clause-passing : goal.open-opened-requires-clause-passing
open-opened-requires-clause-passing g c = subst (IsPassing c.args.self.now) (sym (ap (λ (x : Lent). x.bytes) c.lend-reads.ensures.lent)) c.requires.passing

pub returns-in-Err-clause-begins : goal.returns-in-Err-clause-begins
returns-in-Err-clause-begins g c ds n =
    root_stops c.args.self.now c.args.loan.now c.requires.passing c.requires.allowed c.args.frames.now c.requires.small c.args.root c.requires.next.0 c.requires.next.1 c.requires.next.2
    c.lend-reads.result.0 c.open-opened.new.reads c.lend-reads.new.loan c.settle.new.self c.lend-reads.ensures.lent c.lend-reads.ensures.bare c.settle.ensures c.in-Err.stop c.in-Err.ensures.opens _ c.halt.result c.halt.ensures ds n

pub returns-in-Ok-clause-begins : goal.returns-in-Ok-clause-begins
returns-in-Ok-clause-begins g c =
    begins_on c.args.self.now c.args.loan.now c.requires.passing c.requires.allowed c.args.frames.now c.requires.small c.args.root c.requires.next.0 c.requires.next.1 c.requires.next.2
    c.lend-reads.result.0 c.open-opened.new.reads c.lend-reads.new.loan c.settle.new.self c.lend-reads.ensures.lent c.lend-reads.ensures.bare c.settle.ensures c.in-Ok.ensures.opens ((c.open-opened.new.frame).table).head c.in-Ok.ensures.head c.open-opened.new.frame c.in-Ok.ensures.frame

pub returns-in-Ok-clause-stands : goal.returns-in-Ok-clause-stands
returns-in-Ok-clause-stands g c =
    first_stands c.args.self.now c.args.loan.now c.requires.passing c.requires.allowed c.args.frames.now c.requires.small c.args.root c.requires.next.0 c.requires.next.1 c.requires.next.2
    c.lend-reads.result.0 c.open-opened.new.reads c.lend-reads.new.loan c.settle.new.self c.lend-reads.ensures.lent c.lend-reads.ensures.bare c.settle.ensures c.in-Ok.ensures.opens ((c.open-opened.new.frame).table).head c.in-Ok.ensures.head c.open-opened.new.frame c.in-Ok.ensures.frame
