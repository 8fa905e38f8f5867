use Rattle.std.proofs.Common.{sym, subst, ap, arith}
use Rattle.fb_bytes.specs.Word.{Lent}
use Rattle.fb_rules.specs.declared.offset_row.Row.{Row}
use Rattle.fb_strict.specs.Passing.{IsRoom}
use Rattle.fb_strict.proofs.Typed.{known_stands, known_steps, asked_place, asked_stands, asked_reads, asked_count, asked_steps, none_steps, word_stops}
use Rattle.fb_strict.proofs.pass.Pass.pass_word.Goals as goal

-- src/uoffsets.rt
pub pass_referent-requires-clause-stands : goal.pass_referent-requires-clause-stands
pass_referent-requires-clause-stands g c =
    let l = c.requires.left in
    known_stands c.args.self.now c.args.reads.now c.requires.passing l.0 l.1 l.2 c.args.top.now c.in-All.referent l.3 c.requires.more c.in-All.is

pub returns-in-All : goal.returns-in-All
returns-in-All g c room via ds l =
    let top = c.args.top.now in
    let past = ap (λ (r : Row). record top { row = r }) c.advance_all.ensures in
    rw past (known_steps c.args.self.now c.args.reads.now c.requires.passing room via ds top c.in-All.referent l c.requires.more c.in-All.is c.pass_referent.new.reads c.args.many c.pass_referent.new.child c.pass_referent.result (rw c.site-site.ensures at c.pass_referent.ensures))

pub overflow_sub-place : goal.overflow_sub-place
overflow_sub-place g c =
    let l = c.requires.left in
    asked_place c.args.self.now c.args.reads.now c.pass_types.new.reads c.requires.passing l.0 l.1 l.2 c.args.top.now c.pass_types.new.top l.3 c.in-Ok.referent c.in_default.not-Nothing (rw c.in-Ok.is at (c.pass_types.ensures l.0 l.1 l.2 l.3))

pub pass_referent-requires-in_default : goal.pass_referent-requires-in_default
pass_referent-requires-in_default g c =
    let l = c.requires.left in
    let p = c.args.self.now in
    let m = c.args.reads.now in
    let mid = c.pass_types.new.reads in
    let w = rw c.in-Ok.is at (c.pass_types.ensures l.0 l.1 l.2 l.3) in
    let same = asked_reads p m mid c.requires.passing l.0 l.1 l.2 c.args.top.now c.pass_types.new.top l.3 c.in-Ok.referent c.in_default.not-Nothing w in
    let count = asked_count p m mid c.requires.passing l.0 l.1 l.2 c.args.top.now c.pass_types.new.top l.3 c.in-Ok.referent c.in_default.not-Nothing w in
    let base = ap (λ (x : Lent). x.base) same in
    let bytes = ap (λ (x : Lent). x.bytes) same in
    record {
      room = subst (λ n. IsRoom p.limits n c.args.room) (sym base) c.requires.room;
      few = omega (arith, base, count, c.requires.few);
      stands = asked_stands p m mid c.requires.passing l.0 l.1 l.2 c.args.top.now c.pass_types.new.top l.3 c.in-Ok.referent c.in_default.not-Nothing w;
      short = rw bytes c.requires.passing.short;
    }

pub returns-in_default : goal.returns-in_default
returns-in_default g c room via ds l =
    asked_steps c.args.self.now c.args.reads.now c.pass_types.new.reads c.requires.passing room via ds c.args.top.now c.pass_types.new.top l c.in-Ok.referent c.in_default.not-Nothing (rw c.in-Ok.is at (c.pass_types.ensures room via ds l)) c.pass_referent-in_default.new.reads c.args.many c.pass_referent-in_default.new.child
    c.pass_referent-in_default.result (rw c.site-site.ensures at c.pass_referent-in_default.ensures)

pub returns-in-Nothing : goal.returns-in-Nothing
returns-in-Nothing g c room via ds l =
    none_steps c.args.self.now c.args.reads.now c.pass_types.new.reads c.requires.passing room via ds c.args.top.now c.pass_types.new.top c.requires.more (rw (c.in-Ok.is, c.in-Nothing.is) at (c.pass_types.ensures room via ds l))

pub returns-in-Err : goal.returns-in-Err
returns-in-Err g c room via ds l =
    word_stops c.args.self.now c.args.reads.now c.pass_types.new.reads c.requires.passing room via ds c.args.top.now c.pass_types.new.top c.args.many c.in-Err.stop c.halt.result c.halt.ensures (rw c.in-Err.is at (c.pass_types.ensures room via ds l))
