use Rattle.std.proofs.Common.{◌+◌, ◌-◌, refl, ap, ◌∙◌, subst, length, length-drop, arith}
use Rattle.fb_bytes.specs.Word.{Lent}
use Rattle.fb_rules.specs.Tree.{Tree}
use Rattle.fb_strict.specs.{Asked.demands_of, Passing.wants_of, Passing.IsRooted, Levels.RootBegun}
use Rattle.fb_strict.proofs.Legs.{rooted_within, some_room, level_begins, level_halts}
use Rattle.fb_strict.proofs.levels.Asking.begin.Goals as goal

-- src/levels.rt
pub returns-in-Ok-answer-clause-begun : goal.returns-in-Ok-answer-clause-begun
returns-in-Ok-answer-clause-begun g c y h few =
    let w = c.args.self.now in
    let m = c.lend-loan.result in
    let spent = c.args.spent.now in
    let level = c.args.level in
    let root = c.args.root in
    let bytes = ap (λ (x : Lent). x.bytes) c.lend-loan.ensures.lent ∙ c.in-Ok.ensures.meter.0 ∙ c.bytes_of.ensures in
    let none = ap (λ (x : Lent). x.count) c.lend-loan.ensures.lent ∙ c.in-Ok.ensures.meter.1 in
    let room = ap length c.split_at_mut-own.ensures.back ∙ length-drop level.above c.args.frames.now in
    let rooted = rooted_within w spent c.requires.allowed level root m.bytes (length c.args.frames.now - level.above) (length c.split_at_mut-own.result.1.now) y bytes room h in
    let began = subst (λ p. (y : Tree) → IsRooted p m.bytes (length c.split_at_mut-own.result.1.now) root y → RootBegun p m c.begin_buffer-answer.new.loan (demands_of (wants_of p) p.checks m.bytes p.rows root.object y) c.begin_buffer-answer.new.frames c.begin_buffer-answer.result) c.pass.ensures c.begin_buffer-answer.ensures y rooted in
    (level_begins w spent c.requires.allowed level root m c.begin_buffer-answer.new.loan bytes none (record spent { reads = spent.reads + c.reads.result }) (ap (λ n. spent.reads + n) c.reads.ensures.count) c.begin_buffer-answer.new.frames _ c.split_at_mut-own.result.0.now refl c.split_at_mut-own.ensures.front_len c.requires.within y c.in-Ok-answer.many (omega (arith, some_room w spent c.requires.allowed level root _ y h, room, c.begin_buffer-answer.auto.frames)) few (rw c.in-Ok-answer.is at began), refl)

pub returns-in-Err-clause-begun : goal.returns-in-Err-clause-begun
returns-in-Err-clause-begun g c y h few =
    let w = c.args.self.now in
    let m = c.lend-loan.result in
    let spent = c.args.spent.now in
    let level = c.args.level in
    let root = c.args.root in
    let bytes = ap (λ (x : Lent). x.bytes) c.lend-loan.ensures.lent ∙ c.in-Ok.ensures.meter.0 ∙ c.bytes_of.ensures in
    let none = ap (λ (x : Lent). x.count) c.lend-loan.ensures.lent ∙ c.in-Ok.ensures.meter.1 in
    let room = ap length c.split_at_mut-own.ensures.back ∙ length-drop level.above c.args.frames.now in
    let rooted = rooted_within w spent c.requires.allowed level root m.bytes (length c.args.frames.now - level.above) (length c.split_at_mut-own.result.1.now) y bytes room h in
    let began = subst (λ p. (y : Tree) → IsRooted p m.bytes (length c.split_at_mut-own.result.1.now) root y → RootBegun p m c.begin_buffer-answer.new.loan (demands_of (wants_of p) p.checks m.bytes p.rows root.object y) c.begin_buffer-answer.new.frames c.begin_buffer-answer.result) c.pass.ensures c.begin_buffer-answer.ensures y rooted in
    level_halts w spent c.requires.allowed level root m c.begin_buffer-answer.new.loan bytes none (record spent { reads = spent.reads + c.reads.result }) (ap (λ n. spent.reads + n) c.reads.ensures.count) c.begin_buffer-answer.new.frames _ c.split_at_mut-own.result.0.now refl c.split_at_mut-own.ensures.front_len c.requires.within y c.in-Err.halt c.told.result c.told.ensures (rw c.in-Err.is at began)
