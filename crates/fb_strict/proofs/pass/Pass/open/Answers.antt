use Rattle.std.proofs.Common.{None, ap}
use Rattle.fb_rules.specs.Cost.{head_reads}
use Rattle.fb_strict.specs.Passing.{Passing}
use Rattle.fb_strict.proofs.{Answered.only_read, KnownSlots.head_stops, KnownSlots.then_stops, KnownSlots.opens}
use Rattle.fb_strict.proofs.pass.Pass.open.Goals as goal

-- src/pass.rt
pub returns-in-Err-clause-opens : goal.returns-in-Err-clause-opens
returns-in-Err-clause-opens g c =
    let m = c.args.reads.now in
    let checks = ap (λ (x : Passing). x.checks) c.self.view_is in
    let a = c.in-Err.ensures m None (head_reads c.args.self.now.checks) (only_read m c.read_head-head.new.reads c.args.child.at (head_reads c.args.self.now.checks) (rw checks at c.read_head-head.ensures.counted)) in
    head_stops c.args.self.now m c.read_head-head.new.reads c.args.child c.in-Err.stop a

pub returns-in-Err-pass_slots-clause-opens : goal.returns-in-Err-pass_slots-clause-opens
returns-in-Err-pass_slots-clause-opens g c =
    let m = c.args.reads.now in
    let checks = ap (λ (x : Passing). x.checks) c.self.view_is in
    let a = c.in_default.ensures m None (head_reads c.args.self.now.checks) (only_read m c.read_head-head.new.reads c.args.child.at (head_reads c.args.self.now.checks) (rw checks at c.read_head-head.ensures.counted)) in
    then_stops c.args.self.now m c.read_head-head.new.reads c.args.child a c.pass_slots.new.reads c.in-Err-pass_slots.stop c.in-Err-pass_slots.ensures

pub returns-clause-opens : goal.returns-clause-opens
returns-clause-opens g c =
    let m = c.args.reads.now in
    let checks = ap (λ (x : Passing). x.checks) c.self.view_is in
    let a = c.in_default.ensures m None (head_reads c.args.self.now.checks) (only_read m c.read_head-head.new.reads c.args.child.at (head_reads c.args.self.now.checks) (rw checks at c.read_head-head.ensures.counted)) in
    opens c.args.self.now m c.read_head-head.new.reads c.args.child a c.pass_slots.new.reads c.in_default-pass_slots.ensures
