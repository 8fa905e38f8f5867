use Rattle.std.proofs.Common.{[], sym, ap, subst, ◌∙◌, length}
use Rattle.fb_bytes.specs.Word.{Lent}
use Rattle.fb_strict.specs.{declared.demands.Demands.Demands, Planned.Planned, Asked.demands_in, Asked.demands_of, Passing.Passing, Passing.wants_of, Passing.IsNext}
use Rattle.fb_strict.proofs.{Buffers.rest_of, Buffers.too_short, Buffers.short_halts, Buffers.its_next, Legs.root_quiet, Legs.root_begins, Legs.root_halts}
use Rattle.fb_strict.proofs.levels.begin_buffer.Goals as goal

-- src/levels.rt
pub returns-in-Some : goal.returns-in-Some
returns-in-Some g c y h =
    let p = c.args.pass.now in
    let m = c.args.loan.now in
    let s = c.in-Some.ensures.some in
    let count = ap (λ (x : Lent). x.count) c.refuse_short.ensures.same in
    let ds = demands_of (wants_of p) p.checks m.bytes p.rows c.args.root.object y in
    let plan = ap (λ (x : Passing). x.plan) c.pass.view_is in
    let asked = ap (λ (D : Demands). D.unions) c.demands.ensures ∙ ap (λ (q : Planned). q.demands.unions) plan in
    let short = too_short p m c.requires.allowed c.args.root c.in-Some.refusal.reason (rw asked at s.1) (rest_of p m c.requires.allowed c.args.root y) in
    short_halts p m c.requires.allowed c.args.root _ c.args.frames.now c.refuse_short.new.loan ds (rw (s.0, count) short) c.halt.result c.halt.ensures

pub returns-then-not-asks : goal.returns-then-not-asks
returns-then-not-asks g c y h =
    let plan = ap (λ (x : Passing). x.plan) c.pass.view_is in
    let asked = ap (λ (D : Demands). D.unions) c.demands.ensures ∙ ap (λ (q : Planned). q.demands.unions) plan in
    root_quiet c.args.pass.now c.args.loan.now c.requires.allowed c.args.root y (rw asked at (c.refuse_short.ensures.none c.in_default.is)) (sym (rw plan at c.asks.ensures) ∙ c.if-not-asks.true) c.refuse_short.new.loan c.refuse_short.ensures.same c.args.frames.now

pub returns-in-Ok : goal.returns-in-Ok
returns-in-Ok g c y h =
    let p = c.args.pass.now in
    let m = c.args.loan.now in
    let root = c.args.root in
    let plan = ap (λ (x : Passing). x.plan) c.pass.view_is in
    let ds = demands_in y (wants_of p) p.checks m.bytes p.rows [] in
    let bytes = ap (λ (x : Lent). x.bytes) c.refuse_short.ensures.same in
    let asked = ap (λ (D : Demands). D.unions) c.demands.ensures ∙ ap (λ (q : Planned). q.demands.unions) plan in
    root_begins p m c.requires.allowed root y c.refuse_short.new.loan c.begin.new.loan c.refuse_short.ensures.same (rw asked at (c.refuse_short.ensures.none c.in_default.is)) (sym (rw plan at c.asks.ensures) ∙ c.if-not-asks.false) c.begin.new.frames c.begin.result
    (c.begin.ensures.begins ds (subst (λ b. IsNext p b (length c.args.frames.now) [] root ds) (sym bytes) (its_next p m c.requires.allowed root (length c.args.frames.now) y h))) c.in-Ok.ensures.stands.within _ c.in-Ok.is

pub returns-in-Err : goal.returns-in-Err
returns-in-Err g c y h =
    let p = c.args.pass.now in
    let m = c.args.loan.now in
    let root = c.args.root in
    let plan = ap (λ (x : Passing). x.plan) c.pass.view_is in
    let ds = demands_in y (wants_of p) p.checks m.bytes p.rows [] in
    let bytes = ap (λ (x : Lent). x.bytes) c.refuse_short.ensures.same in
    let asked = ap (λ (D : Demands). D.unions) c.demands.ensures ∙ ap (λ (q : Planned). q.demands.unions) plan in
    root_halts p m c.requires.allowed root y c.refuse_short.new.loan c.begin.new.loan c.refuse_short.ensures.same (rw asked at (c.refuse_short.ensures.none c.in_default.is)) (sym (rw plan at c.asks.ensures) ∙ c.if-not-asks.false) c.begin.new.frames c.begin.result
    (c.begin.ensures.begins ds (subst (λ b. IsNext p b (length c.args.frames.now) [] root ds) (sym bytes) (its_next p m c.requires.allowed root (length c.args.frames.now) y h))) c.in-Err.halt c.in-Err.is
