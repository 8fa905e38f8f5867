use Rattle.std.proofs.Common.{◌≡◌, ◌≤◌, ℕ, refl, ap, Some, arith, IsTrue}
use Rattle.std.specs.Prelude.{slice_get}
use Rattle.std.proofs.lemmas.Option.{slice_get_past, slice_get_within}
use Rattle.fb_schema.specs.{Rows.is_table, Live.live_fields}
use Rattle.fb_strict.specs.{Planned.tasks_in, Passing.Passing, Passing.wants_of}
use Rattle.fb_strict.proofs.Tasking.{at_task, at_end, stays_at, goes_in_at, stops_at, halts_in, tasks_are, item_some, few_tasks}
use Rattle.fb_strict.proofs.pass.Pass.step.Goals as goal
use Rattle.fb_strict.proofs.pass.Pass.step.Goals.{In-Some}

none_left : (n : ℕ) → n ≤ 0 → n ≡ 0
none_left n h = omega arith

-- the next task
found : (g : _) (c : In-Some g) → IsTrue (is_table c.args.self.now.rows (c.args.top.now.table).object) → slice_get (tasks_in (wants_of c.args.self.now) c.args.self.now.rows (c.args.top.now.table).object (live_fields c.args.self.now.rows (c.args.top.now.table).object)) c.args.top.now.next ≡ Some c.in-Some.task.now
found g c object =
    let p = c.args.self.now in
    let plan = ap (λ (x : Passing). x.plan) c.self.view_is in
    let same = tasks_are p.rows p.plan (c.args.top.now.table).object c.tasks_of-tasks.result.now c.requires.passing.plan object (rw plan at c.tasks_of-tasks.ensures) in
    rw same at (item_some c.tasks_of-tasks.result.now c.args.top.now.next c.get.result c.in-Some.task c.get.ensures.lookup c.in-Some.is)

-- src/pass.rt
pub returns-in_default : goal.returns-in_default
returns-in_default g c deep via ds l =
    let p = c.args.self.now in
    let top = c.args.top.now in
    let plan = ap (λ (x : Passing). x.plan) c.self.view_is in
    let same = tasks_are p.rows p.plan (top.table).object c.tasks_of-tasks.result.now c.requires.passing.plan l.object (rw plan at c.tasks_of-tasks.ensures) in
    let past = slice_get_past c.tasks_of-tasks.result.now top.next (omega (arith, c.in_default.ensures.lookup)) in
    (at_end p c.args.reads.now.bytes c.requires.passing deep via top ds l (none_left top.row.left c.if-top-gt0.false) (rw same at past), refl)

pub overflow_add-top : goal.overflow_add-top
overflow_add-top g c =
    let p = c.args.self.now in
    let fs = live_fields p.rows (c.args.top.now.table).object in
    let within = slice_get_within (tasks_in (wants_of p) p.rows (c.args.top.now.table).object fs) c.args.top.now.next c.in-Some.task.now (found g c c.requires.left.3.object) in
    let few = few_tasks (wants_of p) p.rows (c.args.top.now.table).object fs in
    let most = c.requires.passing.served.few (c.args.top.now.table).object in
    omega (arith, within, few, most)

pub pass_task-requires-clause-taskable : goal.pass_task-requires-clause-taskable
pass_task-requires-clause-taskable g c =
    let s = (goal.at.pass_task-requires-clause-taskable g c).In-Some in
    let l = c.requires.left.3 in
    (at_task c.args.self.now c.args.reads.now.bytes c.requires.passing c.requires.left.0 c.requires.left.1 c.args.top.now c.requires.left.2 l (none_left c.args.top.now.row.left c.if-top-gt0.false) c.in-Some.task.now (found g s l.object)).taskable

pub returns-in-Ok-None : goal.returns-in-Ok-None
returns-in-Ok-None g c deep via ds l =
    let s = (goal.at.returns-in-Ok-None g c).In-Some in
    stays_at c.args.self.now c.args.reads.now c.pass_task.new.reads c.requires.passing deep via c.args.top.now ds l (none_left c.args.top.now.row.left c.if-top-gt0.false) c.in-Some.task.now (found g s l.object) c.pass_task.new.row
    (rw (c.site-site.ensures, c.in-Ok-None.is, c.in-Ok-None.field-0-is) at c.pass_task.ensures)

pub returns-in-Ok-Some : goal.returns-in-Ok-Some
returns-in-Ok-Some g c deep via ds l =
    let s = (goal.at.returns-in-Ok-Some g c).In-Some in
    goes_in_at c.args.self.now c.args.reads.now c.pass_task.new.reads c.requires.passing deep via c.args.top.now ds l (none_left c.args.top.now.row.left c.if-top-gt0.false) c.in-Some.task.now (found g s l.object) c.pass_task.new.row c.in-Ok-Some.inner
    (rw (c.site-site.ensures, c.in-Ok-Some.is, c.in-Ok-Some.field-0-is) at c.pass_task.ensures)

pub returns-in-Err : goal.returns-in-Err
returns-in-Err g c deep via ds l =
    let s = (goal.at.returns-in-Err g c).In-Some in
    let stops = stops_at c.args.self.now c.args.reads.now c.pass_task.new.reads c.requires.passing deep via c.args.top.now ds l (none_left c.args.top.now.row.left c.if-top-gt0.false) c.in-Some.task.now (found g s l.object) c.pass_task.new.row c.in-Err.stop
    (rw (c.site-site.ensures, c.in-Err.is) at c.pass_task.ensures) in
    halts_in c.args.self.now c.args.reads.now c.pass_task.new.reads via c.args.many ds _ c.in-Err.stop c.halt.result c.requires.some c.halt.ensures stops
