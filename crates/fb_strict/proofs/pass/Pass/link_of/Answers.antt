use Rattle.std.proofs.Common.{◌≡◌, ◌-◌, ℕ, Some, sym, ap, subst, ◌∙◌, arith}
use Rattle.std.specs.Prelude.{slice_get, slice_index_or}
use Rattle.fb_rules.specs.Places.{field_place}
use Rattle.fb_strict.specs.{declared.tasks.Task.Task, Passing.Passing, Passing.ask_words, Reread.WordsStand, Reread.MemberStands}
use Rattle.fb_strict.proofs.{Tasking.tasks_are, Rereading.more_words, Rereading.words_stand, Rereading.member_stands, Rereading.link_read, Rereading.at_index}
use Rattle.fb_strict.proofs.pass.Pass.link_of.Goals as goal
use Rattle.fb_strict.proofs.pass.Pass.link_of.Goals.{In-Some}

-- the task that was looked up is the frame's last
same_task : (g : _) (c : In-Some g) (d : Task) → slice_index_or c.tasks_of-tasks.result.now (c.args.frame.now.next - 1) d ≡ c.requires.linked.last.task
same_task g c d =
    let p = c.args.self.now in
    let last = c.requires.linked.last in
    let plan = ap (λ (x : Passing). x.plan) c.self.view_is in
    let same = tasks_are p.rows p.plan (c.args.frame.now.table).object c.tasks_of-tasks.result.now c.requires.plan last.object (rw plan at c.tasks_of-tasks.ensures) in
    at_index c.tasks_of-tasks.result.now (c.args.frame.now.next - 1) d last.task (ap (λ ts. slice_get ts (c.args.frame.now.next - 1)) same ∙ last.found)

there : (g : _) (c : In-Some g) → field_place c.args.window.now c.args.frame.now.table.at c.requires.linked.last.task.slot ≡ Some c.in-Some.place
there g c = rw (same_task g c _) at (sym c.place_of.ensures.value ∙ c.in-Some.is)

-- src/links.rt
pub words_at-requires-clause-stands : goal.words_at-requires-clause-stands
words_at-requires-clause-stands g c =
    subst (λ (x : Task). WordsStand c.args.window.now c.in-Some.place x.ask) (sym (same_task g c _)) (words_stand c.args.self.now c.args.window.now c.requires.plan c.args.frame.now c.requires.linked c.in-Some.place (there g c))

pub overflow_sub-before : goal.overflow_sub-before
overflow_sub-before g c =
    let s = (goal.at.overflow_sub-before g c).In-Some in
    let more = more_words c.args.self.now c.args.window.now c.requires.plan c.args.frame.now c.requires.linked c.in-Some.place (there g s) in
    let words = c.words_at.ensures ∙ ap (λ (x : Task). ask_words c.args.window.now (Some c.in-Some.place) x.ask) (same_task g s _) in
    omega (arith, more, words)

pub overflow_sub-before-2 : goal.overflow_sub-before-2
overflow_sub-before-2 g c =
    let s = (goal.at.overflow_sub-before-2 g c).In-Some in
    let more = more_words c.args.self.now c.args.window.now c.requires.plan c.args.frame.now c.requires.linked c.in-Some.place (there g s) in
    let words = c.words_at.ensures ∙ ap (λ (x : Task). ask_words c.args.window.now (Some c.in-Some.place) x.ask) (same_task g s _) in
    omega (arith, more, words)

pub member_at-requires-clause-stands : goal.member_at-requires-clause-stands
member_at-requires-clause-stands g c =
    let s = (goal.at.member_at-requires-clause-stands g c).In-Some in
    let more = more_words c.args.self.now c.args.window.now c.requires.plan c.args.frame.now c.requires.linked c.in-Some.place (there g s) in
    let words = c.words_at.ensures ∙ ap (λ (x : Task). ask_words c.args.window.now (Some c.in-Some.place) x.ask) (same_task g s _) in
    let n = c.words_at.result - c.args.frame.now.row.left - 1 in
    subst (λ (x : Task). MemberStands c.args.window.now c.args.frame.now.table.at x.slot n x.ask) (sym (same_task g s _))
    (member_stands c.args.self.now c.args.window.now c.requires.plan c.args.frame.now c.requires.linked c.in-Some.place (there g s) n (omega (arith, more, words)))

pub returns : goal.returns
returns g c =
    let s = (goal.at.returns g c).In-Some in
    let same = same_task g s _ in
    let words = c.words_at.ensures ∙ ap (λ (x : Task). ask_words c.args.window.now (Some c.in-Some.place) x.ask) same in
    rw (c.element_at.ensures, c.member_at.ensures, same) (link_read c.args.self.now c.args.window.now c.requires.plan c.args.frame.now c.requires.linked c.in-Some.place (there g s) _ (ap (λ (k : ℕ). k - c.args.frame.now.row.left - 1) words))
