use Rattle.std.proofs.Common.{◌≡◌, Some, ap, ◌∙◌, subst, length, map}
use Rattle.fb_bfbs.specs.Marks.{marked as mark_of}
use Rattle.fb_strict.specs.{declared.tasks.Held.TheVariants.Buffer, Demanded.demanded, Holding.held_in, Planned.all_wants, Planned.AreMarks, Planned.AreTasks}
use Rattle.fb_strict.proofs.Holds.{if_hold}
use Rattle.fb_strict.proofs.plan.Plan.new.Goals as goal

-- src/plan.rt
pub returns-clause-plan : goal.returns-clause-plan
returns-clause-plan g c =
    let S = c.args.schema.now in
    let d = c.args.demands in
    let ms = map mark_of c.args.marks.now in
    let items = c.in_ok-holdings.ensures.holdings in
    let held = c.new-held.ensures ∙ c.deref-2.ensures.value in
    let marks = subst (λ hs. AreMarks (demanded d hs) S c.in_ok-marks.marks.items) (held ∙ items) c.in_ok-marks.ensures in
    let first = subst (λ hs. AreTasks (all_wants (demanded d hs) c.deref-4.result.now) S (length S.objects) (map (λ v. v.items) c.in_ok-tasks.tasks.items)) held c.in_ok-tasks.ensures in
    let tasks = subst (λ m. AreTasks (all_wants (demanded d c.in_ok-holdings.holdings.items) m) S (length S.objects) (map (λ v. v.items) c.in_ok-tasks.tasks.items)) c.deref-4.ensures.value first in
    record {
      demands = ap (demanded d) items;
      asked = marks.asked;
      marks = marks.long;
      held = λ k slot root h. if_hold d S ms k slot root (subst (λ hs. held_in hs k slot ≡ Some (Buffer root)) items h);
      long = tasks.long;
      tasks = tasks.at;
    }
