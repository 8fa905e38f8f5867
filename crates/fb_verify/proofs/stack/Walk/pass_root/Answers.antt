use Rattle.std.proofs.Common.{◌≡◌, ℕ, ◌+◌, ◌*◌, ◌<◌, true, false, Bool, List, [], map, length, refl, sym, ◌∙◌, ap, arith, Ok}
use Rattle.fb_bytes.specs.Word.{Lent}
use Rattle.fb_schema.specs.{Live.live_fields, Steps.is_plain, Steps.step_of, declared.views.Step.Step}
use Rattle.fb_rules.specs.{declared.table.Table.Table}
use Rattle.fb_verify.specs.{PassesOn.fields_left, PassesOn.HasRoom, PassesOn.IsBetween, PassesOn.PassesOn, Stack.IsWalking, Stack.opened, Stack.Waiting, Turns.IsBrimFor, Turns.WentOver}
use Rattle.fb_verify.specs.declared.stack.Walk.{Walk}
use Rattle.fb_rules.proofs.Budgets.{fewer_reads}
use Rattle.fb_verify.proofs.{Flats.never_on, Frames.length_map, Turning.went_over}
use Rattle.fb_verify.proofs.stack.Walk.pass_root.Goals as goal

-- a root table of which no field leads on is passed whole
root_over : (w : Walk) (m new : Lent) (under : Waiting) (table : Table) (next at : ℕ) → under.frames ≡ [] → is_plain w.schema.now table.object ≡ true → (more : Bool)
    → PassesOn w m new under (opened table) (record (opened table) { next = next }) at (Ok more) → WentOver w w m new under.start
root_over w m new under table next at none plain true p = absurd (never_on plain refl p)
root_over w m new under table next at none plain false p = went_over under _ refl (p.comes).walking none refl (p.comes).all p.bytes

pub returns-in-Ok : goal.returns-in-Ok
returns-in-Ok g c =
    let p = rw (c.lend-reads.ensures.lent, c.requires.0, c.in-Ok.is) at c.pass_by_sizes-passed.ensures in
    let new = c.pass_by_sizes-passed.new in
    let o = root_over c.args.self.now _ new.reads (g.going).under c.args.table new.next new.at c.requires.1.1.0 c.requires.1.1.1 c.in-Ok.field-0 p in
    rw c.settle.ensures (record { same = refl; over = o.over; within = o.within; shallow = o.shallow; reads = o.reads; bytes = o.bytes })

pub returns-in-Err : goal.returns-in-Err
returns-in-Err g c =
    let p = rw (c.lend-reads.ensures.lent, c.requires.0, c.in-Err.is) at c.pass_by_sizes-passed.ensures in
    let e = c.stop_by-stop.ensures in
    let stops = (p.comes).err c.stop_by-stop.result (record { refusal = e.refusal; object = e.object; field = e.field }) in
    rw (c.halt-self.ensures, c.settle.ensures) (
      record {
        deep = omega (arith, (c.requires.1.0).links);
        err = rw c.requires.1.1.0 at stops;
        bytes = p.bytes;
      },
      refl,
    )

-- the walk is between two fields of the root table, of which the budget allows whatever they cost
module _ (w v : Walk) (m n : Lent) (walk : v ≡ w) (count : n.count ≡ m.count) (table : Table) where
  between_at : (under : Waiting) → under.frames ≡ [] → n.bytes ≡ m.bytes → IsWalking w m under.start [] (opened table) → IsBetween v n under (opened table)
  between_at under root bytes h = record { walking = rw (walk, root, bytes, count) h; rests = refl }

  room_at : (steps : List Step) (brim : ℕ) → steps ≡ map step_of (live_fields w.schema.now table.object) → IsBrimFor w (6 * length steps + 1) brim → m.count < brim → HasRoom v n (opened table)
  room_at steps brim its room less =
      let x = room m.count less in
      let left = 6 * fields_left w.schema.now (opened table) in
      let long : m.count + (6 * length steps + 1) ≡ n.count + left + 1 = omega (arith, count, ap length its, length_map step_of (live_fields w.schema.now table.object)) in
      rw walk (record { allowed = fewer_reads (w.limits).reads (n.count + left) (m.count + (6 * length steps + 1)) (omega (arith, long)) x.0; short = omega (arith, long, x.1) })

pub pass_by_sizes-passed-requires : goal.pass_by_sizes-passed-requires
pass_by_sizes-passed-requires g c =
    let w = c.args.self.now in
    let walk = c.requires.0 in
    let lent = c.lend-reads.ensures.lent in
    let count = ap (λ (x : Lent). x.count) lent in
    let steps = c.steps_of-steps in (
      between_at w (g.going).walk c.args.loan.now c.lend-reads.result walk count c.args.table (g.going).under c.requires.1.1.0 (ap (λ (x : Lent). x.bytes) lent) c.requires.1.0,
      (
        room_at w (g.going).walk c.args.loan.now c.lend-reads.result walk count c.args.table steps.result.now c.brim_for-brim.result steps.ensures.value c.brim_for-brim.ensures (omega (arith, c.if-reads-from.false, c.reads.ensures.count, c.from.ensures)),
        (
          sym (ap (λ (x : Walk). x.checks) walk ∙ c.are_published.ensures c.if-not-are_published.false),
          (sym (ap (λ (x : Walk). x.schema.now) walk), (refl, (refl, (steps.ensures.value ∙ ap (λ (x : Walk). map step_of (live_fields x.schema.now c.args.table.object)) (sym walk), steps.ensures.few)))),
        ),
      ),
    )

pub stop_by-stop-requires-clause-next : goal.stop_by-stop-requires-clause-next
stop_by-stop-requires-clause-next g c = rw c.requires.0 at (c.in-Err.ensures.comes).next
