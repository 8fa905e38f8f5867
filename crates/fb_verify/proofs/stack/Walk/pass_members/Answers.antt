use Rattle.std.proofs.Common.{◌≡◌, refl, sym, ◌∙◌, ap, subst, arith}
use Rattle.fb_bytes.specs.Word.{Lent}
use Rattle.fb_schema.specs.{Rows.Rows, declared.targets.Targets.Targets}
use Rattle.fb_rules.specs.{OffsetRows.AreTargetsOf, OffsetRows.leads_after, declared.table.Child.Child}
use Rattle.fb_rules.specs.declared.offset_row.{Leads.Leads, Row.Row, Leads.TheVariants.All, Leads.TheVariants.ByType}
use Rattle.fb_verify.specs.{Stack.Waiting, Turns.GoesOn, Turns.MemberTurned, Turns.RowTurned, declared.scratch.Frame.Frame}
use Rattle.fb_verify.specs.declared.stack.{Turn.Turn, Walk.Walk, Turn.TheVariants.Down, Turn.TheVariants.Up, Turn.TheVariants.Slowly, Turn.TheVariants.Halt as Halted}
use Rattle.fb_rules.proofs.Budgets.{fewer_reads}
use Rattle.fb_verify.proofs.{RowTurns.stays, RowTurns.word_stands, RowTurns.fewer_left, RowTurns.next_stands, Turning.goes_on, Turning.goes_down, Turning.halts_on}
use Rattle.fb_verify.proofs.stack.Walk.pass_members.Goals as goal

targets_after : (S : Rows) (targets : Targets) (leads : Leads) → AreTargetsOf S targets leads → AreTargetsOf S targets (leads_after leads)
targets_after S targets (All referent) h = h
targets_after S targets (ByType union types) h = h

-- a turn past a word, from where the walk came to before
module _ {w mid : Walk} (then : Walk) {m been : Lent} (new : Lent) {under : Waiting} {top : Frame} (t past : Frame) {row : Row} (left : Row) (child : Child) (on : GoesOn w mid m been under top (record t { row = row })) where
  word_turned : (turn : Turn) → (turn ≡ Up → ⊥) → MemberTurned mid then been new under t past row left child turn → RowTurned w then m new under top past child turn
  word_turned Down up h = goes_down on.same on.bytes on.table on.falls (omega (arith, on.grows, h.grows)) h
  word_turned Up up h = absurd (up refl)
  word_turned Slowly up h = absurd h
  word_turned Halted up h = halts_on on.same on.bytes h

pub returns-then-not-stands : goal.returns-then-not-stands
returns-then-not-stands g c = let r = (c.requires.0).row in stays c.args.self.now c.args.reads.now g.under c.args.top.now r.walking r.short

pub loop-targets-init : goal.loop-targets-init
loop-targets-init g c =
    let w = c.args.self.now in
    let m = c.args.reads.now in
    let top = c.args.top.now in
    let row = (c.requires.0).row in
    record {
      on = subst (λ (x : Leads). GoesOn w w m m g.under top (record top { row = record top.row { leads = x } })) c.requires.1.0 (stays w m g.under top row.walking row.short);
      next = refl;
      stands = let s = c.stands.ensures c.if-not-stands.false in record { near = s.near; within = s.within; aligned = s.aligned };
      targets = c.targets_of-targets.ensures;
    }

pub pass_member-requires : goal.pass_member-requires
pass_member-requires g c =
    let i = c.loop-targets.invariant in
    let has = c.has_word.ensures c.loop-targets-test.true in
    let limits = ap (λ (x : Walk). x.limits) (i.on).same in (
      record {
        in-row = record { many = ((c.requires.0).row).many; walking = (i.on).walking; more = has.more; short = (i.on).short };
        limits = record { deep = rw limits (c.requires.0).deep; low = (c.requires.0).low; fewer = has.fewer; small = has.small };
        allowed = rw limits (fewer_reads (c.args.self.now.limits).reads _ _ has.room c.short_of-room.ensures.allowed);
        short = omega (arith, has.room, c.short_of-room.ensures.short);
      },
      (
        rw ((i.on).same) c.brim-brim.ensures,
        ((λ _. word_stands i.stands has.more), (rw (ap (λ (x : Walk). x.schema) (i.on).same) i.targets, c.requires.1.1 ∙ sym (ap (λ (x : Walk). x.checks) (i.on).same))),
      ),
    )

pub loop-targets-smaller : goal.loop-targets-smaller
loop-targets-smaller g c = fewer_left _ _ c.in-Up.ensures.word (c.has_word.ensures c.loop-targets-test.true).more

pub loop-targets-preserved : goal.loop-targets-preserved
loop-targets-preserved g c =
    let i = c.loop-targets.invariant in
    let e = c.in-Up.ensures in
    record {
      on = rw e.same (goes_on (i.on).same (i.on).bytes (i.on).table (i.on).falls (omega (arith, (i.on).grows, (e.on).grows)) e.on);
      next = ap (λ (x : Frame). x.next) e.same ∙ i.next;
      stands = rw (e.on).bytes (next_stands i.stands (c.has_word.ensures c.loop-targets-test.true).more e.word);
      targets = rw e.word (targets_after c.args.self.now.schema.now c.targets_of-targets.result c.loop-targets.row.leads i.targets);
    }

pub returns-in_default : goal.returns-in_default
returns-in_default g c = word_turned _ _ _ _ _ _ c.loop-targets.invariant.on c.pass_member.result c.in_default.not-Up c.pass_member.ensures
