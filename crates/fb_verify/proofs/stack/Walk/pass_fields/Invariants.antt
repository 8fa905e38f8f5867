use Rattle.std.proofs.Common.{◌≡◌, ◌-◌, length}
use Rattle.fb_schema.specs.Live.{live_fields}
use Rattle.fb_verify.specs.Turns.{GoesOn}
use Rattle.fb_verify.proofs.stack.Walk.pass_fields.Given as goal

-- the walk goes on in the same table, between two fields
abbrev pub invariant-loop-steps : goal.invariant-loop-steps
invariant-loop-steps g l = GoesOn l.fn.self l.self l.fn.reads l.reads g.under l.fn.top l.top × ((l.top.row).left ≡ 0)

abbrev pub decreases-loop-steps : goal.decreases-loop-steps
decreases-loop-steps g l = length (live_fields l.fn.self.schema.now (l.fn.top.table).object) - l.top.next

-- the same frames wait
abbrev pub ghost-pass_plain : goal.ghost-pass_plain
ghost-pass_plain g a = record { walk = (a.self).now; under = g.under; top = (a.top).now }

abbrev pub ghost-go_into : goal.ghost-go_into
ghost-go_into g a = g.under
