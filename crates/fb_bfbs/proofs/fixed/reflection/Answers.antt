use Rattle.std.proofs.Common.{◌∙◌}
use Rattle.fb_bfbs.proofs.FixedRows.{fixed_few, are_fixed, refused_for_memory}
use Rattle.fb_bfbs.proofs.fixed.reflection.Goals as goal

pub build-requires : goal.build-requires
build-requires c = fixed_few _ _ c.in_ok-objects.ensures c.new.ensures.items

pub unreachable-requires : goal.unreachable-requires
unreachable-requires c = c.in_default.not-OutOfMemory (refused_for_memory _ _ (are_fixed _ _ c.in_ok-objects.ensures c.new.ensures.items) c.in-Err.ensures.refused)

pub returns-in-Ok : goal.returns-in-Ok
returns-in-Ok c = c.in-Ok.ensures.rows ∙ are_fixed _ _ c.in_ok-objects.ensures c.new.ensures.items
