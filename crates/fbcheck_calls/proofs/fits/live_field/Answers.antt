use Rattle.std.proofs.Common.{sym, ◌∙◌}
use Rattle.fb_access.proofs.LiveFields.{none_numbered}
use Rattle.fbcheck_calls.proofs.fits.live_field.Goals as goal

pub returns-then-not-is_table : goal.returns-then-not-is_table
returns-then-not-is_table c = sym (none_numbered c.args.schema.now c.args.table c.args.number (sym c.is_table.ensures ∙ c.if-not-is_table.true))
