use Rattle.std.proofs.Common.{sym, ◌∙◌}
use Rattle.fbcheck_calls.proofs.MemberLemmas.{no_kind_of_other}
use Rattle.fbcheck_calls.proofs.fits.member_kind.Goals as goal

pub returns-else-is_union : goal.returns-else-is_union
returns-else-is_union c = sym (no_kind_of_other c.args.schema.now c.args.union c.args.value (sym c.is_union.ensures ∙ c.if-is_union.false))
