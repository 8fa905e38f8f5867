use Rattle.std.proofs.Common.{FitsSigned, w32, ap, ◌∙◌, rules}
use Rattle.std.proofs.lemmas.Int.{to_z-of_z}
use Rattle.fb_schema.specs.{FlatRows.enum_in, Rows.entry_at}
use Rattle.fb_schema.proofs.LookLemmas.{entry_found}
use Rattle.fb_schema.proofs.flat.RowLists.enum_at.Goals as goal

pub returns : goal.returns
returns c =
    let rows = c.args.self.now in
    let fits : FitsSigned w32 c.args.index = search rules in
    entry_found (enum_in rows.members.now) rows.enums.now c.args.index c.entry_at.result (c.entry_at.ensures ∙ ap (entry_at rows.enums.now) (to_z-of_z w32 c.args.index fits))
