use Rattle.std.proofs.Common.{FitsSigned, w32, ap, ◌∙◌, rules}
use Rattle.std.proofs.lemmas.Int.{to_z-of_z}
use Rattle.fb_schema.specs.{FlatRows.object_in, Rows.entry_at}
use Rattle.fb_schema.proofs.LookLemmas.{entry_found}
use Rattle.fb_schema.proofs.flat.RowLists.object_at.Goals as goal

pub returns : goal.returns
returns c =
    let rows = c.args.self.now in
    let fits : FitsSigned w32 c.args.index = search rules in
    entry_found (object_in rows.fields.now) rows.objects.now c.args.index c.entry_at.result (c.entry_at.ensures ∙ ap (entry_at rows.objects.now) (to_z-of_z w32 c.args.index fits))
