use Rattle.fb_schema.specs.FlatRows.{borrowed_rows}
use Rattle.fb_schema.proofs.index.Index.new.Goals as goal

pub returns : goal.returns
returns g c = λ rows order. record { names = order; fields = c.new.ensures (borrowed_rows rows); kinds = c.new-2.ensures (borrowed_rows rows) rows.members.now }
