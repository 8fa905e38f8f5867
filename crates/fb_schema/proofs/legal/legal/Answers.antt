use Rattle.fb_schema.specs.FlatRows.{borrowed_rows}
use Rattle.fb_schema.proofs.OwnerLemmas.{legal_if}
use Rattle.fb_schema.proofs.legal.legal.Goals as goal

pub returns-clause-legal : goal.returns-clause-legal
returns-clause-legal g c = legal_if (borrowed_rows c.args.rows.now) c.unions_legal.result c.in_ok-objects_legal.ensures.clear c.unions_legal.ensures.clear
