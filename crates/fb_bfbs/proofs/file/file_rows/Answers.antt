use Rattle.fb_bfbs.proofs.file.file_rows.Goals as goal

pub returns-in-Some : goal.returns-in-Some
returns-in-Some c = rw c.in-Some.is (rw c.at_root-place.ensures at c.paid_rows.ensures)

pub returns-in_ok-schema_rows-in-None : goal.returns-in_ok-schema_rows-in-None
returns-in_ok-schema_rows-in-None c = rw c.in-None.is (rw c.at_root-place.ensures at c.in_ok-schema_rows-in-None.ensures)
