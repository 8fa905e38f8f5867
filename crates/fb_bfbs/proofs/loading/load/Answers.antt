use Rattle.std.proofs.Common.{sym}
use Rattle.fb_bfbs.proofs.Outcomes.{refused}
use Rattle.fb_bfbs.proofs.loading.load.Goals as goal

pub returns-in-Err-clause-no : goal.returns-in-Err-clause-no
returns-in-Err-clause-no c = rw c.from.ensures (refused _ _ _ _ c.in_ok-rows.ensures.yes c.in-Err.ensures.refused)

pub returns-in-None-clause-yes : goal.returns-in-None-clause-yes
returns-in-None-clause-yes c =
    let r = c.in_ok-rows.ensures.yes in
    rw c.in-Ok.ensures.rows (record { file = r.file; rows = r.told.rows; paid = r.paid; legal = c.in-Ok.ensures.legal; root = rw c.in-None.is at r.told.root; root_is_table = tt; ident = r.told.ident })

pub returns-in-None-table_named-clause-no : goal.returns-in-None-table_named-clause-no
returns-in-None-table_named-clause-no c =
    let r = c.in_ok-rows.ensures.yes in
    record { file = r.file; rows = _; described = r.told.rows; paid = r.paid; legal = c.in-Ok.ensures.legal; stray = (_, rw c.in-Some.is at r.told.root, sym (rw (c.in-Ok.ensures.rows, c.in-None-table_named.is) at c.table_named.ensures.number)) }

pub returns-clause-yes : goal.returns-clause-yes
returns-clause-yes c =
    let r = c.in_ok-rows.ensures.yes in
    let named = sym (rw (c.in-Ok.ensures.rows, c.in-Some-table_named.is) at c.table_named.ensures.number) in
    rw c.in-Ok.ensures.rows (record {
      file = r.file;
      rows = r.told.rows;
      paid = r.paid;
      legal = c.in-Ok.ensures.legal;
      root = (c.in-Some.name.now, rw c.in-Some.is at r.told.root, named);
      root_is_table = rw (c.in-Ok.ensures.rows, c.in-Some-table_named.is) at c.table_named.ensures.table;
      ident = r.told.ident;
    })
