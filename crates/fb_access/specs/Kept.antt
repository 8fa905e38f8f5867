-- What is kept of the kinds along a path.
use Rattle.std.specs.Prelude.{IsTrue}
use Rattle.fb_schema.specs.declared.kinds.Kind.{Kind, TheVariants.Table, TheVariants.Union, TheVariants.Tables, TheVariants.Unions}
use Rattle.fb_schema.specs.Rows.{Rows, is_table, is_union}

-- the table or union that a kind names is there
abbrev pub IsThere : Rows → Kind → Type 0
IsThere S (Table k) = IsTrue (is_table S k)
IsThere S (Tables k) = IsTrue (is_table S k)
IsThere S (Union e) = IsTrue (is_union S e)
IsThere S (Unions e) = IsTrue (is_union S e)
IsThere S _ = Unit {0}
