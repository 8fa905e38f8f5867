use Rattle.std.proofs.Common.{◌≡◌, ℕ, ◌+◌, ◌≤◌, ◌↔◌, Bool, IsTrue, List, inr}
use Rattle.std.specs.List.{sum_by}
use Rattle.fb_schema.specs.{declared.rows.ObjectRow.ObjectRow, declared.rows.EnumRow.EnumRow, Rows.object_of, Rows.enum_of, Rows.rows_of}
use Rattle.fb_bfbs.specs.Sums.{object_names, enum_names, names_length}
use Rattle.fb_bfbs.proofs.Counts.{sum_mapped, past}
use Rattle.fb_bfbs.proofs.file.paid_rows.Goals as goal

-- whether the number is enough for the names of rows in memory
enough : (objects : List ObjectRow) (enums : List EnumRow) (os : List ObjectRow) (es : List EnumRow) (t : Bool) (most : ℕ) → os ≡ objects → es ≡ enums
    → (IsTrue t ↔ (sum_by (λ o. object_names (object_of o)) os + sum_by (λ e. enum_names (enum_of e)) es ≤ most)) → IsTrue t ↔ (names_length (rows_of objects enums) ≤ most)
enough objects enums os es t most p q told = rw (sum_mapped object_names object_of objects, sum_mapped enum_names enum_of enums, ← p, ← q) told

pub returns-then-not-is_enough_for : goal.returns-then-not-is_enough_for
returns-then-not-is_enough_for c =
    inr (
      rows_of c.in_ok-rows.rows.objects.items c.in_ok-rows.rows.enums.items,
      c.in_ok-rows.ensures.rows,
      past c.is_enough_for.result _ _ (enough _ _ _ _ _ _ c.as_slice.ensures.value c.as_slice-2.ensures.value c.is_enough_for.ensures) c.if-not-is_enough_for.true,
    )

pub returns : goal.returns
returns c =
    let few = c.has_few_rows.ensures in (
      c.in_ok-rows.ensures,
      record {
        count = few.rows;
        has = few.has;
        few = few.told.0 c.if-not-has_few_rows.false;
        names = (enough _ _ _ _ _ _ c.as_slice.ensures.value c.as_slice-2.ensures.value c.is_enough_for.ensures).0 c.if-not-is_enough_for.false;
      },
    )
