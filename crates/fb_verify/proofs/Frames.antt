-- What frames keep, and what work is left to them.
use Rattle.std.proofs.Common.{◌≡◌, ℕ, ◌+◌, ◌*◌, ◌^◌, ◌<◌, ◌≤◌, IsTrue, List, ◌++◌, length, map, take, option_map, sym, ◌∙◌, ap, subst, arith, Option, Some}
use Rattle.std.specs.{Prelude.slice_get, Borrow.Bor, Slice.IsItemAt}
use Rattle.std.proofs.lemmas.{List.length-map, List.take_at, Option.slice_get-get_or, Option.slice_get-map, Option.slice_get_within}
use Rattle.fb_schema.specs.{Rows.Rows, Rows.is_table, Live.live_fields, Served.IsServed}
use Rattle.fb_rules.specs.{Told.IsHead, OffsetRows.past_first, OffsetRows.IsRow, OffsetRows.AreTypesNear, declared.checks.Checks.Checks, declared.table.Table.Table as TableOf}
use Rattle.fb_rules.specs.declared.offset_row.Row.{Row}
use Rattle.fb_verify.specs.{Stack.blank, Stack.opened, Stack.IsFrame, Stack.frame_work, declared.scratch.Frame.Frame}
use Rattle.fb_rules.proofs.Words.{row_on}

-- as many items were written as there were
pub as_many_kept : {A : Type 0} {n k : ℕ} (xs ys old : List A) → length xs ≡ length old → n ≡ length old → length old ≡ k → length (take n (xs ++ ys)) ≡ k
as_many_kept {n = n} xs ys old same long all = ap length (take_at xs ys n (omega (arith, same, long))) ∙ same ∙ all

-- The fields that a schema lends are the live fields.

pub field_at : {A B : Type 0} (f : A → B) (xs : List A) (ys : List B) (i : ℕ) (x : A) → map f xs ≡ ys → slice_get xs i ≡ Some x → slice_get ys i ≡ Some (f x)
field_at f xs ys i x e h = rw e at (slice_get-map f xs i ∙ ap (option_map f) h)

pub field_within : {A : Type 0} (xs : List A) (i : ℕ) (x : A) → slice_get xs i ≡ Some x → i + 1 ≤ length xs
field_within xs i x h = omega (arith, slice_get_within xs i x h)

pub length_map : {A B : Type 0} (f : A → B) (xs : List A) → length (map f xs) ≡ length xs
length_map f xs = length-map xs f

-- what `get` lends of a slice
pub item_some : {A : Type 0} (xs : List A) (i : ℕ) (r : Option (Bor A)) (x : Bor A) → IsItemAt xs i r → r ≡ Some x → slice_get xs i ≡ Some x.now
item_some xs i r x h e =
    let g = subst (λ o. IsItemAt xs i o) e h in
    slice_get-get_or xs i x.now g.3.0 ∙ ap Some (sym (g.4 (omega arith) x.now))

-- Frames.

module _ (c : Checks) (b : List ℕ) (S : Rows) where
  pub row_types_near : (r : Row) → 0 < r.left → IsRow b S r → AreTypesNear r.leads
  row_types_near r m h = let leads = h.leads m in grind arith

  pub frame_on : (fr : Frame) (row : Row) → row ≡ past_first fr.row → 0 < (fr.row).left → IsFrame c b S fr → IsFrame c b S (record fr { row = row })
  frame_on fr row e l h = record { object = h.object; near = h.near; head = h.head; next = h.next; row = rw e (row_on b S fr.row l h.row) }

  pub frame_passed : (fr : Frame) (number : ℕ) (row : Row) → fr.next + 1 ≤ length (live_fields S (fr.table).object) → IsRow b S row → IsFrame c b S fr → IsFrame c b S (record fr { next = fr.next + 1; number = number; row = row })
  frame_passed fr number row i r h = record { object = h.object; near = h.near; head = h.head; next = i; row = r }

  -- the row of a field that leads nowhere
  pub no_row : IsRow b S blank.row
  no_row = record { place = omega arith; left = omega arith; leads = λ m. absurd (omega arith) }

  pub frame_opened : (table : TableOf) → IsTrue (is_table S table.object) → table.at < 2 ^ 33 → IsHead c b table.at table.head → IsFrame c b S (opened table)
  frame_opened table o n h = record { object = o; near = n; head = h; next = omega arith; row = no_row }

  pub work_opened : (table : TableOf) → IsServed S → frame_work S (opened table) ≤ 1 + 2 ^ 33 * 32766
  work_opened table h = omega (arith, h.few table.object)
