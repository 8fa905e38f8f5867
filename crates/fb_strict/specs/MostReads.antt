-- How many reads a strict verdict counts at most.
use Rattle.std.specs.Prelude.{ℕ, ◌+◌, ◌*◌, min, Option, Some, None}
use Rattle.fb_schema.specs.{Rows.Rows, Live.widest}
use Rattle.fb_rules.specs.{Bounds.Bounds}

-- no more than so many past the budget
abbrev pub within_past : Option ℕ → (past n : ℕ) → ℕ
within_past None past n = n
within_past (Some most) past n = min n (most + past)

-- those of the walks: 4 for each buffer that begins, which are the whole, one for each table at most, and one that
-- isn't walked to its end, and for each table 4 and for each field 8 and the buffer's length; and those of the passes:
-- for each table 3 and the length, and for each field the square of 8 and the length, since many uoffsets may lead
-- to one text. No more than 7 and the length past the budget
unfoldable pub most_reads_strictly : Rows → Bounds → ℕ → ℕ
most_reads_strictly S L len =
    within_past L.reads (7 + len) (4 * (2 + L.tables) + L.tables * (4 + widest S * (8 + len)) + L.tables * (3 + len + widest S * ((8 + len) * (8 + len))))
