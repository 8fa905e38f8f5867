-- How many reads a verification counts at most.
use Rattle.std.specs.Prelude.{ℕ, ◌+◌, ◌*◌, min, Option, Some, None}
use Rattle.fb_schema.specs.{Rows.Rows, Live.widest}
use Rattle.fb_rules.specs.Bounds.{Bounds}

-- the lesser of this number and, if there is a budget, that and 7
abbrev pub within_budget : Option ℕ → ℕ → ℕ
within_budget None n = n
within_budget (Some most) n = min n (most + 7)

-- 4 for the start, and for each table 4 and for each field 8 and the buffer's length; no more than 7 past the budget
unfoldable pub most_reads : Rows → Bounds → ℕ → ℕ
most_reads S L len = within_budget L.reads (4 + L.tables * (4 + widest S * (8 + len)))
