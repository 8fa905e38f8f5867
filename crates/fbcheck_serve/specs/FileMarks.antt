-- What a schema file's marks say of fields of bytes.
use Rattle.std.specs.Prelude.{◌≡◌, ℕ, true, false, Bool, List, [], Option, Some, None, min, length, map}
use Rattle.std.specs.Borrow.{Bor}
use Rattle.fb_rules.specs.Bounds.{Bounds, limits_of_length}
use Rattle.fb_bfbs.specs.{Marks.AreMarks, Marks.Marked, Marks.marked, declared.marks.Builtins.Builtins, declared.marks.Marks.Marks}

-- the limits by which a schema file of so many bytes is verified: the published ones, with a budget of 100,000,000
-- reads, and of 64 for each byte and for 64 more (one too long for offsets is refused by its length)
abbrev pub schema_limits : ℕ → Bounds
schema_limits len = limits_of_length (record { depth = 64; tables = 1000000; reads = Some 100000000 }) 64 (min len 2147483647)

-- these are the marks of a schema file, and what it tells of built-in attributes; without a file there are none
abbrev pub IsMarkedFile : Option (Bor (List ℕ)) → List Marked → Builtins → Type 0
IsMarkedFile None marks builtins = ⊥
IsMarkedFile (Some bytes) marks builtins =
    (read : Marks) × AreMarks bytes.now (schema_limits (length bytes.now)) read × (marks ≡ map marked read.fields.items) × (builtins ≡ read.builtins)

-- the marks by which a plan is made: those of a schema file where nested buffers are asked, and else none
abbrev pub ArePlanMarks : Option (Bor (List ℕ)) → Bool → List Marked → Type 0
ArePlanMarks (Some bytes) true marks = (builtins : Builtins) × IsMarkedFile (Some bytes) marks builtins
ArePlanMarks (Some bytes) false marks = marks ≡ []
ArePlanMarks None nested marks = marks ≡ []
