-- What options ask.
use Rattle.std.specs.Prelude.{◌≡◌, ℕ, ◌<◌, ◌≤◌, ◌==◌, ◌||◌, ◌&&◌, ◌/◌, ◌%◌, nat_le, min, Bool, true, false, not, List, length, replicate, Option, Some, None, option_map, IsTrue, if◌then◌else◌}
use Rattle.fb_bfbs.specs.{LoadLaws.ident_bytes, LoadLaws.own_ident, declared.loading.Loaded.Loaded}
use Rattle.fb_schema.specs.Rows.{Rows, is_table}
use Rattle.fb_rules.specs.{Bounds.Bounds, Bounds.limits_of_length, Question.Question, Question.question, declared.checks.Checks.Checks, declared.start.Ident.Ident}
use Rattle.fb_rules.specs.declared.start.{Ident.TheVariants.Any, Ident.TheVariants.Want, Start.Start, Start.TheVariants.Bare, Start.TheVariants.Prefixed}
use Rattle.fb_strict.specs.{Planned.Planned, declared.demands.Demands.Demands}
use Rattle.fbcheck_calls.specs.{Bases.Based, declared.outcome.Outcome.Outcome, declared.outcome.Outcome.TheVariants.UnknownOptions, declared.outcome.Outcome.TheVariants.OutOfRange}
use Rattle.fbcheck_calls.specs.declared.options.Options.{Options}

-- how a buffer begins, by whether the flag for a prefix is off
abbrev pub start_of : Bool → Start
start_of true = Bare
start_of false = Prefixed

-- the checks, by whether the flags are off
abbrev pub checks_of : Bool → Bool → Checks
checks_of aligned short = record { alignment = aligned; inline_size = not short }

-- what options ask of a buffer
abbrev pub start_asked : Options → Start
start_asked o = start_of (o.prefixed == 0)

abbrev pub checks_asked : Options → Checks
checks_asked o = checks_of (o.no_alignment == 0) (o.inline_size == 0)

-- the limits for so many bytes (what is too long for offsets is refused by its length)
abbrev pub limits_of : Options → ℕ → Bounds
limits_of o n = limits_of_length (record { depth = o.max_depth; tables = o.max_tables; reads = Some o.max_reads }) o.reads_per_byte (min n 2147483647)

-- this library knows these demands: strict checks by the first bit, known fields by the second, texts of UTF-8 by the
-- third, and plain bytes by the fourth, which only strict checks take
abbrev pub known_demands : ℕ → Bool
known_demands n = nat_le n 7 || (nat_le n 15 && n % 2 == 1)

-- such as a schema file's marks are asked for: strict checks, in which bytes aren't plain
abbrev pub asks_marks : ℕ → Bool
asks_marks n = n % 2 == 1 && nat_le n 7

-- what is demanded of buffers by them; of those inside where the marks are asked for
abbrev pub demands_of : ℕ → Demands
demands_of n = record { unions = n % 2 == 1; nested = asks_marks n; known_fields = (n / 2) % 2 == 1; utf8 = (n / 4) % 2 == 1 }

-- this library knows the options
pub record AreKnown (o : Options) : Type 0 where
  pub version : o.version ≡ 1
  pub ident : o.ident_from ≤ 2
  pub demands : IsTrue (known_demands o.demands)

-- the options ask for no more than there is room for
pub record HasLimits (o : Options) (levels : ℕ) : Type 0 where
  pub known : AreKnown o
  pub depth : o.max_depth ≤ min 4096 levels

-- why options set no limits for so many levels
abbrev pub LimitsFail : Options → ℕ → Outcome → Type 0
LimitsFail o levels UnknownOptions = AreKnown o → ⊥
LimitsFail o levels OutOfRange = AreKnown o × (min 4096 levels < o.max_depth)
LimitsFail o levels _ = ⊥

-- a number that is a table's
abbrev pub if_table : Rows → Option ℕ → Option ℕ
if_table rows None = None
if_table rows (Some n) = if is_table rows n then Some n else None

-- the root table that is asked of a schema: its own, none, or that of this number
abbrev pub root_asked : Loaded → Options → Option ℕ
root_asked l o =
    if o.root == 4294967295 then if_table l.schema l.root
    else (if o.root == 4294967294 then None else if_table l.schema (Some o.root))

-- the plan of a schema for these demands; none where it was made with others
abbrev pub plan_for : Based → ℕ → Option Planned
plan_for s n = if n == s.demands then s.plan else None

-- by which plan a buffer is checked, if it can be: by none without demands, else by that for these demands
abbrev pub plan_asked : Based → Options → Option (Option Planned)
plan_asked s o = if o.demands == 0 then Some None else option_map Some (plan_for s o.demands)

-- the identifier that is asked of a buffer: any, that of the options, or the schema's own
abbrev pub ident_asked : Loaded → Options → Option Ident
ident_asked l o =
    if o.ident_from == 0 then Some Any
    else (if o.ident_from == 1 then Some (Want o.ident) else own_ident (ident_bytes l.ident))

-- what is asked of a buffer, from this root and with this identifier
abbrev pub question_of : Loaded → Options → List ℕ → ℕ → Ident → Question
question_of l o b root ident = question l.schema root (start_asked o) ident (limits_of o (length b)) (checks_asked o)

-- the published limits and checks with a budget of 100,000,000 reads, and of 64 a byte, for a bare buffer with any
-- identifier, from the schema's own root table
abbrev pub published : Options
published = record {
  version = 1;
  root = 4294967295;
  max_reads = 100000000;
  max_depth = 64;
  max_tables = 1000000;
  reads_per_byte = 64;
  ident = replicate 4 0;
  ident_from = 0;
  prefixed = 0;
  no_alignment = 0;
  inline_size = 0;
  demands = 0;
  reserved = replicate 6 0;
}
