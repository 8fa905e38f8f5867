-- The way to a place: what lies before it.
use Rattle.std.specs.Prelude.{ℕ, ◌+◌, ◌-◌, ◌≤◌, max, List, Option, Some, None}
use Rattle.fb_schema.specs.{Rows.Rows, Live.Live, Live.live_fields}
use Rattle.fb_rules.specs.{declared.checks.Checks.Checks, declared.start.Start.Start, declared.start.Ident.Ident, Bounds.Bounds, Bounds.AreAllowed, Fields.Entry, Fields.entries}
use Rattle.fb_rules.specs.{WellFormed.start_reads, Tree.Tree, Tree.size, Tree.depth, Tree.Kids, Tree.kids_size, Tree.kids_depth, Tree.Elements, Tree.elements_size}
use Rattle.fb_rules.specs.{Tree.elements_depth, Cost.head_reads, Cost.own_reads, Cost.tree_cost, Cost.kids_cost, Cost.elements_cost}

-- the open tables, the tables passed with these, the greatest number that were open at once, the reads paid, those of
-- them that lead to a table and are asked with its head, and the object and field of the innermost open table
pub record Way : Type 0 where
  pub links : ℕ
  pub passed : ℕ
  pub deepest : ℕ
  pub paid : ℕ
  pub leading : ℕ
  pub object : ℕ
  pub field : Option ℕ

-- before the first read
abbrev pub way_to_start : ℕ → Way
way_to_start root = record { links = 0; passed = 0; deepest = 0; paid = 0; leading = 0; object = root; field = None }

-- so many reads on
abbrev pub paying : ℕ → Way → Way
paying n w = record w { paid = w.paid + n }

-- past the start
abbrev pub way_to_root : ℕ → Start → Ident → Way
way_to_root root start ident = paying (start_reads start ident) (way_to_start root)

-- into a table of the object k, past its head
abbrev pub opening : Checks → ℕ → Way → Way
opening c k w = record {
  links = w.links + 1;
  passed = w.passed + 1;
  deepest = max w.deepest (w.links + 1);
  paid = w.paid + head_reads c;
  leading = 0;
  object = k;
  field = None;
}

-- past trees of this size, depth and cost
abbrev pub passing : ℕ → ℕ → ℕ → Way → Way
passing many deep reads w = record w { passed = w.passed + many; deepest = max w.deepest (w.links + deep); paid = w.paid + reads; leading = 0 }

-- past a whole table
abbrev pub past_tree : Checks → List ℕ → Rows → Tree → Way → Way
past_tree c b S y w = passing (size y) (depth y) (tree_cost y c b S) w

-- past the first of these fields of the table at t
abbrev pub past_fields : Checks → List ℕ → Rows → ℕ → List Live → Kids → Way → Way
past_fields c b S t fs kids w = passing (kids_size kids) (kids_depth kids) (kids_cost kids c b S t fs) w

-- past the first of these elements
abbrev pub past_elements : Checks → List ℕ → Rows → List Entry → Elements → Way → Way
past_elements c b S xs ys w = passing (elements_size ys) (elements_depth ys) (elements_cost ys c b S xs) w

-- to the field g of the table at t, of the object k, past the earlier fields
abbrev pub way_to_field : Checks → List ℕ → Rows → ℕ → ℕ → Kids → Live → Way → Way
way_to_field c b S k t earlier g w = record (past_fields c b S t (live_fields S k) earlier (opening c k w)) { field = Some g.number }

-- to an element of this field, past its own tests and the elements before
abbrev pub way_to_element : Checks → List ℕ → Rows → ℕ → Live → Elements → Way → Way
way_to_element c b S t g before w = past_elements c b S (entries b S t g) before (paying (own_reads b t g) w)

-- to the table that this element leads to
abbrev pub way_to_table : Entry → Way → Way
way_to_table x w = record (paying (x.reads + 1) w) { leading = x.reads + 1 }

-- no more tables were passed than the limits allow, no more were open at once, and no more reads were counted, but for
-- those that lead to a table
pub record StaysWithin (w : Way) (L : Bounds) : Type 0 where
  pub tables : w.passed ≤ L.tables
  pub depth : w.deepest ≤ L.depth
  pub reads : AreAllowed L.reads (w.paid - w.leading)
