-- A part of a walk: from the end of one way to the end of another, and what was passed between.
use Rattle.std.specs.Prelude.{◌≡◌, ℕ, ◌+◌, List, ◌∷◌, Option, Some, take, drop, slice_get}
use Rattle.fb_schema.specs.{Rows.Rows, Live.Live, Live.live_fields}
use Rattle.fb_rules.specs.{Places.target, Facts.IsTable, Facts.IsOffset, Unfolds.Unfolds, Unfolds.FieldsUnfold, Unfolds.ElementsUnfold}
use Rattle.fb_rules.specs.{Fields.IsField, Fields.to_table, Fields.Entry, Fields.entries, Tree.Tree, Tree.Kids, Tree.kids_length, Tree.Elements, Tree.elements_length}
use Rattle.fb_rules.specs.{Way.Way, Way.opening, Way.past_tree, Way.past_fields, Way.way_to_element, Way.way_to_table, declared.checks.Checks.Checks}

-- the same way, to this field of the same table
abbrev pub at_number : Option ℕ → Way → Way
at_number field w = record w { field = field }

-- the same way, where the walk came to so many tables, this depth and so many reads
abbrev pub ended : Way → ℕ → ℕ → ℕ → Way
ended w n d r = record w { passed = n; deepest = d; paid = r; leading = 0 }

-- the table at t of the object k was walked
pub record TableWalked (c : Checks) (b : List ℕ) (S : Rows) (k t : ℕ) (w v : Way) : Type 0 where
  pub found : Tree
  pub unfolds : Unfolds found c b S k t
  pub after : v ≡ past_tree c b S found w

-- the table is open, and its first i fields are passed
pub record IsInside (c : Checks) (b : List ℕ) (S : Rows) (k t : ℕ) (w : Way) (i : ℕ) (v : Way) : Type 0 where
  pub earlier : Kids
  pub head : IsTable c b t
  pub count : kids_length earlier ≡ i
  pub passed : FieldsUnfold earlier c b S t (take i (live_fields S k))
  pub after : v ≡ past_fields c b S t (live_fields S k) earlier (opening c k w)

-- the table is open, the field before the next is under check, and these uoffsets are left of it
pub record IsInField (c : Checks) (b : List ℕ) (S : Rows) (k t : ℕ) (w : Way) (next number : ℕ) (left : List Entry) (v : Way) : Type 0 where
  pub i : ℕ
  pub outer : Way
  pub inside : IsInside c b S k t w i outer
  pub next_is : next ≡ i + 1
  pub field : Live
  pub found : slice_get (live_fields S k) i ≡ Some field
  pub number_is : number ≡ field.number
  pub own : IsField c b S t field
  pub before : Elements
  pub passed : ElementsUnfold before c b S (take (elements_length before) (entries b S t field))
  pub left_is : drop (elements_length before) (entries b S t field) ≡ left
  pub after : v ≡ way_to_element c b S t field before (at_number (Some field.number) outer)

-- the field waits for the table at t' of the object k', to which the way u leads
pub record Waits (c : Checks) (b : List ℕ) (S : Rows) (k t : ℕ) (w : Way) (next number : ℕ) (left : List Entry) (k' t' : ℕ) (u : Way) : Type 0 where
  pub x : Entry
  pub v : Way
  pub in_field : IsInField c b S k t w next number (x ∷ left) v
  pub leads : x.lead ≡ to_table k'
  pub offset : IsOffset c b x.place
  pub place : t' ≡ target b x.place
  pub after : u ≡ way_to_table x v
