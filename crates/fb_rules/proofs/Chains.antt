-- A chain of tests finds nothing exactly where the facts hold.
use Rattle.std.proofs.Common.{◌≡◌, ◌↔◌, ℕ, List, Option, None, IsTrue, arith, rules, tests}
use Rattle.std.proofs.lemmas.Bool.Decides.{nat_tests}
use Rattle.fb_schema.specs.{declared.kinds.Kind.Kind, Rows.Rows, Live.Live}
use Rattle.fb_rules.specs.{declared.checks.Checks.Checks, declared.start.Start.Start, declared.start.Ident.Ident, Places.is_aligned, Places.ends_in_table, Tree.Element, Tree.leaf}
use Rattle.fb_rules.specs.{Tree.table, Unfolds.ElementUnfolds, WellFormed.IsStart, Laws.IsLead, Facts.IsAligned, Facts.EndsInTable, Facts.IsTable, Facts.IsOffset, Facts.IsString}
use Rattle.fb_rules.specs.{Facts.IsVector, Facts.IsInline, Fields.IsPresent, Fields.IsField, Fields.to_table, Fields.Entry, Order.Failure, Order.after, Order.◌▷◌}
use Rattle.fb_rules.specs.Order.{prefix_failure, ident_failure, offset_failure, start_failure, head_failure, string_failure, vector_failure, inline_failure, table_failure}
use Rattle.fb_rules.specs.Order.{present_failure, own_failure, element_failure}

-- two chains, and a chain after some reads

pub after_none : (n : ℕ) (x : Option Failure) → (after n x ≡ None) ↔ (x ≡ None)
after_none n x = grind arith

pub both_none : (x y : Option Failure) → (x ▷ y ≡ None) ↔ ((x ≡ None) × (y ≡ None))
both_none x y = grind arith

-- single tests

aligned_told : (c : Checks) (p align : ℕ) → IsTrue (is_aligned c p align) ↔ IsAligned c p align
unfolding is_aligned
aligned_told c p align = grind (arith, nat_tests)

ends_told : (c : Checks) (b : List ℕ) (t p n : ℕ) → IsTrue (ends_in_table c b t p n) ↔ EndsInTable c b t p n
unfolding ends_in_table
ends_told c b t p n = grind (arith, nat_tests)

-- the chains of the parts

pub offset_none : (c : Checks) (b : List ℕ) (p : ℕ) → (offset_failure c b p ≡ None) ↔ IsOffset c b p
unfolding offset_failure
offset_none c b p = grind (arith, nat_tests, aligned_told)

pub head_none : (c : Checks) (b : List ℕ) (t : ℕ) → (head_failure c b t ≡ None) ↔ IsTable c b t
unfolding head_failure
head_none c b t = search (rules, tests, aligned_told)

pub string_none : (c : Checks) (b : List ℕ) (s : ℕ) → (string_failure c b s ≡ None) ↔ IsString c b s
unfolding string_failure
string_none c b s = grind (arith, nat_tests, aligned_told)

pub vector_none : (c : Checks) (b : List ℕ) (v size align : ℕ) → (vector_failure c b v size align ≡ None) ↔ IsVector c b v size align
unfolding vector_failure
vector_none c b v size align = grind (arith, nat_tests, aligned_told)

pub inline_none : (c : Checks) (b : List ℕ) (p size align : ℕ) → (inline_failure c b p size align ≡ None) ↔ IsInline c b p size align
unfolding inline_failure
inline_none c b p size align = grind (arith, nat_tests, aligned_told)

pub table_none : (c : Checks) (b : List ℕ) (t p n : ℕ) → (table_failure c b t p n ≡ None) ↔ EndsInTable c b t p n
unfolding table_failure
table_none c b t p n = grind (arith, nat_tests, ends_told)

-- the whole chains

pub start_none : (c : Checks) (b : List ℕ) (start : Start) (ident : Ident) → (start_failure c b start ident ≡ None) ↔ IsStart c b start ident
unfolding start_failure prefix_failure ident_failure
start_none c b start ident = grind (arith, nat_tests, offset_none)

-- fields

module _ (c : Checks) (b : List ℕ) (S : Rows) (t : ℕ) (f : Live) where
  present_none : (p : ℕ) (kind : Kind) → (present_failure c b S t f p kind ≡ None) ↔ IsPresent c b S t f p kind
  present_none p kind = grind (arith, nat_tests, offset_none, vector_none, inline_none, table_none)

  pub own_none : (own_failure c b S t f ≡ None) ↔ IsField c b S t f
  unfolding own_failure IsField
  own_none = grind (arith, nat_tests, present_none)

-- elements

pub element_none : (c : Checks) (b : List ℕ) (x : Entry) → (element_failure c b x ≡ None) ↔ IsLead c b x.place x.lead
unfolding element_failure
element_none c b x = grind (arith, offset_none, inline_none, string_none)

-- an element that unfolds into anything passes its tests
pub element_passes : (c : Checks) (b : List ℕ) (S : Rows) (x : Entry) (y : Element) → ElementUnfolds y c b S x.place x.lead → element_failure c b x ≡ None
unfolding ElementUnfolds
element_passes c b S x leaf h = grind (arith, element_none)
element_passes c b S x (table y) h = grind (arith, element_none)

-- so does one that leads on by a uoffset
pub through_passes : (c : Checks) (b : List ℕ) (x : Entry) (k : ℕ) → x.lead ≡ to_table k → IsOffset c b x.place → element_failure c b x ≡ None
through_passes c b x k e h = grind (arith, element_none)
