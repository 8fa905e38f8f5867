-- What reading a tree costs, in counted reads.
use Rattle.std.specs.Prelude.{ℕ, ◌+◌, if◌then◌else◌, List, [], ◌∷◌, Option, Some, None}
use Rattle.fb_schema.specs.declared.kinds.Kind.{Kind, TheVariants.Scalar, TheVariants.Text, TheVariants.Struct, TheVariants.Table, TheVariants.Union, TheVariants.Scalars}
use Rattle.fb_schema.specs.declared.kinds.Kind.TheVariants.{Texts, Structs, Tables, Unions}
use Rattle.fb_schema.specs.{Rows.Rows, Live.Live, Live.live_fields}
use Rattle.fb_rules.specs.{declared.checks.Checks.Checks, Places.has_slot, Places.field_place, Fields.type_place, Fields.Lead, Fields.to_table, Fields.to_struct, Fields.to_string}
use Rattle.fb_rules.specs.{Fields.to_nothing, Fields.Entry, Fields.entries, Tree.Tree, Tree.node, Tree.Kids, Tree.no_kids, Tree.kid, Tree.Elements, Tree.no_elements, Tree.element}
use Rattle.fb_rules.specs.Tree.{Element, leaf, table}

-- a table's head: its signed word, the vtable's size, and the inline size where that is checked
abbrev pub head_reads : Checks → ℕ
head_reads c = if c.inline_size then 3 else 2

-- a slot that lies in the vtable
abbrev pub slot_reads : List ℕ → ℕ → ℕ → ℕ
slot_reads b t o = if has_slot b t o then 1 else 0

-- n reads where a field is present
abbrev pub reads_if_present : ℕ → Option ℕ → ℕ
reads_if_present n None = 0
reads_if_present n (Some q) = n

-- a present field, after its own slot: for a union its type field's slot and type, for unions that slot, the types'
-- offset and their count, for each vector its offset and count
abbrev pub present_reads : List ℕ → ℕ → ℕ → Kind → ℕ
present_reads b t o (Scalar s) = 0
present_reads b t o (Struct k) = 0
present_reads b t o Text = 0
present_reads b t o (Table k) = 0
present_reads b t o (Union e) = 1 + reads_if_present 1 (type_place b t o)
present_reads b t o (Scalars s) = 2
present_reads b t o (Structs k) = 2
present_reads b t o Texts = 2
present_reads b t o (Tables k) = 2
present_reads b t o (Unions e) = 1 + reads_if_present 2 (type_place b t o) + 2

-- the same of a field that may be absent
abbrev pub reads_at : List ℕ → ℕ → Live → Option ℕ → ℕ
reads_at b t f None = 0
reads_at b t f (Some p) = present_reads b t f.slot f.kind

-- a field by itself, without what its uoffsets lead to
unfoldable pub own_reads : List ℕ → ℕ → Live → ℕ
own_reads b t f = slot_reads b t f.slot + reads_at b t f (field_place b t f.slot)

-- a uoffset, and for a string its count and its last byte
abbrev pub lead_reads : Lead → ℕ
lead_reads (to_table k) = 1
lead_reads (to_struct size align) = 1
lead_reads to_string = 3
lead_reads to_nothing = 0

-- each visit of a table pays for its head and its fields, however often the table is reached
unfoldable mutual
  pub tree_cost : Tree → Checks → List ℕ → Rows → ℕ
  tree_cost (node k t kids) c b S = head_reads c + kids_cost kids c b S t (live_fields S k)

  pub kids_cost : Kids → Checks → List ℕ → Rows → ℕ → List Live → ℕ
  kids_cost no_kids c b S t fs = 0
  kids_cost (kid ys kids) c b S t [] = 0
  kids_cost (kid ys kids) c b S t (f ∷ fs) = own_reads b t f + elements_cost ys c b S (entries b S t f) + kids_cost kids c b S t fs

  pub elements_cost : Elements → Checks → List ℕ → Rows → List Entry → ℕ
  elements_cost no_elements c b S xs = 0
  elements_cost (element y ys) c b S [] = 0
  elements_cost (element y ys) c b S (x ∷ xs) = x.reads + lead_reads x.lead + element_cost y c b S + elements_cost ys c b S xs

  pub element_cost : Element → Checks → List ℕ → Rows → ℕ
  element_cost leaf c b S = 0
  element_cost (table y) c b S = tree_cost y c b S
