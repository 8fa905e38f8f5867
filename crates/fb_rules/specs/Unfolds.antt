-- When the bytes at a place unfold by the schema into a tree.
use Rattle.std.specs.Prelude.{◌≡◌, ℕ, List, [], ◌∷◌}
use Rattle.fb_schema.specs.{Rows.Rows, Live.Live, Live.live_fields}
use Rattle.fb_rules.specs.{declared.checks.Checks.Checks, Places.target, Facts.IsTable, Facts.IsOffset, Facts.IsString, Facts.IsInline, Fields.IsField, Fields.Lead}
use Rattle.fb_rules.specs.{Fields.to_table, Fields.to_struct, Fields.to_string, Fields.to_nothing, Fields.Entry, Fields.entries, Tree.Tree, Tree.node, Tree.Kids, Tree.no_kids}
use Rattle.fb_rules.specs.Tree.{kid, Elements, no_elements, element, Element, leaf, table}

unfoldable mutual
  -- the table at t, of the object k, unfolds into this tree
  pub Unfolds : Tree → Checks → List ℕ → Rows → ℕ → ℕ → Type 0
  Unfolds (node k' t' kids) c b S k t = (k' ≡ k) × (t' ≡ t) × IsTable c b t × FieldsUnfold kids c b S t (live_fields S k)

  -- these fields of the table at t hold, and their elements unfold
  pub FieldsUnfold : Kids → Checks → List ℕ → Rows → ℕ → List Live → Type 0
  FieldsUnfold no_kids c b S t [] = Unit {0}
  FieldsUnfold no_kids c b S t (f ∷ fs) = ⊥
  FieldsUnfold (kid ys kids) c b S t [] = ⊥
  FieldsUnfold (kid ys kids) c b S t (f ∷ fs) = IsField c b S t f × ElementsUnfold ys c b S (entries b S t f) × FieldsUnfold kids c b S t fs

  -- these uoffsets lead to these elements
  pub ElementsUnfold : Elements → Checks → List ℕ → Rows → List Entry → Type 0
  ElementsUnfold no_elements c b S [] = Unit {0}
  ElementsUnfold no_elements c b S (x ∷ xs) = ⊥
  ElementsUnfold (element y ys) c b S [] = ⊥
  ElementsUnfold (element y ys) c b S (x ∷ xs) = ElementUnfolds y c b S x.place x.lead × ElementsUnfold ys c b S xs

  -- the uoffset at p leads to this element
  pub ElementUnfolds : Element → Checks → List ℕ → Rows → ℕ → Lead → Type 0
  ElementUnfolds leaf c b S p (to_table k) = ⊥
  ElementUnfolds leaf c b S p (to_struct size align) = IsOffset c b p × IsInline c b (target b p) size align
  ElementUnfolds leaf c b S p to_string = IsOffset c b p × IsString c b (target b p)
  ElementUnfolds leaf c b S p to_nothing = Unit {0}
  ElementUnfolds (table y) c b S p (to_table k) = IsOffset c b p × Unfolds y c b S k (target b p)
  ElementUnfolds (table y) c b S p (to_struct size align) = ⊥
  ElementUnfolds (table y) c b S p to_string = ⊥
  ElementUnfolds (table y) c b S p to_nothing = ⊥
