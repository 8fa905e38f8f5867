-- What a buffer unfolds to: a table with the tables below it.
use Rattle.std.specs.Prelude.{ℕ, suc, ◌+◌, max}

mutual
  -- a visit of a table: its object, its position, and what its fields lead to
  pub data Tree : Type 0 where
    node : (object position : ℕ) → Kids → Tree

  -- for each live field in rising slot, its elements
  pub data Kids : Type 0 where
    no_kids : Kids
    kid : Elements → Kids → Kids

  -- for each uoffset by which a field leads on, in order, what it leads to
  pub data Elements : Type 0 where
    no_elements : Elements
    element : Element → Elements → Elements

  -- a table, or a string, a struct or nothing
  pub data Element : Type 0 where
    leaf : Element
    table : Tree → Element

-- the number of nodes
unfoldable mutual
  pub size : Tree → ℕ
  size (node k t kids) = 1 + kids_size kids

  pub kids_size : Kids → ℕ
  kids_size no_kids = 0
  kids_size (kid ys kids) = elements_size ys + kids_size kids

  pub elements_size : Elements → ℕ
  elements_size no_elements = 0
  elements_size (element y ys) = element_size y + elements_size ys

  pub element_size : Element → ℕ
  element_size leaf = 0
  element_size (table y) = size y

-- the number of nodes on the longest chain from the root
unfoldable mutual
  pub depth : Tree → ℕ
  depth (node k t kids) = 1 + kids_depth kids

  pub kids_depth : Kids → ℕ
  kids_depth no_kids = 0
  kids_depth (kid ys kids) = max (elements_depth ys) (kids_depth kids)

  pub elements_depth : Elements → ℕ
  elements_depth no_elements = 0
  elements_depth (element y ys) = max (element_depth y) (elements_depth ys)

  pub element_depth : Element → ℕ
  element_depth leaf = 0
  element_depth (table y) = depth y

-- how many fields, and how many elements
unfoldable pub kids_length : Kids → ℕ
kids_length no_kids = 0
kids_length (kid ys kids) = suc (kids_length kids)

unfoldable pub elements_length : Elements → ℕ
elements_length no_elements = 0
elements_length (element y ys) = suc (elements_length ys)
