-- What is told of a path or a root table that isn't there.
use Rattle.std.specs.Prelude.{◌≡◌, ℕ, ◌≤◌, ◌&&◌, nat_le, Bool, IsTrue, List, length, IsSome, Option, Some, None}
use Rattle.std.specs.List.{list_all}
use Rattle.fb_schema.specs.Rows.{Rows, table_named}
use Rattle.fb_access.specs.{Resolving.Resolves, declared.step.Step.Step}
use Rattle.fbcheck_calls.specs.{Asked.published, Asked.root_asked, Marked.IsFirstMark, Marked.plain_text, Placed.IsTextTold, declared.held.Held.Held}
use Rattle.fbcheck_calls.specs.declared.held.Held.TheVariants.{Schema, Room}

-- a byte that is printable ASCII
abbrev pub is_shown : ℕ → Bool
is_shown b = nat_le 32 b && nat_le b 126

-- some text of at most 1,024 printable bytes stands in the room, cut to it, and its whole length is told
pub record IsHintTold (room room' : List ℕ) (told : ℕ) : Type 0 where
  pub text : List ℕ
  pub shown : IsTrue (list_all is_shown text)
  pub short : length text ≤ 1024
  pub is : IsTextTold text room room' told

-- a text resolves from the root, with [0] for its first [*]
pub record IsPathFrom (S : Rows) (root : ℕ) (text : List ℕ) : Type 0 where
  pub mark : Option ℕ
  pub first_mark : IsFirstMark text mark
  pub steps : List Step
  pub resolves : Resolves S root (plain_text text mark) steps

-- a path needs no hint that resolves, nor where there is no root
abbrev pub NeedsNoHint : Rows → List ℕ → Option ℕ → Type 0
NeedsNoHint S path None = Unit {0}
NeedsNoHint S path (Some root) = IsPathFrom S root path

-- nothing is told of such a path
abbrev pub LacksPathHint : Held → ℕ → List ℕ → ℕ → Type 0
LacksPathHint (Schema s) root path told = NeedsNoHint s.loaded.schema path (root_asked s.loaded (record published { root = root })) → told ≡ 0
LacksPathHint (Room r) root path told = told ≡ 0

-- nothing is told of the name that a table has
abbrev pub LacksRootHint : Held → List ℕ → ℕ → Type 0
LacksRootHint (Schema s) name told = IsSome (table_named s.loaded.schema name) → told ≡ 0
LacksRootHint (Room r) name told = told ≡ 0
