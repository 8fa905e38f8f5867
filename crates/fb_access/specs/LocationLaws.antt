-- The laws of what is told of the way to a fault: its text is a path, and its links lead to what is under check.
use Rattle.std.specs.Prelude.{◌≡◌, ℕ, ◌<◌, ◌^◌, List, [], ◌∷◌, ◌++◌, length, Option, Some, None, codes, decimal}
use Rattle.fb_schema.specs.{Demands.IsLegal, Rows.Rows, Served.IsServed, declared.kinds.Kind.Kind, declared.kinds.Kind.TheVariants.Table}
use Rattle.fb_rules.specs.{declared.fault.Fault.Fault, declared.link.Link.Link, Question.Question, Fields.Lead, Fields.to_nothing, Way.Way, Way.way_to_start, Links.StopsAlong}
use Rattle.fb_rules.specs.Stops.{Place, in_start, in_head, in_field, in_element, IsFalseAt}
use Rattle.fb_access.specs.{declared.step.Step.Step, declared.spot.Spot.Spot, declared.spot.Spot.TheVariants.AtTable, declared.spot.Spot.TheVariants.AtUnion, Denotes.Reaches}
use Rattle.fb_access.specs.{Denotes.root_spot, Resolving.Follows, Resolving.Resolves, Location.field_name, Location.link_member, Location.mark_behind, Location.path_text}
use Rattle.fb_access.specs.{Spots.field_spot, StepLaws.IsLedTo, Grammar.Part, Grammar.field, Grammar.element, Grammar.member, Grammar.IsName}

-- the parts of a path that a link is: its field, its element and its member, where it has them
abbrev pub field_parts : Option (List ℕ) → List Part
field_parts None = []
field_parts (Some name) = field name ∷ []

abbrev pub element_parts : Option ℕ → List Part
element_parts None = []
element_parts (Some j) = element (decimal j) ∷ []

abbrev pub member_parts : Option (List ℕ) → List Part
member_parts None = []
member_parts (Some name) = member name ∷ []

abbrev pub link_parts : Rows → Link → List Part
link_parts S link = field_parts (field_name S link.object link.field) ++ element_parts link.element ++ member_parts (link_member S link)

-- the parts that links are, one behind the other
abbrev pub parts_of : Rows → List Link → List Part
parts_of S [] = []
parts_of S (link ∷ links) = link_parts S link ++ parts_of S links

-- a number of 32 bits, and a name of the grammar, where there is one
abbrev pub IsShort : Option ℕ → Type 0
IsShort None = Unit {0}
IsShort (Some j) = j < 2 ^ 32

abbrev pub IsNameIfAny : Option (List ℕ) → Type 0
IsNameIfAny None = Unit {0}
IsNameIfAny (Some name) = IsName name

-- the names of a link are of the grammar
pub record IsNamed (S : Rows) (link : Link) : Type 0 where
  pub name : List ℕ
  pub found : field_name S link.object link.field ≡ Some name
  pub is_name : IsName name
  pub element : IsShort link.element
  pub member : IsNameIfAny (link_member S link)

abbrev pub AreNamed : Rows → List Link → Type 0
AreNamed S [] = Unit {0}
AreNamed S (link ∷ links) = IsNamed S link × AreNamed S links

-- between each link and the next stands a dot: only the last may be a whole vector of ubyte
abbrev pub AreDotted : Rows → List Link → Type 0
AreDotted S [] = Unit {0}
AreDotted S (link ∷ []) = Unit {0}
AreDotted S (link ∷ next ∷ links) = (mark_behind S link ≡ codes ".") × AreDotted S (next ∷ links)

-- where the names of links are of the grammar, dots stand between them and their parts follow one another from the
-- root, the text of their way is a path that resolves to the same steps
abbrev pub WaysResolve : Type 0
WaysResolve =
    (S : Rows) (root : ℕ) (link : Link) (links : List Link) (steps : List Step) (last : Kind) → AreNamed S (link ∷ links) → AreDotted S (link ∷ links)
    → Follows S (Table root) (parts_of S (link ∷ links)) steps last → Resolves S root (path_text S (link ∷ links)) steps

-- Where links lead.

-- what stands behind the uoffset at p by its lead, and the union itself where its type leads to nothing
abbrev pub IsBehind : List ℕ → Rows → ℕ → Lead → Spot → Type 0
IsBehind b S p to_nothing q = (e : ℕ) × (y : ℕ) × (q ≡ AtUnion e y p)
IsBehind b S p lead q = IsLedTo b S p lead q

-- what is under check at a place, at the end of this way: the table in whose head it is, the field to which the way
-- leads, or what a uoffset of one leads to; at the start, which is the one that was asked for, nothing is yet
abbrev pub IsUnderCheck : Question → List ℕ → Way → Place → Spot → Type 0
IsUnderCheck q b way (in_start start ident) at = (start ≡ q.start) × (ident ≡ q.ident) × (way ≡ way_to_start q.root)
IsUnderCheck q b way (in_head k t) at = at ≡ AtTable k t
IsUnderCheck q b way (in_field t g) at = (way.field ≡ Some g.number) × (at ≡ field_spot b t g)
IsUnderCheck q b way (in_element x) at = IsBehind b q.rows x.place x.lead at

-- by the names of the schema the parts of these links, with dots between them, follow one another from this kind, and
-- in the buffer their steps lead from this spot to what is under check where the fault is the first condition that fails
pub record Arrives (q : Question) (b : List ℕ) (kind : Kind) (from : Spot) (f : Fault) (links : List Link) : Type 0 where
  pub steps : List Step
  pub last : Kind
  pub follows : Follows q.rows kind (parts_of q.rows links) steps last
  pub dotted : AreDotted q.rows links
  pub end : Spot
  pub reaches : Reaches b q.rows from steps end
  pub place : Place
  pub way : Way
  pub fails : IsFalseAt q.checks b q.rows q.limits place way f
  pub is_there : IsUnderCheck q b way place end

-- the links to a fault do so from the root
abbrev pub LinksArrive : Type 0
LinksArrive =
    (q : Question) (b : List ℕ) (f : Fault) (links : List Link) → IsLegal q.rows → IsServed q.rows → length b < 2 ^ 31 → StopsAlong q b f links
    → Arrives q b (Table q.root) (root_spot b q.start q.root) f links
