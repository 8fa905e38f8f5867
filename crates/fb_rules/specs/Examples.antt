-- Examples: trees with their numbers, and faults with the trails that lead to them.
use Rattle.std.specs.Prelude.{◌≡◌, ℕ, true, List, [], ◌∷◌, Some, None}
use Rattle.fb_schema.specs.Rows.{Rows}
use Rattle.fb_rules.specs.declared.{checks.Checks.Checks, fault.Fault.Fault, start.Start.TheVariants.Bare, start.Ident.TheVariants.Any, fault.Reason.TheVariants.Misaligned}
use Rattle.fb_rules.specs.declared.fault.Reason.TheVariants.{ZeroOffset, TooDeep, TooManyTables, BadVtable, NoTerminator, LengthsDiffer, PastTable, TooManyReads}
use Rattle.fb_rules.specs.{Bounds.Bounds, Bounds.AreAllowed, Bounds.AreTooMany, Bounds.limits_of_length, Question.question, Places.target, WellFormed.IsStart}
use Rattle.fb_rules.specs.{WellFormed.IsWellFormed, WellFormed.cost, Way.way_to_start, Way.way_to_root, Tree.Tree, Tree.node, Tree.Kids, Tree.no_kids, Tree.kid, Tree.Elements}
use Rattle.fb_rules.specs.{Tree.no_elements, Tree.element, Tree.leaf, Tree.table, Tree.size, Tree.depth, Stops.in_start, Stops.IsFalseAt, Stops.Trail, Stops.at_head}
use Rattle.fb_rules.specs.{Stops.at_field, Stops.at_own, Stops.at_element, Stops.at_lead, Stops.through, Stops.IsTrail, Samples.published_checks, Samples.published_limits}
use Rattle.fb_rules.specs.Samples.{fault, monsters, nodes, unions, orc, monster, open_name, one_member, odd_vtable, crooked_struct, two_members, three_values, every_kind, shared}

-- under the published checks the buffer unfolds into this tree, with so many tables, so deep, for so many reads
abbrev pub Counts : List ℕ → Rows → ℕ → Tree → ℕ → ℕ → ℕ → Type 0
Counts b S root y tables deep reads =
    let q = question S root Bare Any published_limits published_checks in
    IsWellFormed q b y × (size y ≡ tables) × (depth y ≡ deep) × (cost q b y ≡ reads)

-- the buffer begins as it should, and this trail leads from its root to this fault
abbrev pub StopsBy : Checks → List ℕ → Rows → ℕ → Bounds → Trail → Fault → Type 0
StopsBy c b S root L s f = IsStart c b Bare Any × IsTrail s c b S L root (target b 0) (way_to_root root Bare Any) f

-- one element that is a table
abbrev pub one_table : Tree → Elements
one_table y = element (table y) no_elements

-- one element that is no table
abbrev pub one_leaf : Elements
one_leaf = element leaf no_elements

-- passed fields that lead to these elements
abbrev pub kids_of : List Elements → Kids
kids_of [] = no_kids
kids_of (ys ∷ rest) = kid ys (kids_of rest)

-- one passed field that leads nowhere
abbrev pub one_field : Kids
one_field = kid no_elements no_kids

-- a monster's hit points lead nowhere, and its name to a string
abbrev pub MonsterUnfolds : Type 0
MonsterUnfolds = Counts monster monsters 0 (node 0 12 (kids_of (no_elements ∷ one_leaf ∷ []))) 1 1 8

-- a union leads to a table
abbrev pub OneMemberUnfolds : Type 0
OneMemberUnfolds = Counts one_member unions 2 (node 2 12 (kids_of (no_elements ∷ one_table (node 0 32 one_field) ∷ []))) 2 2 11

-- of two unions in a vector one leads to a string and one to nothing
abbrev pub TwoMembersUnfold : Type 0
TwoMembersUnfold = Counts two_members unions 3 (node 3 12 (kids_of (no_elements ∷ element leaf one_leaf ∷ []))) 1 1 17

-- a table A with its number
abbrev pub number : Tree
number = node 0 168 one_field

-- the fields of every kind, in their order
abbrev pub every_kids : Kids
every_kids =
    kids_of (no_elements ∷ one_leaf ∷ no_elements ∷ one_table number ∷ no_elements ∷ one_leaf ∷ no_elements ∷ no_elements ∷ element leaf one_leaf ∷ element
    (table number) (one_table number) ∷ no_elements ∷ element leaf (element (table number) one_leaf) ∷ [])

-- a field of every kind; the table at 168 is reached four times, and is four nodes
abbrev pub EveryKindUnfolds : Type 0
EveryKindUnfolds = Counts every_kind unions 4 (node 4 32 every_kids) 5 2 64

-- past the hit points, the name ends without a byte 0
abbrev pub OpenNameStops : Type 0
OpenNameStops = StopsBy published_checks open_name monsters 0 published_limits (at_field one_field (at_element no_elements at_lead)) (fault NoTerminator 31 0 (Some 1) 8)

-- past the hit points, the name's offset is 0
abbrev pub NoNameStops : Type 0
NoNameStops = StopsBy published_checks (orc 12 0 0) monsters 0 published_limits (at_field one_field (at_element no_elements at_lead)) (fault ZeroOffset 16 0 (Some 1) 6)

-- past the types, of which there are two, there are three values
abbrev pub ThreeValuesStop : Type 0
ThreeValuesStop = StopsBy published_checks three_values unions 3 published_limits (at_field one_field at_own) (fault LengthsDiffer 32 3 (Some 1) 12)

-- past the type, the struct stands where no long may stand
abbrev pub CrookedStructStops : Type 0
CrookedStructStops = StopsBy published_checks crooked_struct unions 2 published_limits (at_field one_field (at_element no_elements at_lead)) (fault Misaligned 28 2 (Some 1) 8)

-- the tables of `shared`: its root has this middle one twice, and that has the last one twice

abbrev pub last : Tree
last = node 0 40 (kids_of (no_elements ∷ no_elements ∷ []))

abbrev pub middle : Tree
middle = node 0 28 (kids_of (one_table last ∷ one_table last ∷ []))

-- with 6 tables allowed: past the root's first subtable and the first of its second's, the seventh
abbrev pub SeventhTableStops : Type 0
SeventhTableStops =
    StopsBy published_checks shared nodes 0 (record { depth = 64; tables = 6; reads = None })
    (at_field (kid (one_table middle) no_kids)
    (at_element no_elements (through (at_field (kid (one_table last) no_kids) (at_element no_elements (through at_head)))))) (fault TooManyTables 40 0 (Some 1) 25)

-- the published limits with a budget of so many reads
abbrev pub with_reads : ℕ → Bounds
with_reads most = record published_limits { reads = Some most }

-- with no read allowed: past the root offset
abbrev pub FirstReadStops : Type 0
FirstReadStops =
    IsFalseAt published_checks monster monsters (with_reads 0) (in_start Bare Any) (way_to_start 0) (fault TooManyReads 0 0 None 1)

-- with 7 reads allowed: past the hit points and the name, at its uoffset
abbrev pub LastTextStops : Type 0
LastTextStops = StopsBy published_checks monster monsters 0 (with_reads 7) (at_field one_field (at_element no_elements at_lead)) (fault TooManyReads 16 0 (Some 1) 8)

-- with 24 reads allowed: past the head of the seventh table, to which the 25th leads
abbrev pub SeventhHeadStops : Type 0
SeventhHeadStops =
    StopsBy published_checks shared nodes 0 (with_reads 24)
    (at_field (kid (one_table middle) no_kids)
    (at_element no_elements (through (at_field (kid (one_table last) no_kids) (at_element no_elements (through at_head)))))) (fault TooManyReads 40 0 None 27)

-- with 10 reads allowed: past the type, through the value, past the number of the table A
abbrev pub LastFieldStops : Type 0
LastFieldStops =
    StopsBy published_checks one_member unions 2 (with_reads 10) (at_field one_field (at_element no_elements (through (at_field no_kids at_own)))) (fault TooManyReads 32 0 (Some 0) 11)

-- with depth 2 and 2 tables allowed: the first table of the first, where both limits are reached
abbrev pub ThirdLevelStops : Type 0
ThirdLevelStops =
    StopsBy published_checks shared nodes 0 (record { depth = 2; tables = 2; reads = None })
    (at_field no_kids (at_element no_elements (through (at_field no_kids (at_element no_elements (through at_head)))))) (fault TooDeep 40 0 (Some 0) 9)

-- past the type, through the value, the head of the table A, whose vtable has an odd size
abbrev pub OddVtableStops : Type 0
OddVtableStops =
    StopsBy published_checks odd_vtable unions 2 published_limits (at_field one_field (at_element no_elements (through at_head))) (fault BadVtable 24 0 None 10)

-- where the inline size is checked, which is 9: the hit points end at 10
abbrev pub ShortTableStops : Type 0
ShortTableStops = StopsBy (record { alignment = true; inline_size = true }) (orc 9 8 0) monsters 0 published_limits (at_field no_kids at_own) (fault PastTable 20 0 (Some 0) 5)

-- what buffers may take by 64 reads a byte, within 100 million: the shortest and the longest of these, and one for
-- which 7,000 reads are too many, where a longer buffer may take them
pub record BudgetsByLength : Type 0 where
  pub of_none : limits_of_length (with_reads 100000000) 64 0 ≡ with_reads 4096
  pub of_32 : limits_of_length (with_reads 100000000) 64 32 ≡ with_reads 6144
  pub of_2_mebibytes : limits_of_length (with_reads 100000000) 64 2097152 ≡ with_reads 100000000
  pub unbounded : limits_of_length published_limits 64 32 ≡ with_reads 6144
  pub two_a_byte : limits_of_length published_limits 2 32 ≡ with_reads 192
  pub no_read_a_byte : limits_of_length published_limits 0 32 ≡ with_reads 0
  pub too_many_of_32 : AreTooMany (limits_of_length published_limits 64 32).reads 7000
  pub allowed_of_64 : AreAllowed (limits_of_length published_limits 64 64).reads 7000
