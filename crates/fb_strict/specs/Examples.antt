-- Examples of what is demanded: bytes that meet it or don't, most of them beside those around.
use Rattle.std.specs.Prelude.{◌≡◌, ℕ, Bool, true, false, List, [], ◌∷◌, ◌++◌, map, Option, Some, None}
use Rattle.fb_rules.specs.declared.fault.Reason.TheVariants.{OutOfBuffer, Misaligned, ZeroOffset, MissingRequired, LengthsDiffer, NotUtf8, UnknownField, TooManyReads}
use Rattle.fb_rules.specs.{declared.fault.Fault.Fault, declared.link.Link.Link, Tree.Tree, Tree.node, Tree.no_kids, Tree.kid, Tree.no_elements, Tree.element, Tree.leaf}
use Rattle.fb_rules.specs.{Tree.table as table_below, Samples.fault, Samples.published_checks, Samples.unions, Samples.table, Samples.field, Samples.object, Samples.vector}
use Rattle.fb_rules.specs.{Tests.found, Order.Failure}
use Rattle.fb_schema.specs.{Rows.Rows, Live.live_fields}
use Rattle.fb_strict.specs.{Demanded.Demanded, Demanded.demanded, Demanded.held_of, declared.inner.Inner.Inner, declared.tasks.Ask.Ask, declared.tasks.Task.Task}
use Rattle.fb_strict.specs.{declared.tasks.Held.TheVariants.Buffer, declared.tasks.Held.TheVariants.Flex, Nested.bytes_inside, Readers.buffer_at}
use Rattle.fb_strict.specs.declared.tasks.Ask.TheVariants.{Union as AskUnion, Unions as AskUnions, Table as GoInto, Tables as GoIntoEach}
use Rattle.fb_strict.specs.{Skipped.Wants, Skipped.reaches_demand, Planned.tasks_in, Asked.Demand, Asked.demands_of, Asked.first_fault, Asked.first_links, InOrder.length_failure}
use Rattle.fb_strict.specs.InOrder.{text_failure, slot_failure, inside_failure, union_failure, together_failure, element_failure}

-- the union of a table at 4, whose type and value stand at these places of such bytes: 1 is its member, 9 is none
abbrev pub union_in : List ℕ → (types place : Option ℕ) → Option Failure
union_in b types place = union_failure published_checks b unions 0 4 types place

-- a word of a vector of them at 0, whose type stands behind it
abbrev pub element_in : List ℕ → Option Failure
element_in b = element_failure published_checks b unions 0 4 0

pub record LengthRows : Type 0 where
  pub eleven_bytes : length_failure (0 ∷ 0 ∷ 0 ∷ 0 ∷ 0 ∷ 0 ∷ 0 ∷ 0 ∷ 0 ∷ 0 ∷ 0 ∷ []) ≡ found OutOfBuffer 11 0
  pub twelve_bytes : length_failure (0 ∷ 0 ∷ 0 ∷ 0 ∷ 0 ∷ 0 ∷ 0 ∷ 0 ∷ 0 ∷ 0 ∷ 0 ∷ 0 ∷ []) ≡ None

pub record WordRows : Type 0 where
  pub to_the_last_byte : inside_failure published_checks (4 ∷ 0 ∷ 0 ∷ 0 ∷ 7 ∷ []) 0 ≡ None
  pub to_the_end : inside_failure published_checks (5 ∷ 0 ∷ 0 ∷ 0 ∷ 7 ∷ []) 0 ≡ found OutOfBuffer 5 1
  pub to_itself : inside_failure published_checks (0 ∷ 0 ∷ 0 ∷ 0 ∷ 7 ∷ []) 0 ≡ found ZeroOffset 0 1
  pub misaligned : inside_failure published_checks (7 ∷ 1 ∷ 0 ∷ 0 ∷ 0 ∷ []) 1 ≡ found Misaligned 1 0
  pub not_whole : inside_failure published_checks (1 ∷ 0 ∷ 0 ∷ []) 0 ≡ found OutOfBuffer 0 0

-- texts at 0: of three bytes, and of one
pub record TextRows : Type 0 where
  pub of_two_characters : text_failure (3 ∷ 0 ∷ 0 ∷ 0 ∷ 97 ∷ 195 ∷ 169 ∷ 0 ∷ []) 0 ≡ None
  pub wrong_at_the_second : text_failure (3 ∷ 0 ∷ 0 ∷ 0 ∷ 97 ∷ 195 ∷ 40 ∷ 0 ∷ []) 0 ≡ found NotUtf8 5 0
  pub cut_off : text_failure (2 ∷ 0 ∷ 0 ∷ 0 ∷ 97 ∷ 195 ∷ 169 ∷ 0 ∷ []) 0 ≡ found NotUtf8 5 0
  pub empty : text_failure (0 ∷ 0 ∷ 0 ∷ 0 ∷ 255 ∷ []) 0 ≡ None

-- the slot at this place of a vtable at 0, of a table R
abbrev pub slot_in : List ℕ → ℕ → Option Failure
slot_in b slot = slot_failure b (live_fields unions 2) 0 slot

pub record SlotRows : Type 0 where
  pub of_a_live_field : slot_in (0 ∷ 0 ∷ 0 ∷ 0 ∷ 8 ∷ 0 ∷ []) 4 ≡ None
  pub absent : slot_in (0 ∷ 0 ∷ 0 ∷ 0 ∷ 0 ∷ 0 ∷ 0 ∷ 0 ∷ 0 ∷ 0 ∷ []) 8 ≡ None
  pub of_none : slot_in (0 ∷ 0 ∷ 0 ∷ 0 ∷ 0 ∷ 0 ∷ 0 ∷ 0 ∷ 4 ∷ 0 ∷ []) 8 ≡ found UnknownField 8 1

pub record UnionRows : Type 0 where
  pub neither : union_in [] None None ≡ None
  pub a_type_alone : union_in (9 ∷ []) (Some 0) None ≡ found MissingRequired 4 1
  pub type_0_alone : union_in (0 ∷ []) (Some 0) None ≡ None
  pub a_member : union_in (0 ∷ 0 ∷ 0 ∷ 0 ∷ 1 ∷ []) (Some 4) (Some 0) ≡ None
  pub no_member : union_in (0 ∷ 0 ∷ 0 ∷ 0 ∷ 9 ∷ []) (Some 4) (Some 0) ≡ found ZeroOffset 0 2
  pub no_member_inside : union_in (4 ∷ 0 ∷ 0 ∷ 0 ∷ 9 ∷ []) (Some 4) (Some 0) ≡ None
  pub no_type : union_in (5 ∷ 0 ∷ 0 ∷ 0 ∷ 9 ∷ []) None (Some 0) ≡ found OutOfBuffer 5 1
  pub no_type_inside : union_in (4 ∷ 0 ∷ 0 ∷ 0 ∷ 9 ∷ []) None (Some 0) ≡ None

pub record UnionsRows : Type 0 where
  pub neither : together_failure None None ≡ None
  pub both : together_failure (Some 8) (Some 12) ≡ None
  pub types_alone : together_failure (Some 8) None ≡ found LengthsDiffer 8 0
  pub alone : together_failure None (Some 12) ≡ found LengthsDiffer 12 0
  pub a_member : element_in (0 ∷ 0 ∷ 0 ∷ 0 ∷ 1 ∷ []) ≡ None
  pub type_0 : element_in (0 ∷ 0 ∷ 0 ∷ 0 ∷ 0 ∷ []) ≡ None
  pub no_member : element_in (0 ∷ 0 ∷ 0 ∷ 0 ∷ 9 ∷ []) ≡ found ZeroOffset 0 2
  pub no_member_inside : element_in (4 ∷ 0 ∷ 0 ∷ 0 ∷ 9 ∷ []) ≡ None

-- the rows of these unions, and a table Y, object 5, with a table R, a table A, and a vector of its own
abbrev pub around : Rows
around = record {
  objects = unions.objects ++ table (89 ∷ []) (field (114 ∷ []) 4 (object 2) ∷ field (97 ∷ []) 6 (object 0) ∷ field (121 ∷ []) 8 (vector 15 5) ∷ []) ∷ [];
  enums = unions.enums;
}

-- where unions are asked, or nothing is
abbrev pub asking : Bool → Demanded
asking unions = demanded (record { unions = unions; nested = false; known_fields = false; utf8 = false }) []

-- and what is reached by two fields of tables at most
abbrev pub wanting : Bool → Wants
wanting unions = record { demands = asking unions; asks = reaches_demand 3 (asking unions) around }

-- the tasks of an object
abbrev pub tasks_of : ℕ → List Task
tasks_of k = tasks_in (wanting true) around k (live_fields around k)

abbrev pub task : ℕ → ℕ → Ask → Task
task number slot ask = record { number = number; slot = slot; ask = ask }

pub record PlanRows : Type 0 where
  pub no_union : tasks_of 0 ≡ []
  pub a_struct : tasks_of 1 ≡ []
  pub a_union : tasks_of 2 ≡ task 1 6 (AskUnion 0) ∷ []
  pub a_vector_of_unions : tasks_of 3 ≡ task 1 6 (AskUnions 0) ∷ []
  pub every_kind : tasks_of 4 ≡ task 5 14 (AskUnion 0) ∷ task 11 26 (AskUnions 0) ∷ []
  pub below : tasks_of 5 ≡ task 0 4 (GoInto 2) ∷ task 2 8 (GoIntoEach 5) ∷ []
  pub nothing_asked : tasks_in (wanting false) around 5 (live_fields around 5) ≡ []

-- a table R whose union has this uoffset and this type, and its tree where no member has the type
abbrev pub lone : ℕ → ℕ → List ℕ
lone offset type = 12 ∷ 0 ∷ 0 ∷ 0 ∷ 8 ∷ 0 ∷ 12 ∷ 0 ∷ 8 ∷ 0 ∷ 4 ∷ 0 ∷ 8 ∷ 0 ∷ 0 ∷ 0 ∷ offset ∷ 0 ∷ 0 ∷ 0 ∷ type ∷ 0 ∷ 0 ∷ 0 ∷ []

abbrev pub lone_tree : Tree
lone_tree = node 2 12 (kid no_elements (kid no_elements no_kids))

-- the first fault of a buffer whose root is a table R within this budget, once ten reads are made
abbrev pub fault_in : Option ℕ → List ℕ → Tree → Option Fault
fault_in budget b y = first_fault (record { depth = 64; tables = 64; reads = budget }) 10 (demands_of (wanting true) published_checks b around 2 y)

-- that of this one
abbrev pub fault_of : ℕ → ℕ → Option ℕ → Option Fault
fault_of offset type budget = fault_in budget (lone offset type) lone_tree

pub record FaultRows : Type 0 where
  pub eight_bytes : fault_in None (4 ∷ 0 ∷ 0 ∷ 0 ∷ 4 ∷ 0 ∷ 0 ∷ 0 ∷ []) (node 2 4 (kid no_elements (kid no_elements no_kids))) ≡ Some (fault OutOfBuffer 8 2 None 10)
  pub inside : fault_of 7 9 None ≡ None
  pub to_the_end : fault_of 8 9 None ≡ Some (fault OutOfBuffer 24 2 (Some 1) 16)
  pub of_type_0 : fault_of 0 0 None ≡ Some (fault ZeroOffset 16 2 (Some 1) 16)
  pub just_enough_reads : fault_of 7 9 (Some 16) ≡ None
  pub one_read_too_many : fault_of 7 9 (Some 15) ≡ Some (fault TooManyReads 12 2 (Some 1) 16)
  pub in_the_head : fault_of 7 9 (Some 11) ≡ Some (fault TooManyReads 12 2 None 12)
  pub the_test_before_its_reads : fault_of 8 9 (Some 15) ≡ Some (fault OutOfBuffer 24 2 (Some 1) 16)

-- the links to the first fault of a buffer whose root is a table of this object within this budget, once ten reads are
-- made
abbrev pub links_in : Option ℕ → ℕ → List ℕ → Tree → List Link
links_in budget root b y = first_links (record { depth = 64; tables = 64; reads = budget }) 10 (demands_of (wanting true) published_checks b around root y)

-- a link of an object and a field, and of an element and a type where it has these
abbrev pub link : (k n : ℕ) → (place type : Option ℕ) → Link
link k n place type = record { object = k; field = n; element = place; member = type }

-- a table Y with a table R, whose union has this uoffset and a type that is unknown
abbrev pub nested : ℕ → List ℕ
nested offset =
    12 ∷ 0 ∷ 0 ∷ 0 ∷ 6 ∷ 0 ∷ 8 ∷ 0 ∷ 4 ∷ 0 ∷ 0 ∷ 0 ∷ 8 ∷ 0 ∷ 0 ∷ 0 ∷ 12 ∷ 0 ∷ 0 ∷ 0 ∷ 8 ∷ 0 ∷ 12 ∷ 0 ∷ 8 ∷ 0 ∷ 4 ∷ 0 ∷ 8 ∷ 0 ∷ 0 ∷ 0 ∷ offset ∷ 0 ∷ 0 ∷ 0 ∷ 9 ∷ 0 ∷ 0 ∷ 0 ∷ []

abbrev pub nested_tree : Tree
nested_tree = node 5 12 (kid (element (table_below (node 2 28 (kid no_elements (kid no_elements no_kids)))) no_elements) (kid no_elements (kid no_elements no_kids)))

-- a table with a vector of two unions, of type 0 and of a type that is unknown, the second with this uoffset
abbrev pub pair : ℕ → List ℕ
pair offset =
    12 ∷ 0 ∷ 0 ∷ 0 ∷ 8 ∷ 0 ∷ 12 ∷ 0 ∷ 4 ∷ 0 ∷ 8 ∷ 0 ∷ 8 ∷ 0 ∷ 0 ∷ 0 ∷ 8 ∷ 0 ∷ 0 ∷ 0 ∷ 12 ∷ 0 ∷ 0 ∷ 0 ∷ 2 ∷ 0 ∷ 0 ∷ 0 ∷ 0 ∷ 9 ∷ 0 ∷ 0 ∷ 2 ∷ 0 ∷ 0 ∷ 0 ∷ 0 ∷ 0 ∷ 0 ∷ 0 ∷ offset ∷ 0 ∷ 0 ∷ 0 ∷ []

abbrev pub pair_tree : Tree
pair_tree = node 3 12 (kid no_elements (kid (element leaf (element leaf no_elements)) no_kids))

pub record LinkRows : Type 0 where
  pub too_short : links_in None 2 (4 ∷ 0 ∷ 0 ∷ 0 ∷ 4 ∷ 0 ∷ 0 ∷ 0 ∷ []) (node 2 4 (kid no_elements (kid no_elements no_kids))) ≡ []
  pub met : links_in None 2 (lone 7 9) lone_tree ≡ []
  pub the_field_itself : links_in None 2 (lone 8 9) lone_tree ≡ link 2 1 None None ∷ []
  pub its_reads : links_in (Some 15) 2 (lone 7 9) lone_tree ≡ link 2 1 None None ∷ []
  pub in_the_head : links_in (Some 11) 2 (lone 7 9) lone_tree ≡ []
  pub below : links_in None 5 (nested 8) nested_tree ≡ link 5 0 None None ∷ link 2 1 None None ∷ []
  pub in_the_head_below : links_in (Some 14) 5 (nested 7) nested_tree ≡ link 5 0 None None ∷ []
  pub in_a_vector : links_in None 3 (pair 4) pair_tree ≡ link 3 1 (Some 1) (Some 9) ∷ []

-- a table with two vectors of bytes, of which the first holds a buffer with a root of the same table, and the second a
-- flexbuffer
abbrev pub holders : Rows
holders = record { objects = table (72 ∷ []) (field (98 ∷ []) 4 (vector 4 0) ∷ field (102 ∷ []) 6 (vector 4 0) ∷ []) ∷ []; enums = [] }

abbrev pub holding : Demanded
holding = demanded (record { unions = false; nested = true; known_fields = false; utf8 = false }) (record { object = 0; slot = 4; held = Buffer 0 } ∷ record { object = 0; slot = 6; held = Flex } ∷ [])

-- such a table, with these places of its fields, and the vector at 20 has two bytes; and the buffers inside
abbrev pub holder : ℕ → ℕ → List ℕ
holder first second = 12 ∷ 0 ∷ 0 ∷ 0 ∷ 8 ∷ 0 ∷ 8 ∷ 0 ∷ first ∷ 0 ∷ second ∷ 0 ∷ 8 ∷ 0 ∷ 0 ∷ 0 ∷ 4 ∷ 0 ∷ 0 ∷ 0 ∷ 2 ∷ 0 ∷ 0 ∷ 0 ∷ 7 ∷ 9 ∷ []

abbrev pub inners_of : List ℕ → List (Option Inner)
inners_of b = map (λ (d : Demand). d.inner)
    (demands_of (record { demands = holding; asks = reaches_demand 1 holding holders }) published_checks b holders 0 (node 0 12 (kid no_elements (kid no_elements no_kids))))

pub record HeldRows : Type 0 where
  pub held : map (held_of holding 0) (live_fields holders 0) ≡ Some (Buffer 0) ∷ Some Flex ∷ []
  pub inside : inners_of (holder 4 0) ≡ None ∷ None ∷ Some (buffer_at (holder 4 0) 0 16) ∷ None ∷ []
  pub bytes : bytes_inside (holder 4 0) (buffer_at (holder 4 0) 0 16) ≡ 7 ∷ 9 ∷ []
  pub absent : inners_of (holder 0 0) ≡ None ∷ None ∷ None ∷ None ∷ []
