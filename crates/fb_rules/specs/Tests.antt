-- Examples of the tests of Order.antt: bytes that pass or fail each of them, most of them beside the tests around it.
use Rattle.std.specs.Prelude.{◌≡◌, ℕ, true, false, List, [], ◌∷◌, Option, Some, None}
use Rattle.fb_schema.specs.declared.kinds.{Scalar.TheVariants.Short, Scalar.TheVariants.Int, Scalar.TheVariants.Long, Kind.Kind, Kind.TheVariants.Scalar, Kind.TheVariants.Text}
use Rattle.fb_schema.specs.declared.kinds.Kind.TheVariants.{Struct, Table, Union, Scalars, Texts, Structs, Tables, Unions}
use Rattle.fb_schema.specs.{Live.Live, LookUps.live}
use Rattle.fb_rules.specs.declared.{checks.Checks.Checks, fault.Reason.Reason, start.Start.TheVariants.Bare, start.Start.TheVariants.Prefixed, start.Ident.Ident}
use Rattle.fb_rules.specs.declared.{start.Ident.TheVariants.Any, start.Ident.TheVariants.Want, fault.Reason.TheVariants.WrongPrefix, fault.Reason.TheVariants.OutOfBuffer}
use Rattle.fb_rules.specs.declared.fault.Reason.TheVariants.{Misaligned, ZeroOffset, WrongIdentifier, TooDeep, TooManyTables, BadVtable, MissingRequired, NoTerminator}
use Rattle.fb_rules.specs.declared.fault.Reason.TheVariants.{LengthsDiffer, PastTable, TooManyReads}
use Rattle.fb_rules.specs.{Bounds.Bounds, Way.Way, Samples.published_checks, Samples.fault, Samples.unions, Fields.to_table, Fields.to_struct, Fields.to_string, Fields.to_nothing}
use Rattle.fb_rules.specs.{Fields.entry, Order.Failure, Order.prefix_failure, Order.ident_failure, Order.offset_failure, Order.start_failure, Order.head_failure}
use Rattle.fb_rules.specs.{Order.string_failure, Order.vector_failure, Order.inline_failure, Order.own_failure, Order.element_failure, Stops.in_start, Stops.in_head}
use Rattle.fb_rules.specs.Stops.{in_field, in_element, fault_at}

-- a chain finds this
abbrev pub found : Reason → ℕ → ℕ → Option Failure
found reason at reads = Some (record { reason = reason; at = at; reads = reads })

-- without alignment, and with inline sizes
abbrev pub unaligned : Checks
unaligned = record { alignment = false; inline_size = false }

abbrev pub strict : Checks
strict = record { alignment = true; inline_size = true }

-- the identifier BFBS
abbrev pub wanted : Ident
wanted = Want (66 ∷ 70 ∷ 66 ∷ 83 ∷ [])

-- a table at 8 of this inline size, with two slots that say so; what follows its signed word begins at 12
abbrev pub a_table : ℕ → ℕ → ℕ → List ℕ → List ℕ
a_table inline fourth sixth rest = 8 ∷ 0 ∷ inline ∷ 0 ∷ fourth ∷ 0 ∷ sixth ∷ 0 ∷ 8 ∷ 0 ∷ 0 ∷ 0 ∷ rest

-- a field of this kind with this slot, size and alignment
abbrev pub a_field : Kind → ℕ → ℕ → ℕ → Live
a_field kind slot size align = live 3 slot [] kind size align None

-- such a field of that table by itself
abbrev pub own : Checks → List ℕ → Live → Option Failure
own c b f = own_failure c b unions 8 f

-- limits, and a way

abbrev pub limits : ℕ → ℕ → Option ℕ → Bounds
limits depth tables reads = record { depth = depth; tables = tables; reads = reads }

abbrev pub a_way : ℕ → ℕ → ℕ → Way
a_way links passed paid = record { links = links; passed = passed; deepest = links; paid = paid; leading = 0; object = 7; field = Some 3 }

-- a prefix counts the bytes after it
pub record PrefixTests : Type 0 where
  pub too_short : prefix_failure (4 ∷ 0 ∷ 0 ∷ []) Prefixed ≡ found OutOfBuffer 0 0
  pub too_low : prefix_failure (1 ∷ 0 ∷ 0 ∷ 0 ∷ 7 ∷ 7 ∷ []) Prefixed ≡ found WrongPrefix 0 1
  pub too_high : prefix_failure (3 ∷ 0 ∷ 0 ∷ 0 ∷ 7 ∷ 7 ∷ []) Prefixed ≡ found WrongPrefix 0 1
  pub right : prefix_failure (2 ∷ 0 ∷ 0 ∷ 0 ∷ 7 ∷ 7 ∷ []) Prefixed ≡ None
  pub not_there : prefix_failure [] Bare ≡ None

-- a wanted identifier stands at 4
pub record IdentifierTests : Type 0 where
  pub too_short : ident_failure (0 ∷ 0 ∷ 0 ∷ 0 ∷ 66 ∷ 70 ∷ 66 ∷ []) 4 wanted ≡ found OutOfBuffer 4 0
  pub another_first_byte : ident_failure (0 ∷ 0 ∷ 0 ∷ 0 ∷ 67 ∷ 70 ∷ 66 ∷ 83 ∷ []) 4 wanted ≡ found WrongIdentifier 4 1
  pub another_last_byte : ident_failure (0 ∷ 0 ∷ 0 ∷ 0 ∷ 66 ∷ 70 ∷ 66 ∷ 84 ∷ []) 4 wanted ≡ found WrongIdentifier 4 1
  pub right : ident_failure (0 ∷ 0 ∷ 0 ∷ 0 ∷ 66 ∷ 70 ∷ 66 ∷ 83 ∷ []) 4 wanted ≡ None
  pub not_wanted : ident_failure [] 4 Any ≡ None

-- a uoffset is in the buffer, aligned and not 0
pub record OffsetTests : Type 0 where
  pub past_the_end : offset_failure published_checks (1 ∷ 0 ∷ 0 ∷ []) 0 ≡ found OutOfBuffer 0 0
  pub past_the_end_and_misaligned : offset_failure published_checks (0 ∷ 0 ∷ 0 ∷ 0 ∷ 0 ∷ []) 2 ≡ found OutOfBuffer 2 0
  pub misaligned_and_zero : offset_failure published_checks (0 ∷ 0 ∷ 0 ∷ 0 ∷ 0 ∷ 0 ∷ []) 2 ≡ found Misaligned 2 0
  pub zero : offset_failure published_checks (0 ∷ 0 ∷ 0 ∷ 0 ∷ 0 ∷ 0 ∷ 0 ∷ 0 ∷ []) 4 ≡ found ZeroOffset 4 1
  pub good : offset_failure published_checks (0 ∷ 0 ∷ 0 ∷ 0 ∷ 0 ∷ 0 ∷ 0 ∷ 1 ∷ []) 4 ≡ None
  pub misaligned_unchecked : offset_failure unaligned (0 ∷ 0 ∷ 1 ∷ 0 ∷ 0 ∷ 0 ∷ []) 2 ≡ None
  pub zero_unchecked_otherwise : offset_failure unaligned (0 ∷ 0 ∷ 0 ∷ 0 ∷ 0 ∷ 0 ∷ []) 2 ≡ found ZeroOffset 2 1

-- the prefix before the identifier, and this before the root offset
pub record StartTests : Type 0 where
  pub prefix_too_short : start_failure published_checks (4 ∷ 0 ∷ 0 ∷ []) Prefixed wanted ≡ found OutOfBuffer 0 0
  pub prefix_first : start_failure published_checks (9 ∷ 0 ∷ 0 ∷ 0 ∷ 0 ∷ 0 ∷ 0 ∷ 0 ∷ []) Prefixed wanted ≡ found WrongPrefix 0 1
  pub identifier_before_the_offset : start_failure published_checks (0 ∷ 0 ∷ 0 ∷ 0 ∷ []) Bare wanted ≡ found OutOfBuffer 4 0
  pub identifier_behind_a_prefix : start_failure published_checks (8 ∷ 0 ∷ 0 ∷ 0 ∷ 0 ∷ 0 ∷ 0 ∷ 0 ∷ 66 ∷ 70 ∷ 66 ∷ 84 ∷ []) Prefixed wanted ≡ found WrongIdentifier 8 2
  pub offset_behind_both : start_failure published_checks (8 ∷ 0 ∷ 0 ∷ 0 ∷ 0 ∷ 0 ∷ 0 ∷ 0 ∷ 66 ∷ 70 ∷ 66 ∷ 83 ∷ []) Prefixed wanted ≡ found ZeroOffset 4 3
  pub offset_alone : start_failure published_checks (0 ∷ 0 ∷ 0 ∷ 0 ∷ []) Bare Any ≡ found ZeroOffset 0 1
  pub good : start_failure published_checks (8 ∷ 0 ∷ 0 ∷ 0 ∷ 4 ∷ 0 ∷ 0 ∷ 0 ∷ 66 ∷ 70 ∷ 66 ∷ 83 ∷ []) Prefixed wanted ≡ None

-- the head of a table: its signed word, and its vtable
pub record HeadTests : Type 0 where
  pub good : head_failure published_checks (4 ∷ 0 ∷ 4 ∷ 0 ∷ 4 ∷ 0 ∷ 0 ∷ 0 ∷ []) 4 ≡ None
  pub past_the_end : head_failure published_checks (4 ∷ 0 ∷ 4 ∷ 0 ∷ 4 ∷ 0 ∷ 0 ∷ []) 4 ≡ found OutOfBuffer 4 0
  pub past_the_end_and_misaligned : head_failure published_checks (4 ∷ 0 ∷ 4 ∷ 0 ∷ 4 ∷ 0 ∷ []) 3 ≡ found OutOfBuffer 3 0
  pub misaligned : head_failure published_checks (0 ∷ 0 ∷ 2 ∷ 0 ∷ 0 ∷ 0 ∷ []) 2 ≡ found Misaligned 2 0
  pub vtable_below_zero : head_failure published_checks (4 ∷ 0 ∷ 4 ∷ 0 ∷ 5 ∷ 0 ∷ 0 ∷ 0 ∷ []) 4 ≡ found OutOfBuffer 4 1
  pub vtable_at_the_end : head_failure published_checks (0 ∷ 0 ∷ 0 ∷ 0 ∷ 252 ∷ 255 ∷ 255 ∷ 255 ∷ []) 4 ≡ found OutOfBuffer 4 1
  pub vtable_with_one_byte : head_failure published_checks (0 ∷ 0 ∷ 0 ∷ 0 ∷ 252 ∷ 255 ∷ 255 ∷ 255 ∷ 4 ∷ []) 4 ≡ found OutOfBuffer 4 1
  pub vtable_past_the_end_and_misaligned : head_failure published_checks (0 ∷ 0 ∷ 0 ∷ 0 ∷ 251 ∷ 255 ∷ 255 ∷ 255 ∷ 0 ∷ 4 ∷ []) 4 ≡ found OutOfBuffer 4 1
  pub vtable_misaligned_and_odd : head_failure published_checks (0 ∷ 0 ∷ 0 ∷ 0 ∷ 251 ∷ 255 ∷ 255 ∷ 255 ∷ 0 ∷ 3 ∷ 0 ∷ []) 4 ≡ found Misaligned 9 1
  pub odd_size : head_failure published_checks (7 ∷ 0 ∷ 4 ∷ 0 ∷ 4 ∷ 0 ∷ 0 ∷ 0 ∷ []) 4 ≡ found BadVtable 0 2
  pub odd_size_past_the_end : head_failure published_checks (9 ∷ 0 ∷ 4 ∷ 0 ∷ 4 ∷ 0 ∷ 0 ∷ 0 ∷ []) 4 ≡ found BadVtable 0 2
  pub small_size : head_failure published_checks (2 ∷ 0 ∷ 4 ∷ 0 ∷ 4 ∷ 0 ∷ 0 ∷ 0 ∷ []) 4 ≡ found BadVtable 0 2
  pub no_size : head_failure published_checks (0 ∷ 0 ∷ 4 ∷ 0 ∷ 4 ∷ 0 ∷ 0 ∷ 0 ∷ []) 4 ≡ found BadVtable 0 2
  pub size_to_the_end : head_failure published_checks (8 ∷ 0 ∷ 4 ∷ 0 ∷ 4 ∷ 0 ∷ 0 ∷ 0 ∷ []) 4 ≡ None
  pub size_past_the_end : head_failure published_checks (10 ∷ 0 ∷ 4 ∷ 0 ∷ 4 ∷ 0 ∷ 0 ∷ 0 ∷ []) 4 ≡ found OutOfBuffer 0 2
  pub misaligned_unchecked : head_failure unaligned (9 ∷ 4 ∷ 0 ∷ 4 ∷ 0 ∷ 4 ∷ 0 ∷ 0 ∷ 0 ∷ []) 5 ≡ None

-- a string: its count, its bytes, and a byte 0
pub record StringTests : Type 0 where
  pub good : string_failure published_checks (2 ∷ 0 ∷ 0 ∷ 0 ∷ 104 ∷ 105 ∷ 0 ∷ []) 0 ≡ None
  pub empty : string_failure published_checks (0 ∷ 0 ∷ 0 ∷ 0 ∷ 0 ∷ []) 0 ≡ None
  pub past_the_end : string_failure published_checks (2 ∷ 0 ∷ 0 ∷ []) 0 ≡ found OutOfBuffer 0 0
  pub past_the_end_and_misaligned : string_failure published_checks (0 ∷ 0 ∷ 0 ∷ 0 ∷ 0 ∷ []) 2 ≡ found OutOfBuffer 2 0
  pub misaligned : string_failure published_checks (0 ∷ 0 ∷ 9 ∷ 0 ∷ 0 ∷ 0 ∷ []) 2 ≡ found Misaligned 2 0
  pub no_room_for_the_terminator : string_failure published_checks (2 ∷ 0 ∷ 0 ∷ 0 ∷ 104 ∷ 105 ∷ []) 0 ≡ found OutOfBuffer 4 1
  pub no_room_in_an_empty_one : string_failure published_checks (0 ∷ 0 ∷ 0 ∷ 0 ∷ []) 0 ≡ found OutOfBuffer 4 1
  pub longest : string_failure published_checks (255 ∷ 255 ∷ 255 ∷ 255 ∷ 0 ∷ []) 0 ≡ found OutOfBuffer 4 1
  pub no_terminator : string_failure published_checks (2 ∷ 0 ∷ 0 ∷ 0 ∷ 104 ∷ 105 ∷ 1 ∷ []) 0 ≡ found NoTerminator 6 2
  pub no_terminator_of_an_empty_one : string_failure published_checks (0 ∷ 0 ∷ 0 ∷ 0 ∷ 0 ∷ 0 ∷ 0 ∷ 0 ∷ 1 ∷ []) 4 ≡ found NoTerminator 8 2

-- a vector: its count, and its elements
pub record VectorTests : Type 0 where
  pub good : vector_failure published_checks (2 ∷ 0 ∷ 0 ∷ 0 ∷ 1 ∷ 0 ∷ 2 ∷ 0 ∷ []) 0 2 2 ≡ None
  pub empty : vector_failure published_checks (0 ∷ 0 ∷ 0 ∷ 0 ∷ []) 0 8 8 ≡ None
  pub past_the_end : vector_failure published_checks (2 ∷ 0 ∷ 0 ∷ []) 0 1 1 ≡ found OutOfBuffer 0 0
  pub past_the_end_and_misaligned : vector_failure published_checks (0 ∷ 0 ∷ 0 ∷ 0 ∷ 0 ∷ []) 2 1 1 ≡ found OutOfBuffer 2 0
  pub misaligned : vector_failure published_checks (0 ∷ 0 ∷ 9 ∷ 0 ∷ 0 ∷ 0 ∷ []) 2 1 1 ≡ found Misaligned 2 0
  pub elements_past_the_end : vector_failure published_checks (3 ∷ 0 ∷ 0 ∷ 0 ∷ 1 ∷ 0 ∷ 2 ∷ 0 ∷ 3 ∷ []) 0 2 2 ≡ found OutOfBuffer 4 1
  pub longest : vector_failure published_checks (255 ∷ 255 ∷ 255 ∷ 255 ∷ 0 ∷ []) 0 8 8 ≡ found OutOfBuffer 4 1
  pub elements_misaligned : vector_failure published_checks (1 ∷ 0 ∷ 0 ∷ 0 ∷ 0 ∷ 0 ∷ 0 ∷ 0 ∷ 0 ∷ 0 ∷ 0 ∷ 0 ∷ []) 0 8 8 ≡ found Misaligned 4 1
  pub elements_past_the_end_and_misaligned : vector_failure published_checks (1 ∷ 0 ∷ 0 ∷ 0 ∷ 0 ∷ 0 ∷ 0 ∷ 0 ∷ 0 ∷ 0 ∷ 0 ∷ []) 0 8 8 ≡ found OutOfBuffer 4 1
  pub elements_aligned : vector_failure published_checks (0 ∷ 0 ∷ 0 ∷ 0 ∷ 1 ∷ 0 ∷ 0 ∷ 0 ∷ 0 ∷ 0 ∷ 0 ∷ 0 ∷ 0 ∷ 0 ∷ 0 ∷ 0 ∷ []) 4 8 8 ≡ None
  pub elements_aligned_below_their_size : vector_failure published_checks (1 ∷ 0 ∷ 0 ∷ 0 ∷ 0 ∷ 0 ∷ 0 ∷ 0 ∷ 0 ∷ 0 ∷ 0 ∷ 0 ∷ 0 ∷ 0 ∷ 0 ∷ 0 ∷ []) 0 12 4 ≡ None
  pub misaligned_unchecked : vector_failure unaligned (0 ∷ 0 ∷ 1 ∷ 0 ∷ 0 ∷ 0 ∷ 0 ∷ 0 ∷ 0 ∷ 0 ∷ 0 ∷ 0 ∷ 0 ∷ 0 ∷ []) 2 8 8 ≡ None

-- a scalar or struct that stands in place
pub record InlineTests : Type 0 where
  pub good : inline_failure published_checks (0 ∷ 0 ∷ 0 ∷ 0 ∷ []) 2 2 2 ≡ None
  pub past_the_end_and_misaligned : inline_failure published_checks (0 ∷ 0 ∷ 0 ∷ 0 ∷ []) 3 2 2 ≡ found OutOfBuffer 3 0
  pub misaligned : inline_failure published_checks (0 ∷ 0 ∷ 0 ∷ 0 ∷ []) 1 2 2 ≡ found Misaligned 1 0
  pub aligned_below_its_size : inline_failure published_checks (0 ∷ 0 ∷ 0 ∷ 0 ∷ 0 ∷ 0 ∷ 0 ∷ 0 ∷ 0 ∷ 0 ∷ 0 ∷ 0 ∷ 0 ∷ 0 ∷ 0 ∷ 0 ∷ []) 4 12 4 ≡ None
  pub aligned_to_eight : inline_failure published_checks (0 ∷ 0 ∷ 0 ∷ 0 ∷ 0 ∷ 0 ∷ 0 ∷ 0 ∷ 0 ∷ 0 ∷ 0 ∷ 0 ∷ 0 ∷ 0 ∷ 0 ∷ 0 ∷ []) 4 8 8 ≡ found Misaligned 4 0
  pub misaligned_unchecked : inline_failure unaligned (0 ∷ 0 ∷ 0 ∷ 0 ∷ []) 1 2 2 ≡ None

-- a scalar, struct, text or table by itself: whether it may be absent, and where it ends
pub record FieldTests : Type 0 where
  pub absent : own strict (a_table 4 0 0 []) (a_field Text 4 4 4) ≡ None
  pub without_a_slot : own strict (a_table 4 4 0 []) (a_field Text 8 4 4) ≡ None
  pub required_and_absent : own strict (a_table 4 0 0 []) (record (a_field Text 4 4 4) { required = true }) ≡ found MissingRequired 8 1
  pub required_without_a_slot : own strict (a_table 4 4 0 []) (record (a_field Text 8 4 4) { required = true }) ≡ found MissingRequired 8 0
  pub required_and_present : own strict (a_table 8 4 0 (0 ∷ 0 ∷ 0 ∷ 0 ∷ [])) (record (a_field Text 4 4 4) { required = true }) ≡ None
  pub a_scalar : own strict (a_table 8 4 0 (7 ∷ 0 ∷ 0 ∷ 0 ∷ [])) (a_field (Scalar Int) 4 4 4) ≡ None
  pub a_scalar_past_the_table : own strict (a_table 7 4 0 (7 ∷ 0 ∷ 0 ∷ 0 ∷ [])) (a_field (Scalar Int) 4 4 4) ≡ found PastTable 12 1
  pub a_scalar_past_the_table_unchecked : own published_checks (a_table 7 4 0 (7 ∷ 0 ∷ 0 ∷ 0 ∷ [])) (a_field (Scalar Int) 4 4 4) ≡ None
  pub a_scalar_past_the_table_and_the_buffer : own strict (a_table 7 4 0 (7 ∷ 0 ∷ 0 ∷ [])) (a_field (Scalar Int) 4 4 4) ≡ found PastTable 12 1
  pub a_scalar_past_the_buffer : own strict (a_table 8 4 0 (7 ∷ 0 ∷ 0 ∷ [])) (a_field (Scalar Int) 4 4 4) ≡ found OutOfBuffer 12 1
  pub a_scalar_misaligned : own strict (a_table 12 6 0 (0 ∷ 0 ∷ 0 ∷ 0 ∷ 0 ∷ 0 ∷ 0 ∷ 0 ∷ [])) (a_field (Scalar Int) 4 4 4) ≡ found Misaligned 14 1
  pub a_scalar_in_the_second_slot : own strict (a_table 8 0 4 (7 ∷ 0 ∷ 0 ∷ [])) (a_field (Scalar Int) 6 4 4) ≡ found OutOfBuffer 12 1
  pub a_struct : own strict (a_table 16 4 0 (0 ∷ 0 ∷ 0 ∷ 0 ∷ 0 ∷ 0 ∷ 0 ∷ 0 ∷ 0 ∷ 0 ∷ 0 ∷ 0 ∷ [])) (a_field (Struct 1) 4 12 4) ≡ None
  pub a_struct_past_the_table : own strict (a_table 15 4 0 (0 ∷ 0 ∷ 0 ∷ 0 ∷ 0 ∷ 0 ∷ 0 ∷ 0 ∷ 0 ∷ 0 ∷ 0 ∷ 0 ∷ [])) (a_field (Struct 1) 4 12 4) ≡ found PastTable 12 1
  pub a_struct_past_the_buffer : own strict (a_table 16 4 0 (0 ∷ 0 ∷ 0 ∷ 0 ∷ 0 ∷ 0 ∷ 0 ∷ 0 ∷ 0 ∷ 0 ∷ 0 ∷ [])) (a_field (Struct 1) 4 12 4) ≡ found OutOfBuffer 12 1
  pub a_struct_misaligned : own strict (a_table 16 4 0 (0 ∷ 0 ∷ 0 ∷ 0 ∷ 0 ∷ 0 ∷ 0 ∷ 0 ∷ 0 ∷ 0 ∷ 0 ∷ 0 ∷ [])) (a_field (Struct 1) 4 12 8) ≡ found Misaligned 12 1
  pub a_text_past_the_table : own strict (a_table 7 4 0 (0 ∷ 0 ∷ 0 ∷ 0 ∷ [])) (a_field Text 4 4 4) ≡ found PastTable 12 1
  pub a_text_whose_offset_is_asked_later : own strict (a_table 8 4 0 []) (a_field Text 4 4 4) ≡ None
  pub a_table_past_the_table : own strict (a_table 7 4 0 (0 ∷ 0 ∷ 0 ∷ 0 ∷ [])) (a_field (Table 0) 4 4 4) ≡ found PastTable 12 1
  pub a_table_whose_offset_is_asked_later : own strict (a_table 8 4 0 []) (a_field (Table 0) 4 4 4) ≡ None

-- a union by itself, whose type stands in the slot before
pub record UnionTests : Type 0 where
  pub a_member : own strict (a_table 12 4 8 (1 ∷ 0 ∷ 0 ∷ 0 ∷ 0 ∷ 0 ∷ 0 ∷ 0 ∷ [])) (a_field (Union 0) 6 4 4) ≡ None
  pub a_member_past_the_table : own strict (a_table 11 4 8 (1 ∷ 0 ∷ 0 ∷ 0 ∷ 0 ∷ 0 ∷ 0 ∷ 0 ∷ [])) (a_field (Union 0) 6 4 4) ≡ found PastTable 16 3
  pub of_no_member : own strict (a_table 11 4 8 (9 ∷ 0 ∷ 0 ∷ 0 ∷ 0 ∷ 0 ∷ 0 ∷ 0 ∷ [])) (a_field (Union 0) 6 4 4) ≡ None
  pub without_a_type : own strict (a_table 11 0 8 (1 ∷ 0 ∷ 0 ∷ 0 ∷ 0 ∷ 0 ∷ 0 ∷ 0 ∷ [])) (a_field (Union 0) 6 4 4) ≡ None

-- a vector by itself: where its uoffset ends, this word, and the vector
pub record VectorFieldTests : Type 0 where
  pub good : own strict (a_table 8 4 0 (4 ∷ 0 ∷ 0 ∷ 0 ∷ 1 ∷ 0 ∷ 0 ∷ 0 ∷ 9 ∷ 0 ∷ [])) (a_field (Scalars Short) 4 2 2) ≡ None
  pub past_the_table : own strict (a_table 7 4 0 (0 ∷ 0 ∷ 0 ∷ 0 ∷ [])) (a_field (Scalars Short) 4 2 2) ≡ found PastTable 12 1
  pub offset_past_the_end : own strict (a_table 8 4 0 (4 ∷ 0 ∷ 0 ∷ [])) (a_field (Scalars Short) 4 2 2) ≡ found OutOfBuffer 12 1
  pub offset_misaligned : own strict (a_table 12 6 0 (0 ∷ 0 ∷ 0 ∷ 0 ∷ 0 ∷ 0 ∷ 0 ∷ 0 ∷ [])) (a_field (Scalars Short) 4 2 2) ≡ found Misaligned 14 1
  pub offset_zero : own strict (a_table 8 4 0 (0 ∷ 0 ∷ 0 ∷ 0 ∷ [])) (a_field (Scalars Short) 4 2 2) ≡ found ZeroOffset 12 2
  pub count_past_the_end : own strict (a_table 8 4 0 (4 ∷ 0 ∷ 0 ∷ 0 ∷ [])) (a_field (Scalars Short) 4 2 2) ≡ found OutOfBuffer 16 2
  pub count_misaligned : own strict (a_table 8 4 0 (6 ∷ 0 ∷ 0 ∷ 0 ∷ 0 ∷ 0 ∷ 0 ∷ 0 ∷ 0 ∷ 0 ∷ [])) (a_field (Scalars Short) 4 2 2) ≡ found Misaligned 18 2
  pub scalars_past_the_end : own strict (a_table 8 4 0 (4 ∷ 0 ∷ 0 ∷ 0 ∷ 1 ∷ 0 ∷ 0 ∷ 0 ∷ 9 ∷ [])) (a_field (Scalars Short) 4 2 2) ≡ found OutOfBuffer 20 3
  pub scalars_misaligned : own strict (a_table 8 4 0 (4 ∷ 0 ∷ 0 ∷ 0 ∷ 1 ∷ 0 ∷ 0 ∷ 0 ∷ 0 ∷ 0 ∷ 0 ∷ 0 ∷ 0 ∷ 0 ∷ 0 ∷ 0 ∷ [])) (a_field (Scalars Long) 4 8 8) ≡ found Misaligned 20 3
  pub structs_past_the_end : own strict (a_table 8 4 0 (4 ∷ 0 ∷ 0 ∷ 0 ∷ 1 ∷ 0 ∷ 0 ∷ 0 ∷ 0 ∷ 0 ∷ 0 ∷ 0 ∷ 0 ∷ 0 ∷ 0 ∷ 0 ∷ 0 ∷ 0 ∷ 0 ∷ [])) (a_field (Structs 1) 4 12 4) ≡ found OutOfBuffer 20 3
  pub structs_misaligned : own strict (a_table 8 4 0 (4 ∷ 0 ∷ 0 ∷ 0 ∷ 1 ∷ 0 ∷ 0 ∷ 0 ∷ 0 ∷ 0 ∷ 0 ∷ 0 ∷ 0 ∷ 0 ∷ 0 ∷ 0 ∷ 0 ∷ 0 ∷ 0 ∷ 0 ∷ [])) (a_field (Structs 1) 4 12 8) ≡ found Misaligned 20 3
  pub texts_past_the_end : own strict (a_table 8 4 0 (4 ∷ 0 ∷ 0 ∷ 0 ∷ 1 ∷ 0 ∷ 0 ∷ 0 ∷ 9 ∷ 0 ∷ 0 ∷ [])) (a_field Texts 4 4 4) ≡ found OutOfBuffer 20 3
  pub tables_past_the_end : own strict (a_table 8 4 0 (4 ∷ 0 ∷ 0 ∷ 0 ∷ 1 ∷ 0 ∷ 0 ∷ 0 ∷ 9 ∷ 0 ∷ 0 ∷ [])) (a_field (Tables 0) 4 4 4) ≡ found OutOfBuffer 20 3
  pub tables_past_the_table : own strict (a_table 7 4 0 (0 ∷ 0 ∷ 0 ∷ 0 ∷ [])) (a_field (Tables 0) 4 4 4) ≡ found PastTable 12 1

-- a vector of unions by itself, and the count of its types
pub record UnionsFieldTests : Type 0 where
  pub good : own strict (a_table 12 4 8 (8 ∷ 0 ∷ 0 ∷ 0 ∷ 12 ∷ 0 ∷ 0 ∷ 0 ∷ 2 ∷ 0 ∷ 0 ∷ 0 ∷ 1 ∷ 1 ∷ 0 ∷ 0 ∷ 2 ∷ 0 ∷ 0 ∷ 0 ∷ 0 ∷ 0 ∷ 0 ∷ 0 ∷ 0 ∷ 0 ∷ 0 ∷ 0 ∷ [])) (a_field (Unions 0) 6 4 4) ≡ None
  pub more_values : own strict (a_table 12 4 8 (8 ∷ 0 ∷ 0 ∷ 0 ∷ 12 ∷ 0 ∷ 0 ∷ 0 ∷ 2 ∷ 0 ∷ 0 ∷ 0 ∷ 1 ∷ 1 ∷ 0 ∷ 0 ∷ 3 ∷ 0 ∷ 0 ∷ 0 ∷ 0 ∷ 0 ∷ 0 ∷ 0 ∷ 0 ∷ 0 ∷ 0 ∷ 0 ∷ 0 ∷ 0 ∷ 0 ∷ 0 ∷ [])) (a_field (Unions 0) 6 4 4) ≡ found LengthsDiffer 28 6
  pub fewer_values : own strict (a_table 12 4 8 (8 ∷ 0 ∷ 0 ∷ 0 ∷ 12 ∷ 0 ∷ 0 ∷ 0 ∷ 2 ∷ 0 ∷ 0 ∷ 0 ∷ 1 ∷ 1 ∷ 0 ∷ 0 ∷ 1 ∷ 0 ∷ 0 ∷ 0 ∷ 0 ∷ 0 ∷ 0 ∷ 0 ∷ [])) (a_field (Unions 0) 6 4 4) ≡ found LengthsDiffer 28 6
  pub more_values_past_the_end : own strict (a_table 12 4 8 (8 ∷ 0 ∷ 0 ∷ 0 ∷ 12 ∷ 0 ∷ 0 ∷ 0 ∷ 2 ∷ 0 ∷ 0 ∷ 0 ∷ 1 ∷ 1 ∷ 0 ∷ 0 ∷ 3 ∷ 0 ∷ 0 ∷ 0 ∷ 0 ∷ 0 ∷ 0 ∷ 0 ∷ 0 ∷ 0 ∷ 0 ∷ 0 ∷ [])) (a_field (Unions 0) 6 4 4) ≡ found OutOfBuffer 32 6
  pub values_without_types : own strict (a_table 12 0 8 (8 ∷ 0 ∷ 0 ∷ 0 ∷ 12 ∷ 0 ∷ 0 ∷ 0 ∷ 2 ∷ 0 ∷ 0 ∷ 0 ∷ 1 ∷ 1 ∷ 0 ∷ 0 ∷ 2 ∷ 0 ∷ 0 ∷ 0 ∷ 0 ∷ 0 ∷ 0 ∷ 0 ∷ 0 ∷ 0 ∷ 0 ∷ 0 ∷ [])) (a_field (Unions 0) 6 4 4) ≡ found LengthsDiffer 28 4
  pub neither : own strict (a_table 12 0 8 (8 ∷ 0 ∷ 0 ∷ 0 ∷ 12 ∷ 0 ∷ 0 ∷ 0 ∷ 2 ∷ 0 ∷ 0 ∷ 0 ∷ 1 ∷ 1 ∷ 0 ∷ 0 ∷ 0 ∷ 0 ∷ 0 ∷ 0 ∷ [])) (a_field (Unions 0) 6 4 4) ≡ None
  pub past_the_table : own strict (a_table 11 4 8 (8 ∷ 0 ∷ 0 ∷ 0 ∷ 12 ∷ 0 ∷ 0 ∷ 0 ∷ 2 ∷ 0 ∷ 0 ∷ 0 ∷ 1 ∷ 1 ∷ 0 ∷ 0 ∷ 3 ∷ 0 ∷ 0 ∷ 0 ∷ 0 ∷ 0 ∷ 0 ∷ 0 ∷ 0 ∷ 0 ∷ 0 ∷ 0 ∷ 0 ∷ 0 ∷ 0 ∷ 0 ∷ [])) (a_field (Unions 0) 6 4 4) ≡ found PastTable 16 4

-- a uoffset, and the string or struct that it leads to; the reads that told its lead come first
pub record ElementTests : Type 0 where
  pub to_a_table : element_failure published_checks (4 ∷ 0 ∷ 0 ∷ 0 ∷ []) (entry (to_table 0) 0 0) ≡ None
  pub to_a_table_by_zero : element_failure published_checks (0 ∷ 0 ∷ 0 ∷ 0 ∷ []) (entry (to_table 0) 0 1) ≡ found ZeroOffset 0 2
  pub to_a_string : element_failure published_checks (4 ∷ 0 ∷ 0 ∷ 0 ∷ 1 ∷ 0 ∷ 0 ∷ 0 ∷ 104 ∷ 0 ∷ []) (entry to_string 0 0) ≡ None
  pub to_a_string_past_the_end : element_failure published_checks (4 ∷ 0 ∷ 0 ∷ []) (entry to_string 0 0) ≡ found OutOfBuffer 0 0
  pub to_a_string_without_a_terminator : element_failure published_checks (4 ∷ 0 ∷ 0 ∷ 0 ∷ 1 ∷ 0 ∷ 0 ∷ 0 ∷ 104 ∷ 1 ∷ []) (entry to_string 0 1) ≡ found NoTerminator 9 4
  pub to_a_struct : element_failure published_checks (8 ∷ 0 ∷ 0 ∷ 0 ∷ 0 ∷ 0 ∷ 0 ∷ 0 ∷ 0 ∷ 0 ∷ 0 ∷ 0 ∷ 0 ∷ 0 ∷ 0 ∷ 0 ∷ []) (entry (to_struct 8 8) 0 0) ≡ None
  pub to_a_struct_by_zero : element_failure published_checks (0 ∷ 0 ∷ 0 ∷ 0 ∷ 0 ∷ 0 ∷ 0 ∷ 0 ∷ 0 ∷ 0 ∷ 0 ∷ 0 ∷ []) (entry (to_struct 8 4) 0 0) ≡ found ZeroOffset 0 1
  pub to_a_struct_past_the_end : element_failure published_checks (8 ∷ 0 ∷ 0 ∷ 0 ∷ 0 ∷ 0 ∷ 0 ∷ 0 ∷ 0 ∷ 0 ∷ 0 ∷ 0 ∷ 0 ∷ 0 ∷ 0 ∷ []) (entry (to_struct 8 8) 0 0) ≡ found OutOfBuffer 8 1
  pub to_a_struct_misaligned : element_failure published_checks (4 ∷ 0 ∷ 0 ∷ 0 ∷ 0 ∷ 0 ∷ 0 ∷ 0 ∷ 0 ∷ 0 ∷ 0 ∷ 0 ∷ []) (entry (to_struct 8 8) 0 1) ≡ found Misaligned 4 2
  pub to_nothing : element_failure published_checks [] (entry to_nothing 3 1) ≡ None

-- the limits of tables before a head, and the budget of reads after a place; on the way 5 reads were counted, and
-- field 3 of object 7 is under check
pub record LimitTests : Type 0 where
  pub depth_before_tables : fault_at published_checks [] unions (limits 1 1 (Some 0)) (in_head 0 9) (a_way 1 1 5) ≡ Some (fault TooDeep 9 7 (Some 3) 5)
  pub tables_before_the_head : fault_at published_checks [] unions (limits 2 1 (Some 0)) (in_head 0 9) (a_way 1 1 5) ≡ Some (fault TooManyTables 9 7 (Some 3) 5)
  pub the_head_before_reads : fault_at published_checks [] unions (limits 2 2 (Some 0)) (in_head 0 9) (a_way 1 1 5) ≡ Some (fault OutOfBuffer 9 0 None 5)
  pub reads_of_a_head : fault_at published_checks (4 ∷ 0 ∷ 4 ∷ 0 ∷ 4 ∷ 0 ∷ 0 ∷ 0 ∷ []) unions (limits 2 2 (Some 6)) (in_head 0 4) (a_way 1 1 5) ≡ Some (fault TooManyReads 4 0 None 7)
  pub enough_reads_of_a_head : fault_at published_checks (4 ∷ 0 ∷ 4 ∷ 0 ∷ 4 ∷ 0 ∷ 0 ∷ 0 ∷ []) unions (limits 2 2 (Some 7)) (in_head 0 4) (a_way 1 1 5) ≡ None
  pub one_more_for_the_inline_size : fault_at strict (4 ∷ 0 ∷ 4 ∷ 0 ∷ 4 ∷ 0 ∷ 0 ∷ 0 ∷ []) unions (limits 2 2 (Some 7)) (in_head 0 4) (a_way 1 1 5) ≡ Some (fault TooManyReads 4 0 None 8)
  pub the_field_before_reads : fault_at published_checks (a_table 8 4 0 (7 ∷ 0 ∷ 0 ∷ [])) unions (limits 9 9 (Some 5)) (in_field 8 (a_field (Scalar Int) 4 4 4)) (a_way 1 1 5)
      ≡ Some (fault OutOfBuffer 12 7 (Some 3) 6)
  pub reads_of_a_field : fault_at published_checks (a_table 8 4 0 (7 ∷ 0 ∷ 0 ∷ 0 ∷ [])) unions (limits 9 9 (Some 5)) (in_field 8 (a_field (Scalar Int) 4 4 4)) (a_way 1 1 5)
      ≡ Some (fault TooManyReads 8 7 (Some 3) 6)
  pub enough_reads_of_a_field : fault_at published_checks (a_table 8 4 0 (7 ∷ 0 ∷ 0 ∷ 0 ∷ [])) unions (limits 9 9 (Some 6)) (in_field 8 (a_field (Scalar Int) 4 4 4)) (a_way 1 1 5) ≡ None
  pub the_element_before_reads : fault_at published_checks (4 ∷ 0 ∷ 0 ∷ 0 ∷ 1 ∷ 0 ∷ 0 ∷ 0 ∷ 104 ∷ 1 ∷ []) unions (limits 9 9 (Some 7)) (in_element (entry to_string 0 0)) (a_way 1 1 5) ≡ Some (fault NoTerminator 9 7 (Some 3) 8)
  pub reads_of_an_element : fault_at published_checks (4 ∷ 0 ∷ 0 ∷ 0 ∷ 1 ∷ 0 ∷ 0 ∷ 0 ∷ 104 ∷ 0 ∷ []) unions (limits 9 9 (Some 7)) (in_element (entry to_string 0 0)) (a_way 1 1 5) ≡ Some (fault TooManyReads 0 7 (Some 3) 8)
  pub reads_of_a_type : fault_at published_checks [] unions (limits 9 9 (Some 5)) (in_element (entry to_nothing 3 1)) (a_way 1 1 5) ≡ Some (fault TooManyReads 3 7 (Some 3) 6)
  pub an_element_that_leads_to_a_table : fault_at published_checks (4 ∷ 0 ∷ 0 ∷ 0 ∷ []) unions (limits 9 9 (Some 0)) (in_element (entry (to_table 0) 0 1)) (a_way 1 1 5) ≡ None
  pub reads_of_a_start : fault_at published_checks (8 ∷ 0 ∷ 0 ∷ 0 ∷ 4 ∷ 0 ∷ 0 ∷ 0 ∷ 66 ∷ 70 ∷ 66 ∷ 83 ∷ []) unions (limits 9 9 (Some 2)) (in_start Prefixed wanted) (a_way 0 0 0) ≡ Some (fault TooManyReads 4 7 (Some 3) 3)
