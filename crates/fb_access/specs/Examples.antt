-- Examples of what paths denote in a buffer.
use Rattle.std.specs.Prelude.{◌≡◌, pos, negsuc, true, false, List, [], ◌∷◌, codes, None}
use Rattle.fb_rules.specs.{declared.start.Start.TheVariants.Bare, declared.start.Start.TheVariants.Prefixed, Tree.Tree, Tree.node, Tree.Kids, Tree.no_elements, Tree.element}
use Rattle.fb_rules.specs.{Tree.leaf, Tree.table as a_table, Samples.monsters, Samples.monster, Samples.open_name, Examples.Counts, Examples.one_table, Examples.one_leaf}
use Rattle.fb_rules.specs.Examples.{kids_of}
use Rattle.fb_access.specs.declared.{step.Step.Step, step.Step.TheVariants.Field, step.Step.TheVariants.Element, step.Step.TheVariants.Member, spot.Spot.TheVariants.AtTable}
use Rattle.fb_access.specs.{declared.spot.Spot.TheVariants.AtStruct, declared.spot.Spot.TheVariants.AtText, declared.spot.Spot.TheVariants.AtUnion, Denotes.next_spot}
use Rattle.fb_access.specs.Denotes.{Shown, nothing, no_element, other_member, truth, signed, unsigned, float, default_float, default_double, text, structure, vector, table, union}
use Rattle.fb_access.specs.{Denotes.Denotes, Denotes.nearest_single, Inside.LiesInside, Samples.rows, Samples.bytes, Samples.prefixed_monster}

-- in the sample these steps from the root table lead to this value
pub record Holds (steps : List Step) (x : Shown) : Type 0 where
  pub denotes : Denotes bytes rows Bare 0 steps x

-- the fields of the root table, of each kind
pub record FieldValues : Type 0 where
  pub a_scalar : Holds (Field 0 ∷ []) (signed (negsuc 299))
  pub a_text : Holds (Field 1 ∷ []) (text (codes "Ada"))
  pub a_struct : Holds (Field 2 ∷ []) (structure (1 ∷ 2 ∷ 3 ∷ 4 ∷ 5 ∷ 6 ∷ 7 ∷ 8 ∷ 9 ∷ 10 ∷ 11 ∷ 12 ∷ []))
  pub a_table : Holds (Field 3 ∷ []) table
  pub the_type_of_a_union : Holds (Field 4 ∷ []) (unsigned 2)
  pub a_union : Holds (Field 5 ∷ []) (union 2)
  pub scalars : Holds (Field 6 ∷ []) (vector 3)
  pub structs : Holds (Field 7 ∷ []) (vector 2)
  pub texts : Holds (Field 8 ∷ []) (vector 2)
  pub tables : Holds (Field 9 ∷ []) (vector 2)
  pub the_types_of_unions : Holds (Field 10 ∷ []) (vector 4)
  pub unions : Holds (Field 11 ∷ []) (vector 4)
  pub behind_a_deprecated_field : Holds (Field 13 ∷ []) (vector 2)

-- elements of its vectors, most of them past the first
pub record ElementValues : Type 0 where
  pub a_short : Holds (Field 6 ∷ Element 1 ∷ []) (signed (negsuc 1))
  pub the_last_short : Holds (Field 6 ∷ Element 2 ∷ []) (signed (pos 7))
  pub past_the_last : Holds (Field 6 ∷ Element 3 ∷ []) no_element
  pub a_long : Holds (Field 13 ∷ Element 1 ∷ []) (signed (negsuc 9))
  pub a_struct : Holds (Field 7 ∷ Element 1 ∷ []) (structure (61 ∷ 62 ∷ 63 ∷ 64 ∷ 65 ∷ 66 ∷ 67 ∷ 68 ∷ 69 ∷ 70 ∷ 71 ∷ 72 ∷ []))
  pub an_empty_text : Holds (Field 8 ∷ Element 0 ∷ []) (text [])
  pub a_text : Holds (Field 8 ∷ Element 1 ∷ []) (text (codes "Bo"))
  pub a_table : Holds (Field 9 ∷ Element 1 ∷ []) table
  pub no_table : Holds (Field 9 ∷ Element 2 ∷ []) no_element
  pub a_type : Holds (Field 10 ∷ Element 2 ∷ []) (unsigned 1)
  pub a_union : Holds (Field 11 ∷ Element 2 ∷ []) (union 1)
  pub a_union_of_an_unknown_type : Holds (Field 11 ∷ Element 1 ∷ []) (union 9)

-- fields of its structs, and of the array in them
pub record PartValues : Type 0 where
  pub a_scalar : Holds (Field 2 ∷ Field 1 ∷ []) (signed (pos 134678021))
  pub an_array : Holds (Field 2 ∷ Field 2 ∷ []) (vector 4)
  pub of_an_array : Holds (Field 2 ∷ Field 2 ∷ Element 3 ∷ []) (unsigned 12)
  pub past_an_array : Holds (Field 2 ∷ Field 2 ∷ Element 4 ∷ []) no_element
  pub of_an_element : Holds (Field 7 ∷ Element 1 ∷ Field 0 ∷ []) (signed (pos 1077886525))
  pub of_a_member : Holds (Field 5 ∷ Member 2 ∷ Field 2 ∷ Element 0 ∷ []) (unsigned 29)
  pub no_such_field : next_spot bytes rows (AtStruct 1 0) (Field 3) ≡ None

-- members of its unions
pub record MemberValues : Type 0 where
  pub a_struct : Holds (Field 5 ∷ Member 2 ∷ []) (structure (21 ∷ 22 ∷ 23 ∷ 24 ∷ 25 ∷ 26 ∷ 27 ∷ 28 ∷ 29 ∷ 30 ∷ 31 ∷ 32 ∷ []))
  pub another_type : Holds (Field 5 ∷ Member 1 ∷ []) other_member
  pub a_text_of_a_vector : Holds (Field 11 ∷ Element 0 ∷ Member 3 ∷ []) (text (codes "Ada"))
  pub a_table_of_a_vector : Holds (Field 11 ∷ Element 2 ∷ Member 1 ∷ Field 4 ∷ []) (unsigned 65244)
  pub a_struct_of_a_vector : Holds (Field 11 ∷ Element 3 ∷ Member 2 ∷ []) (structure (81 ∷ 82 ∷ 83 ∷ 84 ∷ 85 ∷ 86 ∷ 87 ∷ 88 ∷ 89 ∷ 90 ∷ 91 ∷ 92 ∷ []))
  pub an_unknown_type : Holds (Field 11 ∷ Element 1 ∷ Member 3 ∷ []) other_member

-- the scalars of a table that has all of them
pub record ScalarValues : Type 0 where
  pub flag : Holds (Field 3 ∷ Field 0 ∷ []) (truth true)
  pub byte : Holds (Field 3 ∷ Field 1 ∷ []) (signed (negsuc 1))
  pub ubyte : Holds (Field 3 ∷ Field 2 ∷ []) (unsigned 254)
  pub short : Holds (Field 3 ∷ Field 3 ∷ []) (signed (negsuc 291))
  pub ushort : Holds (Field 3 ∷ Field 4 ∷ []) (unsigned 65244)
  pub int : Holds (Field 3 ∷ Field 5 ∷ []) (signed (negsuc 19088743))
  pub uint : Holds (Field 3 ∷ Field 6 ∷ []) (unsigned 4275878552)
  pub long : Holds (Field 3 ∷ Field 7 ∷ []) (signed (negsuc 81985529216486895))
  pub ulong : Holds (Field 3 ∷ Field 8 ∷ []) (unsigned 18364758544493064720)
  pub float_bytes : Holds (Field 3 ∷ Field 9 ∷ []) (float (0 ∷ 0 ∷ 192 ∷ 191 ∷ []))
  pub double_bytes : Holds (Field 3 ∷ Field 10 ∷ []) (float (0 ∷ 0 ∷ 0 ∷ 0 ∷ 0 ∷ 0 ∷ 6 ∷ 192 ∷ []))

-- the scalars of a table that has none: defaults by their lowest bytes, or by their bits, but for optional scalars
pub record DefaultValues : Type 0 where
  pub flag : Holds (Field 9 ∷ Element 1 ∷ Field 0 ∷ []) (truth false)
  pub byte : Holds (Field 9 ∷ Element 1 ∷ Field 1 ∷ []) (signed (negsuc 0))
  pub ubyte : Holds (Field 9 ∷ Element 1 ∷ Field 2 ∷ []) (unsigned 255)
  pub short : Holds (Field 9 ∷ Element 1 ∷ Field 3 ∷ []) (signed (negsuc 25535))
  pub ushort : Holds (Field 9 ∷ Element 1 ∷ Field 4 ∷ []) (unsigned 65535)
  pub optional_int : Holds (Field 9 ∷ Element 1 ∷ Field 5 ∷ []) nothing
  pub uint : Holds (Field 9 ∷ Element 1 ∷ Field 6 ∷ []) (unsigned 4294967295)
  pub long : Holds (Field 9 ∷ Element 1 ∷ Field 7 ∷ []) (signed (negsuc 0))
  pub ulong : Holds (Field 9 ∷ Element 1 ∷ Field 8 ∷ []) (unsigned 18446744073709551615)
  pub float_bits : Holds (Field 9 ∷ Element 1 ∷ Field 9 ∷ []) (default_float 0x3dcccccd)
  pub double_bits : Holds (Field 9 ∷ Element 1 ∷ Field 10 ∷ []) (default_double 0x8000000000000000)

-- the single that is nearest to a double: 1.5, -0.0 and infinities are themselves, 0.1 is rounded, 1e300 is past the
-- last single, 1e-300 before the first, and of NaNs there is one
pub record NearestSingles : Type 0 where
  pub exact : nearest_single 0x3ff8000000000000 ≡ 0x3fc00000
  pub rounded : nearest_single 0x3fb999999999999a ≡ 0x3dcccccd
  pub negative_zero : nearest_single 0x8000000000000000 ≡ 0x80000000
  pub infinite : nearest_single 0x7ff0000000000000 ≡ 0x7f800000
  pub negative_infinite : nearest_single 0xfff0000000000000 ≡ 0xff800000
  pub too_large : nearest_single 0x7e37e43c8800759c ≡ 0x7f800000
  pub too_small : nearest_single 0x01a56e1fc2f8f359 ≡ 0
  pub no_number : nearest_single 0xfff8000000000001 ≡ 0x7fc00000

-- where nothing is, every step stays
pub record StayingValues : Type 0 where
  pub in_no_element : Holds (Field 9 ∷ Element 2 ∷ Field 0 ∷ []) no_element
  pub in_another_member : Holds (Field 5 ∷ Member 1 ∷ Field 0 ∷ []) other_member
  pub in_an_absent_field : Holds (Field 9 ∷ Element 1 ∷ Field 5 ∷ Element 0 ∷ []) nothing

-- no step leads to a deprecated field, or to one past the last
pub record LackingFields : Type 0 where
  pub deprecated : next_spot bytes rows (AtTable 0 36) (Field 12) ≡ None
  pub past_the_last : next_spot bytes rows (AtTable 0 36) (Field 14) ≡ None

-- behind a prefix the root offset stands at 4
pub record PrefixedValues : Type 0 where
  pub hit_points : Denotes prefixed_monster monsters Prefixed 0 (Field 0 ∷ []) (signed (pos 300))
  pub name : Denotes prefixed_monster monsters Prefixed 0 (Field 1 ∷ []) (text (codes "Orc"))

-- the tables A, with the scalars and without
abbrev pub none_below : Kids
none_below =
    kids_of (no_elements ∷ no_elements ∷ no_elements ∷ no_elements ∷ no_elements ∷ no_elements ∷ no_elements ∷ no_elements ∷ no_elements ∷ no_elements ∷ no_elements ∷ [])

abbrev pub scalars_tree : Tree
scalars_tree = node 2 288 none_below

abbrev pub empty_tree : Tree
empty_tree = node 2 340 none_below

-- what the fields of the root table lead to
abbrev pub root_kids : Kids
root_kids =
    kids_of (no_elements ∷ one_leaf ∷ no_elements ∷ one_table scalars_tree ∷ no_elements ∷ one_leaf ∷ no_elements ∷ no_elements ∷ element leaf one_leaf ∷ element (a_table scalars_tree)
    (one_table empty_tree) ∷ no_elements ∷ element leaf (element leaf (element (a_table scalars_tree) one_leaf)) ∷ no_elements ∷ [])

-- the sample is a good buffer
abbrev pub SampleUnfolds : Type 0
SampleUnfolds = Counts bytes rows 0 (node 0 36 root_kids) 5 2 98

-- a text lies in a buffer with the byte 0 behind it, and a union that leads to something with its uoffset
pub record InsideValues : Type 0 where
  pub a_text : LiesInside monster monsters (AtText 24)
  pub a_text_that_goes_on : LiesInside open_name monsters (AtText 24) → ⊥
  pub a_text_up_to_the_end : LiesInside (2 ∷ 0 ∷ 0 ∷ 0 ∷ 104 ∷ 105 ∷ []) rows (AtText 0) → ⊥
  pub an_empty_text : LiesInside (0 ∷ 0 ∷ 0 ∷ 0 ∷ 0 ∷ []) rows (AtText 0)
  pub a_union : LiesInside (9 ∷ 0 ∷ 0 ∷ 0 ∷ []) rows (AtUnion 0 2 0)
  pub a_union_past_the_end : LiesInside (9 ∷ 0 ∷ 0 ∷ []) rows (AtUnion 0 2 0) → ⊥
  pub a_union_of_an_unknown_type : LiesInside [] rows (AtUnion 0 9 0)
  pub a_union_without_a_value : LiesInside [] rows (AtUnion 0 0 0)
