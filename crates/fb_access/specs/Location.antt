-- Where a fault is, in words.
use Rattle.std.specs.Prelude.{ℕ, ◌-◌, ◌==◌, ◌||◌, nat_lt, if◌then◌else◌, List, [], ◌∷◌, ◌++◌, length, take, map, slice_get, Option, Some, None, option_map, option_and_then, codes, decimal}
use Rattle.fb_schema.specs.{Members.member_name, Rows.Rows, declared.kinds.Scalar.TheVariants.UByte}
use Rattle.fb_schema.specs.declared.kinds.Kind.{Kind, TheVariants.Table, TheVariants.Union, TheVariants.Scalars, TheVariants.Unions}
use Rattle.fb_rules.specs.declared.{fault.Fault.Fault, link.Link.Link}
use Rattle.fb_access.specs.{Fitting.numbered, Fitting.field_kind, Grammar.goes_on}

-- a byte of a name: a letter, a digit, `_` or `.` as it is, and `?` for any other
abbrev pub name_byte : ℕ → ℕ
name_byte c = if goes_on c || c == 46 then c else 63

-- a name as it is written
abbrev pub name_text : List ℕ → List ℕ
name_text name = map name_byte name

-- a name behind this text, where there is one
abbrev pub named : List ℕ → Option (List ℕ) → List ℕ
named before None = []
named before (Some name) = before ++ name_text name

-- the name of the live field of object k with this number
abbrev pub field_name : Rows → ℕ → ℕ → Option (List ℕ)
field_name S k n = option_map (λ f. f.name) (numbered S k n)

-- the name of the member with this value, of the union of this kind
abbrev pub member_of_kind : Rows → ℕ → Kind → Option (List ℕ)
member_of_kind S value (Union e) = member_name S e value
member_of_kind S value (Unions e) = member_name S e value
member_of_kind S value _ = None

-- the same of a link, whose field has the kind
abbrev pub link_member : Rows → Link → Option (List ℕ)
link_member S link = option_and_then (λ f. option_and_then (λ value. member_of_kind S value f.kind) link.member) (numbered S link.object link.field)

-- the number of an element
abbrev pub element_text : Option ℕ → List ℕ
element_text None = []
element_text (Some j) = codes "[" ++ decimal j ++ codes "]"

-- one link: a field, and the element and the member that it has of it
abbrev pub link_text : Rows → Link → List ℕ
link_text S link = named [] (field_name S link.object link.field) ++ element_text link.element ++ named (codes "@") (link_member S link)

-- what stands between a link, with this element and a field of this kind, and the next: `>` behind a whole vector of
-- ubyte, inside which the way goes on, and else a dot
abbrev pub mark_of : Option ℕ → Option Kind → List ℕ
mark_of None (Some (Scalars UByte)) = codes ">"
mark_of _ _ = codes "."

abbrev pub mark_behind : Rows → Link → List ℕ
mark_behind S link = mark_of link.element (field_kind S (Table link.object) link.field)

-- links with their marks between them, and a dot for the root table
abbrev pub path_text : Rows → List Link → List ℕ
path_text S [] = codes "."
path_text S (link ∷ []) = link_text S link
path_text S (link ∷ next ∷ links) = link_text S link ++ mark_behind S link ++ path_text S (next ∷ links)

-- the full name of an object, and behind a dot that of its field, where the fault has one
abbrev pub owner_text : Rows → Fault → List ℕ
owner_text S f = named [] (option_map (λ o. o.name) (slice_get S.objects f.object)) ++ named (codes ".") (option_and_then (field_name S f.object) f.field)

-- where the fault is to which these links lead
unfoldable pub whole_text : Rows → Fault → List Link → List ℕ
whole_text S f links = codes "in " ++ path_text S links ++ codes " [" ++ owner_text S f ++ codes "]"

-- a text of at most so many bytes whole, and of a longer one as many and `..`
abbrev pub cut_to : ℕ → List ℕ → List ℕ
cut_to most text = if nat_lt most (length text) then take most text ++ codes ".." else text

-- what is told of where the fault is
unfoldable pub location_text : Rows → Fault → List Link → List ℕ
location_text S f links = cut_to 4096 (whole_text S f links)

-- and of the path alone
unfoldable pub place_text : Rows → List Link → List ℕ
place_text S links = cut_to 4096 (path_text S links)

-- behind what was there, as much of a text as brings both to a byte more than is told
unfoldable pub filled : List ℕ → List ℕ → List ℕ
filled before text = before ++ take (4097 - length before) text
