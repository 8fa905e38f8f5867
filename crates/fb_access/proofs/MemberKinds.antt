-- A member of a union that has a name has a kind too.
use Rattle.std.proofs.Common.{arith, ◌≡◌, ℕ, suc, ℤ, pos, negsuc, Bool, true, false, not, ◌&&◌, List, [], slice_get, filter, Option, Some, None, option_map, unsigned_abs, IsTrue, refl, sym, ◌∙◌, ap, find, is_none, if◌then◌else◌}
use Rattle.std.proofs.lemmas.Bool.{false≢true, cond-true, and_parts, and_from}
use Rattle.std.specs.{Cmp.signed_Decides, Ordering.int_eq, Str.bytes_eq}
use Rattle.fb_schema.specs.declared.kinds.{Kind.Kind, Kind.TheVariants.Text, Kind.TheVariants.Struct, Kind.TheVariants.Table, Element.TheVariants.Text as OfText}
use Rattle.fb_schema.specs.{declared.kinds.Element.TheVariants.Object as OfObject, declared.kinds.Shape.Shape, declared.kinds.Shape.TheVariants.One, Demands.IsLegal}
use Rattle.fb_schema.specs.Demands.{first_code, member_demands, members_asked, demands_of_enum, demands_of_member, is_for_member, is_object, names_no_object}
use Rattle.fb_schema.specs.{Kinds.kind_of, Kinds.shape_of, Kinds.shape_kind, Kinds.object_kind, Members.is_member_value, Members.member_of, Members.member_named}
use Rattle.fb_schema.specs.{Members.members_in, Members.members_of, Rows.Rows, Rows.Object, Rows.Member, Rows.Enum, Rows.entry_at, Rows.is_union, Rows.is_some_union}
use Rattle.fb_schema.specs.Served.{MemberHolds}
use Rattle.fb_schema.proofs.{DemandLaws.clear_line, FindLemmas.find_filter, LegalLemmas.legal_clear, RowLemmas.live_line, UnionLemmas.real_not_zero}
use Rattle.fb_access.specs.Kept.{IsThere}
use Rattle.fb_access.proofs.Found.{found_there, some_found}

-- Tests.
not_and : (a b : Bool) → (not a && not b) ≡ false → a ≡ false → b ≡ true
not_and a b h e = grind arith

-- Values.
real_value : (z : ℤ) (v : ℕ) → is_member_value z ≡ true → unsigned_abs z ≡ v → int_eq z (pos v) ≡ true
real_value z v h e = grind (arith, signed_Decides)

-- the members of a union, by its row
module _ (rows : Rows) (e : ℕ) (row : Enum) (at : slice_get rows.enums e ≡ Some row) (union : row.is_union ≡ true) where
  members_are : members_of rows e ≡ filter (λ m. is_member_value m.value) row.members
  members_are = ap members_in at ∙ cond-true row.is_union (filter (λ m. is_member_value m.value) row.members) [] union

  pub found_among : (p : Member → Bool) → find p (members_of rows e) ≡ find (λ m. is_member_value m.value && p m) row.members
  found_among p = ap (find p) members_are ∙ find_filter p (λ m. is_member_value m.value) row.members

  pub clear : IsLegal rows → (q : ℕ) → first_code (members_asked rows row.members q) ≡ None
  clear legal q = sym (ap first_code (ap (demands_of_enum rows (suc q)) at ∙ cond-true row.is_union (members_asked rows row.members q) [] union)) ∙ legal_clear rows legal 1 e (suc q)

-- a member of this kind is there, where what holds of members holds of it
abbrev pub IsKept : Rows → Kind → Type 0
IsKept rows kind = MemberHolds rows (Some kind) → IsThere rows kind

-- a member is a table, a struct or a text
abbrev pub IsOfMember : Kind → Type 0
IsOfMember (Table n) = Unit {0}
IsOfMember (Struct n) = Unit {0}
IsOfMember Text = Unit {0}
IsOfMember _ = ⊥

object_fits : (n : ℕ) (b : Bool) → IsOfMember (if b then Struct n else Table n)
object_fits n b = grind arith

object_kept : (rows : Rows) (n : ℕ) (b : Bool) → IsKept rows (if b then Struct n else Table n)
object_kept rows n b h = grind arith

-- the kind that a type has
record HasKind (rows : Rows) (kind : Option Kind) : Type 0 where
  is : Kind
  kept : IsKept rows is
  fits : IsOfMember is
  has : kind ≡ Some is

-- the type of a member is an object that is there, or a text
kind_of_shape : (rows : Rows) (index : ℤ) (s : Option Shape) → is_for_member s ≡ true → (is_object s && is_none (entry_at rows.objects index)) ≡ false → HasKind rows (shape_kind rows index s)
kind_of_shape rows (pos n) (Some (One OfObject)) h e = go (slice_get rows.objects n) e where
  go : (o : Option Object) → is_none o ≡ false → HasKind rows (object_kind (pos n) Struct Table o)
  go object e = grind (arith, object_fits, object_kept)
kind_of_shape rows (negsuc n) (Some (One OfObject)) h e = absurd (false≢true (sym e))
kind_of_shape rows index (Some (One OfText)) h e = record { is = Text; kept = λ h. tt; fits = tt; has = refl }
kind_of_shape rows index s h e = absurd (false≢true h)

-- a member that breaks no demand has a kind
member_has_kind : (rows : Rows) (m : Member) (taken named : Bool) → first_code (member_demands rows m taken named) ≡ None → is_member_value m.value ≡ true → HasKind rows (kind_of rows m.ty)
unfolding kind_of names_no_object
member_has_kind rows m taken named clear h =
    let ds = member_demands rows m taken named in
    let real = real_not_zero m.value h in
    let fits = not_and (int_eq m.value (pos 0)) (is_for_member (shape_of m.ty)) (clear_line ds clear 2 _ refl) real in
    let there = live_line (int_eq m.value (pos 0)) (is_object (shape_of m.ty) && is_none (entry_at rows.objects m.ty.index)) (clear_line ds clear 3 _ refl) real in
    kind_of_shape rows m.ty.index (shape_of m.ty) fits there

asked_at : (rows : Rows) (members : List Member) (q : ℕ) (m : Member) → slice_get members q ≡ Some m → first_code (members_asked rows members q) ≡ None → is_member_value m.value ≡ true → HasKind rows (kind_of rows m.ty)
asked_at rows members q m at clear h = member_has_kind rows m _ _ (sym (ap (λ x. first_code (demands_of_member rows members q x)) at) ∙ clear) h

-- a union that is there has a row
pub union_row : (o : Option Enum) → IsTrue (is_some_union o) → (row : Enum) × (o ≡ Some row) × (row.is_union ≡ true)
union_row o h = grind arith

named_value : (o : Option Member) (v : ℕ) → option_map (λ (m : Member). unsigned_abs m.value) o ≡ Some v → (m : Member) × (o ≡ Some m) × (unsigned_abs m.value ≡ v)
named_value o v e = grind arith

-- the row of a member that is found by one test has a value by which a member is found
value_found : (members : List Member) (v : ℕ) (p : Member → Bool) (m : Member) → find (λ m. is_member_value m.value && p m) members ≡ Some m → unsigned_abs m.value ≡ v → (y : Member) × (find (λ m. is_member_value m.value && int_eq m.value (pos v)) members ≡ Some y)
value_found members v p m found e =
    let t = found_there (λ m. is_member_value m.value && p m) members m found in
    let real = (and_parts (is_member_value m.value) (p m) t.2).0 in
    some_found (λ m. is_member_value m.value && int_eq m.value (pos v)) members t.0 m t.1 (and_from (is_member_value m.value) (int_eq m.value (pos v)) real (real_value m.value v real e))

-- and what is found by its value has a kind
kind_found : (rows : Rows) (members : List Member) (v : ℕ) (y : Member) → ((q : ℕ) → first_code (members_asked rows members q) ≡ None) → find (λ m. is_member_value m.value && int_eq m.value (pos v)) members ≡ Some y → HasKind rows (kind_of rows y.ty)
kind_found rows members v y clear found = grind (arith, and_parts, asked_at, found_there, pos)

looked_up : (rows : Rows) (e v : ℕ) (y : Member) (kind : Kind) → find (λ m. int_eq m.value (pos v)) (members_of rows e) ≡ Some y → kind_of rows y.ty ≡ Some kind → member_of rows e v ≡ Some kind
unfolding member_of
looked_up rows e v y kind found k = grind arith

named_is : (rows : Rows) (e v : ℕ) (name : List ℕ) → member_named rows e name ≡ Some v → (m : Member) × (find (λ m. bytes_eq m.name name) (members_of rows e) ≡ Some m) × (unsigned_abs m.value ≡ v)
unfolding member_named
named_is rows e v name h = named_value (find (λ m. bytes_eq m.name name) (members_of rows e)) v h

in_row : (rows : Rows) (e v : ℕ) (name : List ℕ) → IsLegal rows → (row : Enum) → slice_get rows.enums e ≡ Some row → row.is_union ≡ true → member_named rows e name ≡ Some v → (kind : Kind) × (member_of rows e v ≡ Some kind) × IsKept rows kind × IsOfMember kind
in_row rows e v name legal row at union named =
    let n = named_is rows e v name named in
    let f : find (λ m. is_member_value m.value && bytes_eq m.name name) row.members ≡ Some n.0 = sym (found_among rows e row at union (λ m. bytes_eq m.name name)) ∙ n.1 in
    let s = value_found row.members v (λ m. bytes_eq m.name name) n.0 f n.2 in
    let k = kind_found rows row.members v s.0 (clear rows e row at union legal) s.1 in
    let g : find (λ m. int_eq m.value (pos v)) (members_of rows e) ≡ Some s.0 = found_among rows e row at union (λ m. int_eq m.value (pos v)) ∙ s.1 in
    (k.is, looked_up rows e v s.0 k.is g k.has, k.kept, k.fits)

pub member_there : (rows : Rows) (e v : ℕ) (name : List ℕ) → IsLegal rows → IsTrue (is_union rows e) → member_named rows e name ≡ Some v → (kind : Kind) × (member_of rows e v ≡ Some kind) × IsKept rows kind × IsOfMember kind
member_there rows e v name legal h named = grind (arith, in_row, slice_get, union_row)
