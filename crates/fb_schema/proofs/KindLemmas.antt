-- What the kinds of legal rows name.
use Rattle.std.proofs.Common.{◌≡◌, ℕ, ◌^◌, ◌<◌, ◌==◌, ℤ, pos, negsuc, Bool, true, false, not, ◌&&◌, ◌||◌, List, [], ◌∷◌, map, length, slice_get, Option, Some, None, IsTrue, refl, sym, ◌∙◌, ap, subst, find, unsigned_abs, option_map, arith, IfSome, option_and_then, int_eq}
use Rattle.fb_schema.proofs.KindWords.{Kind, Struct, Table, Union, Structs, Tables, Unions, Element, OfScalar, OfText, OfObject, OfUnion, Shape, One, Vector}
use Rattle.fb_schema.proofs.{Numbers.not_false, DemandLaws.clear_line, LegalLemmas.legal_clear}
use Rattle.std.proofs.lemmas.{Option.slice_get_within, Option.MatchOption-at_some, Bool.Decides.Decides-eqb}
use Rattle.std.specs.List.{list_any}
use Rattle.fb_schema.specs.{declared.rows.TypeRow.TypeRow, Demands.IsLegal, Demands.object_demands, Demands.is_alignment, Demands.is_union_shape, Demands.lacks_type_field}
use Rattle.fb_schema.specs.{Kinds.kind_of, Kinds.shape_of, Kinds.shape_kind, Kinds.object_kind, Kinds.union_kind, Kinds.struct_align, Kinds.align_in, Vectors.vector_of}
use Rattle.fb_schema.specs.{Members.member_of, Members.members_of, Served.IsAlignment, Served.MemberHolds, Rows.Rows, Rows.Object, Rows.Enum, Rows.Member, Rows.entry_at}
use Rattle.fb_schema.specs.Rows.{is_table, is_union, is_some_table, is_some_union}

-- a vector has the kind of a vector of what its element alone would have
pub vector_kind : (rows : Rows) (index : ℤ) (e : Element) → shape_kind rows index (Some (Vector e)) ≡ option_map vector_of (shape_kind rows index (Some (One e)))
vector_kind rows index (OfScalar s) = refl
vector_kind rows index OfText = refl
vector_kind rows (negsuc k) e = refl
vector_kind rows (pos k) e = grind arith

-- a struct that is there, with an alignment
abbrev pub IsStruct : Rows → ℕ → Type 0
IsStruct rows k = (k < length rows.objects) × IsAlignment (struct_align rows k)

-- the object that a kind names is there
abbrev pub NamesObject : Rows → Kind → Type 0
NamesObject rows (Struct k) = IsStruct rows k
NamesObject rows (Table k) = IsTrue (is_table rows k)
NamesObject rows (Structs k) = IsStruct rows k
NamesObject rows (Tables k) = IsTrue (is_table rows k)
NamesObject rows _ = Unit {0}

-- and its union
abbrev pub NamesUnion : Rows → Kind → Type 0
NamesUnion rows (Union e) = IsTrue (is_union rows e)
NamesUnion rows (Unions e) = IsTrue (is_union rows e)
NamesUnion rows _ = Unit {0}

pub power_of : (n : ℕ) (ks : List ℕ) → list_any (λ a. n == a) (map (λ k. 2 ^ k) ks) ≡ true → IsAlignment n
power_of n [] h = absurd (let w : false ≡ true = h in cc)
power_of n (k ∷ ks) h = go (n == 2 ^ k) refl h (power_of n ks) where
  go : (b : Bool) → (n == 2 ^ k) ≡ b → (b || list_any (λ a. n == a) (map (λ k. 2 ^ k) ks)) ≡ true → (list_any (λ a. n == a) (map (λ k. 2 ^ k) ks) ≡ true → IsAlignment n) → IsAlignment n
  go true e h later = (k, (Decides-eqb n (2 ^ k)).0 e)
  go false e h later = later h

aligned : (z : ℤ) → is_alignment z ≡ true → IsAlignment (unsigned_abs z)
aligned (pos n) h = power_of n (0 ∷ 1 ∷ 2 ∷ 3 ∷ 4 ∷ 5 ∷ 6 ∷ 7 ∷ 8 ∷ []) h
aligned (negsuc n) h = absurd (let w : false ≡ true = h in cc)

struct_there : (rows : Rows) → IsLegal rows → (k : ℕ) (o : Object) → slice_get rows.objects k ≡ Some o → o.is_struct ≡ true → IsStruct rows k
struct_there rows legal k o at struct =
    let line = clear_line (object_demands o _) (rw at at (legal_clear rows legal 0 k 0)) 1 _ refl in
    (slice_get_within rows.objects k o at, subst (λ x. IsAlignment (align_in x)) (sym at) (aligned o.minalign (grind (arith, line, struct))))

-- what holds of the kind that an object gives, where it holds of a struct and of a table that is there
pub object_kinds : (rows : Rows) (P : Kind → Type 0) (struct table : ℕ → Kind) (index : ℤ) → ((k : ℕ) (o : Object) → entry_at rows.objects index ≡ Some o → slice_get rows.objects k ≡ Some o → o.is_struct ≡ true → P (struct k))
    → ((k : ℕ) (o : Object) → entry_at rows.objects index ≡ Some o → slice_get rows.objects k ≡ Some o → o.is_struct ≡ false → P (table k)) → IfSome (object_kind index struct table (entry_at rows.objects index)) P
object_kinds rows P struct table (negsuc k) a b = tt
object_kinds rows P struct table (pos k) a b = grind (arith, a k, b k)

-- and of the kind that a union gives
pub union_kinds : (rows : Rows) (P : Kind → Type 0) (union : ℕ → Kind) (index : ℤ) → ((k : ℕ) (e : Enum) → entry_at rows.enums index ≡ Some e → slice_get rows.enums k ≡ Some e → P (union k)) → IfSome (union_kind index union (entry_at rows.enums index)) P
union_kinds rows P union (negsuc k) of = tt
union_kinds rows P union (pos k) of = grind (arith, of k)

-- the type field that a kind asks for is there
abbrev pub HasAsked : Bool → Bool → Kind → Type 0
HasAsked byte vector (Union e) = byte ≡ true
HasAsked byte vector (Unions e) = vector ≡ true
HasAsked byte vector _ = Unit {0}

-- the object that a kind names is there; so is its union, and its type field, where no demand says otherwise
abbrev pub IsNamed : Rows → ℤ → Option Shape → Bool → Bool → Kind → Type 0
IsNamed rows index s byte vector kind = NamesObject rows kind × ((is_union_shape s && not (is_some_union (entry_at rows.enums index))) ≡ false → NamesUnion rows kind) × (lacks_type_field s byte vector ≡ false → HasAsked byte vector kind)

named_of_shape : (rows : Rows) → IsLegal rows → (index : ℤ) (byte vector : Bool) (s : Option Shape) → IfSome (shape_kind rows index s) (IsNamed rows index s byte vector)
named_of_shape rows legal index byte vector (Some (One OfObject)) = object_kinds rows (IsNamed rows index (Some (One OfObject)) byte vector) Struct Table index
    (λ k o _ at is. (struct_there rows legal k o at is, λ _. tt, λ _. tt)) (λ k o _ at is. (ap is_some_table at ∙ ap not is, λ _. tt, λ _. tt))
named_of_shape rows legal index byte vector (Some (Vector OfObject)) = object_kinds rows (IsNamed rows index (Some (Vector OfObject)) byte vector) Structs Tables index
    (λ k o _ at is. (struct_there rows legal k o at is, λ _. tt, λ _. tt)) (λ k o _ at is. (ap is_some_table at ∙ ap not is, λ _. tt, λ _. tt))
named_of_shape rows legal index byte vector (Some (One OfUnion)) =
    union_kinds rows (IsNamed rows index (Some (One OfUnion)) byte vector) Union index (λ k e here at. (tt, λ h. ap is_some_union (at ∙ sym here) ∙ not_false _ h, not_false byte))
named_of_shape rows legal index byte vector (Some (Vector OfUnion)) =
    union_kinds rows (IsNamed rows index (Some (Vector OfUnion)) byte vector) Unions index (λ k e here at. (tt, λ h. ap is_some_union (at ∙ sym here) ∙ not_false _ h, not_false vector))
named_of_shape rows legal index byte vector (Some (One e)) = (tt, λ _. tt, λ _. tt)
named_of_shape rows legal index byte vector (Some (Vector e)) = (tt, λ _. tt, λ _. tt)
named_of_shape rows legal index byte vector s = tt

-- of legal rows each kind of a type is named so
pub is_named : (rows : Rows) → IsLegal rows → (ty : TypeRow) (byte vector : Bool) (kind : Kind) → kind_of rows ty ≡ Some kind → IsNamed rows ty.index (shape_of ty) byte vector kind
unfolding kind_of
is_named rows legal ty byte vector kind e = MatchOption-at_some _ (IsNamed rows ty.index (shape_of ty) byte vector) kind e (named_of_shape rows legal ty.index byte vector (shape_of ty))

pub member_holds : (rows : Rows) → IsLegal rows → (e value : ℕ) → MemberHolds rows (member_of rows e value)
unfolding member_of kind_of
member_holds rows legal e value = found (find (λ m. int_eq m.value (pos value)) (members_of rows e)) where
  of_kind : (index : ℤ) (s : Option Shape) (kind : Option Kind) → IfSome kind (IsNamed rows index s false false) → MemberHolds rows kind
  of_kind index s (Some (Struct k)) h = h.0
  of_kind index s (Some (Table k)) h = h.0
  of_kind index s kind h = tt

  found : (m : Option Member) → MemberHolds rows (option_and_then (λ (m : Member). kind_of rows m.ty) m)
  found None = tt
  found (Some m) = of_kind m.ty.index (shape_of m.ty) (kind_of rows m.ty) (named_of_shape rows legal m.ty.index false false (shape_of m.ty))
