-- What holds at a spot of a buffer that was verified, whatever the checks were, so that reading there stays in the
-- buffer.
use Rattle.std.specs.Prelude.{◌≡◌, ℕ, ◌+◌, ◌*◌, ◌<◌, ◌≤◌, List, length, IsTrue}
use Rattle.fb_bytes.specs.Word.{word}
use Rattle.fb_schema.specs.declared.kinds.Kind.{Kind, TheVariants.Scalar, TheVariants.Struct, TheVariants.Union, TheVariants.Unions}
use Rattle.fb_schema.specs.{Rows.Rows, Rows.is_table, Rows.is_union, Kinds.scalar_size, Kinds.struct_size, Members.member_of}
use Rattle.fb_rules.specs.{Places.has_vtable, Places.vtable, Places.vtable_size, Tree.Tree, Tree.Element, Unfolds.Unfolds, Unfolds.ElementUnfolds, declared.checks.Checks.Checks}
use Rattle.fb_rules.specs.{OffsetRows.TypeFits, OffsetRows.TypesFit, Fields.Lead, Fields.to_table, Fields.to_string, Fields.lead_of}
use Rattle.fb_verify.specs.Sealed.{Sealed, IsUnfolded}
use Rattle.fb_access.specs.declared.spot.Spot.{Spot, TheVariants.AtTable, TheVariants.AtInline, TheVariants.AtStruct, TheVariants.AtText, TheVariants.AtScalars}
use Rattle.fb_access.specs.declared.spot.Spot.TheVariants.{AtStructs, AtScalarArray, AtStructArray, AtTexts, AtTables, AtUnions, AtUnion}

-- a table of the object k stands at t and unfolds, whatever was checked
pub record IsTableAt (b : List ℕ) (S : Rows) (k t : ℕ) : Type 0 where
  pub object : IsTrue (is_table S k)
  pub checks : Checks
  pub found : Tree
  pub unfolds : Unfolds found checks b S k t

-- the uoffset at p leads to what its lead says
pub record IsLed (b : List ℕ) (S : Rows) (p : ℕ) (lead : Lead) : Type 0 where
  pub checks : Checks
  pub found : Element
  pub unfolds : ElementUnfolds found checks b S p lead

-- each of n uoffsets from p on leads where its lead says
pub record AreLed (b : List ℕ) (S : Rows) (p n : ℕ) (leads : ℕ → Lead) : Type 0 where
  pub at : (j : ℕ) → j < n → IsLed b S (p + 4 * j) (leads j)

-- a struct of the object k stands at p
pub record IsStructAt (b : List ℕ) (S : Rows) (k p : ℕ) : Type 0 where
  pub object : k < length S.objects
  pub within : p + struct_size S k ≤ length b

-- n structs of the object k stand one behind another from p on
pub record AreStructsFrom (b : List ℕ) (S : Rows) (k n p : ℕ) : Type 0 where
  pub object : k < length S.objects
  pub within : p + n * struct_size S k ≤ length b

-- a count stands at v, and behind it so many times this many bytes
pub record IsCounted (b : List ℕ) (v size : ℕ) : Type 0 where
  pub count : v + 4 ≤ length b
  pub within : v + 4 + word b v 4 * size ≤ length b

-- a string stands at c: its count, so many bytes, and a byte 0
pub record IsTextAt (b : List ℕ) (c : ℕ) : Type 0 where
  pub counted : IsCounted b c 1
  pub ends : c + 4 + word b c 4 < length b
  pub terminated : word b (c + 4 + word b c 4) 1 ≡ 0

-- vectors of structs, strings and tables
pub record AreStructsAt (b : List ℕ) (S : Rows) (k v : ℕ) : Type 0 where
  pub object : k < length S.objects
  pub counted : IsCounted b v (struct_size S k)

pub record AreTextsAt (b : List ℕ) (S : Rows) (v : ℕ) : Type 0 where
  pub counted : IsCounted b v 4
  pub led : AreLed b S (v + 4) (word b v 4) (λ j. to_string)

pub record AreTablesAt (b : List ℕ) (S : Rows) (k v : ℕ) : Type 0 where
  pub object : IsTrue (is_table S k)
  pub counted : IsCounted b v 4
  pub led : AreLed b S (v + 4) (word b v 4) (λ j. to_table k)

-- a vector of unions, with its types from q on
pub record AreUnionsAt (b : List ℕ) (S : Rows) (e q v : ℕ) : Type 0 where
  pub union : IsTrue (is_union S e)
  pub counted : IsCounted b v 4
  pub types : q + word b v 4 ≤ length b
  pub led : AreLed b S (v + 4) (word b v 4) (λ j. lead_of S (member_of S e (word b (q + j) 1)))

-- a union of the type y, with its uoffset at p
pub record IsUnionAt (b : List ℕ) (S : Rows) (e y p : ℕ) : Type 0 where
  pub union : IsTrue (is_union S e)
  pub led : IsLed b S p (lead_of S (member_of S e y))

-- what holds at a spot
unfoldable pub IsSpot : List ℕ → Rows → Spot → Type 0
IsSpot b S (AtTable k t) = IsTableAt b S k t
IsSpot b S (AtInline s p) = p + scalar_size s ≤ length b
IsSpot b S (AtStruct k p) = IsStructAt b S k p
IsSpot b S (AtText c) = IsTextAt b c
IsSpot b S (AtScalars s c) = IsCounted b c (scalar_size s)
IsSpot b S (AtStructs k c) = AreStructsAt b S k c
IsSpot b S (AtScalarArray s n p) = p + n * scalar_size s ≤ length b
IsSpot b S (AtStructArray k n p) = AreStructsFrom b S k n p
IsSpot b S (AtTexts c) = AreTextsAt b S c
IsSpot b S (AtTables k c) = AreTablesAt b S k c
IsSpot b S (AtUnions e q c) = AreUnionsAt b S e q c
IsSpot b S (AtUnion e y p) = IsUnionAt b S e y p
IsSpot b S _ = Unit {0}

-- a place: a spot of a buffer that was verified
pub record Placed : Type 0 where
  pub sealed : Sealed
  pub spot : Spot

pub record IsPlaced (p : Placed) : Type 0 where
  pub unfolds : IsUnfolded p.sealed
  pub spot : IsSpot (p.sealed).bytes (p.sealed).schema p.spot

-- the vtable of the table at t is in the buffer
pub record HasVtable (b : List ℕ) (t : ℕ) : Type 0 where
  pub within : t + 4 ≤ length b
  pub not_negative : IsTrue (has_vtable b t)
  pub size : vtable b t + 2 ≤ length b
  pub whole : vtable b t + vtable_size b t ≤ length b

-- what following a field of this kind needs, which has the slot o and is present at p
abbrev pub IsReadable : List ℕ → ℕ → ℕ → ℕ → Kind → Type 0
IsReadable b t o p (Scalar s) = Unit {0}
IsReadable b t o p (Struct k) = Unit {0}
IsReadable b t o p (Union e) = TypeFits b t o
IsReadable b t o p (Unions e) = (p + 4 ≤ length b) × TypesFit b t o
IsReadable b t o p _ = p + 4 ≤ length b
