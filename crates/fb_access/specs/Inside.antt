-- What a reader of a good buffer relies on: wherever steps lead from the root offset, the bytes by which they lead and
-- those of what is there lie in the buffer.
use Rattle.std.specs.Prelude.{◌≡◌, ℕ, ◌+◌, ◌*◌, ◌≤◌, List, length, Some}
use Rattle.fb_bytes.specs.Word.{word}
use Rattle.fb_schema.specs.{Rows.Rows, Kinds.scalar_size, Kinds.struct_size, Live.Live, Members.member_of, Served.IsServed}
use Rattle.fb_rules.specs.{Places.field_place, WellFormed.base}
use Rattle.fb_rules.specs.Fields.{Lead, to_nothing, lead_of}
use Rattle.fb_verify.specs.Sealed.{Sealed, IsUnfolded}
use Rattle.fb_access.specs.declared.spot.Spot.TheVariants.{AtTable, AtInline, AtStruct, AtText, AtScalars, AtStructs, AtScalarArray, AtStructArray, AtTexts, AtTables, AtUnions, AtUnion}
use Rattle.fb_access.specs.{Fitting.numbered, Denotes.Reaches, Denotes.root_spot, Held.IsCounted, Held.IsTextAt, Held.HasVtable, Held.IsReadable, declared.step.Step.Step, declared.spot.Spot.Spot}

-- the uoffset of a union that leads to something
abbrev pub OffsetLies : List ℕ → ℕ → Lead → Type 0
OffsetLies b p to_nothing = Unit {0}
OffsetLies b p _ = p + 4 ≤ length b

-- a table: its soffset and its vtable; and of each field that stands there, what is read before what it leads to: its
-- uoffset, of a union the byte of its type, of a vector of unions the uoffset, the count and the bytes of theirs
pub record IsTableInside (b : List ℕ) (S : Rows) (k t : ℕ) : Type 0 where
  pub vtable : HasVtable b t
  pub fields : (n p : ℕ) (f : Live) → numbered S k n ≡ Some f → field_place b t f.slot ≡ Some p → IsReadable b t f.slot p f.kind

-- of a table these; of a value in place, and of an array of these, all its bytes; of a string or a vector its count and
-- so many bytes or elements behind it, a uoffset being 4 bytes; behind a string's bytes a byte 0; of a vector of
-- unions their types too; of a union whose type the schema knows its uoffset; what stands behind a uoffset is
-- a spot of its own
abbrev pub LiesInside : List ℕ → Rows → Spot → Type 0
LiesInside b S (AtTable k t) = IsTableInside b S k t
LiesInside b S (AtInline s p) = p + scalar_size s ≤ length b
LiesInside b S (AtStruct k p) = p + struct_size S k ≤ length b
LiesInside b S (AtText c) = IsTextAt b c
LiesInside b S (AtScalars s c) = IsCounted b c (scalar_size s)
LiesInside b S (AtStructs k c) = IsCounted b c (struct_size S k)
LiesInside b S (AtScalarArray s n p) = p + n * scalar_size s ≤ length b
LiesInside b S (AtStructArray k n p) = p + n * struct_size S k ≤ length b
LiesInside b S (AtTexts c) = IsCounted b c 4
LiesInside b S (AtTables k c) = IsCounted b c 4
LiesInside b S (AtUnions e q c) = (q + word b c 4 ≤ length b) × IsCounted b c 4
LiesInside b S (AtUnion e y p) = OffsetLies b p (lead_of S (member_of S e y))
LiesInside b S _ = Unit {0}

-- the root offset of a buffer that was verified lies in it, and so does whatever steps lead to
abbrev pub ValuesLieInside : Type 0
ValuesLieInside =
    (v : Sealed) → IsServed v.schema → IsUnfolded v
    → (base v.start + 4 ≤ length v.bytes)
    × ((steps : List Step) (q : Spot) → Reaches v.bytes v.schema (root_spot v.bytes v.start v.root) steps q → LiesInside v.bytes v.schema q)
