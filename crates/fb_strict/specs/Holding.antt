-- What the bytes of fields hold, by the marks of a schema file.
use Rattle.std.specs.Prelude.{◌≡◌, ℕ, zero, suc, ◌<◌, ◌==◌, ◌&&◌, ◌||◌, nat_lt, map, Bool, true, if◌then◌else◌, List, [], ◌++◌}
use Rattle.std.specs.Prelude.{length, take, find, filter_map, slice_get, slice_index_or, Option, Some, None, option_map, is_none}
use Rattle.std.specs.{List.list_any, Ordering.nat_cmp, declared.cmp.Ordering.Ordering}
use Rattle.fb_schema.specs.{Sorting.IsOrderOf, Sorting.entry_cmp, Rows.Object, Rows.Rows, Rows.table_named, Live.live_fields}
use Rattle.fb_rules.specs.Order.{◌▷◌}
use Rattle.fb_bfbs.specs.{ByteFields.is_at, Marks.Marked, Marks.Held as HeldBy, Marks.buffer, Marks.flex}
use Rattle.fb_strict.specs.declared.{demands.Demands.Demands, tasks.Held.Held, holding.Holding.Holding, holding.PlanFault.PlanFault, holding.PlanFault.TheVariants.OutOfMemory}
use Rattle.fb_strict.specs.declared.{holding.PlanFault.TheVariants.NoSuchTable, tasks.Held.TheVariants.Buffer, tasks.Held.TheVariants.Flex}

-- Names.

-- the table that a name means in an object of this name, behind the first n bytes of that where a namespace around it
-- ends with them, or else behind fewer, and last by itself
unfoldable pub found_within : Rows → (owner name : List ℕ) → ℕ → Option ℕ
found_within S owner name zero = table_named S name
found_within S owner name (suc n) = (if slice_index_or owner n 0 == 46 then table_named S (take (suc n) owner ++ name) else None) ▷ found_within S owner name n

-- behind the innermost namespace that has such a table
abbrev pub found_from : Rows → (owner name : List ℕ) → Option ℕ
found_from S owner name = found_within S owner name (length owner)

-- the name of an object
abbrev pub name_in : Option Object → List ℕ
name_in None = []
name_in (Some o) = o.name

abbrev pub name_of : Rows → ℕ → List ℕ
name_of S k = name_in (slice_get S.objects k)

-- Marks.

-- a live field of a table in this slot is of bytes
abbrev pub has_bytes : Rows → (k slot : ℕ) → Bool
has_bytes S k slot = list_any (is_at slot) (live_fields S k)

-- what a mark in the object k says that they hold: none where it names no table
abbrev pub meant : Rows → ℕ → HeldBy → Option Held
meant S k (buffer name) = option_map Buffer (found_from S (name_of S k) name)
meant S k flex = Some Flex

-- a mark with this meaning
abbrev pub holding_with : Marked → Held → Holding
holding_with m held = record { object = m.object; slot = m.slot; held = held }

-- a mark that counts: only vectors of bytes have marks that do
abbrev pub holding_of : Rows → Marked → Option Holding
holding_of S m = if has_bytes S m.object m.slot then option_map (holding_with m) (meant S m.object m.held) else None

abbrev pub holdings_in : Rows → List Marked → List Holding
holdings_in S ms = filter_map (holding_of S) ms

-- where nested buffers are asked
abbrev pub holdings_if : Demands → Rows → List Marked → List Holding
holdings_if d S ms = if d.nested then holdings_in S ms else []

-- a mark that counts names no table
abbrev pub is_lost : Rows → Marked → Bool
is_lost S m = has_bytes S m.object m.slot && is_none (meant S m.object m.held)

-- a plan isn't made: where the fault tells a field, it is that of such a mark
abbrev pub IsPlanFault : Rows → List Marked → PlanFault → Type 0
IsPlanFault S ms OutOfMemory = Unit {0}
IsPlanFault S ms (NoSuchTable k slot) = (i : ℕ) × (m : Marked) × (slice_get ms i ≡ Some m) × (is_lost S m ≡ true) × (m.object ≡ k) × (m.slot ≡ slot)

-- Fields.

-- what the bytes of a field with this slot of the object k hold by these
abbrev pub held_in : List Holding → (k slot : ℕ) → Option Held
held_in hs k slot = option_map (λ (h : Holding). h.held) (find (λ (h : Holding). (h.object == k) && (h.slot == slot)) hs)

-- Order.

-- a field by its object's number and its slot
abbrev pub Slotted : Type 0
Slotted = ℕ × ℕ

abbrev pub field_of : Holding → Slotted
field_of h = (h.object, h.slot)

-- by object, and then by slot
abbrev pub field_cmp : Slotted → Slotted → Ordering
field_cmp a b = entry_cmp nat_cmp a b

-- the fields of holdings in order, each with the place of its holding
abbrev pub AreInOrder : List Holding → List (Slotted × ℕ) → Type 0
AreInOrder hs order = IsOrderOf field_cmp (map field_of hs) order

-- an entry of such an order is of a field before this one, or of this one
abbrev pub is_before : (k slot : ℕ) → Slotted × ℕ → Bool
is_before k slot e = nat_lt e.0.0 k || ((e.0.0 == k) && nat_lt e.0.1 slot)

abbrev pub is_of : (k slot : ℕ) → Slotted × ℕ → Bool
is_of k slot e = (e.0.0 == k) && (e.0.1 == slot)

-- the field stands at this place first, or nowhere
abbrev pub IsFirstPlace : List Slotted → (k slot : ℕ) → Option ℕ → Type 0
IsFirstPlace fields k slot None = (i : ℕ) → slice_get fields i ≡ Some (k, slot) → ⊥
IsFirstPlace fields k slot (Some i) = (slice_get fields i ≡ Some (k, slot)) × ((j : ℕ) → j < i → slice_get fields j ≡ Some (k, slot) → ⊥)
