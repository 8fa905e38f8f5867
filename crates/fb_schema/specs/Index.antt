-- What the index of a schema has to do with its rows.
use Rattle.std.specs.Prelude.{[], Bool, if◌then◌else◌, ◌≡◌, ◌+◌, ◌<◌, ◌≤◌, ℕ, List, map, length, drop, slice_index_or, Some, slice_get}
use Rattle.std.specs.{List.position_or_len, Borrow.Bor}
use Rattle.fb_schema.specs.declared.{flat.EnumPart.EnumPart, rows.MemberRow.MemberRow, views.FieldView.FieldView, index.LiveIndex.LiveIndex, index.MemberIndex.MemberIndex}
use Rattle.fb_schema.specs.{Flat.part, FlatLists.lists_of, Steps.chain_of, Steps.sorts_of, Rows.Rows, Rows.Object, Targets.HaveTargets, Live.Live, Live.live_of_view, Live.live_in}
use Rattle.fb_schema.specs.{Live.widest_of, Sorting.IsOrderOf, Sorting.name_cmp, Sorting.member_cmp, Sorting.member_key}

-- the lists are as long, and R holds of the items at each place
pub record AreMatched {X Y : Type 0} (R : X → Y → Type 0) (xs : List X) (ys : List Y) : Type 0 where
  pub long : length ys ≡ length xs
  pub at : (n : ℕ) (x : X) (y : Y) → slice_get xs n ≡ Some x → slice_get ys n ≡ Some y → R x y

abbrev pub view_name : FieldView → Bor (List ℕ)
view_name f = f.name

-- at each of these fields, the place of the next required one, at its place or behind it; how many fields there are
-- where none is
pub record AreNextRequired (fields : List Live) (places : List ℕ) : Type 0 where
  pub long : length places ≡ length fields
  pub at : (i : ℕ) → i < length fields → slice_index_or places i 0 ≡ i + position_or_len (λ (f : Live). f.required) (drop i fields)

-- the live fields of these objects among the rows, each list with the order of its names, its steps, what holds of all
-- of it and the places of what is required, and the longest
pub record IsLiveIndex {A : Type 0} (rows : Rows) (objects : List Object) (index : LiveIndex A) : Type 0 where
  pub live : map (map live_of_view) (lists_of index.fields) ≡ map (λ o. live_in rows (Some o)) objects
  pub names : AreMatched (λ fields order. IsOrderOf name_cmp (map view_name fields) order) (lists_of index.fields) (lists_of index.names)
  pub steps : lists_of index.steps ≡ map (λ o. chain_of (live_in rows (Some o))) objects
  pub sorts : index.sorts.items ≡ map (λ o. sorts_of (live_in rows (Some o))) objects
  pub next_required : AreMatched (λ o places. AreNextRequired (live_in rows (Some o)) places) objects (lists_of index.next_required)
  pub widest : index.widest ≡ widest_of objects
  pub few : index.widest ≤ 32766

-- the members of an enum that are kept: those of a union
abbrev pub kept_members : Bool → List MemberRow → List MemberRow
kept_members is_union members = if is_union then members else []

-- what the types of the unions among these enums lead to, and the orders of their members' names
pub record IsMemberIndex {A : Type 0} (rows : Rows) (members : List MemberRow) (enums : List EnumPart) (index : MemberIndex A) : Type 0 where
  pub targets : HaveTargets rows members enums (lists_of index.places) (lists_of index.targets)
  pub names : AreMatched (λ row order. IsOrderOf member_cmp (map member_key (kept_members row.is_union (part members row.members))) order) enums (lists_of index.names)
