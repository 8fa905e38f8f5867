-- The uoffsets that are left of a field, as a walk keeps them.
use Rattle.std.specs.Prelude.{◌≡◌, ℕ, ◌+◌, ◌-◌, ◌*◌, ◌<◌, ◌≤◌, ◌^◌, List, [], length, Some, Bool, true, false, IsTrue}
use Rattle.fb_bytes.specs.Word.{Lent, word}
use Rattle.fb_schema.specs.declared.{kinds.Kind.Kind, kinds.Kind.TheVariants.Union, kinds.Kind.TheVariants.Unions, views.Goal.Goal, views.Target.Target, targets.Targets.Targets}
use Rattle.fb_schema.specs.declared.views.Goal.TheVariants.{Nothing as NoGoal, Text as TextGoal, Table as TableGoal, Struct as StructGoal}
use Rattle.fb_schema.specs.{Rows.Rows, Rows.is_table, Rows.is_union, Members.member_of, Live.Live, Targets.target_at, Targets.target_of, Served.IsAlignment, Served.IsServed}
use Rattle.fb_schema.specs.Served.{KindHolds}
use Rattle.fb_rules.specs.declared.{checks.Checks.Checks, table.Table.Table, offset_row.Referent.Referent, offset_row.Leads.Leads, offset_row.Leads.TheVariants.All}
use Rattle.fb_rules.specs.declared.offset_row.{Leads.TheVariants.ByType, Row.Row, Referent.TheVariants.Text as AText, Referent.TheVariants.Table as ATable}
use Rattle.fb_rules.specs.{declared.offset_row.Referent.TheVariants.Struct as AStruct, declared.offset_row.Referent.TheVariants.Nothing, Told.IsPlaced, Places.target}
use Rattle.fb_rules.specs.{Cost.reads_if_present, Fields.type_place, Fields.union_type, Fields.Lead, Fields.to_table, Fields.to_struct, Fields.to_string, Fields.to_nothing}
use Rattle.fb_rules.specs.Fields.{lead_of, Entry, entry, row, union_row}

-- where a uoffset leads that refers to this
abbrev pub lead_to : Referent → Lead
lead_to AText = to_string
lead_to (ATable k) = to_table k
lead_to (AStruct size align) = to_struct size align
lead_to Nothing = to_nothing

-- what one refers to whose type has this target
abbrev pub referent_of : Goal → Target → Referent
referent_of NoGoal t = Nothing
referent_of TextGoal t = AText
referent_of TableGoal t = ATable t.object
referent_of StructGoal t = AStruct t.size t.align

-- n uoffsets from p on
abbrev pub words : List ℕ → Rows → Leads → ℕ → ℕ → List Entry
words b S (All referent) p n = row (lead_to referent) p n
words b S (ByType e q) p n = union_row b S e q p n

-- the uoffsets that a row is
abbrev pub words_of : List ℕ → Rows → Row → List Entry
words_of b S r = words b S r.leads r.place r.left

-- a uoffset at p
abbrev pub word_at : List ℕ → Rows → Leads → ℕ → Entry
word_at b S (All referent) p = entry (lead_to referent) p 0
word_at b S (ByType e q) p = entry (lead_of S (member_of S e (word b q 1))) p 1

-- the first of a row
abbrev pub first_word : List ℕ → Rows → Row → Entry
first_word b S r = word_at b S r.leads r.place

-- the others
abbrev pub leads_after : Leads → Leads
leads_after (All referent) = All referent
leads_after (ByType e q) = ByType e (q + 1)

abbrev pub past_first : Row → Row
past_first r = record { leads = leads_after r.leads; place = r.place + 4; left = r.left - 1 }

-- they all refer to the same
abbrev pub AreAll : Leads → Type 0
AreAll (All referent) = Unit {0}
AreAll (ByType e q) = ⊥

abbrev pub AreTypesNear : Leads → Type 0
AreTypesNear (All referent) = Unit {0}
AreTypesNear (ByType e q) = q < 2 ^ 36

-- what the words of the union e lead to stands here by their types
abbrev pub AreUnionTargets : Rows → Targets → ℕ → Type 0
AreUnionTargets S targets e = (value : ℕ) → value < 256 → target_at targets.places.now targets.targets.now value ≡ target_of S (member_of S e value)

-- and that of those of a row, where their types tell it
abbrev pub AreTargetsOf : Rows → Targets → Leads → Type 0
AreTargetsOf S targets (All referent) = Unit {0}
AreTargetsOf S targets (ByType e q) = AreUnionTargets S targets e

-- the words of a row whose types tell that are those of a union
abbrev pub AreOfUnion : Rows → Leads → Type 0
AreOfUnion S (All referent) = Unit {0}
AreOfUnion S (ByType e q) = IsTrue (is_union S e)

-- what is referred to can be asked of the schema
abbrev pub IsReferent : Rows → Referent → Type 0
IsReferent S AText = Unit {0}
IsReferent S (ATable k) = IsTrue (is_table S k)
IsReferent S (AStruct size align) = IsAlignment align
IsReferent S Nothing = Unit {0}

-- a struct has an alignment
abbrev pub IsSized : Referent → Type 0
IsSized (AStruct size align) = IsAlignment align
IsSized _ = Unit {0}

-- a uoffset that leads to no table
abbrev pub IsLeafLead : Lead → Type 0
IsLeafLead (to_table k) = ⊥
IsLeafLead _ = Unit {0}

-- the types of n uoffsets lie in the buffer
abbrev pub AreLeads : List ℕ → Rows → ℕ → Leads → Type 0
AreLeads b S n (All referent) = IsReferent S referent
AreLeads b S n (ByType e q) = IsTrue (is_union S e) × (q + n ≤ length b) × (q + n < 2 ^ 36)

-- a row that a walk can go on with
pub record IsRow (b : List ℕ) (S : Rows) (r : Row) : Type 0 where
  pub place : r.place + 4 * r.left < 2 ^ 35
  pub left : r.left < 2 ^ 29
  pub leads : 0 < r.left → AreLeads b S r.left r.leads

-- a field with these uoffsets was passed: it leads on, and the row is theirs; or it doesn't, and the row stays
pub record LeavesRow (b : List ℕ) (S : Rows) (xs : List Entry) (old new : Row) (more : Bool) : Type 0 where
  pub none : more ≡ false → (xs ≡ []) × (new ≡ old)
  pub entries : more ≡ true → xs ≡ words_of b S new
  pub row : more ≡ true → IsRow b S new × (0 < new.left)

-- the type of the union with this slot
abbrev pub type_of_slot : List ℕ → ℕ → ℕ → ℕ
type_of_slot b t o = union_type b (type_place b t o)

-- the reads that tell it
abbrev pub type_reads : List ℕ → ℕ → ℕ → ℕ
type_reads b t o = 1 + reads_if_present 1 (type_place b t o)

-- and those that tell where the types of a vector of unions begin, and how many they are
abbrev pub types_reads : List ℕ → ℕ → ℕ → ℕ
types_reads b t o = 1 + reads_if_present 2 (type_place b t o)

-- the words of the vector to which the offset at p leads were put into the row, if there are any
pub record PutsWords (b : List ℕ) (p : ℕ) (leads : Leads) (old new : Row) : Type 0 where
  pub none : word b (target b p) 4 ≡ 0 → new ≡ old
  pub some : 0 < word b (target b p) 4 → new ≡ record { leads = leads; place = target b p + 4; left = word b (target b p) 4 }
  pub within : target b p + 4 + 4 * word b (target b p) 4 < 2 ^ 31

-- the type fields of a union and of a vector of unions were checked before: the types lie in the buffer
pub record TypeFits (b : List ℕ) (t o : ℕ) : Type 0 where
  pub slot : 2 ≤ o
  pub within : (q : ℕ) → type_place b t o ≡ Some q → q + 1 ≤ length b

pub record TypesFit (b : List ℕ) (t o : ℕ) : Type 0 where
  pub slot : 2 ≤ o
  pub offset : (q : ℕ) → type_place b t o ≡ Some q → q + 4 ≤ length b
  pub count : (q : ℕ) → type_place b t o ≡ Some q → target b q + 4 ≤ length b
  pub types : (q : ℕ) → type_place b t o ≡ Some q → target b q + 4 + word b (target b q) 4 ≤ length b

abbrev pub IsTyped : List ℕ → ℕ → ℕ → Kind → Type 0
IsTyped b t o (Union e) = TypeFits b t o
IsTyped b t o (Unions e) = TypesFit b t o
IsTyped b t o _ = Unit {0}

-- a walk can ask the field f of the table at t: what its kind names is there, and a union's types were checked before
pub record IsAskable (b : List ℕ) (S : Rows) (t : ℕ) (f : Live) (kind : Kind) : Type 0 where
  pub served : IsServed S
  pub holds : KindHolds S f kind
  pub typed : IsTyped b t f.slot kind

-- a field of this table may be tested that stands at p, and its words put in place of this row
pub record MayPut (c : Checks) (m : Lent) (S : Rows) (table : Table) (f : Live) (kind : Kind) (p : ℕ) (old : Row) : Type 0 where
  pub askable : IsAskable m.bytes S table.at f kind
  pub few : m.count < m.base + 2 ^ 58
  pub placed : IsPlaced c m.bytes table.at table.head p
  pub rests : old.left ≡ 0
