-- The frames of a walk: what they say of the walk so far, and the work that is left to it.
use Rattle.std.specs.Prelude.{◌≡◌, ℕ, ◌+◌, ◌-◌, ◌*◌, ◌^◌, ◌<◌, ◌≤◌, ◌⊎◌, IsTrue, List, [], ◌∷◌, ◌++◌, length, map, Option, Some, None, slice_get}
use Rattle.std.specs.List.{All, sum_by}
use Rattle.fb_schema.specs.{Rows.Rows, Rows.is_table, Live.Live, Live.live_fields, Served.IsServed, declared.kinds.Kind.Kind}
use Rattle.fb_schema.specs.declared.kinds.Kind.TheVariants.{Union, Texts, Tables, Unions}
use Rattle.fb_bytes.specs.Word.{Lent, word}
use Rattle.fb_rules.specs.{Bounds.Bounds, Bounds.AreAllowed, Question.Question, Places.target, Places.has_slot, Places.field_place, Cost.lead_reads, Order.element_failure, Way.Way}
use Rattle.fb_rules.specs.{Told.IsHead, Told.stopped, Links.element_link, Links.LeadsAlong, Links.StopsAlong, Fields.IsField, Fields.to_table, Fields.entries, Fields.type_place}
use Rattle.fb_rules.specs.{Fields.type_count, OffsetRows.words_of, OffsetRows.first_word, OffsetRows.IsRow, OffsetRows.IsTyped, OffsetRows.TypeFits, OffsetRows.TypesFit}
use Rattle.fb_rules.specs.declared.{checks.Checks.Checks, fault.Fault.Fault, offset_row.Referent.TheVariants.Nothing, offset_row.Leads.TheVariants.All as AllTo, site.Halt.Halt}
use Rattle.fb_rules.specs.declared.{site.LastLink.LastLink, site.LastLink.TheVariants.Behind, site.LastLink.TheVariants.InField, table.Child.Child, table.Table.Table, link.Link.Link}
use Rattle.fb_verify.specs.{Walked.ended, Walked.TableWalked, Walked.IsInside, Walked.IsInField, Walked.Waits, declared.scratch.Frame.Frame, declared.stack.Walk.Walk}

-- what no walk has written
abbrev pub blank : Frame
blank = record { table = record { object = 0; at = 0; head = record { vtable = 0; size = 0; inline = 0 } }; next = 0; number = 0; row = record { leads = AllTo Nothing; place = 0; left = 0 } }

-- a frame that the walk can go on with
pub record IsFrame (c : Checks) (b : List ℕ) (S : Rows) (fr : Frame) : Type 0 where
  pub object : IsTrue (is_table S (fr.table).object)
  pub near : (fr.table).at < 2 ^ 33
  pub head : IsHead c b (fr.table).at (fr.table).head
  pub next : fr.next ≤ length (live_fields S (fr.table).object)
  pub row : IsRow b S fr.row

-- the turns and reads that are left for a frame at most, but for those of tables to be opened
abbrev pub frame_work : Rows → Frame → ℕ
frame_work S fr = 1 + 2 ^ 33 * (length (live_fields S (fr.table).object) - fr.next) + 8 * (fr.row).left

-- and for the whole stack, the frames that wait below and the top, after so many tables
unfoldable pub work : Rows → Bounds → List Frame → Frame → ℕ → ℕ
work S L below top tables = sum_by (frame_work S) below + frame_work S top + 2 ^ 49 * (L.tables - tables)

-- into a table of the object k at the end of the way w, where the walk came to n tables, the depth d and r reads
abbrev pub reached : Way → ℕ → Option ℕ → ℕ → ℕ → ℕ → Way
reached w k field n d r = record { links = w.links + 1; passed = n; deepest = d; paid = r; leading = 0; object = k; field = field }

-- no field of the frame's table is under check
pub record Resting (c : Checks) (b : List ℕ) (S : Rows) (fr : Frame) (w : Way) (n d r : ℕ) : Type 0 where
  pub none : (fr.row).left ≡ 0
  pub inside : IsInside c b S (fr.table).object (fr.table).at w fr.next (reached w (fr.table).object None n d r)

-- a field is under check, and the row is left of it
abbrev pub Middle : Checks → List ℕ → Rows → Frame → Way → ℕ → ℕ → ℕ → Type 0
Middle c b S fr w n d r = IsInField c b S (fr.table).object (fr.table).at w fr.next fr.number (words_of b S fr.row) (reached w (fr.table).object (Some fr.number) n d r)

-- a field waits for the table at t of the object k, to which the way u leads, and the row is left of it after that
abbrev pub Goes : Checks → List ℕ → Rows → Frame → Way → ℕ → ℕ → Way → Type 0
Goes c b S fr w k t u = Waits c b S (fr.table).object (fr.table).at w fr.next fr.number (words_of b S fr.row) k t u

-- these frames lead from the table at t of the object k to the one at t' of the object k'
abbrev pub Context : Checks → List ℕ → Rows → List Frame → ℕ → ℕ → Way → ℕ → ℕ → Way → Type 0
Context c b S [] k t w k' t' v = (k ≡ k') × (t ≡ t') × (w ≡ v)
Context c b S (fr ∷ rest) k t w k' t' v =
    ((fr.table).object ≡ k) × ((fr.table).at ≡ t) × (k₁ : ℕ) × (t₁ : ℕ) × (u : Way) × Goes c b S fr w k₁ t₁ u × Context c b S rest k₁ t₁ u k' t' v

-- where a walk began: at the table at this position of this object, at the end of this way
pub record Origin : Type 0 where
  pub object : ℕ
  pub position : ℕ
  pub way : Way

-- what is below the top of a walk: where it began, and the frames that wait
pub record Waiting : Type 0 where
  pub start : Origin
  pub frames : List Frame

-- the frames below lead from there to the top, where the walk came to n tables, the depth d and r reads
pub record Standing (c : Checks) (b : List ℕ) (S : Rows) (s : Origin) (below : List Frame) (top : Frame) (n d r : ℕ) : Type 0 where
  pub v : Way
  pub root : (s.way).links ≡ 0
  pub under : Context c b S below s.object s.position s.way (top.table).object (top.table).at v
  pub at : Resting c b S top v n d r ⊎ Middle c b S top v n d r

-- a walk that is under way, with these frames below the top, within these limits
pub record IsUnderWay (c : Checks) (b : List ℕ) (S : Rows) (L : Bounds) (s : Origin) (below : List Frame) (top : Frame) (n d r : ℕ) : Type 0 where
  pub served : IsServed S
  pub tables : n ≤ L.tables
  pub deepest : d ≤ L.depth
  pub reads : AreAllowed L.reads r
  pub links : length below < L.depth
  pub low : length below < 4096
  pub frames : All (IsFrame c b S) below
  pub frame : IsFrame c b S top
  pub standing : Standing c b S s below top n d r

-- the same of what a walk carries and of the buffer that it reads
abbrev pub IsWalking : Walk → Lent → Origin → List Frame → Frame → Type 0
IsWalking w m s below top = IsUnderWay w.checks m.bytes w.schema.now w.limits s below top w.tables w.deepest m.count

-- a walk through these bytes, which came to r reads, where the last one was the slot of the top's next field, which
-- tells that this stands at a place
pub record IsAtField (w : Walk) (b : List ℕ) (r : ℕ) (s : Origin) (below : List Frame) (top : Frame) (place : ℕ) : Type 0 where
  pub before : ℕ
  pub count : r ≡ before + 1
  pub walking : IsUnderWay w.checks b w.schema.now w.limits s below top w.tables w.deepest before
  pub within : top.next < length (live_fields w.schema.now (top.table).object)
  pub present : (f : Live) → slice_get (live_fields w.schema.now (top.table).object) top.next ≡ Some f → (field_place b (top.table).at f.slot ≡ Some place) × IsTrue (has_slot b (top.table).at f.slot)
  pub near : place < 2 ^ 34

-- a walk through these bytes, which came to r reads, where the last ones were those of the first uoffset that is
-- left of the top's field: it leads to this table. Before them, with four for each word that is left, there were so
-- many at most
pub record IsAtTable (w : Walk) (b : List ℕ) (r : ℕ) (s : Origin) (below : List Frame) (top : Frame) (most : ℕ) (child : Child) : Type 0 where
  pub before : ℕ
  pub count : r ≡ before + (first_word b w.schema.now top.row).reads + lead_reads (first_word b w.schema.now top.row).lead
  pub walking : IsUnderWay w.checks b w.schema.now w.limits s below top w.tables w.deepest before
  pub more : 0 < (top.row).left
  pub holds : element_failure w.checks b (first_word b w.schema.now top.row) ≡ None
  pub leads : (first_word b w.schema.now top.row).lead ≡ to_table child.object
  pub table : IsTrue (is_table w.schema.now child.object)
  pub at : child.at ≡ target b (top.row).place
  pub near : child.at < 2 ^ 33
  pub paid : before + 4 * (top.row).left ≤ most

-- the walk is over: the table where it began was walked
abbrev pub IsOver : Walk → Lent → Origin → Type 0
IsOver w m s = TableWalked w.checks m.bytes w.schema.now s.object s.position s.way (ended s.way w.tables w.deepest m.count)

-- A walk that stops: the words behind which the frames' rows were left lead to the fault, link by link.

-- the link through the word before a frame's row, which is one of this field
abbrev pub link_behind : List ℕ → Rows → Frame → Option Live → Link
link_behind b S fr None = record { object = (fr.table).object; field = 0; element = None; member = None }
link_behind b S fr (Some g) = element_link b (fr.table).object (fr.table).at g (length (entries b S (fr.table).at g) - (fr.row).left - 1)

-- the same, of the field before the frame's next
abbrev pub frame_link : List ℕ → Rows → Frame → Link
frame_link b S fr = link_behind b S fr (slice_get (live_fields S (fr.table).object) (fr.next - 1))

-- the field before the frame's next holds by itself, and a word of it stands before the row that was left
pub record IsLinked (c : Checks) (b : List ℕ) (S : Rows) (fr : Frame) : Type 0 where
  pub frame : IsFrame c b S fr
  pub some : 0 < fr.next
  pub field : Live
  pub found : slice_get (live_fields S (fr.table).object) (fr.next - 1) ≡ Some field
  pub own : IsField c b S (fr.table).at field
  pub typed : IsTyped b (fr.table).at field.slot field.kind
  pub more : (fr.row).left < length (entries b S (fr.table).at field)

-- how many uoffsets a field of this kind at p has that leads on
abbrev pub word_count : List ℕ → ℕ → Kind → ℕ
word_count b p Texts = word b (target b p) 4
word_count b p (Tables k) = word b (target b p) 4
word_count b p (Unions e) = word b (target b p) 4
word_count b p _ = 1

-- where it is a vector, its count can be read
pub record CountIsIn (b : List ℕ) (p : ℕ) : Type 0 where
  pub offset : p + 4 ≤ length b
  pub count : target b p + 4 ≤ length b

abbrev pub CountStands : List ℕ → ℕ → Kind → Type 0
CountStands b p Texts = CountIsIn b p
CountStands b p (Tables k) = CountIsIn b p
CountStands b p (Unions e) = CountIsIn b p
CountStands b p _ = Unit {0}

-- where it is a union, or a vector of these of which j are passed, the type can be read
abbrev pub TypeStands : List ℕ → ℕ → ℕ → ℕ → Kind → Type 0
TypeStands b t o j (Union e) = TypeFits b t o
TypeStands b t o j (Unions e) = TypesFit b t o × (j < type_count b (type_place b t o))
TypeStands b t o j _ = Unit {0}

-- the link to the field that a fault names
abbrev pub link_to_number : ℕ → Option ℕ → List Link
link_to_number k None = []
link_to_number k (Some n) = record { object = k; field = n; element = None; member = None } ∷ []

abbrev pub own_link : Fault → List Link
own_link f = link_to_number f.object f.field

-- a walk from there stops at this fault: the links of these frames lead to it, and then these
pub record StopsIn (c : Checks) (b : List ℕ) (S : Rows) (L : Bounds) (s : Origin) (frames : List Frame) (last : List Link) (f : Fault) : Type 0 where
  pub along : LeadsAlong c b S L s.object s.position s.way f (map (frame_link b S) frames ++ last)
  pub linked : All (IsLinked c b S) frames

-- what the links of frames leave of the way to a fault
abbrev pub last_link : LastLink → Fault → List Link
last_link Behind f = []
last_link InField f = own_link f

-- how many links these are at most
abbrev pub links_left : LastLink → ℕ
links_left Behind = 0
links_left InField = 1

-- it stops in a field of the table to which these frames lead
abbrev pub IsStopped : Walk → Lent → Origin → List Frame → Fault → Type 0
IsStopped w m s frames f = StopsIn w.checks m.bytes w.schema.now w.limits s frames (own_link f) f

-- it stops behind the words of these frames
abbrev pub IsStoppedBehind : Walk → Lent → Origin → List Frame → Fault → Type 0
IsStoppedBehind w m s frames f = StopsIn w.checks m.bytes w.schema.now w.limits s frames [] f

-- it came to this halt after so many reads, by the links of these frames
abbrev pub HaltsIn : Walk → Lent → Origin → List Frame → Halt → ℕ → Type 0
HaltsIn w m s frames h reads = StopsIn w.checks m.bytes w.schema.now w.limits s frames (last_link h.last (stopped h.stop reads)) (stopped h.stop reads)

-- a whole walk came to this fault by the links of these frames
pub record HaltsAlong (q : Question) (b : List ℕ) (frames : List Frame) (last : LastLink) (f : Fault) : Type 0 where
  pub along : StopsAlong q b f (map (frame_link b q.rows) frames ++ last_link last f)
  pub linked : All (IsLinked q.checks b q.rows) frames

-- the frame of a table that was opened
abbrev pub opened : Table → Frame
opened table = record { table = table; next = blank.next; number = blank.number; row = blank.row }
