-- A pass over a buffer that unfolds: what is left to be asked, as the frames of the open tables hold it.
use Rattle.std.specs.Prelude.{◌≡◌, ◌⊎◌, ℕ, zero, suc, ◌+◌, ◌-◌, ◌*◌, ◌^◌, ◌<◌, ◌≤◌, nat_le, IsTrue, true, max, List, [], ◌∷◌}
use Rattle.std.specs.Prelude.{◌++◌, length, map, take, drop, get_or, slice_get, Option, Some, None, Result, Ok, Err, IfOk}
use Rattle.fb_bytes.specs.Word.{Lent, word}
use Rattle.fb_schema.specs.{Rows.Rows, Rows.is_table, Rows.is_union, Live.Live, Live.live_fields, Served.IsServed, Served.IsSized, Served.KindHolds}
use Rattle.fb_rules.specs.declared.{checks.Checks.Checks, fault.Fault.Fault, site.Site.Site, site.Stop.Stop, site.Halt.Halt, table.Table.Table, table.Child.Child}
use Rattle.fb_rules.specs.declared.{site.LastLink.LastLink, site.LastLink.TheVariants.Behind, site.LastLink.TheVariants.InField, link.Link.Link, offset_row.Referent.Referent}
use Rattle.fb_rules.specs.declared.offset_row.{Row.Row, Leads.Leads, Leads.TheVariants.All, Leads.TheVariants.ByType, Referent.TheVariants.Text as AText}
use Rattle.fb_rules.specs.{declared.offset_row.Referent.TheVariants.Table as ATable, declared.offset_row.Referent.TheVariants.Nothing, Bounds.Bounds, Bounds.AreAllowed}
use Rattle.fb_rules.specs.{Bounds.allowed, Places.target, Places.field_place, Fields.IsField, Fields.type_place, Fields.types_begin, Fields.union_type, Cost.head_reads}
use Rattle.fb_rules.specs.{Cost.slot_reads, Cost.reads_if_present, Order.Failure, Order.after, Order.◌▷◌, Stops.reads_failure, Told.IsHead, Told.IsAskedAt, Told.told, Told.stopped}
use Rattle.fb_rules.specs.{OffsetRows.words_of, OffsetRows.past_first, OffsetRows.IsTyped, OffsetRows.TypeFits, OffsetRows.TypesFit, Tree.Tree, Tree.Kids, Tree.kids_depth}
use Rattle.fb_rules.specs.{Tree.Elements, Tree.elements_depth, Tree.depth, Unfolds.FieldsUnfold, Unfolds.ElementsUnfold, Unfolds.Unfolds}
use Rattle.fb_verify.specs.Stack.{own_link, last_link, links_left}
use Rattle.fb_strict.specs.declared.{inner.Inner.Inner, room.Frame.Frame, tasks.Ask.Ask, tasks.Task.Task, pass.Turn.Turn, pass.Turned.Turned, pass.Turn.TheVariants.Here}
use Rattle.fb_strict.specs.declared.pass.{Turn.TheVariants.Up, Turn.TheVariants.Down, Turn.TheVariants.In, Turned.TheVariants.Open, Turned.TheVariants.Inside}
use Rattle.fb_strict.specs.declared.tasks.{Held.TheVariants.Buffer, Held.TheVariants.Flex, Ask.TheVariants.Text as AskText, Ask.TheVariants.Texts as AskTexts}
use Rattle.fb_strict.specs.declared.tasks.Ask.TheVariants.{Union as AskUnion, Unions as AskUnions, Table as GoInto, Tables as GoIntoEach, Bytes as AskBytes}
use Rattle.fb_strict.specs.{Planned.Planned, Planned.IsPlan, Planned.task_of, Planned.tasks_in, Skipped.Wants, Planned.wants_in, InOrder.where_asked, InOrder.places_reads}
use Rattle.fb_strict.specs.InOrder.{union_failure, union_reads, together_failure, bytes_failure, bytes_reads, bytes_inner, element_failure, element_reads, member_at, text_failure}
use Rattle.fb_strict.specs.{InOrder.text_reads, Asked.Demand, Asked.reading, Asked.slots_demands, Asked.asked_referent, Asked.first_referent, Asked.vectors_reads}
use Rattle.fb_strict.specs.Asked.{demands_in_fields, demands_in_row, demands_in, ArePlain, demands_reads, demand_fault, first_fault}
use Rattle.fb_strict.specs.Demanded.{Demanded}

-- what a pass carries: its plan, the rows, its limits and checks
pub record Passing : Type 0 where
  pub plan : Planned
  pub rows : Rows
  pub limits : Bounds
  pub checks : Checks

-- what it wants
abbrev pub wants_of : Passing → Wants
wants_of p = wants_in p.plan

-- what always holds of it, and of the bytes that are read
pub record IsPassing (p : Passing) (b : List ℕ) : Type 0 where
  pub plan : IsPlan p.rows (p.plan).demands p.plan
  pub served : IsServed p.rows
  pub short : length b < 2 ^ 31

-- where so many reads were counted before a count of 64 bits began, the limits allow as many of these as the room says
abbrev pub IsRoom : Bounds → (base room : ℕ) → Type 0
IsRoom L base room = (n : ℕ) → n < 2 ^ 64 → allowed L.reads (base + n) ≡ nat_le n room

-- what no pass has written
abbrev pub blank : Frame
blank = record { table = record { object = 0; at = 0; head = record { vtable = 0; size = 0; inline = 0 } }; next = 0; number = 0; row = record { leads = All Nothing; place = 0; left = 0 } }

-- the frame of a table that was opened
abbrev pub opened : Table → Frame
opened table = record { table = table; next = blank.next; number = blank.number; row = blank.row }

-- One task of the table at t, whose field has this slot, and whose type field and value stand at these places.

-- the chain of its tests
abbrev pub task_failure : Demanded → Checks → List ℕ → Rows → (t slot : ℕ) → (types place : Option ℕ) → Ask → Option Failure
task_failure D c b S t slot types place AskText = None
task_failure D c b S t slot types place AskTexts = None
task_failure D c b S t slot types place (GoInto k) = None
task_failure D c b S t slot types place (AskUnion e) = after (places_reads b t slot) (where_asked D.unions (union_failure c b S e t types place))
task_failure D c b S t slot types place (GoIntoEach k) = None
task_failure D c b S t slot types place (AskUnions e) = after (places_reads b t slot) (where_asked D.unions (together_failure types place))
task_failure D c b S t slot types place (AskBytes held) = bytes_failure b t slot place held

-- the reads where this finds nothing
abbrev pub task_reads : Demanded → List ℕ → Rows → (t slot : ℕ) → (types place : Option ℕ) → Ask → ℕ
task_reads D b S t slot types place AskText = slot_reads b t slot
task_reads D b S t slot types place AskTexts = slot_reads b t slot + reads_if_present 2 place
task_reads D b S t slot types place (GoInto k) = slot_reads b t slot
task_reads D b S t slot types place (AskUnion e) = places_reads b t slot + union_reads D.unions b S e types place
task_reads D b S t slot types place (GoIntoEach k) = slot_reads b t slot + reads_if_present 2 place
task_reads D b S t slot types place (AskUnions e) = places_reads b t slot + vectors_reads types place
task_reads D b S t slot types place (AskBytes held) = bytes_reads b t slot place held

-- the buffer that its bytes hold
abbrev pub task_inner : List ℕ → Ask → (place : Option ℕ) → Option Inner
task_inner b (AskBytes held) place = bytes_inner b held place
task_inner b _ _ = None

-- one uoffset at p that leads to this, if it is anything
abbrev pub word_row : ℕ → Referent → Row → Row
word_row p Nothing old = old
word_row p referent old = record { leads = All referent; place = p; left = 1 }

-- the words that are left of the field then
abbrev pub task_row : Wants → List ℕ → Rows → (types place : Option ℕ) → Ask → Row → Row
task_row w b S types None ask old = old
task_row w b S types (Some p) AskText old = record { leads = All AText; place = p; left = 1 }
task_row w b S types (Some p) AskTexts old = record { leads = All AText; place = target b p + 4; left = word b (target b p) 4 }
task_row w b S types (Some p) (GoInto k) old = record { leads = All (ATable k); place = p; left = 1 }
task_row w b S types (Some p) (AskUnion e) old = word_row p (asked_referent w (member_at b S e types (Some p))) old
task_row w b S types (Some p) (GoIntoEach k) old = record { leads = All (ATable k); place = target b p + 4; left = word b (target b p) 4 }
task_row w b S (Some q) (Some p) (AskUnions e) old = record { leads = ByType e (target b q + 4); place = target b p + 4; left = word b (target b p) 4 }
task_row w b S None (Some p) (AskUnions e) old = old
task_row w b S types (Some p) (AskBytes held) old = old

-- a uoffset stands at p, and the count of the vector to which it leads
pub record CountStands (b : List ℕ) (p : ℕ) : Type 0 where
  pub offset : p + 4 ≤ length b
  pub count : target b p + 4 ≤ length b

-- and the bytes behind that
pub record BytesStand (b : List ℕ) (p : ℕ) : Type 0 where
  pub vector : CountStands b p
  pub within : target b p + 4 + word b (target b p) 4 ≤ length b

-- what a task relies on, whose field's value stands at this place
abbrev pub IsTaskable : List ℕ → Rows → (t slot : ℕ) → Option ℕ → Ask → Type 0
IsTaskable b S t slot place AskText = Unit {0}
IsTaskable b S t slot place AskTexts = (p : ℕ) → place ≡ Some p → CountStands b p
IsTaskable b S t slot place (GoInto k) = Unit {0}
IsTaskable b S t slot place (AskUnion e) = IsTrue (is_union S e) × TypeFits b t slot
IsTaskable b S t slot place (GoIntoEach k) = (p : ℕ) → place ≡ Some p → CountStands b p
IsTaskable b S t slot place (AskUnions e) = TypesFit b t slot × ((p : ℕ) → place ≡ Some p → CountStands b p)
IsTaskable b S t slot place (AskBytes Flex) = Unit {0}
IsTaskable b S t slot place (AskBytes (Buffer k)) = IsTrue (is_table S k) × ((p : ℕ) → place ≡ Some p → BytesStand b p)

-- a field with this task has one uoffset, or a vector of them, and each leads to this
abbrev pub IsOne : Ask → Referent → Type 0
IsOne AskText referent = referent ≡ AText
IsOne (GoInto k) referent = referent ≡ ATable k
IsOne _ referent = ⊥

abbrev pub IsEach : Ask → Referent → Type 0
IsEach AskTexts referent = referent ≡ AText
IsEach (GoIntoEach k) referent = referent ≡ ATable k
IsEach _ referent = ⊥

-- What is left of a frame.

-- a row of words is left of which each leads to a text, or to a table that is asked, or has a type
abbrev pub AreAskedWords : Passing → List ℕ → ℕ → Leads → Type 0
AreAskedWords p b n (All (ATable k)) = ((wants_of p).asks k ≡ true) × IsTrue (is_table p.rows k)
AreAskedWords p b n (All AText) = (wants_of p).demands.utf8 ≡ true
AreAskedWords p b n (All _) = ⊥
AreAskedWords p b n (ByType e q) = IsTrue (is_union p.rows e) × (q + n ≤ length b)

pub record IsAskedRow (p : Passing) (b : List ℕ) (r : Row) : Type 0 where
  pub near : r.place + 4 * r.left < 2 ^ 35
  pub leads : 0 < r.left → AreAskedWords p b r.left r.leads

-- a live field of the table at t, which holds: a union's types were checked before
pub record IsKnown (c : Checks) (b : List ℕ) (S : Rows) (t : ℕ) (f : Live) : Type 0 where
  pub own : IsField c b S t f
  pub typed : IsTyped b t f.slot f.kind
  pub kind : KindHolds S f f.kind
  pub sized : IsSized S f

unfoldable pub AreKnown : Checks → List ℕ → Rows → ℕ → List Live → Type 0
AreKnown c b S t [] = Unit {0}
AreKnown c b S t (f ∷ fs) = IsKnown c b S t f × AreKnown c b S t fs

-- The links through uoffsets that were passed: a frame tells its own by its last task, and by how many words are
-- left behind it.

-- how many uoffsets a field with this task has, whose value stands at this place
abbrev pub ask_words : List ℕ → Option ℕ → Ask → ℕ
ask_words b None ask = 0
ask_words b (Some p) AskTexts = word b (target b p) 4
ask_words b (Some p) (GoIntoEach k) = word b (target b p) 4
ask_words b (Some p) (AskUnions e) = word b (target b p) 4
ask_words b (Some p) _ = 1

abbrev pub task_words : List ℕ → (t : ℕ) → Task → ℕ
task_words b t task = ask_words b (field_place b t task.slot) task.ask

-- the number of an element with j others before it, where the field with this task is a vector
abbrev pub ask_element : ℕ → Ask → Option ℕ
ask_element j AskTexts = Some j
ask_element j (GoIntoEach k) = Some j
ask_element j (AskUnions e) = Some j
ask_element j _ = None

-- the type of a union with j others before it, where the field is a union or a vector of these, whose types stand here
abbrev pub ask_member : List ℕ → (types : Option ℕ) → ℕ → Ask → Option ℕ
ask_member b types j (AskUnion e) = Some (union_type b types)
ask_member b types j (AskUnions e) = Some (word b (types_begin b types + j) 1)
ask_member b types j _ = None

-- the link through the uoffset with j others before it
abbrev pub task_link : List ℕ → (k t : ℕ) → Task → ℕ → Link
task_link b k t task j = record { object = k; field = task.number; element = ask_element j task.ask; member = ask_member b (type_place b t task.slot) j task.ask }

-- the link through the word behind which a frame's row was left, of this task
abbrev pub link_behind : List ℕ → Frame → Option Task → Link
link_behind b fr None = record { object = (fr.table).object; field = 0; element = None; member = None }
link_behind b fr (Some task) = task_link b (fr.table).object (fr.table).at task (task_words b (fr.table).at task - (fr.row).left - 1)

-- the same, of the task before the frame's next
abbrev pub frame_link : Wants → List ℕ → Rows → Frame → Link
frame_link w b S fr = link_behind b fr (slice_get (tasks_in w S (fr.table).object (live_fields S (fr.table).object)) (fr.next - 1))

-- the last task of an open table, before this one, and its field
pub record IsTasked (w : Wants) (c : Checks) (b : List ℕ) (S : Rows) (table : Table) (next : ℕ) : Type 0 where
  pub object : IsTrue (is_table S table.object)
  pub near : table.at < 2 ^ 33
  pub head : IsHead c b table.at table.head
  pub some : 0 < next
  pub task : Task
  pub found : slice_get (tasks_in w S table.object (live_fields S table.object)) (next - 1) ≡ Some task
  pub field : Live
  pub its : task_of w S table.object field ≡ Some task
  pub known : IsKnown c b S table.at field

-- a word of it stands before the row that was left
pub record IsLinked (w : Wants) (c : Checks) (b : List ℕ) (S : Rows) (fr : Frame) : Type 0 where
  pub last : IsTasked w c b S fr.table fr.next
  pub more : (fr.row).left < task_words b (fr.table).at last.task

-- the links of the first so many of these frames, and that each has one
abbrev pub frame_links : Wants → List ℕ → Rows → List Frame → ℕ → List Link
frame_links w b S frames n = map (frame_link w b S) (take n frames)

abbrev pub AreLinked : Wants → Checks → List ℕ → Rows → List Frame → ℕ → Type 0
AreLinked w c b S frames n = (i : ℕ) → i < n → IsLinked w c b S (get_or frames i blank)

-- a frame whose next word, with so many before it, is one of its last task: the links of the word's demands are those
-- by which the table was reached, and then the one through the word
pub record IsOnWay (w : Wants) (c : Checks) (b : List ℕ) (S : Rows) (via : List Link) (fr : Frame) (way : ℕ → List Link) (passed : ℕ) : Type 0 where
  pub last : IsTasked w c b S fr.table fr.next
  pub count : passed + (fr.row).left ≡ task_words b (fr.table).at last.task
  pub through : (j : ℕ) → way j ≡ via ++ task_link b (fr.table).object (fr.table).at last.task j ∷ []

-- the frame of a table that is open, to which these links lead, stands for these demands: those of the words that are
-- left of a field, and then those of the other fields. There are frames for so many tables from this one on
pub record IsLeft (p : Passing) (b : List ℕ) (room : ℕ) (via : List Link) (fr : Frame) (ds : List Demand) : Type 0 where
  pub object : IsTrue (is_table p.rows (fr.table).object)
  pub near : (fr.table).at < 2 ^ 33
  pub head : IsHead p.checks b (fr.table).at (fr.table).head
  pub fields : List Live
  pub known : AreKnown p.checks b p.rows (fr.table).at fields
  pub tasks : drop fr.next (tasks_in (wants_of p) p.rows (fr.table).object (live_fields p.rows (fr.table).object)) ≡ tasks_in (wants_of p) p.rows (fr.table).object fields
  pub kids : Kids
  pub unfolds : FieldsUnfold kids p.checks b p.rows (fr.table).at fields
  pub words : Elements
  pub row : ElementsUnfold words p.checks b p.rows (words_of b p.rows fr.row)
  pub asked : IsAskedRow p b fr.row
  pub deep : max (elements_depth words) (kids_depth kids) < room
  pub way : ℕ → List Link
  pub passed : ℕ
  pub linked : 0 < (fr.row).left → IsOnWay (wants_of p) p.checks b p.rows via fr way passed
  pub all : ds ≡ demands_in_row words (wants_of p) p.checks b p.rows way (fr.table).object fr.number passed (fr.row).place (fr.row).leads
      ++ demands_in_fields kids (wants_of p) p.checks b p.rows via (fr.table).object (fr.table).at fields

-- the first so many of these frames stand for these demands, the last of them first, and each but that has its link
unfoldable pub AreLeft : Passing → List ℕ → List Frame → ℕ → List Demand → Type 0
AreLeft p b frames zero ds = ds ≡ []
AreLeft p b frames (suc n) ds = (own : List Demand) × (others : List Demand) × IsLeft p b (length frames - n) (frame_links (wants_of p) b p.rows frames n) (get_or frames n blank) own
    × AreLeft p b frames n others × (ds ≡ own ++ others) × AreLinked (wants_of p) p.checks b p.rows frames n

-- a pass goes on from these demands after so many reads to those after so many: it met those before them, none of which
-- has a buffer inside
pub record Moves (L : Bounds) (paid : ℕ) (ds : List Demand) (last : ℕ) (left : List Demand) : Type 0 where
  pub met : List Demand
  pub all : ds ≡ met ++ left
  pub plain : ArePlain met
  pub none : first_fault L paid met ≡ None
  pub count : last ≡ paid + demands_reads met

-- it goes on to one that isn't met, to which these links lead
pub record Breaks (L : Bounds) (paid : ℕ) (ds : List Demand) (f : Fault) (links : List Link) : Type 0 where
  pub last : ℕ
  pub it : Demand
  pub later : List Demand
  pub moves : Moves L paid ds last (it ∷ later)
  pub fails : demand_fault it last (it.chain ▷ reads_failure L last it.reads it.at) ≡ Some f
  pub along : it.links ≡ links

-- the turns that are left for a frame at most, but for those of tables to be opened
abbrev pub frame_work : Passing → Frame → ℕ
frame_work p fr = 1 + 2 ^ 33 * (length (tasks_in (wants_of p) p.rows (fr.table).object (live_fields p.rows (fr.table).object)) - fr.next) + (fr.row).left

-- and for so many of these frames
unfoldable pub frames_work : Passing → List Frame → ℕ → ℕ
frames_work p frames zero = 0
frames_work p frames (suc n) = frame_work p (get_or frames n blank) + frames_work p frames n

-- The table at this position, of this object, to which these links lead, is to be opened: it unfolds into a tree with
-- these demands, for whose tables there are so many frames.
pub record IsNext (p : Passing) (b : List ℕ) (room : ℕ) (via : List Link) (child : Child) (ds : List Demand) : Type 0 where
  pub tree : Tree
  pub unfolds : Unfolds tree p.checks b p.rows child.object child.at
  pub object : IsTrue (is_table p.rows child.object)
  pub near : child.at < 2 ^ 33
  pub deep : depth tree ≤ room
  pub all : ds ≡ demands_in tree (wants_of p) p.checks b p.rows via

-- a task of the table at t was done: its demand is met, and the words of its field were put; or the pass stops
pub record TaskPassed {A : Type 0} (p : Passing) (m new : Lent) (t : ℕ) (site : Site) (slot : ℕ) (ask : Ask) (old past : Row) (result : Result A Stop) : Type 0 where
  pub asked : IsAskedAt site p.limits m new (task_failure (p.plan).demands p.checks m.bytes p.rows t slot (type_place m.bytes t slot) (field_place m.bytes t slot) ask)
      (task_reads (p.plan).demands m.bytes p.rows t slot (type_place m.bytes t slot) (field_place m.bytes t slot) ask) t result
  pub row : IfOk result (λ _. past ≡ task_row (wants_of p) m.bytes p.rows (type_place m.bytes t slot) (field_place m.bytes t slot) ask old)

-- the same, of a task whose field's bytes may hold a buffer, which is told
pub record TaskDone (p : Passing) (m new : Lent) (t : ℕ) (site : Site) (slot : ℕ) (ask : Ask) (old past : Row) (result : Result (Option Inner) Stop) : Type 0 where
  pub passed : TaskPassed p m new t site slot ask old past result
  pub inner : IfOk result (λ o. o ≡ task_inner m.bytes ask (field_place m.bytes t slot))

-- the first word of a row was asked, where its type tells what it leads to, and this tells what that is; or the pass
-- stops
abbrev pub FirstPassed : (p : Passing) → (m new : Lent) → Site → (place : ℕ) → Leads → Result Referent Stop → Type 0
FirstPassed p m new site place (All referent) result = (result ≡ Ok referent) × (new ≡ m)
FirstPassed p m new site place (ByType e q) result =
    IsAskedAt site p.limits m new (where_asked (p.plan).demands.unions (element_failure p.checks m.bytes p.rows e q place)) (element_reads (p.plan).demands.unions m.bytes p.rows e q) place result
    × IfOk result (λ r. r ≡ first_referent (wants_of p) m.bytes p.rows (ByType e q))

-- the uoffset at p leads to a text that lies in the buffer
pub record TextStands (b : List ℕ) (p : ℕ) : Type 0 where
  pub offset : p + 4 ≤ length b
  pub count : target b p + 4 ≤ length b
  pub within : target b p + 4 + word b (target b p) 4 ≤ length b

-- the text to which the uoffset at this place leads was asked: its reads are within the limits, and then it is
-- UTF-8; or the pass stops
abbrev pub TextPassed : (p : Passing) → (m new : Lent) → Site → (place : ℕ) → Result (Unit {0}) Stop → Type 0
TextPassed p m new site place (Ok a) =
    (new ≡ record m { count = m.count + text_reads m.bytes (target m.bytes place) }) × AreAllowed (p.limits).reads new.count × (text_failure m.bytes (target m.bytes place) ≡ None)
TextPassed p m new site place (Err s) =
    (told site m.count (reads_failure p.limits m.count (text_reads m.bytes (target m.bytes place)) place) ≡ Some (stopped s new.count))
    ⊎ ((new ≡ record m { count = m.count + text_reads m.bytes (target m.bytes place) }) × AreAllowed (p.limits).reads new.count
    × (told site new.count (text_failure m.bytes (target m.bytes place)) ≡ Some (stopped s new.count)))

-- what a uoffset at p leads to lies in the buffer, where it is asked
abbrev pub ReferentStands : List ℕ → (p : ℕ) → Referent → Type 0
ReferentStands b p AText = TextStands b p
ReferentStands b p (ATable k) = p + 4 ≤ length b
ReferentStands b p _ = Unit {0}

-- it was asked, so that a pass with so many frames open goes on, or comes to a table; or it stops behind the word
abbrev pub ReferentPassed : (p : Passing) → (m new : Lent) → Site → (place many : ℕ) → Child → Referent → Result Turn Halt → Type 0
ReferentPassed p m new site place many child AText (Ok Here) = TextPassed p m new site place (Ok tt)
ReferentPassed p m new site place many child AText (Err h) = (h ≡ record { stop = h.stop; links = many; last = Behind }) × TextPassed p m new site place (Err h.stop)
ReferentPassed p m new site place many child (ATable k) (Ok Down) =
    IsAskedAt {A = ℕ} site p.limits m new None 1 place (Ok child.at) × (child.at ≡ target m.bytes place) × (child.at < 2 ^ 33) × (child.object ≡ k)
ReferentPassed p m new site place many child (ATable k) (Err h) = (h ≡ record { stop = h.stop; links = many; last = Behind }) × IsAskedAt {A = ℕ} site p.limits m new None 1 place (Err h.stop)
ReferentPassed p m new site place many child AText _ = ⊥
ReferentPassed p m new site place many child (ATable k) _ = ⊥
ReferentPassed p m new site place many child _ (Ok Here) = new ≡ m
ReferentPassed p m new site place many child _ _ = ⊥

-- One step in the top table, from a frame to another, after which the pass goes on there, in the table above or in one
-- below; or it stops.

-- of these bytes, so many reads more were counted
pub record GoesOn (p : Passing) (m new : Lent) (ds left : List Demand) : Type 0 where
  pub moves : Moves p.limits m.count ds new.count left
  pub grows : m.count ≤ new.count
  pub same : new ≡ record m { count = new.count }

-- what is demanded of a table before its fields: its head, and its slots
abbrev pub opening : Passing → List ℕ → List Link → Child → List Demand
opening p b via child = reading via child.object None child.at (head_reads p.checks) ∷ slots_demands (p.plan).demands b p.rows via child.object child.at

-- its slots were asked, whatever is demanded afterwards; or the pass stops, by the links to the table
abbrev pub SlotsPassed : (p : Passing) → (m new : Lent) → Child → Result (Unit {0}) Stop → Type 0
SlotsPassed p m new child (Ok a) = (via : List Link) (rest : List Demand) → GoesOn p m new (slots_demands (p.plan).demands m.bytes p.rows via child.object child.at ++ rest) rest
SlotsPassed p m new child (Err s) = (via : List Link) (rest : List Demand)
    → Breaks p.limits m.count (slots_demands (p.plan).demands m.bytes p.rows via child.object child.at ++ rest) (stopped s new.count) via

-- so was all of that, which is more than no read; or the pass stops
abbrev pub Opens : (p : Passing) → (m new : Lent) → Child → Result (Unit {0}) Stop → Type 0
Opens p m new child (Ok a) = (m.count < new.count) × ((via : List Link) (rest : List Demand) → GoesOn p m new (opening p m.bytes via child ++ rest) rest)
Opens p m new child (Err s) = (via : List Link) (rest : List Demand) → Breaks p.limits m.count (opening p m.bytes via child ++ rest) (stopped s new.count) via

pub record Stays (p : Passing) (m new : Lent) (room : ℕ) (via : List Link) (ds : List Demand) (top past : Frame) : Type 0 where
  pub left : List Demand
  pub on : GoesOn p m new ds left
  pub frame : IsLeft p m.bytes room via past left
  pub falls : frame_work p past < frame_work p top

-- uoffsets of a frame's field were passed of which none leads to what is asked, by at most two reads each
pub record PassesBy (p : Passing) (m new : Lent) (room : ℕ) (via : List Link) (ds : List Demand) (top past : Frame) : Type 0 where
  pub left : List Demand
  pub on : GoesOn p m new ds left
  pub frame : IsLeft p m.bytes room via past left
  pub same : past ≡ record top { row = past.row }
  pub fewer : (past.row).left ≤ (top.row).left
  pub paid : new.count + 2 * (past.row).left ≤ m.count + 2 * (top.row).left

-- the first word that is left of a frame was asked by its type, and is passed
pub record FrontPassed (p : Passing) (m new : Lent) (fr past : Frame) (result : Result Referent Stop) : Type 0 where
  pub more : 0 < (fr.row).left
  pub is : past ≡ record fr { row = past_first fr.row }
  pub first : FirstPassed p m new (record { object = (fr.table).object; field = Some fr.number }) (fr.row).place (fr.row).leads result

-- behind words that lead to nothing that is asked, from this frame on and after so many reads, one was passed that does,
-- or where none is left, nothing; or the pass stops behind one
pub record WordsPassed (p : Passing) (m new : Lent) (room : ℕ) (via : List Link) (ds : List Demand) (top past : Frame) (result : Result Referent Stop) : Type 0 where
  pub before : Lent
  pub reached : Frame
  pub by : PassesBy p m before room via ds top reached
  pub last : FrontPassed p before new reached past result ⊎ ((result ≡ Ok Nothing) × (past ≡ reached) × (new ≡ before) × ((reached.row).left ≡ 0))

pub record GoesDown (p : Passing) (m new : Lent) (room : ℕ) (via : List Link) (ds : List Demand) (top past : Frame) (child : Child) : Type 0 where
  pub below : List Demand
  pub left : List Demand
  pub on : GoesOn p m new ds (below ++ left)
  pub paid : new.count ≤ m.count + 2 * (top.row).left + 8
  pub next : IsNext p m.bytes (room - 1) (via ++ frame_link (wants_of p) m.bytes p.rows past ∷ []) child below
  pub frame : IsLeft p m.bytes room via past left
  pub linked : IsLinked (wants_of p) p.checks m.bytes p.rows past
  pub falls : frame_work p past ≤ frame_work p top

-- a buffer lies in these bytes, whose root table can be one of this object
pub record IsInner (p : Passing) (b : List ℕ) (i : Inner) : Type 0 where
  pub within : i.at + i.size ≤ length b
  pub table : IsTrue (is_table p.rows i.root)

-- the first of these demands has a buffer inside, and was met itself after so many reads
pub record Meets (p : Passing) (b : List ℕ) (paid : ℕ) (it : Demand) (last : ℕ) (i : Inner) : Type 0 where
  pub inner : it.inner ≡ Some i
  pub stands : IsInner p b i
  pub chain : it.chain ≡ None
  pub count : last ≡ paid + it.reads
  pub allowed : AreAllowed (p.limits).reads last

-- it comes to a buffer that lies in a field of the top's table: its demand was met, and the frame has the link to it
pub record GoesIn (p : Passing) (m new : Lent) (room : ℕ) (via : List Link) (ds : List Demand) (top past : Frame) (i : Inner) : Type 0 where
  pub it : Demand
  pub left : List Demand
  pub all : ds ≡ it ∷ left
  pub meets : Meets p m.bytes m.count it new.count i
  pub same : new ≡ record m { count = new.count }
  pub frame : IsLeft p m.bytes room via past left
  pub linked : IsLinked (wants_of p) p.checks m.bytes p.rows past
  pub way : it.links ≡ via ++ frame_link (wants_of p) m.bytes p.rows past ∷ []
  pub falls : frame_work p past < frame_work p top

-- it stops with so many frames open: behind a word of the top's, or in a field of its table
abbrev pub StopsHere : (p : Passing) → (m new : Lent) → (via : List Link) → (many : ℕ) → (ds : List Demand) → (past : Frame) → Halt → LastLink → Type 0
StopsHere p m new via many ds past h Behind =
    (h.links ≡ many) × IsLinked (wants_of p) p.checks m.bytes p.rows past × Breaks p.limits m.count ds (stopped h.stop new.count) (via ++ frame_link (wants_of p) m.bytes p.rows past ∷ [])
StopsHere p m new via many ds past h InField = (h.links + 1 ≡ many) × Breaks p.limits m.count ds (stopped h.stop new.count) (via ++ own_link (stopped h.stop new.count))

abbrev pub Stepped : (p : Passing) → (m new : Lent) → (room : ℕ) → (via : List Link) → (many : ℕ) → (ds : List Demand) → (top past : Frame) → (child : Child) → Result Turn Halt → Type 0
Stepped p m new room via many ds top past child (Ok Here) = Stays p m new room via ds top past
Stepped p m new room via many ds top past child (Ok Up) = (ds ≡ []) × (new ≡ m)
Stepped p m new room via many ds top past child (Ok Down) = GoesDown p m new room via ds top past child
Stepped p m new room via many ds top past child (Ok (In i)) = GoesIn p m new room via ds top past i
Stepped p m new room via many ds top past child (Err h) = StopsHere p m new via many ds past h h.last

-- a pass stops: the links of so many of these frames lead to the fault, and then what they leave
pub record Halts (p : Passing) (m new : Lent) (ds : List Demand) (frames : List Frame) (h : Halt) : Type 0 where
  pub breaks : Breaks p.limits m.count ds (stopped h.stop new.count) (frame_links (wants_of p) m.bytes p.rows frames h.links ++ last_link h.last (stopped h.stop new.count))
  pub linked : AreLinked (wants_of p) p.checks m.bytes p.rows frames h.links
  pub within : h.links + links_left h.last ≤ length frames

-- the same of a whole stack of frames, of which so many are open
pub record Turns (p : Passing) (m new : Lent) (ds : List Demand) (old : List Frame) (before : ℕ) (frames : List Frame) (after-it : ℕ) : Type 0 where
  pub left : List Demand
  pub on : GoesOn p m new ds left
  pub stack : AreLeft p m.bytes frames after-it left
  pub falls : frames_work p frames after-it + 2 ^ 49 * m.count < frames_work p old before + 2 ^ 49 * new.count

-- a pass goes on to a buffer that lies in these bytes: the demand that has it was met itself, and these frames, of
-- which so many are open, stand for what follows; their links lead there
pub record Enters (p : Passing) (m new : Lent) (ds : List Demand) (frames : List Frame) (many : ℕ) (i : Inner) : Type 0 where
  pub last : ℕ
  pub it : Demand
  pub left : List Demand
  pub moves : Moves p.limits m.count ds last (it ∷ left)
  pub meets : Meets p m.bytes last it new.count i
  pub same : new ≡ record m { count = new.count }
  pub stack : AreLeft p m.bytes frames many left
  pub within : many ≤ length frames
  pub some : 0 < many
  pub linked : AreLinked (wants_of p) p.checks m.bytes p.rows frames many
  pub way : it.links ≡ frame_links (wants_of p) m.bytes p.rows frames many

abbrev pub HasTurned : (p : Passing) → (m new : Lent) → (ds : List Demand) → (old : List Frame) → ℕ → (frames : List Frame) → Result Turned Halt → Type 0
HasTurned p m new ds old before frames (Ok (Open n)) = Turns p m new ds old before frames n × (n ≤ length frames)
HasTurned p m new ds old before frames (Ok (Inside i)) = Enters p m new ds frames before i
HasTurned p m new ds old before frames (Err h) = Halts p m new ds frames h

-- frames of which so many are open, in a pass within the limits, whose reads a count holds
pub record IsStanding (p : Passing) (m : Lent) (frames : List Frame) (many : ℕ) : Type 0 where
  pub left : List Demand
  pub stack : AreLeft p m.bytes frames many left
  pub within : many ≤ length frames
  pub small : length frames ≤ 4096
  pub allowed : AreAllowed (p.limits).reads m.count
  pub few : m.count + demands_reads left ≤ 2 ^ 112

-- the turns that are left to it at most
abbrev pub work_left : Passing → ℕ → List Frame → ℕ → ℕ
work_left p count frames many = frames_work p frames many + 2 ^ 49 * (2 ^ 112 - count)

-- a pass went on over frames of which so many were open, so that less work is left to it
pub record WentBy (p : Passing) (m new : Lent) (ds : List Demand) (old : List Frame) (before : ℕ) (frames : List Frame) (many : ℕ) : Type 0 where
  pub left : List Demand
  pub on : GoesOn p m new ds left
  pub stack : AreLeft p m.bytes frames many left
  pub within : many ≤ length frames
  pub falls : work_left p new.count frames many < work_left p m.count old before

abbrev pub WentOn : (p : Passing) → (m new : Lent) → (ds : List Demand) → (old : List Frame) → (before : ℕ) → (frames : List Frame) → (many : ℕ) → Result (Option Inner) Halt → Type 0
WentOn p m new ds old before frames many (Ok None) = WentBy p m new ds old before frames many
WentOn p m new ds old before frames many (Ok (Some i)) = Enters p m new ds frames many i
WentOn p m new ds old before frames many (Err h) = Halts p m new ds frames h

-- a root table was opened, and one frame stands for what follows its head
pub record Began (p : Passing) (m new : Lent) (ds : List Demand) (frames : List Frame) : Type 0 where
  pub left : List Demand
  pub on : GoesOn p m new ds left
  pub stack : AreLeft p m.bytes frames 1 left

abbrev pub Begins : {A : Type 0} → (p : Passing) → (m new : Lent) → (ds : List Demand) → (frames : List Frame) → Result A Halt → Type 0
Begins p m new ds frames (Ok a) = Began p m new ds frames
Begins p m new ds frames (Err h) = Halts p m new ds frames h

-- a pass went on until no frame was open, so that all of these demands are met within the limits, or until it came to a
-- buffer inside; or it stops at the first that isn't met
abbrev pub Went : (p : Passing) → (m new : Lent) → (ds : List Demand) → (frames : List Frame) → (many : ℕ) → Result (Option Inner) Halt → Type 0
Went p m new ds frames many (Ok None) = GoesOn p m new ds []
Went p m new ds frames many (Ok (Some i)) = Enters p m new ds frames many i
Went p m new ds frames many (Err h) = Halts p m new ds frames h

-- the root table at this position, of this object, unfolds into this tree, for whose tables there are so many frames
pub record IsRooted (p : Passing) (b : List ℕ) (room : ℕ) (root : Child) (y : Tree) : Type 0 where
  pub unfolds : Unfolds y p.checks b p.rows root.object root.at
  pub object : IsTrue (is_table p.rows root.object)
  pub near : root.at < 2 ^ 33
  pub deep : depth y ≤ room
