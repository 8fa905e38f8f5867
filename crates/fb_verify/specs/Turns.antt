-- What a turn of a quick walk leaves: it goes on, up or down, or it stops.
use Rattle.std.specs.Prelude.{◌≡◌, ℕ, zero, suc, ◌+◌, ◌-◌, ◌*◌, ◌<◌, ◌≤◌, ◌^◌, max, List, [], ◌∷◌, ◌++◌, take, length, slice_get, slice_index_or, IsTrue, Option, Some, None, Result, Ok, Err, true}
use Rattle.fb_bytes.specs.Word.{Lent}
use Rattle.fb_schema.specs.{Rows.is_table, Live.Live, Live.live_fields, Live.widest, Steps.act_of, Steps.is_plain, Steps.step_of, declared.kinds.Kind.Kind}
use Rattle.fb_schema.specs.declared.kinds.Kind.TheVariants.{Table as ToTable, Union, Texts, Tables, Unions}
use Rattle.fb_schema.specs.declared.views.{Act.TheVariants.Other, Step.Step}
use Rattle.fb_rules.specs.{Bounds.AreAllowed, OffsetRows.past_first, Order.after, Order.head_failure, Places.is_aligned, Plain.tested_by, declared.checks.Checks.Checks}
use Rattle.fb_rules.specs.declared.{table.Child.Child, fault.Reason.Reason, offset_row.Row.Row, offset_row.Leads.TheVariants.All, offset_row.Referent.TheVariants.Table as ATable}
use Rattle.fb_rules.specs.declared.site.{Halt.Halt, LastLink.TheVariants.Behind}
use Rattle.fb_verify.specs.{Flat.MayOpen, PassesOn.HasRoom, PassesOn.fields_left, Stack.blank, Stack.opened, Stack.Origin, Stack.Waiting, Stack.frame_work, Stack.work, Stack.IsWalking}
use Rattle.fb_verify.specs.{Stack.IsAtField, Stack.IsOver, Stack.StopsIn, Stack.HaltsIn, Stack.links_left, declared.scratch.Frame.Frame, declared.stack.Turn.Turn, declared.stack.Walk.Walk}
use Rattle.fb_verify.specs.declared.stack.Turn.TheVariants.{Down, Up, Slowly, Halt as Halted}

-- a count that 64 bits hold with room to spare
abbrev pub IsShort : ℕ → Type 0
IsShort n = n ≤ 2 ^ 56

-- the frame of a child, once it is opened
abbrev pub frame_of : Child → Frame
frame_of child = opened (record { object = child.object; at = child.at; head = (blank.table).head })

-- a table was counted and is to be opened, to which these frames lead: its head may hold, or the walk stops there
pub record IsAtChild (w : Walk) (m : Lent) (s : Origin) (frames : List Frame) (child : Child) : Type 0 where
  pub opens : MayOpen w m.bytes m.count (record { start = s; frames = frames }) child.object child.at
  pub table : IsTrue (is_table w.schema.now child.object)
  pub near : child.at < 2 ^ 33
  pub stops : (at reads : ℕ) → (reason : Reason) → tested_by at reads (Some reason) ≡ after m.count (head_failure w.checks m.bytes child.at)
      → StopsIn w.checks m.bytes w.schema.now w.limits s frames [] (record { at = at; object = child.object; field = None; reason = reason; reads = reads })

-- the walk goes on in a row of uoffsets, over so many frames that wait
pub record IsInRow (w : Walk) (m : Lent) (under : Waiting) (waiting : ℕ) (top : Frame) : Type 0 where
  pub many : waiting ≡ length under.frames
  pub walking : IsWalking w m under.start under.frames top
  pub more : 0 < (top.row).left
  pub short : IsShort m.count

-- in this row, of words that each lead to a table of this object
pub record IsAtWord (w : Walk) (m : Lent) (under : Waiting) (waiting : ℕ) (top : Frame) (row : Row) (object : ℕ) : Type 0 where
  pub in-row : IsInRow w m under waiting (record top { row = row })
  pub leads : row.leads ≡ All (ATable object)
  pub table : IsTrue (is_table w.schema.now object)

-- where the depth allows a table below
pub record IsAtMembers (w : Walk) (m : Lent) (under : Waiting) (waiting : ℕ) (top : Frame) : Type 0 where
  pub row : IsInRow w m under waiting top
  pub deep : waiting + 1 < (w.limits).depth
  pub low : waiting + 1 < 4096

-- and each word leads to a table of this object, whose fields lead to no table
pub record IsAtFlats (w : Walk) (m : Lent) (under : Waiting) (waiting : ℕ) (top : Frame) (object : ℕ) : Type 0 where
  pub down : IsAtMembers w m under waiting top
  pub leads : (top.row).leads ≡ All (ATable object)
  pub table : IsTrue (is_table w.schema.now object)
  pub plain : is_plain w.schema.now object ≡ true

-- the walk goes into this field, whose slot was the last read: it stands at this place, and may lead to a table
pub record IsAtOpenField (w : Walk) (m : Lent) (under : Waiting) (waiting : ℕ) (top : Frame) (place : ℕ) (f : Live) : Type 0 where
  pub many : waiting ≡ length under.frames
  pub at : IsAtField w m.bytes m.count under.start under.frames top place
  pub rests : (top.row).left ≡ 0
  pub here : slice_get (live_fields w.schema.now (top.table).object) top.next ≡ Some f
  pub act : act_of f f.kind ≡ Other
  pub room : AreAllowed (w.limits).reads (m.count + 7)
  pub short : IsShort (m.count + 7)

-- the depth and the count of tables allow one more, where so many are open
pub record AllowsTable (w : Walk) (links : ℕ) : Type 0 where
  pub deep : links < (w.limits).depth
  pub low : links < 4096
  pub fewer : w.tables < (w.limits).tables
  pub small : (w.limits).tables < 2 ^ 32

-- the walk goes on in the same table
pub record GoesOn (w then : Walk) (m new : Lent) (under : Waiting) (top past : Frame) : Type 0 where
  pub same : then ≡ record w { tables = then.tables; deepest = then.deepest }
  pub walking : IsWalking then new under.start under.frames past
  pub table : past.table ≡ top.table
  pub falls : new.count + work w.schema.now w.limits under.frames past then.tables ≤ m.count + work w.schema.now w.limits under.frames top w.tables
  pub grows : m.count ≤ new.count
  pub bytes : new.bytes ≡ m.bytes
  pub short : IsShort new.count

-- with the next field, as no uoffset is left of the one before
pub record Rests (w then : Walk) (m new : Lent) (under : Waiting) (top past : Frame) : Type 0 where
  pub on : GoesOn w then m new under top past
  pub rests : (past.row).left ≡ 0
  pub next : past.next ≡ top.next

-- nowhere: all its fields were passed
pub record Ends (w then : Walk) (m new : Lent) (under : Waiting) (top past : Frame) : Type 0 where
  pub on : GoesOn w then m new under top past
  pub rests : (past.row).left ≡ 0
  pub all : length (live_fields w.schema.now (past.table).object) ≤ past.next

-- in a table below, which is to be opened
pub record GoesDown (w then : Walk) (m new : Lent) (under : Waiting) (top past : Frame) (child : Child) : Type 0 where
  pub same : then ≡ record w { tables = then.tables; deepest = then.deepest }
  pub down : IsAtChild then new under.start (under.frames ++ past ∷ []) child
  pub deep : length under.frames + 1 < (w.limits).depth
  pub falls : new.count + 3 + work w.schema.now w.limits (under.frames ++ past ∷ []) (frame_of child) then.tables < m.count + work w.schema.now w.limits under.frames top w.tables
  pub grows : m.count ≤ new.count
  pub bytes : new.bytes ≡ m.bytes
  pub short : IsShort (new.count + 3)

-- it stops, at what the walk holds: by the links of the frames below, or of these and the top
pub record Halts (w then : Walk) (m new : Lent) (under : Waiting) (past : Frame) : Type 0 where
  pub links : (then.halt).links ≤ length under.frames + 1
  pub deep : (then.halt).links + links_left (then.halt).last ≤ (w.limits).depth
  pub err : HaltsIn w m under.start (take (then.halt).links (under.frames ++ past ∷ [])) then.halt new.count
  pub bytes : new.bytes ≡ m.bytes

-- the walk goes on in this row, and the limits allow its first word to be passed, and a table to which it may lead to
-- be opened
pub record IsAtMember (w : Walk) (m : Lent) (under : Waiting) (waiting : ℕ) (top : Frame) (row : Row) : Type 0 where
  pub in-row : IsInRow w m under waiting (record top { row = row })
  pub limits : AllowsTable w (waiting + 1)
  pub allowed : AreAllowed (w.limits).reads (m.count + 8)
  pub short : IsShort (m.count + 8)

-- the words of a row can be read
pub record RowStands (c : Checks) (b : List ℕ) (row : Row) : Type 0 where
  pub near : row.place + 4 * row.left < 2 ^ 32
  pub within : row.place + 4 * row.left ≤ length b
  pub aligned : IsTrue (is_aligned c row.place 4)

-- the limits allow that each word of this row leads to a table with so many fields that are passed, six reads for each
pub record FitsWhole (w : Walk) (m : Lent) (row : Row) (fields : ℕ) : Type 0 where
  pub tables : w.tables + row.left ≤ (w.limits).tables
  pub reads : AreAllowed (w.limits).reads (m.count + row.left * (8 + 6 * fields))
  pub short : IsShort (m.count + row.left * (8 + 6 * fields))

-- so many tables more were opened, with each of which so many were open
abbrev pub deepest_with : (deepest links n : ℕ) → ℕ
deepest_with deepest links zero = deepest
deepest_with deepest links (suc n) = max deepest links

abbrev pub with_tables : Walk → (links n : ℕ) → Walk
with_tables w links n = record w { tables = w.tables + n; deepest = deepest_with w.deepest links n }

-- a word is left of this row, and the limits allow a table behind it, for so many reads up to so many in all
pub record HasWord (w : Walk) (m : Lent) (row : Row) (cost most : ℕ) : Type 0 where
  pub more : 0 < row.left
  pub fewer : w.tables < (w.limits).tables
  pub small : (w.limits).tables < 2 ^ 32
  pub room : m.count + cost ≤ most

-- that word was passed
pub record PassesMember (w then : Walk) (m new : Lent) (under : Waiting) (top past : Frame) (row left : Row) : Type 0 where
  pub on : GoesOn w then m new under (record top { row = row }) (record top { row = left })
  pub same : past ≡ top
  pub word : left ≡ past_first row

-- what holds where a turn goes down, up, on in the same table, or stops the walk
abbrev pub ByTurn : (down up slowly halted : Type 0) → Turn → Type 0
ByTurn down up slowly halted Down = down
ByTurn down up slowly halted Up = up
ByTurn down up slowly halted Slowly = slowly
ByTurn down up slowly halted Halted = halted

-- or it leads to a table that is to be opened, or it fails
abbrev pub MemberTurned : (w then : Walk) → (m new : Lent) → (under : Waiting) → (top past : Frame) → (row left : Row) → (child : Child) → Turn → Type 0
MemberTurned w then m new under top past row left child = ByTurn (GoesDown w then m new under (record top { row = row }) past child)
    (PassesMember w then m new under top past row left) ⊥ (Halts w then m new under past)

-- a turn through the words of the top's row
abbrev pub RowTurned : (w then : Walk) → (m new : Lent) → (under : Waiting) → (top past : Frame) → (child : Child) → Turn → Type 0
RowTurned w then m new under top past child = ByTurn (GoesDown w then m new under top past child) (Rests w then m new under top past)
    (GoesOn w then m new under top past) (Halts w then m new under past)

-- a turn through the row and the fields of the top
abbrev pub Turned : (w then : Walk) → (m new : Lent) → (under : Waiting) → (top past : Frame) → (child : Child) → Turn → Type 0
Turned w then m new under top past child = ByTurn (GoesDown w then m new under top past child) (Ends w then m new under top past) (GoesOn w then m new under top past) (Halts w then m new under past)

-- after a field that may lead on, whose slot was the last read, the walk goes on in the same table
pub record StaysInField (w then : Walk) (m new : Lent) (under : Waiting) (top past : Frame) : Type 0 where
  pub on : GoesOn w then (record m { count = m.count - 1 }) new under top past
  pub grows : m.count ≤ new.count

-- past that field
pub record PassedField (w then : Walk) (m new : Lent) (under : Waiting) (top past : Frame) : Type 0 where
  pub on : StaysInField w then m new under top past
  pub rests : (past.row).left ≡ 0
  pub next : past.next ≡ top.next + 1

-- in a table below
pub record GoesIntoField (w then : Walk) (m new : Lent) (under : Waiting) (top past : Frame) (child : Child) : Type 0 where
  pub down : GoesDown w then (record m { count = m.count - 1 }) new under top past child
  pub grows : m.count ≤ new.count

-- or up to the words by which it leads on, which are in the row
pub record BeginsRow (w then : Walk) (m new : Lent) (under : Waiting) (waiting : ℕ) (top past : Frame) : Type 0 where
  pub same : then ≡ w
  pub row : IsInRow w new under waiting past
  pub table : past.table ≡ top.table
  pub next : past.next ≡ top.next + 1
  pub paid : new.count + frame_work w.schema.now past ≤ m.count - 1 + frame_work w.schema.now top
  pub grows : m.count ≤ new.count
  pub bytes : new.bytes ≡ m.bytes

abbrev pub WordsPut : (w then : Walk) → (m new : Lent) → (under : Waiting) → (waiting : ℕ) → (top past : Frame) → Turn → Type 0
WordsPut w then m new under waiting top past = ByTurn (BeginsRow w then m new under waiting top past) (PassedField w then m new under top past) ⊥ (Halts w then m new under past)

-- a turn into a field that may lead on
abbrev pub FieldTurned : (w then : Walk) → (m new : Lent) → (under : Waiting) → (top past : Frame) → (child : Child) → Turn → Type 0
FieldTurned w then m new under top past child = ByTurn (GoesIntoField w then m new under top past child) (PassedField w then m new under top past)
    (StaysInField w then m new under top past) (Halts w then m new under past)

-- a child was opened, or the walk stops at its head
pub record OpensChild (w then : Walk) (m new : Lent) (under : Waiting) (below : Frame) (child : Child) : Type 0 where
  pub same : then ≡ w
  pub walking : IsWalking w new under.start under.frames below
  pub opens : below ≡ opened (record { object = child.object; at = child.at; head = (below.table).head })
  pub paid : new.count ≤ m.count + 3
  pub grows : m.count ≤ new.count
  pub bytes : new.bytes ≡ m.bytes

pub record StopsAtChild (w then : Walk) (m new : Lent) (under : Waiting) : Type 0 where
  pub links : (then.halt).links ≡ length under.frames
  pub behind : (then.halt).last ≡ Behind
  pub err : HaltsIn w m under.start under.frames then.halt new.count
  pub bytes : new.bytes ≡ m.bytes

abbrev pub Opened : (w then : Walk) → (m new : Lent) → (under : Waiting) → (frame : Frame) → (child : Child) → Turn → Type 0
Opened w then m new under frame child = ByTurn (OpensChild w then m new under frame child) ⊥ ⊥ (StopsAtChild w then m new under)

-- the walk went on over these frames, of which so many wait now, with at least this much less work
pub record WentOn (w then : Walk) (m new : Lent) (s : Origin) (old : List Frame) (waiting : ℕ) (frames : List Frame) (left less : ℕ) : Type 0 where
  pub same : then ≡ record w { tables = then.tables; deepest = then.deepest }
  pub walking : IsWalking then new s (take left frames) (slice_index_or frames left blank)
  pub top : left < length frames
  pub falls : less + new.count + work w.schema.now w.limits (take left frames) (slice_index_or frames left blank) then.tables ≤ m.count + work w.schema.now w.limits
      (take waiting old) (slice_index_or old waiting blank) w.tables
  pub grows : m.count ≤ new.count
  pub bytes : new.bytes ≡ m.bytes

-- until it was over
pub record WentOver (w then : Walk) (m new : Lent) (s : Origin) : Type 0 where
  pub same : then ≡ record w { tables = then.tables; deepest = then.deepest }
  pub over : IsOver then new s
  pub within : then.tables ≤ (w.limits).tables
  pub shallow : then.deepest ≤ (w.limits).depth
  pub reads : AreAllowed (w.limits).reads new.count
  pub bytes : new.bytes ≡ m.bytes

-- until it stopped
pub record WentWrong (w : Walk) (m new : Lent) (s : Origin) (frames : List Frame) (h : Halt) : Type 0 where
  pub deep : h.links + links_left h.last ≤ (w.limits).depth
  pub err : HaltsIn w m s (take h.links frames) h new.count
  pub bytes : new.bytes ≡ m.bytes

-- the top is passed to its end
pub record GoesUp (w then : Walk) (m new : Lent) (s : Origin) (old : List Frame) (waiting : ℕ) (frames : List Frame) : Type 0 where
  pub over : waiting ≡ 0 → WentOver w then m new s
  pub above : 0 < waiting → WentOn w then m new s old waiting frames (waiting - 1) 1 × IsShort new.count

-- one turn over frames
abbrev pub FramesTurned : (w then : Walk) → (m new : Lent) → (s : Origin) → (old frames : List Frame) → (waiting : ℕ) → Turn → Type 0
FramesTurned w then m new s old frames waiting = ByTurn (WentOn w then m new s old waiting frames (waiting + 1) 1 × IsShort new.count)
    (GoesUp w then m new s old waiting frames) (WentOn w then m new s old waiting frames waiting 0) (WentWrong w m new s frames then.halt)

-- the root table, whose fields lead on nowhere, is passed, or it isn't begun, or the walk stops there
abbrev pub RootTurned : (w then : Walk) → (m new : Lent) → (s : Origin) → Turn → Type 0
RootTurned w then m new s = ByTurn ⊥ (WentOver w then m new s) ((then ≡ w) × (new ≡ m)) (WentWrong w m new s [] then.halt × ((then.halt).links ≡ 0))

-- a quick walk over frames: it is over, stops, or can't go on quickly
abbrev pub Walked : (w then : Walk) → (m new : Lent) → (s : Origin) → (old : List Frame) → (waiting : ℕ) → (frames : List Frame) → (left : ℕ) → Turn → Type 0
Walked w then m new s old waiting frames left = ByTurn ⊥ (WentOver w then m new s) (WentOn w then m new s old waiting frames left 0) (WentWrong w m new s frames then.halt)

-- a walk over these frames, of which so many wait below the top, whose work that is left a count holds
pub record IsUnderWayOver (w : Walk) (m : Lent) (s : Origin) (frames : List Frame) (waiting : ℕ) : Type 0 where
  pub walking : IsWalking w m s (take waiting frames) (slice_index_or frames waiting blank)
  pub top : waiting < length frames
  pub few : m.count + work w.schema.now w.limits (take waiting frames) (slice_index_or frames waiting blank) w.tables ≤ 2 ^ 94

-- it went on, and used these frames up, of which so many wait then
pub record UsedUp (w then : Walk) (m new : Lent) (s : Origin) (frames : List Frame) (after : ℕ) : Type 0 where
  pub goes : IsUnderWayOver then new s frames after
  pub less : length frames < (w.limits).depth
  pub same : then ≡ record w { tables = then.tables; deepest = then.deepest }
  pub bytes : new.bytes ≡ m.bytes

-- or it is over, or stopped
abbrev pub GoneOn : (w then : Walk) → (m new : Lent) → (s : Origin) → (frames : List Frame) → Result (Option ℕ) Halt → Type 0
GoneOn w then m new s frames (Ok None) = WentOver w then m new s
GoneOn w then m new s frames (Ok (Some after)) = UsedUp w then m new s frames after
GoneOn w then m new s frames (Err h) = WentWrong w m new s frames h

-- it went on to its end, over frames of its own
abbrev pub WentDeeper : {A : Type 0} → (w then : Walk) → (m new : Lent) → (s : Origin) → Result A Halt → Type 0
WentDeeper w then m new s (Ok a) = WentOver w then m new s
WentDeeper w then m new s (Err h) = (rows : List Frame) × WentWrong w m new s rows h

-- a whole walk stopped: where these frames are enough for the depth, those are left of which the links lead there
pub record RanWrong (w : Walk) (m new : Lent) (s : Origin) (frames : List Frame) (h : Halt) : Type 0 where
  pub rows : List Frame
  pub wrong : WentWrong w m new s rows h
  pub along : (w.limits).depth ≤ length frames → HaltsIn w m s (take h.links frames) h new.count

abbrev pub Ran : {A : Type 0} → (w then : Walk) → (m new : Lent) → (s : Origin) → (frames : List Frame) → Result A Halt → Type 0
Ran w then m new s frames (Ok a) = WentOver w then m new s
Ran w then m new s frames (Err h) = RanWrong w m new s frames h

-- the budget allows whatever the fields of any table may cost after fewer reads than these
abbrev pub IsBrimFor : Walk → (most brim : ℕ) → Type 0
IsBrimFor w most brim = (n : ℕ) → n < brim → AreAllowed (w.limits).reads (n + most) × IsShort (n + most)

abbrev pub IsBrim : Walk → ℕ → Type 0
IsBrim w brim = (n : ℕ) → n < brim → AreAllowed (w.limits).reads (n + 8 + 6 * widest w.schema.now) × IsShort (n + 8 + 6 * widest w.schema.now)

-- the budget allows whatever the other fields of the top may cost, and eight reads for what the last of them leads to
pub record HasRoomToGo (w : Walk) (m : Lent) (top : Frame) : Type 0 where
  pub room : HasRoom w m top
  pub more : AreAllowed (w.limits).reads (m.count + 8 + 6 * fields_left w.schema.now top)
  pub short : IsShort (m.count + 8 + 6 * fields_left w.schema.now top)

-- what leads on by uoffsets of a vector, or by that of a union
abbrev pub IsFar : Kind → Type 0
IsFar Texts = Unit {0}
IsFar (Tables k) = Unit {0}
IsFar (Union e) = Unit {0}
IsFar (Unions e) = Unit {0}
IsFar _ = ⊥

-- the walk goes into the field of this step
abbrev pub IsAtStep : (w : Walk) → (m : Lent) → (under : Waiting) → (waiting : ℕ) → (top : Frame) → (place : ℕ) → Step → Type 0
IsAtStep w m under waiting top place step = (f : Live) × IsAtOpenField w m under waiting top place f × (step ≡ step_of f)

-- and it leads to one table of this object
abbrev pub IsAtTableField : (w : Walk) → (m : Lent) → (under : Waiting) → (waiting : ℕ) → (top : Frame) → (place slot object : ℕ) → Type 0
IsAtTableField w m under waiting top place slot object = (f : Live) × IsAtOpenField w m under waiting top place f × (f.kind ≡ ToTable object) × (f.slot ≡ slot)

-- or on by uoffsets
abbrev pub IsAtFarField : (w : Walk) → (m : Lent) → (under : Waiting) → (waiting : ℕ) → (top : Frame) → (place : ℕ) → Type 0
IsAtFarField w m under waiting top place = (f : Live) × IsAtOpenField w m under waiting top place f × IsFar f.kind
