-- What the walk by single units leaves.
use Rattle.std.specs.Prelude.{◌≡◌, ℕ, ◌+◌, ◌<◌, ◌≤◌, ◌^◌, List, [], ◌∷◌, ◌++◌, length, max, IsTrue, Bool, true, false, Option, Some, None, Result, Ok, Err}
use Rattle.fb_bytes.specs.Word.{Lent}
use Rattle.fb_schema.specs.{Rows.is_table, Live.live_fields}
use Rattle.fb_rules.specs.{Bounds.AreAllowed, Cost.head_reads, Cost.lead_reads, Fields.to_table, Places.target, Stops.budget_failure, Stops.reads_failure, Stops.lead_reads_failure}
use Rattle.fb_rules.specs.{Order.◌▷◌, Order.head_failure, Order.element_failure, OffsetRows.first_word, OffsetRows.IsLeafLead, Told.told, Told.stopped, Told.way_at, Told.IsHead}
use Rattle.fb_rules.specs.declared.{fault.Fault.Fault, offset_row.Row.Row, site.Halt.Halt, site.Site.Site, site.Stop.Stop, table.Child.Child, table.Table.Table}
use Rattle.fb_verify.specs.{PassesOn.HasPassed, Turns.AllowsTable, Turns.WentOn, Turns.WentOver, Turns.WentWrong}
use Rattle.fb_verify.specs.{Stack.Origin, Stack.Waiting, Stack.work, Stack.IsWalking, Stack.IsStopped, Stack.IsStoppedBehind, declared.scratch.Frame.Frame, declared.stack.Walk.Walk}

-- this is the first condition of a unit that fails
pub record Fails (m new : Lent) (first : Option Fault) (s : Stop) : Type 0 where
  pub err : first ≡ Some (stopped s new.count)
  pub bytes : new.bytes ≡ m.bytes

-- a table was opened, where so many are open before, and its head holds
pub record OpensTable (w then : Walk) (m new : Lent) (links : ℕ) (child : Child) (t : Table) : Type 0 where
  pub allowed : AllowsTable w links
  pub ok : head_failure w.checks m.bytes child.at ≡ None
  pub head : IsHead w.checks m.bytes child.at t.head
  pub table : t ≡ record { object = child.object; at = child.at; head = t.head }
  pub reads : AreAllowed (w.limits).reads new.count
  pub opened : then ≡ record w { tables = w.tables + 1; deepest = max w.deepest (links + 1) }
  pub counted : new ≡ record m { count = m.count + head_reads w.checks }
  pub bytes : new.bytes ≡ m.bytes

abbrev pub TableOpened : (w then : Walk) → (m new : Lent) → (links : ℕ) → Site → Child → Result Table Stop → Type 0
TableOpened w then m new links site child (Ok t) = OpensTable w then m new links child t
TableOpened w then m new links site child (Err s) =
    Fails m new (told site m.count (budget_failure w.limits (way_at links w.tables w.deepest m.count site) child.at) ▷ told (record { object = child.object; field = None }) m.count
    (head_failure w.checks m.bytes child.at ▷ reads_failure w.limits m.count (head_reads w.checks) child.at)) s

-- the first uoffset of a row holds, and leads to no table
pub record PassesLeaf (w : Walk) (m new : Lent) (row : Row) : Type 0 where
  pub ok : element_failure w.checks m.bytes (first_word m.bytes w.schema.now row) ≡ None
  pub leaf : IsLeafLead (first_word m.bytes w.schema.now row).lead
  pub counted : new ≡ record m { count = m.count + (first_word m.bytes w.schema.now row).reads + lead_reads (first_word m.bytes w.schema.now row).lead }
  pub reads : AreAllowed (w.limits).reads new.count

-- or to this table
pub record LeadsToTable (w : Walk) (m new : Lent) (row : Row) (child : Child) : Type 0 where
  pub ok : element_failure w.checks m.bytes (first_word m.bytes w.schema.now row) ≡ None
  pub leads : (first_word m.bytes w.schema.now row).lead ≡ to_table child.object
  pub at : child.at ≡ target m.bytes row.place
  pub table : IsTrue (is_table w.schema.now child.object)
  pub near : child.at < 2 ^ 33
  pub counted : new ≡ record m { count = m.count + (first_word m.bytes w.schema.now row).reads + lead_reads (first_word m.bytes w.schema.now row).lead }

abbrev pub ElementPassed : (w : Walk) → (m new : Lent) → Site → Row → Result (Option Child) Stop → Type 0
ElementPassed w m new site row (Ok None) = PassesLeaf w m new row
ElementPassed w m new site row (Ok (Some child)) = LeadsToTable w m new row child
ElementPassed w m new site row (Err s) =
    Fails m new (told site m.count
    (element_failure w.checks m.bytes (first_word m.bytes w.schema.now row) ▷ lead_reads_failure w.limits m.count
    (first_word m.bytes w.schema.now row) (first_word m.bytes w.schema.now row).lead)) s

-- the walk went on from this top over these frames to those, with less work left
pub record WorkedOn (w then : Walk) (m new : Lent) (s : Origin) (old : List Frame) (top : Frame) (frames : List Frame) (past : Frame) : Type 0 where
  pub same : then ≡ record w { tables = then.tables; deepest = then.deepest }
  pub walking : IsWalking then new s frames past
  pub falls : new.count + work w.schema.now w.limits frames past then.tables < m.count + work w.schema.now w.limits old top w.tables
  pub grows : m.count ≤ new.count
  pub bytes : new.bytes ≡ m.bytes

-- fields of the top were passed until one leads on, or none was left (true and false tell which); or the walk stops at one
abbrev pub PassesFields : (w : Walk) → (m new : Lent) → (under : Waiting) → (top past : Frame) → Result Bool Stop → Type 0
PassesFields w m new under top past (Ok true) = WorkedOn w w m new under.start under.frames top under.frames past
PassesFields w m new under top past (Ok false) = HasPassed w m new under top past × (length (live_fields w.schema.now (past.table).object) ≤ past.next)
PassesFields w m new under top past (Err s) = (new.bytes ≡ m.bytes) × IsStopped w m under.start under.frames (stopped s new.count)

-- a word of the top was passed: it leads to the table of the frame below, or to none, or fails
abbrev pub WordPassed : (w then : Walk) → (m new : Lent) → (under : Waiting) → (top past below : Frame) → Result Bool Stop → Type 0
WordPassed w then m new under top past below (Ok true) = WorkedOn w then m new under.start under.frames top (under.frames ++ past ∷ []) below
WordPassed w then m new under top past below (Ok false) = WorkedOn w then m new under.start under.frames top under.frames past
WordPassed w then m new under top past below (Err s) = (new.bytes ≡ m.bytes) × IsStoppedBehind w m under.start (under.frames ++ past ∷ []) (stopped s new.count)

-- one unit over frames: so many wait after it, or the walk is over, or stops
abbrev pub UnitTurned : (w then : Walk) → (m new : Lent) → (s : Origin) → (old : List Frame) → (waiting : ℕ) → (frames : List Frame) → Result (Option ℕ) Halt → Type 0
UnitTurned w then m new s old waiting frames (Ok (Some after)) = WentOn w then m new s old waiting frames after 1
UnitTurned w then m new s old waiting frames (Ok None) = WentOver w then m new s
UnitTurned w then m new s old waiting frames (Err h) = WentWrong w m new s frames h
