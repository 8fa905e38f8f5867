-- The buffers that are open while a buffer is asked with those inside it, from the innermost out.
use Rattle.std.specs.Prelude.{◌≡◌, ℕ, zero, suc, ◌+◌, ◌-◌, ◌*◌, ◌^◌, ◌<◌, ◌≤◌, ◌⊎◌, max, min, List, [], ◌∷◌, ◌++◌, length, take, drop, get_or, IsTrue, Option, Some, None, Result, Ok, Err}
use Rattle.fb_bytes.specs.Word.{Lent}
use Rattle.fb_schema.specs.{Served.IsServed, Rows.is_table, Live.widest}
use Rattle.fb_rules.specs.declared.{fault.Fault.Fault, fault.Report.Report, link.Link.Link, site.Halt.Halt, site.LastLink.LastLink, table.Child.Child}
use Rattle.fb_rules.specs.{Question.Question, Bounds.AreAllowed, Told.stopped, Tree.Tree, Places.target, WellFormed.base, WellFormed.IsWellFormed, WellFormed.IsWithin}
use Rattle.fb_rules.specs.{declared.start.Start.TheVariants.Bare, declared.start.Ident.TheVariants.Any, Links.StopsAlong}
use Rattle.std.specs.List.{sum_by}
use Rattle.fb_verify.specs.Stack.{last_link, links_left}
use Rattle.fb_strict.specs.declared.{inner.Inner.Inner, room.Frame.Frame, levels.Level.Level, levels.Unmet.Unmet, levels.Missed.Missed, levels.Rest.Rest}
use Rattle.fb_strict.specs.{declared.levels.Rest.TheVariants.Tables, declared.levels.Rest.TheVariants.Walked, Planned.Planned, Planned.IsPlan, Asked.Demand, Asked.demands_of}
use Rattle.fb_strict.specs.{Asked.demands_reads, Passing.Passing, Passing.wants_of, Passing.AreLeft, Passing.GoesOn, Passing.Halts, Passing.Moves, Passing.Breaks, Passing.IsInner}
use Rattle.fb_strict.specs.{Passing.frame_links, Passing.AreLinked, Nested.Refused, Nested.spent_alone, Nested.place_in, Nested.and_reads, Nested.IsEntered, Nested.Course}
use Rattle.fb_strict.specs.Nested.{ComeTo, EndsWith, IsWalked, asked_of, question_inside, later, and_walk, bytes_inside, open_at, limits_left, limits_inside}

-- an open buffer: how many tables are open above its root, its bytes, where they begin in the whole, the links that
-- lead to it, and what is left to be asked of it
pub record Opened : Type 0 where
  pub above : ℕ
  pub bytes : List ℕ
  pub begin : ℕ
  pub via : List Link
  pub left : List Demand

-- a no of it, in the whole
abbrev pub in_whole : Opened → Refused → Refused
in_whole l e = record { fault = record e.fault { at = place_in l.begin (e.fault).at }; links = l.via ++ e.links }

-- the buffer inside at this demand of it, of which so much is left
abbrev pub opened_inside : Opened → Demand → Inner → List Demand → Opened
opened_inside l d i ds = record { above = open_at l.above d; bytes = bytes_inside l.bytes i; begin = l.begin + i.at; via = l.via ++ d.links; left = ds }

-- what is left of them comes to this in the whole, once so much is spent: a no of the innermost, or all of it is met,
-- and then the others
unfoldable pub LevelsComeTo : List Opened → Planned → Question → (spent : Report) → Result Report Refused → Type 0
LevelsComeTo [] p q spent end = end ≡ Ok spent
LevelsComeTo (l ∷ ls) p q spent end =
    ((c : Course) × (e : Refused) × ComeTo c p q l.above l.bytes spent l.left (Err e) × (end ≡ Err (in_whole l e)))
    ⊎ ((c : Course) × (mid : Report) × ComeTo c p q l.above l.bytes spent l.left (Ok mid) × LevelsComeTo ls p q mid end)

-- How the code holds them.

-- what is asked of all of them: the whole buffer, the plan, and the question
pub record Whole : Type 0 where
  pub plan : Planned
  pub question : Question
  pub bytes : List ℕ

-- what always holds of it
pub record IsAsking (w : Whole) : Type 0 where
  pub plan : IsPlan (w.question).rows (w.plan).demands w.plan
  pub served : IsServed (w.question).rows
  pub short : length w.bytes < 2 ^ 31
  pub wide : widest (w.question).rows < 2 ^ 32
  pub many : ((w.question).limits).tables < 2 ^ 32
  pub deep : ((w.question).limits).depth ≤ 4096

-- the pass over an open buffer, by all limits, and within what is left of them
abbrev pub resting : Whole → Passing
resting w = record { plan = w.plan; rows = (w.question).rows; limits = (w.question).limits; checks = (w.question).checks }

abbrev pub passing_of : Whole → (spent : Report) → Passing
passing_of w spent = record (resting w) { limits = limits_left (w.question).limits spent.reads }

-- so many frames serve for walks to this depth, which put the way to a fault where a row of links has room for it
pub record AreEnough (depth frames row : ℕ) : Type 0 where
  pub some : min depth 1 ≤ frames
  pub room : depth ≤ max 64 frames
  pub located : depth ≤ row → depth ≤ frames

-- the bytes of an open buffer
abbrev pub bytes_of : Whole → Level → List ℕ
bytes_of w l = take l.size (drop l.begin w.bytes)

-- all that is asked of it, where it unfolds into this tree from this root table
abbrev pub asked_from : Whole → Level → Child → Tree → List Demand
asked_from w l root y = demands_of (wants_of (resting w)) (w.question).checks (bytes_of w l) (w.question).rows root.object y

-- the question of a buffer inside, within what is left of the limits, as its walk asks it
abbrev pub walk_at : Whole → Level → (root : ℕ) → (spent : Report) → Question
walk_at w l root spent = record w.question { root = root; start = Bare; ident = Any; limits = limits_inside (w.question).limits l.above spent }

-- it unfolds into this tree from a root table that stands there, and so much is spent then
pub record IsWalkedAt (w : Whole) (l : Level) (root : ℕ) (spent then : Report) (child : Child) (y : Tree) : Type 0 where
  pub well_formed : IsWellFormed (walk_at w l root spent) (bytes_of w l) y
  pub within : IsWithin (walk_at w l root spent) (bytes_of w l) y
  pub then_is : then ≡ and_walk spent (walk_at w l root spent) (bytes_of w l) l.above y
  pub object : child.object ≡ root
  pub at : child.at ≡ target (bytes_of w l) 0
  pub near : child.at < 2 ^ 33

-- the links of so many of its open tables, and that each has one
abbrev pub links_of : Whole → List Frame → Level → ℕ → List Link
links_of w frames l many = frame_links (wants_of (resting w)) (bytes_of w l) (w.question).rows (drop l.above frames) many

abbrev pub HaveLinks : Whole → List Frame → Level → ℕ → Type 0
HaveLinks w frames l many = AreLinked (wants_of (resting w)) (w.question).checks (bytes_of w l) (w.question).rows (drop l.above frames) many

-- and of all of them
abbrev pub way_through : Whole → List Frame → Level → List Link
way_through w frames l = links_of w frames l l.many

abbrev pub IsThrough : Whole → List Frame → Level → Type 0
IsThrough w frames l = HaveLinks w frames l l.many

-- its frames, behind those of the tables that are open above it, stand for these demands, which are left of it
pub record IsOpened (w : Whole) (frames : List Frame) (level : Level) (ds : List Demand) : Type 0 where
  pub within : level.begin + level.size ≤ length w.bytes
  pub room : level.above + level.many ≤ length frames
  pub higher : level.above < length frames
  pub stack : AreLeft (resting w) (bytes_of w level) (drop level.above frames) level.many ds
  pub few : demands_reads ds ≤ 2 ^ 112

-- the bytes of a buffer stand in the whole, and there are frames for so many of its tables, which have links
pub record AreOpen (w : Whole) (frames : List Frame) (level : Level) (many : ℕ) : Type 0 where
  pub within : level.begin + level.size ≤ length w.bytes
  pub room : level.above + many ≤ length frames
  pub linked : HaveLinks w frames level many

-- a way leads on from the tables around it by the links of so many of its own, and by what these leave
pub record LeadsOn (w : Whole) (frames : List Frame) (level : Level) (many : ℕ) (last : LastLink) (f : Fault) (links : List Link) : Type 0 where
  pub tables : AreOpen w frames level many
  pub room : level.above + many + links_left last ≤ length frames
  pub way : links ≡ links_of w frames level many ++ last_link last f

-- what isn't met where a pass over it halts, after so many reads
abbrev pub unmet_by : Level → Halt → ℕ → Unmet
unmet_by level h reads = record { fault = stopped h.stop reads; level = level; rest = Tables h.links h.last }

-- a pass over it came to a buffer inside, behind some that are met
pub record Reached (w : Whole) (spent then : Report) (frames : List Frame) (level : Level) (ds : List Demand) (i : Inner) : Type 0 where
  pub last : ℕ
  pub it : Demand
  pub left : List Demand
  pub moves : Moves (w.question).limits spent.reads ds last (it ∷ left)
  pub inner : it.inner ≡ Some i
  pub chain : it.chain ≡ None
  pub count : then.reads ≡ last + it.reads
  pub allowed : AreAllowed ((w.question).limits).reads then.reads
  pub stands : IsInner (resting w) (bytes_of w level) i
  pub opened : IsOpened w frames level left
  pub some : 0 < level.many
  pub through : IsThrough w frames level
  pub way : it.links ≡ way_through w frames level

-- or it found that all is met, or stops at the first that isn't
abbrev pub Finished : Whole → (spent then : Report) → List Demand → Type 0
Finished w spent then ds = Moves (w.question).limits spent.reads ds then.reads []

pub record Stopped (w : Whole) (spent : Report) (frames : List Frame) (level : Level) (ds : List Demand) (u : Unmet) : Type 0 where
  pub links : List Link
  pub breaks : Breaks (w.question).limits spent.reads ds u.fault links
  pub level_is : u.level ≡ level
  pub many : ℕ
  pub last : LastLink
  pub rest : u.rest ≡ Tables many last
  pub leads : LeadsOn w frames level many last u.fault links

abbrev pub Legged : (w : Whole) → (spent then : Report) → (frames : List Frame) → (level : Level) → List Demand → Result (Option Inner) Unmet → Type 0
Legged w spent then frames level ds (Ok None) = Finished w spent then ds
Legged w spent then frames level ds (Ok (Some i)) = Reached w spent then frames level ds i
Legged w spent then frames level ds (Err u) = Stopped w spent frames level ds u

-- a buffer that unfolds into this tree was opened: what comes first of its demands is met, or isn't
pub record IsBegun (w : Whole) (spent then : Report) (frames : List Frame) (level : Level) (ds : List Demand) : Type 0 where
  pub left : List Demand
  pub moves : Moves (w.question).limits spent.reads ds then.reads left
  pub opened : IsOpened w frames level left

abbrev pub Begun : (w : Whole) → (spent then : Report) → (frames : List Frame) → (level : Level) → List Demand → Result Level Unmet → Type 0
Begun w spent then frames level ds (Ok l) = IsBegun w spent then frames l ds × (l ≡ record level { many = l.many })
Begun w spent then frames level ds (Err u) = Stopped w spent frames level ds u

-- or its walk stops: so many links, which lead to the fault, stand behind as many as there are tables above it, where
-- there is room for them
pub record WalkStops (w : Whole) (spent : Report) (row : List Link) (level : Level) (root : ℕ) (f : Fault) (many : ℕ) : Type 0 where
  pub own : Fault
  pub links : List Link
  pub stops : StopsAlong (walk_at w level root spent) (bytes_of w level) own links
  pub fault : f ≡ later spent.reads own
  pub told : ((w.question).limits).depth ≤ length row → (links ≡ take many (drop level.above row)) × (level.above + many ≤ length row)

-- the same of a pass by itself, and of how many frames are open then
abbrev pub RootBegun : (p : Passing) → (m new : Lent) → List Demand → List Frame → Result ℕ Halt → Type 0
RootBegun p m new ds frames (Ok many) = (left : List Demand) × GoesOn p m new ds left × AreLeft p m.bytes frames many left × (many ≤ length frames)
RootBegun p m new ds frames (Err h) = Halts p m new ds frames h

-- A buffer inside was entered.

abbrev pub inside_of : Whole → Level → Inner → List ℕ
inside_of w around i = bytes_inside (bytes_of w around) i

-- it unfolds into this tree within what is left
abbrev pub IsWalkedIn : Whole → (spent : Report) → Level → Inner → Tree → Type 0
IsWalkedIn w spent around i y = IsWalked w.question (bytes_of w around) i (around.above + around.many) spent y

-- what is spent then, and what is asked of it
abbrev pub spent_inside : Whole → Report → Level → Inner → Tree → Report
spent_inside w spent around i y = and_walk spent (question_inside w.question i) (inside_of w around i) (around.above + around.many) y

abbrev pub asked_inside : Whole → Level → Inner → Tree → List Demand
asked_inside w around i y = asked_of w.plan (question_inside w.question i) (inside_of w around i) y

-- what comes first of that is met
pub record IsEnteredAt (w : Whole) (spent then : Report) (frames : List Frame) (around : Level) (i : Inner) (level : Level) : Type 0 where
  pub tree : Tree
  pub walked : IsWalkedIn w spent around i tree
  pub begun : IsBegun w (spent_inside w spent around i tree) then frames level (asked_inside w around i tree)
  pub same : then ≡ record (spent_inside w spent around i tree) { reads = then.reads }
  pub begin : level.begin ≡ around.begin + i.at
  pub size : level.size ≡ i.size
  pub bytes : bytes_of w level ≡ inside_of w around i
  pub above : level.above ≡ around.above + around.many

-- the buffer inside, before it is open
abbrev pub level_inside : Level → Inner → Level
level_inside around i = record { begin = around.begin + i.at; size = i.size; above = around.above + around.many; many = 0 }

-- or its walk stops, or a demand isn't met before it is open
pub record HasStopped (w : Whole) (spent : Report) (row : List Link) (around : Level) (i : Inner) (u : Unmet) : Type 0 where
  pub level_is : u.level ≡ level_inside around i
  pub many : ℕ
  pub rest : u.rest ≡ Walked many
  pub stops : WalkStops w spent row (level_inside around i) i.root u.fault many

pub record HasBroken (w : Whole) (spent : Report) (frames : List Frame) (around : Level) (i : Inner) (u : Unmet) : Type 0 where
  pub tree : Tree
  pub walked : IsWalkedIn w spent around i tree
  pub stopped : Stopped w (spent_inside w spent around i tree) frames (level_inside around i) (asked_inside w around i tree) u

abbrev pub HasEntered : (w : Whole) → (spent then : Report) → (frames : List Frame) → (row : List Link) → (around : Level) → Inner → Result Level Unmet → Type 0
HasEntered w spent then frames row around i (Ok level) = IsEnteredAt w spent then frames around i level
HasEntered w spent then frames row around i (Err u) = HasStopped w spent row around i u ⊎ HasBroken w spent frames around i u

-- The stack of them.

-- as relations see one
abbrev pub opened_as : Whole → Level → (via : List Link) → List Demand → Opened
opened_as w l via ds = record { above = l.above; bytes = bytes_of w l; begin = l.begin; via = via; left = ds }

-- what no buffer has written
abbrev pub no_level : Level
no_level = record { begin = 0; size = 0; above = 0; many = 0 }

-- the links that lead to the next, and how many tables are open above it
unfoldable pub way_to : Whole → List Frame → List Level → ℕ → List Link
way_to w frames levels zero = []
way_to w frames levels (suc n) = way_to w frames levels n ++ way_through w frames (get_or levels n no_level)

unfoldable pub above_next : List Level → ℕ → ℕ
above_next levels zero = 0
above_next levels (suc n) = (get_or levels n no_level).above + (get_or levels n no_level).many

-- the one before it has its links, if there is one
unfoldable pub IsThroughBelow : Whole → List Frame → List Level → ℕ → Type 0
IsThroughBelow w frames levels zero = Unit {0}
IsThroughBelow w frames levels (suc n) = IsThrough w frames (get_or levels n no_level)

-- the first so many levels are these, the last of them innermost, each above the open tables of those around it
unfoldable pub AreOpened : Whole → List Frame → List Level → ℕ → List Opened → Type 0
AreOpened w frames levels zero os = os ≡ []
AreOpened w frames levels (suc n) os =
    (ds : List Demand) × (others : List Opened) × IsOpened w frames (get_or levels n no_level) ds × ((get_or levels n no_level).above ≡ above_next levels n) × (n ≤ above_next levels n)
    × IsThroughBelow w frames levels n × AreOpened w frames levels n others × (os ≡ opened_as w (get_or levels n no_level) (way_to w frames levels n) ds ∷ others)

-- the reads of all that is left
abbrev pub left_reads : List Opened → ℕ
left_reads os = sum_by (λ o. demands_reads o.left) os

-- A strict verdict is under way, with so many levels open: what is left of them comes to the end of the whole.
pub record IsUnderWay (w : Whole) (spent : Report) (frames : List Frame) (levels : List Level) (n : ℕ) : Type 0 where
  pub opened : List Opened
  pub stack : AreOpened w frames levels n opened
  pub ends : (end : Result Report Refused) → LevelsComeTo opened w.plan w.question spent end → EndsWith w.plan w.question w.bytes end
  pub allowed : AreAllowed ((w.question).limits).reads spent.reads
  pub many : spent.tables ≤ ((w.question).limits).tables
  pub low : spent.depth ≤ 4096
  pub few : spent.reads + left_reads opened ≤ 2 ^ 80 * spent.tables

-- It came to a buffer inside this level, which is behind so many others: the demand was met by itself.
pub record IsAtInner (w : Whole) (spent : Report) (frames : List Frame) (levels : List Level) (n : ℕ) (level : Level) (i : Inner) : Type 0 where
  pub before : Report
  pub it : Demand
  pub left : List Demand
  pub others : List Opened
  pub ends : (end : Result Report Refused) → LevelsComeTo (opened_as w level (way_to w frames levels n) (it ∷ left) ∷ others) w.plan w.question before end → EndsWith w.plan w.question w.bytes end
  pub entered : IsEntered (w.question).limits before it i
  pub count : spent ≡ and_reads before it.reads
  pub stands : IsInner (resting w) (bytes_of w level) i
  pub opened : IsOpened w frames level left
  pub some : 0 < level.many
  pub through : IsThrough w frames level
  pub way : it.links ≡ way_through w frames level
  pub above : level.above ≡ above_next levels n
  pub rise : n ≤ above_next levels n
  pub below : IsThroughBelow w frames levels n
  pub stack : AreOpened w frames levels n others
  pub many : spent.tables ≤ ((w.question).limits).tables
  pub low : spent.depth ≤ 4096
  pub few : spent.reads + (demands_reads left + left_reads others) ≤ 2 ^ 80 * spent.tables

-- It ends in a no.

-- a level that is passed through, behind those around it
pub record IsPassed (w : Whole) (frames : List Frame) (levels : List Level) (n : ℕ) : Type 0 where
  pub above : (get_or levels n no_level).above ≡ above_next levels n
  pub tables : AreOpen w frames (get_or levels n no_level) (get_or levels n no_level).many

-- how the way goes on in the buffer in which something isn't met
abbrev pub RestIs : Whole → List Frame → List Link → Level → Rest → Fault → List Link → Type 0
RestIs w frames row level (Tables many last) f links = LeadsOn w frames level many last f links
RestIs w frames row level (Walked many) f links = (links ≡ take many (drop level.above row)) × (level.above + many ≤ length row)

-- the way through the levels around that buffer, and in it
pub record IsWayTo (w : Whole) (frames : List Frame) (levels : List Level) (row : List Link) (m : Missed) (way : List Link) : Type 0 where
  pub around : (k : ℕ) → k < m.levels → IsPassed w frames levels k
  pub above : ((m.unmet).level).above ≡ above_next levels m.levels
  pub rise : m.levels ≤ above_next levels m.levels
  pub links : List Link
  pub rest : RestIs w frames row (m.unmet).level (m.unmet).rest (m.unmet).fault links
  pub way_is : way ≡ way_to w frames levels m.levels ++ links

-- its fault in the whole
abbrev pub fault_of : Unmet → Fault
fault_of u = record u.fault { at = place_in (u.level).begin (u.fault).at }

-- the whole ends in this fault, and in the links of this way, which are told where there is room for them
pub record EndsAlong (w : Whole) (frames : List Frame) (levels : List Level) (row : List Link) (m : Missed) : Type 0 where
  pub way : List Link
  pub ends : EndsWith w.plan w.question w.bytes (Err (record { fault = fault_of m.unmet; links = way }))
  pub told : ((w.question).limits).depth ≤ length row → IsWayTo w frames levels row m way

-- how many turns are left at most: one opens a table at least, or closes a level
abbrev pub turns_left : Whole → (spent : Report) → (n : ℕ) → ℕ
turns_left w spent n = 2 * (((w.question).limits).tables - spent.tables) + n

-- the whole unfolds into this tree from a root table that stands there, within the limits, and so much is spent by that
pub record IsWalkedWhole (w : Whole) (spent : Report) (root : Child) (y : Tree) : Type 0 where
  pub well_formed : IsWellFormed w.question w.bytes y
  pub within : IsWithin w.question w.bytes y
  pub spent_is : spent ≡ spent_alone w.question w.bytes y
  pub object : root.object ≡ (w.question).root
  pub at : root.at ≡ target w.bytes (base (w.question).start)
  pub near : root.at < 2 ^ 33
  pub table : IsTrue (is_table (w.question).rows (w.question).root)
