-- What it takes to pass fields of the top of a walk, and what that leaves.
use Rattle.std.specs.Prelude.{◌≡◌, ℕ, ◌+◌, ◌-◌, ◌*◌, ◌^◌, ◌<◌, ◌≤◌, Bool, true, false, Result, List, length, map, drop, slice_get, Some, Ok, Err}
use Rattle.fb_schema.specs.{Rows.Rows, Live.Live, Live.live_fields, Steps.act_of, Steps.step_of, declared.views.Act.TheVariants.Other, declared.views.Step.Step}
use Rattle.fb_bytes.specs.Word.{Lent}
use Rattle.fb_rules.specs.{Bounds.AreAllowed, Places.vtable_size, Plain.StepsHold, Plain.steps_reads, Told.stopped, declared.fault.Reason.Reason, declared.plain.Came.Came}
use Rattle.fb_rules.specs.declared.{plain.Came.TheVariants.Past, plain.Came.TheVariants.ToEnd, plain.Came.TheVariants.ToField, plain.Came.TheVariants.ToFault, site.Stop.Stop}
use Rattle.fb_verify.specs.{StopsAt.IsStopAt, Stack.Waiting, Stack.frame_work, Stack.IsWalking, Stack.IsAtField, Stack.IsStopped, declared.scratch.Frame.Frame, declared.stack.Walk.Walk}

-- a walk between two fields of the top
pub record IsBetween (w : Walk) (m : Lent) (under : Waiting) (top : Frame) : Type 0 where
  pub walking : IsWalking w m under.start under.frames top
  pub rests : (top.row).left ≡ 0

-- the fields of the frame's table that aren't passed
abbrev pub fields_left : Rows → Frame → ℕ
fields_left S fr = length (live_fields S (fr.table).object) - fr.next

-- the budget allows whatever these cost, six reads each, and a count of 64 bits holds it
pub record HasRoom (w : Walk) (m : Lent) (top : Frame) : Type 0 where
  pub allowed : AreAllowed (w.limits).reads (m.count + 6 * fields_left w.schema.now top)
  pub short : m.count + 6 * fields_left w.schema.now top < 2 ^ 56

-- fields of the top were passed that lead on nowhere, and the walk is between two fields again
pub record HasPassed (w : Walk) (m new : Lent) (under : Waiting) (top past : Frame) : Type 0 where
  pub between : IsBetween w new under past
  pub table : past.table ≡ top.table
  pub falls : new.count + frame_work w.schema.now past ≤ m.count + frame_work w.schema.now top
  pub grows : m.count ≤ new.count
  pub bytes : new.bytes ≡ m.bytes

-- the steps of the frame's fields that aren't passed
abbrev pub steps_left : Rows → Frame → List Step
steps_left S fr = drop fr.next (map step_of (live_fields S (fr.table).object))

-- what tells of the fields that aren't passed of this frame tells of those of that one, and of their reads
pub record StepsPass (w : Walk) (m new : Lent) (top past : Frame) : Type 0 where
  pub hold : StepsHold w.checks m.bytes (top.table).at (steps_left w.schema.now past) → StepsHold w.checks m.bytes (top.table).at (steps_left w.schema.now top)
  pub counted : new.count + steps_reads m.bytes (top.table).at (steps_left w.schema.now past) ≡ m.count + steps_reads m.bytes (top.table).at (steps_left w.schema.now top)

-- a field was there that may lead to a table, at this place
pub record ComesToField (w : Walk) (m new : Lent) (under : Waiting) (top past : Frame) (place : ℕ) : Type 0 where
  pub field : IsAtField w new.bytes new.count under.start under.frames past place
  pub open-field : (f : Live) → slice_get (live_fields w.schema.now (top.table).object) past.next ≡ Some f → act_of f f.kind ≡ Other
  pub forth : top.next ≤ past.next
  pub within : past.next ≤ length (live_fields w.schema.now (top.table).object)
  pub paid : new.count + 6 * fields_left w.schema.now past ≤ m.count + 6 * fields_left w.schema.now top + 1

-- none was left
pub record ComesToEnd (w : Walk) (m new : Lent) (under : Waiting) (top past : Frame) : Type 0 where
  pub walking : IsWalking w new under.start under.frames past
  pub forth : top.next ≤ past.next
  pub within : past.next ≤ length (live_fields w.schema.now (top.table).object)
  pub all : length (live_fields w.schema.now (top.table).object) ≤ past.next
  pub ends : new.count + 6 * fields_left w.schema.now past ≤ m.count + 6 * fields_left w.schema.now top
  pub hold : StepsHold w.checks m.bytes (top.table).at (steps_left w.schema.now top)
  pub counted : new.count ≡ m.count + steps_reads m.bytes (top.table).at (steps_left w.schema.now top)

-- the next one fails, at this place, for this reason
pub record ComesToFault (w : Walk) (m new : Lent) (under : Waiting) (top past : Frame) (place : ℕ) (reason : Reason) : Type 0 where
  pub next : past.next < length (live_fields w.schema.now (top.table).object)
  pub err : (s : Stop) → IsStopAt w.schema.now past place reason s → IsStopped w m under.start under.frames (stopped s new.count)

abbrev pub Comes : (w : Walk) → (m new : Lent) → (under : Waiting) → (top past : Frame) → (place : ℕ) → Result Bool Reason → Type 0
Comes w m new under top past place (Ok true) = ComesToField w m new under top past place
Comes w m new under top past place (Ok false) = ComesToEnd w m new under top past
Comes w m new under top past place (Err reason) = ComesToFault w m new under top past place reason

-- fields of the top that lead to no table were passed, for six reads each at most, up to one of these (true, false and a
-- reason tell which)
pub record PassesOn (w : Walk) (m new : Lent) (under : Waiting) (top past : Frame) (place : ℕ) (result : Result Bool Reason) : Type 0 where
  pub comes : Comes w m new under top past place result
  pub same : past ≡ record top { next = past.next }
  pub grows : m.count ≤ new.count
  pub bytes : new.bytes ≡ m.bytes

-- a walk, the frames that wait in it, and the top, of which fields are passed
pub record Passage : Type 0 where
  pub walk : Walk
  pub under : Waiting
  pub top : Frame

-- fields of the top were passed that lead on nowhere, up to the last, or to one whose slot lies behind the vtable
pub record EndsBehind (w : Walk) (m new : Lent) (under : Waiting) (top past : Frame) : Type 0 where
  pub between : IsBetween w new under past
  pub forth : top.next ≤ past.next
  pub within : past.next ≤ length (live_fields w.schema.now (top.table).object)
  pub steps : StepsPass w m new top past
  pub behind : (f : Live) → slice_get (live_fields w.schema.now (top.table).object) past.next ≡ Some f → vtable_size new.bytes (top.table).at < f.slot + 2
  pub paid : new.count + 6 * fields_left w.schema.now past ≤ m.count + 6 * fields_left w.schema.now top
  pub grows : m.count ≤ new.count
  pub bytes : new.bytes ≡ m.bytes

-- to where fields of the top were passed; the next is that of the past frame
abbrev pub CameTo : (w : Walk) → (m new : Lent) → (under : Waiting) → (top past : Frame) → (at : ℕ) → Came → Type 0
CameTo w m new under top past at Past = ⊥
CameTo w m new under top past at ToEnd = EndsBehind w m new under top past
CameTo w m new under top past at ToField = PassesOn w m new under top past at (Ok true)
CameTo w m new under top past at (ToFault reason) = PassesOn w m new under top past at (Err reason)
