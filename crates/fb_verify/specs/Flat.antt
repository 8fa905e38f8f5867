-- What it takes to pass a table whose fields lead to no table, and what that leaves.
use Rattle.std.specs.Prelude.{◌≡◌, ℕ, ◌+◌, ◌*◌, ◌^◌, ◌<◌, ◌≤◌, true, List, [], ◌∷◌, ◌++◌, Option, None, IfSome, length, map}
use Rattle.fb_bytes.specs.Word.{Lent}
use Rattle.fb_schema.specs.{Rows.Rows, Live.live_fields, Steps.is_plain, Steps.step_of, declared.views.Step.Step}
use Rattle.fb_rules.specs.{Bounds.AreAllowed, Cost.head_reads, Order.after, Order.head_failure, Plain.tested_by, Told.stopped, Told.IsHead, declared.checks.Checks.Checks}
use Rattle.fb_rules.specs.declared.{fault.Reason.Reason, table.Table.Table, site.Stop.Stop}
use Rattle.fb_verify.specs.{StopsAt.IsStopAt, Stack.blank, Stack.opened, Stack.own_link, Stack.Waiting, Stack.IsUnderWay, Stack.IsWalking, Stack.StopsIn, declared.scratch.Frame.Frame}
use Rattle.fb_verify.specs.declared.stack.Walk.{Walk}

-- a walk under way, and what is below its top
pub record Going : Type 0 where
  pub walk : Walk
  pub under : Waiting

-- the number of no field: the head of a table
abbrev pub in_head : ℕ
in_head = 4294967295

-- a frame at this field of a table of this object
abbrev pub frame_at : ℕ → ℕ → Frame
frame_at k next = record { table = record { object = k; at = (blank.table).at; head = (blank.table).head }; next = next; number = blank.number; row = blank.row }

-- a walk after r reads goes on in the table at t of the object k, once its head is read and holds
abbrev pub MayOpen : Walk → List ℕ → ℕ → Waiting → ℕ → ℕ → Type 0
MayOpen w b r under k t =
    (table : Table) → table.object ≡ k → table.at ≡ t → IsHead w.checks b t table.head → head_failure w.checks b t ≡ None
    → IsUnderWay w.checks b w.schema.now w.limits under.start under.frames (opened table) w.tables w.deepest (r + head_reads w.checks)

-- such a table, whose fields lead to no table, may be passed by its steps, whatever that costs
pub record MayPass (going : Going) (m : Lent) (c : Checks) (S : Rows) (k t : ℕ) (steps : List Step) : Type 0 where
  pub opens : MayOpen going.walk m.bytes m.count going.under k t
  pub room : AreAllowed (going.walk.limits).reads (m.count + 3 + 6 * length steps)
  pub short : m.count + 3 + 6 * length steps < 2 ^ 56
  pub near : t < 2 ^ 33
  pub same : c ≡ going.walk.checks
  pub its : steps ≡ map step_of (live_fields going.walk.schema.now k)
  pub schema : S ≡ going.walk.schema.now
  pub plain : is_plain going.walk.schema.now k ≡ true
  pub few : length steps < 2 ^ 32

-- the table at t of the object k was passed whole, and the walk goes on in the frame above it; or its head fails, or a
-- field of it, at this place, for this reason
pub record PassesFlat (w : Walk) (m new : Lent) (under : Waiting) (k t next at : ℕ) (result : Option Reason) : Type 0 where
  pub walking : result ≡ None → (rest : List Frame) → (above : Frame) → under.frames ≡ rest ++ above ∷ [] → IsWalking w new under.start rest above
  pub paid : result ≡ None → new.count ≤ m.count + 3 + 6 * length (live_fields w.schema.now k)
  pub grows : m.count ≤ new.count
  pub bytes : new.bytes ≡ m.bytes
  pub head : next ≡ in_head → IfSome result (λ _. tested_by at new.count result ≡ after m.count (head_failure w.checks m.bytes t))
  pub within : (next ≡ in_head → ⊥) → IfSome result (λ _. next < length (live_fields w.schema.now k))
  pub field : (next ≡ in_head → ⊥)
      → IfSome result (λ reason. (s : Stop) → IsStopAt w.schema.now (frame_at k next) at reason s
      → StopsIn w.checks m.bytes w.schema.now w.limits under.start under.frames (own_link (stopped s new.count)) (stopped s new.count))
