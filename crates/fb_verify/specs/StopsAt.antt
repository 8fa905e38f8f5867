-- Where a test of a field fails that is told by its place and reason alone.
use Rattle.std.specs.Prelude.{◌≡◌, ℕ, Some, slice_get}
use Rattle.fb_schema.specs.{Rows.Rows, Live.Live, Live.live_fields}
use Rattle.fb_rules.specs.declared.{fault.Reason.Reason, site.Stop.Stop}
use Rattle.fb_verify.specs.declared.scratch.Frame.{Frame}

-- the stop at this place, for this reason, in the next field of the frame's table
pub record IsStopAt (S : Rows) (top : Frame) (at : ℕ) (reason : Reason) (s : Stop) : Type 0 where
  pub refusal : s.refusal ≡ record { at = at; reason = reason }
  pub object : (s.site).object ≡ (top.table).object
  pub field : (f : Live) → slice_get (live_fields S (top.table).object) top.next ≡ Some f → (s.site).field ≡ Some f.number
