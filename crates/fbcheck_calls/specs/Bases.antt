-- What buffers are checked by.
use Rattle.std.specs.Prelude.{ℕ, Option}
use Rattle.fb_bfbs.specs.declared.loading.Loaded.{Loaded}
use Rattle.fb_strict.specs.Planned.{Planned}

-- a schema, and the plan for the demands with which it was made, if there are any
pub record Based : Type 0 where
  pub loaded : Loaded
  pub demands : ℕ
  pub plan : Option Planned
