-- Tables of one object that share a vtable: what holds of one holds of those below it that are aligned alike.
use Rattle.std.specs.Prelude.{◌≡◌, ◌⊎◌, ℕ, ◌+◌, ◌*◌, ◌%◌, ◌<◌, ◌≤◌, List, length, None}
use Rattle.std.specs.List.{All}
use Rattle.fb_schema.specs.declared.views.{Act.TheVariants.One, Act.TheVariants.Two, Act.TheVariants.Four, Act.TheVariants.Eight, Step.Step}
use Rattle.fb_rules.specs.{declared.checks.Checks.Checks, declared.passed.Passed.Passed, declared.passed.Sizes.TheVariants.Small, Order.head_failure, Places.vtable}
use Rattle.fb_rules.specs.Plain.{StepsHold, steps_reads, vtable_reads}

-- the step of a scalar or struct of 1, 2, 4 or 8 bytes, aligned to as many
abbrev pub IsSmallStep : Step → Type 0
IsSmallStep s = (s.act ≡ One) ⊎ (s.act ≡ Two) ⊎ (s.act ≡ Four) ⊎ (s.act ≡ Eight)

-- a table at t with its vtable at v lies below the one that was passed, is aligned alike, and has the same vtable
pub record IsLike (passed : Passed) (t v : ℕ) : Type 0 where
  pub same : v ≡ passed.vtable
  pub below : t < passed.at
  pub aligned : t % 8 ≡ passed.at % 8

-- its head and the fields of these steps hold in the table that was passed, for so many reads behind that of its first word
pub record IsPassed (c : Checks) (b : List ℕ) (steps : List Step) (passed : Passed) : Type 0 where
  pub head : head_failure c b passed.at ≡ None
  pub vtable : passed.vtable ≡ vtable b passed.at
  pub hold : StepsHold c b passed.at steps
  pub reads : passed.reads ≡ vtable_reads c + steps_reads b passed.at steps
  pub few : passed.reads ≤ 2 + 6 * length steps

-- what is kept of a row's tables holds: which sizes their fields have, and of the last that was passed, if one was
pub record IsKept (c : Checks) (b : List ℕ) (steps : List Step) (passed : Passed) : Type 0 where
  pub small : passed.sizes ≡ Small → All IsSmallStep steps
  pub holds : 0 < passed.at → IsPassed c b steps passed
