-- The steps of a path around the one that stands for each element.
use Rattle.std.specs.Prelude.{◌≡◌, ◌-◌, drop, take}
use Rattle.fbcheck_calls.specs.{Each.HasEach, declared.steps.Around.Around, declared.steps.PlainPath.PlainPath}

pub record IsAround (p : PlainPath) (around : Around) : Type 0 where
  pub has : HasEach p
  pub before : (around.before).now ≡ take (p.each - 1) p.steps
  pub after : (around.after).now ≡ take (p.count - p.each) (drop p.each p.steps)
