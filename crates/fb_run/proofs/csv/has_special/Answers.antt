use Rattle.std.proofs.Common.{rules, tests}
use Rattle.std.proofs.lemmas.Iterator.{YieldsList-from_slice, Search.any_from_yields_List}
use Rattle.fb_run.specs.Csv.{is_special}
use Rattle.fb_run.proofs.csv.has_special.Goals as goal

pub returns : goal.returns
returns c = any_from_yields_List is_special _ _ c.any.result c.any.ensures.ran (YieldsList-from_slice c.args.text.now cc) (λ x b q k. search (rules, tests))
