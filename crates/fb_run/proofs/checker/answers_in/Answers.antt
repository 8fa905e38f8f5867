use Rattle.std.proofs.Common.{rules}
use Rattle.std.proofs.lemmas.List.{length_push}
use Rattle.fb_run.proofs.FoundLemmas.{found_more}
use Rattle.fb_run.proofs.checker.answers_in.Goals as goal

pub loop-asked-preserved : goal.loop-asked-preserved
loop-asked-preserved c =
    let found = found_more _ _ _ _ c.args.paths.now c.loop-asked.asked-index c.asked-item.result c.loop-asked.answers c.push.new.self c.get.result (search rules) c.asked-item.is
    c.loop-asked.invariant.found (rw c.path.ensures at c.get.ensures) c.push.ensures in
    search (rules, length_push)
