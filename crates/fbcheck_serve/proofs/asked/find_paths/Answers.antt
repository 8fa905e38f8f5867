use Rattle.std.proofs.Common.{◌+◌, List, ap, length, map, rules, subst, sym, take_all, ◌∙◌}
use Rattle.std.specs.Prelude.{string_bytes}
use Rattle.std.proofs.lemmas.{List.length_push, List.Elements.All-push}
use Rattle.fb_access.specs.Fitting.{StepsFit}
use Rattle.fb_schema.specs.declared.kinds.Kind.TheVariants.{Table}
use Rattle.fb_run.specs.{Job.PathsFit, Wanted.Wanted}
use Rattle.fbcheck_serve.specs.Checking.{IsPathless}
use Rattle.fbcheck_serve.proofs.{ByteLemmas.hinted, PathLemmas.path_told, PathLemmas.paths_more}
use Rattle.fbcheck_serve.proofs.asked.find_paths.Goals as goal

pub loop-text-preserved : goal.loop-text-preserved
loop-text-preserved c =
    let path = c.in-Ok.path in
    let found = c.in-Ok.ensures in
    let before = c.loop-text.invariant in
    let added = c.in-Ok-push.ensures.items in
    record {
      named = paths_more c.args.schema.now c.args.root c.args.texts.now c.loop-text.text-index c.text-item.result (search rules) c.text-item.is c.loop-text.paths.items _ path before.named found.path added;
      fit = subst (λ (l : List Wanted). PathsFit c.args.schema.now c.args.root l) (sym added)
          (All-push (λ (wanted : Wanted). StepsFit c.args.schema.now (Table c.args.root) wanted.steps) c.loop-text.paths.items path before.fit found.fits);
      count = ap length added ∙ length_push c.loop-text.paths.items path ∙ ap (λ n. n + 1) before.count;
    }

pub returns-in-Err-clause-none : goal.returns-in-Err-clause-none
returns-in-Err-clause-none c =
    hinted (IsPathless c.args.schema.now c.args.root (map string_bytes c.args.texts.now)) c.in-Err.fault c.new.result.fault c.path_hint-hint.result c.new.ensures
    (path_told c.args.schema.now c.args.root c.args.texts.now c.loop-text.text-index c.text-item.result (search rules) c.text-item.is c.loop-text.paths.items c.in-Err.fault
    c.loop-text.invariant.named c.in-Err.ensures.fault) tt

pub returns-clause-paths : goal.returns-clause-paths
returns-clause-paths c = rw (take_all c.loop-text.text-index c.args.texts.now c.loop-text-test.false) at c.loop-text.invariant.named
