use Rattle.std.proofs.Common.{◌∙◌, ◌++◌, ap, append-nil, map, sym, take_all}
use Rattle.fb_run.specs.Csv.{head_field, joined}
use Rattle.fb_run.proofs.CsvLemmas.{head_more, text_of}
use Rattle.fb_run.proofs.csv.put_texts.Goals as goal

pub loop-index-init : goal.loop-index-init
loop-index-init g c = sym (append-nil c.args.text.now.items)

pub loop-index-preserved : goal.loop-index-preserved
loop-index-preserved g c =
    head_more c.args.paths.now c.loop-index.index c.index-paths-index.result c.args.text.now.items c.loop-index.text.items _ _ c.loop-index-test.true c.loop-index.invariant c.in_ok-add_if.ensures
    (c.in_ok-put_text.ensures ∙ ap (λ l. c.add_if.new.text.items ++ head_field l) (c.text.ensures ∙ ap text_of c.index-paths-index.is))

pub returns : goal.returns
returns g c = c.loop-index.invariant ∙ ap (λ l. c.args.text.now.items ++ joined (map head_field (map text_of l))) (take_all c.loop-index.index c.args.paths.now c.loop-index-test.false)
