use Rattle.std.proofs.Common.{rules, ◌∙◌}
use Rattle.fb_run.specs.Ends.{writer_of}
use Rattle.fbcheck_serve.proofs.ServingLemmas.{sums_noted}
use Rattle.fbcheck_serve.proofs.stop.sum_up.Goals as goal

pub returns-then-written-text : goal.returns-then-written-text
returns-then-written-text g c =
    sums_noted _ c.in-Some.told (writer_of g.N.Sink c.args.notes.now) (writer_of g.N.Sink c.push_all-written.new.sink) _ c.bytes-text.result.now _ c.in-Some.is (c.bytes-text.ensures ∙ c.summary-line.ensures) (search rules) c.push_all-written.ensures.bytes (search rules)
