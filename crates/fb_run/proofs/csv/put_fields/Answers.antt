use Rattle.std.proofs.Common.{◌++◌, [], refl}
use Rattle.std.specs.Prelude.{nat_lt}
use Rattle.fb_access.specs.declared.answer.Answer.TheVariants.{Absent}
use Rattle.fb_run.specs.Puts.{queue_of}
use Rattle.fb_run.proofs.{CsvLemmas.comma, CsvLemmas.field_more, CsvLemmas.fields_all, PutsLemmas.puts_none, PutsLemmas.puts_then}
use Rattle.fb_run.proofs.csv.put_fields.Goals as goal

pub loop-index-init : goal.loop-index-init
loop-index-init g c = ([], ([], tt, refl), puts_none (queue_of g.K.Sink c.args.out.now c.args.sink.now))

pub loop-index-preserved : goal.loop-index-preserved
loop-index-preserved g c =
    let (text, are, put) = c.loop-index.invariant in
    let (more, one, last) = c.put_value.ensures in
    let start = queue_of g.K.Sink c.args.out.now c.args.sink.now in
    let now = queue_of g.K.Sink c.loop-index.out c.loop-index.sink in
    let between = queue_of g.K.Sink c.put_comma.new.out c.put_comma.new.sink in
    let end = queue_of g.K.Sink c.put_value.new.out c.put_value.new.sink in (
      text ++ (comma (nat_lt 0 c.loop-index.index) ++ more),
      field_more c.args.notation c.args.answers.now c.loop-index.index Absent text more c.loop-index-test.true are one,
      puts_then text (comma (nat_lt 0 c.loop-index.index) ++ more) start now end put (puts_then (comma (nat_lt 0 c.loop-index.index)) more now between end c.put_comma.ensures last),
    )

pub returns : goal.returns
returns g c =
    let (text, are, put) = c.loop-index.invariant in
    (text, fields_all c.args.notation c.args.answers.now c.loop-index.index text c.loop-index-test.false are, put)
