use Rattle.std.proofs.Common.{◌++◌, map}
use Rattle.std.specs.Prelude.{option_map, vec_items}
use Rattle.fb_access.specs.Denotes.{shown}
use Rattle.fb_run.specs.{Csv.name_field, Csv.row_end, Puts.queue_of}
use Rattle.fb_run.proofs.{CsvLemmas.row_of, PutsLemmas.three_puts}
use Rattle.fb_run.proofs.csv.put_row.Goals as goal

pub returns : goal.returns
returns g c =
    let label = option_map vec_items c.args.label.now in
    let (text, are, put) = c.put_fields.ensures in (
      name_field label ++ (text ++ row_end),
      row_of label (map shown c.args.answers.now) c.notation.result text c.notation.ensures are,
      three_puts (name_field label) text row_end (queue_of g.K.Sink c.args.out.now c.args.sink.now) (queue_of g.K.Sink c.put_name.new.out c.put_name.new.sink) (queue_of g.K.Sink c.put_fields.new.out c.put_fields.new.sink) (queue_of g.K.Sink c.put.new.self c.put.new.sink) c.put_name.ensures put c.put.ensures.puts,
    )
