use Rattle.std.proofs.Common.{◌∙◌, ◌++◌, [], ap, codes, map}
use Rattle.std.specs.Prelude.{if◌then◌else◌}
use Rattle.fb_run.specs.Csv.{head_field, joined}
use Rattle.fb_run.proofs.CsvLemmas.{head_made, text_of}
use Rattle.fb_run.proofs.csv.put_head.Goals as goal

pub returns : goal.returns
returns g c =
    rw c.in-Csv.is (head_made c.args.text.now.items c.add_if.new.text.items c.put_texts.new.text.items _ (if c.args.named then codes "file," else []) _ c.in_ok-add_if.ensures
    (c.in_ok-put_texts.ensures ∙ ap (λ l. c.add_if.new.text.items ++ joined (map head_field (map text_of l))) c.as_slice.ensures.value) c.in_ok-extend_from_slice.ensures.items)
