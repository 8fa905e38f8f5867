use Rattle.std.proofs.Common.{◌≡◌, ◌++◌, map, take}
use Rattle.fb_run.specs.Csv.{head_field, joined}
use Rattle.fb_run.proofs.CsvLemmas.{text_of}
use Rattle.fb_run.proofs.csv.put_texts.Given as goal

abbrev pub invariant-loop-index : goal.invariant-loop-index
invariant-loop-index g l = l.text.items ≡ l.initial.text.items ++ joined (map head_field (map text_of (take l.index l.paths)))
