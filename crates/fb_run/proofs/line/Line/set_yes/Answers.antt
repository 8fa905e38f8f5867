use Rattle.std.proofs.Common.{append_assoc}
use Rattle.fb_run.proofs.LineLemmas.{drop_whole}
use Rattle.fb_run.proofs.line.Line.set_yes.Goals as goal

pub returns : goal.returns
returns c =
    let empty = drop_whole c.self.inside.room 768 c.self.invariant.0 in
    rw (c.put_digits-self-inside.ensures.text, c.put_bytes-start-4.ensures.text, c.put_digits-start-2.ensures.text, c.from-2.ensures, c.put_bytes-start-3.ensures.text, c.put_digits-start.ensures.text, c.from.ensures, c.put_bytes-start-2.ensures.text, c.put_reads-start.ensures.text, c.put_bytes-start.ensures.text, empty)
    (simp append_assoc)
