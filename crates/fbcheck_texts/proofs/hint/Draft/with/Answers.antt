use Rattle.std.proofs.Common.{◌<◌, arith, get_or, length}
use Rattle.fbcheck_texts.proofs.{HintLemmas.one_more, hint.Draft.with.Goals.then-len-lt-FULL+in_ok-put_bytes, hint.Draft.with.Goals.else-len-lt-FULL}
use Rattle.fbcheck_texts.proofs.hint.Draft.with.Goals as goal

pub loop-byte-preserved : goal.loop-byte-preserved
loop-byte-preserved c = elim c.if-len-lt-FULL.branch [
  | then-len-lt-FULL+in_ok-put_bytes w ↦
      let room : length c.loop-byte.text.items < 1048570 = omega arith in
      rw w.text-is (one_more c.loop-byte.text.items w.put_bytes.new.text.items (get_or c.args.more.now c.loop-byte.byte-index 0) c.loop-byte.invariant room w.in_ok-put_bytes.ensures)
  | else-len-lt-FULL w ↦ rw w.text-is c.loop-byte.invariant
]
