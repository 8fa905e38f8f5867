use Rattle.std.proofs.Common.{drop, rules, arith}
use Rattle.std.proofs.lemmas.List.{drop_all}
use Rattle.fb_run.proofs.LineLemmas.{byte_before}
use Rattle.fb_run.proofs.line.put_bytes.Goals as goal

pub loop-left-init : goal.loop-left-init
loop-left-init g c = (c.told-room, omega arith, omega arith, rw (drop_all g.row.N c.args.text.now (omega (arith, c.told-text))))

pub loop-left-preserved : goal.loop-left-preserved
loop-left-preserved g c =
    let l = c.loop-left in
    let is = l.invariant in (
      search rules,
      omega (arith, is.1),
      omega (arith, is.2, c.loop-left-test.true, c.requires.fits),
      byte_before l.room c.args.text.now (drop c.args.end c.args.room.now) l.start l.left c.loop-left-test.true (omega (arith, is, c.told-text)) (omega (arith, is, c.requires.fits, c.loop-left-test.true)) (omega (arith, is, c.requires.end)) is.3,
    )
