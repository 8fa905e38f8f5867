use Rattle.std.proofs.Common.{ap, length, refl, rules, ◌∙◌}
use Rattle.fb_verify.proofs.Frames.{as_many_kept}
use Rattle.fb_run.proofs.reading.pull_piece.Goals as goal

pub returns-clause-room : goal.returns-clause-room
returns-clause-room g c = as_many_kept c.ask.new.piece _ c.args.piece.now.items (c.ask.auto.piece ∙ ap length c.as_mut_slice.ensures.value) c.args.piece.now.ok.0 refl

pub returns-clause-end : goal.returns-clause-end
returns-clause-end g c = search rules
