use Rattle.fbcheck_serve.proofs.NoteLemmas.{second_noted}
use Rattle.fbcheck_serve.proofs.stop.note_both.Goals as goal

pub returns-then-push_all-text : goal.returns-then-push_all-text
returns-then-push_all-text g c =
    second_noted c.args.text.now c.args.behind.now _ (g.N.Sink.contents c.push_all.new.sink) _ _ (g.N.Sink.failures c.push_all.new.sink) _ c.push_all.result c.push_all-then-push_all-text.result
    c.if-push_all-text.true c.push_all.ensures.bytes (c.push_all.ensures.unfailed c.if-push_all-text.true)
    c.push_all-then-push_all-text.ensures.within c.push_all-then-push_all-text.ensures.bytes c.push_all-then-push_all-text.ensures.failed c.push_all-then-push_all-text.ensures.unfailed
