use Rattle.std.proofs.Common.{[], ◌++◌, ◌∙◌, ap, append-nil, refl, rules, sym}
use Rattle.std.proofs.lemmas.List.{nil_from_length, take_rest}
use Rattle.std.specs.List.{flat_map}
use Rattle.fb_run.specs.{AnswerText.spelled, Puts.queue_of}
use Rattle.fb_run.proofs.{AnswerLemmas.one_spelled, PutsLemmas.puts_same, PutsLemmas.spelled_more}
use Rattle.fb_run.proofs.values.put_bytes.Goals as goal

pub loop-rest-init : goal.loop-rest-init
loop-rest-init g c = ([], refl, puts_same _ c.args.head.now (queue_of g.K.Sink c.args.out.now c.args.sink.now) (queue_of g.K.Sink c.put.new.self c.put.new.sink) (append-nil c.args.head.now) c.put.ensures.puts)

pub loop-rest-preserved-then-plain-gt0 : goal.loop-rest-preserved-then-plain-gt0
loop-rest-preserved-then-plain-gt0 g c =
    let (front, whole, first) = c.loop-rest.invariant in
    spelled_more (spelled c.args.spelling) c.args.head.now c.args.bytes.now front c.loop-rest.rest.now c.plain_front-plain.result _ _ (queue_of g.K.Sink c.args.out.now c.args.sink.now) (queue_of g.K.Sink c.loop-rest.out c.loop-rest.sink)
    (queue_of g.K.Sink c.put-then-plain-gt0.new.self c.put-then-plain-gt0.new.sink) (take_rest c.loop-rest.rest.now c.plain_front-plain.result) (sym c.plain_front-plain.ensures.plain) whole first c.put-then-plain-gt0.ensures.puts

pub loop-rest-preserved : goal.loop-rest-preserved
loop-rest-preserved g c =
    let (front, whole, first) = c.loop-rest.invariant in
    spelled_more (spelled c.args.spelling) c.args.head.now c.args.bytes.now front c.loop-rest.rest.now 1 _ _ (queue_of g.K.Sink c.args.out.now c.args.sink.now) (queue_of g.K.Sink c.loop-rest.out c.loop-rest.sink)
    (queue_of g.K.Sink c.put-else-plain-gt0.new.self c.put-else-plain-gt0.new.sink) (take_rest c.loop-rest.rest.now 1)
    (c.spell-length.ensures.text ∙ one_spelled (spelled c.args.spelling) c.loop-rest.rest.now _ (search rules)) whole first c.put-else-plain-gt0.ensures.puts

pub returns : goal.returns
returns g c =
    let (front, whole, first) = c.loop-rest.invariant in
    let none = nil_from_length c.loop-rest.rest.now (search rules) in
    puts_same _ _ (queue_of g.K.Sink c.args.out.now c.args.sink.now) (queue_of g.K.Sink c.loop-rest.out c.loop-rest.sink) (ap (λ l. c.args.head.now ++ flat_map (spelled c.args.spelling) l) (whole ∙ ap (λ l. front ++ l) none ∙ append-nil front)) first
