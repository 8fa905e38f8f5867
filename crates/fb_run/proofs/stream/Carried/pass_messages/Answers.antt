use Rattle.std.proofs.Common.{[], arith, inl, inr, refl, rules}
use Rattle.std.proofs.lemmas.List.{nil_from_length, take_rest}
use Rattle.fb_run.specs.Pieces.{PassesAllBy, carry_of}
use Rattle.fb_run.proofs.RunLemmas.{err_exit}
use Rattle.fb_run.proofs.StreamLemmas.{due_less, due_next, goes_front, goes_more, goes_none, stops_more}
use Rattle.fb_run.proofs.stream.Carried.pass_messages.Goals as goal

pub loop-rest-init : goal.loop-rest-init
loop-rest-init g c = record {
  passed = ([], refl, goes_none _ (carry_of g.K.Sink g.N.Sink g.R.Sink c.args.self.now c.args.writer.now c.args.notes.now c.args.rejects.now) c.requires.ready c.requires.unfailed);
  due = record { messages = omega arith; bad = omega arith };
}

pub pass_some-requires-clause-due : goal.pass_some-requires-clause-due
pass_some-requires-clause-due g c = due_next c.args.checker.now _ c.due-due.result (search rules) c.due-due.ensures.due

pub loop-rest-preserved : goal.loop-rest-preserved
loop-rest-preserved g c =
    let (front, whole, goes) = c.loop-rest.invariant.passed in
    record {
      passed = goes_more whole goes c.in_ok-used.used _ (carry_of g.K.Sink g.N.Sink g.R.Sink c.pass_some.new.self c.pass_some.new.writer c.pass_some.new.notes c.pass_some.new.rejects) (take_rest c.loop-rest.rest.now c.in_ok-used.used) c.in_ok-used.ensures;
      due = due_less c.args.checker.now _ _ c.due-due.result (search rules) c.due-due.ensures.due c.in_ok-used.ensures.one;
    }

pub returns-in_err-used : goal.returns-in_err-used
returns-in_err-used g c =
    let (front, whole, goes) = c.loop-rest.invariant.passed in
    err_exit _ _ (PassesAllBy _ _ _ _) c.from_residual.ensures.1 (stops_more whole goes (carry_of g.K.Sink g.N.Sink g.R.Sink c.pass_some.new.self c.pass_some.new.writer c.pass_some.new.notes c.pass_some.new.rejects) _ c.in_err-used.ensures.0, c.in_err-used.ensures.1)

pub returns-then-due-eq0 : goal.returns-then-due-eq0
returns-then-due-eq0 g c =
    let (front, whole, goes) = c.loop-rest.invariant.passed in
    goes_front whole goes (inl (c.due-due.ensures.full (search rules)))

pub returns : goal.returns
returns g c =
    let (front, whole, goes) = c.loop-rest.invariant.passed in
    goes_front whole goes (inr (nil_from_length c.loop-rest.rest.now (search rules)))
