use Rattle.std.proofs.Common.{rules}
use Rattle.fbcheck_calls.specs.declared.outcome.Outcome.TheVariants.{NoRoot}
use Rattle.fbcheck_calls.proofs.{HandleLemmas.levels_taken, HandleLemmas.levels_of_none, HandleLemmas.read_by, checking.read.Goals.in-Room, checking.read.Goals.in-Schema-inside}
use Rattle.fbcheck_calls.proofs.checking.read.Goals as goal

pub returns-in_default-clause-told : goal.returns-in_default-clause-told
returns-in_default-clause-told c = (NoRoot, c.tell_blank.ensures.told, search rules)

pub returns-in_default-take-clause-told : goal.returns-in_default-take-clause-told
returns-in_default-take-clause-told c =
    let t = c.read_shallow.ensures.told in
    (t.0, t.1, read_by _ _ _ 64 c.in-Schema.is (levels_of_none _ c.take.result c.args.handle.now.inside c.take.ensures.taken c.in_default-take.is) c.args.options.now c.args.buffer.now t.0 c.args.paths.now c.args.values.now c.read_shallow.new.values t.2)

pub returns-clause-told : goal.returns-clause-told
returns-clause-told c =
    elim c.match-inside.branch [
      | in-Room w ↦ (let t = w.read_in-status.ensures.told in (
        t.0,
        rw w.verdict-is t.1,
        rw w.values-is (read_by _ _ _ _ c.in-Schema.is (levels_taken _ c.take.result c.args.handle.now.inside c.take.ensures.taken c.in-Some.taken c.deref_mut-inside.result.now _ c.in-Some.is c.deref_mut-inside.ensures.value w.in-Room.is) c.args.options.now c.args.buffer.now t.0 c.args.paths.now c.args.values.now w.read_in-status.new.values t.2),
      ))
      | in-Schema-inside w ↦ (let t = w.read_shallow-status.ensures.told in (
        t.0,
        rw w.verdict-is t.1,
        rw w.values-is (read_by _ _ _ 64 c.in-Schema.is (levels_taken _ c.take.result c.args.handle.now.inside c.take.ensures.taken c.in-Some.taken c.deref_mut-inside.result.now _ c.in-Some.is c.deref_mut-inside.ensures.value w.in-Schema-inside.is) c.args.options.now c.args.buffer.now t.0 c.args.paths.now c.args.values.now w.read_shallow-status.new.values t.2),
      ))
    ]
