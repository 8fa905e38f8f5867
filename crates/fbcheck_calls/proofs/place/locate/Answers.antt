use Rattle.std.proofs.Common.{rules}
use Rattle.fbcheck_calls.specs.declared.outcome.Outcome.TheVariants.{NoRoot}
use Rattle.fbcheck_calls.proofs.{HandleLemmas.levels_taken, HandleLemmas.located_by, place.locate.Goals.in-Room, place.locate.Goals.in-Schema-inside}
use Rattle.fbcheck_calls.proofs.place.locate.Goals as goal

pub returns-in_default-clause-told : goal.returns-in_default-clause-told
returns-in_default-clause-told c = (NoRoot, c.tell_blank.ensures.told, search rules)

pub returns-clause-told : goal.returns-clause-told
returns-clause-told c =
    elim c.match-inside.branch [
      | in-Room w ↦ (let t = w.locate_in-status.ensures.told in (
        t.0,
        rw w.verdict-is t.1,
        rw w.text-is (rw w.written-is (located_by _ _ _ _ c.in-Schema.is (levels_taken _ c.take.result c.args.handle.now.inside c.take.ensures.taken c.in-Some.taken c.deref_mut-inside.result.now _ c.in-Some.is c.deref_mut-inside.ensures.value w.in-Room.is) c.args.options.now c.args.buffer.now t.0 c.args.text.now w.locate_in-status.new.text w.locate_in-status.new.written t.2)),
      ))
      | in-Schema-inside w ↦ (let t = w.locate_shallow-status.ensures.told in (
        t.0,
        rw w.verdict-is t.1,
        rw w.text-is (rw w.written-is (located_by _ _ _ 64 c.in-Schema.is (levels_taken _ c.take.result c.args.handle.now.inside c.take.ensures.taken c.in-Some.taken c.deref_mut-inside.result.now _ c.in-Some.is c.deref_mut-inside.ensures.value w.in-Schema-inside.is) c.args.options.now c.args.buffer.now t.0 c.args.text.now w.locate_shallow-status.new.text w.locate_shallow-status.new.written t.2)),
      ))
    ]

pub returns-clause-kept : goal.returns-clause-kept
returns-clause-kept c = search rules
