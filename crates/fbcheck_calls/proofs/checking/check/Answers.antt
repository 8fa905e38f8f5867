use Rattle.std.proofs.Common.{sym, subst}
use Rattle.fbcheck_calls.specs.Answered.{IfSchema, IsChecked}
use Rattle.fbcheck_calls.proofs.{HandleLemmas.levels_taken, checking.check.Goals.in-Room, checking.check.Goals.in-Schema}
use Rattle.fbcheck_calls.proofs.checking.check.Goals as goal

pub returns-clause-told : goal.returns-clause-told
returns-clause-told c =
    elim c.match-inside.branch [
      | in-Room w ↦ (let t = w.check_within-status.ensures.told in (
        t.0,
        rw w.verdict-is t.1,
        subst (λ n. IfSchema c.args.held.now t.0 (λ s. IsChecked s n c.args.options.now c.args.buffer.now t.0)) (sym (levels_taken _ c.take.result c.args.handle.now.inside c.take.ensures.taken c.in-Some.taken c.deref_mut-inside.result.now _ c.in-Some.is c.deref_mut-inside.ensures.value w.in-Room.is)) t.2,
      ))
      | in-Schema w ↦ (let t = w.check_alone-status.ensures.told in (
        t.0,
        rw w.verdict-is t.1,
        subst (λ n. IfSchema c.args.held.now t.0 (λ s. IsChecked s n c.args.options.now c.args.buffer.now t.0)) (sym (levels_taken _ c.take.result c.args.handle.now.inside c.take.ensures.taken c.in-Some.taken c.deref_mut-inside.result.now _ c.in-Some.is c.deref_mut-inside.ensures.value w.in-Schema.is)) t.2,
      ))
    ]
