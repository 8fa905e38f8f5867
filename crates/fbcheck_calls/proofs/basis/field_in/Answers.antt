use Rattle.std.proofs.Common.{subst}
use Rattle.fb_schema.specs.Live.{live_of_view}
use Rattle.fb_strict.proofs.Holds.{bytes_stand}
use Rattle.fbcheck_calls.specs.Answered.{IsNumbered}
use Rattle.fbcheck_calls.proofs.MarkLemmas.{in_slot}
use Rattle.fbcheck_calls.proofs.basis.field_in.Goals as goal

pub unreachable-requires : goal.unreachable-requires
unreachable-requires c = bytes_stand c.args.schema.now c.args.object c.args.slot c.requires c.in_default.ensures.none

pub returns : goal.returns
returns c =
    let f = live_of_view c.in-Some.found.field in
    (f, subst (λ k. IsNumbered k f c.numbered.result) c.in-Some.ensures.some.1 c.numbered.ensures, in_slot c.args.schema.now c.args.object c.args.slot f c.in-Some.ensures.some.0)
