use Rattle.std.proofs.Common.{rules}
use Rattle.std.proofs.lemmas.List.Sorted.{answers_always}
use Rattle.fb_schema.proofs.{Blank.blank_field, LiveLemmas.found_below, LiveLemmas.none_two_below, LiveLemmas.missed_below}
use Rattle.fb_schema.proofs.live.place_below.Goals as goal

pub returns-then-slot-lt2 : goal.returns-then-slot-lt2
returns-then-slot-lt2 c = none_two_below c.args.live.now c.requires.rising c.args.slot c.if-slot-lt2.true

pub returns-in-Ok : goal.returns-in-Ok
returns-in-Ok c = found_below c.args.live.now c.requires.rising c.args.slot c.in-Ok.at blank_field c.if-slot-lt2.false c.in-Ok.ensures.bound
    (c.in-Ok.ensures.position (λ f. f.slot) (answers_always _ _ _ (λ f a r g called. search rules)) blank_field)

pub returns-in-Err : goal.returns-in-Err
returns-in-Err c = missed_below c.args.live.now c.requires.rising c.args.slot c.in-Err.field-0 c.if-slot-lt2.false
    (c.in-Err.ensures.position (λ f. f.slot) (answers_always _ _ _ (λ f a r g called. search rules)))
