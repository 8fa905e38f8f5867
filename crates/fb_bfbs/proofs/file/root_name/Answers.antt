use Rattle.std.proofs.Common.{[], ◌∷◌, refl}
use Rattle.fb_access.specs.{declared.step.Step.TheVariants.Field as ToField, Denotes.text}
use Rattle.fb_bfbs.proofs.{FixedFields.computing, FixedFields.always, FixedFields.maybe, Composed.seen_after}
use Rattle.fb_bfbs.proofs.file.root_name.Goals as goal

pub table_or_none-requires : goal.table_or_none-requires
unfolding computing
table_or_none-requires c = maybe c.requires refl

pub text_in-requires : goal.text_in-requires
unfolding computing
text_in-requires c = always c.in-Some.ensures.there.at refl

pub returns-in-Some : goal.returns-in-Some
returns-in-Some c =
    let on = c.in-Some.ensures.there in
    seen_after c.args.place.now c.in-Some.object (ToField 4) on.same on.leads (ToField 0 ∷ []) (text c.text_in.result.now) c.text_in.ensures
