use Rattle.std.proofs.Common.{[], ◌∷◌, refl, inl, inr}
use Rattle.fb_access.specs.declared.step.Step.TheVariants.{Field as ToField}
use Rattle.fb_bfbs.specs.{Marks.IsAttribute, Tags.attribute_of}
use Rattle.fb_bfbs.proofs.{FixedFields.computing, FixedFields.maybe, Composed.mapped_rows, Composed.seen_after}
use Rattle.fb_bfbs.proofs.attributes.attributes_in.Goals as goal

pub tables_or_none-requires : goal.tables_or_none-requires
unfolding computing
tables_or_none-requires c = maybe c.requires refl

pub rows_at-requires : goal.rows_at-requires
rows_at-requires c = λ k. ((refl, tt), c.in-Some.ensures.there.at)

pub returns-in_ok-rows-in-Some : goal.returns-in_ok-rows-in-Some
returns-in_ok-rows-in-Some c =
    let on = c.in-Some.ensures.there in
    inl (mapped_rows IsAttribute _ attribute_of _ (c.in_ok-rows-in-Some.ensures.rows c.args.place.now (ToField 9 ∷ []) (seen_after c.args.place.now c.in-Some.list (ToField 9) on.same on.leads)))

pub returns-in-None : goal.returns-in-None
returns-in-None c = inr (c.in-None.ensures.absent, rw c.new.ensures.items refl)
