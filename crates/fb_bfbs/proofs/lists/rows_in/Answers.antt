use Rattle.std.proofs.Common.{[], ◌∷◌, refl}
use Rattle.fb_access.specs.declared.step.Step.TheVariants.{Field as ToField}
use Rattle.fb_bfbs.proofs.{KnownFields.field_known, Sure.at_field, Composed.seen_after}
use Rattle.fb_bfbs.proofs.lists.rows_in.Goals as goal

pub go_to-list-requires : goal.go_to-list-requires
go_to-list-requires g c = field_known _ _ _ tt c.requires.field

pub rows_at-requires : goal.rows_at-requires
rows_at-requires g c = λ k. ((refl, tt), rw c.requires.object at (at_field _ _ _ _ c.requires.field c.go_to-list.ensures.same c.go_to-list.ensures.here))

pub returns-clause-rows : goal.returns-clause-rows
returns-clause-rows g c = c.in_ok-rows.ensures.rows c.args.place.now (ToField c.args.number ∷ []) (seen_after c.args.place.now c.go_to-list.result (ToField c.args.number) c.go_to-list.ensures.same c.go_to-list.ensures.leads)
