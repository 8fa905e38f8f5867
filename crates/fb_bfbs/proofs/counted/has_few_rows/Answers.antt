use Rattle.std.proofs.Common.{refl}
use Rattle.fb_schema.specs.declared.kinds.Kind.TheVariants.{Tables}
use Rattle.fb_bfbs.proofs.{KnownFields.field_known, FixedFields.computing, FixedFields.always, Sure.at_field, Counts.told_few, Counts.over_told, Counts.under_told}
use Rattle.fb_bfbs.proofs.counted.has_few_rows.Goals as goal

pub go_to-requires : goal.go_to-requires
unfolding computing
go_to-requires c = field_known _ _ (Tables 5) tt (always c.requires refl)

pub go_to-requires-2 : goal.go_to-requires-2
unfolding computing
go_to-requires-2 c = field_known _ _ (Tables 3) tt (always c.requires refl)

pub rows_listed-objects-requires : goal.rows_listed-objects-requires
unfolding computing
rows_listed-objects-requires c = record { object = 5; at = at_field _ _ _ (Tables 5) (always c.requires refl) c.go_to.ensures.same c.go_to.ensures.here; sure = refl }

pub rows_listed-enums-requires : goal.rows_listed-enums-requires
unfolding computing
rows_listed-enums-requires c = record { object = 3; at = at_field _ _ _ (Tables 3) (always c.requires refl) c.go_to-2.ensures.same c.go_to-2.ensures.here; sure = refl }

pub returns-then-objects-most : goal.returns-then-objects-most
returns-then-objects-most c =
    told_few c.args.place.now _ _ _ _ _ _ c.go_to.ensures.same c.go_to.ensures.leads c.go_to-2.ensures.same c.go_to-2.ensures.leads c.rows_listed-objects.ensures c.rows_listed-enums.ensures (over_told _ _ _ c.if-objects-most.true)

pub returns : goal.returns
returns c =
    told_few c.args.place.now _ _ _ _ _ _ c.go_to.ensures.same c.go_to.ensures.leads c.go_to-2.ensures.same c.go_to-2.ensures.leads c.rows_listed-objects.ensures c.rows_listed-enums.ensures (under_told _ _ _ c.if-objects-most.false)
