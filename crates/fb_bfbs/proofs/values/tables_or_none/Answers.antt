use Rattle.std.proofs.Common.{refl, sym}
use Rattle.fb_schema.specs.declared.kinds.Kind.TheVariants.{Table, Tables}
use Rattle.fb_access.proofs.Shapes.{answers_vector, shows_nothing}
use Rattle.fb_bfbs.proofs.{KnownFields.may_be_known, Sure.maybe_here, Sure.maybe_list_on, Composed.seen_in}
use Rattle.fb_bfbs.proofs.values.tables_or_none.Goals as goal

pub go_to-field-requires : goal.go_to-field-requires
go_to-field-requires c = may_be_known _ _ (Tables c.args.object) tt c.requires

pub returns-in-Vector-clause-there : goal.returns-in-Vector-clause-there
returns-in-Vector-clause-there c = maybe_list_on _ _ _ _ _ c.requires c.go_to-field.ensures.same c.go_to-field.ensures.leads c.in-Vector.ensures.shown

pub returns-in_default-clause-absent : goal.returns-in_default-clause-absent
returns-in_default-clause-absent c =
    let object = c.args.object in
    let nothing_here = shows_nothing _ _ _ (Tables object) (maybe_here _ _ _ _ c.requires c.go_to-field.ensures.leads) (λ here. answers_vector _ _ _ _ c.answer.ensures.shown (Tables object) (Table object) here refl c.in_default.not-Vector) in
    seen_in _ _ _ _ c.go_to-field.ensures.same c.go_to-field.ensures.leads (sym nothing_here)
