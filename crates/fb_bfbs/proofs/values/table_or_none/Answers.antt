use Rattle.std.proofs.Common.{sym}
use Rattle.fb_schema.specs.declared.kinds.Kind.TheVariants.{Table}
use Rattle.fb_access.proofs.Shapes.{answers_table, shows_nothing}
use Rattle.fb_bfbs.proofs.{KnownFields.may_be_known, Sure.maybe_here, Sure.maybe_one_on, Composed.seen_in}
use Rattle.fb_bfbs.proofs.values.table_or_none.Goals as goal

pub go_to-field-requires : goal.go_to-field-requires
go_to-field-requires c = may_be_known _ _ (Table c.args.object) tt c.requires

pub returns-in-Table-clause-there : goal.returns-in-Table-clause-there
returns-in-Table-clause-there c = maybe_one_on _ _ _ _ c.requires c.go_to-field.ensures.same c.go_to-field.ensures.leads c.in-Table.ensures.shown

pub returns-in_default-clause-absent : goal.returns-in_default-clause-absent
returns-in_default-clause-absent c =
    let nothing_here = shows_nothing _ _ _ (Table c.args.object) (maybe_here _ _ _ _ c.requires c.go_to-field.ensures.leads) (λ here. answers_table _ _ _ _ c.answer.ensures.shown c.args.object here c.in_default.not-Table) in
    seen_in _ _ _ _ c.go_to-field.ensures.same c.go_to-field.ensures.leads (sym nothing_here)
