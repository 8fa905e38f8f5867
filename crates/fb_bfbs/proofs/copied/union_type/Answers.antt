use Rattle.std.proofs.Common.{inl, inr, refl, sym}
use Rattle.fb_access.specs.{declared.step.Step.TheVariants.Field as ToField, Denotes.table}
use Rattle.fb_bfbs.proofs.{Sure.table_is_here, Composed.seen_in, Composed.seen_after, Composed.type_within, FixedFields.computing, FixedFields.maybe}
use Rattle.fb_bfbs.proofs.copied.union_type.Goals as goal

pub table_or_none-requires : goal.table_or_none-requires
unfolding computing
table_or_none-requires c = maybe c.requires refl

pub type_row-requires : goal.type_row-requires
type_row-requires c = c.in-Some.ensures.there.at

pub returns-in-Some : goal.returns-in-Some
returns-in-Some c =
    let on = c.in-Some.ensures.there in
    inl (seen_in c.args.place.now c.in-Some.ty (ToField 3) table on.same on.leads (sym (table_is_here c.in-Some.ty on.at)), type_within _ _ _ (seen_after c.args.place.now c.in-Some.ty (ToField 3) on.same on.leads) c.type_row.ensures)

pub returns-in-None : goal.returns-in-None
returns-in-None c = inr (c.in-None.ensures.absent, refl)
