use Rattle.std.proofs.Common.{[], ◌∷◌, rules, w64}
use Rattle.fb_access.specs.{Denotes.signed, declared.step.Step.TheVariants.Field as ToField}
use Rattle.fb_bfbs.specs.{Seen.seen, Describes.IsMemberRow}
use Rattle.fb_bfbs.proofs.{Narrow.kept, Composed.member_within, Composed.row_here}
use Rattle.fb_bfbs.proofs.copied.MemberRowFromTable.from_table.Goals as goal

pub returns-clause-row : goal.returns-clause-row
returns-clause-row c = row_here IsMemberRow member_within c.args.place.now _ (record {
  name = c.text_in.ensures;
  value = kept w64 (λ z. seen c.args.place.now (ToField 1 ∷ []) (signed z)) c.long_in.result (search rules) c.long_in.ensures;
  ty = c.union_type.ensures;
})
