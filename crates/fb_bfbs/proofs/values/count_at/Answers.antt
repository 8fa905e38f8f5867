use Rattle.std.proofs.Common.{refl}
use Rattle.fb_schema.specs.declared.kinds.Kind.TheVariants.{Tables, Table}
use Rattle.fb_access.proofs.Shapes.{answers_vector}
use Rattle.fb_bfbs.proofs.values.count_at.Goals as goal

pub unreachable-requires : goal.unreachable-requires
unreachable-requires c = answers_vector _ _ _ _ c.answer.ensures.shown (Tables c.requires.0) (Table c.requires.0) c.requires.1.here refl c.in_default.not-Vector

pub returns-clause-few : goal.returns-clause-few
returns-clause-few c = c.in-Vector.ensures.tables c.requires.0 c.in-Vector.count c.requires.1.here refl
