use Rattle.std.proofs.Common.{◌≡◌, Some, option_map, FitsSigned, w32, sym, ap, ◌∙◌, rules}
use Rattle.std.proofs.lemmas.Int.{to_z-of_z}
use Rattle.fb_schema.specs.{declared.kinds.Shape.TheVariants.One, FlatRows.borrowed_rows, Vectors.vector_of, Kinds.shape_kind}
use Rattle.fb_schema.proofs.KindLemmas.{vector_kind}
use Rattle.fb_schema.proofs.flat.RowLists.vector_kind.Goals as goal

pub returns : goal.returns
returns c =
    let rows = borrowed_rows c.args.self.now in
    let found : c.element_kind.result ≡ Some c.in_ok-kind.kind = search rules in
    let fits : FitsSigned w32 c.args.index = search rules in
    ap Some c.vector_of.ensures
    ∙ ap (option_map vector_of) (sym found ∙ c.element_kind.ensures ∙ ap (λ i. shape_kind rows i (Some (One c.args.element))) (to_z-of_z w32 c.args.index fits))
    ∙ sym (vector_kind rows c.args.index c.args.element)
