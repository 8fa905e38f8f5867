use Rattle.std.proofs.Common.{sym, ◌∙◌, arith}
use Rattle.fb_verify.proofs.Linked.{is_there, stands, more_left, type_stands, link_read}
use Rattle.fb_verify.proofs.links.link_of.Goals as goal

pub unreachable-requires : goal.unreachable-requires
unreachable-requires c = is_there c.requires.linked _ c.field_at-field.ensures (sym c.place_of.ensures.value ∙ c.in_default.is)

pub words_before-before-requires-clause-stands : goal.words_before-before-requires-clause-stands
words_before-before-requires-clause-stands c = (stands c.requires.linked _ c.field_at-field.ensures _ (sym c.place_of.ensures.value ∙ c.in-Some.is)).count

pub words_before-before-requires-clause-more : goal.words_before-before-requires-clause-more
words_before-before-requires-clause-more c = more_left c.requires.linked _ c.field_at-field.ensures _ (sym c.place_of.ensures.value ∙ c.in-Some.is)

pub type_at-requires-clause-stands : goal.type_at-requires-clause-stands
type_at-requires-clause-stands c =
    let place = sym c.place_of.ensures.value ∙ c.in-Some.is in
    type_stands c.requires.linked _ c.field_at-field.ensures _ place _ (omega (arith, c.words_before-before.ensures, more_left c.requires.linked _ c.field_at-field.ensures _ place))

pub returns : goal.returns
returns c =
    rw (c.element_at.ensures, c.type_at.ensures)
    (link_read c.requires.linked _ c.field_at-field.ensures _ (sym c.place_of.ensures.value ∙ c.in-Some.is) _ c.words_before-before.ensures)
