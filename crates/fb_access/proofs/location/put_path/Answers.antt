use Rattle.std.proofs.Common.{◌∙◌, ap, sym}
use Rattle.fb_access.specs.Location.{filled, link_text, path_text}
use Rattle.fb_access.proofs.Filling.{filled_twice, path_with_last}
use Rattle.fb_access.proofs.location.put_path.Goals as goal

pub returns-in-Some : goal.returns-in-Some
returns-in-Some c =
    let S = c.args.schema.now in
    let last = c.in-Some.last.now in
    c.put_link.ensures
    ∙ ap (λ text. filled text (link_text S last)) c.put_links.ensures
    ∙ filled_twice _ _ _
    ∙ ap (filled c.args.text.now.items) (path_with_last S c.in-Some.before.now last ∙ ap (path_text S) (sym c.in-Some.ensures.cases.0))
