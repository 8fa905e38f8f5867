use Rattle.std.proofs.Common.{◌<◌, Some, length, sym, ap, ◌∙◌, arith}
use Rattle.std.proofs.lemmas.{List.length-map, Option.slice_get-get_or}
use Rattle.fb_schema.specs.{Flat.part}
use Rattle.fb_schema.proofs.WalkLemmas.{mapped_at}
use Rattle.fb_schema.proofs.lists.Lists.get.Goals as goal

pub returns : goal.returns
returns g c =
    let ranges = c.args.self.now.ranges.items in
    let rows = c.args.self.now.rows.items in
    let range = c.index.result.now in
    let lt : c.args.n < length ranges = omega (arith, c.requires, length-map ranges (part rows)) in
    mapped_at (part rows) ranges c.args.n range (slice_get-get_or ranges c.args.n range lt ∙ ap Some (sym c.index.ensures)) ∙ ap (λ xs. Some (part xs range)) (sym c.deref.ensures.value)
