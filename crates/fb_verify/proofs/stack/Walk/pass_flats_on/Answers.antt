use Rattle.std.proofs.Common.{sym, ◌∙◌}
use Rattle.fb_verify.proofs.stack.Walk.pass_flats_on.Goals as goal

pub pass_small_by_published-requires : goal.pass_small_by_published-requires
pass_small_by_published-requires g c =
    (c.requires.0, (sym (c.are_published.ensures c.if-are_published.true) ∙ c.requires.1, (sym c.is_small.ensures ∙ c.if-is_small.true, c.fits_whole.ensures c.if-fits_whole.true)))

pub pass_flats_by_published-requires : goal.pass_flats_by_published-requires
pass_flats_by_published-requires g c = (c.requires.0, (sym (c.are_published.ensures c.if-are_published.true) ∙ c.requires.1, c.fits_whole.ensures c.if-fits_whole.true))

pub fits_whole-requires-clause-fields : goal.fits_whole-requires-clause-fields
fits_whole-requires-clause-fields g c = (((((c.requires.0).down).row).walking).served).few c.args.object

pub fits_whole-requires-clause-tables : goal.fits_whole-requires-clause-tables
fits_whole-requires-clause-tables g c = ((((c.requires.0).down).row).walking).tables
