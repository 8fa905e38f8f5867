use Rattle.std.proofs.Common.{◌∙◌, sym, arith}
use Rattle.fbcheck_calls.proofs.EachLemmas.{changed_is_read_of_each}
use Rattle.fbcheck_calls.proofs.each.read_each.Goals as goal

pub returns-in-Err : goal.returns-in-Err
returns-in-Err c =
    let found = rw (c.seal-window.ensures.bytes, c.metered.ensures.bytes, c.loaded-loaded.ensures, c.start.ensures) at c.in-Err.ensures in
    rw c.in-Schema.is (changed_is_read_of_each _ _ _ _ _ _ _ _ _ _ (c.are_known.ensures.0 c.if-not-are_known.false) (sym c.root.ensures.root ∙ c.in-Some.is) (omega arith) (record {
      fits = rw c.loaded-loaded.ensures at (c.fits_each.ensures.0 c.if-not-fits_each.false);
      told = found.0;
      within = found.1;
      other = found.2;
    }))
