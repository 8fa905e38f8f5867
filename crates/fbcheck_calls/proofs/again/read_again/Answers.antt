use Rattle.std.proofs.Common.{◌∙◌, sym, arith}
use Rattle.fbcheck_calls.proofs.AgainLemmas.{changed_is_read}
use Rattle.fbcheck_calls.proofs.again.read_again.Goals as goal

pub returns-in-Err : goal.returns-in-Err
returns-in-Err c =
    let found = rw (c.seal-window.ensures.bytes, c.metered.ensures.bytes, c.loaded-loaded.ensures, c.start.ensures) at c.in-Err.ensures in
    rw c.in-Schema.is (changed_is_read _ _ _ _ _ _ _ _ (c.are_known.ensures.0 c.if-not-are_known.false) (sym c.root.ensures.root ∙ c.in-Some.is) (omega arith) (record {
      there = found.0;
      fit = rw c.loaded-loaded.ensures at c.in_default-first_misfit.ensures;
      told = found.1;
      other = found.2;
    }))
