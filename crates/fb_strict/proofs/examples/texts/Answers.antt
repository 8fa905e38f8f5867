use Rattle.std.proofs.Common.{refl}
use Rattle.std.specs.{Str.chars, Str.is_utf8, Str.Lossy.utf8_valid_len}
use Rattle.fb_rules.proofs.Shown.{computing}
use Rattle.fb_strict.proofs.examples.texts.Goals as goal

-- src/examples.rt
pub returns : goal.returns
unfolding computing chars is_utf8 utf8_valid_len lib.Utf8.encode
returns c = record { of_two_characters = refl; wrong_at_the_second = refl; cut_off = refl; empty = refl }
