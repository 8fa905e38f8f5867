use Rattle.fb_strict.proofs.OneVerdict.{texts_are_utf8}
use Rattle.fb_strict.proofs.laws.texts_are_utf8.Goals as goal

-- src/laws.rt
pub returns : goal.returns
returns c = texts_are_utf8
