use Rattle.std.proofs.Common.{rules}
use Rattle.fbcheck_texts.proofs.hint.Unasked.new.Goals as goal

pub returns-in-Err : goal.returns-in-Err
returns-in-Err c = search rules
