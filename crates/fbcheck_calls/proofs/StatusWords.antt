-- Each answer's status has words.
use Rattle.std.proofs.Common.{refl}
use Rattle.fb_access.specs.declared.path_fault.PathFault.TheVariants as path
use Rattle.fb_bfbs.specs.declared.load_fault.LoadFault.TheVariants as load
use Rattle.fb_bytes.specs.declared.stream_fault.StreamFault.TheVariants as stream
use Rattle.fbcheck_calls.specs.Names.{StatusesHaveWords}
use Rattle.fbcheck_calls.specs.declared.outcome.Outcome.TheVariants.{NoSchema, BadStream, BadPath}

pub has_words : StatusesHaveWords
has_words (NoSchema load.TooLong) = refl
has_words (BadPath path.OutOfMemory) = refl
has_words (BadStream stream.Failed) = refl
has_words _ = refl
