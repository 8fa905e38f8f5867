-- The examples of texts, by computing.
use Rattle.std.proofs.Common.{refl}
use Rattle.std.specs.Fmt.{digits}
use Rattle.fbcheck_texts.specs.TextTests.{AskTexts, LoadTexts, RunTexts}

pub run_texts_shown : RunTexts
unfolding digits
run_texts_shown = record { read = refl; read_folder = refl; read_early = refl; read_unknown = refl; write = refl; write_full = refl; read_alone = refl; note = refl; reject = refl; unmade = refl; oversize = refl; truncated = refl; no_room = refl; again = refl; turns = refl; memory = refl; too_long = refl; stopped = refl; too_short = refl }

pub load_texts_shown : LoadTexts
unfolding digits
load_texts_shown = record { ill = refl; no_field = refl; rows = refl; no_part = refl; unlisted = refl; memory = refl; long = refl; shared = refl }

pub ask_texts_shown : AskTexts
unfolding digits
ask_texts_shown = record { file = refl; root = refl; text = refl; name = refl; index = refl; union = refl; member = refl; table = refl; path_memory = refl; ident = refl; unmarked = refl; lost = refl; memory = refl }
