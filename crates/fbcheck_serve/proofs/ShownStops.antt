-- The examples of the program's texts, by computing.
use Rattle.std.proofs.Common.{refl}
use Rattle.std.specs.Fmt.{digits}
use Rattle.fbcheck_serve.specs.StopTests.{StopTexts}

pub stop_texts_shown : StopTexts
unfolding digits
stop_texts_shown = record { word = λ bytes. refl; own_name = λ bytes. refl; words_memory = refl; unreadable = refl; file_memory = refl; ident = refl; filter = refl; idents = refl; paths = refl; bare = refl; twice = refl; steps = refl; input = refl; memory = refl; help = refl; help_full = refl; summary = refl; read = refl; unread = refl; full = refl; note = refl; halted = refl }
