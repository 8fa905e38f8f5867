-- The examples of files as inputs, by computing.
use Rattle.std.proofs.Common.{refl}
use Rattle.std.specs.{Char.encode_utf8, Str.chars, Str.is_utf8}
use Rattle.fbcheck_serve.specs.InputTests.{Courses, Finals, Labels, Listed}

pub courses_shown : Courses
courses_shown = record { first_bad = refl; last_bad = refl; first_cut = refl; read_twice = refl; both = refl; spent = refl }

pub labels_shown : Labels
labels_shown = record { of_two = refl; of_one = refl; of_one_named = refl; of_a_fault = refl }

pub finals_shown : Finals
finals_shown = record { written = λ written. refl; noted = λ written. refl; rejected = λ written. refl; memory = refl; read = refl; stream = λ fault. refl; turns = refl; long = λ limit. refl; short = λ skip. refl }

pub listed_shown : Listed
unfolding chars encode_utf8 is_utf8
listed_shown = record { none = refl; two = refl; unended = refl; empty = refl; without_bytes = refl; word_without_bytes = refl; no_text = refl; a_text = refl; empty_text = refl; no_text_text = refl }
