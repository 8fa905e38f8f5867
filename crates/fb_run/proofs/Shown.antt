-- The examples, by computing.
use Rattle.std.proofs.Common.{refl}
use Rattle.std.specs.Fmt.{digits}
use Rattle.hex.specs.Hex.{encode_with}
use Rattle.fb_schema.specs.Rows.{Rows}
use Rattle.fb_run.specs.{JobTests.Buffers, LineTests.Lines, LineTests.Names, LineTests.Texts, LineTests.Values, declared.options.Options.Options}

pub buffers_shown : (rows : Rows) (options : Options) → Buffers rows options
buffers_shown rows options = record { part = λ stream prefix. rw (stream, prefix) (refl, refl, refl); apart = λ order stream prefix. rw (stream, prefix) (refl, refl, refl) }

pub lines_shown : Lines
unfolding digits
lines_shown = record { yes = refl; value = refl; values = refl; no = refl; no_field = refl; place = refl }

pub values_shown : Values
unfolding digits encode_with
values_shown = refl

pub names_shown : Names
unfolding encode_with
names_shown = record { none = refl; plain = refl; broken = refl }

pub texts_shown : Texts
unfolding encode_with
texts_shown = record { empty = refl; below_a_space = refl; above_a_tilde = refl; quote = refl; backslash = refl; not_ascii = refl }
