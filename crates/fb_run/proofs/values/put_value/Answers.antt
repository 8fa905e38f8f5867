use Rattle.std.proofs.Common.{◌∙◌, refl, rules}
use Rattle.std.specs.Float.{binary32, binary64}
use Rattle.fb_access.specs.Denotes.{float}
use Rattle.fb_run.proofs.{CsvLemmas.real_written, RealLemmas.eight_bytes_read, RealLemmas.four_bytes_read}
use Rattle.fb_run.proofs.values.put_value.Goals as goal

pub returns-in-4 : goal.returns-in-4
returns-in-4 g c =
    let (told, (value, real, is), put) = c.put_real.ensures in (
      told,
      rw c.in-Float.is (
        value,
        four_bytes_read c.in-Float.bytes.now c.read_f32.result value c.in-4.is c.read_f32.ensures real,
        is ∙ real_written c.args.notation binary32 c.read_f32.result value (float c.in-Float.bytes.now) (λ absent digits. refl) (λ absent word. refl) real,
      ),
      put,
    )

pub returns-in-8 : goal.returns-in-8
returns-in-8 g c =
    let (told, (value, real, is), put) = c.put_real-in-8.ensures in (
      told,
      rw c.in-Float.is (
        value,
        eight_bytes_read c.in-Float.bytes.now c.read_f64.result value c.in-8.is c.read_f64.ensures real,
        is ∙ real_written c.args.notation binary64 c.read_f64.result value (float c.in-Float.bytes.now) (λ absent digits. refl) (λ absent word. refl) real,
      ),
      put,
    )

pub returns-in-DefaultDouble : goal.returns-in-DefaultDouble
returns-in-DefaultDouble g c = search rules
