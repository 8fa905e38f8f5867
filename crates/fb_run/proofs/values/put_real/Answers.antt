use Rattle.std.proofs.Common.{◌≡◌, List, ℕ, ◌∙◌, Bool, true, false, codes, sym, true≢false}
use Rattle.std.specs.Str.{bytes_eq}
use Rattle.std.proofs.lemmas.Slice.Eq.{bytes_eq-Decides}
use Rattle.json.specs.Json.{number, string}
use Rattle.fb_run.proofs.{CsvLemmas.number_put, CsvLemmas.words_put, RealLemmas.a_number, RealLemmas.infinite, RealLemmas.negative_infinite, RealLemmas.not_a_number}
use Rattle.fb_run.proofs.values.put_real.Goals as goal

-- a test of two texts says whether they are the same
same : (one other : List ℕ) (r : Bool) → r ≡ bytes_eq one other → r ≡ true → one ≡ other
same one other r is passed = (bytes_eq-Decides one other).0 (sym is ∙ passed)

unlike : (one other : List ℕ) (r : Bool) → r ≡ bytes_eq one other → r ≡ false → one ≡ other → ⊥
unlike one other r is failed e = true≢false (sym ((bytes_eq-Decides one other).1 e) ∙ sym is ∙ failed)

pub returns-then-eq : goal.returns-then-eq
returns-then-eq g c =
    let real = not_a_number _ _ _ c.format-numeral.ensures.parses (same _ (codes "NaN") _ c.eq.ensures c.if-eq.true) in
    (_, (string (codes "NaN"), real, (words_put c.args.notation).0), c.put_word.ensures)

pub returns-then-eq-2 : goal.returns-then-eq-2
returns-then-eq-2 g c =
    let real = infinite _ _ _ c.format-numeral.ensures.parses (same _ (codes "inf") _ c.eq-else-eq.ensures c.if-eq-2.true) in
    (_, (string (codes "Infinity"), real, (words_put c.args.notation).1), c.put_word-then-eq-2.ensures)

pub returns-then-eq-3 : goal.returns-then-eq-3
returns-then-eq-3 g c =
    let real = negative_infinite _ _ _ c.format-numeral.ensures.parses (same _ (codes "-inf") _ c.eq-else-eq-2.ensures c.if-eq-3.true) in
    (_, (string (codes "-Infinity"), real, (words_put c.args.notation).2), c.put_word-then-eq-3.ensures)

pub returns-else-eq-3 : goal.returns-else-eq-3
returns-else-eq-3 g c =
    let format = g.F.RawFloat.format in
    let said = c.format-numeral.ensures in
    let numeral = c.format-numeral.result.now in
    let real = a_number format (g.F.RawFloat.value c.args.real) numeral said.parses
    (λ finite. rw (← c.requires.digits, ← c.requires.zeros) (said.layout finite)) said.word said.short
    (unlike _ (codes "NaN") _ c.eq.ensures c.if-eq.false) (unlike _ (codes "inf") _ c.eq-else-eq.ensures c.if-eq-2.false) (unlike _ (codes "-inf") _ c.eq-else-eq-2.ensures c.if-eq-3.false) in
    (_, (number numeral, real, c.as_bytes.ensures.value ∙ number_put c.args.notation numeral), c.put.ensures.puts)
