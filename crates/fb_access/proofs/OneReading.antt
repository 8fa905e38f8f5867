-- A text has one reading.
use Rattle.std.proofs.Common.{◌≡◌, ℕ, List, [], ◌∷◌, refl, sym, ◌∙◌, ap, arith}
use Rattle.std.specs.List.{AllByRecursion}
use Rattle.fb_access.specs.{Grammar.Part, Grammar.field, Grammar.element, Grammar.member, Grammar.IsPart, Grammar.IsReading, Grammar.spelling, Cutting.written, Cutting.Ends}
use Rattle.fb_access.proofs.Words.{one_word, name_word, number_word, ends_here}

pub spelling_is : (p : Part) (ps : List Part) → spelling (p ∷ ps) ≡ written p (spelling ps)
spelling_is p ps = grind arith

pub some_written : (p : Part) (t : List ℕ) → written p t ≡ [] → ⊥
some_written p t e = grind arith

-- one part begins a text, and one rest follows it
pub one_part : (p q : Part) (s t : List ℕ) → IsPart p → Ends p s → IsPart q → Ends q t → written p s ≡ written q t → (p ≡ q) × (s ≡ t)
one_part (field n) (field m) s t a b c d e = let w = one_word n m s t (name_word n a) b (name_word m c) d cc in (ap field w.0, w.1)
one_part (element n) (element m) s t a b c d e = let w = one_word n m (93 ∷ s) (93 ∷ t) (number_word n a) refl (number_word m c) refl cc in (ap element w.0, let rests = w.1 in cc)
one_part (member n) (member m) s t a b c d e = let w = one_word n m s t (name_word n a) b (name_word m c) d cc in (ap member w.0, w.1)
one_part p q s t a b c d e = absurd (grind arith)

pub one_spelling : (ps qs : List Part) → AllByRecursion IsPart ps → AllByRecursion IsPart qs → spelling ps ≡ spelling qs → ps ≡ qs
one_spelling [] [] a b e = refl
one_spelling [] (q ∷ qs) a b e = absurd (some_written q (spelling qs) (sym (e ∙ spelling_is q qs)))
one_spelling (p ∷ ps) [] a b e = absurd (some_written p (spelling ps) (sym (spelling_is p ps) ∙ e))
one_spelling (p ∷ ps) (q ∷ qs) a b e =
    let one = one_part p q (spelling ps) (spelling qs) a.0 (ends_here p ps) b.0 (ends_here q qs) (sym (spelling_is p ps) ∙ e ∙ spelling_is q qs) in
    ap (λ x. x ∷ ps) one.0 ∙ ap (λ xs. q ∷ xs) (one_spelling ps qs a.1 b.1 one.1)

pub one_reading : (text name other : List ℕ) (parts others : List Part) → IsReading text name parts → IsReading text other others → (name ≡ other) × (parts ≡ others)
one_reading text name other parts others a b =
    let same = one_spelling (field name ∷ parts) (field other ∷ others) (a.is_name, a.are_parts) (b.is_name, b.are_parts) (ap (λ t. 46 ∷ t) (sym a.spelled ∙ b.spelled)) in
    (cc, cc)
