-- The values at the ends of paths.
use Rattle.std.proofs.Common.{◌≡◌, ℕ, ◌+◌, ◌<◌, List, [], ◌∷◌, ◌++◌, length, take, get_or, map, sym, ap, ◌∙◌}
use Rattle.std.specs.List.{AllZip}
use Rattle.std.proofs.lemmas.List.{map-append, take_more}
use Rattle.fb_access.specs.{Denotes.Denotes, Denotes.Shown, Denotes.shown, declared.answer.Answer.Answer}
use Rattle.fb_schema.specs.Rows.{Rows}
use Rattle.fb_rules.specs.declared.start.Start.{Start}
use Rattle.fb_run.specs.{Job.AreAnswers, Wanted.Wanted}

-- one more on both sides
pub both_more : {A B : Type 0} (R : A → B → Type 0) (xs : List A) (ys : List B) (x : A) (y : B) → AllZip R xs ys → R x y → AllZip R (xs ++ x ∷ []) (ys ++ y ∷ [])
both_more R [] [] x y h r = (r, tt)
both_more R [] (b ∷ ys) x y h r = absurd h
both_more R (a ∷ xs) [] x y h r = absurd h
both_more R (a ∷ xs) (b ∷ ys) x y h r = (h.0, both_more R xs ys x y h.1 r)

-- the value of the next path was found
pub found_more : (bytes : List ℕ) (rows : Rows) (start : Start) (root : ℕ) (paths : List Wanted) (i : ℕ) (wanted : Wanted) (answers answers' : List Answer) (answer : Answer)
    → i < length paths → wanted ≡ get_or paths i wanted → AreAnswers bytes rows start root (take i paths) (map shown answers) → Denotes bytes rows start root wanted.steps (shown answer)
    → answers' ≡ answers ++ answer ∷ [] → AreAnswers bytes rows start root (take (i + 1) paths) (map shown answers')
found_more bytes rows start root paths i wanted answers answers' answer inside is found denotes added =
    let more : take (i + 1) paths ≡ take i paths ++ wanted ∷ [] = take_more paths i wanted inside ∙ ap (λ w. take i paths ++ w ∷ []) (sym is) in
    let values : map shown answers' ≡ map shown answers ++ shown answer ∷ [] = ap (map shown) added ∙ map-append shown answers (answer ∷ []) in
    rw (more, values) (both_more (λ (w : Wanted) (value : Shown). Denotes bytes rows start root w.steps value) (take i paths) (map shown answers) wanted (shown answer) found denotes)
