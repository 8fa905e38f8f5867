-- Texts that are added up to so many bytes in all.
use Rattle.std.proofs.Common.{◌≡◌, ℕ, suc, zero, ◌-◌, ◌≤◌, ◌<◌, List, [], ◌∷◌, ◌++◌, length, take, map, codes, refl, ap, sym, ◌∙◌, append_assoc, arith, length-append, nat_lt}
use Rattle.std.proofs.lemmas.{Grind.common_steps, Bool.cond-true, Bool.cond-false, Bool.le-ltb, Bool.lt-ltb, List.length-take, List.take-map, List.take-take, List.take_all, List.Concat.flat_map-cons}
use Rattle.std.specs.List.{flat_map}
use Rattle.fb_schema.specs.Rows.{Rows}
use Rattle.fb_rules.specs.declared.link.Link.{Link}
use Rattle.fb_access.specs.Location.{cut_to, filled, link_text, mark_behind, name_byte, path_text}

-- as much of one text, and as much as there is room for behind it of the other, is as much of both
take_both : (k : ℕ) (one other : List ℕ) → take k one ++ take (k - length (take k one)) other ≡ take k (one ++ other)
take_both zero one other = refl
take_both (suc k) [] other = let e : suc k - 0 ≡ suc k = omega arith in rw e
take_both (suc k) (x ∷ one) other =
    let e : suc k - length (x ∷ take k one) ≡ k - length (take k one) = omega arith in
    rw e (ap (λ (l : List ℕ). x ∷ l) (take_both k one other))

-- nothing is added
pub filled_nothing : (before : List ℕ) → filled before [] ≡ before
unfolding filled
filled_nothing before = grind (arith, common_steps)

-- one and then the other
pub filled_twice : (before one other : List ℕ) → filled (filled before one) other ≡ filled before (one ++ other)
unfolding filled
filled_twice before one other =
    let room : ℕ = 4097 - length before in
    let e : 4097 - length (before ++ take room one) ≡ room - length (take room one) = omega (arith, length-append before (take room one)) in
    rw e (append_assoc before (take room one) (take (room - length (take room one)) other) ∙ ap (λ (l : List ℕ). before ++ l) (take_both room one other))

-- a mark, and then a name up to there
pub filled_name : (before mark name : List ℕ) → filled before mark ++ map name_byte (take (4097 - length (filled before mark)) name) ≡ filled before (mark ++ map name_byte name)
unfolding filled
filled_name before mark name =
    let there : List ℕ = filled before mark in
    ap (λ (l : List ℕ). there ++ l) (sym (take-map name_byte (4097 - length there) name)) ∙ filled_twice before mark (map name_byte name)

-- where the byte beyond what is told doesn't come, the whole is told; else all but that byte is, and `..`
pub told_whole : (whole : List ℕ) → length (filled [] whole) ≤ 4096 → filled [] whole ≡ cut_to 4096 whole
unfolding filled
told_whole whole h =
    let n : length whole ≤ 4096 = omega (arith, length-take 4097 whole) in
    let same : cut_to 4096 whole ≡ whole = cond-false (nat_lt 4096 (length whole)) _ _ (le-ltb 4096 (length whole) n) in
    take_all 4097 whole (omega arith) ∙ sym same

pub told_cut : (whole : List ℕ) → 4096 < length (filled [] whole) → take 4096 (filled [] whole) ++ codes ".." ≡ cut_to 4096 whole
unfolding filled
told_cut whole h =
    let n : 4096 < length whole = omega (arith, length-take 4097 whole) in
    let same : cut_to 4096 whole ≡ take 4096 whole ++ codes ".." = cond-true (nat_lt 4096 (length whole)) _ _ (lt-ltb 4096 (length whole) n) in
    ap (λ (l : List ℕ). l ++ codes "..") (take-take 4096 4097 whole (omega arith)) ∙ sym same

-- links with a mark behind each, and a last one, are a path
path_on : (S : Rows) (link last : Link) (before : List Link) → path_text S (link ∷ before ++ last ∷ []) ≡ link_text S link ++ mark_behind S link ++ path_text S (before ++ last ∷ [])
path_on S link last [] = refl
path_on S link last (next ∷ before) = refl

pub path_with_last : (S : Rows) (before : List Link) (last : Link) → flat_map (λ l. link_text S l ++ mark_behind S l) before ++ link_text S last ≡ path_text S (before ++ last ∷ [])
path_with_last S [] last = refl
path_with_last S (link ∷ before) last =
    let marked : Link → List ℕ = λ l. link_text S l ++ mark_behind S l in
    ap (λ (t : List ℕ). t ++ link_text S last) (flat_map-cons marked link before)
    ∙ append_assoc (marked link) (flat_map marked before) (link_text S last)
    ∙ ap (λ (t : List ℕ). marked link ++ t) (path_with_last S before last)
    ∙ sym (path_on S link last before)
