-- What is told of a path that isn't there: printable bytes, and of one that is nothing.
use Rattle.std.proofs.Common.{◌≡◌, ℕ, zero, suc, Bool, true, false, ◌&&◌, ◌<◌, ◌≤◌, List, [], ◌∷◌, take, Option, None, Some, ◌++◌, ◌∙◌, drop, length, refl, sym, ap, subst, arith}
use Rattle.std.proofs.{Math.ListN.set, Math.Seq.take-append_seam, lemmas.List.length-set}
use Rattle.std.specs.List.{list_all}
use Rattle.fb_access.specs.{Resolving.Resolves, declared.step.Step.Step}
use Rattle.fb_bfbs.specs.declared.loading.Loaded.{Loaded}
use Rattle.fbcheck_calls.specs.{Asked.published, Asked.root_asked, Bases.Based, Hinted.IsPathFrom, Hinted.LacksPathHint, Marked.IsFirstMark, Marked.plain_text, declared.held.Held.Held}
use Rattle.fbcheck_calls.specs.declared.held.Held.TheVariants.{Schema}
use Rattle.fb_schema.specs.Rows.{Rows}

-- what isn't below is above
not_below : (a b : ℕ) → (a < b → ⊥) → b ≤ a
not_below a b h = grind arith

both : (a b : Bool) → (a && b) ≡ true → (a ≡ true) × (b ≡ true)
both true b is = (refl, is)
both false b is = cc

-- what holds of each element holds of each of the first ones
pub first_ones : (p : ℕ → Bool) (n : ℕ) (xs : List ℕ) → list_all p xs ≡ true → list_all p (take n xs) ≡ true
first_ones p zero xs all = refl
first_ones p (suc n) [] all = refl
first_ones p (suc n) (x ∷ xs) all = let (here, behind) = both (p x) (list_all p xs) all in rw (here, first_ones p n xs behind) refl

-- a text has one first [*], or none
one_mark : (text : List ℕ) (m n : Option ℕ) → IsFirstMark text m → IsFirstMark text n → m ≡ n
one_mark text None None h g = refl
one_mark text None (Some b) h g = absurd (h b g.0)
one_mark text (Some a) None h g = absurd (g a h.0)
one_mark text (Some a) (Some b) h g =
    let le : a ≤ b = not_below b a (λ lt. h.1 b lt g.0) in
    let ge : b ≤ a = not_below a b (λ lt. g.1 a lt h.0) in
    ap Some (omega arith)

pub plain_resolves : (S : Rows) (root : ℕ) (text : List ℕ) (mark : Option ℕ) → IsFirstMark text mark → IsPathFrom S root text → (steps : List Step) × Resolves S root (plain_text text mark) steps
plain_resolves S root text mark is h = (h.steps, subst (λ m. Resolves S root (plain_text text m) h.steps) (one_mark text h.mark mark h.first_mark is) h.resolves)

-- what is written into a room of this length
pub written_back : (xs : List ℕ) (i x : ℕ) → take (length xs) (set xs i x ++ drop (length (set xs i x)) xs) ≡ set xs i x
written_back xs i x = ap (λ n. take n (set xs i x ++ drop (length (set xs i x)) xs)) (sym (length-set xs i x)) ∙ take-append_seam (set xs i x) (drop (length (set xs i x)) xs)

-- nothing is told where nothing is told of each path that resolves from the root
pub nothing_told : (h : Held) (s : Based) (l : Loaded) (root : ℕ) (path : List ℕ) (table told : ℕ) → h ≡ Schema s → l ≡ s.loaded → Some table ≡ root_asked l (record published { root = root }) → (IsPathFrom l.schema table path → told ≡ 0) → LacksPathHint h root path told
nothing_told h s l root path table told is same asked none = rw is (λ needs. none (rw (← same, ← asked) at needs))
