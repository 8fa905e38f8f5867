-- What is told, one after another.
use Rattle.std.proofs.Common.{◌≡◌, List, ℕ, ap, ◌∙◌, append-nil, append_assoc}
use Rattle.fb_run.specs.Texts.{Texts, followed, silent}

abbrev all_of : List ℕ → List ℕ → List ℕ → Texts
all_of out notes rejects = record { out = out; notes = notes; rejects = rejects }

-- texts are the same where all parts are
pub same_texts : (a b c a' b' c' : List ℕ) → a ≡ a' → b ≡ b' → c ≡ c' → all_of a b c ≡ all_of a' b' c'
same_texts a b c a' b' c' first second third = ap (λ l. all_of l b c) first ∙ ap (λ l. all_of a' l c) second ∙ ap (λ l. all_of a' b' l) third

pub followed_assoc : (a b c : Texts) → followed (followed a b) c ≡ followed a (followed b c)
followed_assoc a b c = same_texts _ _ _ _ _ _ (append_assoc a.out b.out c.out) (append_assoc a.notes b.notes c.notes) (append_assoc a.rejects b.rejects c.rejects)

pub followed_silent : (a : Texts) → followed a silent ≡ a
followed_silent a = same_texts _ _ _ _ _ _ (append-nil a.out) (append-nil a.notes) (append-nil a.rejects)
