-- What comes behind what waits, and of which a front is written.
use Rattle.std.proofs.Common.{◌≡◌, ℕ, ◌+◌, List, ◌++◌, Option, length, take, refl, sym, ap, subst, ◌∙◌, arith, append_assoc, length-append}
use Rattle.std.proofs.{Math.Seq.take-append-add, KnownBytes.Appends-trans, lemmas.List.take-append-le}
use Rattle.std.specs.Io.KnownBytes.{Appends}
use Rattle.fb_run.specs.{AllTold.ComesBehind, AllTold.WritesFront, Texts.IsCounted}

-- so many, and then so many more
pub both_counted : (b b' b'' m n k : ℕ) → k ≡ m + n → IsCounted (b + m) b' → IsCounted (b' + n) b'' → IsCounted (b + k) b''
both_counted b b' b'' m n k is first second few =
    let one : b' ≡ b + m = first (omega (arith, few, is)) in
    let other : b'' ≡ b' + n = second (omega (arith, few, is, one)) in
    omega (arith, one, other, is)

-- two texts
pub behind_more : {w a w' c w'' : List ℕ} {s s' s'' : Option (List ℕ)} {b b' b'' : ℕ} → ComesBehind w a w' s s' b b' → ComesBehind w' c w'' s' s'' b' b''
    → ComesBehind w (a ++ c) w'' s s'' b b''
behind_more {w} {a} {w'} {c} {w''} {s} {s'} {s''} first second = record {
  front = first.front ++ second.front;
  whole =
      sym (append_assoc w a c) ∙ ap (λ l. l ++ c) first.whole ∙ append_assoc first.front w' c ∙ ap (λ l. first.front ++ l) second.whole
      ∙ sym (append_assoc first.front second.front w'');
  wrote = Appends-trans s s' s'' first.front second.front first.wrote second.wrote;
  written_is = both_counted _ _ _ _ _ _ (length-append first.front second.front) first.written_is second.written_is;
}

-- a write came to rest in the second of two texts
pub front_behind : {w a w' : List ℕ} (c : List ℕ) {s s' s'' : Option (List ℕ)} {b b' n : ℕ} → ComesBehind w a w' s s' b b' → WritesFront (w' ++ c) s' s'' b' n
    → WritesFront (w ++ (a ++ c)) s s'' b n
front_behind {w} {a} {w'} c {s} {s'} {s''} first second =
    let whole : w ++ (a ++ c) ≡ first.front ++ (w' ++ c) = sym (append_assoc w a c) ∙ ap (λ l. l ++ c) first.whole ∙ append_assoc first.front w' c in
    record {
      taken = length first.front + second.taken;
      within = omega (arith, second.within, ap length whole, length-append first.front (w' ++ c));
      wrote = subst (Appends s s'')
          (sym (ap (take (length first.front + second.taken)) whole ∙ take-append-add first.front (w' ++ c) second.taken))
          (Appends-trans s s' s'' first.front (take second.taken (w' ++ c)) first.wrote second.wrote);
      written_is = both_counted _ _ _ _ _ _ refl first.written_is second.written_is;
    }

-- or in the first
pub front_more : (w a c : List ℕ) {s s' : Option (List ℕ)} {b n : ℕ} → WritesFront (w ++ a) s s' b n → WritesFront (w ++ (a ++ c)) s s' b n
front_more w a c {s} {s'} front =
    let whole = append_assoc w a c in
    record {
      taken = front.taken;
      within = omega (arith, front.within, ap length whole, length-append (w ++ a) c);
      wrote = subst (Appends s s') (sym (ap (take front.taken) (sym whole) ∙ take-append-le front.taken (w ++ a) c (omega (arith, front.within)))) front.wrote;
      written_is = front.written_is;
    }
