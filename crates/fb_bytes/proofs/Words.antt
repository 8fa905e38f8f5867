-- What byteorder reads at the front of a rest of the bytes is the word there.
use Rattle.std.proofs.Common.{◌≡◌, ℕ, zero, suc, ◌+◌, ◌-◌, ◌≤◌, ◌<◌, List, take, drop, length, refl, sym, arith, get_or-drop, get_or-take, get_or}
use Rattle.byteorder.specs.Endian.{little_from}
use Rattle.fb_bytes.specs.Word.{word}

-- from the i-th byte of the rest on
little_from-rest : (n i p : ℕ) (bytes : List ℕ) → p + (i + n) ≤ length bytes
    → little_from i n (take (length bytes - p) (drop p bytes)) ≡ word bytes (p + i) n
unfolding word
little_from-rest zero i p bytes fits = refl
little_from-rest (suc n) i p bytes fits =
    let inside : i < length bytes - p = omega arith in
    let first : get_or (take (length bytes - p) (drop p bytes)) i 0 ≡ get_or bytes (p + i) 0 = rw (get_or-take, get_or-drop) in
    let next : p + suc i ≡ suc (p + i) = omega arith in
    let others = rw next at (little_from-rest n (suc i) p bytes (omega arith)) in
    cc

word-rest : (n p : ℕ) (bytes : List ℕ) → p + n ≤ length bytes → word bytes p n ≡ little_from 0 n (take (length bytes - p) (drop p bytes))
word-rest n p bytes fits = let here : p + 0 ≡ p = omega arith in sym (rw here at (little_from-rest n 0 p bytes (omega arith)))

pub word_byte : (p : ℕ) (bytes : List ℕ) → word bytes p 1 ≡ get_or bytes p 0
unfolding word
word_byte p bytes = omega arith

pub word_rest_2 : (p : ℕ) (bytes : List ℕ) → p + 2 ≤ length bytes → word bytes p 2 ≡ little_from 0 2 (take (length bytes - p) (drop p bytes))
word_rest_2 p bytes fits = word-rest 2 p bytes fits

pub word_rest_4 : (p : ℕ) (bytes : List ℕ) → p + 4 ≤ length bytes → word bytes p 4 ≡ little_from 0 4 (take (length bytes - p) (drop p bytes))
word_rest_4 p bytes fits = word-rest 4 p bytes fits

pub word_rest_8 : (p : ℕ) (bytes : List ℕ) → p + 8 ≤ length bytes → word bytes p 8 ≡ little_from 0 8 (take (length bytes - p) (drop p bytes))
word_rest_8 p bytes fits = word-rest 8 p bytes fits
