-- A line that stands at the end of its room.
use Rattle.std.proofs.Common.{◌≡◌, ℕ, ◌+◌, ◌-◌, ◌<◌, ◌≤◌, ◌^◌, List, [], ◌++◌, length, drop, arith, ap, length-append}
use Rattle.std.specs.Prelude.{decimal, slice_index_or, slice_set}
use Rattle.std.proofs.{Math.ListN.drop_of_length-le, lemmas.List.drop-set, lemmas.List.drop_more, lemmas.Fmt.decimal_digit, lemmas.Fmt.length-decimal-le}

-- nothing stands behind the end
pub drop_whole : (room : List ℕ) (n : ℕ) → length room ≡ n → drop n room ≡ []
drop_whole room n long = drop_of_length-le room (omega (arith, long))

-- a number of 64 bits has at most twenty digits
pub digits_few : (number : ℕ) → number < 2 ^ 64 → length (decimal number) ≤ 20
digits_few number bits = length-decimal-le 20 number (omega arith) (omega arith) bits

-- a digit that was put before a place stands in front of what stands there
pub digit_before : (room : List ℕ) (place digit : ℕ) → digit < 10 → 0 < place → place ≤ length room → drop (place - 1) (slice_set room (place - 1) (48 + digit)) ≡ decimal digit ++ drop place room
digit_before room place digit small behind within =
    let e : place - 1 + 1 ≡ place = omega arith in
    rw (drop-set room (place - 1) (48 + digit) (omega arith), e, decimal_digit digit small)

-- a byte that was put before a place, from before the end of a text that stands there, is the front of more of it
pub byte_before : (room text behind : List ℕ) (place left : ℕ) → 0 < left → left ≤ length text → 0 < place → place ≤ length room → drop place room ≡ drop left text ++ behind
    → drop (place - 1) (slice_set room (place - 1) (slice_index_or text (left - 1) 0)) ≡ drop (left - 1) text ++ behind
byte_before room text behind place left some inside later within is =
    let e : place - 1 + 1 ≡ place = omega arith in
    let e' : left - 1 + 1 ≡ left = omega arith in
    rw (drop-set room (place - 1) (slice_index_or text (left - 1) 0) (omega arith), e, is, drop_more text (left - 1) 0 (omega arith), e')

-- a number in front makes a line longer by no more than that
pub digits_more : (line line' rest : List ℕ) (number : ℕ) → line' ≡ decimal number ++ rest → rest ≡ line → number < 2 ^ 64 → length line' ≤ length line + 20
digits_more line line' rest number is same bits =
    let digits = digits_few number bits in
    omega (arith, ap length is, ap length same, length-append (decimal number) rest)
