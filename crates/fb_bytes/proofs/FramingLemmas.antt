-- What a framer holds once its prefix is whole.
use Rattle.std.proofs.Common.{◌≡◌, ℕ, Bool, true, false, IsTrue, Result, Ok, Err, eqb, eqb-true, eq-eqb, rules, ◌+◌, ◌-◌, ◌<◌, ◌≤◌, List, [], ◌∷◌, ◌++◌, length, take, drop, refl, sym, ap, ◌∙◌, arith, true≢false, append-nil, append_assoc, length-append, length-drop, length-take, take-append-drop, take_all}
use mathlib.Core.Logic.{inl, inr}
use Rattle.std.specs.{Bool.◌==◌, Result.OnErr}
use Rattle.std.proofs.{lemmas.Bool.Decides.eqb_tells, Math.Seq.take-add, lemmas.List.take-append-le, lemmas.List.drop-take}
use Rattle.fb_bytes.specs.{declared.cut.Cut.Cut, declared.cut.Endian.Endian, Messages.declared, Messages.IsMessage, Messages.IsOversize, Framing.Framing, Framing.Feeds}
use Rattle.fb_bytes.specs.Framing.{IsFramed, held_bytes}
use Rattle.fb_bytes.proofs.MessageLemmas.{declared_append}

pub held_bytes-some : (prefix : List ℕ) (filled : ℕ) (body : List ℕ) → 0 < length body → held_bytes prefix filled body ≡ body
held_bytes-some prefix filled [] some = absurd (omega arith)
held_bytes-some prefix filled (x ∷ xs) some = refl

-- a prefix of which some bytes stood is whole with so many bytes of the piece
pub record Completes (prefix prefix' body piece : List ℕ) (filled used : ℕ) : Type 0 where
  pub four : length prefix ≡ 4
  pub four' : length prefix' ≡ 4
  pub sum : filled + used ≡ 4
  pub within : used ≤ length piece
  pub bytes : take (filled + used) prefix' ≡ take filled prefix ++ take used piece
  pub full : 0 < length body → filled ≡ 4
  pub front : 0 < length body → take 4 body ≡ prefix

-- a prefix that was whole before is the same
same-prefix : (prefix prefix' body piece : List ℕ) (filled used : ℕ) → Completes prefix prefix' body piece filled used → filled ≡ 4 → prefix' ≡ prefix
same-prefix prefix prefix' body piece filled used w all =
    let none : used ≡ 0 = omega (arith, w.sum) in
    sym (take_all 4 prefix' (omega (arith, w.four'))) ∙ ap (λ n. take n prefix') (sym w.sum) ∙ w.bytes
    ∙ ap (λ n. take n prefix ++ take used piece) all ∙ ap (λ n. take 4 prefix ++ take n piece) none ∙ append-nil (take 4 prefix) ∙ take_all 4 prefix (omega (arith, w.four))

-- held is what was held and what the piece gave to the prefix
pub completed-held : (prefix prefix' body piece : List ℕ) (filled used : ℕ) → Completes prefix prefix' body piece filled used
    → held_bytes prefix' 4 body ≡ held_bytes prefix filled body ++ take used piece
completed-held prefix prefix' [] piece filled used w = ap (λ n. take n prefix') (sym w.sum) ∙ w.bytes
completed-held prefix prefix' (x ∷ xs) piece filled used w =
    let all : filled ≡ 4 = w.full (omega arith) in
    let none : used ≡ 0 = omega (arith, w.sum) in
    sym (append-nil (x ∷ xs)) ∙ ap (λ n. (x ∷ xs) ++ take n piece) (sym none)

-- and begins with the prefix
pub completed-front : (prefix prefix' body piece : List ℕ) (filled used : ℕ) → Completes prefix prefix' body piece filled used
    → take 4 (held_bytes prefix' 4 body) ≡ prefix'
completed-front prefix prefix' [] piece filled used w = ap (take 4) (take_all 4 prefix' (omega (arith, w.four'))) ∙ take_all 4 prefix' (omega (arith, w.four'))
completed-front prefix prefix' (x ∷ xs) piece filled used w =
    w.front (omega arith) ∙ sym (same-prefix prefix prefix' (x ∷ xs) piece filled used w (w.full (omega arith)))

pub completed-long : (prefix prefix' body piece : List ℕ) (filled used : ℕ) → Completes prefix prefix' body piece filled used
    → 4 ≤ length (held_bytes prefix' 4 body)
completed-long prefix prefix' body piece filled used w =
    omega (arith, length-take 4 (held_bytes prefix' 4 body), ap length (completed-front prefix prefix' body piece filled used w), w.four')

-- the stream from what was held begins with that prefix
pub completed-stream : (prefix prefix' body piece : List ℕ) (filled used : ℕ) → Completes prefix prefix' body piece filled used
    → take 4 (held_bytes prefix filled body ++ piece) ≡ prefix'
completed-stream prefix prefix' body piece filled used w =
    let held = held_bytes prefix filled body in
    let parts : held ++ piece ≡ held_bytes prefix' 4 body ++ drop used piece = ap (λ l. held ++ l) (sym (take-append-drop used piece))
    ∙ sym (append_assoc held (take used piece) (drop used piece)) ∙ ap (λ l. l ++ drop used piece) (sym (completed-held prefix prefix' body piece filled used w)) in
    ap (take 4) parts ∙ take-append-le 4 (held_bytes prefix' 4 body) (drop used piece) (completed-long prefix prefix' body piece filled used w)
    ∙ completed-front prefix prefix' body piece filled used w

-- a prefix that tells too much was not whole before, so nothing else is held
pub completed-oversize : (cut : Cut) (prefix prefix' body piece : List ℕ) (filled used : ℕ) → Completes prefix prefix' body piece filled used
    → (filled ≡ 4 → 4 + declared cut.order prefix ≤ cut.limit) → cut.limit < 4 + declared cut.order prefix' → held_bytes prefix' (filled + used) body ≡ prefix'
completed-oversize cut prefix prefix' [] piece filled used w within over = ap (λ n. take n prefix') w.sum ∙ take_all 4 prefix' (omega (arith, w.four'))
completed-oversize cut prefix prefix' (x ∷ xs) piece filled used w within over =
    let all : filled ≡ 4 = w.full (omega arith) in
    let same : declared cut.order prefix' ≡ declared cut.order prefix = ap (declared cut.order) (same-prefix prefix prefix' (x ∷ xs) piece filled used w all) in
    let fits = within all in
    absurd (omega arith)

-- further bytes of the piece stand behind what was held, and the prefix in front
pub completed-grown : (prefix prefix' body body' piece : List ℕ) (filled used more : ℕ) → Completes prefix prefix' body piece filled used
    → held_bytes prefix' 4 body' ≡ held_bytes prefix' 4 body ++ take more (drop used piece)
    → (held_bytes prefix' (filled + used) body' ≡ held_bytes prefix filled body ++ take (used + more) piece) × (take 4 (held_bytes prefix' (filled + used) body') ≡ prefix')
completed-grown prefix prefix' body body' piece filled used more w grown =
    let before = held_bytes prefix' 4 body in
    let next = take more (drop used piece) in
    let at4 : held_bytes prefix' (filled + used) body' ≡ before ++ next = ap (λ n. held_bytes prefix' n body') w.sum ∙ grown in (
      at4 ∙ ap (λ l. l ++ next) (completed-held prefix prefix' body piece filled used w) ∙ append_assoc (held_bytes prefix filled body) (take used piece) next
          ∙ ap (λ l. held_bytes prefix filled body ++ l) (sym (take-add used more piece)),
      ap (take 4) at4 ∙ take-append-le 4 before next (completed-long prefix prefix' body piece filled used w) ∙ completed-front prefix prefix' body piece filled used w,
    )

framed-long : (order : Endian) (prefix prefix' body piece : List ℕ) (filled used : ℕ) → Completes prefix prefix' body piece filled used → (0 < length body → length body ≤ 4 + declared order prefix) → length (held_bytes prefix' 4 body) ≤ 4 + declared order prefix'
framed-long order prefix prefix' [] piece filled used w fits = omega (arith, length-take 4 prefix', w.four')
framed-long order prefix prefix' (x ∷ xs) piece filled used w fits =
    omega (arith, fits (omega arith), ap (declared order) (same-prefix prefix prefix' (x ∷ xs) piece filled used w (w.full (omega arith))))

-- What the framer's fields keep then.
module _ (cut : Cut) (prefix prefix' body piece : List ℕ) (filled used : ℕ) (failed : Bool) (w : Completes prefix prefix' body piece filled used) (h : IsFramed cut filled prefix body failed) where
  -- what is held is no longer than the prefix tells
  pub framed-room : length (held_bytes prefix' 4 body) ≤ 4 + declared cut.order prefix'
  framed-room = framed-long cut.order prefix prefix' body piece filled used w h.fits

  -- with a body within the limit behind that prefix
  pub framed-within : (body' : List ℕ) (failed' : Bool) → declared cut.order prefix' ≤ cut.limit - 4 → take 4 (held_bytes prefix' 4 body') ≡ prefix' → length (held_bytes prefix' 4 body') ≤ 4 + declared cut.order prefix' → IsFramed cut (filled + used) prefix' body' failed'
  framed-within body' failed' all front fits = record {
    low = h.low;
    high = h.high;
    part = omega (arith, w.sum);
    four = w.four';
    within = λ _ _. omega (arith, all, h.low);
    full = λ _. w.sum;
    front = λ some. sym (ap (take 4) (held_bytes-some prefix' 4 body' some)) ∙ front;
    fits = λ some. omega (arith, ap length (held_bytes-some prefix' 4 body' some), fits);
    most = omega (arith, ap (λ n. length (held_bytes prefix' n body')) w.sum, fits, all, h.low);
  }

  -- where that prefix tells too much
  pub framed-over : failed ≡ false → cut.limit < 4 + declared cut.order prefix' → IsFramed cut (filled + used) prefix' body true
  framed-over fine over =
      let alone : held_bytes prefix' (filled + used) body ≡ prefix' = completed-oversize cut prefix prefix' body piece filled used w (h.within fine) over in
      record {
        low = h.low;
        high = h.high;
        part = omega (arith, w.sum);
        four = w.four';
        within = λ e _. absurd (true≢false e);
        full = λ _. w.sum;
        front = λ some. sym (ap (take 4) (held_bytes-some prefix' 4 body some)) ∙ completed-front prefix prefix' body piece filled used w;
        fits = λ some. omega (arith, ap length (held_bytes-some prefix' (filled + used) body some), ap length alone, w.four');
        most = omega (arith, ap length alone, w.four', h.low);
      }

-- what is shorter than its prefix tells was no message before
pub completed-unfinished : (cut : Cut) (held piece : List ℕ) (used : ℕ) → length (held ++ take used piece) < 4 + declared cut.order (held ++ piece) → IsMessage cut held → ⊥
completed-unfinished cut held piece used short is =
    omega (arith, is.whole, declared_append cut.order held piece is.prefixed, length-append held (take used piece))

-- a piece that was taken holds no prefix that tells too much
pub fed-fits : (old new : Framing) (piece : List ℕ) (used : ℕ) (whole : Bool) → Feeds old new piece used whole → IsOversize old.cut (old.held ++ piece) → ⊥
fed-fits old new piece used true fed over =
    let is = fed.message refl in
    let parts : old.held ++ piece ≡ new.held ++ drop used piece = ap (λ l. old.held ++ l) (sym (take-append-drop used piece))
    ∙ sym (append_assoc old.held (take used piece) (drop used piece)) ∙ ap (λ l. l ++ drop used piece) (sym fed.held) in
    let limit = ap (λ (c : Cut). c.limit) fed.cut in
    let number = ap (λ (c : Cut). declared c.order new.held) fed.cut in
    omega (arith, is.whole, is.within, over.1, limit, number, ap (declared old.cut.order) parts, declared_append old.cut.order new.held (drop used piece) is.prefixed)
fed-fits old new piece used false fed over =
    let part = fed.partial refl in
    let all : new.held ≡ old.held ++ piece = fed.held ∙ ap (λ l. old.held ++ l) (take_all used piece (omega (arith, part.1))) in
    let fits = part.0 (omega (arith, over.0, ap length all)) in
    let limit = ap (λ (c : Cut). c.limit) fed.cut in
    let number = ap (λ (c : Cut). declared c.order new.held) fed.cut in
    omega (arith, fits.1, over.1, limit, number, ap (declared old.cut.order) all)

-- a prefix and what follows it
pub front_rest : (bytes prefix : List ℕ) → take 4 bytes ≡ prefix → bytes ≡ prefix ++ drop 4 bytes
front_rest bytes prefix front = sym (take-append-drop 4 bytes) ∙ ap (λ l. l ++ drop 4 bytes) front

-- what follows the first bytes of a piece
pub drop_take : (at used : ℕ) (piece : List ℕ) → drop at (take (at + used) piece) ≡ take used (drop at piece)
drop_take at used piece = drop-take at used piece

-- the length of what is held before bytes of a piece are added, and after
pub held-empty : (prefix body : List ℕ) (n : ℕ) → n ≡ length body → length prefix ≡ 4 → true ≡ (n == 0) → length (held_bytes prefix 4 body) ≡ 4
held-empty prefix [] n same four e = omega (arith, length-take 4 prefix, four)
held-empty prefix (x ∷ xs) n same four e = absurd (omega (arith, same, eqb-true n 0 (sym e)))

pub held-body : (prefix body : List ℕ) (n : ℕ) → n ≡ length body → false ≡ (n == 0) → length (held_bytes prefix 4 body) ≡ n
held-body prefix [] n same e = absurd (true≢false (sym (eq-eqb n 0 same) ∙ sym e))
held-body prefix (x ∷ xs) n same e = sym same

pub grown-length : (old new piece : List ℕ) (at used : ℕ) → new ≡ old ++ take used (drop at piece) → used ≤ length piece - at → length new ≡ length old + used
grown-length old new piece at used e within = omega (arith, ap length e, length-append old (take used (drop at piece)), length-take used (drop at piece), length-drop at piece)

-- it is whole where all that was left came
pub told-whole : (used left n total : ℕ) → (used ≡ left → n ≡ total) → (n ≡ total → used ≡ left) → (IsTrue (eqb used left) → n ≡ total) × (n ≡ total → IsTrue (eqb used left))
told-whole used left n total f g = elim (eqb_tells used left) [
  | inl h ↦ (λ _. f h.1, λ _. rw h.0 (search rules))
  | inr h ↦ (λ t. absurd (true≢false (search (rules, rw h.0 at t))), λ e. absurd (h.1 (g e)))
]

pub on-err : {A E : Type 0} {X : Type 0} (r : Result A E) → X → OnErr r X
on-err (Ok a) h = tt
on-err (Err e) h = h
