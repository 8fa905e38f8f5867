-- The texts of paths that have [*]: what is before it is the text of a path.
use Rattle.std.proofs.Common.{◌≡◌, ℕ, suc, ◌+◌, ◌≤◌, inl, inr, List, [], ◌∷◌, ◌++◌, append_assoc, drop, drop-cons, length, length-append, take, refl, sym, ap, subst, ◌∙◌, arith, Ok, Err}
use Rattle.std.proofs.{Math.ListN.set, lemmas.List.set_split, lemmas.List.take_more}
use Rattle.std.specs.List.{AllByRecursion}
use Rattle.fb_schema.specs.{Rows.Rows, declared.kinds.Kind.Kind, declared.kinds.Kind.TheVariants.Table}
use Rattle.fb_access.specs.{Grammar.Part, Grammar.field, Grammar.element, Grammar.member, Grammar.IsNumber, Grammar.IsPart, Grammar.number_of, Grammar.spelling, Cutting.GoOn}
use Rattle.fb_access.specs.{Resolving.Follows, Resolving.Refuses, Resolving.Resolves, Resolving.fitting, declared.step.Step.Step, declared.step.Step.TheVariants.Element}
use Rattle.fb_access.specs.declared.{misfit.Fitted.Fitted, path_fault.PathFault.PathFault}
use Rattle.fb_access.proofs.{OneAnswer.one_answer, Words.name_word, Words.number_word}
use Rattle.fbcheck_calls.specs.Marked.{HasMark, IsEachAfter, at_zero}

-- texts that are one begin alike, and go on alike
first_is : (a b : ℕ) (xs ys : List ℕ) → a ∷ xs ≡ b ∷ ys → a ≡ b
first_is a b xs ys e = cc

rest_is : (a b : ℕ) (xs ys : List ℕ) → a ∷ xs ≡ b ∷ ys → xs ≡ ys
rest_is a b xs ys e = cc

other_mark : (a b : ℕ) (xs ys : List ℕ) → (a ≡ b → ⊥) → a ∷ xs ≡ b ∷ ys → ⊥
other_mark a b xs ys other e = other (first_is a b xs ys e)

-- where a bracket stands behind so much, no word of the text goes beyond that
word_before : (word before rest after : List ℕ) → GoOn word → before ++ 91 ∷ rest ≡ word ++ after → (left : List ℕ) × (before ≡ word ++ left) × (left ++ 91 ∷ rest ≡ after)
word_before [] before rest after h e = (before, refl, e)
word_before (c ∷ word) [] rest after h e = absurd (grind arith)
word_before (c ∷ word) (d ∷ before) rest after h e =
    let same : d ≡ c = first_is d c (before ++ 91 ∷ rest) (word ++ after) e in
    let on = word_before word before rest after h.1 (rest_is d c (before ++ 91 ∷ rest) (word ++ after) e) in
    (on.0, (λ i. same i ∷ on.1 i), on.2)

-- the parts before a bracket that opens, the digits behind it, and the parts behind these
record IsOpenedIn (parts : List Part) (before rest : List ℕ) : Type 0 where
  pub front : List Part
  pub digits : List ℕ
  pub back : List Part
  pub are : parts ≡ front ++ element digits ∷ back
  pub before_is : before ≡ spelling front
  pub after_is : rest ≡ digits ++ 93 ∷ spelling back

-- one part more in front
behind : (p : Part) (parts : List Part) (before before' rest : List ℕ) → ((front : List Part) → before ≡ spelling front → before' ≡ spelling (p ∷ front)) → IsOpenedIn parts before rest → IsOpenedIn (p ∷ parts) before' rest
behind p parts before before' rest spelled h = record {
  front = p ∷ h.front;
  digits = h.digits;
  back = h.back;
  are = ap (λ ps. p ∷ ps) h.are;
  before_is = spelled h.front h.before_is;
  after_is = h.after_is;
}

-- behind a number and its bracket
closed : (digits before rest : List ℕ) (parts : List Part) → (left : List ℕ) × (before ≡ digits ++ left) × (left ++ 91 ∷ rest ≡ 93 ∷ spelling parts)
    → ((left : List ℕ) → left ++ 91 ∷ rest ≡ spelling parts → IsOpenedIn parts left rest) → IsOpenedIn (element digits ∷ parts) (91 ∷ before) rest
closed digits before rest parts ([], is, on) more = absurd (other_mark 91 93 rest (spelling parts) (λ e. omega arith) on)
closed digits before rest parts (d ∷ left, is, on) more =
    let same : d ≡ 93 = first_is d 93 (left ++ 91 ∷ rest) (spelling parts) on in
    behind (element digits) parts left (91 ∷ before) rest (λ front spelled. (λ i. 91 ∷ is i) ∙ (λ i. 91 ∷ digits ++ same i ∷ spelled i)) (more left (rest_is d 93 (left ++ 91 ∷ rest) (spelling parts) on))

-- behind a word with its mark
named : (mark : ℕ) (p : Part) (name before rest : List ℕ) (parts : List Part) → ((front : List Part) → spelling (p ∷ front) ≡ mark ∷ name ++ spelling front) → (left : List ℕ) × (before ≡ name ++ left) × (left ++ 91 ∷ rest ≡ spelling parts)
    → ((left : List ℕ) → left ++ 91 ∷ rest ≡ spelling parts → IsOpenedIn parts left rest) → IsOpenedIn (p ∷ parts) (mark ∷ before) rest
named mark p name before rest parts spelled (left, is, on) more = behind p parts left (mark ∷ before) rest (λ front same. (λ i. mark ∷ is i) ∙ (λ i. mark ∷ name ++ same i) ∙ sym (spelled front)) (more left on)

opened_in : (parts : List Part) (before rest : List ℕ) → AllByRecursion IsPart parts → before ++ 91 ∷ rest ≡ spelling parts → IsOpenedIn parts before rest
opened_in [] [] rest h e = absurd cc
opened_in [] (c ∷ before) rest h e = absurd cc
opened_in (field name ∷ parts) [] rest h e = absurd (other_mark 91 46 rest (name ++ spelling parts) (λ same. omega arith) e)
opened_in (field name ∷ parts) (c ∷ before) rest h e =
    let first : c ≡ 46 = first_is c 46 (before ++ 91 ∷ rest) (name ++ spelling parts) e in
    let on = rest_is c 46 (before ++ 91 ∷ rest) (name ++ spelling parts) e in
    rw first (named 46 (field name) name before rest parts (λ front. refl) (word_before name before rest (spelling parts) (name_word name h.0) on) (λ left goes. opened_in parts left rest h.1 goes))
opened_in (member name ∷ parts) [] rest h e = absurd (other_mark 91 64 rest (name ++ spelling parts) (λ same. omega arith) e)
opened_in (member name ∷ parts) (c ∷ before) rest h e =
    let first : c ≡ 64 = first_is c 64 (before ++ 91 ∷ rest) (name ++ spelling parts) e in
    let on = rest_is c 64 (before ++ 91 ∷ rest) (name ++ spelling parts) e in
    rw first (named 64 (member name) name before rest parts (λ front. refl) (word_before name before rest (spelling parts) (name_word name h.0) on) (λ left goes. opened_in parts left rest h.1 goes))
opened_in (element digits ∷ parts) [] rest h e = record { front = []; digits = digits; back = parts; are = refl; before_is = refl; after_is = rest_is 91 91 rest (digits ++ 93 ∷ spelling parts) e }
opened_in (element digits ∷ parts) (c ∷ before) rest h e =
    let first : c ≡ 91 = first_is c 91 (before ++ 91 ∷ rest) (digits ++ 93 ∷ spelling parts) e in
    let on = rest_is c 91 (before ++ 91 ∷ rest) (digits ++ 93 ∷ spelling parts) e in
    rw first (closed digits before rest parts (word_before digits before rest (93 ∷ spelling parts) (number_word digits h.0) on) (λ left goes. opened_in parts left rest h.1 goes))

-- parts in front are parts, and so is the one behind them
front_parts : (front back : List Part) (p : Part) → AllByRecursion IsPart (front ++ p ∷ back) → AllByRecursion IsPart front × IsPart p
front_parts [] back p h = (tt, h.0)
front_parts (q ∷ front) back p h = let on = front_parts front back p h.1 in ((h.0, on.0), on.1)

-- the digits that begin with 0 are no more than that
zero_digits : (digits after rest : List ℕ) → IsNumber digits → 48 ∷ 93 ∷ after ≡ digits ++ 93 ∷ rest → digits ≡ 48 ∷ []
zero_digits [] after rest h e = absurd h
zero_digits (d ∷ digits) after rest (inl h) e = λ i. h.0 i ∷ h.1 i
zero_digits (d ∷ digits) after rest (inr h) e = absurd (h.0 (sym (first_is 48 d (93 ∷ after) (digits ++ 93 ∷ rest) e)))

module _ (S : Rows) where
  -- the steps of parts in front, and those from the one behind them on
  record AreCut (kind last : Kind) (front back : List Part) (p : Part) (steps : List Step) : Type 0 where
    pub first : List Step
    pub rest : List Step
    pub middle : Kind
    pub x : Fitted
    pub before : Follows S kind front first middle
    pub fits : fitting S middle p ≡ Ok x
    pub are : steps ≡ first ++ x.step ∷ rest

  cut_steps : (kind last : Kind) (front back : List Part) (p : Part) (steps : List Step) → Follows S kind (front ++ p ∷ back) steps last → AreCut kind last front back p steps
  cut_steps kind last [] back p steps (x, fits, rest, are, h) = record { first = []; rest = rest; middle = kind; x = x; before = (refl, refl); fits = fits; are = are }
  cut_steps kind last (q ∷ front) back p steps (x, fits, rest, are, h) =
      let on = cut_steps x.kind last front back p rest h in
      record {
        first = x.step ∷ on.first;
        rest = on.rest;
        middle = on.middle;
        x = on.x;
        before = (x, fits, on.first, refl, on.before);
        fits = on.fits;
        are = are ∙ ap (λ ss. x.step ∷ ss) on.are;
      }

  -- a number is a step to this element
  element_fits : (kind : Kind) (digits : List ℕ) (x : Fitted) → fitting S kind (element digits) ≡ Ok x → x.step ≡ Element (number_of digits)
  element_fits kind digits x e = grind arith

  -- the path of a text with [0] behind so much goes through the path of that
  pub before_resolves : (root : ℕ) (before after : List ℕ) (steps : List Step) → Resolves S root (before ++ 91 ∷ 48 ∷ 93 ∷ after) steps
      → (front : List Step) × (back : List Step) × Resolves S root before front × (steps ≡ front ++ Element 0 ∷ back)
  before_resolves root before after steps h = found o.front o.digits o.back o.are o.before_is o.after_is where
    o : IsOpenedIn (field h.name ∷ h.parts) (46 ∷ before) (48 ∷ 93 ∷ after)
    o = opened_in (field h.name ∷ h.parts) (46 ∷ before) (48 ∷ 93 ∷ after) (h.reading.is_name, h.reading.are_parts) (ap (λ t. 46 ∷ t) h.reading.spelled)

    found : (front : List Part) (digits : List ℕ) (back : List Part) → field h.name ∷ h.parts ≡ front ++ element digits ∷ back → 46 ∷ before ≡ spelling front → 48 ∷ 93 ∷ after ≡ digits ++ 93 ∷ spelling back
        → (front : List Step) × (back : List Step) × Resolves S root before front × (steps ≡ front ++ Element 0 ∷ back)
    found [] digits back are is after_is = absurd cc
    found (f ∷ front) digits back are is after_is =
        let first : f ≡ field h.name = cc in
        let others : h.parts ≡ front ++ element digits ∷ back = cc in
        let split = front_parts front back (element digits) (subst (AllByRecursion IsPart) others h.reading.are_parts) in
        let zero : digits ≡ 48 ∷ [] = zero_digits digits after (spelling back) split.1 after_is in
        let cut = cut_steps (Table root) h.last (f ∷ front) back (element digits) steps (subst (λ ps. Follows S (Table root) ps steps h.last) are h.follows) in
        let step : cut.x.step ≡ Element 0 = element_fits cut.middle digits cut.x cut.fits ∙ ap (λ ds. Element (number_of ds)) zero in
        let spelled : 46 ∷ before ≡ spelling (field h.name ∷ front) = is ∙ ap (λ p. spelling (p ∷ front)) first in (
          cut.first,
          cut.rest,
          record {
            name = h.name;
            parts = front;
            last = cut.middle;
            reading = record { is_name = h.reading.is_name; are_parts = split.0; spelled = rest_is 46 46 before (h.name ++ spelling front) spelled };
            follows = subst (λ p. Follows S (Table root) (p ∷ front) cut.first cut.middle) first cut.before;
          },
          cut.are ∙ ap (λ s. cut.first ++ s ∷ cut.rest) step,
        )

-- a text cut around its [*]
cut_mark : (text : List ℕ) (at : ℕ) → HasMark text at → at_zero text at ≡ take at text ++ 91 ∷ 48 ∷ 93 ∷ drop (at + 3) text
cut_mark text at mark =
    let within = mark.within in
    let front : take (at + 1) text ≡ take at text ++ 91 ∷ [] = take_more text at 0 (omega arith) ∙ ap (λ c. take at text ++ c ∷ []) mark.opens in
    let next : suc (at + 2) ≡ at + 3 = omega arith in
    let back : drop (at + 2) text ≡ 93 ∷ drop (at + 3) text = drop-cons text (at + 2) 0 (omega arith) ∙ (λ i. mark.closes i ∷ drop (next i) text) in
    (λ i. front i ++ 48 ∷ back i) ∙ append_assoc (take at text) (91 ∷ []) (48 ∷ 93 ∷ drop (at + 3) text)

-- a zero in place of the star
pub zero_set : (text : List ℕ) (at : ℕ) → HasMark text at → set text (at + 1) 48 ≡ at_zero text at
zero_set text at mark =
    let within = mark.within in
    let next : suc (at + 1) ≡ at + 2 = omega arith in
    set_split text (at + 1) 48 (omega arith) ∙ ap (λ n. take (at + 1) text ++ 48 ∷ drop n text) next

module _ (S : Rows) (root : ℕ) (text : List ℕ) (at : ℕ) (mark : HasMark text at) (path : List Step) (h : Resolves S root (at_zero text at) path) where
  before_is : (front : List Step) × (back : List Step) × Resolves S root (take at text) front × (path ≡ front ++ Element 0 ∷ back)
  before_is = before_resolves S root (take at text) (drop (at + 3) text) path (subst (λ t. Resolves S root t path) (cut_mark text at mark) h)

  -- what is before [*] resolves to the steps before that of [*]
  pub each_after : (before : List Step) → Resolves S root (take at text) before → IsEachAfter S root (take at text) path (length before + 1)
  each_after before g =
      let one = one_answer S root (take at text) (Ok before) (Ok before_is.0) g before_is.2 in
      let same : before ≡ before_is.0 = cc in
      record { front = before_is.0; back = before_is.1; resolves = before_is.2; stands = before_is.3; number = ap (λ steps. length steps + 1) same }

  pub before_short : (before : List Step) → Resolves S root (take at text) before → length before + 1 ≤ length path
  before_short before g =
      let each = each_after before g in
      let long : length path ≡ length each.front + suc (length each.back) = ap length each.stands ∙ length-append each.front (Element 0 ∷ each.back) in
      let number = each.number in
      omega arith

  -- and is refused only for want of memory
  pub before_refused : (fault : PathFault) → Refuses S root (take at text) fault → Refuses S root (at_zero text at) fault
  before_refused fault (inl wrong) = let one = one_answer S root (take at text) (Err fault) (Ok before_is.0) wrong before_is.2 in absurd cc
  before_refused fault (inr none) = inr none
