-- Some answer applies to each text.
use Rattle.std.proofs.Common.{◌≡◌, ℕ, zero, suc, ◌≤◌, ◌⊎◌, ◌==◌, inl, inr, true, false, List, [], ◌∷◌, ◌++◌, length, Option, Some, None, Result, Ok, Err, refl, sym, ap, subst, arith, append_assoc, append-nil}
use Rattle.std.proofs.lemmas.Bool.{cases_Bool, eqb-true, eqb-false}
use Rattle.fb_schema.specs.{declared.kinds.Kind.Kind, declared.kinds.Kind.TheVariants.Table, Rows.Rows}
use Rattle.fb_access.specs.declared.{step.Step.Step, misfit.Misfit.Misfit, misfit.Fitted.Fitted, path_fault.PathFault.PathFault, path_fault.PathFault.TheVariants.BadText}
use Rattle.fb_access.specs.{Grammar.Part, Grammar.field, Grammar.element, Grammar.member, Grammar.begins_name, Grammar.goes_on, Cutting.IsWord, Cutting.IsNamed, Cutting.HasNoName}
use Rattle.fb_access.specs.{Cutting.IsNumbered, Cutting.next_digit, Cutting.BeginsWith, Cutting.Spells, Cutting.IsStuck, Resolving.fitting, Resolving.fault_of, Resolving.Follows}
use Rattle.fb_access.specs.Resolving.{IsAnswer}
use Rattle.fb_access.proofs.{Words.AreSoFar, Words.one_digit_more, Following.follows_more, Following.longer, Following.misfit_fault, Following.misfits, Following.resolves}
use Rattle.fb_access.proofs.Stuck.{no_mark, no_field, no_member, no_index, part_spells, part_stuck, stuck_wrong}

-- A text begins with a word, a name or a number, or it doesn't.
abbrev IsWordy : List ℕ → Type 0
IsWordy t = (word : List ℕ) × (rest : List ℕ) × IsWord t word rest

word_there : (t : List ℕ) → IsWordy t
word_there [] = ([], [], record { whole = refl; go_on = tt; stops = tt })
word_there (c ∷ cs) = elim (cases_Bool (goes_on c)) [
  | inl e ↦ let (word, rest, is) = word_there cs in (c ∷ word, rest, record { whole = ap (λ t. c ∷ t) is.whole; go_on = (e, is.go_on); stops = is.stops })
  | inr e ↦ ([], c ∷ cs, record { whole = refl; go_on = tt; stops = e })
]

name_there : (t : List ℕ) → HasNoName t ⊎ ((name : List ℕ) × (rest : List ℕ) × IsNamed t name rest)
name_there [] = inl tt
name_there (c ∷ cs) = elim (cases_Bool (begins_name c)) [
  | inl e ↦ let (word, rest, is) = word_there cs in inr (c ∷ word, rest, record { is_name = (e, is.go_on); word = record { whole = ap (λ t. c ∷ t) is.whole; go_on = (grind arith, is.go_on); stops = is.stops } })
  | inr e ↦ inl e
]

abbrev Numbered : List ℕ → List ℕ → Type 0
Numbered stuck t = ((bad : List ℕ) × IsStuck stuck bad) ⊎ ((n : ℕ) × (rest : List ℕ) × IsNumbered t n rest)

number_there : (left ds : List ℕ) (o : Option ℕ) → AreSoFar ds o → Numbered (91 ∷ ds ++ left) (ds ++ left)
number_there [] ds o so = inl ([], no_index _ ds [] o so refl tt)
number_there (c ∷ cs) ds o so = go o so (next_digit o c) refl (cases_Bool (c == 93)) (λ v d. subst (λ t. Numbered (91 ∷ t) t) (append_assoc ds (c ∷ []) cs) (number_there cs (ds ++ c ∷ []) (Some v) (one_digit_more ds o c v so d))) where
  go : (o : Option ℕ) → AreSoFar ds o → (n : Option ℕ) → next_digit o c ≡ n → ((c == 93) ≡ true) ⊎ ((c == 93) ≡ false) → ((v : ℕ) → next_digit o c ≡ Some v → Numbered (91 ∷ ds ++ c ∷ cs) (ds ++ c ∷ cs)) → Numbered (91 ∷ ds ++ c ∷ cs) (ds ++ c ∷ cs)
  go (Some v) so n d (inl e) later = inr (v, cs, record { digits = ds; is_number = so.0; value = sym so.1; whole = ap (λ x. ds ++ x ∷ cs) (eqb-true c 93 e) })
  go o so (Some v) d e later = later v d
  go None so None d e later = inl (c ∷ cs, no_index _ ds (c ∷ cs) None so refl (d, λ e. refl))
  go (Some v) so None d (inr e) later = inl (c ∷ cs, no_index _ ds (c ∷ cs) (Some v) so refl (d, λ f. absurd (eqb-false c 93 e f)))

-- It begins with a part, or it is stuck, if anything is left.
abbrev Begun : List ℕ → Type 0
Begun t = ((bad : List ℕ) × IsStuck t bad) ⊎ ((p : Part) × (rest : List ℕ) × BeginsWith p t rest)

begun : (c : ℕ) (cs : List ℕ) → Begun (c ∷ cs)
begun c cs = elim (cases_Bool (c == 46)) [
  | inl e ↦ rw (eqb-true c 46 e) (elim (name_there cs) [ inl h ↦ inl (cs, no_field cs h) | inr h ↦ inr (field h.0, h.1, record { is_part = h.2.is_name; whole = ap (λ t. 46 ∷ t) h.2.word.whole; ends = h.2.word.stops }) ])
  | inr e ↦ elim (cases_Bool (c == 91)) [
    | inl f ↦ rw (eqb-true c 91 f) (elim (number_there cs [] None refl) [ inl h ↦ inl h | inr h ↦ inr (element h.2.digits, h.1, record { is_part = h.2.is_number; whole = ap (λ t. 91 ∷ t) h.2.whole; ends = tt }) ])
    | inr f ↦ elim (cases_Bool (c == 64)) [
      | inl g ↦ rw (eqb-true c 64 g) (elim (name_there cs) [ inl h ↦ inl (cs, no_member cs h) | inr h ↦ inr (member h.0, h.1, record { is_part = h.2.is_name; whole = ap (λ t. 64 ∷ t) h.2.word.whole; ends = h.2.word.stops }) ])
      | inr g ↦ inl (c ∷ cs, no_mark c cs (eqb-false c 46 e) (eqb-false c 91 f) (eqb-false c 64 g))
    ]
  ]
]

-- A text is parts, or it is stuck.
abbrev Read : List ℕ → Type 0
Read t = ((bad : List ℕ) × IsStuck t bad) ⊎ ((ps : List Part) × Spells t ps)

read : (n : ℕ) (t : List ℕ) → length t ≤ n → Read t
read n [] l = inr ([], record { are_parts = tt; spelled = refl })
read zero (c ∷ cs) l = absurd (omega arith)
read (suc n) (c ∷ cs) l = elim (begun c cs) [
  | inl h ↦ inl h
  | inr h ↦
      let less = longer h.0 h.1 in
      elim (read n h.1 (omega (arith, ap length h.2.whole))) [
        | inl g ↦ inl (g.0, part_stuck h.0 (c ∷ cs) h.1 g.0 h.2 g.1)
        | inr g ↦ inr (h.0 ∷ g.0, part_spells h.0 g.0 (c ∷ cs) h.1 h.2 g.1)
      ]
]

-- The parts of a path follow, or one misfits.
module _ (S : Rows) (root : ℕ) (text : List ℕ) where
  Answer : Type 0
  Answer = (answer : Result (List Step) PathFault) × IsAnswer S root text answer

  followed : (done left : List Part) (steps : List Step) (kind : Kind) → Spells (46 ∷ text) (done ++ left) → Follows S (Table root) done steps kind → Answer
  unfolding Answer
  followed done [] steps kind h f = (Ok steps, resolves S root text steps kind (done ++ []) h (subst (λ ps. Follows S (Table root) ps steps kind) (sym (append-nil done)) f))
  followed done (p ∷ left) steps kind h f = go (fitting S kind p) refl (λ x e. followed (done ++ p ∷ []) left (steps ++ x.step ∷ []) x.kind (subst (Spells (46 ∷ text)) (sym (append_assoc done (p ∷ []) left)) h) (follows_more S (Table root) kind done steps p x f e)) where
    go : (r : Result Fitted Misfit) → fitting S kind p ≡ r → ((x : Fitted) → fitting S kind p ≡ Ok x → Answer) → Answer
    go (Ok x) e later = later x e
    go (Err m) e later = (Err (fault_of m (length done)), misfit_fault S root text m (length done) (misfits S root text steps kind done left p m h f e))

  pub some_answer : (answer : Result (List Step) PathFault) × IsAnswer S root text answer
  unfolding Answer
  some_answer = elim (read (suc (length text)) (46 ∷ text) (omega arith)) [
    | inl w ↦ (Err (BadText _), (stuck_wrong text w.0 w.1).1)
    | inr h ↦ followed [] h.0 [] (Table root) h.1 (refl, refl)
  ]
