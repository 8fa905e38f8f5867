-- One answer applies to a text.
use Rattle.std.proofs.Common.{◌≡◌, ℕ, suc, ◌+◌, ◌⊎◌, inl, inr, List, [], ◌∷◌, ◌++◌, length, Result, Ok, Err, refl, sym, ◌∙◌, ap, arith}
use Rattle.fb_schema.specs.{declared.kinds.Kind.Kind, declared.kinds.Kind.TheVariants.Table, Rows.Rows}
use Rattle.fb_access.specs.declared.{step.Step.Step, misfit.Misfit.Misfit, misfit.Fitted.Fitted, path_fault.PathFault.PathFault, misfit.Misfit.TheVariants.NoSuchField}
use Rattle.fb_access.specs.declared.misfit.Misfit.TheVariants.{NotIndexable, NotAUnion, NoSuchMember, NotATable}
use Rattle.fb_access.specs.declared.path_fault.PathFault.TheVariants.{BadText, NoSuchField as NoSuchFieldAt, NotIndexable as NotIndexableAt, NotAUnion as NotAUnionAt}
use Rattle.fb_access.specs.declared.path_fault.PathFault.TheVariants.{NoSuchMember as NoSuchMemberAt, NotATable as NotATableAt, OutOfMemory}
use Rattle.fb_access.specs.{Grammar.Part, Grammar.field, Grammar.IsWrongAt, Resolving.fitting, Resolving.fault_of, Resolving.Follows, Resolving.Misfits, Resolving.IsAnswer}
use Rattle.fb_access.specs.Cutting.{Spells}
use Rattle.fb_access.proofs.{OneReading.one_spelling, Stuck.path_spells, Stuck.spells_path}

-- a step before others
abbrev behind : Step → Result (List Step) PathFault → Result (List Step) PathFault
behind step (Ok steps) = Ok (step ∷ steps)
behind step (Err f) = Err f

-- the step of a part and what the rest comes to, or its fault behind so many parts
abbrev one_more : ℕ → Result Fitted Misfit → (Kind → Result (List Step) PathFault) → Result (List Step) PathFault
one_more n (Ok x) rest = behind x.step (rest x.kind)
one_more n (Err m) rest = Err (fault_of m n)

module _ (S : Rows) where
  -- what parts come to from a kind, behind so many
  comes_to : ℕ → List Part → Kind → Result (List Step) PathFault
  comes_to n [] kind = Ok []
  comes_to n (p ∷ ps) kind = one_more n (fitting S kind p) (comes_to (suc n) ps)

  whole : (n : ℕ) (kind last : Kind) (ps : List Part) (steps : List Step) → Follows S kind ps steps last → comes_to n ps kind ≡ Ok steps
  unfolding comes_to
  whole n kind last [] steps h = ap Ok (sym h.0)
  whole n kind last (p ∷ ps) steps h = rw (h.1, whole (suc n) h.0.kind last ps h.2 h.4, h.3) refl

  stuck : (n : ℕ) (kind last : Kind) (before after : List Part) (p : Part) (steps : List Step) (m : Misfit) → Follows S kind before steps last → fitting S last p ≡ Err m → comes_to n (before ++ p ∷ after) kind ≡ Err (fault_of m (n + length before))
  unfolding comes_to
  stuck n kind last [] after p steps m h e = let i : n + 0 ≡ n = omega arith in rw (h.1, e, i) refl
  stuck n kind last (q ∷ before) after p steps m h e =
      let i : n + suc (length before) ≡ suc n + length before = omega arith in
      rw (h.1, stuck (suc n) h.0.kind last before after p h.2 m h.4 e, i) refl

-- one place is the longest beginning
one_place : (text : List ℕ) (a b : ℕ) → IsWrongAt text a → IsWrongAt text b → a ≡ b
one_place text a b h g = grind arith

module _ (S : Rows) (root : ℕ) (text : List ℕ) where
  -- an answer to a text that is no path, and to one whose parts come to something
  record IsWrong (a : Result (List Step) PathFault) : Type 0 where
    at : ℕ
    is : a ≡ Err (BadText at)
    wrong : IsWrongAt text at

  record IsOfPath (a : Result (List Step) PathFault) : Type 0 where
    parts : List Part
    spells : Spells (46 ∷ text) parts
    is : comes_to S 0 parts (Table root) ≡ a

  of_misfit : (m : Misfit) (n : ℕ) → Misfits S root text m n → IsOfPath (Err (fault_of m n))
  of_misfit m n w = record {
    parts = field w.name ∷ w.parts;
    spells = path_spells text (record { name = w.name; parts = w.parts; reading = w.reading });
    is = rw (w.all, w.number) (stuck S 0 (Table root) w.last w.before w.after w.part w.steps m w.follows w.unfit ∙ ap (λ k. Err (fault_of m k)) (omega arith));
  }

  sorted : (a : Result (List Step) PathFault) → IsAnswer S root text a → IsWrong a ⊎ IsOfPath a
  sorted (Ok steps) h = inr (record { parts = field h.name ∷ h.parts; spells = path_spells text (record { name = h.name; parts = h.parts; reading = h.reading }); is = whole S 0 (Table root) h.last (field h.name ∷ h.parts) steps h.follows })
  sorted (Err (BadText at)) h = inl (record { at = at; is = refl; wrong = h })
  sorted (Err (NoSuchFieldAt n)) h = inr (of_misfit NoSuchField n h)
  sorted (Err (NotIndexableAt n)) h = inr (of_misfit NotIndexable n h)
  sorted (Err (NotAUnionAt n)) h = inr (of_misfit NotAUnion n h)
  sorted (Err (NoSuchMemberAt n)) h = inr (of_misfit NoSuchMember n h)
  sorted (Err (NotATableAt n)) h = inr (of_misfit NotATable n h)
  sorted (Err OutOfMemory) h = absurd h

  pub one_answer : (a b : Result (List Step) PathFault) → IsAnswer S root text a → IsAnswer S root text b → a ≡ b
  one_answer a b h g = both (sorted a h) (sorted b g) where
    both : IsWrong a ⊎ IsOfPath a → IsWrong b ⊎ IsOfPath b → a ≡ b
    both (inl x) (inl y) = x.is ∙ ap (λ at. Err (BadText at)) (one_place text x.at y.at x.wrong y.wrong) ∙ sym y.is
    both (inl x) (inr y) = absurd (x.wrong.wrong (spells_path text y.parts y.spells).0)
    both (inr x) (inl y) = absurd (y.wrong.wrong (spells_path text x.parts x.spells).0)
    both (inr x) (inr y) = sym x.is ∙ ap (λ ps. comes_to S 0 ps (Table root)) (one_spelling x.parts y.parts x.spells.are_parts y.spells.are_parts (sym x.spells.spelled ∙ y.spells.spelled)) ∙ y.is
