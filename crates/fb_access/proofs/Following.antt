-- How far a path has been followed.
use Rattle.std.proofs.Common.{◌≡◌, ℕ, suc, ◌<◌, ◌≤◌, List, [], ◌∷◌, ◌++◌, length, Ok, Err, refl, sym, ap, subst, arith, append_assoc, append-nil, Bor}
use Rattle.fb_schema.specs.{Demands.IsLegal, Rows.Rows, Served.IsServed, declared.kinds.Kind.Kind, declared.kinds.Kind.TheVariants.Table}
use Rattle.fb_access.specs.declared.{step.Step.Step, misfit.Misfit.Misfit, misfit.Fitted.Fitted, pieces.Piece.Piece, pieces.Next.Next, pieces.Next.TheVariants.Part as APart, pieces.Next.TheVariants.Wrong}
use Rattle.fb_access.specs.{Cutting.IsPieceOf, Cutting.IsCut, Cutting.IsNext, Cutting.IsStuck, Cutting.Spells, Cutting.written, Fitting.StepsFit, Kept.IsThere}
use Rattle.fb_access.specs.Grammar.{Part, field}
use Rattle.fb_access.specs.Resolving.{fitting, fault_of, Follows, Resolves, Misfits, IsFault}
use Rattle.std.proofs.lemmas.List.{length-append}
use Rattle.fb_access.proofs.{Fits.leads, Stuck.part_spells, Stuck.part_stuck, Stuck.spells_path}

-- One way behind another, and one more step.
pub follows_on : (S : Rows) (kind mid last : Kind) (ps qs : List Part) (ss rs : List Step) → Follows S kind ps ss mid → Follows S mid qs rs last → Follows S kind (ps ++ qs) (ss ++ rs) last
follows_on S kind mid last [] qs ss rs h g = rw (h.0, h.1) g
follows_on S kind mid last (p ∷ ps) qs ss rs h g = (h.0, h.1, h.2 ++ rs, ap (λ xs. xs ++ rs) h.3, follows_on S (h.0).kind mid last ps qs h.2 rs h.4 g)

pub follows_more : (S : Rows) (kind last : Kind) (ps : List Part) (steps : List Step) (p : Part) (x : Fitted) → Follows S kind ps steps last → fitting S last p ≡ Ok x → Follows S kind (ps ++ p ∷ []) (steps ++ x.step ∷ []) x.kind
follows_more S kind last ps steps p x h e = follows_on S kind last x.kind ps (p ∷ []) steps (x.step ∷ []) h (x, e, [], refl, (refl, refl))

-- as many steps as parts
as_many : (S : Rows) (kind last : Kind) (ps : List Part) (steps : List Step) → Follows S kind ps steps last → length steps ≡ length ps
as_many S kind last [] steps h = ap length h.0
as_many S kind last (p ∷ ps) steps h = grind (arith, as_many S h.0.kind last ps h.2)

-- steps that follow fit
steps_fit : (S : Rows) → IsLegal S → IsServed S → (kind last : Kind) (ps : List Part) (steps : List Step) → IsThere S kind → Follows S kind ps steps last → StepsFit S kind steps
steps_fit S legal served kind last [] steps t h = rw h.0 tt
steps_fit S legal served kind last (p ∷ ps) steps t h =
    let l = leads S legal served kind p h.0 t h.1 in
    rw h.3 (h.0.kind, l.next, steps_fit S legal served h.0.kind last ps h.2 l.there h.4)

-- the parts before what is left of the text were followed
pub record IsWalked (S : Rows) (root : ℕ) (text left : List ℕ) (steps : List Step) (kind : Kind) : Type 0 where
  pub done : List Part
  pub follows : Follows S (Table root) done steps kind
  pub spells : (ps : List Part) → Spells left ps → Spells (46 ∷ text) (done ++ ps)
  pub stuck : (bad : List ℕ) → IsStuck left bad → IsStuck (46 ∷ text) bad

pub begins : (S : Rows) (root : ℕ) (text : List ℕ) → IsWalked S root text (46 ∷ text) [] (Table root)
begins S root text = record { done = []; follows = (refl, refl); spells = λ ps h. h; stuck = λ bad h. h }

-- how much of a text is left behind what it begins with
abbrev pub left_of : Next → ℕ
left_of (APart piece rest) = suc (length rest.now)
left_of _ = 0

pub longer : (p : Part) (rest : List ℕ) → length rest < length (written p rest)
longer p rest = grind (arith, length-append)

pub shorter : (text : List ℕ) (next : Next) → IsNext text next → left_of next ≤ length text
shorter text next h = grind (arith, longer)

-- a step that misfits is a fault
pub misfit_fault : (S : Rows) (root : ℕ) (text : List ℕ) (m : Misfit) (n : ℕ) → Misfits S root text m n → IsFault S root text (fault_of m n)
misfit_fault S root text m n h = grind arith

pub misfits : (S : Rows) (root : ℕ) (text : List ℕ) (steps : List Step) (kind : Kind) (before after : List Part) (p : Part) (m : Misfit) → Spells (46 ∷ text) (before ++ p ∷ after) → Follows S (Table root) before steps kind → fitting S kind p ≡ Err m → Misfits S root text m (length before)
misfits S root text steps kind before after p m spells follows unfit =
    let (path, all) = spells_path text (before ++ p ∷ after) spells in
    record { name = path.name; parts = path.parts; reading = path.reading; before = before; part = p; after = after; all = all; number = refl; steps = steps; last = kind; follows = follows; unfit = unfit }

pub resolves : (S : Rows) (root : ℕ) (text : List ℕ) (steps : List Step) (kind : Kind) (ps : List Part) → Spells (46 ∷ text) ps → Follows S (Table root) ps steps kind → Resolves S root text steps
resolves S root text steps kind ps spells follows =
    let (path, all) = spells_path text ps spells in
    record { name = path.name; parts = path.parts; last = kind; reading = path.reading; follows = subst (λ qs. Follows S (Table root) qs steps kind) (sym all) follows }

pub leads_on : (S : Rows) (kind : Kind) (left rest : List ℕ) (piece : Piece) (x : Fitted) → IsLegal S → IsServed S → IsThere S kind → IsCut left piece rest → ((p : Part) → IsPieceOf p piece → Ok x ≡ fitting S kind p) → IsThere S x.kind
leads_on S kind left rest piece x legal served there c fits = (leads S legal served kind c.part x there (sym (fits c.part c.says))).there

-- neither a part nor anything else is left
pub ended : (left : List ℕ) (next : Next) → IsNext left next → ((piece : Piece) (rest : Bor (List ℕ)) → next ≡ APart piece rest → ⊥) → ((bad : Bor (List ℕ)) → next ≡ Wrong bad → ⊥) → left ≡ []
ended left next h part wrong = grind arith

module _ (S : Rows) (root : ℕ) (text left : List ℕ) (steps : List Step) (kind : Kind) (w : IsWalked S root text left steps kind) where
  -- What is cut off.
  module _ (piece : Piece) (rest : List ℕ) (c : IsCut left piece rest) where
    -- it fits
    pub goes_on : (x : Fitted) → ((p : Part) → IsPieceOf p piece → Ok x ≡ fitting S kind p) → IsWalked S root text rest (steps ++ x.step ∷ []) x.kind
    goes_on x fits = record {
      done = w.done ++ c.part ∷ [];
      follows = follows_more S (Table root) kind w.done steps c.part x w.follows (sym (fits c.part c.says));
      spells = λ ps h. subst (Spells (46 ∷ text)) (sym (append_assoc w.done (c.part ∷ []) ps)) (w.spells (c.part ∷ ps) (part_spells c.part ps left rest c.begins h));
      stuck = λ bad h. w.stuck bad (part_stuck c.part left rest bad c.begins h);
    }

    -- it doesn't, and parts follow, or none do
    pub is_fault : (n : ℕ) → n ≡ length steps → (m : Misfit) → ((p : Part) → IsPieceOf p piece → Err m ≡ fitting S kind p) → (ps : List Part) → Spells rest ps → IsFault S root text (fault_of m n)
    is_fault n same m unfit ps h = rw (same, as_many S (Table root) kind w.done steps w.follows) (misfit_fault S root text m (length w.done) (misfits S root text steps kind w.done ps c.part m (w.spells (c.part ∷ ps) (part_spells c.part ps left rest c.begins h)) w.follows (sym (unfit c.part c.says))))

    pub still_stuck : (bad : List ℕ) → IsStuck rest bad → IsStuck (46 ∷ text) bad
    still_stuck bad h = w.stuck bad (part_stuck c.part left rest bad c.begins h)

  -- nothing is left
  pub all_followed : left ≡ [] → Resolves S root text steps
  all_followed e = resolves S root text steps kind (w.done ++ []) (w.spells [] (record { are_parts = tt; spelled = e })) (subst (λ ps. Follows S (Table root) ps steps kind) (sym (append-nil w.done)) w.follows)

pub resolved_fits : (S : Rows) (root : ℕ) (text : List ℕ) (steps : List Step) → IsLegal S → IsServed S → IsThere S (Table root) → Resolves S root text steps → StepsFit S (Table root) steps
resolved_fits S root text steps legal served there r = steps_fit S legal served (Table root) r.last (field r.name ∷ r.parts) steps there r.follows
