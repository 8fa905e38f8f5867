-- One more at the end of the elements of a field, and of the fields of a table.
use Rattle.std.proofs.Common.{◌≡◌, ℕ, zero, suc, ◌+◌, ◌≤◌, max, List, [], ◌∷◌, ◌++◌, length, take, drop, refl, sym, ◌∙◌, ap, arith, Some}
use Rattle.std.proofs.{Math.Seq.drop-nil, lemmas.List.append-nil, lemmas.List.take-append-drop, lemmas.List.take_all as take_whole}
use Rattle.std.specs.Prelude.{slice_get}
use Rattle.fb_schema.specs.{Rows.Rows, Live.Live}
use Rattle.fb_rules.specs.{Fields.IsField, Fields.Entry, Fields.entries, Unfolds.FieldsUnfold, Unfolds.ElementsUnfold, Unfolds.ElementUnfolds}
use Rattle.fb_rules.specs.Tree.{Kids, no_kids, kid, Elements, no_elements, element, Element, kids_size, elements_size, element_size, kids_depth, elements_depth, element_depth, kids_length}
use Rattle.fb_rules.specs.{Tree.elements_length, Cost.own_reads, Cost.lead_reads, Cost.kids_cost, Cost.elements_cost, Cost.element_cost, declared.checks.Checks.Checks}

unfoldable pub elements_push : Elements → Element → Elements
elements_push no_elements y = element y no_elements
elements_push (element x ys) y = element x (elements_push ys y)

unfoldable pub kids_push : Kids → Elements → Kids
kids_push no_kids ys = kid ys no_kids
kids_push (kid xs kids) ys = kid xs (kids_push kids ys)

-- what one more adds to the size, the depth and the length
pub elements_pushed : (ys : Elements) (y : Element)
    → (elements_size (elements_push ys y) ≡ elements_size ys + element_size y) × (elements_depth (elements_push ys y) ≡ max (elements_depth ys) (element_depth y)) × (elements_length (elements_push ys y) ≡ suc (elements_length ys))
unfolding elements_size elements_depth elements_length elements_push
elements_pushed no_elements y = (omega arith, omega arith, refl)
elements_pushed (element x ys) y = let h = elements_pushed ys y in (omega (arith, h.0), omega (arith, h.1), ap suc h.2)

pub kids_pushed : (kids : Kids) (ys : Elements)
    → (kids_size (kids_push kids ys) ≡ kids_size kids + elements_size ys) × (kids_depth (kids_push kids ys) ≡ max (kids_depth kids) (elements_depth ys)) × (kids_length (kids_push kids ys) ≡ suc (kids_length kids))
unfolding kids_size kids_depth kids_length kids_push
kids_pushed no_kids ys = (omega arith, omega arith, refl)
kids_pushed (kid xs kids) ys = let h = kids_pushed kids ys in (omega (arith, h.0), omega (arith, h.1), ap suc h.2)

-- what is at a place is the first of what is left from there
pub front_of : {A : Type 0} (xs : List A) (n : ℕ) (x : A) (ys : List A) → drop n xs ≡ x ∷ ys → slice_get xs n ≡ Some x
front_of (z ∷ xs) zero x ys h = let e : z ≡ x = cc in ap Some e
front_of (z ∷ xs) (suc n) x ys h = front_of xs n x ys h
front_of [] n x ys h = let e : [] ≡ x ∷ ys = sym (drop-nil n) ∙ h in absurd cc

pub rest_of : {A : Type 0} (xs : List A) (n : ℕ) (x : A) (ys : List A) → drop n xs ≡ x ∷ ys → drop (suc n) xs ≡ ys
rest_of (z ∷ xs) zero x ys h = cc
rest_of (z ∷ xs) (suc n) x ys h = rest_of xs n x ys h
rest_of [] n x ys h = let e : [] ≡ x ∷ ys = sym (drop-nil n) ∙ h in absurd cc

-- nothing is left
pub all_of : {A : Type 0} (xs : List A) (n : ℕ) → drop n xs ≡ [] → take n xs ≡ xs
all_of xs n h = sym (append-nil (take n xs)) ∙ ap (λ ys. take n xs ++ ys) (sym h) ∙ take-append-drop n xs

pub take_all : {A : Type 0} (xs : List A) (n : ℕ) → length xs ≤ n → take n xs ≡ xs
take_all xs n h = take_whole n xs h

module _ (c : Checks) (b : List ℕ) (S : Rows) where
  pub ElementsUnfold-push : (ys : Elements) (xs : List Entry) (y : Element) (x : Entry) → ElementsUnfold ys c b S (take (elements_length ys) xs) → slice_get xs (elements_length ys) ≡ Some x → ElementUnfolds y c b S x.place x.lead
      → ElementsUnfold (elements_push ys y) c b S (take (suc (elements_length ys)) xs)
  unfolding ElementsUnfold elements_push elements_length
  ElementsUnfold-push no_elements (z ∷ xs) y x h g u = let e : x ≡ z = cc in (rw e at u, tt)
  ElementsUnfold-push (element z ys) (e ∷ xs) y x h g u = (h.0, ElementsUnfold-push ys xs y x h.1 g u)
  ElementsUnfold-push ys xs y x h g u = absurd (grind arith)

  pub elements_cost-push : (ys : Elements) (xs : List Entry) (y : Element) (x : Entry) → slice_get xs (elements_length ys) ≡ Some x
      → elements_cost (elements_push ys y) c b S xs ≡ elements_cost ys c b S xs + (x.reads + lead_reads x.lead + element_cost y c b S)
  unfolding elements_cost elements_push elements_length
  elements_cost-push no_elements (z ∷ xs) y x g = let e : z ≡ x = cc in rw e (omega arith)
  elements_cost-push (element z ys) (e ∷ xs) y x g = omega (arith, elements_cost-push ys xs y x g)
  elements_cost-push ys xs y x g = absurd (cc)

  pub FieldsUnfold-push : (t : ℕ) (kids : Kids) (fs : List Live) (ys : Elements) (f : Live) → FieldsUnfold kids c b S t (take (kids_length kids) fs) → slice_get fs (kids_length kids) ≡ Some f
      → IsField c b S t f → ElementsUnfold ys c b S (entries b S t f) → FieldsUnfold (kids_push kids ys) c b S t (take (suc (kids_length kids)) fs)
  unfolding FieldsUnfold kids_push kids_length
  FieldsUnfold-push t no_kids (z ∷ fs) ys f h g o u = let e : f ≡ z = cc in (rw e at o, rw e at u, tt)
  FieldsUnfold-push t (kid xs kids) (z ∷ fs) ys f h g o u = (h.0, h.1, FieldsUnfold-push t kids fs ys f h.2 g o u)
  FieldsUnfold-push t kids fs ys f h g o u = absurd (grind arith)

  pub kids_cost-push : (t : ℕ) (kids : Kids) (fs : List Live) (ys : Elements) (f : Live) → slice_get fs (kids_length kids) ≡ Some f
      → kids_cost (kids_push kids ys) c b S t fs ≡ kids_cost kids c b S t fs + (own_reads b t f + elements_cost ys c b S (entries b S t f))
  unfolding kids_cost kids_push kids_length
  kids_cost-push t no_kids (z ∷ fs) ys f g = let e : z ≡ f = cc in rw e (omega arith)
  kids_cost-push t (kid xs kids) (z ∷ fs) ys f g = omega (arith, kids_cost-push t kids fs ys f g)
  kids_cost-push t kids fs ys f g = absurd (cc)
