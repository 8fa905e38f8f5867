-- Every table of a strict tree meets the demands of each of its fields.
use Rattle.std.proofs.Common.{◌≡◌, inl, inr, ℕ, List, Option, refl}
use Rattle.fb_schema.specs.{declared.kinds.Kind.Kind, declared.kinds.Kind.TheVariants.Union, declared.kinds.Kind.TheVariants.Unions, Rows.Rows}
use Rattle.fb_rules.specs.{declared.checks.Checks.Checks, Places.field_place, Fields.type_place, Tree.Tree, Tree.node, Tree.Kids, Tree.no_kids, Tree.kid, Tree.Elements}
use Rattle.fb_rules.specs.Tree.{no_elements, element, Element, leaf, table}
use Rattle.fb_strict.specs.{Demanded.Demanded, Strict.LeadsInside, Strict.IsStrict, Strict.KidsAreStrict, Strict.ElementsAreStrict, Strict.ElementIsStrict, Strict.HasStrictUnions}
use Rattle.fb_strict.specs.{Strict.IsStrictTable, Readers.HasNode, Readers.KidsHave, Readers.ElementsHave, Readers.ElementHas, Readers.MayFollow, Readers.TablesLaw}
use Rattle.fb_strict.specs.Readers.{ValuesLaw, ElementsLaw, TextsLaw, SlotsLaw}

module _ (D : Demanded) (c : Checks) (b : List ℕ) (S : Rows) where
  module _ (k t : ℕ) where
    mutual
      unfolding IsStrict KidsAreStrict ElementsAreStrict ElementIsStrict HasNode KidsHave ElementsHave ElementHas

      pub node_met : (y : Tree) → IsStrict y D c b S → HasNode y k t → IsStrictTable D c b S k t
      node_met (node k' t' kids) h (inl e) = rw (e.0, e.1) at h.0
      node_met (node k' t' kids) h (inr n) = kids_met kids h.1 n

      kids_met : (kids : Kids) → KidsAreStrict kids D c b S → KidsHave kids k t → IsStrictTable D c b S k t
      kids_met no_kids h n = absurd n
      kids_met (kid ys kids) h (inl n) = elements_met ys h.0 n
      kids_met (kid ys kids) h (inr n) = kids_met kids h.1 n

      elements_met : (ys : Elements) → ElementsAreStrict ys D c b S → ElementsHave ys k t → IsStrictTable D c b S k t
      elements_met no_elements h n = absurd n
      elements_met (element y ys) h (inl n) = element_met y h.0 n
      elements_met (element y ys) h (inr n) = elements_met ys h.1 n

      element_met : (y : Element) → ElementIsStrict y D c b S → ElementHas y k t → IsStrictTable D c b S k t
      element_met leaf h n = absurd n
      element_met (table y) h n = node_met y h n

  mutual
    unfolding IsStrict KidsAreStrict ElementsAreStrict ElementIsStrict HasNode KidsHave ElementsHave ElementHas

    node_strict : (y : Tree) → ((k t : ℕ) → HasNode y k t → IsStrictTable D c b S k t) → IsStrict y D c b S
    node_strict (node k t kids) h = (h k t (inl (refl, refl)), kids_strict kids (λ k' t' n. h k' t' (inr n)))

    kids_strict : (kids : Kids) → ((k t : ℕ) → KidsHave kids k t → IsStrictTable D c b S k t) → KidsAreStrict kids D c b S
    kids_strict no_kids h = tt
    kids_strict (kid ys kids) h = (elements_strict ys (λ k t n. h k t (inl n)), kids_strict kids (λ k t n. h k t (inr n)))

    elements_strict : (ys : Elements) → ((k t : ℕ) → ElementsHave ys k t → IsStrictTable D c b S k t) → ElementsAreStrict ys D c b S
    elements_strict no_elements h = tt
    elements_strict (element y ys) h = (element_strict y (λ k t n. h k t (inl n)), elements_strict ys (λ k t n. h k t (inr n)))

    element_strict : (y : Element) → ((k t : ℕ) → ElementHas y k t → IsStrictTable D c b S k t) → ElementIsStrict y D c b S
    element_strict leaf h = tt
    element_strict (table y) h = node_strict y h

  may_follow : (p : ℕ) → LeadsInside c b p → MayFollow b p
  may_follow p h = record { within = (h.offset).within; inside = h.inside }

  of_union : (e : ℕ) (types place : Option ℕ) (kind : Kind) → kind ≡ Union e → HasStrictUnions c b S types place kind → HasStrictUnions c b S types place (Union e)
  of_union e types place kind is h = rw is at h

  of_unions : (e : ℕ) (types place : Option ℕ) (kind : Kind) → kind ≡ Unions e → HasStrictUnions c b S types place kind → HasStrictUnions c b S types place (Unions e)
  of_unions e types place kind is h = rw is at h

pub tables_met : TablesLaw
tables_met y D c b S = ((λ h k t n. node_met D c b S k t y h n), node_strict D c b S y)

pub value_inside : ValuesLaw
value_inside y D c b S asked h k t i f e p n at is place none =
    let met = ((node_met D c b S k t y h n).fields i f at).unions asked in
    may_follow D c b S p ((of_union D c b S e (type_place b t f.slot) (field_place b t f.slot) f.kind is met).leads p place none)

pub element_inside : ElementsLaw
element_inside y D c b S asked h k t i f e p j n at is place lt typed none =
    let met = ((node_met D c b S k t y h n).fields i f at).unions asked in
    may_follow D c b S _ ((of_unions D c b S e (type_place b t f.slot) (field_place b t f.slot) f.kind is met).leads p j place lt typed none)

pub texts_utf8 : TextsLaw
texts_utf8 y D c b S asked h k t i f n at = ((node_met D c b S k t y h n).fields i f at).texts asked

pub slots_known : SlotsLaw
slots_known y D c b S asked h k t n = (node_met D c b S k t y h n).known asked
