-- The last link to a fault is to the field that it names.
use Rattle.std.proofs.Common.{◌≡◌, ℕ, ◌⊎◌, inl, inr, List, [], ◌∷◌, refl, sym, ap, subst, arith, Some}
use Rattle.std.proofs.lemmas.Bool.Decides.{nat_tests}
use Rattle.fb_schema.specs.{Rows.Rows, Live.Live}
use Rattle.fb_rules.specs.{declared.checks.Checks.Checks, declared.fault.Fault.Fault, declared.link.Link.Link, Bounds.Bounds, Places.target, Fields.Entry, Tree.elements_length}
use Rattle.fb_rules.specs.{WellFormed.base, Laws.EndIn, Laws.LinksEndInField, Way.Way, Way.way_to_root, Way.way_to_field, Way.way_to_element, Way.way_to_table, Stops.Place}
use Rattle.fb_rules.specs.Stops.{in_head, in_field, in_element, fault_at, IsFalseAt, Trail, at_head, at_field, FieldTrail, at_own, at_element, ElementTrail, at_lead, through}
use Rattle.fb_rules.specs.{Stops.IsTrail, Stops.IsFieldTrail, Stops.IsElementTrail, Links.field_link, Links.element_link, Links.object_led_to, Links.links_of, Links.links_in_field}
use Rattle.fb_rules.specs.Links.{links_in_element}

-- no link is left of a fault that names the field by which its table was come to, or the last is to the field that it
-- names
abbrev EndWell : Way → Fault → ℕ → List Link → Type 0
EndWell w f n links = ((links ≡ []) × (w.object ≡ f.object) × (w.field ≡ Some n)) ⊎ EndIn f.object n links

module _ (c : Checks) (b : List ℕ) (S : Rows) (L : Bounds) (f : Fault) (n : ℕ) (field_is : f.field ≡ Some n) where
  -- a fault has the object and field of the way; one in a head that names a field is a limit of tables
  at_end : (p : Place) (w : Way) → IsFalseAt c b S L p w f → EndWell w f n []
  unfolding fault_at
  at_end p w h = grind (arith, nat_tests)

  -- one link more at the front
  one_more : (link : Link) (links : List Link) (w : Way) → w.object ≡ link.object → w.field ≡ Some link.field → EndWell w f n links → EndIn f.object n (link ∷ links)
  one_more link links w object field (inl h) = record { before = []; last = link; all = cc; object_is = cc; field_is = cc }
  one_more link links w object field (inr h) = record { before = link ∷ h.before; last = h.last; all = cc; object_is = h.object_is; field_is = h.field_is }

  mutual
    unfolding IsTrail IsFieldTrail IsElementTrail links_of links_in_field links_in_element

    trail_ends : (s : Trail) (k t : ℕ) (w : Way) → IsTrail s c b S L k t w f → EndWell w f n (links_of s b S k t)
    trail_ends at_head k t w h = at_end (in_head k t) w h
    trail_ends (at_field earlier s) k t w h =
        subst (λ g. EndWell w f n (links_in_field s b S k t g)) (sym h.1.next) (inr (field_ends s k t h.0 (way_to_field c b S k t earlier h.0 w) refl refl h.2))

    field_ends : (s : FieldTrail) (k t : ℕ) (g : Live) (w : Way) → w.object ≡ k → w.field ≡ Some g.number → IsFieldTrail s c b S L t g w f → EndIn f.object n (links_in_field s b S k t (Some g))
    field_ends at_own k t g w object field h = one_more (field_link k g) [] w object field (at_end (in_field t g) w h)
    field_ends (at_element before s) k t g w object field h =
        let link = element_link b k t g (elements_length before) in
        subst (λ x. EndIn f.object n (link ∷ links_in_element s b S x)) (sym h.1.next)
        (one_more link (links_in_element s b S (Some h.0)) (way_to_element c b S t g before w) object field (element_ends s h.0 (way_to_element c b S t g before w) h.2))

    element_ends : (s : ElementTrail) (x : Entry) (w : Way) → IsElementTrail s c b S L x w f → EndWell w f n (links_in_element s b S (Some x))
    element_ends at_lead x w h = at_end (in_element x) w h
    element_ends (through s) x w h =
        subst (λ k. EndWell w f n (links_of s b S k (target b x.place))) (sym (ap object_led_to h.1)) (from_table (trail_ends s h.0 (target b x.place) (way_to_table x w) h.3)) where
          from_table : {links : List Link} → EndWell (way_to_table x w) f n links → EndWell w f n links
          from_table e = e

pub links_end_in_field : LinksEndInField
unfolding fault_at
links_end_in_field q b f links n (inl h) field_is = let first = h.0.first in absurd (grind arith)
links_end_in_field q b f links n (inr h) field_is =
    let t = target b (base q.start) in
    elim (trail_ends q.checks b q.rows q.limits f n field_is h.1.0 q.root t (way_to_root q.root q.start q.ident) h.1.1) [
      | inl e ↦ absurd (cc)
      | inr e ↦ subst (EndIn f.object n) h.1.2 e
    ]
