-- At most one fault is the first, one trail leads to it, and one answer applies to a question.
use Rattle.std.proofs.Common.{◌≡◌, ℕ, ◌+◌, ◌-◌, ◌≤◌, ◌<◌, inl, inr, List, [], take, refl, sym, ◌∙◌, ap, arith, Ok, Err}
use Rattle.std.proofs.lemmas.{Bool.cases_order, List.take-take}
use Rattle.fb_schema.specs.{Rows.Rows, Live.Live, Live.live_fields}
use Rattle.fb_rules.specs.declared.{checks.Checks.Checks, start.Start.Start, start.Ident.Ident, fault.Fault.Fault, fault.Report.Report, link.Link.Link}
use Rattle.fb_rules.specs.{Bounds.Bounds, Question.Question, Places.target, Facts.IsTable, Fields.IsField, Fields.Entry, Fields.entries, Laws.StopsOnce, Laws.LeadsOneWay, Laws.HasOneVerdict}
use Rattle.fb_rules.specs.{WellFormed.base, WellFormed.start_reads, WellFormed.IsStart, Cost.own_reads, Cost.kids_cost, Cost.elements_cost}
use Rattle.fb_rules.specs.{Links.links_of, Links.StopsAlong, Verdict.Reports}
use Rattle.fb_rules.specs.Tree.{Kids, kids_length, Elements, elements_length}
use Rattle.fb_rules.specs.Way.{Way, way_to_start, way_to_root, way_to_field, way_to_element, way_to_table, StaysWithin}
use Rattle.fb_rules.specs.Stops.{Place, in_start, in_head, in_field, in_element, IsFalseAt, Trail, at_head, at_field, FieldTrail, at_own, at_element, ElementTrail, at_lead, through, IsLink, IsInField, IsTrail, IsFieldTrail, IsElementTrail, Stops}
use Rattle.fb_rules.proofs.{Budgets.fewer_reads, Budgets.not_both, Typed.get_take}
use Rattle.fb_rules.proofs.Overruns.{one_tree, one_kids, one_elements, start_overruns, head_overruns, own_overruns, no_lead_fault, kids_at, elements_at, not_past, field_overruns, element_overruns, kids_cost_take, elements_cost_take, stops_nowhere}

-- lists

module _ (c : Checks) (b : List ℕ) (S : Rows) (L : Bounds) where
  -- one place has one fault
  same_fault : (p : Place) (w : Way) (f g : Fault) → IsFalseAt c b S L p w f → IsFalseAt c b S L p w g → f ≡ g
  same_fault p w f g h i = cc

  -- the way of a trail stays within the limits from the beginning
  begins_within : (v w : Way) → StaysWithin v L → w.passed ≤ v.passed → w.deepest ≤ v.deepest → w.paid - w.leading ≤ v.paid - v.leading → StaysWithin w L
  begins_within v w h many deep paid = grind (arith, fewer_reads)

  mutual
    unfolding IsTrail IsFieldTrail IsElementTrail

    trail_within : (s : Trail) (k t : ℕ) (w : Way) (f : Fault) → IsTrail s c b S L k t w f → StaysWithin w L
    trail_within at_head k t w f h = h.within
    trail_within (at_field earlier s) k t w f h =
        let v = way_to_field c b S k t earlier h.0 w in begins_within v w (field_within s t h.0 v f h.2) (omega arith) (omega arith) (omega arith)

    field_within : (s : FieldTrail) (t : ℕ) (g : Live) (w : Way) (f : Fault) → IsFieldTrail s c b S L t g w f → StaysWithin w L
    field_within at_own t g w f h = h.within
    field_within (at_element before s) t g w f h =
        let v = way_to_element c b S t g before w in begins_within v w (element_within s h.0 v f h.2) (omega arith) (omega arith) (omega arith)

    element_within : (s : ElementTrail) (x : Entry) (w : Way) (f : Fault) → IsElementTrail s c b S L x w f → StaysWithin w L
    element_within at_lead x w f h = h.within
    element_within (through s) x w f h =
        let v = way_to_table x w in begins_within v w (trail_within s h.0 (target b x.place) v f h.3) (omega arith) (omega arith) (omega arith)

  -- a table that another trail opened isn't where a trail stops
  opened_head : (k t : ℕ) (w : Way) (earlier : Kids) (g : Live) (f : Fault) → IsTable c b t → StaysWithin (way_to_field c b S k t earlier g w) L → IsFalseAt c b S L (in_head k t) w f → ⊥
  opened_head k t w earlier g f h r i =
      not_past c b S L w _ _ _ _ f (head_overruns c b S L k t w f h i) (omega (arith, r.depth)) (omega (arith, r.tables)) (omega arith) r.reads

  -- nor is a field that another trail passed
  passed_field : (k t : ℕ) (w : Way) (e1 e2 : Kids) (g1 g2 : Live) (s : FieldTrail) (f : Fault) → kids_length e1 < kids_length e2 → IsLink c b S k t e1 g1 → IsLink c b S k t e2 g2 → StaysWithin (way_to_field c b S k t e2 g2 w) L → IsFieldTrail s c b S L t g1 (way_to_field c b S k t e1 g1 w) f → ⊥
  passed_field k t w e1 e2 g1 g2 s f lt h1 h2 r stops =
      let all = live_fields S k in
      let fs = take (kids_length e2) all in
      let a = kids_at c b S e1 e2 t fs g1 h2.passed (rw (take-take (kids_length e1) (kids_length e2) all (omega arith)) h1.passed) (get_take all (kids_length e1) (kids_length e2) lt ∙ h1.next) in
      let same = sym (kids_cost_take c b S e1 t fs) ∙ ap (λ xs. kids_cost e1 c b S t xs) (take-take (kids_length e1) (kids_length e2) all (omega arith)) ∙ kids_cost_take c b S e1 t all in
      let v = way_to_field c b S k t e1 g1 w in
      not_past c b S L v _ _ _ _ f (field_overruns c b S L s a.0 t g1 v f a.1 a.2 stops) (omega (arith, a.4, r.depth)) (omega (arith, a.3, r.tables)) (omega (arith, a.5, same, kids_cost_take c b S e2 t all)) r.reads

  -- nor is an element that another trail passed
  passed_element : (t : ℕ) (g : Live) (w : Way) (z1 z2 : Elements) (x1 x2 : Entry) (s : ElementTrail) (f : Fault) → elements_length z1 < elements_length z2 → IsInField c b S t g z1 x1 → IsInField c b S t g z2 x2 → StaysWithin (way_to_element c b S t g z2 w) L → IsElementTrail s c b S L x1 (way_to_element c b S t g z1 w) f → ⊥
  passed_element t g w z1 z2 x1 x2 s f lt h1 h2 r stops =
      let all = entries b S t g in
      let xs = take (elements_length z2) all in
      let a = elements_at c b S z1 z2 xs x1 h2.passed (rw (take-take (elements_length z1) (elements_length z2) all (omega arith)) h1.passed) (get_take all (elements_length z1) (elements_length z2) lt ∙ h1.next) in
      let same = sym (elements_cost_take c b S z1 xs) ∙ ap (λ ys. elements_cost z1 c b S ys) (take-take (elements_length z1) (elements_length z2) all (omega arith)) ∙ elements_cost_take c b S z1 all in
      let v = way_to_element c b S t g z1 w in
      not_past c b S L v _ _ _ _ f (element_overruns c b S L s a.0 x1 v f a.1 stops) (omega (arith, a.3, r.depth)) (omega (arith, a.2, r.tables)) (omega (arith, a.4, same, elements_cost_take c b S z2 all)) r.reads

  -- nor is a field of which another trail passed all tests
  passed_own : (t : ℕ) (x : Live) (w : Way) (z : Elements) (f : Fault) → IsField c b S t x → StaysWithin (way_to_element c b S t x z w) L → IsFalseAt c b S L (in_field t x) w f → ⊥
  passed_own t x w z f o r h = not_both L.reads (w.paid + own_reads b t x) _ (omega arith) r.reads (own_overruns c b S L t x w f o h).1

  mutual
    unfolding IsTrail IsFieldTrail IsElementTrail

    pub one_fault : (s r : Trail) (k t : ℕ) (w : Way) (f g : Fault) → IsTrail s c b S L k t w f → IsTrail r c b S L k t w g → (s ≡ r) × (f ≡ g)
    one_fault at_head at_head k t w f g h i = (refl, same_fault (in_head k t) w f g h i)
    one_fault at_head (at_field e r) k t w f g h i =
        absurd (opened_head k t w e i.0 f i.1.head (field_within r t i.0 (way_to_field c b S k t e i.0 w) g i.2) h)
    one_fault (at_field e s) at_head k t w f g h i =
        absurd (opened_head k t w e h.0 g h.1.head (field_within s t h.0 (way_to_field c b S k t e h.0 w) f h.2) i)
    one_fault (at_field e1 s) (at_field e2 r) k t w f g h i =
        elim (cases_order (kids_length e1) (kids_length e2)) [
          | inl same ↦
              let e : e2 ≡ e1 = one_kids c b S e2 e1 t (take (kids_length e2) (live_fields S k)) i.1.passed (rw same at h.1.passed) in
              let next : i.0 ≡ h.0 = cc in
              let on = one_field_fault s r t h.0 (way_to_field c b S k t e1 h.0 w) f g h.2 (rw (e, next) at i.2) in
              (ap (at_field e1) on.0 ∙ ap (λ y. at_field y r) (sym e), on.1)
          | inr o ↦ elim o [
            | inl lt ↦ absurd (passed_field k t w e1 e2 h.0 i.0 s f lt h.1 i.1 (field_within r t i.0 (way_to_field c b S k t e2 i.0 w) g i.2) h.2)
            | inr gt ↦ absurd (passed_field k t w e2 e1 i.0 h.0 r g gt i.1 h.1 (field_within s t h.0 (way_to_field c b S k t e1 h.0 w) f h.2) i.2)
          ]
        ]

    one_field_fault : (s r : FieldTrail) (t : ℕ) (x : Live) (w : Way) (f g : Fault) → IsFieldTrail s c b S L t x w f → IsFieldTrail r c b S L t x w g → (s ≡ r) × (f ≡ g)
    one_field_fault at_own at_own t x w f g h i = (refl, same_fault (in_field t x) w f g h i)
    one_field_fault at_own (at_element z r) t x w f g h i = absurd (passed_own t x w z f i.1.own (element_within r i.0 (way_to_element c b S t x z w) g i.2) h)
    one_field_fault (at_element z s) at_own t x w f g h i = absurd (passed_own t x w z g h.1.own (element_within s h.0 (way_to_element c b S t x z w) f h.2) i)
    one_field_fault (at_element z1 s) (at_element z2 r) t x w f g h i =
        elim (cases_order (elements_length z1) (elements_length z2)) [
          | inl same ↦
              let e : z2 ≡ z1 = one_elements c b S z2 z1 (take (elements_length z2) (entries b S t x)) i.1.passed (rw same at h.1.passed) in
              let next : i.0 ≡ h.0 = cc in
              let on = one_element_fault s r h.0 (way_to_element c b S t x z1 w) f g h.2 (rw (e, next) at i.2) in
              (ap (at_element z1) on.0 ∙ ap (λ y. at_element y r) (sym e), on.1)
          | inr o ↦ elim o [
            | inl lt ↦ absurd (passed_element t x w z1 z2 h.0 i.0 s f lt h.1 i.1 (element_within r i.0 (way_to_element c b S t x z2 w) g i.2) h.2)
            | inr gt ↦ absurd (passed_element t x w z2 z1 i.0 h.0 r g gt i.1 h.1 (element_within s h.0 (way_to_element c b S t x z1 w) f h.2) i.2)
          ]
        ]

    one_element_fault : (s r : ElementTrail) (x : Entry) (w : Way) (f g : Fault) → IsElementTrail s c b S L x w f → IsElementTrail r c b S L x w g → (s ≡ r) × (f ≡ g)
    one_element_fault at_lead at_lead x w f g h i = (refl, same_fault (in_element x) w f g h i)
    one_element_fault at_lead (through r) x w f g h i = absurd (no_lead_fault c b S L x i.0 w f i.1 i.2 h)
    one_element_fault (through s) at_lead x w f g h i = absurd (no_lead_fault c b S L x h.0 w g h.1 h.2 i)
    one_element_fault (through s) (through r) x w f g h i =
        let same : i.0 ≡ h.0 = cc in
        let on = one_fault s r h.0 (target b x.place) (way_to_table x w) f g h.3 (rw same at i.3) in
        (ap through on.0, on.1)

  -- nor is a start that another trail passed
  passed_start : (root t : ℕ) (start : Start) (ident : Ident) (s : Trail) (f g : Fault) → IsStart c b start ident → IsTrail s c b S L root t (way_to_root root start ident) g → IsFalseAt c b S L (in_start start ident) (way_to_start root) f → ⊥
  passed_start root t start ident s f g o i h =
      not_both L.reads ((way_to_start root).paid + start_reads start ident) _ (omega arith) (trail_within s root t (way_to_root root start ident) g i).reads (start_overruns c b S L start ident (way_to_start root) f o h)

-- of a whole buffer
one_way : (q : Question) (b : List ℕ) (f g : Fault) (xs ys : List Link) → StopsAlong q b f xs → StopsAlong q b g ys → (f ≡ g) × (xs ≡ ys)
one_way q b f g xs ys (inl h) (inl i) = (same_fault q.checks b q.rows q.limits (in_start q.start q.ident) (way_to_start q.root) f g h.0 i.0, h.1 ∙ sym i.1)
one_way q b f g xs ys (inl h) (inr i) = absurd (passed_start q.checks b q.rows q.limits q.root (target b (base q.start)) q.start q.ident i.1.0 f g i.0 i.1.1 h.0)
one_way q b f g xs ys (inr h) (inl i) = absurd (passed_start q.checks b q.rows q.limits q.root (target b (base q.start)) q.start q.ident h.1.0 g f h.0 h.1.1 i.0)
one_way q b f g xs ys (inr h) (inr i) =
    let r = one_fault q.checks b q.rows q.limits h.1.0 i.1.0 q.root (target b (base q.start)) (way_to_root q.root q.start q.ident) f g h.1.1 i.1.1 in
    (r.1, sym h.1.2 ∙ ap (λ s. links_of s b q.rows q.root (target b (base q.start))) r.0 ∙ i.1.2)

along : (q : Question) (b : List ℕ) (f : Fault) → Stops q b f → (links : List Link) × StopsAlong q b f links
along q b f (inl h) = ([], inl (h, refl))
along q b f (inr h) = (_, inr (h.0, (h.1.0, h.1.1, refl)))

pub stops_once : StopsOnce
stops_once q b f g h i = (one_way q b f g _ _ (along q b f h).1 (along q b g i).1).0

pub leads_one_way : LeadsOneWay
leads_one_way q b f g xs ys h i = (one_way q b f g xs ys h i).1

-- two reports count the same tree
one_report : (q : Question) (b : List ℕ) (r s : Report) → Reports q b r → Reports q b s → r ≡ s
one_report q b r s g h =
    let same : g.found ≡ h.found = one_tree q.checks b q.rows g.found h.found q.root (target b (base q.start)) g.well_formed.unfolds h.well_formed.unfolds in
    grind arith

pub one_verdict : HasOneVerdict
one_verdict q b (Ok r) (Ok s) g h = ap Ok (one_report q b r s g h)
one_verdict q b (Ok r) (Err f) g h = absurd (stops_nowhere q b g.found f g.well_formed g.within h)
one_verdict q b (Err f) (Ok r) g h = absurd (stops_nowhere q b h.found f h.well_formed h.within g)
one_verdict q b (Err f) (Err e) g h = ap Err (stops_once q b f e g h)
