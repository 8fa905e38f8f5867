-- The steps of a walk in one table.
use Rattle.std.proofs.Common.{◌≡◌, ℕ, suc, ◌+◌, ◌≤◌, List, [], ◌∷◌, length, take, refl, sym, ◌∙◌, ap, subst, arith, Some, None}
use Rattle.std.specs.Prelude.{slice_get}
use Rattle.fb_schema.specs.{Rows.Rows, Live.Live, Live.live_fields}
use Rattle.fb_rules.specs.{Bounds.Bounds, Places.target, Facts.IsTable, Fields.IsField, Fields.to_table, Fields.Entry, Fields.entries, Tree.node, Tree.no_kids, Tree.no_elements}
use Rattle.fb_rules.specs.Tree.{Element, table, size, kids_size, elements_size, element_size, depth, kids_depth, elements_depth, element_depth, kids_length, elements_length}
use Rattle.fb_rules.specs.Unfolds.{Unfolds, FieldsUnfold, ElementsUnfold, ElementUnfolds}
use Rattle.fb_rules.specs.{Cost.own_reads, Cost.lead_reads, Cost.tree_cost, Cost.kids_cost, Cost.elements_cost, Cost.element_cost, Way.Way, Way.paying, Way.opening, Way.passing}
use Rattle.fb_rules.specs.Stops.{in_head, in_field, in_element, IsFalseAt, at_head, at_field, at_own, at_element, at_lead, through, IsTrail, ElementTrail, IsElementTrail}
use Rattle.fb_rules.specs.Links.{field_link, element_link, object_led_to, links_of, links_in_field, links_in_element, LeadsAlong}
use Rattle.fb_rules.specs.declared.{checks.Checks.Checks, fault.Fault.Fault, link.Link.Link}
use Rattle.fb_verify.specs.Walked.{at_number, TableWalked, IsInside, IsInField, Waits}
use Rattle.fb_verify.proofs.Pushes.{elements_push, kids_push, elements_pushed, kids_pushed, front_of, rest_of, all_of, take_all, ElementsUnfold-push, elements_cost-push, FieldsUnfold-push}
use Rattle.fb_verify.proofs.Pushes.{kids_cost-push}

-- two ways are one where their parts are
pub same_way : (v w : Way) → v.links ≡ w.links → v.passed ≡ w.passed → v.deepest ≡ w.deepest → v.paid ≡ w.paid → v.leading ≡ w.leading → v.object ≡ w.object → v.field ≡ w.field → v ≡ w
same_way v w a b c d e f g = grind arith

module _ (c : Checks) (b : List ℕ) (S : Rows) (k t : ℕ) (w : Way) where
  -- the depth reached counts the open tables
  pub inside_deep : (i : ℕ) (v : Way) → IsInside c b S k t w i v → v.links ≤ v.deepest
  inside_deep i v h = rw h.after (omega arith)

  pub field_deep : (next number : ℕ) (left : List Entry) (v : Way) → IsInField c b S k t w next number left v → v.links ≤ v.deepest
  field_deep next number left v h = rw h.after (omega arith)

  -- a table is opened
  pub opened : IsTable c b t → IsInside c b S k t w 0 (opening c k w)
  unfolding FieldsUnfold kids_length kids_size kids_depth kids_cost
  opened h = record {
    earlier = no_kids;
    head = h;
    count = refl;
    passed = tt;
    after = same_way _ _ refl (omega arith) (omega arith) (omega arith) refl refl refl;
  }

  -- a field holds by itself
  pub entered : (i : ℕ) (v : Way) (field : Live) → IsInside c b S k t w i v → slice_get (live_fields S k) i ≡ Some field → IsField c b S t field
      → IsInField c b S k t w (i + 1) field.number (entries b S t field) (paying (own_reads b t field) (at_number (Some field.number) v))
  unfolding ElementsUnfold elements_length elements_size elements_depth elements_cost
  entered i v field h g o =
      let d = inside_deep i v h in
      record {
        i = i;
        outer = v;
        inside = h;
        next_is = refl;
        field = field;
        found = g;
        number_is = refl;
        own = o;
        before = no_elements;
        passed = tt;
        left_is = refl;
        after = same_way _ _ refl (omega arith) (omega (arith, d)) (omega arith) (ap (λ x. x.leading) h.after) refl refl;
      }

  -- a uoffset is passed with what it leads to
  pub passed_on : (next number : ℕ) (x : Entry) (xs : List Entry) (v u : Way) (y : Element) → IsInField c b S k t w next number (x ∷ xs) v → ElementUnfolds y c b S x.place x.lead
      → u ≡ passing (element_size y) (element_depth y) (x.reads + lead_reads x.lead + element_cost y c b S) v → IsInField c b S k t w next number xs u
  passed_on next number x xs v u y h g e =
      let es = entries b S t h.field in
      let f = front_of es (elements_length h.before) x xs h.left_is in
      let (s, d, l) = elements_pushed h.before y in
      let r = elements_cost-push c b S h.before es y x f in
      let o = at_number (Some (h.field).number) h.outer in
      record {
        i = h.i;
        outer = h.outer;
        inside = h.inside;
        next_is = h.next_is;
        field = h.field;
        found = h.found;
        number_is = h.number_is;
        own = h.own;
        before = elements_push h.before y;
        passed = rw l (ElementsUnfold-push c b S h.before es y x h.passed f g);
        left_is = rw l (rest_of es (elements_length h.before) x xs h.left_is);
        after = e ∙ rw h.after (same_way _ _ refl (omega (arith, s)) (omega (arith, d)) (omega (arith, r)) refl refl refl);
      }

  -- nothing is left of the field
  pub field_done : (next number : ℕ) (v : Way) → IsInField c b S k t w next number [] v → IsInside c b S k t w next (at_number None v)
  field_done next number v h =
      let i = h.inside in
      let fs = live_fields S k in
      let es = entries b S t h.field in
      let (s, d, l) = kids_pushed i.earlier h.before in
      let f : slice_get fs (kids_length i.earlier) ≡ Some h.field = rw i.count h.found in
      let r = kids_cost-push c b S t i.earlier fs h.before h.field f in
      let n : next ≡ suc (kids_length i.earlier) = omega (arith, h.next_is, i.count) in
      let p : FieldsUnfold i.earlier c b S t (take (kids_length i.earlier) fs) = rw i.count i.passed in
      let u : ElementsUnfold h.before c b S es = rw (all_of es (elements_length h.before) h.left_is) at h.passed in
      record {
        earlier = kids_push i.earlier h.before;
        head = i.head;
        count = l ∙ sym n;
        passed = rw n (FieldsUnfold-push c b S t i.earlier fs h.before h.field p f h.own u);
        after = rw (h.after, i.after) (same_way _ _ refl (omega (arith, s)) (omega (arith, d)) (omega (arith, r)) refl refl refl);
      }

  -- all fields are passed
  pub closed : (i : ℕ) (v u : Way) → IsInside c b S k t w i v → length (live_fields S k) ≤ i → u ≡ record v { links = w.links; object = w.object; field = w.field } → TableWalked c b S k t w u
  unfolding Unfolds size depth tree_cost
  closed i v u h l e = record {
    found = node k t h.earlier;
    unfolds = (refl, refl, h.head, rw (take_all (live_fields S k) i l) at h.passed);
    after = e ∙ rw h.after (same_way _ _ refl (omega arith) (omega arith) (omega arith) refl refl refl);
  }

  -- the table was walked
  pub resumed : (next number : ℕ) (xs : List Entry) (k' t' : ℕ) (u v : Way) → Waits c b S k t w next number xs k' t' u → TableWalked c b S k' t' u v → IsInField c b S k t w next number xs v
  unfolding ElementUnfolds element_size element_depth element_cost
  resumed next number xs k' t' u v h g =
      let y = table g.found in
      let r : lead_reads (h.x).lead ≡ 1 = rw h.leads refl in
      let unfolds : ElementUnfolds y c b S (h.x).place (to_table k') = (h.offset, rw h.place at g.unfolds) in
      passed_on next number h.x xs h.v v y h.in_field (subst (λ lead. ElementUnfolds y c b S (h.x).place lead) (sym h.leads) unfolds) (g.after ∙ rw h.after (same_way _ _ refl refl refl (omega (arith, r)) refl refl refl))

  -- Where it stops.
  module _ (L : Bounds) (f : Fault) where
    -- at the head
    pub stops_at_head : IsFalseAt c b S L (in_head k t) w f → LeadsAlong c b S L k t w f []
    unfolding IsTrail links_of
    stops_at_head h = (at_head, h, refl)

    -- at a field's own tests
    pub stops_at_field : (i : ℕ) (v : Way) (field : Live) → IsInside c b S k t w i v → slice_get (live_fields S k) i ≡ Some field → IsFalseAt c b S L (in_field t field) (at_number (Some field.number) v) f → LeadsAlong c b S L k t w f (field_link k field ∷ [])
    unfolding IsTrail links_of
    stops_at_field i v field h g p =
        let next : slice_get (live_fields S k) (kids_length h.earlier) ≡ Some field = rw h.count g in
        (at_field h.earlier at_own, (field, record { head = h.head; passed = rw h.count h.passed; next = next }, rw h.after at p), ap (links_in_field at_own b S k t) next)

    -- at a uoffset or further on
    stops_in_element : (next number : ℕ) (x : Entry) (xs : List Entry) (v : Way) (s : ElementTrail) (h : IsInField c b S k t w next number (x ∷ xs) v) → IsElementTrail s c b S L x v f
        → LeadsAlong c b S L k t w f (element_link b k t h.field (elements_length h.before) ∷ links_in_element s b S (Some x))
    unfolding IsTrail links_of
    stops_in_element next number x xs v s h p =
        let i = h.inside in
        let p' = rw h.after at p in
        let here : slice_get (live_fields S k) (kids_length i.earlier) ≡ Some h.field = rw i.count h.found in
        let word = front_of (entries b S t h.field) (elements_length h.before) x xs h.left_is in (
          at_field i.earlier (at_element h.before s),
          (
            h.field,
            record { head = i.head; passed = rw i.count i.passed; next = here },
            (
              x,
              record { own = h.own; passed = h.passed; next = word },
              rw i.after at p',
            ),
          ),
          ap (links_in_field (at_element h.before s) b S k t) here ∙ ap (λ e. element_link b k t h.field (elements_length h.before) ∷ links_in_element s b S e) word,
        )

    -- at a uoffset
    pub stops_at_element : (next number : ℕ) (x : Entry) (xs : List Entry) (v : Way) (h : IsInField c b S k t w next number (x ∷ xs) v) → IsFalseAt c b S L (in_element x) v f
        → LeadsAlong c b S L k t w f (element_link b k t h.field (elements_length h.before) ∷ [])
    unfolding IsElementTrail links_in_element
    stops_at_element next number x xs v h p = stops_in_element next number x xs v at_lead h p

    -- in the table to which it leads
    pub stops_below : (next number : ℕ) (xs : List Entry) (k' t' : ℕ) (u : Way) (h : Waits c b S k t w next number xs k' t' u) (links : List Link) → LeadsAlong c b S L k' t' u f links
        → LeadsAlong c b S L k t w f (element_link b k t (h.in_field).field (elements_length (h.in_field).before) ∷ links)
    unfolding IsElementTrail links_in_element
    stops_below next number xs k' t' u h links s =
        let r = stops_in_element next number h.x xs h.v (through s.0) h.in_field (k', h.leads, h.offset, rw (h.place, h.after) at s.1) in
        let led = ap (λ lead. links_of s.0 b S (object_led_to lead) (target b (h.x).place)) h.leads ∙ ap (links_of s.0 b S k') (sym h.place) ∙ s.2 in
        (r.0, r.1, r.2 ∙ ap (λ xs. element_link b k t (h.in_field).field (elements_length (h.in_field).before) ∷ xs) led)
