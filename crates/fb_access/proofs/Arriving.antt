-- The links to a fault lead to what is under check.
use Rattle.std.proofs.Common.{◌≡◌, ℕ, ◌+◌, ◌*◌, ◌<◌, ◌^◌, ◌==◌, if◌then◌else◌, List, [], ◌∷◌, ◌++◌, length, slice_get, decimal, option_map, option_and_then, IsTrue, Option, Some, None, Ok, append-nil, refl, sym, ◌∙◌, ap, subst, arith, codes, inl, inr}
use Rattle.std.proofs.lemmas.{Bool.cond-true, Bool.Decides.Decides-eqb}
use Rattle.fb_bytes.specs.Word.{word}
use Rattle.fb_schema.specs.declared.kinds.Kind.{Kind, TheVariants.Text, TheVariants.Table, TheVariants.Union, TheVariants.Texts, TheVariants.Tables, TheVariants.Unions}
use Rattle.fb_schema.specs.{Demands.IsLegal, Live.Live, Live.live_fields, Members.member_of, Members.member_name, Rows.Rows, Rows.is_union, Served.KindHolds, Served.IsServed}
use Rattle.fb_rules.specs.declared.{checks.Checks.Checks, start.Start.Start, start.Ident.Ident, fault.Fault.Fault, link.Link.Link}
use Rattle.fb_rules.specs.{Bounds.Bounds, Question.question, Places.target, Places.field_place, Tree.kids_length, Tree.elements_length, WellFormed.base}
use Rattle.fb_rules.specs.Fields.{type_place, union_type, types_begin, IsVectorField, IsPresent, IsPresentOrAbsent, IsField, Lead, to_table, to_string, lead_of, Entry, entry, entries_of, entries_at, entries}
use Rattle.fb_rules.specs.Way.{Way, way_to_start, way_to_root, way_to_field, way_to_element, way_to_table}
use Rattle.fb_rules.specs.Stops.{in_start, in_head, in_field, in_element, Trail, at_head, at_field, FieldTrail, at_own, at_element, ElementTrail, at_lead, through, IsTrail, IsFieldTrail, IsElementTrail}
use Rattle.fb_rules.specs.Links.{element_of, type_of, field_link, element_link, object_led_to, links_of, links_in_field, links_in_element}
use Rattle.fb_access.specs.declared.{step.Step.Step, step.Step.TheVariants.Field, step.Step.TheVariants.Element, step.Step.TheVariants.Member, spot.Spot.Spot, misfit.Fitted.Fitted}
use Rattle.fb_access.specs.declared.spot.Spot.TheVariants.{AtTable, AtText, AtUnion, AtOtherMember}
use Rattle.fb_access.specs.{Denotes.next_spot, Denotes.Leads, Denotes.Reaches, Fitting.element_kind, Location.member_of_kind, Location.mark_of, Location.mark_behind}
use Rattle.fb_access.specs.Grammar.{Part, field, element, member, number_of}
use Rattle.fb_access.specs.LocationLaws.{element_parts, member_parts, link_parts, parts_of, AreDotted, IsBehind, Arrives, LinksArrive}
use Rattle.fb_access.specs.Resolving.{to_field, to_element, to_kind, to_member, fitting, Follows}
use Rattle.fb_access.specs.Spots.{if_element, present_spot, spot_at, field_spot, spot_of_element, member_spot}
use Rattle.fb_access.proofs.{MemberKinds.member_there, MemberKinds.IsOfMember, NumberedFields.found_by_number, UniqueNames.found_by_name, UniqueNames.named_again, UniqueNames.has_name, Walks.reaches_on, Ways.read_back, Leading.row_at, Leading.union_row_at, Leading.row_get, Following.follows_on}
use Rattle.fb_access.proofs.StepLaws.{field_step, one_entry, one_union, element_there}

-- a step, and the kind to which it leads
abbrev fitted : Step → Kind → Fitted
fitted step kind = record { step = step; kind = kind }

same_table : {k j : ℕ} → to_table k ≡ to_table j → k ≡ j
same_table h = cc

module _ (b : List ℕ) (S : Rows) where
  -- By parts from a kind at a spot to what is behind a uoffset.
  record GoesTo (kind : Kind) (from : Spot) (parts : List Part) (place : ℕ) (lead : Lead) : Type 0 where
    steps : List Step
    last : Kind
    end : Spot
    follows : Follows S kind parts steps last
    reaches : Reaches b S from steps end
    behind : IsBehind b S place lead end
    table : (k : ℕ) → lead ≡ to_table k → (last ≡ Table k) × (end ≡ AtTable k (target b place))

  abbrev GoesBy : Kind → Spot → List Part → Entry → Type 0
  GoesBy kind from parts x = GoesTo kind from parts x.place x.lead

  -- one step before
  goes_after : (kind next : Kind) (from at : Spot) (p : Part) (ps : List Part) (s : Step) (place : ℕ) (lead : Lead) → fitting S kind p ≡ Ok (fitted s next) → Leads b S from s at → GoesTo next at ps place lead → GoesTo kind from (p ∷ ps) place lead
  goes_after kind next from at p ps s place lead fit leads g = record {
    steps = s ∷ g.steps;
    last = g.last;
    end = g.end;
    follows = (fitted s next, fit, g.steps, refl, g.follows);
    reaches = (at, leads, g.reaches);
    behind = g.behind;
    table = g.table;
  }

  -- here
  goes_here : (kind : Kind) (from : Spot) (place : ℕ) (lead : Lead) → IsBehind b S place lead from → ((k : ℕ) → lead ≡ to_table k → (kind ≡ Table k) × (from ≡ AtTable k (target b place))) → GoesTo kind from [] place lead
  goes_here kind from place lead behind table = record { steps = []; last = kind; end = from; follows = (refl, refl); reaches = refl; behind = behind; table = table }

  text_here : (p : ℕ) → GoesTo Text (AtText (target b p)) [] p to_string
  text_here p = goes_here Text (AtText (target b p)) p to_string refl (λ k e. absurd cc)

  table_here : (k p : ℕ) → GoesTo (Table k) (AtTable k (target b p)) [] p (to_table k)
  table_here k p = goes_here (Table k) (AtTable k (target b p)) p (to_table k) refl (λ j e. (ap Table (same_table e), ap (λ n. AtTable n (target b p)) (same_table e)))

  -- a member
  member_here : (p : ℕ) (kind : Kind) → IsOfMember kind → GoesTo kind (member_spot b p kind) [] p (lead_of S (Some kind))
  unfolding member_spot
  member_here p kind is = grind (arith, goes_here, table_here, text_here)

  same_type : (y : ℕ) {X : Type 0} (q r : X) → (if y == y then q else r) ≡ q
  same_type y q r = cond-true (y == y) q r ((Decides-eqb y y).1 refl)

  module _ (legal : IsLegal S) where
    -- a union, and its member if the type has one
    union_goes : (e y p : ℕ) → IsTrue (is_union S e) → GoesTo (Union e) (AtUnion e y p) (member_parts (member_name S e y)) p (lead_of S (member_of S e y))
    unfolding next_spot
    union_goes e y p there = named (member_name S e y) refl where
      nameless : (kind : Option Kind) → member_of S e y ≡ kind → member_name S e y ≡ None → GoesTo (Union e) (AtUnion e y p) [] p (lead_of S kind)
      nameless kind h none = grind (arith, goes_here, has_name)

      named : (name : Option (List ℕ)) → member_name S e y ≡ name → GoesTo (Union e) (AtUnion e y p) (member_parts name) p (lead_of S (member_of S e y))
      named None h = nameless (member_of S e y) refl h
      named (Some name) h =
          let v = named_again S e y name legal there h in
          let k = member_there S e y name legal there v in
          let leads : Leads b S (AtUnion e y p) (Member y) (member_spot b p k.0) = ap (option_map (λ kind. if y == y then member_spot b p kind else AtOtherMember)) k.1 ∙ ap Some (same_type y (member_spot b p k.0) AtOtherMember) in
          subst (λ o. GoesTo (Union e) (AtUnion e y p) (member name ∷ []) p (lead_of S o)) (sym k.1)
          (goes_after (Union e) k.0 (AtUnion e y p) (member_spot b p k.0) (member name) [] (Member y) p (lead_of S (Some k.0)) (ap (to_member S e) v ∙ ap (to_kind y) k.1) leads (member_here p k.0 k.3))

    -- an element of a vector that is its j-th uoffset
    element_goes : (kind next : Kind) (from q : Spot) (j n : ℕ) (ps : List Part) (x y : Entry) → n < 2 ^ 32 → element_kind kind ≡ Some next → next_spot b S from (Element j) ≡ Some (if_element n j q)
        → (j < n) × (y ≡ x) → GoesBy next q ps y → GoesBy kind from (element (decimal j) ∷ ps) x
    element_goes kind next from q j n ps x y few is leads h g =
        let fit : fitting S kind (element (decimal j)) ≡ Ok (fitted (Element j) next) = ap (to_element (number_of (decimal j))) is ∙ ap (λ n. Ok (fitted (Element n) next)) (read_back j (omega arith)) in
        subst (GoesBy kind from (element (decimal j) ∷ ps)) h.1 (goes_after kind next from q (element (decimal j)) ps (Element j) y.place y.lead fit (leads ∙ ap Some (element_there n j q h.0)) g)

    module _ (c : Checks) (short : length b < 2 ^ 31) (t j : ℕ) (g : Live) where
      -- what a link has behind its field's name
      abbrev parts_behind : Kind → List Part
      parts_behind kind = element_parts (element_of j kind) ++ member_parts (option_and_then (λ value. member_of_kind S value kind) (type_of b t g j kind))

      -- a vector has no more uoffsets than the buffer has room for
      few : (p : ℕ) → IsVectorField c b t p 4 4 → word b (target b p) 4 < 2 ^ 32
      few p h = omega (arith, h.vector.within)

      entry_goes : (p : ℕ) (kind : Kind) (x : Entry) → KindHolds S g kind → IsPresent c b S t g p kind → slice_get (entries_of b S t g p kind) j ≡ Some x → GoesBy kind (present_spot b t g.slot p kind) (parts_behind kind) x
      unfolding present_spot next_spot spot_of_element
      entry_goes p Text x holds own h = subst (GoesBy Text (AtText (target b p)) []) (one_entry (entry to_string p 0) x j h) (text_here p)
      entry_goes p (Table k) x holds own h = subst (GoesBy (Table k) (AtTable k (target b p)) []) (one_entry (entry (to_table k) p 0) x j h) (table_here k p)
      entry_goes p (Union e) x holds own h =
          let y = union_type b (type_place b t g.slot) in
          let i = one_union S p j (member_of S e y) x h in
          rw (← i.0, ← i.1) (union_goes e y p holds)
      entry_goes p Texts x holds own h = element_goes _ _ _ _ j _ [] x _ (few p own) refl refl (row_get (row_at to_string (target b p + 4) (word b (target b p) 4) j) x h) (text_here (target b p + 4 + 4 * j))
      entry_goes p (Tables k) x holds own h = element_goes _ _ _ _ j _ [] x _ (few p own) refl refl (row_get (row_at (to_table k) (target b p + 4) (word b (target b p) 4) j) x h) (table_here k (target b p + 4 + 4 * j))
      entry_goes p (Unions e) x holds own h =
          let y = types_begin b (type_place b t g.slot) in
          element_goes _ _ _ _ j _ _ x _ (few p own.field) refl refl (row_get (union_row_at b S e y (target b p + 4) (word b (target b p) 4) j) x h) (union_goes e (word b (y + j) 1) (target b p + 4 + 4 * j) holds)
      entry_goes p kind x holds own h = absurd cc

      -- past a field, where it stands somewhere
      field_goes : (place : Option ℕ) (x : Entry) → IsPresentOrAbsent c b S t g place → KindHolds S g g.kind → slice_get (entries_at b S t g place) j ≡ Some x → GoesBy g.kind (spot_at b t g place) (parts_behind g.kind) x
      field_goes place x h holds e = grind (arith, entry_goes)

    module _ (served : IsServed S) (k t i : ℕ) (g : Live) (at : slice_get (live_fields S k) i ≡ Some g) where
      -- the field of a link, and what it has behind it
      field_first : (j value : Option ℕ) → link_parts S (record { object = k; field = g.number; element = j; member = value })
          ≡ field g.name ∷ (element_parts j ++ member_parts (option_and_then (λ v. member_of_kind S v g.kind) value))
      field_first j value = grind (arith, found_by_number, option_and_then, option_map)

      field_fits : fitting S (Table k) (field g.name) ≡ Ok (fitted (Field g.number) g.kind)
      field_fits = ap to_field (found_by_name S legal k served i g at)

      field_leads : Leads b S (AtTable k t) (Field g.number) (field_spot b t g)
      field_leads = field_step b S k t g.number g (found_by_number S served k i g at)

      -- a link through a uoffset of a field that holds
      link_goes : (c : Checks) (j : ℕ) (x : Entry) → length b < 2 ^ 31 → IsField c b S t g → slice_get (entries b S t g) j ≡ Some x → GoesBy (Table k) (AtTable k t) (link_parts S (element_link b k t g j)) x
      unfolding IsField entries
      link_goes c j x short own next =
          let behind = field_goes c short t j g (field_place b t g.slot) x own (served.kinds k i g at) next in
          subst (λ ps. GoesBy (Table k) (AtTable k t) ps x) (sym (field_first (element_of j g.kind) (type_of b t g j g.kind)))
          (goes_after (Table k) g.kind (AtTable k t) (field_spot b t g) (field g.name) (parts_behind c short t j g g.kind) (Field g.number) x.place x.lead field_fits field_leads behind)

  -- A dot stands behind a link through a uoffset, since bytes have none.
  dot_of : (t p i : ℕ) (j : Option ℕ) (g : Live) (kind : Kind) (x : Entry) → slice_get (entries_of b S t g p kind) i ≡ Some x → mark_of j (Some kind) ≡ codes "."
  dot_of t p i j g kind x h = grind arith

  dot_at : (t i : ℕ) (j : Option ℕ) (g : Live) (place : Option ℕ) (x : Entry) → slice_get (entries_at b S t g place) i ≡ Some x → mark_of j (Some g.kind) ≡ codes "."
  dot_at t i j g place x h = grind (arith, dot_of)

  link_dotted : (served : IsServed S) (k t i j : ℕ) (g : Live) (x : Entry) → slice_get (live_fields S k) i ≡ Some g → slice_get (entries b S t g) j ≡ Some x → mark_behind S (element_link b k t g j) ≡ codes "."
  unfolding entries
  link_dotted served k t i j g x at next = grind (arith, dot_at, found_by_number, option_map)

  dotted_on : (link : Link) (links : List Link) → mark_behind S link ≡ codes "." → AreDotted S links → AreDotted S (link ∷ links)
  dotted_on link links h d = grind arith

  -- Along a trail.
  module _ (legal : IsLegal S) (served : IsServed S) (short : length b < 2 ^ 31) (root : ℕ) (start : Start) (ident : Ident) (c : Checks) (L : Bounds) (f : Fault) where
    abbrev ArrivesFrom : Kind → Spot → List Link → Type 0
    ArrivesFrom kind from links = Arrives (question S root start ident L c) b kind from f links

    -- behind a link
    arrives_on : (kind : Kind) (from : Spot) (link : Link) (links : List Link) (x : Entry) (k : ℕ) → x.lead ≡ to_table k → GoesBy kind from (link_parts S link) x → mark_behind S link ≡ codes "." → ArrivesFrom (Table k) (AtTable k (target b x.place)) links → ArrivesFrom kind from (link ∷ links)
    arrives_on kind from link links x k lead g dot r =
        let to = g.table k lead in
        record {
          steps = g.steps ++ r.steps;
          last = r.last;
          follows = follows_on S kind g.last r.last (link_parts S link) (parts_of S links) g.steps r.steps g.follows (subst (λ z. Follows S z (parts_of S links) r.steps r.last) (sym to.0) r.follows);
          dotted = dotted_on link links dot r.dotted;
          end = r.end;
          reaches = reaches_on b S from g.end r.end g.steps r.steps g.reaches (subst (λ z. Reaches b S z r.steps r.end) (sym to.1) r.reaches);
          place = r.place;
          way = r.way;
          fails = r.fails;
          is_there = r.is_there;
        }

    one_link : (S : Rows) (link : Link) → link_parts S link ++ [] ≡ link_parts S link
    one_link S link = append-nil (link_parts S link)

    mutual
      unfolding IsTrail IsFieldTrail IsElementTrail links_of links_in_field links_in_element

      trail_arrives : (s : Trail) (k t : ℕ) (w : Way) → IsTrail s c b S L k t w f → ArrivesFrom (Table k) (AtTable k t) (links_of s b S k t)
      trail_arrives at_head k t w h = record { steps = []; last = Table k; follows = (refl, refl); dotted = tt; end = AtTable k t; reaches = refl; place = in_head k t; way = w; fails = h; is_there = refl }
      trail_arrives (at_field earlier s) k t w h =
          subst (λ g. ArrivesFrom (Table k) (AtTable k t) (links_in_field s b S k t g)) (sym h.1.next) (field_arrives s k t (kids_length earlier) h.0 (way_to_field c b S k t earlier h.0 w) refl h.1.next h.2)

      field_arrives : (s : FieldTrail) (k t i : ℕ) (g : Live) (w : Way) → w.field ≡ Some g.number → slice_get (live_fields S k) i ≡ Some g → IsFieldTrail s c b S L t g w f → ArrivesFrom (Table k) (AtTable k t) (links_in_field s b S k t (Some g))
      field_arrives at_own k t i g w named at h = record {
        steps = Field g.number ∷ [];
        last = g.kind;
        follows = subst (λ ps. Follows S (Table k) ps (Field g.number ∷ []) g.kind) (sym (one_link S (field_link k g) ∙ field_first legal served k t i g at None None)) (fitted (Field g.number) g.kind, field_fits legal served k t i g at, [], refl, (refl, refl));
        dotted = tt;
        end = field_spot b t g;
        reaches = (field_spot b t g, field_leads legal served k t i g at, refl);
        place = in_field t g;
        way = w;
        fails = h;
        is_there = (named, refl);
      }
      field_arrives (at_element before s) k t i g w named at h =
          let link = element_link b k t g (elements_length before) in
          subst (λ x. ArrivesFrom (Table k) (AtTable k t) (link ∷ links_in_element s b S x)) (sym h.1.next)
          (element_arrives s (Table k) (AtTable k t) link h.0 (way_to_element c b S t g before w) (link_goes legal served k t i g at c (elements_length before) h.0 short h.1.own h.1.next) (link_dotted served k t i (elements_length before) g h.0 at h.1.next) h.2)

      element_arrives : (s : ElementTrail) (kind : Kind) (from : Spot) (link : Link) (x : Entry) (w : Way) → GoesBy kind from (link_parts S link) x → mark_behind S link ≡ codes "." → IsElementTrail s c b S L x w f → ArrivesFrom kind from (link ∷ links_in_element s b S (Some x))
      element_arrives at_lead kind from link x w g dot h = record {
        steps = g.steps;
        last = g.last;
        follows = subst (λ ps. Follows S kind ps g.steps g.last) (sym (one_link S link)) g.follows;
        dotted = tt;
        end = g.end;
        reaches = g.reaches;
        place = in_element x;
        way = w;
        fails = h;
        is_there = g.behind;
      }
      element_arrives (through s) kind from link x w g dot h =
          let t = target b x.place in
          arrives_on kind from link (links_of s b S (object_led_to x.lead) t) x h.0 h.1 g dot
          (subst (λ k. ArrivesFrom (Table h.0) (AtTable h.0 t) (links_of s b S k t)) (sym (ap object_led_to h.1)) (trail_arrives s h.0 t (way_to_table x w) h.3))

pub links_arrive : LinksArrive
links_arrive q b f links legal served short (inl h) =
    subst (Arrives q b (Table q.root) (AtTable q.root (target b (base q.start))) f) (sym h.1) (record {
      steps = [];
      last = Table q.root;
      follows = (refl, refl);
      dotted = tt;
      end = AtTable q.root (target b (base q.start));
      reaches = refl;
      place = in_start q.start q.ident;
      way = way_to_start q.root;
      fails = h.0;
      is_there = (refl, refl, refl);
    })
links_arrive q b f links legal served short (inr h) =
    let t = target b (base q.start) in
    subst (Arrives q b (Table q.root) (AtTable q.root t) f) h.1.2 (trail_arrives b q.rows legal served short q.root q.start q.ident q.checks q.limits f h.1.0 q.root t (way_to_root q.root q.start q.ident) h.1.1)
