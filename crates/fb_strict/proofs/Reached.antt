-- Each buffer that a field holds is among those inside, wherever the table of the field stands.
use Rattle.std.proofs.Common.{◌≡◌, ◌⊎◌, inl, inr, ℕ, zero, suc, ◌+◌, List, [], ◌∷◌, ◌++◌, Option, Some, None, Bool, true, false, refl, sym, subst, ◌∙◌, if◌then◌else◌}
use Rattle.std.specs.Prelude.{slice_get, is_some}
use Rattle.std.specs.List.{list_any}
use Rattle.fb_schema.specs.{Rows.Rows, Live.Live, Live.live_fields}
use Rattle.fb_rules.specs.declared.{checks.Checks.Checks, link.Link.Link, offset_row.Leads.Leads, offset_row.Referent.Referent, fault.Report.Report}
use Rattle.fb_rules.specs.{Places.target, Places.field_place, Links.field_link, Links.element_link, OffsetRows.leads_after, Question.Question, WellFormed.base}
use Rattle.fb_rules.specs.Fields.{Lead, to_table, to_struct, to_string, to_nothing, Entry, entries, type_place}
use Rattle.fb_rules.specs.Tree.{Tree, node, Kids, no_kids, kid, Elements, no_elements, element, Element, leaf, table}
use Rattle.fb_rules.specs.Unfolds.{Unfolds, FieldsUnfold, ElementsUnfold, ElementUnfolds}
use Rattle.fb_rules.proofs.{Overruns.one_tree}
use Rattle.fb_strict.specs.declared.{inner.Inner.Inner, tasks.Held.Held, tasks.Held.TheVariants.Buffer, tasks.Held.TheVariants.Flex}
use Rattle.fb_strict.specs.{Demanded.held_of, Skipped.Wants, Skipped.is_kind_asked, Skipped.IsClosed, Planned.Planned, Planned.wants_in, Strict.IsFlexless}
use Rattle.fb_strict.specs.Asked.{Demand, held_demands, field_demands, element_demands, slots_demands, row_place, row_leads, first_referent, object_of, demands_in, demands_in_fields, demands_in_row, demands_below, demands_of}
use Rattle.fb_strict.specs.Nested.{asked_of, IsGood}
use Rattle.fb_strict.specs.Readers.{HasNode, KidsHave, ElementsHave, ElementHas, buffer_at, HeldAreGood, FlexLaw}
use Rattle.fb_strict.specs.Laws.{HeldBuffersAreGood}
use Rattle.fb_strict.proofs.{Lists.or_false, Skips.AreQuiet, Skips.IsQuiet, Skips.quiet_entries, Skips.held_each, Asking.object_is, Reading.node_met, Inside.inside_is_good, Inside.good_is_strict, Buffers.plan_closed}

-- one of these demands has this buffer inside
abbrev HasInner : List Demand → Inner → Type 0
HasInner [] inner = ⊥
HasInner (d ∷ ds) inner = (d.inner ≡ Some inner) ⊎ HasInner ds inner

in_first : (xs ys : List Demand) (inner : Inner) → HasInner xs inner → HasInner (xs ++ ys) inner
in_first [] ys inner h = absurd h
in_first (x ∷ xs) ys inner (inl h) = inl h
in_first (x ∷ xs) ys inner (inr h) = inr (in_first xs ys inner h)

in_second : (xs ys : List Demand) (inner : Inner) → HasInner ys inner → HasInner (xs ++ ys) inner
in_second [] ys inner h = h
in_second (x ∷ xs) ys inner h = inr (in_second xs ys inner h)

if_asked : (x : Bool) (ds : List Demand) (inner : Inner) → (x ≡ false → ⊥) → HasInner ds inner → HasInner (if x then ds else []) inner
if_asked true ds inner never h = h
if_asked false ds inner never h = absurd (never refl)

-- it has a number
numbered : (ds : List Demand) (inner : Inner) → HasInner ds inner → (n : ℕ) × (d : Demand) × (slice_get ds n ≡ Some d) × (d.inner ≡ Some inner)
numbered [] inner h = absurd h
numbered (d ∷ ds) inner (inl h) = (zero, d, refl, h)
numbered (d ∷ ds) inner (inr h) = let r = numbered ds inner h in (suc r.0, r.1, r.2, r.3)

module _ (w : Wants) (S : Rows) (closed : IsClosed w S) (c : Checks) (b : List ℕ) where
  -- a field of the table at t, of the object k, that holds a buffer
  module _ (k t i : ℕ) (f : Live) (at : slice_get (live_fields S k) i ≡ Some f) (root p : ℕ) (held : held_of w.demands k f ≡ Some (Buffer root)) (place : field_place b t f.slot ≡ Some p) where
    -- its object is asked, and so is each from which it is reached
    always_asked : w.asks k ≡ false → ⊥
    always_asked none =
        let quiet : is_some (held_of w.demands k f) ≡ false = held_each w S k (live_fields S k) (or_false _ _ (closed k none).1).1 i f at in
        let holds : is_some (held_of w.demands k f) ≡ true = rw held refl in
        let both : true ≡ false = sym holds ∙ quiet in
        absurd (cc)

    mutual
      unfolding Unfolds FieldsUnfold ElementsUnfold ElementUnfolds HasNode KidsHave ElementsHave ElementHas AreQuiet

      no_node : (y : Tree) (k' t' : ℕ) → w.asks k' ≡ false → Unfolds y c b S k' t' → HasNode y k t → ⊥
      no_node (node j u kids) k' t' none h (inl e) = always_asked (subst (λ n. w.asks n ≡ false) (sym h.0 ∙ e.0) none)
      no_node (node j u kids) k' t' none h (inr n) = no_kid kids t' (live_fields S k') (or_false _ _ (closed k' none).1).0 h.3 n

      no_kid : (kids : Kids) (t' : ℕ) (fs : List Live) → list_any (λ (g : Live). is_kind_asked w S g.kind) fs ≡ false → FieldsUnfold kids c b S t' fs → KidsHave kids k t → ⊥
      no_kid no_kids t' fs none h n = n
      no_kid (kid ys kids) t' [] none h n = h
      no_kid (kid ys kids) t' (g ∷ fs) none h (inl n) = no_element ys (entries b S t' g) (quiet_entries w S b t' g (or_false _ _ none).0) h.1 n
      no_kid (kid ys kids) t' (g ∷ fs) none h (inr n) = no_kid kids t' fs (or_false _ _ none).1 h.2 n

      no_element : (ys : Elements) (xs : List Entry) → AreQuiet w S xs → ElementsUnfold ys c b S xs → ElementsHave ys k t → ⊥
      no_element no_elements xs none h n = n
      no_element (element y ys) [] none h n = h
      no_element (element y ys) (x ∷ xs) none h (inl n) = no_table y x.place x.lead none.0 h.0 n
      no_element (element y ys) (x ∷ xs) none h (inr n) = no_element ys xs none.1 h.1 n

      no_table : (y : Element) (o : ℕ) (lead : Lead) → IsQuiet w S lead → ElementUnfolds y c b S o lead → ElementHas y k t → ⊥
      no_table leaf o lead none h n = n
      no_table (table y) o (to_table j) none h n = no_node y j (target b o) none h.1 n
      no_table (table y) o (to_struct size align) none h n = h
      no_table (table y) o to_string none h n = h
      no_table (table y) o to_nothing none h n = h

    -- so its buffer is among those inside
    abbrev Holds : List Demand → Type 0
    Holds ds = HasInner ds (buffer_at b root p)

    own : (links : List Link) → Holds (held_demands b links k f.number t f.slot (field_place b t f.slot) (held_of w.demands k f))
    own links = rw (held, place) (inl refl)

    -- what is asked of a field by itself, and of what it leads to
    abbrev rest_of : Elements → List Link → (k' t' : ℕ) → Live → List Demand
    rest_of ys via k' t' g =
        field_demands w.demands c b S (via ++ field_link k' g ∷ []) k' g.number t' g.slot (type_place b t' g.slot) (field_place b t' g.slot) g.kind
        ++ demands_in_row ys w c b S (λ j. via ++ element_link b k' t' g j ∷ []) k' g.number 0 (row_place b (field_place b t' g.slot) g.kind) (row_leads w b S (type_place b t' g.slot) g.kind)

    abbrev held_by_field : List Link → (k' t' : ℕ) → Live → List Demand
    held_by_field via k' t' g = held_demands b (via ++ field_link k' g ∷ []) k' g.number t' g.slot (field_place b t' g.slot) (held_of w.demands k' g)

    abbrev asked_by_field : Elements → List Link → (k' t' : ℕ) → Live → List Demand
    asked_by_field ys via k' t' g = if is_kind_asked w S g.kind then rest_of ys via k' t' g else []

    here : (kids : Kids) (via : List Link) (fs : List Live) (j : ℕ) → FieldsUnfold kids c b S t fs → slice_get fs j ≡ Some f → Holds (demands_in_fields kids w c b S via k t fs)
    unfolding demands_in_fields FieldsUnfold
    here no_kids via [] j u e = absurd (cc)
    here no_kids via (g ∷ fs) j u e = absurd u
    here (kid ys kids) via [] j u e = absurd u
    here (kid ys kids) via (g ∷ fs) zero u e =
        let same : f ≡ g = cc in
        in_first (held_by_field via k t g) (asked_by_field ys via k t g ++ demands_in_fields kids w c b S via k t fs) (buffer_at b root p) (subst (λ x. Holds (held_by_field via k t x)) same (own (via ++ field_link k f ∷ [])))
    here (kid ys kids) via (g ∷ fs) (suc j) u e =
        in_second (held_by_field via k t g) (asked_by_field ys via k t g ++ demands_in_fields kids w c b S via k t fs) (buffer_at b root p)
        (in_second (asked_by_field ys via k t g) (demands_in_fields kids w c b S via k t fs) (buffer_at b root p) (here kids via fs j u.2 e))

    mutual
      unfolding Unfolds FieldsUnfold ElementsUnfold ElementUnfolds HasNode KidsHave ElementsHave ElementHas demands_in demands_in_fields demands_in_row demands_below

      in_tree : (y : Tree) (via : List Link) (k' t' : ℕ) → Unfolds y c b S k' t' → HasNode y k t → Holds (demands_in y w c b S via)
      in_tree (node j v kids) via k' t' u (inl e) =
          let fields : FieldsUnfold kids c b S t (live_fields S k) = rw (sym e.0 ∙ u.0, sym e.1 ∙ u.1) u.3 in
          let all : Holds (demands_in_fields kids w c b S via j v (live_fields S j)) = rw (e.0, e.1) (here kids via (live_fields S k) i fields at) in
          inr (in_second (slots_demands w.demands b S via j v) (demands_in_fields kids w c b S via j v (live_fields S j)) (buffer_at b root p) all)
      in_tree (node j v kids) via k' t' u (inr n) =
          inr (in_second (slots_demands w.demands b S via j v) (demands_in_fields kids w c b S via j v (live_fields S j)) (buffer_at b root p) (in_fields kids via j v (live_fields S j) (rw (u.0, u.1) u.3) n))

      in_fields : (kids : Kids) (via : List Link) (k' t' : ℕ) (fs : List Live) → FieldsUnfold kids c b S t' fs → KidsHave kids k t → Holds (demands_in_fields kids w c b S via k' t' fs)
      in_fields no_kids via k' t' fs u n = absurd n
      in_fields (kid ys kids) via k' t' [] u n = absurd u
      in_fields (kid ys kids) via k' t' (g ∷ fs) u (inl n) =
          let never = λ (none : is_kind_asked w S g.kind ≡ false). no_element ys (entries b S t' g) (quiet_entries w S b t' g none) u.1 n in
          let row = in_row ys (λ j. via ++ element_link b k' t' g j ∷ []) (entries b S t' g) (row_leads w b S (type_place b t' g.slot) g.kind) k' g.number 0 (row_place b (field_place b t' g.slot) g.kind) u.1 n in
          let all = in_second (field_demands w.demands c b S (via ++ field_link k' g ∷ []) k' g.number t' g.slot (type_place b t' g.slot) (field_place b t' g.slot) g.kind) _ (buffer_at b root p) row in
          in_second (held_by_field via k' t' g) (asked_by_field ys via k' t' g ++ demands_in_fields kids w c b S via k' t' fs) (buffer_at b root p)
          (in_first (asked_by_field ys via k' t' g) (demands_in_fields kids w c b S via k' t' fs) (buffer_at b root p) (if_asked (is_kind_asked w S g.kind) (rest_of ys via k' t' g) (buffer_at b root p) never all))
      in_fields (kid ys kids) via k' t' (g ∷ fs) u (inr n) =
          in_second (held_by_field via k' t' g) (asked_by_field ys via k' t' g ++ demands_in_fields kids w c b S via k' t' fs) (buffer_at b root p)
          (in_second (asked_by_field ys via k' t' g) (demands_in_fields kids w c b S via k' t' fs) (buffer_at b root p) (in_fields kids via k' t' fs u.2 n))

      in_row : (ys : Elements) (way : ℕ → List Link) (xs : List Entry) (leads : Leads) (k' n' j o : ℕ) → ElementsUnfold ys c b S xs → ElementsHave ys k t → Holds (demands_in_row ys w c b S way k' n' j o leads)
      in_row no_elements way xs leads k' n' j o u n = absurd n
      in_row (element y ys) way [] leads k' n' j o u n = absurd u
      in_row (element y ys) way (x ∷ xs) leads k' n' j o u (inl n) =
          in_second (element_demands w.demands c b S (way j) k' n' o leads) (demands_below y w c b S (way j) k' n' o (first_referent w b S leads) ++ demands_in_row ys w c b S way k' n' (j + 1) (o + 4) (leads_after leads)) (buffer_at b root p)
          (in_first (demands_below y w c b S (way j) k' n' o (first_referent w b S leads)) (demands_in_row ys w c b S way k' n' (j + 1) (o + 4) (leads_after leads)) (buffer_at b root p) (in_table y x.place x.lead (way j) k' n' o (first_referent w b S leads) u.0 n))
      in_row (element y ys) way (x ∷ xs) leads k' n' j o u (inr n) =
          in_second (element_demands w.demands c b S (way j) k' n' o leads) (demands_below y w c b S (way j) k' n' o (first_referent w b S leads) ++ demands_in_row ys w c b S way k' n' (j + 1) (o + 4) (leads_after leads)) (buffer_at b root p)
          (in_second (demands_below y w c b S (way j) k' n' o (first_referent w b S leads)) (demands_in_row ys w c b S way k' n' (j + 1) (o + 4) (leads_after leads)) (buffer_at b root p) (in_row ys way xs (leads_after leads) k' n' (j + 1) (o + 4) u.1 n))

      in_table : (y : Element) (q : ℕ) (lead : Lead) (links : List Link) (k' n' o : ℕ) (referent : Referent) → ElementUnfolds y c b S q lead → ElementHas y k t → Holds (demands_below y w c b S links k' n' o referent)
      in_table leaf q lead links k' n' o referent u n = absurd n
      in_table (table y) q (to_table j) links k' n' o referent u n =
          let never = λ (none : w.asks (object_of y) ≡ false). no_node y j (target b q) (subst (λ x. w.asks x ≡ false) (object_is w S closed c b y j (target b q) u.1) none) u.1 n in
          if_asked (w.asks (object_of y)) _ (buffer_at b root p) never (inr (in_tree y links j (target b q) u.1 n))
      in_table (table y) q (to_struct size align) links k' n' o referent u n = absurd u
      in_table (table y) q to_string links k' n' o referent u n = absurd u
      in_table (table y) q to_nothing links k' n' o referent u n = absurd u

    in_buffer : (y : Tree) (k' t' : ℕ) → Unfolds y c b S k' t' → HasNode y k t → Holds (demands_of w c b S k' y)
    in_buffer y k' t' u n = inr (if_asked (w.asks k') (demands_in y w c b S []) (buffer_at b root p) (λ none. no_node y k' t' none u n) (in_tree y [] k' t' u n))

held_good : (p : Planned) (q : Question) (b : List ℕ) (r : Report) → IsClosed (wants_in p) q.rows → (h : IsGood p q b r) → HeldAreGood p q b h.found
held_good p q b r closed h k t i f root place n at held there =
    let x = numbered (asked_of p q b h.found) (buffer_at b root place) (in_buffer (wants_in p) q.rows closed q.checks b k t i f at root place held there h.found q.root (target b (base q.start)) (h.well_formed).unfolds n) in
    inside_is_good p q b r h.found x.0 x.1 (buffer_at b root place) h h.well_formed x.2 x.3

flex_absent : (b : List ℕ) (t : ℕ) (f : Live) (o : Option Held) → o ≡ Some Flex → IsFlexless b t f o → field_place b t f.slot ≡ None
flex_absent b t f o is h = rw is at h

no_flexbuffers : FlexLaw
no_flexbuffers y D c b S h k t i f n at held = flex_absent b t f (held_of D k f) held ((node_met D c b S k t y h n).flexless i f at)

pub held_buffers_good : HeldBuffersAreGood
held_buffers_good p q b r y plan h u =
    let same : h.found ≡ y = one_tree q.checks b q.rows h.found y q.root (target b (base q.start)) h.well_formed.unfolds u in
    let closed = plan_closed q.rows p plan in
    let strict = (good_is_strict p q b r h.found closed h h.well_formed).tables in
    (subst (HeldAreGood p q b) same (held_good p q b r closed h), no_flexbuffers y p.demands q.checks b q.rows (rw same at strict))
