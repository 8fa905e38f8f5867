-- Chains of edges have exactly what was added, and together exactly the objects whose fields lead on.
use Rattle.std.proofs.Common.{◌≡◌, ◌⊎◌, inl, inr, ℕ, zero, suc, ◌+◌, ◌<◌, ◌≤◌, List, [], ◌∷◌, ◌++◌, length, length-append, take, map, get_or, slice_get, Option, Some, None, true, false, sym, ◌∙◌, ap, subst, refl, arith}
use Rattle.std.proofs.{Math.ListN.set, lemmas.List.length-set, lemmas.List.map-append, lemmas.Grind.take_at_read, lemmas.Option.slice_get_within, lemmas.Bool.cases_lt}
use Rattle.fb_schema.specs.{Rows.Rows, Rows.Enum, Rows.is_table, Rows.is_union, Rows.is_some_union, Live.Live, Live.live_fields, Live.live_of_view, Members.member_of}
use Rattle.fb_schema.specs.{Members.members_in, declared.kinds.Kind.Kind, declared.kinds.Kind.TheVariants.Scalar, declared.kinds.Kind.TheVariants.Text}
use Rattle.fb_schema.specs.declared.kinds.Kind.TheVariants.{Struct, Table, Union, Scalars, Texts, Structs, Tables, Unions}
use Rattle.fb_schema.specs.declared.views.FieldView.{FieldView}
use Rattle.fb_strict.specs.declared.{demands.Demands.Demands, leads.Edge.Edge, leads.Ends.Ends, leads.Ends.TheVariants.Objects, leads.Ends.TheVariants.Enums}
use Rattle.fb_strict.specs.Leading.{MemberLeads, KindLeads, KindNames, OneOf, Names, IsOn, is_first, is_later, last_to, IsFrom, IsChained, HasNone, Grown, Added, HaveBelow, Have}
use Rattle.fb_strict.specs.Leading.{AreLeads}
use Rattle.fb_strict.proofs.Marks.{no_fields, past_all, before, last}

some_is : {X : Type 0} (x y : X) → Some x ≡ Some y → x ≡ y
some_is x y h = cc

-- chains

module _ (edges : List Edge) (k : ℕ) where
  pub none_on : (p : ℕ) → p ≡ 0 → IsOn edges k p → ⊥
  none_on p z (is_first q i e at got from) = omega (arith, at, z)
  none_on p z (is_later q i e at got on) = omega (arith, at, z)

  same_edge : (i j : ℕ) (e d : Edge) → i ≡ j → slice_get edges i ≡ Some e → slice_get edges j ≡ Some d → e ≡ d
  same_edge i j e d at got also = some_is e d (sym got ∙ ap (slice_get edges) at ∙ also)

  -- an object on a chain has the first edge, or is on the rest
  pub first_or_later : (p i : ℕ) (e : Edge) → p ≡ i + 1 → slice_get edges i ≡ Some e → IsOn edges k p → (k ≡ e.from) ⊎ IsOn edges k e.before
  first_or_later p i e at got (is_first q j d also has from) = inl (sym from ∙ ap (λ (x : Edge). x.from) (same_edge j i d e (omega (arith, at, also)) has got))
  first_or_later p i e at got (is_later q j d also has on) = inr (subst (λ (x : Edge). IsOn edges k x.before) (same_edge j i d e (omega (arith, at, also)) has got) on)

  module _ (x : Edge) where
    -- an edge more leaves the chains
    pub kept_on : (p : ℕ) → IsOn edges k p → IsOn (edges ++ x ∷ []) k p
    kept_on p (is_first q i e at got from) = is_first q i e at (before edges x i (slice_get_within edges i e got) ∙ got) from
    kept_on p (is_later q i e at got on) = is_later q i e at (before edges x i (slice_get_within edges i e got) ∙ got) (kept_on e.before on)

    pub only_on : ((i : ℕ) (e : Edge) → slice_get edges i ≡ Some e → e.before ≤ i) → (p : ℕ) → p ≤ length edges → IsOn (edges ++ x ∷ []) k p → IsOn edges k p
    only_on back p low (is_first q i e at got from) = is_first q i e at (sym (before edges x i (omega (arith, at, low))) ∙ got) from
    only_on back p low (is_later q i e at got on) =
        let has : slice_get edges i ≡ Some e = sym (before edges x i (omega (arith, at, low))) ∙ got in
        let low' = back i e has in
        is_later q i e at has (only_on back e.before (omega (arith, at, low, low')) on)

-- the chain of one object begins anew
begins_at : (lasts : List ℕ) (to n t : ℕ) → to < length lasts → ((t ≡ to) × (last_to (set lasts to n) t ≡ n)) ⊎ (last_to (set lasts to n) t ≡ last_to lasts t)
begins_at [] to n t lt = absurd (omega arith)
begins_at (x ∷ xs) zero n zero lt = inl (refl, refl)
begins_at (x ∷ xs) zero n (suc t) lt = inr refl
begins_at (x ∷ xs) (suc to) n zero lt = inr refl
begins_at (x ∷ xs) (suc to) n (suc t) lt = elim (begins_at xs to n t (omega arith)) [ inl e ↦ inl (ap suc e.0, e.1) | inr e ↦ inr e ]

here_begins : (lasts : List ℕ) (to n : ℕ) → to < length lasts → last_to (set lasts to n) to ≡ n
here_begins [] to n lt = absurd (omega arith)
here_begins (x ∷ xs) zero n lt = refl
here_begins (x ∷ xs) (suc to) n lt = here_begins xs to n (omega arith)

module _ (from to : ℕ) (lasts : List ℕ) (edges : List Edge) (c : IsChained lasts edges) (within : to < length lasts) (n : ℕ) (e : Edge) (n_is : n ≡ length edges + 1) (from_is : e.from ≡ from) (before_is : e.before ≡ last_to lasts to) where
  abbrev pub all : List Edge
  all = edges ++ e ∷ []

  chained : IsChained (set lasts to n) all
  chained = record {
    begins = λ t. let long = length-append edges (e ∷ []) in let old = c.begins t in
        elim (begins_at lasts to n t within) [ inl h ↦ (let is = h.1 in omega (arith, is, n_is, long)) | inr is ↦ omega (arith, is, old, long) ];
    goes_back = λ i d got. elim (cases_lt i (length edges)) [
      | inl low ↦ c.goes_back i d (sym (before edges e i low) ∙ got)
      | inr high ↦
          let most = slice_get_within all i d got in
          let long = length-append edges (e ∷ []) in
          let at : i ≡ length edges = omega (arith, most, high, long) in
          let is : d ≡ e = some_is d e (sym got ∙ last edges e i at) in
          let low = c.begins to in
          let same = ap (λ (x : Edge). x.before) is in
          omega (arith, at, same, before_is, low)
    ];
    few = (let long = length-set lasts to n in let old = c.few in omega (arith, long, old));
  }

  on_top : (k : ℕ) → IsOn all k n → (k ≡ from) ⊎ IsFrom lasts edges k to
  on_top k on = elim (first_or_later all k n (length edges) e n_is (last edges e (length edges) refl) on) [
    | inl is ↦ inl (is ∙ from_is)
    | inr later ↦ inr (subst (IsOn edges k) before_is (only_on edges k e c.goes_back e.before (subst (λ m. m ≤ length edges) (sym before_is) (c.begins to)) later))
  ]

  pub added : Added from (λ t. t ≡ to) lasts edges (set lasts to n) all
  added = record {
    chained = chained;
    kept = λ k t on. elim (begins_at lasts to n t within) [
      | inl h ↦ subst (IsOn all k) (sym h.1) (is_later n (length edges) e n_is (last edges e (length edges) refl)
          (kept_on edges k e e.before (subst (IsOn edges k) (ap (last_to lasts) h.0 ∙ sym before_is) on)))
      | inr is ↦ subst (IsOn all k) (sym is) (kept_on edges k e (last_to lasts t) on)
    ];
    added = λ t at. subst (IsOn all from) (sym (ap (last_to (set lasts to n)) at ∙ here_begins lasts to n within)) (is_first n (length edges) e n_is (last edges e (length edges) refl) from_is);
    only = λ k t on. elim (begins_at lasts to n t within) [
      | inl h ↦ elim (on_top k (subst (IsOn all k) h.1 on)) [ inl is ↦ inr (is, h.0) | inr was ↦ inl (subst (IsFrom lasts edges k) (sym h.0) was) ]
      | inr is ↦ inl (only_on edges k e c.goes_back (last_to lasts t) (c.begins t) (subst (IsOn all k) is on))
    ];
  }

-- where a chain begins that is there
pub last_at : (lasts : List ℕ) (t d : ℕ) → t < length lasts → get_or lasts t d ≡ last_to lasts t
last_at [] t d lt = absurd (omega (arith, lt))
last_at (x ∷ xs) zero d lt = refl
last_at (x ∷ xs) (suc t) d lt = last_at xs t d (omega (arith, lt))

-- a chain more

module _ (to : ℕ) (lasts mid : List ℕ) (edges : List Edge) (g : Grown to lasts mid) where
  pub grown_chained : IsChained lasts edges → IsChained mid edges
  grown_chained c = record { begins = λ t. subst (λ n. n ≤ length edges) (sym (g.same t)) (c.begins t); goes_back = c.goes_back; few = g.few c.few }

  pub added_grown : (from : ℕ) (P : ℕ → Type 0) (lasts' : List ℕ) (edges' : List Edge) → Added from P mid edges lasts' edges' → Added from P lasts edges lasts' edges'
  added_grown from P lasts' edges' h = record {
    chained = h.chained;
    kept = λ k t on. h.kept k t (subst (IsOn edges k) (sym (g.same t)) on);
    added = h.added;
    only = λ k t on. elim (h.only k t on) [ inl was ↦ inl (subst (IsOn edges k) (g.same t) was) | inr r ↦ inr r ];
  }

-- more edges of an object

module _ (from : ℕ) (lasts : List ℕ) (edges : List Edge) where
  pub added_none : (P : ℕ → Type 0) → IsChained lasts edges → ((t : ℕ) → P t → ⊥) → Added from P lasts edges lasts edges
  added_none P c none = record { chained = c; kept = λ k t on. on; added = λ t h. absurd (none t h); only = λ k t on. inl on }

  -- to the same objects, said otherwise
  pub added_as : (P Q : ℕ → Type 0) (lasts' : List ℕ) (edges' : List Edge) → ((t : ℕ) → P t → Q t) → ((t : ℕ) → Q t → P t) → Added from P lasts edges lasts' edges' → Added from Q lasts edges lasts' edges'
  added_as P Q lasts' edges' to back h = record {
    chained = h.chained;
    kept = h.kept;
    added = λ t q. h.added t (back t q);
    only = λ k t on. elim (h.only k t on) [ inl was ↦ inl was | inr r ↦ inr (r.0, to t r.1) ];
  }

  -- to some and then to others
  pub added_both : (P Q : ℕ → Type 0) (mid : List ℕ) (es : List Edge) (lasts' : List ℕ) (edges' : List Edge) → Added from P lasts edges mid es → Added from Q mid es lasts' edges' → Added from (λ t. P t ⊎ Q t) lasts edges lasts' edges'
  added_both P Q mid es lasts' edges' h a = record {
    chained = a.chained;
    kept = λ k t on. a.kept k t (h.kept k t on);
    added = λ t led. elim led [ inl l ↦ a.kept from t (h.added t l) | inr r ↦ a.added t r ];
    only = λ k t on. elim (a.only k t on) [
      | inl l ↦ elim (h.only k t l) [ inl was ↦ inl was | inr r ↦ inr (r.0, inl r.1) ]
      | inr r ↦ inr (r.0, inr r.1)
    ];
  }

-- members

module _ (S : Rows) (e n : ℕ) where
  -- one value more, whose member is a table
  pub member_more : (to t : ℕ) → member_of S e n ≡ Some (Table to) → MemberLeads S e n t ⊎ (t ≡ to) → MemberLeads S e (n + 1) t
  member_more to t is (inl l) = (l.0, omega (arith, l.1), l.2)
  member_more to t is (inr at) = (n, omega arith, is ∙ ap (λ k. Some (Table k)) (sym at))

  table_is : (to t : ℕ) → Some (Table to) ≡ Some (Table t) → t ≡ to
  table_is to t h = cc

  pub member_last : (to t : ℕ) → member_of S e n ≡ Some (Table to) → MemberLeads S e (n + 1) t → MemberLeads S e n t ⊎ (t ≡ to)
  member_last to t is h = elim (cases_lt h.0 n) [
    | inl lt ↦ inl (h.0, lt, h.2)
    | inr here ↦ (let at : h.0 ≡ n = omega (arith, h.1, here) in inr (table_is to t (sym is ∙ ap (member_of S e) (sym at) ∙ h.2)))
  ]

  -- one whose member is none
  pub member_less : (t : ℕ) → MemberLeads S e n t → MemberLeads S e (n + 1) t
  member_less t l = (l.0, omega (arith, l.1), l.2)

  pub member_same : (t : ℕ) → ((to : ℕ) → member_of S e n ≡ Some (Table to) → ⊥) → MemberLeads S e (n + 1) t → MemberLeads S e n t
  member_same t isnt h = elim (cases_lt h.0 n) [
    | inl lt ↦ (h.0, lt, h.2)
    | inr here ↦ (let at : h.0 ≡ n = omega (arith, h.1, here) in absurd (isnt t (ap (member_of S e) (sym at) ∙ h.2)))
  ]

-- a union has members, and no other enum

no_members_in : (o : Option Enum) → is_some_union o ≡ false → members_in o ≡ []
no_members_in None h = refl
no_members_in (Some e) h = rw h refl

pub no_member_leads : (S : Rows) (e n t : ℕ) → is_union S e ≡ false → MemberLeads S e n t → ⊥
unfolding member_of
no_member_leads S e n t isnt h = absurd (let none = no_members_in (slice_get S.enums e) isnt in let w = rw none at h.2 in cc)

-- fields

module _ (P : Kind → ℕ → Type 0) where
  pub among_last : (fs : List Live) (f : Live) (t : ℕ) → OneOf P (fs ++ f ∷ []) t → OneOf P fs t ⊎ P f.kind t
  among_last [] f t (inl h) = inr h
  among_last [] f t (inr h) = absurd h
  among_last (x ∷ fs) f t (inl h) = inl (inl h)
  among_last (x ∷ fs) f t (inr h) = elim (among_last fs f t h) [ inl l ↦ inl (inr l) | inr r ↦ inr r ]

  pub among_more : (fs : List Live) (f : Live) (t : ℕ) → OneOf P fs t ⊎ P f.kind t → OneOf P (fs ++ f ∷ []) t
  among_more [] f t (inl h) = absurd h
  among_more [] f t (inr h) = inl h
  among_more (x ∷ fs) f t (inl (inl h)) = inl h
  among_more (x ∷ fs) f t (inl (inr h)) = inr (among_more fs f t (inl h))
  among_more (x ∷ fs) f t (inr h) = inr (among_more fs f t (inr h))

  among_as : (Q : Kind → ℕ → Type 0) (t u : ℕ) → ((kind : Kind) → P kind t → Q kind u) → (fs : List Live) → OneOf P fs t → OneOf Q fs u
  among_as Q t u to [] h = absurd h
  among_as Q t u to (f ∷ fs) (inl h) = inl (to f.kind h)
  among_as Q t u to (f ∷ fs) (inr h) = inr (among_as Q t u to fs h)

-- a field more
pub field_more : (fields : List FieldView) (i : ℕ) (d : FieldView) → i < length fields → map live_of_view (take (i + 1) fields) ≡ map live_of_view (take i fields) ++ live_of_view (get_or fields i d) ∷ []
field_more fields i d lt = ap (map live_of_view) (take_at_read fields i d lt).1 ∙ map-append live_of_view (take i fields) (get_or fields i d ∷ [])

-- edges from everything

module _ (Q : ℕ → ℕ → Type 0) where
  pub none_have : (lasts : List ℕ) (edges : List Edge) → HasNone lasts edges → HaveBelow Q 0 lasts edges
  none_have lasts edges new =
      let begins : (t : ℕ) → last_to lasts t ≡ 0 = λ t. ap (λ xs. last_to xs t) new.lasts_are in
      let long = ap length new.lasts_are in
      record {
        chained = record {
          begins = λ t. let z = begins t in omega (arith, z);
          goes_back = λ i e got. absurd (let w : None ≡ Some e = sym (ap (λ (xs : List Edge). slice_get xs i) new.edges_are) ∙ got in cc);
          few = omega (arith, long);
        };
        whole = λ k t lt led. absurd (omega (arith, lt));
        only = λ k t on. absurd (none_on edges k (last_to lasts t) (begins t) on);
      }

  module _ (n : ℕ) (lasts : List ℕ) (edges : List Edge) (h : HaveBelow Q n lasts edges) where
    pub have_more : (lasts' : List ℕ) (edges' : List Edge) → Added n (Q n) lasts edges lasts' edges' → HaveBelow Q (n + 1) lasts' edges'
    have_more lasts' edges' took = record {
      chained = took.chained;
      whole = λ k t lt led. elim (cases_lt k n) [
        | inl below ↦ took.kept k t (h.whole k t below led)
        | inr here ↦ (let is : k ≡ n = omega (arith, lt, here) in subst (λ m. IsFrom lasts' edges' m t) (sym is) (took.added t (subst (λ m. Q m t) is led)))
      ];
      only = λ k t on. elim (took.only k t on) [ inl was ↦ h.only k t was | inr led ↦ subst (λ m. Q m t) (sym led.0) led.1 ];
    }

    pub have_same : ((t : ℕ) → Q n t → ⊥) → HaveBelow Q (n + 1) lasts edges
    have_same none = record {
      chained = h.chained;
      whole = λ k t lt led. elim (cases_lt k n) [
        | inl below ↦ h.whole k t below led
        | inr here ↦ (let is : k ≡ n = omega (arith, lt, here) in absurd (none t (subst (λ m. Q m t) is led)))
      ];
      only = h.only;
    }

    pub have_all : ((k t : ℕ) → n ≤ k → Q k t → ⊥) → Have Q lasts edges
    have_all none = record { chained = h.chained; whole = λ k t led. elim (cases_lt k n) [ inl below ↦ h.whole k t below led | inr past ↦ absurd (none k t (omega (arith, past)) led) ]; only = h.only }

-- an object that is no table names nothing
pub no_names : (ends : Ends) (S : Rows) (k t : ℕ) → is_table S k ≡ false → Names ends S k t → ⊥
no_names ends S k t isnt led = subst (λ fs. OneOf (KindNames ends) fs t) (no_fields S k isnt) led

pub none_past : (ends : Ends) (S : Rows) (n : ℕ) → length S.objects ≤ n → (k t : ℕ) → n ≤ k → Names ends S k t → ⊥
none_past ends S n most k t low led = no_names ends S k t (past_all S k (omega (arith, most, low))) led

-- an end with an edge has a chain
begins_within : (lasts : List ℕ) (t p : ℕ) → last_to lasts t ≡ suc p → t < length lasts
begins_within [] t p is = absurd (omega (arith, is))
begins_within (x ∷ xs) zero p is = omega arith
begins_within (x ∷ xs) (suc t) p is = let lt = begins_within xs t p is in omega (arith, lt)

on_within : (edges : List Edge) (k : ℕ) (lasts : List ℕ) (t p : ℕ) → last_to lasts t ≡ p → IsOn edges k p → t < length lasts
on_within edges k lasts t p is (is_first q i e at got from) = begins_within lasts t i (is ∙ omega (arith, at))
on_within edges k lasts t p is (is_later q i e at got on) = begins_within lasts t i (is ∙ omega (arith, at))

-- what leads to an object

module _ (D : Demands) (S : Rows) where
  by_name : (t : ℕ) (kind : Kind) → KindNames Objects kind t → KindLeads D S kind t
  by_name t (Table k) h = h
  by_name t (Tables k) h = h
  by_name t (Scalar s) h = absurd h
  by_name t Text h = absurd h
  by_name t (Struct k) h = absurd h
  by_name t (Union e) h = absurd h
  by_name t (Scalars s) h = absurd h
  by_name t Texts h = absurd h
  by_name t (Structs k) h = absurd h
  by_name t (Unions e) h = absurd h

  by_member : (e t : ℕ) → D.unions ≡ false → MemberLeads S e 256 t → (kind : Kind) → KindNames Enums kind e → KindLeads D S kind t
  by_member e t off led (Union j) h = (off, subst (λ j. MemberLeads S j 256 t) h led)
  by_member e t off led (Unions j) h = (off, subst (λ j. MemberLeads S j 256 t) h led)
  by_member e t off led (Table k) h = absurd h
  by_member e t off led (Tables k) h = absurd h
  by_member e t off led (Scalar s) h = absurd h
  by_member e t off led Text h = absurd h
  by_member e t off led (Struct k) h = absurd h
  by_member e t off led (Scalars s) h = absurd h
  by_member e t off led Texts h = absurd h
  by_member e t off led (Structs k) h = absurd h

  -- a field names an object, or a union with a member that does
  abbrev IsNamed : List Live → ℕ → Type 0
  IsNamed fs t = OneOf (KindNames Objects) fs t ⊎ ((D.unions ≡ false) × ((e : ℕ) × OneOf (KindNames Enums) fs e × MemberLeads S e 256 t))

  one_named : (f : Live) (fs : List Live) (t : ℕ) (kind : Kind) → f.kind ≡ kind → KindLeads D S kind t → IsNamed (f ∷ fs) t
  one_named f fs t (Table k) is h = inl (inl (subst (λ kind. KindNames Objects kind t) (sym is) h))
  one_named f fs t (Tables k) is h = inl (inl (subst (λ kind. KindNames Objects kind t) (sym is) h))
  one_named f fs t (Union e) is h = inr (h.0, (e, inl (subst (λ kind. KindNames Enums kind e) (sym is) refl), h.1))
  one_named f fs t (Unions e) is h = inr (h.0, (e, inl (subst (λ kind. KindNames Enums kind e) (sym is) refl), h.1))
  one_named f fs t (Scalar s) is h = absurd h
  one_named f fs t Text is h = absurd h
  one_named f fs t (Struct k) is h = absurd h
  one_named f fs t (Scalars s) is h = absurd h
  one_named f fs t Texts is h = absurd h
  one_named f fs t (Structs k) is h = absurd h

  named : (fs : List Live) (t : ℕ) → OneOf (KindLeads D S) fs t → IsNamed fs t
  named [] t h = absurd h
  named (f ∷ fs) t (inl h) = one_named f fs t f.kind refl h
  named (f ∷ fs) t (inr h) = elim (named fs t h) [ inl l ↦ inl (inr l) | inr r ↦ inr (r.0, ((r.1).0, inr (r.1).1, (r.1).2)) ]

  module _ (tables : List ℕ) (to_tables : List Edge) (h : Have (Names Objects S) tables to_tables) where
    -- where unions are asked themselves
    pub leads_alone : (unions : List ℕ) (to_unions : List Edge) (members : List ℕ) (to_members : List Edge) → D.unions ≡ true → HasNone unions to_unions → HasNone members to_members → AreLeads D S tables to_tables unions to_unions members to_members
    leads_alone unions to_unions members to_members on no_unions no_members =
        let u = none_have (λ k e. ⊥) unions to_unions no_unions in
        let m = none_have (λ e t. ⊥) members to_members no_members in
        record {
          of_tables = h.chained;
          of_unions = u.chained;
          of_members = m.chained;
          whole = λ k t led. elim (named (live_fields S k) t led) [ inl l ↦ inl (h.whole k t l) | inr r ↦ absurd (let w : true ≡ false = sym on ∙ r.0 in cc) ];
          only = λ k t led. elim led [ inl l ↦ among_as (KindNames Objects) (KindLeads D S) t t (by_name t) (live_fields S k) (h.only k t l) | inr r ↦ absurd (u.only k r.0 r.1) ];
        }

    -- and where they aren't
    pub leads_all : (unions : List ℕ) (to_unions : List Edge) (members : List ℕ) (to_members : List Edge) (n : ℕ) → D.unions ≡ false → Have (Names Enums S) unions to_unions → length unions ≤ n → HaveBelow (λ e t. MemberLeads S e 256 t) n members to_members → AreLeads D S tables to_tables unions to_unions members to_members
    leads_all unions to_unions members to_members n off u most m = record {
      of_tables = h.chained;
      of_unions = u.chained;
      of_members = m.chained;
      whole = λ k t led. elim (named (live_fields S k) t led) [
        | inl l ↦ inl (h.whole k t l)
        | inr r ↦
            let e = (r.1).0 in
            let on = u.whole k e (r.1).1 in
            let low = on_within to_unions k unions e _ refl on in
            inr (e, on, m.whole e t (omega (arith, low, most)) (r.1).2)
      ];
      only = λ k t led. elim led [
        | inl l ↦ among_as (KindNames Objects) (KindLeads D S) t t (by_name t) (live_fields S k) (h.only k t l)
        | inr r ↦ among_as (KindNames Enums) (KindLeads D S) r.0 t (by_member r.0 t off (m.only r.0 t r.2)) (live_fields S k) (u.only k r.0 r.1)
      ];
    }
