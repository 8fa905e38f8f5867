-- All that is asked of a tree finds nothing exactly where the tree is strict.
use Rattle.std.proofs.Common.{◌≡◌, ◌↔◌, ℕ, zero, suc, ◌+◌, ◌*◌, ◌<◌, ◌≤◌, List, [], ◌∷◌, ◌++◌, length, arith, Option, Some, None, Bool, true, false, refl, sym, subst, ◌∙◌, if◌then◌else◌}
use Rattle.std.specs.Prelude.{slice_get, ◌≢◌}
use Rattle.std.proofs.lemmas.{Bool.Decides.nat_tests, List.Sums.sum_by-cons}
use Rattle.fb_bytes.specs.Word.{word}
use Rattle.fb_schema.specs.declared.kinds.Kind.{Kind, TheVariants.Scalar, TheVariants.Text, TheVariants.Struct, TheVariants.Table, TheVariants.Union, TheVariants.Scalars}
use Rattle.fb_schema.specs.declared.kinds.Kind.TheVariants.{Texts, Structs, Tables, Unions}
use Rattle.fb_schema.specs.{Rows.Rows, Live.Live, Live.live_fields}
use Rattle.fb_rules.specs.{declared.checks.Checks.Checks, declared.fault.Fault.Fault, declared.fault.Reason.TheVariants.TooManyReads, declared.link.Link.Link, Links.field_link}
use Rattle.fb_rules.specs.{Links.element_link, Bounds.Bounds, Bounds.AreAllowed, Bounds.allowed, Stops.reads_failure, Places.target, Places.field_place, Places.vtable, Fields.Lead}
use Rattle.fb_rules.specs.Fields.{to_table, to_struct, to_string, to_nothing, Entry, union_row, entries_at, entries_of, entries, type_place, types_begin}
use Rattle.fb_rules.specs.{Order.Failure, Order.check, Order.after, Order.◌▷◌, Tree.Tree, Tree.node, Tree.Kids, Tree.no_kids, Tree.kid, Tree.Elements, Tree.no_elements}
use Rattle.fb_rules.specs.{Tree.element, Tree.Element, Tree.leaf, Tree.table, Unfolds.Unfolds, Unfolds.FieldsUnfold, Unfolds.ElementsUnfold, Unfolds.ElementUnfolds}
use Rattle.fb_rules.specs.{Cost.slot_reads, declared.offset_row.Leads.Leads, declared.offset_row.Leads.TheVariants.All, declared.offset_row.Leads.TheVariants.ByType}
use Rattle.fb_rules.specs.declared.offset_row.Referent.{Referent, TheVariants.Text as AText, TheVariants.Table as ATable, TheVariants.Struct as AStruct, TheVariants.Nothing}
use Rattle.fb_rules.specs.OffsetRows.{leads_after}
use Rattle.fb_strict.specs.Strict.{IsFlexless, IsStrict, KidsAreStrict, ElementsAreStrict, ElementIsStrict, IsStrictField, HasStrictUnions, IsUtf8At, AreUtf8, IsLiveSlot}
use Rattle.fb_strict.specs.{Strict.HasKnownFields, Strict.slot_count, InOrder.where_asked, InOrder.length_failure, InOrder.union_failure, InOrder.together_failure}
use Rattle.fb_strict.specs.{InOrder.element_failure, Demanded.held_of, declared.tasks.Held.Held, declared.tasks.Held.TheVariants.Buffer, declared.tasks.Held.TheVariants.Flex}
use Rattle.fb_strict.specs.{InOrder.flex_failure, Skipped.Wants, Skipped.is_kind_asked, Skipped.IsClosed, Asked.Demand, Asked.held_demands, Asked.AreMet, Asked.slots_from}
use Rattle.fb_strict.specs.Asked.{slots_demands, field_demands, row_leads, row_place, first_referent, element_demands, object_of, demands_in, demands_in_fields, demands_in_row}
use Rattle.fb_strict.specs.Asked.{demands_below, demands_reads, demand_fault, first_fault, DemandsLaw, FirstLaw}
use Rattle.fb_strict.proofs.{Referents.IsAnswered, Referents.IsRowOf, Referents.row_at, Chains.union_none, Chains.unions_none, Chains.text_none, Chains.slot_none, Skips.skips}
use Rattle.fb_strict.proofs.Skips.{strict_field, strict_elements, quiet_entries}

joined : (xs ys : List Demand) → AreMet (xs ++ ys) ↔ (AreMet xs × AreMet ys)
joined [] ys = ((λ h. (tt, h)), (λ h. h.1))
joined (x ∷ xs) ys =
    let r = joined xs ys in
    ((λ h. ((h.0, (r.0 h.1).0), (r.0 h.1).1)), (λ h. (h.0.0, r.1 (h.0.1, h.1))))

later : (n : ℕ) (e : Option Failure) → (after n e ≡ None) ↔ (e ≡ None)
later n None = ((λ h. refl), (λ h. refl))
later n (Some e) = ((λ h. absurd (cc)), (λ h. absurd (cc)))

-- a chain that isn't asked finds nothing
gated : (x : Bool) (e : Option Failure) → (where_asked x e ≡ None) ↔ (x ≡ true → e ≡ None)
gated true e = ((λ h on. h), (λ h. h refl))
gated false e = ((λ h on. absurd (cc)), (λ h. refl))

module _ (w : Wants) (S : Rows) (closed : IsClosed w S) (c : Checks) (b : List ℕ) where
  -- the chains of n uoffsets from p on, whose types stand from q on
  abbrev AllTold : (e q p n : ℕ) → Type 0
  AllTold e q p n = (j : ℕ) → j < n → where_asked w.demands.unions (element_failure c b S e (q + j) (p + 4 * j)) ≡ None

  abbrev Told : (e q p : ℕ) → Type 0
  Told e q p = where_asked w.demands.unions (element_failure c b S e q p) ≡ None

  told_first : (e q p n : ℕ) → AllTold e q p (suc n) → Told e q p
  told_first e q p n h =
      let one = h 0 (omega arith) in
      let z : q + 0 ≡ q = omega arith in
      let v : p + 4 * 0 ≡ p = omega arith in
      subst (λ x. Told e q x) v (subst (λ x. Told e x (p + 4 * 0)) z one)

  told_rest : (e q p n : ℕ) → AllTold e q p (suc n) → AllTold e (q + 1) (p + 4) n
  told_rest e q p n h j lt =
      let one = h (suc j) (omega arith) in
      let z : q + suc j ≡ q + 1 + j = omega arith in
      let v : p + 4 * suc j ≡ p + 4 + 4 * j = omega arith in
      subst (λ x. Told e (q + 1 + j) x) v (subst (λ x. Told e x (p + 4 * suc j)) z one)

  told_all : (e q p n : ℕ) → Told e q p → AllTold e (q + 1) (p + 4) n → AllTold e q p (suc n)
  told_all e q p n one rest zero lt = let z : q + 0 ≡ q = omega arith in let v : p + 4 * 0 ≡ p = omega arith in rw (z, v) one
  told_all e q p n one rest (suc j) lt =
      let z : q + 1 + j ≡ q + suc j = omega arith in
      let v : p + 4 + 4 * j ≡ p + 4 * suc j = omega arith in
      subst (λ x. Told e (q + suc j) x) v (subst (λ x. Told e x (p + 4 + 4 * j)) z (rest j (omega arith)))

  -- each of these fields is strict
  abbrev AreStrictFields : (t : ℕ) → List Live → Type 0
  AreStrictFields t fs = (i : ℕ) (f : Live) → slice_get fs i ≡ Some f → IsStrictField w.demands c b S t f

  first_field : (t : ℕ) (f : Live) (fs : List Live) → IsStrictField w.demands c b S t f → AreStrictFields t fs → AreStrictFields t (f ∷ fs)
  first_field t f fs h hs zero g e = let same : f ≡ g = cc in subst (IsStrictField w.demands c b S t) same h
  first_field t f fs h hs (suc i) g e = hs i g e

  -- none of these fields of the object k holds a flexbuffer
  abbrev AreFlexless : (k t : ℕ) → List Live → Type 0
  AreFlexless k t fs = (i : ℕ) (f : Live) → slice_get fs i ≡ Some f → IsFlexless b t f (held_of w.demands k f)

  first_flexless : (k t : ℕ) (f : Live) (fs : List Live) → IsFlexless b t f (held_of w.demands k f) → AreFlexless k t fs → AreFlexless k t (f ∷ fs)
  first_flexless k t f fs h hs zero g e = let same : f ≡ g = cc in subst (λ (x : Live). IsFlexless b t x (held_of w.demands k x)) same h
  first_flexless k t f fs h hs (suc i) g e = hs i g e

  flex_tells : (n : ℕ) (place : Option ℕ) → (after n (flex_failure place) ≡ None) ↔ (place ≡ None)
  flex_tells n None = ((λ h. refl), (λ h. refl))
  flex_tells n (Some p) = ((λ h. absurd (cc)), (λ h. absurd (cc)))

  held_tells : (links : List Link) (k n t : ℕ) (f : Live) (o : Option Held) → AreMet (held_demands b links k n t f.slot (field_place b t f.slot) o) ↔ IsFlexless b t f o
  held_tells links k n t f None = ((λ h. tt), (λ h. tt))
  held_tells links k n t f (Some (Buffer root)) = ((λ h. tt), (λ h. (refl, tt)))
  held_tells links k n t f (Some Flex) = let r = flex_tells (slot_reads b t f.slot) (field_place b t f.slot) in ((λ h. r.0 h.0), (λ h. (r.1 h, tt)))

  -- the chain of a uoffset whose type tells what it leads to, and those of a row
  abbrev WordTold : Leads → ℕ → Type 0
  WordTold (All referent) p = Unit {0}
  WordTold (ByType e q) p = Told e q p

  unfoldable WordsTold : Leads → ℕ → List Entry → Type 0
  WordsTold leads p [] = Unit {0}
  WordsTold leads p (x ∷ xs) = WordTold leads p × WordsTold (leads_after leads) (p + 4) xs

  no_types : (referent : Referent) (p : ℕ) (xs : List Entry) → WordsTold (All referent) p xs
  unfolding WordsTold
  no_types referent p [] = tt
  no_types referent p (x ∷ xs) = (tt, no_types referent (p + 4) xs)

  types_told : (e q p m : ℕ) → WordsTold (ByType e q) p (union_row b S e q p m) ↔ AllTold e q p m
  unfolding WordsTold union_row
  types_told e q p zero = ((λ h j lt. absurd (omega (arith, lt))), (λ h. tt))
  types_told e q p (suc m) =
      let rest = types_told e (q + 1) (p + 4) m in
      ((λ h. told_all e q p m h.0 (rest.0 h.1)), (λ h. (told_first e q p m h, rest.1 (told_rest e q p m h))))

  word_told : (links : List Link) (k n p : ℕ) (leads : Leads) → AreMet (element_demands w.demands c b S links k n p leads) ↔ WordTold leads p
  word_told links k n p (All referent) = ((λ h. tt), (λ h. tt))
  word_told links k n p (ByType e q) = ((λ h. h.0), (λ h. (h, tt)))

  -- the texts to which these uoffsets lead, where they are asked
  abbrev TextsHold : List Entry → Type 0
  TextsHold xs = w.demands.utf8 ≡ true → AreUtf8 b xs

  abbrev TextHolds : Entry → Type 0
  TextHolds x = w.demands.utf8 ≡ true → x.lead ≡ to_string → IsUtf8At b (target b x.place)

  texts_more : (x : Entry) (xs : List Entry) → TextHolds x → TextsHold xs → TextsHold (x ∷ xs)
  texts_more x xs one rest on zero y at text = let same : x ≡ y = cc in subst (λ (z : Entry). z.lead ≡ to_string → IsUtf8At b (target b z.place)) same (one on) text
  texts_more x xs one rest on (suc i) y at text = rest on i y at text

  -- a row of uoffsets
  abbrev RowTells : Elements → Type 0
  RowTells ys =
      (way : ℕ → List Link) (xs : List Entry) (leads : Leads) (k n j p : ℕ) → IsRowOf w S b leads p xs → ElementsUnfold ys c b S xs
      → AreMet (demands_in_row ys w c b S way k n j p leads) ↔ (WordsTold leads p xs × TextsHold xs × ElementsAreStrict ys w.demands c b S)

  -- a field by itself
  module _ (links : List Link) (k t : ℕ) (f : Live) where
    abbrev types : Option ℕ
    types = type_place b t f.slot

    abbrev OwnTells : (place : Option ℕ) → Kind → List Entry → Type 0
    OwnTells place kind xs =
        (AreMet (field_demands w.demands c b S links k f.number t f.slot types place kind) × WordsTold (row_leads w b S types kind) (row_place b place kind) xs) ↔ (w.demands.unions ≡ true → HasStrictUnions c b S types place kind)

    -- what is no union
    plain : (place : Option ℕ) (kind : Kind) (xs : List Entry) → AreMet (field_demands w.demands c b S links k f.number t f.slot types place kind) → WordsTold (row_leads w b S types kind) (row_place b place kind) xs
        → (w.demands.unions ≡ true → HasStrictUnions c b S types place kind) → OwnTells place kind xs
    plain place kind xs met told holds = ((λ h. holds), (λ h. (met, told)))

    union_tells : (e : ℕ) (place : Option ℕ) (xs : List Entry) → OwnTells place (Union e) xs
    union_tells e place xs =
        let l = later _ (where_asked w.demands.unions (union_failure c b S e t types place)) in
        let v = union_none c b S e t types place in
        let g = gated w.demands.unions _ in
        ((λ h on. v.0 (g.0 (l.0 h.0.0) on)), (λ h. ((l.1 (g.1 (λ on. v.1 (h on))), tt), no_types _ (row_place b place (Union e)) xs)))

    of_none : (kind : Kind) → OwnTells None kind []
    unfolding WordsTold
    of_none (Scalar s) = plain None (Scalar s) [] tt tt (λ on. tt)
    of_none Text = plain None Text [] (refl, tt) tt (λ on. tt)
    of_none (Struct j) = plain None (Struct j) [] tt tt (λ on. tt)
    of_none (Table j) = plain None (Table j) [] (refl, tt) tt (λ on. tt)
    of_none (Union e) = union_tells e None []
    of_none (Scalars s) = plain None (Scalars s) [] tt tt (λ on. tt)
    of_none Texts = plain None Texts [] (refl, tt) tt (λ on. tt)
    of_none (Structs j) = plain None (Structs j) [] tt tt (λ on. tt)
    of_none (Tables j) = plain None (Tables j) [] (refl, tt) tt (λ on. tt)
    of_none (Unions e) =
        let l = later _ (where_asked w.demands.unions (together_failure types None)) in
        let v = unions_none c b S e types None in
        let g = gated w.demands.unions _ in
        ((λ h on. v.0 (g.0 (l.0 h.0.0) on, λ p j is lt. absurd (cc))), (λ h. ((l.1 (g.1 (λ on. (v.1 (h on)).0)), tt), tt)))

    of_some : (p : ℕ) (kind : Kind) → OwnTells (Some p) kind (entries_of b S t f p kind)
    of_some p (Scalar s) = plain (Some p) (Scalar s) _ tt (no_types Nothing p _) (λ on. tt)
    of_some p Text = plain (Some p) Text _ (refl, tt) (no_types AText p _) (λ on. tt)
    of_some p (Struct j) = plain (Some p) (Struct j) _ tt (no_types Nothing p _) (λ on. tt)
    of_some p (Table j) = plain (Some p) (Table j) _ (refl, tt) (no_types (ATable j) p _) (λ on. tt)
    of_some p (Union e) = union_tells e (Some p) _
    of_some p (Scalars s) = plain (Some p) (Scalars s) _ tt (no_types Nothing p _) (λ on. tt)
    of_some p Texts = plain (Some p) Texts _ (refl, tt) (no_types AText _ _) (λ on. tt)
    of_some p (Structs j) = plain (Some p) (Structs j) _ tt (no_types Nothing p _) (λ on. tt)
    of_some p (Tables j) = plain (Some p) (Tables j) _ (refl, tt) (no_types (ATable j) _ _) (λ on. tt)
    of_some p (Unions e) =
        let r = types_told e (types_begin b types) (target b p + 4) (word b (target b p) 4) in
        let l = later _ (where_asked w.demands.unions (together_failure types (Some p))) in
        let v = unions_none c b S e types (Some p) in
        let g = gated w.demands.unions _ in (
          (λ h on. v.0 (g.0 (l.0 h.0.0) on, λ o j is lt. of_word e p o is j lt on (r.0 h.1))),
          (λ h. ((l.1 (g.1 (λ on. (v.1 (h on)).0)), tt), r.1 (λ j lt. (gated w.demands.unions _).1 (λ on. (v.1 (h on)).1 p j refl lt)))),
        )
      where
        of_word : (e p o : ℕ) → Some p ≡ Some o → (j : ℕ) → j < word b (target b o) 4 → w.demands.unions ≡ true → AllTold e (types_begin b types) (target b p + 4) (word b (target b p) 4)
            → element_failure c b S e (types_begin b types + j) (target b o + 4 + 4 * j) ≡ None
        of_word e p o is j lt on all =
            let same : p ≡ o = cc in
            subst (λ x. j < word b (target b x) 4 → element_failure c b S e (types_begin b types + j) (target b x + 4 + 4 * j) ≡ None) same (λ low. (gated w.demands.unions _).0 (all j low) on) lt

    own : (place : Option ℕ) → OwnTells place f.kind (entries_at b S t f place)
    own None = of_none f.kind
    own (Some p) = of_some p f.kind

    -- with its row, where it is asked, or not
    of_field : (way : ℕ → List Link) (ys : Elements) → RowTells ys → (x : Bool) → is_kind_asked w S f.kind ≡ x → ElementsUnfold ys c b S (entries b S t f)
        → AreMet (if x
        then field_demands w.demands c b S links k f.number t f.slot types (field_place b t f.slot) f.kind
        ++ demands_in_row ys w c b S way k f.number 0 (row_place b (field_place b t f.slot) f.kind) (row_leads w b S types f.kind)
        else []) ↔ (IsStrictField w.demands c b S t f × ElementsAreStrict ys w.demands c b S)
    unfolding entries
    of_field way ys row true is u =
        let place = field_place b t f.slot in
        let o = own place in
        let r = row way (entries_at b S t f place) (row_leads w b S types f.kind) k f.number 0 (row_place b place f.kind) (row_at w S b t f place is) u in
        let two = joined (field_demands w.demands c b S links k f.number t f.slot types place f.kind) (demands_in_row ys w c b S way k f.number 0 (row_place b place f.kind) (row_leads w b S types f.kind)) in (
          (λ h. let m = two.0 h in let z = r.0 m.1 in (record { unions = o.0 (m.0, z.0); texts = z.1 }, z.2)),
          (λ h. let m = o.1 (h.0).unions in two.1 (m.0, r.1 (m.1, (h.0).texts, h.1))),
        )
    of_field way ys row false is u = ((λ h. (strict_field w S c b t f is, strict_elements w S closed c b ys (entries b S t f) (quiet_entries w S b t f is) u)), (λ h. tt))

  -- the slots of a table
  module _ (via : List Link) (k t : ℕ) where
    abbrev Known : (slot : ℕ) → Type 0
    Known slot = word b (vtable b t + slot) 2 ≢ 0 → IsLiveSlot S k slot

    slots_told : (n slot : ℕ) → AreMet (slots_from b S via k t n slot) ↔ ((i : ℕ) → i < n → Known (slot + 2 * i))
    unfolding slots_from
    slots_told zero slot = ((λ h i lt. absurd (omega (arith, lt))), (λ h. tt))
    slots_told (suc n) slot =
        let one = slot_none b S k (vtable b t) slot in
        let rest = slots_told n (slot + 2) in
        ((λ h i lt. at_each n slot (one.0 h.0) (rest.0 h.1) i lt), (λ h. (one.1 (let z : slot + 2 * 0 ≡ slot = omega arith in subst Known z (h 0 (omega arith))), rest.1 (λ i lt. let z : slot + 2 * suc i ≡ slot + 2 + 2 * i = omega arith in subst Known z (h (suc i) (omega (arith, lt)))))))
      where
        at_each : (n slot : ℕ) → Known slot → ((i : ℕ) → i < n → Known (slot + 2 + 2 * i)) → (i : ℕ) → i < suc n → Known (slot + 2 * i)
        at_each n slot one rest zero lt = let z : slot ≡ slot + 2 * 0 = omega arith in subst Known z one
        at_each n slot one rest (suc i) lt = let z : slot + 2 + 2 * i ≡ slot + 2 * suc i = omega arith in subst Known z (rest i (omega (arith, lt)))

    slots : (x : Bool) → AreMet (if x then slots_from b S via k t (slot_count b t) 4 else []) ↔ (x ≡ true → HasKnownFields b S k t)
    slots true = let s = slots_told (slot_count b t) 4 in ((λ h on. s.0 h), (λ h. s.1 (h refl)))
    slots false = ((λ h on. absurd (cc)), (λ h. tt))

  pub object_is : (y : Tree) (k t : ℕ) → Unfolds y c b S k t → object_of y ≡ k
  unfolding Unfolds
  object_is (node k' t' kids) k t h = h.0

  by_ask : (x : Bool) (d : Demand) (ds : List Demand) (y : Tree) → d.chain ≡ None → (x ≡ false → IsStrict y w.demands c b S) → AreMet ds ↔ IsStrict y w.demands c b S → AreMet (if x then d ∷ ds else []) ↔ IsStrict y w.demands c b S
  by_ask true d ds y one skip r = ((λ h. r.0 h.1), (λ h. (one, r.1 h)))
  by_ask false d ds y one skip r = ((λ h. skip refl), (λ h. tt))

  by_root : (root : ℕ) (ds : List Demand) (y : Tree) → (w.asks root ≡ false → IsStrict y w.demands c b S) → AreMet ds ↔ IsStrict y w.demands c b S → (x : Bool) → w.asks root ≡ x → AreMet (if x then ds else []) ↔ IsStrict y w.demands c b S
  by_root root ds y skip r true is = r
  by_root root ds y skip r false is = ((λ h. skip is), (λ h. tt))

  mutual
    unfolding Unfolds FieldsUnfold ElementsUnfold ElementUnfolds IsStrict KidsAreStrict ElementsAreStrict ElementIsStrict demands_in demands_in_fields demands_in_row demands_below entries WordsTold IsRowOf

    tree : (y : Tree) (via : List Link) (k t : ℕ) → Unfolds y c b S k t → AreMet (demands_in y w c b S via) ↔ IsStrict y w.demands c b S
    tree (node k' t' kids) via k t u =
        let r = fields kids via k' t' (live_fields S k') (rw (u.0, u.1) u.3) in
        let s = slots via k' t' w.demands.known_fields in
        let two = joined (slots_demands w.demands b S via k' t') (demands_in_fields kids w c b S via k' t' (live_fields S k')) in (
          (λ h. let m = two.0 h.1 in let o = r.0 m.1 in (record { known = s.0 m.0; fields = o.0.0; flexless = o.0.1 }, o.1)),
          (λ h. (refl, two.1 (s.1 (h.0).known, r.1 (((h.0).fields, (h.0).flexless), h.1)))),
        )

    fields : (kids : Kids) (via : List Link) (k t : ℕ) (fs : List Live) → FieldsUnfold kids c b S t fs → AreMet (demands_in_fields kids w c b S via k t fs) ↔ ((AreStrictFields t fs × AreFlexless k t fs) × KidsAreStrict kids w.demands c b S)
    fields no_kids via k t [] u = ((λ h. (((λ i f e. absurd (cc)), (λ i f e. absurd (cc))), tt)), (λ h. tt))
    fields no_kids via k t (f ∷ fs) u = absurd u
    fields (kid ys kids) via k t [] u = absurd u
    fields (kid ys kids) via k t (f ∷ fs) u =
        let links = via ++ field_link k f ∷ [] in
        let own = of_field links k t f (λ j. via ++ element_link b k t f j ∷ []) ys (row_tells ys) (is_kind_asked w S f.kind) refl u.1 in
        let rest = fields kids via k t fs u.2 in
        let held = held_tells links k f.number t f (held_of w.demands k f) in
        let both = (if is_kind_asked w S f.kind
        then field_demands w.demands c b S links k f.number t f.slot (type_place b t f.slot) (field_place b t f.slot) f.kind
        ++ demands_in_row ys w c b S (λ j. via ++ element_link b k t f j ∷ []) k f.number 0 (row_place b (field_place b t f.slot) f.kind) (row_leads w b S (type_place b t f.slot) f.kind)
        else []) in
        let one = joined both (demands_in_fields kids w c b S via k t fs) in
        let all = joined (held_demands b links k f.number t f.slot (field_place b t f.slot) (held_of w.demands k f)) (both ++ demands_in_fields kids w c b S via k t fs) in (
          (λ h. let a = all.0 h in let x = one.0 a.1 in let o = own.0 x.0 in let r = rest.0 x.1 in ((first_field t f fs o.0 r.0.0, first_flexless k t f fs (held.0 a.0) r.0.1), (o.1, r.1))),
          (λ h. all.1 (held.1 (h.0.1 0 f refl), one.1 (own.1 (h.0.0 0 f refl, h.1.0), rest.1 (((λ i g e. h.0.0 (suc i) g e), (λ i g e. h.0.1 (suc i) g e)), h.1.1)))),
        )

    row_tells : (ys : Elements) → RowTells ys
    row_tells no_elements way [] leads k n j p is u = ((λ h. (tt, (λ on i x at. absurd (cc)), tt)), (λ h. tt))
    row_tells no_elements way (x ∷ xs) leads k n j p is u = absurd u
    row_tells (element y ys) way [] leads k n j p is u = absurd u
    row_tells (element y ys) way (x ∷ xs) leads k n j p is u =
        let one = below y x.lead (first_referent w b S leads) (way j) k n p is.1 (rw is.0 at u.0) in
        let rest = row_tells ys way xs (leads_after leads) k n (j + 1) (p + 4) is.2 u.1 in
        let told = word_told (way j) k n p leads in
        let own = joined (element_demands w.demands c b S (way j) k n p leads)
        (demands_below y w c b S (way j) k n p (first_referent w b S leads) ++ demands_in_row ys w c b S way k n (j + 1) (p + 4) (leads_after leads)) in
        let two = joined (demands_below y w c b S (way j) k n p (first_referent w b S leads)) (demands_in_row ys w c b S way k n (j + 1) (p + 4) (leads_after leads)) in (
          (λ h.
              let a = own.0 h in
              let z = two.0 a.1 in
              let here = one.0 z.0 in
              let r = rest.0 z.1 in
              ((told.0 a.0, r.0), texts_more x xs (λ on text. rw is.0 (here.0 on text)) r.1, (here.1, r.2))),
          (λ h. own.1 (told.1 h.0.0, two.1 (one.1 ((λ on text. rw is.0 at (h.1 on 0 x refl text)), h.2.0), rest.1 (h.0.1, (λ on i z at text. h.1 on (suc i) z at text), h.2.1)))),
        )

    below : (y : Element) (lead : Lead) (referent : Referent) (links : List Link) (k n p : ℕ) → IsAnswered w referent lead → ElementUnfolds y c b S p lead
        → AreMet (demands_below y w c b S links k n p referent) ↔ ((w.demands.utf8 ≡ true → lead ≡ to_string → IsUtf8At b (target b p)) × ElementIsStrict y w.demands c b S)
    below leaf lead AText links k n p a u =
        let t = a.text refl in
        let v = text_none b (target b p) in
        ((λ h. ((λ on text. v.0 h.1.0), tt)), (λ h. (refl, (v.1 (h.0 t.1 t.0), tt))))
    below leaf lead (ATable i) links k n p a u = ((λ h. ((λ on text. absurd (let z = a.whole on text in cc)), tt)), (λ h. tt))
    below leaf lead (AStruct size align) links k n p a u = ((λ h. ((λ on text. absurd (let z = a.whole on text in cc)), tt)), (λ h. tt))
    below leaf lead Nothing links k n p a u = ((λ h. ((λ on text. absurd (let z = a.whole on text in cc)), tt)), (λ h. tt))
    below (table y) (to_table j) referent links k n p a u =
        let r = by_ask (w.asks (object_of y)) _ (demands_in y w c b S links) y refl
        (λ no. skips w S closed y c b j (target b p) (subst (λ x. w.asks x ≡ false) (object_is y j (target b p) u.1) no) u.1) (tree y links j (target b p) u.1) in
        ((λ h. ((λ on text. absurd (cc)), r.0 h)), (λ h. r.1 h.1))
    below (table y) (to_struct size align) referent links k n p a u = absurd u
    below (table y) to_string referent links k n p a u = absurd u
    below (table y) to_nothing referent links k n p a u = absurd u

length_none : (b : List ℕ) → (length_failure b ≡ None) ↔ (12 ≤ length b)
length_none b = grind (arith, nat_tests)

pub demands_tell : DemandsLaw
demands_tell w S closed y c b root t u =
    let r = by_root w S closed c b root (demands_in y w c b S []) y (λ no. skips w S closed y c b root t no u) (tree w S closed c b y [] root t u) (w.asks root) refl in
    let g = gated w.demands.unions (length_failure b) in
    ((λ h. record { long = λ on. (length_none b).0 (g.0 h.0 on); tables = r.0 h.1 }), (λ h. (g.1 (λ on. (length_none b).1 (h.long on)), r.1 h.tables)))

-- the first demand that isn't met

less_allowed : (o : Option ℕ) (m n : ℕ) → m ≤ n → AreAllowed o n → AreAllowed o m
less_allowed None m n lt h = tt
less_allowed (Some most) m n lt h = omega arith

pub told_allowed : (o : Option ℕ) (n : ℕ) → (allowed o n ≡ true) ↔ AreAllowed o n
told_allowed None n = ((λ h. tt), (λ h. refl))
told_allowed (Some most) n = grind (arith, nat_tests)

-- a demand that is met is passed
pub passed : (L : Bounds) (paid : ℕ) (d : Demand) (rest : Option Fault) → d.chain ≡ None → AreAllowed L.reads (paid + d.reads) → (demand_fault d paid (d.chain ▷ reads_failure L paid d.reads d.at) ▷ rest) ≡ rest
passed L paid d rest is a = rw is (let ok = (told_allowed L.reads (paid + d.reads)).1 a in rw ok refl)

by_budget : (L : Bounds) (paid : ℕ) (d : Demand) (rest : Option Fault) (x : Bool) → allowed L.reads (paid + d.reads) ≡ x → (demand_fault d paid (check x TooManyReads d.at d.reads None) ▷ rest) ≡ None
    → AreAllowed L.reads (paid + d.reads) × (rest ≡ None)
by_budget L paid d rest true is h = ((told_allowed L.reads (paid + d.reads)).0 is, h)
by_budget L paid d rest false is h = absurd (cc)

-- one that is met first, and what comes after it
pub first_met : (L : Bounds) (paid : ℕ) (d : Demand) (rest : Option Fault) (chain : Option Failure) → (demand_fault d paid (chain ▷ reads_failure L paid d.reads d.at) ▷ rest) ≡ None
    → (chain ≡ None) × AreAllowed L.reads (paid + d.reads) × (rest ≡ None)
first_met L paid d rest None h = let r = by_budget L paid d rest (allowed L.reads (paid + d.reads)) refl h in (refl, r.0, r.1)
first_met L paid d rest (Some e) h = absurd (cc)

pub first_tells : FirstLaw
unfolding first_fault
first_tells L [] paid a = ((λ h. (tt, less_allowed L.reads (paid + 0) paid (omega arith) a)), (λ h. refl))
first_tells L (d ∷ ds) paid a =
    let sum : paid + demands_reads (d ∷ ds) ≡ paid + d.reads + demands_reads ds = let s = sum_by-cons (λ (x : Demand). x.reads) d ds in omega (arith, s) in (
      (λ h. let o = first_met L paid d _ d.chain h in let r = (first_tells L ds (paid + d.reads) o.1).0 o.2 in ((o.0, r.0), subst (AreAllowed L.reads) (sym sum) r.1)),
      (λ h. let all = subst (AreAllowed L.reads) sum h.1 in let one = less_allowed L.reads (paid + d.reads) _ (omega arith) all in
          passed L paid d _ h.0.0 one ∙ (first_tells L ds (paid + d.reads) one).1 (h.0.1, all)),
    )
