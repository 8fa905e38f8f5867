-- What isn't asked may be passed by.
use Rattle.std.proofs.Common.{◌≡◌, ℕ, zero, suc, ◌+◌, ◌<◌, List, [], ◌∷◌, arith, inl, inr, Option, Some, None, false, subst, ap, ◌∙◌, sym}
use Rattle.std.specs.Prelude.{slice_get, true, is_some}
use Rattle.std.specs.List.{list_any}
use Rattle.fb_schema.specs.declared.kinds.Kind.{Kind, TheVariants.Scalar, TheVariants.Text, TheVariants.Struct, TheVariants.Table, TheVariants.Union, TheVariants.Scalars}
use Rattle.fb_schema.specs.declared.kinds.Kind.TheVariants.{Texts, Structs, Tables, Unions}
use Rattle.fb_schema.specs.{Rows.Rows, Live.Live, Live.live_fields, Members.member_of}
use Rattle.std.proofs.lemmas.Bool.{cases_lt}
use Rattle.fb_bytes.specs.Word.{word}
use Rattle.fb_rules.specs.{declared.checks.Checks.Checks, Places.target, Places.field_place, Fields.type_place, Fields.union_type, Fields.Lead, Fields.lead_of, Fields.to_table}
use Rattle.fb_rules.specs.Fields.{to_struct, to_string, to_nothing, Entry, row, union_row, union_entry, entries_of, entries_at, entries}
use Rattle.fb_rules.specs.Tree.{Tree, node, Kids, no_kids, kid, Elements, no_elements, element, Element, leaf, table}
use Rattle.fb_rules.specs.Unfolds.{Unfolds, FieldsUnfold, ElementsUnfold, ElementUnfolds}
use Rattle.fb_strict.specs.Strict.{IsFlexless, IsStrict, KidsAreStrict, ElementsAreStrict, ElementIsStrict, IsStrictField, HasStrictUnions, AreUtf8}
use Rattle.fb_strict.specs.{Demanded.held_of, declared.tasks.Held.Held, Skipped.Wants, Skipped.is_member_asked, Skipped.some_member, Skipped.is_kind_asked, Skipped.IsClosed}
use Rattle.fb_strict.specs.Skipped.{SkipLaw}
use Rattle.fb_strict.proofs.{Lists.or_false, Members.no_such_member}

module _ (w : Wants) (S : Rows) where
  -- a uoffset that leads to nothing that is asked
  abbrev pub IsQuiet : Lead → Type 0
  IsQuiet (to_table k) = w.asks k ≡ false
  IsQuiet to_string = w.demands.utf8 ≡ false
  IsQuiet _ = Unit {0}

  unfoldable pub AreQuiet : List Entry → Type 0
  AreQuiet [] = Unit {0}
  AreQuiet (x ∷ xs) = IsQuiet x.lead × AreQuiet xs

  quiet_row : (lead : Lead) (p n : ℕ) → IsQuiet lead → AreQuiet (row lead p n)
  unfolding row AreQuiet
  quiet_row lead p zero h = tt
  quiet_row lead p (suc n) h = (h, quiet_row lead (p + 4) n h)

  -- of a union of which no member is asked

  no_member : (e n value : ℕ) → some_member w S e n ≡ false → value < n → is_member_asked w (member_of S e value) ≡ false
  unfolding some_member
  no_member e zero value h lt = absurd (omega (arith, lt))
  no_member e (suc n) value h lt =
      let both = or_false (is_member_asked w (member_of S e n)) (some_member w S e n) h in
      elim (cases_lt value n) [ inl below ↦ no_member e n value both.1 below | inr here ↦ let same : value ≡ n = omega (arith, lt, here) in rw same both.0 ]

  -- of no value at all
  no_member_at : (e value : ℕ) → some_member w S e 256 ≡ false → is_member_asked w (member_of S e value) ≡ false
  no_member_at e value h = elim (cases_lt value 256) [ inl lt ↦ no_member e 256 value h lt | inr past ↦ ap (is_member_asked w) (no_such_member value past S e) ]

  quiet_lead : (o : Option Kind) → is_member_asked w o ≡ false → IsQuiet (lead_of S o)
  quiet_lead o h = grind arith

  quiet_entry : (p : ℕ) (o : Option Kind) → is_member_asked w o ≡ false → AreQuiet (union_entry S p o)
  unfolding AreQuiet
  quiet_entry p None h = tt
  quiet_entry p (Some kind) h = (quiet_lead (Some kind) h, tt)

  quiet_by_types : (b : List ℕ) (e q p n : ℕ) → some_member w S e 256 ≡ false → AreQuiet (union_row b S e q p n)
  unfolding union_row AreQuiet
  quiet_by_types b e q p zero h = tt
  quiet_by_types b e q p (suc n) h = (quiet_lead (member_of S e (word b q 1)) (no_member_at e (word b q 1) h), quiet_by_types b e (q + 1) (p + 4) n h)

  quiet_of : (b : List ℕ) (t : ℕ) (f : Live) (p : ℕ) (kind : Kind) → is_kind_asked w S kind ≡ false → AreQuiet (entries_of b S t f p kind)
  unfolding AreQuiet
  quiet_of b t f p (Union e) h =
      let none = (or_false w.demands.unions (some_member w S e 256) h).1 in
      let type = union_type b (type_place b t f.slot) in
      quiet_entry p (member_of S e type) (no_member_at e type none)
  quiet_of b t f p (Unions e) h = quiet_by_types b e _ _ _ (or_false w.demands.unions (some_member w S e 256) h).1
  quiet_of b t f p (Table k) h = (h, tt)
  quiet_of b t f p (Tables k) h = quiet_row (to_table k) _ _ h
  quiet_of b t f p Text h = (h, tt)
  quiet_of b t f p Texts h = quiet_row to_string _ _ h
  quiet_of b t f p (Scalar s) h = tt
  quiet_of b t f p (Struct k) h = tt
  quiet_of b t f p (Scalars s) h = tt
  quiet_of b t f p (Structs k) h = tt

  quiet_at : (b : List ℕ) (t : ℕ) (f : Live) (place : Option ℕ) → is_kind_asked w S f.kind ≡ false → AreQuiet (entries_at b S t f place)
  unfolding AreQuiet
  quiet_at b t f None h = tt
  quiet_at b t f (Some p) h = quiet_of b t f p f.kind h

  pub quiet_entries : (b : List ℕ) (t : ℕ) (f : Live) → is_kind_asked w S f.kind ≡ false → AreQuiet (entries b S t f)
  unfolding entries
  quiet_entries b t f h = quiet_at b t f (field_place b t f.slot) h

  -- each of these fields isn't asked
  at_each : (fs : List Live) → list_any (λ (f : Live). is_kind_asked w S f.kind) fs ≡ false → (i : ℕ) (f : Live) → slice_get fs i ≡ Some f → is_kind_asked w S f.kind ≡ false
  at_each [] h i f e = absurd (grind arith)
  at_each (g ∷ fs) h zero f e = let same : g ≡ f = cc in subst (λ (x : Live). is_kind_asked w S x.kind ≡ false) same (or_false _ _ h).0
  at_each (g ∷ fs) h (suc i) f e = at_each fs (or_false _ _ h).1 i f e

  -- nor holds anything
  pub held_each : (k : ℕ) (fs : List Live) → list_any (λ (f : Live). is_some (held_of w.demands k f)) fs ≡ false → (i : ℕ) (f : Live) → slice_get fs i ≡ Some f → is_some (held_of w.demands k f) ≡ false
  held_each k [] h i f e = absurd (grind arith)
  held_each k (g ∷ fs) h zero f e = let same : g ≡ f = cc in subst (λ (x : Live). is_some (held_of w.demands k x) ≡ false) same (or_false _ _ h).0
  held_each k (g ∷ fs) h (suc i) f e = held_each k fs (or_false _ _ h).1 i f e

  flexless_by : (b : List ℕ) (t : ℕ) (f : Live) (o : Option Held) → is_some o ≡ false → IsFlexless b t f o
  flexless_by b t f None h = tt
  flexless_by b t f (Some held) h = absurd (cc)

  no_unions : (c : Checks) (b : List ℕ) (types place : Option ℕ) (kind : Kind) → is_kind_asked w S kind ≡ false → w.demands.unions ≡ true → HasStrictUnions c b S types place kind
  no_unions c b types place kind h on = grind arith

  -- so it leads to no text that is asked
  no_texts : (b : List ℕ) (xs : List Entry) → AreQuiet xs → w.demands.utf8 ≡ true → AreUtf8 b xs
  unfolding AreQuiet
  no_texts b [] q on i x at text = absurd (cc)
  no_texts b (y ∷ xs) q on zero x at text = absurd (
      let same : y ≡ x = cc in
      let lead : y.lead ≡ to_string = ap (λ (z : Entry). z.lead) same ∙ text in
      let off : w.demands.utf8 ≡ false = rw lead at q.0 in
      let z : true ≡ false = sym on ∙ off in
      cc)
  no_texts b (y ∷ xs) q on (suc i) x at text = no_texts b xs q.1 on i x at text

  pub strict_field : (c : Checks) (b : List ℕ) (t : ℕ) (f : Live) → is_kind_asked w S f.kind ≡ false → IsStrictField w.demands c b S t f
  strict_field c b t f h = record { unions = λ on. no_unions c b (type_place b t f.slot) (field_place b t f.slot) f.kind h on; texts = no_texts b (entries b S t f) (quiet_entries b t f h) }

  module _ (closed : IsClosed w S) (c : Checks) (b : List ℕ) where
    mutual
      unfolding Unfolds FieldsUnfold ElementsUnfold ElementUnfolds IsStrict KidsAreStrict ElementsAreStrict ElementIsStrict AreQuiet

      strict_tree : (y : Tree) (k t : ℕ) → w.asks k ≡ false → Unfolds y c b S k t → IsStrict y w.demands c b S
      strict_tree (node k' t' kids) k t q h =
          let same : w.asks k' ≡ false = rw h.0 q in
          let closed_here = closed k' same in
          let none = or_false _ _ closed_here.1 in (
            record {
              known = λ on. absurd (let off : true ≡ false = sym on ∙ closed_here.0 in cc);
              fields = λ i f e. strict_field c b t' f (at_each (live_fields S k') none.0 i f e);
              flexless = λ i f e. flexless_by b t' f (held_of w.demands k' f) (held_each k' (live_fields S k') none.1 i f e);
            },
            strict_kids kids t (live_fields S k) (or_false _ _ (closed k q).1).0 h.3,
          )

      strict_kids : (kids : Kids) (t : ℕ) (fs : List Live) → list_any (λ (f : Live). is_kind_asked w S f.kind) fs ≡ false → FieldsUnfold kids c b S t fs → KidsAreStrict kids w.demands c b S
      strict_kids no_kids t fs q h = tt
      strict_kids (kid ys kids) t [] q h = absurd h
      strict_kids (kid ys kids) t (f ∷ fs) q h =
          (strict_elements ys (entries b S t f) (quiet_entries b t f (or_false _ _ q).0) h.1, strict_kids kids t fs (or_false _ _ q).1 h.2)

      pub strict_elements : (ys : Elements) (xs : List Entry) → AreQuiet xs → ElementsUnfold ys c b S xs → ElementsAreStrict ys w.demands c b S
      strict_elements no_elements xs q h = tt
      strict_elements (element y ys) [] q h = absurd h
      strict_elements (element y ys) (x ∷ xs) q h = (strict_element y x.place x.lead q.0 h.0, strict_elements ys xs q.1 h.1)

      strict_element : (y : Element) (p : ℕ) (lead : Lead) → IsQuiet lead → ElementUnfolds y c b S p lead → ElementIsStrict y w.demands c b S
      strict_element leaf p lead q h = tt
      strict_element (table y) p (to_table k) q h = strict_tree y k (target b p) q h.1
      strict_element (table y) p (to_struct size align) q h = absurd h
      strict_element (table y) p to_string q h = absurd h
      strict_element (table y) p to_nothing q h = absurd h

pub skips : SkipLaw
skips w S closed y c b k t q h = strict_tree w S closed c b y k t q h
