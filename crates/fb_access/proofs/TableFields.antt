-- What a table that unfolds says of each of its fields.
use Rattle.std.proofs.Common.{arith, ◌≡◌, ℕ, zero, suc, ◌==◌, List, [], ◌∷◌, sym, ◌∙◌, subst, Some}
use Rattle.std.specs.{Prelude.slice_get, List.position_or_len}
use Rattle.std.proofs.lemmas.List.Folds.{find_at}
use Rattle.fb_schema.specs.{Rows.Rows, Kinds.kind_size, Kinds.kind_align, Live.Live, Live.live_fields, Served.IsServed, Served.KindHolds}
use Rattle.fb_rules.specs.{Facts.IsTable, Fields.IsField, Fields.entries, Unfolds.Unfolds, Unfolds.FieldsUnfold, Unfolds.ElementsUnfold, declared.checks.Checks.Checks, OffsetRows.IsTyped}
use Rattle.fb_rules.specs.Tree.{Tree, node, Kids, no_kids, kid, Elements}
use Rattle.fb_rules.proofs.Typed.{typed_by}
use Rattle.fb_access.specs.{Fitting.numbered, Held.IsTableAt, Held.HasVtable}

-- a live field of a table that unfolds
pub record HoldsField (c : Checks) (b : List ℕ) (S : Rows) (t : ℕ) (f : Live) : Type 0 where
  pub met : IsField c b S t f
  pub found : Elements
  pub unfolds : ElementsUnfold found c b S (entries b S t f)
  pub kind : KindHolds S f f.kind
  pub size_is : f.size ≡ kind_size S f.kind
  pub align_is : f.align ≡ kind_align S f.kind
  pub typed : IsTyped b t f.slot f.kind

module _ (c : Checks) (b : List ℕ) (S : Rows) (t : ℕ) where
  -- each of the fields holds, and its elements unfold
  field_at : (kids : Kids) (fs : List Live) (i : ℕ) (f : Live) → FieldsUnfold kids c b S t fs → slice_get fs i ≡ Some f → IsField c b S t f × (ys : Elements) × ElementsUnfold ys c b S (entries b S t f)
  unfolding FieldsUnfold
  field_at no_kids [] i f u e = absurd cc
  field_at no_kids (g ∷ gs) i f u e = absurd u
  field_at (kid ys kids) [] i f u e = absurd u
  field_at (kid ys kids) (g ∷ gs) zero f u e = let same : g ≡ f = cc in subst (λ h. IsField c b S t h × (zs : Elements) × ElementsUnfold zs c b S (entries b S t h)) same (u.0, ys, u.1)
  field_at (kid ys kids) (g ∷ gs) (suc i) f u e = field_at kids gs i f u.2 e

  field_in : (kids : Kids) (k i : ℕ) (f : Live) → IsServed S → FieldsUnfold kids c b S t (live_fields S k) → slice_get (live_fields S k) i ≡ Some f → HoldsField c b S t f
  field_in kids k i f s u e =
      let here = field_at kids (live_fields S k) i f u e in
      let sized = s.sized k i f e in
      record {
        met = here.0;
        found = here.1;
        unfolds = here.2;
        kind = s.kinds k i f e;
        size_is = sized.size;
        align_is = sized.align;
        typed = typed_by c b S t (live_fields S k) i f.slot (λ kind h. (field_at kids (live_fields S k) h.place h.field u h.found).0) f.kind (s.typed k i f e);
      }

  field_of : (k n : ℕ) (f : Live) (y : Tree) → IsServed S → Unfolds y c b S k t → numbered S k n ≡ Some f → HoldsField c b S t f
  unfolding Unfolds
  field_of k n f (node k' t' kids) s u e = field_in kids k (position_or_len (λ g. g.number == n) (live_fields S k)) f s u.3 (sym (find_at (λ g. g.number == n) (live_fields S k)) ∙ e)

  head_of : (k : ℕ) (y : Tree) → Unfolds y c b S k t → IsTable c b t
  unfolding Unfolds
  head_of k (node k' t' kids) u = u.2

-- a table's live field with a number
pub field_holds : (b : List ℕ) (S : Rows) (k t n : ℕ) (f : Live) → IsServed S → (h : IsTableAt b S k t) → numbered S k n ≡ Some f → HoldsField h.checks b S t f
field_holds b S k t n f s h e = field_of h.checks b S t k n f h.found s h.unfolds e

-- a table's vtable
pub table_has_vtable : (b : List ℕ) (S : Rows) (k t : ℕ) → IsTableAt b S k t → HasVtable b t
table_has_vtable b S k t h = grind (arith, head_of)
