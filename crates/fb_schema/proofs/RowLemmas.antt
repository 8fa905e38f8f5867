-- The rows of live fields, and what is demanded of them.
use Rattle.std.proofs.Common.{◌≡◌, ℕ, zero, suc, ◌<◌, Bool, true, false, not, ◌&&◌, List, [], ◌∷◌, slice_get, filter, Some, None, refl, ◌∙◌, ap, arith, if◌then◌else◌, Contains}
use Rattle.fb_schema.proofs.{Numbers.negated, LiveLemmas.Rises, LiveLemmas.sorted_rises, LiveLemmas.sorted_members, LiveLemmas.filter_contains, LiveLemmas.filter_apart}
use Rattle.fb_schema.proofs.LegalLemmas.{IsAsked, legal_slots, table_clear}
use Rattle.std.proofs.lemmas.{List.Elements.filter_passes, List.Elements.All-contains, Option.slice_get-get_or, Option.slice_get_within, Option.get_or_from_slice_get}
use Rattle.fb_schema.specs.{Demands.IsLegal, Live.live_rows, Live.by_slot, Live.is_live, Rows.Rows, Rows.Field, Rows.Object}

-- Places of lists.
pub contains_at : {X : Type 0} (xs : List X) (i : ℕ) (x : X) → slice_get xs i ≡ Some x → Contains xs x
contains_at xs i x e = (i, slice_get_within xs i x e, get_or_from_slice_get xs i x x e)

pub place_in : {X : Type 0} (xs : List X) (x : X) → Contains xs x → (i : ℕ) × (slice_get xs i ≡ Some x)
place_in xs x c = (c.0, slice_get-get_or xs c.0 x c.1 ∙ ap Some c.2)

-- Rising slots.
pub rises_at : (fs : List Field) → Rises fs → (i j : ℕ) (f g : Field) → slice_get fs i ≡ Some f → slice_get fs j ≡ Some g → i < j → f.slot < g.slot
rises_at [] r i j f g a b lt = absurd (let w : None ≡ Some f = a in cc)
rises_at (x ∷ xs) r i zero f g a b lt = absurd (omega arith)
rises_at (x ∷ xs) r zero (suc j) f g a b lt = (let w : x ≡ f = cc in let e = ap (λ (f : Field). f.slot) w in let h = r.0 g (contains_at xs j g b) in omega arith)
rises_at (x ∷ xs) r (suc i) (suc j) f g a b lt = rises_at xs r.1 i j f g a b (omega arith)

-- A live field with its row.
pub record IsRowOf (rows : Rows) (k i : ℕ) (o : Object) (f : Field) : Type 0 where
  pub at : slice_get rows.objects k ≡ Some o
  pub table : o.is_struct ≡ false
  pub here : slice_get (live_rows o) i ≡ Some f
  pub live : f.deprecated ≡ false
  pub place : ℕ
  pub there : slice_get o.fields place ≡ Some f

pub row_in : (rows : Rows) (k i : ℕ) (o : Object) (f : Field) → slice_get rows.objects k ≡ Some o → slice_get (live_rows o) i ≡ Some f → IsRowOf rows k i o f
row_in rows k i o f at here =
    let table : o.is_struct ≡ false = grind (arith, here) in
    let c = (sorted_members f (filter is_live o.fields)).0 (contains_at (by_slot (filter is_live o.fields)) i f (rw table at here)) in
    let p = place_in o.fields f (filter_contains is_live o.fields f c) in
    record { at = at; table = table; here = here; live = negated f.deprecated (All-contains (λ f. is_live f ≡ true) (filter is_live o.fields) f (filter_passes is_live o.fields) c); place = p.0; there = p.1 }

-- its demands are met
pub asked : (rows : Rows) → IsLegal rows → (k i : ℕ) (o : Object) (f : Field) (r : IsRowOf rows k i o f) → IsAsked rows o f r.place
asked rows legal k i o f r = table_clear rows legal k o r.at r.table r.place f r.there

-- what is asked where the first test fails
pub live_line : (a b : Bool) → (not a && b) ≡ false → a ≡ false → b ≡ false
live_line a b h e = grind arith

-- the slots of a legal table's live fields rise
pub rows_rise : (rows : Rows) → IsLegal rows → (k : ℕ) (o : Object) → slice_get rows.objects k ≡ Some o → Rises (live_rows o)
rows_rise rows legal k o at = go o.is_struct refl where
  go : (b : Bool) → o.is_struct ≡ b → Rises (if b then [] else by_slot (filter is_live o.fields))
  go true is = tt
  go false is = sorted_rises (filter is_live o.fields) (filter_apart is_live o.fields (legal_slots rows legal k o at is))
