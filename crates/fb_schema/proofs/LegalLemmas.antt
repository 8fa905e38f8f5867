-- What legal rows give.
use Rattle.std.proofs.Common.{◌≡◌, ℕ, suc, Bool, true, false, List, [], ◌∷◌, Some, None, refl, arith, slice_get, ◌<◌, length, get_or, length-take-le, sym, ◌∙◌, take}
use Rattle.fb_schema.specs.{declared.fault.Code.Code, declared.kinds.TypeField.TheVariants.ForUnion, declared.kinds.TypeField.TheVariants.ForUnions, Demands.Demand}
use Rattle.fb_schema.specs.Demands.{IsLegal, demands_at, first_code, stands_before, table_field_demands, same_field_name, same_slot, stands_below}
use Rattle.fb_schema.specs.{Rows.Rows, Rows.Object, Rows.Field, Live.AreApart}
use Rattle.fb_schema.proofs.{DemandLaws.IsBrokenIn, DemandLaws.IsClear, DemandLaws.clear_line, Numbers.get_or_default, Numbers.neither_below}
use Rattle.std.proofs.lemmas.{List.get_or-take, List.Folds.list_any-from_Any, Option.slice_get-get_or, Slice.Eq.bytes_eq-Decides, Bool.Decides.Decides-eqb}

all_clear : (ds : List Demand) → ((line : ℕ) (code : Code) → IsBrokenIn ds line code → ⊥) → first_code ds ≡ None
all_clear [] none = refl
all_clear (d ∷ ds) none = grind (arith, none 0 d.code, all_clear ds (λ line. none (suc line)))

-- no place of legal rows has a broken demand
pub legal_clear : (rows : Rows) → IsLegal rows → (level n place : ℕ) → IsClear rows level n place
legal_clear rows legal level n place = all_clear (demands_at rows level n place) (λ line code e. legal.none (record { level = level; number = n; place = place; line = line }) code e)

-- the demands of a table's field
abbrev pub IsAsked : Rows → Object → Field → ℕ → Type 0
IsAsked rows o f p = first_code (table_field_demands rows f (stands_before same_field_name o.fields p f) (stands_before same_slot o.fields p f) (stands_below ForUnion o.fields f.slot) (stands_below ForUnions o.fields f.slot)) ≡ None

-- the items of a list of which none stood before have keys of their own
keys_apart : {Y K : Type 0} (key : Y → K) (same : Y → Y → Bool) → ((a b : Y) → key a ≡ key b → same a b ≡ true) → (xs : List Y) → ((q : ℕ) (x : Y) → slice_get xs q ≡ Some x → stands_before same xs q x ≡ false)
    → (i j : ℕ) (d : Y) → i < length xs → j < length xs → key (get_or xs i d) ≡ key (get_or xs j d) → i ≡ j
keys_apart key same agrees xs none i j d a b e = neither_below i j (λ lt. below i j lt b e) (λ lt. below j i lt a (sym e)) where
  below : (i j : ℕ) → i < j → j < length xs → key (get_or xs i d) ≡ key (get_or xs j d) → ⊥
  below i j lt within e =
      let x = get_or xs i d in
      let y = get_or xs j d in
      let short = length-take-le j xs (omega arith) in
      let stood = list_any-from_Any (λ z. same z y) (take j xs) (i, x, omega arith, get_or-take j xs i x lt ∙ get_or_default xs i x d (omega arith), agrees x y e) in
      let w : true ≡ false = sym stood ∙ none j y (slice_get-get_or xs j d within) in cc

-- In a legal table
module _ (rows : Rows) (legal : IsLegal rows) (n : ℕ) (o : Object) (at : slice_get rows.objects n ≡ Some o) (table : o.is_struct ≡ false) where
  -- each field's demands are met
  pub table_clear : (p : ℕ) (f : Field) → slice_get o.fields p ≡ Some f → IsAsked rows o f p
  table_clear p f here = rw (at, table, here) at (legal_clear rows legal 0 n (suc p))

  -- no slot stands twice
  pub legal_slots : AreApart o.fields
  legal_slots = record { at = keys_apart (λ (f : Field). f.slot) same_slot (λ a b. (Decides-eqb a.slot b.slot).1) o.fields (λ q f here. let line = clear_line (table_field_demands rows f _ _ _ _) (table_clear q f here) 1 _ refl in grind (arith, line)) }

  -- nor does a name
  pub legal_names : (i j : ℕ) (d : Field) → i < length o.fields → j < length o.fields → (get_or o.fields i d).name ≡ (get_or o.fields j d).name → i ≡ j
  legal_names = keys_apart (λ (f : Field). f.name) same_field_name (λ a b. (bytes_eq-Decides a.name b.name).1) o.fields (λ q f here. clear_line (table_field_demands rows f _ _ _ _) (table_clear q f here) 0 _ refl)
