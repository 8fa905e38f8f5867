-- The steps of the walk over objects and enums.
use Rattle.std.proofs.Common.{◌≡◌, ℕ, zero, suc, ◌+◌, ◌<◌, ◌≤◌, inl, inr, Bool, List, slice_get, map, Option, Some, None, refl, sym, ◌∙◌, ap, subst, arith, Result, Ok, Err, OnOk}
use Rattle.fb_schema.specs.{declared.fault.Code.Code, declared.flat.ObjectPart.ObjectPart, declared.rows.FieldRow.FieldRow, Sorting.IsAgain, Sorting.IsFirstAgain, Sorting.name_cmp}
use Rattle.fb_schema.specs.{Sorting.object_name, FlatRows.object_in, Rows.Rows, Rows.Enum, Demands.is_at, Demands.first_code, Demands.stands_before, Demands.same_object_name}
use Rattle.fb_schema.specs.Demands.{object_demands, demands_of_object, demands_of_enum, demands_of_field, demands_of_union, demands_at, IsFirstOf, IsFirstIllegal, IsLegal}
use Rattle.fb_schema.specs.Demands.{AreClear}
use Rattle.fb_schema.proofs.DemandLaws.{IsClear, AreLevelsClear, AreClearBelow, clear_line, first_illegal, is_legal, no_levels, past_owners, owners_end, levels_end, past_levels}
use Rattle.fb_schema.proofs.{KeyLemmas.is_at_test, KeyLemmas.never_again, Numbers.le_or_lt, Numbers.lt_or_eq, WalkLemmas.object_names_agree, WalkLemmas.mapped_at}

pub all_owners : (rows : Rows) (level n : ℕ) → owners_end rows level ≤ n → AreClearBelow rows level n → AreClear rows level
all_owners rows level n le clear = record { at = λ m place. elim (le_or_lt n m) [ inl past ↦ past_owners rows level m place (omega arith) | inr lt ↦ clear.at m place lt ] }

pub both_levels : (rows : Rows) → AreClear rows 0 → AreClear rows 1 → IsLegal rows
unfolding levels_end
both_levels rows objects enums = is_legal rows (λ level n place. grind (arith, objects.at n place, enums.at n place, past_levels rows level n place))

-- a level below 1 is that of the objects
objects_level : (rows : Rows) → AreClear rows 0 → AreLevelsClear rows 1
objects_level rows objects = record { at = λ l m place lt. (let w : l ≡ 0 = omega arith in rw w (objects.at m place)) }

-- an owner's head has place 0, and its items the places after it
by_place : (P : ℕ → Type 0) → P 0 → ((p : ℕ) → P (suc p)) → (q : ℕ) → P q
by_place P head item zero = head
by_place P head item (suc p) = item p

-- clear up to an owner, and that owner too
pub one_more : (rows : Rows) (level n : ℕ) → AreClearBelow rows level n → ((place : ℕ) → IsClear rows level n place) → AreClearBelow rows level (n + 1)
one_more rows level n clear here = record { at = λ m place lt. elim (lt_or_eq m n (omega arith)) [ inl l ↦ clear.at m place l | inr e ↦ subst (λ m. IsClear rows level m place) (sym e) (here place) ] }

-- Objects: the list of rows in memory.
module _ (rows : Rows) (fields : List FieldRow) (objects : List ObjectPart) (same : rows.objects ≡ map (object_in fields) objects) where
  object_at : (q : ℕ) (r : ObjectPart) → slice_get objects q ≡ Some r → slice_get rows.objects q ≡ Some (object_in fields r)
  object_at q r at = ap (λ os. slice_get os q) same ∙ mapped_at (object_in fields) objects q r at

  head_at : (q : ℕ) (r : ObjectPart) → slice_get objects q ≡ Some r → first_code (demands_at rows 0 q 0) ≡ first_code (object_demands (object_in fields r) (stands_before same_object_name (map (object_in fields) objects) q (object_in fields r)))
  head_at q r at = ap (λ x. first_code (demands_of_object rows q 0 x)) (object_at q r at) ∙ ap (λ os. first_code (object_demands (object_in fields r) (stands_before same_object_name os q (object_in fields r)))) same

  -- where the head is clear, the object's name didn't stand before
  pub no_object_again : (q : ℕ) → IsClear rows 0 q 0 → IsAgain name_cmp (map object_name objects) q → ⊥
  no_object_again q clear a = never_again name_cmp object_name (object_in fields) same_object_name (object_names_agree fields) objects q a (λ r at. clear_line (object_demands (object_in fields r) _) (sym (head_at q r at) ∙ clear) 0 _ refl)

-- The object at n, and the first whose name stood before.
module _ (rows : Rows) (fields : List FieldRow) (objects : List ObjectPart) (same : rows.objects ≡ map (object_in fields) objects) (n : ℕ) (row : ObjectPart) (at : slice_get objects n ≡ Some row) (again : Option ℕ) (h : IsFirstAgain name_cmp (map object_name objects) again) (clear : AreClearBelow rows 0 n) where
  head_code : (named : Bool) → named ≡ is_at again n → first_code (object_demands (object_in fields row) named) ≡ first_code (demands_at rows 0 n 0)
  head_code named e =
      ap (λ b. first_code (object_demands (object_in fields row) b)) (e ∙ is_at_test name_cmp object_name (object_in fields) same_object_name (object_names_agree fields) objects n row at again h (λ q lt. no_object_again rows fields objects same q (clear.at q 0 lt)))
      ∙ sym (head_at rows fields objects same n row at)

  pub refused_object : (named : Bool) (code : Code) → named ≡ is_at again n → Some code ≡ first_code (object_demands (object_in fields row) named) → IsFirstIllegal rows (record { code = code; owner = n; part = None })
  refused_object named code e h = first_illegal rows 0 n 0 code (no_levels rows) clear (record { at = λ p lt. absurd (omega arith) }) (sym (head_code named e) ∙ sym h)

  field_at : (p : ℕ) → first_code (demands_at rows 0 n (suc p)) ≡ first_code (demands_of_field rows (object_in fields row) p)
  field_at p = ap (λ x. first_code (demands_of_object rows n (suc p) x)) (object_at rows fields objects same n row at)

  pub refused_field : (named : Bool) → named ≡ is_at again n → None ≡ first_code (object_demands (object_in fields row) named) → (code : Code) (p : ℕ) → IsFirstOf (demands_of_field rows (object_in fields row)) (Some (code, p)) → IsFirstIllegal rows (record { code = code; owner = n; part = Some p })
  refused_field named e none code p r = first_illegal rows 0 n (suc p) code (no_levels rows) clear (record { at = by_place (λ q. q < suc p → IsClear rows 0 n q) (λ lt. sym (head_code named e) ∙ sym none) (λ q lt. field_at q ∙ r.1 q (omega arith)) }) (field_at p ∙ r.0)

  pub clear_object : (named : Bool) → named ≡ is_at again n → None ≡ first_code (object_demands (object_in fields row) named) → IsFirstOf (demands_of_field rows (object_in fields row)) None → AreClearBelow rows 0 (n + 1)
  clear_object named e none r = one_more rows 0 n clear (by_place (IsClear rows 0 n) (sym (head_code named e) ∙ sym none) (λ p. field_at p ∙ r p))

-- Enums: the one at n.
module _ (rows : Rows) (objects : AreClear rows 0) (n : ℕ) (e : Enum) (at : slice_get rows.enums n ≡ Some e) (clear : AreClearBelow rows 1 n) where
  head_clear : IsClear rows 1 n 0
  head_clear = ap (λ x. first_code (demands_of_enum rows 0 x)) at

  member_at : (p : ℕ) → first_code (demands_at rows 1 n (suc p)) ≡ first_code (demands_of_union rows e p)
  member_at p = ap (λ x. first_code (demands_of_enum rows (suc p) x)) at

  pub refused_member : (code : Code) (p : ℕ) → IsFirstOf (demands_of_union rows e) (Some (code, p)) → IsFirstIllegal rows (record { code = code; owner = n; part = Some p })
  refused_member code p r = first_illegal rows 1 n (suc p) code (objects_level rows objects) clear (record { at = by_place (λ q. q < suc p → IsClear rows 1 n q) (λ lt. head_clear) (λ q lt. member_at q ∙ r.1 q (omega arith)) }) (member_at p ∙ r.0)

  pub clear_enum : IsFirstOf (demands_of_union rows e) None → AreClearBelow rows 1 (n + 1)
  clear_enum r = one_more rows 1 n clear (by_place (IsClear rows 1 n) head_clear (λ p. member_at p ∙ r p))

pub legal_if : (rows : Rows) {X E : Type 0} (r : Result X E) → AreClear rows 0 → OnOk r (AreClear rows 1) → OnOk r (IsLegal rows)
legal_if rows (Ok x) objects enums = both_levels rows objects enums
legal_if rows (Err e) objects enums = enums
