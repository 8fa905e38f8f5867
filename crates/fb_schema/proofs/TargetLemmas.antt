-- The targets of a union are found by the values that its members have.
use Rattle.std.proofs.Common.{◌≡◌, ℕ, ℤ, pos, zero, suc, ◌+◌, ◌<◌, ◌≤◌, ◌==◌, nat_lt, min, if◌then◌else◌, ◌⊎◌, inl, inr, List, [], ◌∷◌, ◌++◌, length, get_or, take, map, true, refl, sym, subst, ◌∙◌, ap, arith, option_and_then, Option, None, int_cmp}
use Rattle.std.proofs.lemmas.{Option.slice_get_within, List.get_or_append_left, List.get_or_past, List.length_push, Grind.take_at_read, Bool.Decides.nat_tests}
use Rattle.std.proofs.{Math.Seq.get_or-append_seam, lemmas.Cmp.int_cmp_total}
use Rattle.fb_schema.specs.{declared.flat.EnumPart.EnumPart, declared.views.Target.Target, declared.rows.MemberRow.MemberRow, Flat.part, Kinds.kind_of, Rows.Rows, Rows.Member}
use Rattle.fb_schema.specs.{Rows.member_of_row, declared.kinds.Kind.Kind, Sorting.IsPlaceOf, Sorting.member_value, Targets.nothing, Targets.place_below, Targets.target_at}
use Rattle.fb_schema.specs.Targets.{target_of, kind_among, AreSorted, AreTargets, EndsValues, HaveTargets, LeadBelow}
use Rattle.std.specs.Cmp.{Equal-is, signed_Decides}
use Rattle.fb_schema.proofs.{IndexLemmas.slice_get_end, OrderLemmas.stands, UnionLemmas.none_for_zero, UnionLemmas.value_place, Numbers.le_or_lt, Numbers.lt_or_eq}

-- the value 0 leads to nothing
pub zero_target : (rows : Rows) (members : List Member) → nothing ≡ target_of rows (kind_among rows members 0)
zero_target rows members = sym (ap (target_of rows) (ap (option_and_then (λ (m : Member). kind_of rows m.ty)) (none_for_zero members)))

put_last : {X : Type 0} (xs : List X) (x d : X) (n : ℕ) → n ≡ length xs → get_or (xs ++ x ∷ []) n d ≡ x
put_last xs x d n e = ap (λ k. get_or (xs ++ x ∷ []) k d) e ∙ get_or-append_seam xs x [] d

pub long_step : {X : Type 0} (xs : List X) (x : X) (n : ℕ) → length xs ≡ n → length (xs ++ x ∷ []) ≡ n + 1
long_step xs x n long = length_push xs x ∙ ap (λ k. k + 1) long

lt_or_eq_or_gt : (a b : ℕ) → (a < b) ⊎ ((a ≡ b) ⊎ (b < a))
lt_or_eq_or_gt a b = grind arith

-- what is asked of a value is one of three
one_of_three : {X : Type 0} (at : ℕ → X) (found value here lower past : ℕ) (wanted : X) → (found ≡ value → at here ≡ wanted) → (value < found → at lower ≡ wanted) → (found < value → at past ≡ wanted)
    → at (if found == value then here else if nat_lt value found then lower else past) ≡ wanted
one_of_three at found value here lower past wanted same above below = grind (arith, nat_tests, same, above, below)

module _ (wanted : ℕ → Target) (bound : ℕ) (places : List ℕ) (targets : List Target) (h : LeadBelow wanted bound places targets) where
  -- no value, no target
  none_at_end : (value : ℕ) → value < bound → ((k : ℕ) → k < length places → get_or places k 0 ≡ value → ⊥) → get_or targets (length places) nothing ≡ wanted value
  none_at_end value lt never = get_or_past targets (length places) nothing (omega (arith, h.long)) ∙ sym (h.others value lt never)

  -- of places from k on only greater values
  sought_from : (value : ℕ) → value < bound → (k : ℕ) → k ≤ length places → ((j : ℕ) → k ≤ j → j < length places → value < get_or places j 0) → get_or targets (place_below places value k) nothing ≡ wanted value
  sought_from value lt zero le above = none_at_end value lt (λ j low same. (let w = above j (omega arith) low in omega (arith, w, same)))
  sought_from value lt (suc k) le above = one_of_three (λ n. get_or targets n nothing) (get_or places k 0) value k (place_below places value k) (length places) (wanted value)
      (λ same. h.leads k (omega (arith, le)) ∙ ap wanted same)
      (λ more. sought_from value lt k (omega (arith, le)) (λ j low high. elim (lt_or_eq k j low) [
        | inl past ↦ above j (omega (arith, past)) high
        | inr here ↦ subst (λ n. value < get_or places n 0) here more
      ]))
      (λ less. none_at_end value lt (λ j low same. elim (lt_or_eq_or_gt j k) [
        | inl before ↦ (let w = h.rise j k before (omega (arith, le)) in omega (arith, w, less, same))
        | inr other ↦ elim other [
          | inl here ↦ (let w = ap (λ n. get_or places n 0) here in omega (arith, w, less, same))
          | inr past ↦ (let w = above j (omega (arith, past)) low in omega (arith, w, same))
        ]
      ]))

  -- each value below the bound is found
  pub found_below : (value : ℕ) → value < bound → target_at places targets value ≡ wanted value
  found_below value lt = sought_from value lt (min (value + 1) (length places)) (omega arith) (λ j low high. (let w = h.skip j high in omega (arith, w, low, high)))

-- where all values from the bound on lead to nothing, the bound may be greater
pub lead_on : (wanted : ℕ → Target) (bound top : ℕ) (places : List ℕ) (targets : List Target) → bound ≤ top → ((v : ℕ) → bound ≤ v → v < top → wanted v ≡ nothing) → LeadBelow wanted bound places targets → LeadBelow wanted top places targets
lead_on wanted bound top places targets le none h = record {
  long = h.long;
  few = omega (arith, h.few, le);
  skip = h.skip;
  rise = h.rise;
  upto = λ k lt. (let low = h.upto k lt in omega (arith, low, le));
  leads = h.leads;
  others = λ v lt never. elim (le_or_lt bound v) [ inl past ↦ none v past lt | inr low ↦ h.others v low never ];
}

module _ (rows : Rows) (members : List MemberRow) (values : List (ℤ × ℕ)) (kinds : List (Option Kind)) (h : AreSorted rows members values kinds) where
  module _ (end : ℕ) (ends : EndsValues values end) (v : ℕ) (le : end ≤ v) (lt : v < 256) where
    -- no member has a value from the bound on
    missing : IsPlaceOf int_cmp (map member_value members) (pos v) None
    missing = λ k d within same.
        let there = stands int_cmp int_cmp_total (map member_value members) values h.rise k d within in
        let is : get_or (map member_value members) k d ≡ pos v = (signed_Decides _ (pos v)).0 ((Equal-is (int_cmp _ (pos v))).1 same) in
        ends.none v there.0 (get_or (map member_value members) k d, k) le lt there.1 (ap (λ (e : ℤ × ℕ). e.0) there.2 ∙ is)

    -- so it leads to nothing
    pub none_beyond : target_of rows (kind_among rows (map member_of_row members) v) ≡ nothing
    none_beyond =
        let found = value_place rows members h.clear v (omega (arith, le, ends.low)) lt None missing in
        ap (λ (m : Option Member). target_of rows (option_and_then (λ (m : Member). kind_of rows m.ty) m)) found

-- the value is found, one place further down
pub stopped_here : (values : List ℕ) (value k n : ℕ) → n ≡ suc k → get_or values k 0 ≡ value → place_below values value n ≡ k
stopped_here values value k n next here = ap (place_below values value) next ∙ one_of_three (λ place. place) (get_or values k 0) value k (place_below values value k) (length values) k
    (λ same. refl) (λ more. absurd (omega (arith, more, here))) (λ less. absurd (omega (arith, less, here)))

-- one enum more, with its places and targets
have_more : (rows : Rows) (all : List MemberRow) (enums : List EnumPart) (places : List (List ℕ)) (targets : List (List Target)) (row : EnumPart) (ps : List ℕ) (ts : List Target) → HaveTargets rows all enums places targets
    → (row.is_union ≡ true → AreTargets rows (map member_of_row (part all row.members)) ps ts) → HaveTargets rows all (enums ++ row ∷ []) (places ++ ps ∷ []) (targets ++ ts ∷ [])
have_more rows all enums places targets row ps ts h r = record {
  long_places = omega (arith, length_push places ps, length_push enums row, h.long_places);
  long_targets = omega (arith, length_push targets ts, length_push enums row, h.long_targets);
  at = λ n a e. elim (slice_get_end enums row a n e) [
    | inl old ↦ (
        let low = slice_get_within enums n a old in
        rw (get_or_append_left places (ps ∷ []) [] n (omega (arith, h.long_places)), get_or_append_left targets (ts ∷ []) [] n (omega (arith, h.long_targets))) (h.at n a old))
    | inr new ↦ subst (λ x. x.is_union ≡ true → AreTargets rows (map member_of_row (part all x.members)) (get_or (places ++ ps ∷ []) n []) (get_or (targets ++ ts ∷ []) n [])) new.1
        (rw (put_last places ps [] n (new.0 ∙ sym h.long_places), put_last targets ts [] n (new.0 ∙ sym h.long_targets)) r)
  ];
}

-- a step of the loop over enums
pub have_step : (rows : Rows) (all : List MemberRow) (enums : List EnumPart) (i : ℕ) (row : EnumPart) (places places' : List (List ℕ)) (targets targets' : List (List Target)) (ps : List ℕ) (ts : List Target) → i < length enums → row ≡ get_or enums i row
    → HaveTargets rows all (take i enums) places targets → places' ≡ places ++ ps ∷ [] → targets' ≡ targets ++ ts ∷ []
    → (row.is_union ≡ true → AreTargets rows (map member_of_row (part all row.members)) ps ts) → HaveTargets rows all (take (i + 1) enums) places' targets'
have_step rows all enums i row places places' targets targets' ps ts lt is h e f r =
    let more : take i enums ++ row ∷ [] ≡ take (i + 1) enums = ap (λ z. take i enums ++ z ∷ []) is ∙ sym (take_at_read enums i row lt).1 in
    subst (λ es. HaveTargets rows all es places' targets') more
    (subst (λ x. HaveTargets rows all (take i enums ++ row ∷ []) x targets') (sym e)
    (subst (HaveTargets rows all (take i enums ++ row ∷ []) (places ++ ps ∷ [])) (sym f) (have_more rows all (take i enums) places targets row ps ts h r)))
