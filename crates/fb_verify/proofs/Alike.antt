-- What holds of a table whose fields are small holds of those below it that have its vtable and are aligned alike.
use Rattle.std.proofs.Common.{◌≡◌, ℕ, suc, ◌+◌, ◌*◌, ◌<◌, ◌≤◌, ◌==◌, ◌%◌, ◌⊎◌, inl, inr, Bool, true, false, nat_le, List, [], ◌∷◌, map, drop, length, refl, sym, ◌∙◌, ap, subst, arith, Option, Some, None, Ok, if◌then◌else◌}
use Rattle.std.specs.List.{All}
use Rattle.std.proofs.lemmas.{Bool.Decides.nat_tests, List.length-map, List.length-drop, List.Elements.All-head, List.Elements.All-tail, List.Sums.sum_by-cons}
use Rattle.fb_bytes.specs.Word.{Lent, word}
use Rattle.fb_schema.specs.{Live.Live, Live.live_fields, Steps.step_of, declared.views.Act.Act, declared.views.Step.Step}
use Rattle.fb_schema.specs.declared.views.Act.TheVariants.{One, Two, Four, Eight, Other}
use Rattle.fb_rules.specs.{Alike.IsSmallStep, Alike.IsLike, Alike.IsPassed, Bounds.AreAllowed, Cost.head_reads, Cost.slot_reads, Told.IsHead}
use Rattle.fb_rules.specs.Order.{after, head_failure, table_failure, inline_failure, inline_field_failure}
use Rattle.fb_rules.specs.Places.{is_aligned, vtable, vtable_size, inline_size, has_slot, field_place, ends_in_table}
use Rattle.fb_rules.specs.Plain.{tested_by, FindsVtable, first_word_failure, vtable_failure, step_failure, step_failure_at, step_reads_at, plain_failure, plain_reads, StepsHold, steps_reads}
use Rattle.fb_rules.specs.declared.{checks.Checks.Checks, passed.Passed.Passed, table.Table.Table, table.Head.Head}
use Rattle.fb_verify.specs.{Flat.MayOpen, Flat.PassesFlat, Stack.opened, Stack.Waiting, Stack.IsWalking, declared.scratch.Frame.Frame, declared.stack.Walk.Walk}
use Rattle.fb_rules.proofs.{Budgets.fewer_reads, Heads.head_parts, Heads.head_reads_parts, Chains.after_none, Chains.head_none}
use Rattle.fb_verify.proofs.{Passing.left_from, Passing.AtStep, Passing.step_passed, Walking.table_closed}

-- A small field is of one of four acts.
no_other : (act : Act) → (act ≡ One) ⊎ (act ≡ Two) ⊎ (act ≡ Four) ⊎ (act ≡ Eight) → act ≡ Other → ⊥
no_other act small e = grind arith

reads_free : (s : Step) (place : Option ℕ) → IsSmallStep s → step_reads_at s place ≡ 0
reads_free s place small = grind arith

module _ (c : Checks) (b : List ℕ) (p t : ℕ) (same : vtable b t ≡ vtable b p) where
  vtable_alike : vtable_failure c b p ≡ None → vtable_failure c b t ≡ None
  unfolding vtable_failure
  vtable_alike h = rw same (grind arith)

  pub head_alike : head_failure c b p ≡ None → first_word_failure c b t ≡ None → head_failure c b t ≡ None
  head_alike h first =
      let whole = sym (head_parts c b p) ∙ h in
      head_parts c b t ∙ grind (arith, vtable_alike)

  -- slots are the same
  slot_reads_alike : (o : ℕ) → slot_reads b t o ≡ slot_reads b p o
  slot_reads_alike o = ap (λ v. if nat_le (o + 2) (word b v 2) then 1 else 0) same

  module _ (below : t < p) (aligned : t % 8 ≡ p % 8) where
    inline_alike : (d n : ℕ) → ((p + d) % n ≡ 0 → (t + d) % n ≡ 0) → inline_field_failure c b p (p + d) n n ≡ None → inline_field_failure c b t (t + d) n n ≡ None
    unfolding ends_in_table is_aligned table_failure inline_failure
    inline_alike d n mods h = let size : inline_size b t ≡ inline_size b p = ap (λ v. word b (v + 2) 2) same in grind (arith, nat_tests, mods)

    act_alike : (s : Step) (d : ℕ) → IsSmallStep s → step_failure c b p s (p + d) s.act ≡ None → step_failure c b t s (t + d) s.act ≡ None
    act_alike s d (inl one) h = rw one (inline_alike d 1 (λ e. omega (arith, e, aligned)) (rw one at h))
    act_alike s d (inr (inl two)) h = rw two (inline_alike d 2 (λ e. omega (arith, e, aligned)) (rw two at h))
    act_alike s d (inr (inr (inl four))) h = rw four (inline_alike d 4 (λ e. omega (arith, e, aligned)) (rw four at h))
    act_alike s d (inr (inr (inr eight))) h = rw eight (inline_alike d 8 (λ e. omega (arith, e, aligned)) (rw eight at h))

    place_alike : (s : Step) → IsSmallStep s → step_failure_at c b p s (field_place b p s.slot) ≡ None → step_failure_at c b t s (field_place b t s.slot) ≡ None
    unfolding field_place
    place_alike s small h =
        let d = word b (vtable b p + s.slot) 2 in
        rw same (go d (has_slot b p s.slot) (d == 0) h) where
          go : (d : ℕ) (x z : Bool) → step_failure_at c b p s (if x then (if z then None else Some (p + d)) else None) ≡ None → step_failure_at c b t s (if x then (if z then None else Some (t + d)) else None) ≡ None
          go d true false h = act_alike s d small h
          go d _ _ h = grind arith

    plain_alike : (s : Step) → IsSmallStep s → plain_failure c b p s ≡ None → plain_failure c b t s ≡ None
    unfolding plain_failure
    plain_alike s small h = grind (arith, place_alike)

    reads_alike : (s : Step) → IsSmallStep s → plain_reads b t s ≡ plain_reads b p s
    unfolding plain_reads
    reads_alike s small = omega (arith, slot_reads_alike s.slot, reads_free s (field_place b t s.slot) small, reads_free s (field_place b p s.slot) small)

    pub all_reads_alike : (steps : List Step) → All IsSmallStep steps → steps_reads b t steps ≡ steps_reads b p steps
    all_reads_alike [] small = refl
    all_reads_alike (s ∷ steps) small =
        omega (arith, sum_by-cons (plain_reads b t) s steps, sum_by-cons (plain_reads b p) s steps, reads_alike s (All-head IsSmallStep s steps small), all_reads_alike steps (All-tail IsSmallStep s steps small))

-- A walk goes through the fields of its top, where each of them holds.
module _ (w : Walk) (m : Lent) (under : Waiting) (top : Frame) (rests : (top.row).left ≡ 0) where
  abbrev fields : List Live
  fields = live_fields w.schema.now (top.table).object

  abbrev steps : List Step
  steps = map step_of fields

  abbrev Comes : ℕ → ℕ → Type 0
  Comes next count = IsWalking w (record m { count = count }) under.start under.frames (record top { next = next })

  through : (rest : List Step) (i r : ℕ) → rest ≡ drop i steps → Comes i r → All IsSmallStep rest → StepsHold w.checks m.bytes (top.table).at rest
      → AreAllowed (w.limits).reads (r + steps_reads m.bytes (top.table).at rest) → Comes (length fields) (r + steps_reads m.bytes (top.table).at rest)
  through [] i r left h small hold cheap =
      let none : i ≡ length fields = omega (arith, ap length left, length-drop i steps, length-map fields step_of, (h.frame).next) in
      let same : r ≡ r + steps_reads m.bytes (top.table).at [] = omega arith in
      subst (λ n. Comes n (r + steps_reads m.bytes (top.table).at [])) none (subst (λ q. Comes i q) same h)
  through (s ∷ rest) i r left h small hold cheap =
      let b = m.bytes in
      let t = (top.table).at in
      let ok = All-head (λ s. plain_failure w.checks b t s ≡ None) s rest hold in
      let sum = sum_by-cons (plain_reads b t) s rest in
      let q = r + plain_reads b t s in
      let all : r + steps_reads b t (s ∷ rest) ≡ q + steps_reads b t rest = omega (arith, sum) in
      let next : i + 1 ≡ suc i = omega arith in
      let here : AtStep w (record m { count = r }) under (record top { next = i }) steps s = record { walking = h; rests = rests; all = refl; got = (left_from steps i s rest left).0 } in
      let told : tested_by t r None ≡ after r (plain_failure w.checks b t s) = sym ((after_none r (plain_failure w.checks b t s)).1 ok) in
      let on = step_passed here (λ e. absurd (no_other s.act (All-head IsSmallStep s rest small) e)) t r r None told refl q refl (fewer_reads (w.limits).reads q (r + steps_reads b t (s ∷ rest)) (omega (arith, all)) cheap) in
      subst (λ n. Comes (length fields) n) (sym all)
      (through rest (i + 1) q ((left_from steps i s rest left).1 ∙ ap (λ n. drop n steps) (sym next)) on (All-tail IsSmallStep s rest small) (All-tail (λ s. plain_failure w.checks b t s ≡ None) s rest hold) (subst (λ n. AreAllowed (w.limits).reads n) all cheap))

-- So a table is passed that is like the one before.
module _ (w : Walk) (m mid new : Lent) (under : Waiting) (k t v : ℕ) (passed : Passed) where
  abbrev all : List Step
  all = map step_of (live_fields w.schema.now k)

  pub alike_passes : MayOpen w m.bytes m.count under k t → FindsVtable w.checks m mid t (Ok v) → AreAllowed (w.limits).reads (m.count + 3 + 6 * length all) → All IsSmallStep all → IsPassed w.checks m.bytes all passed
      → IsLike passed t v → new ≡ record mid { count = mid.count + passed.reads } → (next at : ℕ) → PassesFlat w m new under k t next at None
  alike_passes opens finds room small kept like is next at =
      let b = m.bytes in
      let same : vtable b t ≡ vtable b passed.at = sym finds.value ∙ like.same ∙ kept.vtable in
      let head = head_alike w.checks b passed.at t same kept.head finds.holds in
      let table_is = (head_none w.checks b t).0 head in
      let read : Head = record { vtable = vtable b t; size = vtable_size b t; inline = inline_size b t } in
      let table : Table = record { head = read; object = k; at = t } in
      let has : IsHead w.checks b t read = record {
        vtable = record { place = refl; size = refl; even = table_is.size_even; within = table_is.vtable_whole; near = omega (arith, finds.near, finds.value) };
        inline = λ _. refl;
      } in
      let r = m.count + head_reads w.checks in
      let hold : StepsHold w.checks b t all = λ i d within. plain_alike w.checks b passed.at t same like.below like.aligned _ (small i d within) (kept.hold i d within) in
      let count : new.count ≡ r + steps_reads b t all = omega (arith, ap (λ (x : Lent). x.count) is, finds.counted, kept.reads, head_reads_parts w.checks, all_reads_alike w.checks b passed.at t same like.below like.aligned all small) in
      let paid : new.count ≤ m.count + 3 + 6 * length all = omega (arith, ap (λ (x : Lent). x.count) is, finds.counted, kept.few) in
      let cheap = fewer_reads (w.limits).reads (r + steps_reads b t all) (m.count + 3 + 6 * length all) (omega (arith, count, paid)) room in
      let end = through w m under (opened table) refl all 0 r refl (opens table refl refl has head) small hold cheap in
      let bytes : new.bytes ≡ b = ap (λ (x : Lent). x.bytes) is ∙ finds.bytes in
      let over : IsWalking w new under.start under.frames (record (opened table) { next = length (live_fields w.schema.now k) }) = rw (bytes, count) end in
      record {
        walking = λ _ rest above e. table_closed over rest above e refl (omega arith);
        paid = λ _. omega (arith, paid, length-map (live_fields w.schema.now k) step_of);
        grows = omega (arith, count);
        bytes = bytes;
        head = λ _. tt;
        within = λ _. tt;
        field = λ _. tt;
      }
