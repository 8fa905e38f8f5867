-- The way to what isn't met in a whole buffer is put, link by link.
use Rattle.std.proofs.Common.{◌≡◌, ◌⊎◌, ℕ, zero, suc, ◌+◌, ◌<◌, ◌≤◌, List, ◌++◌, length, take, drop, get_or, inl, inr, Err, refl, sym, ap, subst, ◌∙◌, arith}
use Rattle.std.proofs.Math.{Nat.eq-or-lt_of_le, Seq.take-append_seam, Seq.take-append-add, Seq.drop-append_seam, Seq.take-length}
use Rattle.fb_rules.specs.declared.{link.Link.Link, site.LastLink.LastLink}
use Rattle.fb_verify.specs.Stack.{last_link, links_left}
use Rattle.fb_strict.specs.declared.{room.Frame.Frame, levels.Level.Level, levels.Unmet.Unmet, levels.Missed.Missed, levels.Rest.TheVariants.Tables, levels.Rest.TheVariants.Walked}
use Rattle.fb_strict.specs.{Nested.EndsWith, Passing.Passing, Passing.wants_of, Passing.AreLinked, Passing.frame_links, Levels.Whole, Levels.resting, Levels.bytes_of}
use Rattle.fb_strict.specs.Levels.{no_level, links_of, HaveLinks, way_to, above_next, AreOpen, LeadsOn, IsPassed, RestIs, IsWayTo, EndsAlong, fault_of}

-- the first of a row that was put together
joined : (xs ys : List Link) (n a : ℕ) → length xs ≡ a → take (a + n) (xs ++ ys) ≡ xs ++ take n ys
joined xs ys n a h = ap (λ k. take (k + n) (xs ++ ys)) (sym h) ∙ take-append-add xs ys n

front_of : (xs ys : List Link) (a : ℕ) → length xs ≡ a → take a (xs ++ ys) ≡ xs
front_of xs ys a h = ap (λ k. take k (xs ++ ys)) (sym h) ∙ take-append_seam xs ys

-- the links of one buffer's tables, as a pass over it tells them
module _ (w : Whole) (frames : List Frame) (level : Level) (p : Passing) (p-is : p ≡ resting w) (b : List ℕ) (b-is : b ≡ bytes_of w level) (own : List Frame) (own-is : own ≡ drop level.above frames) (many : ℕ) where
  pub tables_linked : HaveLinks w frames level many → AreLinked (wants_of p) p.checks b p.rows own many
  tables_linked h =
      let one = subst (λ p. AreLinked (wants_of p) p.checks (bytes_of w level) p.rows (drop level.above frames) many) (sym p-is) h in
      let two = subst (λ b. AreLinked (wants_of p) p.checks b p.rows (drop level.above frames) many) (sym b-is) one in
      subst (λ fs. AreLinked (wants_of p) p.checks b p.rows fs many) (sym own-is) two

  pub tables_put : frame_links (wants_of p) b p.rows own many ≡ links_of w frames level many
  tables_put = λ k. frame_links (wants_of (p-is k)) (b-is k) (p-is k).rows (own-is k) many

module _ (w : Whole) (frames : List Frame) (levels : List Level) where
  abbrev pub ArePassed : ℕ → Type 0
  ArePassed n = (k : ℕ) → k < n → IsPassed w frames levels k

  -- each level is above those around it
  pub rises : (n : ℕ) → ArePassed n → (k : ℕ) → k ≤ n → above_next levels k ≤ above_next levels n
  unfolding above_next
  rises zero h k le = let e : k ≡ zero = omega (arith, le) in rw e (omega arith)
  rises (suc n) h k le =
      let e : (k ≡ suc n) ⊎ (k < suc n) = eq-or-lt_of_le le in
      elim e [
        | inl is ↦ rw is (omega arith)
        | inr lt ↦ let r = rises n (λ j l. h j (omega (arith, l))) k (omega (arith, lt)) in let a = (h n (omega arith)).above in omega (arith, r, a)
      ]

  pub within_frames : (n : ℕ) → ArePassed n → above_next levels n ≤ length frames
  unfolding above_next
  within_frames zero h = omega arith
  within_frames (suc n) h = ((h n (omega arith)).tables).room

  pub next_is : (k : ℕ) → above_next levels (suc k) ≡ (get_or levels k no_level).above + (get_or levels k no_level).many
  unfolding above_next
  next_is k = omega arith

  -- there is room for a level's links
  module _ (n : ℕ) (h : ArePassed n) (k : ℕ) (lt : k < n) (row : List Link) (long : length row ≡ above_next levels n) where
    pub room_around : (get_or levels k no_level).above ≤ length row
    room_around = let r = rises n h k (omega (arith, lt)) in omega (arith, r, (h k lt).above, long)

    pub room_own : (left : ℕ) → left + (get_or levels k no_level).above ≡ length row → (get_or levels k no_level).many ≤ left
    room_own left is = let r = rises n h (suc k) (omega (arith, lt)) in omega (arith, r, next_is k, long, is)

  -- the links of one level more
  pub put_one : (k : ℕ) → IsPassed w frames levels k → (row front own own2 behind : List Link) → row ≡ front ++ (own ++ behind) → length front ≡ (get_or levels k no_level).above → length own ≡ (get_or levels k no_level).many
      → length own2 ≡ length own → own2 ≡ links_of w frames (get_or levels k no_level) (length own) → take (above_next levels k) row ≡ way_to w frames levels k → (next : ℕ) → next ≡ suc k → take (above_next levels next) (front ++ (own2 ++ behind)) ≡ way_to w frames levels next
  unfolding above_next way_to
  put_one k h row front own own2 behind row-is front-is own-is long own2-is done next next-is =
      let before : front ≡ way_to w frames levels k = sym (front_of front (own ++ behind) (above_next levels k) (front-is ∙ h.above)) ∙ ap (take (above_next levels k)) (sym row-is) ∙ done in
      let these : take (get_or levels k no_level).many (own2 ++ behind) ≡ links_of w frames (get_or levels k no_level) (get_or levels k no_level).many =
      front_of own2 behind (get_or levels k no_level).many (long ∙ own-is) ∙ own2-is ∙ ap (links_of w frames (get_or levels k no_level)) own-is in
      rw next-is (joined front (own2 ++ behind) (get_or levels k no_level).many (get_or levels k no_level).above front-is ∙ (λ i. before i ++ these i))

  pub put_all : (n : ℕ) (row : List Link) → length row ≡ above_next levels n → take (above_next levels n) row ≡ way_to w frames levels n → row ≡ way_to w frames levels n
  put_all n row long done = sym (ap (λ k. take k row) (sym long) ∙ take-length row) ∙ done

  pub put_none : (row : List Link) → take (above_next levels 0) row ≡ way_to w frames levels 0
  unfolding above_next way_to
  put_none row = refl

  -- The whole way.
  module _ (row : List Link) (m : Missed) (way : List Link) (t : IsWayTo w frames levels row m way) where
    abbrev here : Unmet
    here = m.unmet

    pub levels_few : m.levels ≤ length frames
    levels_few = omega (arith, t.rise, within_frames m.levels t.around)

    module _ (front front2 own : List Link) (row-is : row ≡ front ++ own) (front-is : length front ≡ (here.level).above) (long : length front2 ≡ length front) (put : front2 ≡ way_to w frames levels m.levels) where
      behind : drop (here.level).above row ≡ own
      behind = ap (drop (here.level).above) row-is ∙ ap (λ n. drop n (front ++ own)) (sym front-is) ∙ drop-append_seam front own

      pub way_walked : (many : ℕ) → here.rest ≡ Walked many → (n : ℕ) → n ≡ (here.level).above + many → take n (front2 ++ own) ≡ way
      way_walked many is n n-is =
          let r : RestIs w frames row here.level (Walked many) here.fault t.links = subst (λ r. RestIs w frames row here.level r here.fault t.links) is t.rest in
          ap (λ n. take n (front2 ++ own)) n-is ∙ joined front2 own many (here.level).above (long ∙ front-is) ∙ (λ i. put i ++ take many (sym behind i)) ∙ ap (λ xs. way_to w frames levels m.levels ++ xs) (sym r.0) ∙ sym t.way_is

      module _ (many : ℕ) (last : LastLink) (is : here.rest ≡ Tables many last) where
        leads : LeadsOn w frames here.level many last here.fault t.links
        leads = subst (λ r. RestIs w frames row here.level r here.fault t.links) is t.rest

        pub way_open : (n : ℕ) → n ≡ many → AreOpen w frames here.level n
        way_open n e = subst (AreOpen w frames here.level) (sym e) (leads.tables)

        pub way_room : (here.level).above + many + links_left last ≤ length frames
        way_room = leads.room

        pub way_tables : (tables tables2 left2 : List Link) (more : ℕ) → length tables ≡ many → length tables2 ≡ length tables → tables2 ≡ links_of w frames here.level (length tables) → take more left2 ≡ last_link last here.fault
            → (n : ℕ) → n ≡ (here.level).above + many + more → take n (front2 ++ (tables2 ++ left2)) ≡ way
        way_tables tables tables2 left2 more tables-is long2 put2 last-is n n-is =
            let sum : n ≡ (here.level).above + (many + more) = omega (arith, n-is) in
            ap (λ n. take n (front2 ++ (tables2 ++ left2))) sum ∙ joined front2 (tables2 ++ left2) (many + more) (here.level).above (long ∙ front-is) ∙ ap (λ xs. front2 ++ xs) (joined tables2 left2 more many (long2 ∙ tables-is))
            ∙ (λ i. put i ++ ((put2 ∙ ap (links_of w frames here.level) tables-is) i ++ last-is i)) ∙ ap (λ xs. way_to w frames levels m.levels ++ xs) (sym leads.way) ∙ sym t.way_is

-- there is room for the way where there is for all open tables
module _ (w : Whole) (frames : List Frame) (levels : List Level) (row : List Link) (m : Missed) (h : EndsAlong w frames levels row m) (enough : ((w.question).limits).depth ≤ length row) where
  abbrev pub its_way : IsWayTo w frames levels row m h.way
  its_way = h.told enough

  pub ends_in : (links : List Link) → links ≡ h.way → EndsWith w.plan w.question w.bytes (Err (record { fault = fault_of m.unmet; links = links }))
  ends_in links is = subst (λ xs. EndsWith w.plan w.question w.bytes (Err (record { fault = fault_of m.unmet; links = xs }))) (sym is) h.ends
