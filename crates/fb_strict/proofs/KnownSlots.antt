-- The slots of a table that is opened, each beside the next live field.
use Rattle.std.proofs.Common.{◌≡◌, ◌+◌, ◌-◌, ◌*◌, ◌<◌, ◌≤◌, ℕ, zero, suc, inl, inr, List, [], ◌∷◌, ◌++◌, length, Option, Some, None, Bool, true, false, not, Result, Ok, Err, refl, sym, ap, subst, ◌∙◌, arith, if◌then◌else◌}
use Rattle.std.specs.Prelude.{slice_get, ◌==◌}
use Rattle.std.proofs.lemmas.{Bool.cases_lt, Bool.Decides.nat_tests, Option.slice_get_within}
use Rattle.fb_bytes.specs.Word.{Lent}
use Rattle.fb_schema.specs.{Live.Live, Live.live_fields, Served.IsServed}
use Rattle.fb_rules.specs.{declared.site.Stop.Stop, declared.table.Child.Child, declared.link.Link.Link, declared.checks.Checks.Checks, Cost.head_reads, Places.vtable}
use Rattle.fb_rules.specs.Told.{stopped, IsAskedAt}
use Rattle.fb_strict.specs.{Strict.slot_count, InOrder.is_live_slot, InOrder.slot_failure, Leaves.is_next_slot, Asked.Demand, Asked.reading, Asked.slot_demand, Asked.slots_from}
use Rattle.fb_strict.specs.{Asked.slots_demands, Passing.Passing, Passing.Moves, Passing.Breaks, Passing.GoesOn, Passing.SlotsPassed, Passing.Opens}
use Rattle.fb_strict.proofs.{Chains.found_slot, Chains.is_slot, Moving.still, Moving.onward, Moving.breaks_then, Moving.met, Moving.unmet}

past_end : {X : Type 0} (xs : List X) (i : ℕ) → slice_get xs i ≡ None → length xs ≤ i
past_end [] i h = omega arith
past_end (x ∷ xs) zero h = absurd (cc)
past_end (x ∷ xs) (suc i) h = let r = past_end xs i h in omega (arith, r)

-- so many slots were passed, and so many live fields that have lower ones
module _ (p : Passing) (m reads : Lent) (child : Child) (count next passed : ℕ) where
  pub record Walked : Type 0 where
    pub same : reads ≡ record m { count = m.count + passed }
    pub low : passed ≤ count
    pub moves : (via : List Link) (rest : List Demand)
        → Moves p.limits m.count (slots_from m.bytes p.rows via child.object child.at count 4 ++ rest) reads.count (slots_from m.bytes p.rows via child.object child.at (count - passed) (4 + 2 * passed) ++ rest)
    pub below : (i : ℕ) (f : Live) → slice_get (live_fields p.rows child.object) i ≡ Some f → i < next → f.slot < 4 + 2 * passed
    pub above : (i : ℕ) (f : Live) → slice_get (live_fields p.rows child.object) i ≡ Some f → next ≤ i → 4 + 2 * passed ≤ f.slot

pub none_walked : (p : Passing) (m : Lent) (child : Child) (count : ℕ) → IsServed p.rows → Walked p m m child count 0 0
none_walked p m child count served =
    let none : count - 0 ≡ count = omega arith in
    let first : 4 + 2 * 0 ≡ 4 = omega arith in
    record {
      same = (let z : m.count + 0 ≡ m.count = omega arith in λ i. record m { count = sym z i });
      low = omega arith;
      moves = λ via rest. rw (none, first) (still p.limits m.count (slots_from m.bytes p.rows via child.object child.at count 4 ++ rest));
      below = λ i f at lt. absurd (omega (arith, lt));
      above = λ i f at le. (let s = served.slots child.object i f at in omega (arith, s));
    }

module _ (p : Passing) (m reads : Lent) (child : Child) (count next passed : ℕ) (served : IsServed p.rows) (h : Walked p m reads child count next passed) (more : passed < count) where
  abbrev its : List Live
  its = live_fields p.rows child.object

  abbrev slot : ℕ
  slot = 4 + 2 * passed

  -- a live field from the next one on has no lower slot, and where it isn't that one it has a higher one than that
  behind : (i : ℕ) (f : Live) → slice_get its i ≡ Some f → (g : Live) → slice_get its next ≡ Some g → next < i → g.slot < f.slot
  behind i f at g here lt = served.rising child.object next i g f here at lt

  -- none has the slot, where the next one hasn't
  none_has : (o : Option Live) → slice_get its next ≡ o → is_next_slot o slot ≡ false → (i : ℕ) (f : Live) → slice_get its i ≡ Some f → next ≤ i → slot < f.slot
  none_has None here isnt i f at le = absurd (let low = slice_get_within its i f at in let past = past_end its next here in omega (arith, low, past, le))
  none_has (Some g) here isnt i f at le =
      let least = h.above next g here (omega arith) in
      let other : g.slot ≡ slot → ⊥ = λ e. (let yes-is : (g.slot == slot) ≡ true = grind (arith, nat_tests, e) in let w : false ≡ true = sym isnt ∙ yes-is in cc) in
      elim (cases_lt next i) [
        | inl lt ↦ (let r = behind i f at g here lt in omega (arith, least, r))
        | inr ge ↦ (let same : i ≡ next = omega (arith, le, ge) in
            let what : Some g ≡ Some f = sym here ∙ ap (slice_get its) (sym same) ∙ at in
            let is : g ≡ f = cc in
            let eq : g.slot ≡ f.slot = ap (λ (x : Live). x.slot) is in
            above_it g.slot f.slot eq least other)
      ]
    where
      above_it : (a b : ℕ) → a ≡ b → slot ≤ a → (a ≡ slot → ⊥) → slot < b
      above_it a b same least other = elim (cases_lt slot b) [ inl lt ↦ lt | inr ge ↦ absurd (other (omega (arith, same, least, ge))) ]

  is_by : (o : Option Live) → slice_get its next ≡ o → (x : Bool) → is_next_slot o slot ≡ x → is_live_slot its slot ≡ x
  is_by None here true is = absurd (cc)
  is_by (Some g) here true is = is_slot slot its next g here (grind (arith, nat_tests, is))
  is_by o here false is = none_by (is_live_slot its slot) refl
    where
      none_by : (y : Bool) → is_live_slot its slot ≡ y → is_live_slot its slot ≡ false
      none_by false isnt = isnt
      none_by true there = absurd (
          let f = found_slot slot its there in
          let s = f.3 in
          elim (cases_lt f.0 next) [
            | inl lt ↦ (let low = h.below f.0 f.1 f.2 lt in omega (arith, low, s))
            | inr past ↦ (let high = none_has o here is f.0 f.1 f.2 (omega (arith, past)) in omega (arith, high, s))
          ])

  pub live_is : is_live_slot its slot ≡ is_next_slot (slice_get its next) slot
  live_is = is_by (slice_get its next) refl (is_next_slot (slice_get its next) slot) refl

  -- a slot more
  abbrev its_slot : List Link → Demand
  its_slot via = slot_demand m.bytes p.rows via child.object child.at slot

  split : (via : List Link) (rest : List Demand) → slots_from m.bytes p.rows via child.object child.at (count - passed) slot ++ rest ≡ its_slot via ∷ (slots_from m.bytes p.rows via child.object child.at (count - (passed + 1)) (4 + 2 * (passed + 1)) ++ rest)
  unfolding slots_from
  split via rest =
      let n : count - passed ≡ suc (count - (passed + 1)) = omega (arith, more) in
      let next-slot : slot + 2 ≡ 4 + 2 * (passed + 1) = omega arith in
      rw (n, next-slot) refl

  module _ (new : Lent) (r : Result (Unit {0}) Stop) (asked : IsAskedAt {A = Unit {0}} (record { object = child.object; field = None }) p.limits reads new (slot_failure m.bytes its (vtable m.bytes child.at) slot) 1 child.at r) where
    pub slot_stops : (s : Stop) → r ≡ Err s → (via : List Link) (rest : List Demand) → Breaks p.limits m.count (slots_from m.bytes p.rows via child.object child.at count 4 ++ rest) (stopped s new.count) via
    slot_stops s is via rest =
        breaks_then p.limits (stopped s new.count) via (h.moves via rest) (subst (λ xs. Breaks p.limits reads.count xs (stopped s new.count) via) (sym (split via rest)) (unmet p reads new (its_slot via) _ {A = Unit {0}} s r is asked))

    module _ (a : Unit {0}) (is : r ≡ Ok a) where
      on : (via : List Link) (rest : List Demand) → GoesOn p reads new (its_slot via ∷ (slots_from m.bytes p.rows via child.object child.at (count - (passed + 1)) (4 + 2 * (passed + 1)) ++ rest)) (slots_from m.bytes p.rows via child.object child.at (count - (passed + 1)) (4 + 2 * (passed + 1)) ++ rest)
      on via rest = met p reads new (its_slot via) _ {A = Unit {0}} a r refl is asked

      one_read : new ≡ record reads { count = reads.count + 1 }
      one_read = (rw is at asked).counted

      all_reads : new ≡ record m { count = m.count + (passed + 1) }
      all_reads = let c = ap (λ (x : Lent). x.count) h.same in let n : reads.count + 1 ≡ m.count + (passed + 1) = omega (arith, c) in one_read ∙ (λ i. record (h.same i) { count = n i })

      all_moves : (via : List Link) (rest : List Demand)
          → Moves p.limits m.count (slots_from m.bytes p.rows via child.object child.at count 4 ++ rest) new.count (slots_from m.bytes p.rows via child.object child.at (count - (passed + 1)) (4 + 2 * (passed + 1)) ++ rest)
      all_moves via rest = onward p.limits (h.moves via rest) (subst (λ xs. Moves p.limits reads.count xs new.count (slots_from m.bytes p.rows via child.object child.at (count - (passed + 1)) (4 + 2 * (passed + 1)) ++ rest)) (sym (split via rest)) (on via rest).moves)

      -- the live field that has the slot was passed, or none was
      pub walked_on : is_next_slot (slice_get its next) slot ≡ true → Walked p m new child count (next + 1) (passed + 1)
      walked_on live = record {
        same = all_reads;
        low = omega (arith, more);
        moves = all_moves;
        below = λ i f at lt. elim (cases_lt i next) [
          | inl low ↦ (let b = h.below i f at low in omega (arith, b))
          | inr here ↦ (let same : i ≡ next = omega (arith, lt, here) in let s = slot_of (slice_get its next) refl live f (ap (slice_get its) (sym same) ∙ at) in omega (arith, s))
        ];
        above = λ i f at le. (let s = served.slots child.object i f at in let high = past_it (slice_get its next) refl live i f at (omega (arith, le)) in omega (arith, s, high));
      }
        where
          slot_of : (o : Option Live) → slice_get its next ≡ o → is_next_slot o slot ≡ true → (f : Live) → slice_get its next ≡ Some f → f.slot ≡ slot
          slot_of None here live f at = absurd (cc)
          slot_of (Some g) here live f at = let what : Some g ≡ Some f = sym here ∙ at in let is : g ≡ f = cc in ap (λ (x : Live). x.slot) (sym is) ∙ grind (arith, nat_tests, live)

          past_it : (o : Option Live) → slice_get its next ≡ o → is_next_slot o slot ≡ true → (i : ℕ) (f : Live) → slice_get its i ≡ Some f → next < i → slot < f.slot
          past_it None here live i f at lt = absurd (cc)
          past_it (Some g) here live i f at lt = let r = behind i f at g here lt in let e : g.slot ≡ slot = grind (arith, nat_tests, live) in omega (arith, r, e)

      pub walked_by : is_next_slot (slice_get its next) slot ≡ false → Walked p m new child count next (passed + 1)
      walked_by isnt = record {
        same = all_reads;
        low = omega (arith, more);
        moves = all_moves;
        below = λ i f at lt. (let b = h.below i f at lt in omega (arith, b));
        above = λ i f at le. (let s = served.slots child.object i f at in let high = none_has (slice_get its next) refl isnt i f at le in omega (arith, s, high));
      }

-- all were
pub all_walked : (p : Passing) (m reads : Lent) (child : Child) (count next passed : ℕ) → Walked p m reads child count next passed → count ≤ passed → (via : List Link) (rest : List Demand) → GoesOn p m reads (slots_from m.bytes p.rows via child.object child.at count 4 ++ rest) rest
unfolding slots_from
all_walked p m reads child count next passed h most via rest =
    let none : count - passed ≡ 0 = omega (arith, most) in
    let n = ap (λ (x : Lent). x.count) h.same in
    record { moves = rw none at (h.moves via rest); grows = omega (arith, n); same = h.same ∙ ap (λ c. record m { count = c }) (sym n) }

-- the next one is there
pub next_within : (fs : List Live) (next slot : ℕ) → is_next_slot (slice_get fs next) slot ≡ true → next < length fs
next_within fs next slot h = by (slice_get fs next) refl h
  where
    by : (o : Option Live) → slice_get fs next ≡ o → is_next_slot o slot ≡ true → next < length fs
    by None at h = absurd (cc)
    by (Some f) at h = slice_get_within fs next f at

-- all slots are asked

pub not_off : (x : Bool) → not x ≡ false → x ≡ true
not_off true h = refl
not_off false h = absurd (cc)

pub slots_are : (p : Passing) (b : List ℕ) (child : Child) (n : ℕ) → (p.plan).demands.known_fields ≡ true → n ≡ slot_count b child.at → (via : List Link) (rest : List Demand)
    → slots_from b p.rows via child.object child.at n 4 ++ rest ≡ slots_demands (p.plan).demands b p.rows via child.object child.at ++ rest
slots_are p b child n known count via rest =
    ap (λ n. slots_from b p.rows via child.object child.at n 4 ++ rest) count
    ∙ ap (λ x. (if x then slots_from b p.rows via child.object child.at (slot_count b child.at) 4 else []) ++ rest) (sym known)

-- where they aren't asked
pub off_by : (x : Bool) → not x ≡ true → x ≡ false
off_by true h = absurd (cc)
off_by false h = refl

pub none_asked : (p : Passing) (m : Lent) (child : Child) → (p.plan).demands.known_fields ≡ false → (via : List Link) (rest : List Demand) → GoesOn p m m (slots_demands (p.plan).demands m.bytes p.rows via child.object child.at ++ rest) rest
none_asked p m child off via rest = rw off (record { moves = still p.limits m.count rest; grows = omega arith; same = refl })

-- A table is opened: its head was read, and then its slots.
some_head : (c : Checks) → 2 ≤ head_reads c
some_head c = grind arith

module _ (p : Passing) (m mid : Lent) (child : Child) where
  abbrev Asked : Result (Unit {0}) Stop → Type 0
  Asked r = IsAskedAt {A = Unit {0}} (record { object = child.object; field = None }) p.limits m mid None (head_reads p.checks) child.at r

  abbrev head_read : List Link → Demand
  head_read via = reading via child.object None child.at (head_reads p.checks)

  abbrev slots : List ℕ → List Link → List Demand
  slots b via = slots_demands (p.plan).demands b p.rows via child.object child.at

  pub head_stops : (s : Stop) → Asked (Err s) → Opens p m mid child (Err s)
  head_stops s a via rest = unmet p m mid (head_read via) (slots m.bytes via ++ rest) {A = Unit {0}} s (Err s) refl a

  module _ (a : Asked (Ok tt)) (new : Lent) where
    bytes : mid.bytes ≡ m.bytes
    bytes = a.bytes

    first : (via : List Link) (rest : List Demand) → GoesOn p m mid (head_read via ∷ (slots m.bytes via ++ rest)) (slots m.bytes via ++ rest)
    first via rest = met p m mid (head_read via) (slots m.bytes via ++ rest) {A = Unit {0}} tt (Ok tt) refl refl a

    pub then_stops : (s : Stop) → SlotsPassed p mid new child (Err s) → Opens p m new child (Err s)
    then_stops s h via rest = breaks_then p.limits (stopped s new.count) via (first via rest).moves (subst (λ b. Breaks p.limits mid.count (slots b via ++ rest) (stopped s new.count) via) bytes (h via rest))

    pub opens : SlotsPassed p mid new child (Ok tt) → Opens p m new child (Ok tt)
    opens h = (
      (let g = (h [] []).grows in let c = ap (λ (x : Lent). x.count) a.counted in omega (arith, g, c, some_head p.checks)),
      λ via rest.
          let one = first via rest in
          let two = subst (λ b. GoesOn p mid new (slots b via ++ rest) rest) bytes (h via rest) in
          record { moves = onward p.limits one.moves two.moves; grows = omega (arith, one.grows, two.grows); same = two.same ∙ ap (λ (x : Lent). record x { count = new.count }) one.same },
    )
