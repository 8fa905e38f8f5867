-- The turns of a pass, one after another.
use Rattle.std.proofs.{Math.ListN.set, Math.ListN.length-set, lemmas.List.get_or-set_same, lemmas.List.append-nil}
use Rattle.std.proofs.Common.{◌≡◌, ◌⊎◌, inl, inr, Option, Some, None, ℕ, ◌+◌, ◌*◌, ◌-◌, ◌^◌, ◌<◌, ◌≤◌, List, [], ◌∷◌, ◌++◌, length, Result, Ok, Err, refl, sym, ap, subst, ◌∙◌, arith}
use Rattle.fb_bytes.specs.Word.{Lent}
use Rattle.fb_rules.specs.declared.{site.Stop.Stop, site.Halt.Halt, site.LastLink.TheVariants.Behind, table.Child.Child, table.Head.Head, table.Table.Table as TableOf}
use Rattle.fb_rules.specs.{Bounds.AreAllowed, Told.stopped, Told.IsHead}
use Rattle.fb_verify.specs.Stack.{last_link}
use Rattle.fb_strict.specs.declared.{inner.Inner.Inner, room.Frame.Frame, pass.Turned.Turned, pass.Turned.TheVariants.Open, pass.Turned.TheVariants.Inside}
use Rattle.fb_strict.specs.{Asked.Demand, Asked.demands_reads, Passing.Passing, Passing.Opens, Passing.opening, Passing.IsPassing, Passing.blank, Passing.opened}
use Rattle.fb_strict.specs.Passing.{frame_links, AreLinked, IsNext, AreLeft, Breaks, Moves, GoesOn, Halts, Turns, HasTurned, Enters, Meets, IsStanding, work_left, frames_work}
use Rattle.fb_strict.specs.{Passing.WentBy, Passing.WentOn, Passing.Began, Passing.wants_of, declared.room.Frame.Frame}
use Rattle.fb_strict.proofs.{Moving.still, Moving.onward, Moving.same_reads, Moving.still_allowed, Moving.breaks_then, Few.first_reads, Frames.opened_left, Frames.head_first}
use Rattle.fb_strict.proofs.Stacks.{some_deep}

pub joined : (p : Passing) (m mid new : Lent) (ds some left : List Demand) → GoesOn p m mid ds some → GoesOn p mid new some left → GoesOn p m new ds left
joined p m mid new ds some left f g =
    record { moves = onward p.limits f.moves g.moves; grows = omega (arith, f.grows, g.grows); same = g.same ∙ ap (λ (x : Lent). record x { count = new.count }) f.same }

-- a pass that stops after it went on, over the same bytes
pub halts_then : (p : Passing) (m mid new : Lent) (ds left : List Demand) (frames : List Frame) (h : Halt) → mid.bytes ≡ m.bytes → Moves p.limits m.count ds mid.count left → Halts p mid new left frames h → Halts p m new ds frames h
halts_then p m mid new ds left frames h bytes moves s = record {
  breaks = breaks_then p.limits (stopped h.stop new.count) _ moves (subst (λ b. Breaks p.limits mid.count left (stopped h.stop new.count) (frame_links (wants_of p) b p.rows frames h.links ++ last_link h.last (stopped h.stop new.count))) bytes s.breaks);
  linked = subst (λ b. AreLinked (wants_of p) p.checks b p.rows frames h.links) bytes s.linked;
  within = s.within;
}

-- a pass that comes to a buffer inside after it went on
pub enters_then : (p : Passing) (m mid new : Lent) (ds left : List Demand) (frames : List Frame) (many : ℕ) (i : Inner) → GoesOn p m mid ds left → Enters p mid new left frames many i → Enters p m new ds frames many i
enters_then p m mid new ds left frames many i g e =
    let bytes = ap (λ (x : Lent). x.bytes) g.same in
    record {
      last = e.last;
      it = e.it;
      left = e.left;
      moves = onward p.limits g.moves e.moves;
      meets = subst (λ b. Meets p b e.last e.it new.count i) bytes e.meets;
      same = e.same ∙ ap (λ (x : Lent). record x { count = new.count }) g.same;
      stack = subst (λ b. AreLeft p b frames many e.left) bytes e.stack;
      within = e.within;
      some = e.some;
      linked = subst (λ b. AreLinked (wants_of p) p.checks b p.rows frames many) bytes e.linked;
      way = e.way ∙ ap (λ b. frame_links (wants_of p) b p.rows frames many) bytes;
    }

-- what the turns so far left of frames of which so many were open
pub record WentSoFar (p : Passing) (m new : Lent) (old : List Frame) (before : ℕ) (frames : List Frame) (many : ℕ) : Type 0 where
  pub stands : IsStanding p new frames many
  pub bytes : new.bytes ≡ m.bytes
  pub base : new.base ≡ m.base
  pub on : (ds : List Demand) → AreLeft p m.bytes old before ds → (left : List Demand) × GoesOn p m new ds left × AreLeft p m.bytes frames many left
  pub moved : ((many ≡ before) × (new ≡ m) × (frames ≡ old)) ⊎ (work_left p new.count frames many < work_left p m.count old before)

pub begins : (p : Passing) (m : Lent) (old : List Frame) (before : ℕ) → IsStanding p m old before → WentSoFar p m m old before old before
begins p m old before h = record {
  stands = h;
  bytes = refl;
  base = refl;
  on = λ ds s. (ds, record { moves = still p.limits m.count ds; grows = omega arith; same = refl }, s);
  moved = inl (refl, refl, refl);
}

-- a turn leaves less work, since no more reads are left than a number that is great
lesser : (w w' c c' rest rest' : ℕ) → w' + 2 ^ 49 * c < w + 2 ^ 49 * c' → c + rest ≡ c' + rest' → c + rest ≤ 2 ^ 112 → w' + 2 ^ 49 * (2 ^ 112 - c') < w + 2 ^ 49 * (2 ^ 112 - c)
lesser w w' c c' rest rest' falls same most = omega arith

module _ (p : Passing) (m mid : Lent) (old : List Frame) (before : ℕ) (frames : List Frame) (many : ℕ) (h : WentSoFar p m mid old before frames many) where
  module _ (new : Lent) (past : List Frame) (n : ℕ) (r : Result Turned Halt) (is : r ≡ Ok (Open n)) (turned : (ds : List Demand) → AreLeft p mid.bytes frames many ds → HasTurned p mid new ds frames many past r) (long : length past ≡ length frames) where
    goes : (ds : List Demand) → AreLeft p mid.bytes frames many ds → Turns p mid new ds frames many past n × (n ≤ length past)
    goes ds s = rw is at (turned ds s)

    first : Turns p mid new (h.stands).left frames many past n × (n ≤ length past)
    first = goes (h.stands).left (h.stands).stack

    pub less : work_left p new.count past n < work_left p mid.count frames many
    less = let t = first.0 in lesser (frames_work p frames many) (frames_work p past n) mid.count new.count (demands_reads (h.stands).left) (demands_reads t.left) t.falls (same_reads p.limits (t.on).moves) (h.stands).few

    pub turns_on : WentSoFar p m new old before past n
    turns_on =
        let t = first.0 in
        let same = (t.on).same in
        let bytes = ap (λ (x : Lent). x.bytes) same in
        record {
          stands = record {
            left = t.left;
            stack = subst (λ b. AreLeft p b past n t.left) (sym bytes) t.stack;
            within = first.1;
            small = omega (arith, long, (h.stands).small);
            allowed = still_allowed p.limits (t.on).moves (h.stands).allowed;
            few = omega (arith, same_reads p.limits (t.on).moves, (h.stands).few);
          };
          bytes = bytes ∙ h.bytes;
          base = ap (λ (x : Lent). x.base) same ∙ h.base;
          on = λ ds s.
              let o = h.on ds s in
              let u = (goes o.0 (subst (λ b. AreLeft p b frames many o.0) (sym h.bytes) o.2)).0 in
              (u.left, joined p m mid new ds o.0 u.left o.1 u.on, subst (λ b. AreLeft p b past n u.left) h.bytes u.stack);
          moved = inr (falls h.moved);
        }
      where
        falls : ((many ≡ before) × (mid ≡ m) × (frames ≡ old)) ⊎ (work_left p mid.count frames many < work_left p m.count old before) → work_left p new.count past n < work_left p m.count old before
        falls (inl e) = let same : work_left p mid.count frames many ≡ work_left p m.count old before = ap (λ k. work_left p mid.count frames k) e.0 ∙ ap (λ (x : Lent). work_left p x.count frames before) e.1 ∙ ap (λ fs. work_left p m.count fs before) e.2 in omega (arith, less, same)
        falls (inr lt) = omega (arith, less, lt)

  pub stops : (new : Lent) (past : List Frame) (s : Halt) (r : Result Turned Halt) → r ≡ Err s → ((ds : List Demand) → AreLeft p mid.bytes frames many ds → HasTurned p mid new ds frames many past r)
      → (ds : List Demand) → AreLeft p m.bytes old before ds → Halts p m new ds past s
  stops new past s r is turned ds stack =
      let o = h.on ds stack in
      let b : Halts p mid new o.0 past s = rw is at (turned o.0 (subst (λ b. AreLeft p b frames many o.0) (sym h.bytes) o.2)) in
      halts_then p m mid new ds o.0 past s h.bytes (o.1).moves b

  pub comes_in : (new : Lent) (past : List Frame) (i : Inner) (r : Result Turned Halt) → r ≡ Ok (Inside i) → ((ds : List Demand) → AreLeft p mid.bytes frames many ds → HasTurned p mid new ds frames many past r)
      → (ds : List Demand) → AreLeft p m.bytes old before ds → Enters p m new ds past many i
  comes_in new past i r is turned ds stack =
      let o = h.on ds stack in
      let e : Enters p mid new o.0 past many i = rw is at (turned o.0 (subst (λ b. AreLeft p b frames many o.0) (sym h.bytes) o.2)) in
      enters_then p m mid new ds o.0 past many i o.1 e

  -- it ends where none is open, or the count is long, so that it went on
  pub ends : ((many ≡ before) → mid ≡ m → ⊥) → (ds : List Demand) → AreLeft p m.bytes old before ds → WentBy p m mid ds old before frames many
  ends not-first ds stack =
      let o = h.on ds stack in
      record { left = o.0; on = o.1; stack = o.2; within = (h.stands).within; falls = by_moved h.moved }
    where
      by_moved : ((many ≡ before) × (mid ≡ m) × (frames ≡ old)) ⊎ (work_left p mid.count frames many < work_left p m.count old before) → work_left p mid.count frames many < work_left p m.count old before
      by_moved (inl e) = absurd (not-first e.0 e.1)
      by_moved (inr lt) = lt

-- Reads that a loan lends, and takes back.
module _ (m reads then-reads bare new : Lent) (lent : reads ≡ record m { base = reads.base }) (bare-is : bare ≡ record m { bytes = [] }) (settled : new ≡ record bare { bytes = then-reads.bytes; count = then-reads.count }) where
  pub lent_bytes : reads.bytes ≡ m.bytes
  lent_bytes = ap (λ (x : Lent). x.bytes) lent

  lent_count : reads.count ≡ m.count
  lent_count = ap (λ (x : Lent). x.count) lent

  settled_count : new.count ≡ then-reads.count
  settled_count = ap (λ (x : Lent). x.count) settled

  same_loan : (new-is : then-reads ≡ record reads { count = then-reads.count }) → new ≡ record m { count = new.count }
  same_loan h =
      let bytes = ap (λ (x : Lent). x.bytes) settled ∙ ap (λ (x : Lent). x.bytes) h ∙ lent_bytes in
      let base = ap (λ (x : Lent). x.base) settled ∙ ap (λ (x : Lent). x.base) bare-is in
      λ i. record { bytes = bytes i; count = new.count; base = base i }

  pub loan_on : (p : Passing) (ds left : List Demand) → GoesOn p reads then-reads ds left → GoesOn p m new ds left
  loan_on p ds left g = record {
    moves = rw (sym settled_count, lent_count) at g.moves;
    grows = omega (arith, g.grows, settled_count, lent_count);
    same = same_loan g.same;
  }

  pub loan_enters : (p : Passing) (ds : List Demand) (frames : List Frame) (many : ℕ) (i : Inner) → Enters p reads then-reads ds frames many i → Enters p m new ds frames many i
  loan_enters p ds frames many i e = record {
    last = e.last;
    it = e.it;
    left = e.left;
    moves = subst (λ n. Moves p.limits n ds e.last (e.it ∷ e.left)) lent_count e.moves;
    meets = subst (λ n. Meets p m.bytes e.last e.it n i) (sym settled_count) (subst (λ b. Meets p b e.last e.it then-reads.count i) lent_bytes e.meets);
    same = same_loan e.same;
    stack = subst (λ b. AreLeft p b frames many e.left) lent_bytes e.stack;
    within = e.within;
    some = e.some;
    linked = subst (λ b. AreLinked (wants_of p) p.checks b p.rows frames many) lent_bytes e.linked;
    way = e.way ∙ ap (λ b. frame_links (wants_of p) b p.rows frames many) lent_bytes;
  }

  pub loan_halts : (p : Passing) (ds : List Demand) (frames : List Frame) (h : Halt) → Halts p reads then-reads ds frames h → Halts p m new ds frames h
  loan_halts p ds frames h s = record {
    breaks = subst (λ n. Breaks p.limits m.count ds (stopped h.stop n) (frame_links (wants_of p) m.bytes p.rows frames h.links ++ last_link h.last (stopped h.stop n))) (sym settled_count)
        (subst (λ b. Breaks p.limits m.count ds (stopped h.stop then-reads.count) (frame_links (wants_of p) b p.rows frames h.links ++ last_link h.last (stopped h.stop then-reads.count))) lent_bytes
        (subst (λ n. Breaks p.limits n ds (stopped h.stop then-reads.count) (frame_links (wants_of p) reads.bytes p.rows frames h.links ++ last_link h.last (stopped h.stop then-reads.count))) lent_count s.breaks));
    linked = subst (λ b. AreLinked (wants_of p) p.checks b p.rows frames h.links) lent_bytes s.linked;
    within = s.within;
  }

  -- turns that were taken over them
  pub loan_went : (p : Passing) (ds : List Demand) (old : List Frame) (before : ℕ) (frames : List Frame) (many : ℕ) (r : Result (Option Inner) Halt) → WentOn p reads then-reads ds old before frames many r → WentOn p m new ds old before frames many r
  loan_went p ds old before frames many (Ok None) w = record {
    left = w.left;
    on = loan_on p ds w.left w.on;
    stack = subst (λ b. AreLeft p b frames many w.left) lent_bytes w.stack;
    within = w.within;
    falls = rw (sym settled_count, lent_count) at w.falls;
  }
  loan_went p ds old before frames many (Ok (Some i)) e = loan_enters p ds frames many i e
  loan_went p ds old before frames many (Err h) s = loan_halts p ds frames h s

-- a standing is one of the reads that are lent
pub lent_stands : (p : Passing) (m reads : Lent) (frames : List Frame) (many : ℕ) → reads ≡ record m { base = reads.base } → IsStanding p m frames many → IsStanding p reads frames many
lent_stands p m reads frames many lent h =
    let count = ap (λ (x : Lent). x.count) lent in
    let bytes = ap (λ (x : Lent). x.bytes) lent in
    record {
      left = h.left;
      stack = subst (λ b. AreLeft p b frames many h.left) (sym bytes) h.stack;
      within = h.within;
      small = h.small;
      allowed = subst (AreAllowed (p.limits).reads) (sym count) h.allowed;
      few = omega (arith, h.few, count);
    }

-- A root table is opened.

module _ (p : Passing) (m : Lent) (holds : IsPassing p m.bytes) (allowed : AreAllowed (p.limits).reads m.count) (frames : List Frame) (small : length frames ≤ 4096) (root : Child) (ds0 : List Demand) (next0 : IsNext p m.bytes (length frames) [] root ds0) (few : m.count + demands_reads ds0 ≤ 2 ^ 112) where
  pub some_frame : 0 < length frames
  some_frame = omega (arith, next0.deep, some_deep next0.tree)

  module _ (reads then-reads bare new : Lent) (lent : reads ≡ record m { base = reads.base }) (bare-is : bare ≡ record m { bytes = [] }) (settled : new ≡ record bare { bytes = then-reads.bytes; count = then-reads.count }) where
    pub root_stops : (s : Stop) → Opens p reads then-reads root (Err s) → (past : List Frame) (h : Halt) → h ≡ record { stop = s; links = 0; last = Behind } → (ds : List Demand) → IsNext p m.bytes (length frames) [] root ds → Halts p m new ds past h
    root_stops s a past h is ds n =
        let o = head_first p m.bytes holds (length frames) [] root ds n in
        subst (Halts p m new ds past) (sym is) (loan_halts m reads then-reads bare new lent bare-is settled p ds past (record { stop = s; links = 0; last = Behind }) (record {
          breaks = subst (λ xs. Breaks p.limits reads.count xs (stopped s then-reads.count) []) (sym o.1) (subst (λ b. Breaks p.limits reads.count (opening p b [] root ++ o.0) (stopped s then-reads.count) []) (lent_bytes m reads then-reads bare new lent bare-is settled) (a [] o.0));
          linked = λ i lt. absurd (omega (arith, lt));
          within = omega arith;
        }))

    module _ (a : Opens p reads then-reads root (Ok (tt {0}))) (head : Head) (is-head : IsHead p.checks reads.bytes root.at head) where
      abbrev table : TableOf
      table = record { object = root.object; at = root.at; head = head }

      opens : (ds : List Demand) → IsNext p m.bytes (length frames) [] root ds → (left : List Demand) × GoesOn p m new ds left × AreLeft p m.bytes (set frames 0 (opened table)) 1 left
      unfolding AreLeft
      opens ds n =
          let o = opened_left p m.bytes holds (length frames) [] root ds n head (subst (λ b. IsHead p.checks b root.at head) (lent_bytes m reads then-reads bare new lent bare-is settled) is-head) in
          let none : length frames - 0 ≡ length frames = omega arith in
          let g = subst (λ xs. GoesOn p reads then-reads xs o.left) (sym o.all) (subst (λ b. GoesOn p reads then-reads (opening p b [] root ++ o.left) o.left) (lent_bytes m reads then-reads bare new lent bare-is settled) (a.1 [] o.left)) in (
            o.left,
            loan_on m reads then-reads bare new lent bare-is settled p ds o.left g,
            (o.left, [], rw (length-set frames 0 (opened table), get_or-set_same frames 0 (opened table) blank some_frame, none) o.frame, refl, sym (append-nil o.left), λ i lt. absurd (omega (arith, lt))),
          )

      pub begins_on : (fr : Frame) → fr ≡ opened table → (ds : List Demand) → IsNext p m.bytes (length frames) [] root ds → Began p m new ds (set frames 0 fr)
      begins_on fr it ds n = let o = opens ds n in rw it (record { left = o.0; on = o.1; stack = o.2 })

      pub first_stands : (fr : Frame) → fr ≡ opened table → IsStanding p new (set frames 0 fr) 1
      first_stands fr it =
          let first = opens ds0 next0 in
          let bytes = ap (λ (x : Lent). x.bytes) (first.1.same) in
          rw it (record {
            left = first.0;
            stack = subst (λ b. AreLeft p b (set frames 0 (opened table)) 1 first.0) (sym bytes) first.2;
            within = omega (arith, some_frame, length-set frames 0 (opened table));
            small = omega (arith, small, length-set frames 0 (opened table));
            allowed = still_allowed p.limits first.1.moves allowed;
            few = omega (arith, same_reads p.limits first.1.moves, few);
          })

-- a pass that comes to a buffer inside stands for what follows it
pub enters_stands : (p : Passing) (m new : Lent) (ds : List Demand) (frames : List Frame) (many : ℕ) (i : Inner) → Enters p m new ds frames many i → length frames ≤ 4096 → m.count + demands_reads ds ≤ 2 ^ 112 → IsStanding p new frames many
enters_stands p m new ds frames many i e small few = record {
  left = e.left;
  stack = subst (λ b. AreLeft p b frames many e.left) (sym (ap (λ (x : Lent). x.bytes) e.same)) e.stack;
  within = e.within;
  small = small;
  allowed = (e.meets).allowed;
  few = omega (arith, same_reads p.limits e.moves, first_reads e.it e.left, (e.meets).count, few);
}

-- A pass over bytes that are lent again and again.
module _ (p : Passing) (m mid new : Lent) (old : List Frame) (before : ℕ) (frames : List Frame) (many : ℕ) (h : WentSoFar p m mid old before frames many) where
  -- what is left before, of what was left at first
  on_then : (ds : List Demand) → AreLeft p m.bytes old before ds → (left : List Demand) × GoesOn p m mid ds left × AreLeft p mid.bytes frames many left
  on_then ds s = let o = h.on ds s in (o.0, o.1, subst (λ b. AreLeft p b frames many o.0) (sym h.bytes) o.2)

  abbrev standing : IsStanding p mid frames many
  standing = h.stands

  pub far_stops : (past : List Frame) (s : Halt) → ((ds : List Demand) → AreLeft p mid.bytes frames many ds → Halts p mid new ds past s) → (ds : List Demand) → AreLeft p m.bytes old before ds → Halts p m new ds past s
  far_stops past s stops ds stack =
      let o = on_then ds stack in
      halts_then p m mid new ds o.0 past s h.bytes (o.1).moves (stops o.0 o.2)

  module _ (past : List Frame) (n : ℕ) (i : Inner) (enters : (ds : List Demand) → AreLeft p mid.bytes frames many ds → Enters p mid new ds past n i) where
    pub far_in : (ds : List Demand) → AreLeft p m.bytes old before ds → Enters p m new ds past n i
    far_in ds stack =
        let o = on_then ds stack in
        enters_then p m mid new ds o.0 past n i o.1 (enters o.0 o.2)

    pub in_stands : length past ≡ length frames → IsStanding p new past n
    in_stands long = enters_stands p mid new standing.left past n i (enters standing.left standing.stack) (omega (arith, long, standing.small)) standing.few

  module _ (past : List Frame) (n : ℕ) (by : (ds : List Demand) → AreLeft p mid.bytes frames many ds → WentBy p mid new ds frames many past n) (long : length past ≡ length frames) where
    pub far_less : work_left p new.count past n < work_left p mid.count frames many
    far_less = (by standing.left standing.stack).falls

    pub far_on : WentSoFar p m new old before past n
    far_on =
        let w = by standing.left standing.stack in
        let g = w.on in
        let same = ap (λ (x : Lent). x.bytes) g.same in
        let bytes = same ∙ h.bytes in
        record {
          stands = record {
            left = w.left;
            stack = subst (λ b. AreLeft p b past n w.left) (sym same) w.stack;
            within = w.within;
            small = omega (arith, long, standing.small);
            allowed = still_allowed p.limits g.moves standing.allowed;
            few = omega (arith, same_reads p.limits g.moves, standing.few);
          };
          bytes = bytes;
          base = ap (λ (x : Lent). x.base) g.same ∙ h.base;
          on = λ ds stack.
              let o = on_then ds stack in
              let u = by o.0 o.2 in
              (u.left, joined p m mid new ds o.0 u.left o.1 u.on, subst (λ b. AreLeft p b past n u.left) h.bytes u.stack);
          moved = inr (falls h.moved);
        }
      where
        falls : ((many ≡ before) × (mid ≡ m) × (frames ≡ old)) ⊎ (work_left p mid.count frames many < work_left p m.count old before) → work_left p new.count past n < work_left p m.count old before
        falls (inl e) = let same : work_left p mid.count frames many ≡ work_left p m.count old before = ap (λ k. work_left p mid.count frames k) e.0 ∙ ap (λ (x : Lent). work_left p x.count frames before) e.1 ∙ ap (λ fs. work_left p m.count fs before) e.2 in omega (arith, far_less, same)
        falls (inr lt) = omega (arith, far_less, lt)

-- until none is open
pub far_ends : (p : Passing) (m new : Lent) (old : List Frame) (before : ℕ) (frames : List Frame) (many : ℕ) → WentSoFar p m new old before frames many → many ≡ 0 → (ds : List Demand) → AreLeft p m.bytes old before ds → GoesOn p m new ds []
unfolding AreLeft
far_ends p m new old before frames many h none ds stack =
    let o = h.on ds stack in
    let s : AreLeft p m.bytes frames 0 o.0 = rw none at o.2 in
    rw s at o.1
