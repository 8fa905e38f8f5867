-- Offset words of a field that are passed by their types, up to the first that leads to what is asked.
use Rattle.std.proofs.Common.{◌≡◌, inl, inr, ℕ, ◌+◌, ◌-◌, ◌*◌, ◌^◌, ◌<◌, ◌≤◌, List, [], ◌∷◌, ◌++◌, length, Some, Result, Ok, Err, refl, sym, ap, subst, ◌∙◌, arith}
use Rattle.fb_bytes.specs.Word.{Lent}
use Rattle.fb_rules.specs.declared.{site.Site.Site, site.Stop.Stop, site.Halt.Halt, site.LastLink.LastLink, site.LastLink.TheVariants.Behind, site.LastLink.TheVariants.InField, table.Child.Child, link.Link.Link}
use Rattle.fb_rules.specs.Told.{stopped}
use Rattle.fb_verify.specs.Stack.{own_link}
use Rattle.fb_rules.specs.declared.{offset_row.Row.Row, offset_row.Leads.TheVariants.All, offset_row.Leads.TheVariants.ByType, offset_row.Referent.Referent}
use Rattle.fb_rules.specs.declared.offset_row.Referent.TheVariants.{Text as AText, Table as ATable, Struct as AStruct, Nothing}
use Rattle.fb_rules.specs.OffsetRows.{past_first, leads_after}
use Rattle.fb_strict.specs.declared.{room.Frame.Frame, pass.Turn.Turn, pass.Turn.TheVariants.Here, pass.Turn.TheVariants.Up, pass.Turn.TheVariants.Down, pass.Turn.TheVariants.In}
use Rattle.fb_strict.specs.Asked.{Demand}
use Rattle.fb_strict.specs.Passing.{Passing, wants_of, IsPassing, IsLeft, AreAskedWords, GoesOn, FirstPassed, ReferentStands, ReferentPassed, Breaks, Stepped, PassesBy, FrontPassed, WordsPassed, Stays, IsNext, IsLinked, GoesDown, StopsHere, frame_link, frame_work}
use Rattle.fb_strict.proofs.Moving.{still, onward, breaks_then}
use Rattle.fb_strict.proofs.Wording.{IsPaid, first_paid, told_links, first_stops, passes_by, text_stands, text_passes, text_stops, within, halts_behind, follow_stops, goes_down}

-- where the words of a frame are asked by their types
abbrev pub site_of : Frame → Site
site_of fr = record { object = (fr.table).object; field = Some fr.number }

-- the words that were passed of a frame's field, up to those of this row
pub record PassedSoFar (p : Passing) (m now : Lent) (top : Frame) (union : ℕ) (row : Row) (types : ℕ) : Type 0 where
  pub leads : row.leads ≡ ByType union types
  pub by : (room : ℕ) (via : List Link) (ds : List Demand) → IsLeft p m.bytes room via top ds → PassesBy p m now room via ds top (record top { row = row })

module _ (p : Passing) (m : Lent) where
  pub none_passed : (top : Frame) (union types : ℕ) → (top.row).leads ≡ ByType union types → PassedSoFar p m m top union top.row types
  none_passed top union types is = record {
    leads = is;
    by = λ room via ds l. record { left = ds; on = record { moves = still p.limits m.count ds; grows = omega arith; same = refl }; frame = l; same = refl; fewer = omega arith; paid = omega arith };
  }

  -- a row that is left of a frame
  module _ (now : Lent) (holds : IsPassing p m.bytes) (top : Frame) (union types : ℕ) (row : Row) (h : PassedSoFar p m now top union row types) where
    abbrev pub reached : Frame
    reached = record top { row = row }

    module _ (room : ℕ) (via : List Link) (ds : List Demand) (l : IsLeft p m.bytes room via top ds) where
      pub its_bytes : now.bytes ≡ m.bytes
      its_bytes = ap (λ (x : Lent). x.bytes) ((h.by room via ds l).on).same

      pub its_base : now.base ≡ m.base
      its_base = ap (λ (x : Lent). x.base) ((h.by room via ds l).on).same

      -- so few reads were counted
      pub its_count : now.count ≤ m.count + 2 ^ 35
      its_count = omega (arith, (h.by room via ds l).paid, (l.asked).near)

      its_asked : 0 < row.left → AreAskedWords p m.bytes row.left (ByType union types)
      its_asked more = rw h.leads at ((((h.by room via ds l).frame).asked).leads more)

      pub its_types : 0 < row.left → types + 1 ≤ length now.bytes
      its_types more = rw its_bytes (omega (arith, (its_asked more).1, more))

      pub its_place : row.place + 4 * row.left < 2 ^ 35
      its_place = (((h.by room via ds l).frame).asked).near

    -- one of its words leads to nothing that is asked
    pub one_passed : 0 < row.left → (new : Lent) (r : Result Referent Stop) → r ≡ Ok Nothing → FirstPassed p now new (site_of top) row.place (ByType union types) r → PassedSoFar p m new top union (past_first row) (types + 1)
    one_passed more new r is passed = record {
      leads = ap leads_after h.leads;
      by = λ room via ds l.
          let b = h.by room via ds l in
          let bytes = its_bytes room via ds l in
          let frame : IsLeft p now.bytes room via reached b.left = rw bytes b.frame in
          let holds' : IsPassing p now.bytes = rw bytes holds in
          let first' : FirstPassed p now new (site_of top) row.place row.leads (Ok Nothing) = rw h.leads (subst (FirstPassed p now new (site_of top) row.place (ByType union types)) is passed) in
          let s = passes_by p now new holds' room via reached b.left frame more Nothing (λ e. cc) (λ j e. cc) first' (record top { row = past_first row }) refl in
          let paid = (first_paid p now new (site_of top) row.place row.leads Nothing (Ok Nothing) refl first').0 in
          record {
            left = s.left;
            on = record {
              moves = onward p.limits (b.on).moves (s.on).moves;
              grows = omega (arith, (b.on).grows, (s.on).grows);
              same = (s.on).same ∙ ap (λ (x : Lent). record x { count = new.count }) (b.on).same;
            };
            frame = subst (λ b. IsLeft p b room via (record top { row = past_first row }) s.left) bytes s.frame;
            same = refl;
            fewer = omega (arith, b.fewer);
            paid = omega (arith, b.paid, paid.few, more);
          };
    }

    -- one leads to what is asked, or the pass stops behind it
    pub one_asked : 0 < row.left → (new : Lent) (r : Result Referent Stop) → FirstPassed p now new (site_of top) row.place (ByType union types) r → (room : ℕ) (via : List Link) (ds : List Demand) → IsLeft p m.bytes room via top ds
        → WordsPassed p m new room via ds top (record top { row = past_first row }) r
    one_asked more new r first room via ds l = record { before = now; reached = reached; by = h.by room via ds l; last = inl (record { more = more; is = refl; first = rw h.leads first }) }

    -- none is left
    pub all_passed : row.left ≡ 0 → (room : ℕ) (via : List Link) (ds : List Demand) → IsLeft p m.bytes room via top ds → WordsPassed p m now room via ds top reached (Ok Nothing)
    all_passed none room via ds l = record { before = now; reached = reached; by = h.by room via ds l; last = inr (refl, refl, refl, none) }

-- less work is left to a frame of which words were passed
less_work : (p : Passing) (top : Frame) (row : Row) → row.left ≤ (top.row).left → frame_work p (record top { row = row }) ≤ frame_work p top
less_work p top row fewer = omega (arith, fewer)

-- What a step comes to behind words that lead to nothing that is asked.
module _ (p : Passing) (m new : Lent) (holds : IsPassing p m.bytes) (room : ℕ) (via : List Link) (ds : List Demand) (top past : Frame) where
  -- none was left
  pub all_stay : (before : Lent) (reached : Frame) → PassesBy p m before room via ds top reached → past ≡ reached → new ≡ before → (reached.row).left ≡ 0 → 0 < (top.row).left → Stays p m new room via ds top past
  all_stay before reached b is same none more =
      let work : frame_work p (record top { row = reached.row }) < frame_work p top = omega (arith, none, more) in
      rw (is, same) (record { left = b.left; on = b.on; frame = b.frame; falls = subst (λ fr. frame_work p fr < frame_work p top) (sym b.same) work })

  module _ (before : Lent) (reached : Frame) (b : PassesBy p m before room via ds top reached) where
    same_bytes : before.bytes ≡ m.bytes
    same_bytes = ap (λ (x : Lent). x.bytes) (b.on).same

    work : frame_work p reached ≤ frame_work p top
    work = subst (λ fr. frame_work p fr ≤ frame_work p top) (sym b.same) (less_work p top reached.row b.fewer)

    go_on : (left : List Demand) → GoesOn p before new b.left left → GoesOn p m new ds left
    go_on left g = record { moves = onward p.limits (b.on).moves g.moves; grows = omega (arith, (b.on).grows, g.grows); same = g.same ∙ ap (λ (x : Lent). record x { count = new.count }) (b.on).same }

    pub then_stays : Stays p before new room via b.left reached past → Stays p m new room via ds top past
    then_stays s = record { left = s.left; on = go_on s.left s.on; frame = subst (λ x. IsLeft p x room via past s.left) same_bytes s.frame; falls = omega (arith, s.falls, work) }

    pub then_down : (child : Child) → GoesDown p before new room via b.left reached past child → GoesDown p m new room via ds top past child
    then_down child g = record {
      below = g.below;
      left = g.left;
      on = go_on (g.below ++ g.left) g.on;
      paid = omega (arith, g.paid, b.paid);
      next = subst (λ x. IsNext p x (room - 1) (via ++ frame_link (wants_of p) x p.rows past ∷ []) child g.below) same_bytes g.next;
      frame = subst (λ x. IsLeft p x room via past g.left) same_bytes g.frame;
      linked = subst (λ x. IsLinked (wants_of p) p.checks x p.rows past) same_bytes g.linked;
      falls = omega (arith, g.falls, work);
    }

    pub then_stops : (many : ℕ) (h : Halt) (last : LastLink) → StopsHere p before new via many b.left past h last → StopsHere p m new via many ds past h last
    then_stops many h Behind s = (
      s.0,
      subst (λ x. IsLinked (wants_of p) p.checks x p.rows past) same_bytes s.1,
      breaks_then p.limits (stopped h.stop new.count) (via ++ frame_link (wants_of p) m.bytes p.rows past ∷ []) (b.on).moves
          (subst (λ x. Breaks p.limits before.count b.left (stopped h.stop new.count) (via ++ frame_link (wants_of p) x p.rows past ∷ [])) same_bytes s.2),
    )
    then_stops many h InField s = (s.0, breaks_then p.limits (stopped h.stop new.count) (via ++ own_link (stopped h.stop new.count)) (b.on).moves s.1)

-- The word that was passed last.
pub record AtWord (p : Passing) (m new : Lent) (room : ℕ) (via : List Link) (ds : List Demand) (top past : Frame) (result : Result Referent Stop) : Type 0 where
  pub before : Lent
  pub reached : Frame
  pub by : PassesBy p m before room via ds top reached
  pub front : FrontPassed p before new reached past result

pub at_word : (p : Passing) (m new : Lent) (room : ℕ) (via : List Link) (ds : List Demand) (top past : Frame) (result : Result Referent Stop) → (result ≡ Ok Nothing → ⊥) → WordsPassed p m new room via ds top past result → AtWord p m new room via ds top past result
at_word p m new room via ds top past result some w = elim w.last [
  | inl f ↦ record { before = w.before; reached = w.reached; by = w.by; front = f }
  | inr e ↦ absurd (some e.0)
]

module _ (p : Passing) (m new : Lent) (holds : IsPassing p m.bytes) (room : ℕ) (via : List Link) (ds : List Demand) (top past : Frame) (result : Result Referent Stop) (a : AtWord p m new room via ds top past result) where
  abbrev its : FrontPassed p a.before new a.reached past result
  its = a.front

  abbrev by : PassesBy p m a.before room via ds top a.reached
  by = a.by

  pub word_bytes : (a.before).bytes ≡ m.bytes
  word_bytes = ap (λ (x : Lent). x.bytes) (by.on).same

  pub word_holds : IsPassing p (a.before).bytes
  word_holds = rw word_bytes holds

  pub word_left : IsLeft p (a.before).bytes room via a.reached by.left
  word_left = subst (λ b. IsLeft p b room via a.reached by.left) (sym word_bytes) by.frame

  pub word_site : site_of a.reached ≡ site_of top
  word_site = ap site_of by.same

  pub word_place : (past.row).place - 4 ≡ ((a.reached).row).place
  word_place =
      let e = ap (λ (fr : Frame). (fr.row).place) its.is in
      omega (arith, e)

  pub place_from : 4 ≤ (past.row).place
  place_from =
      let e = ap (λ (fr : Frame). (fr.row).place) its.is in
      omega (arith, e)

  -- where it leads to this
  module _ (referent : Referent) (is : result ≡ Ok referent) where
    pub its_first : FirstPassed p a.before new (site_of a.reached) ((a.reached).row).place ((a.reached).row).leads (Ok referent)
    its_first = rw is at its.first

    paid : IsPaid a.before new
    paid = (first_paid p a.before new (site_of a.reached) ((a.reached).row).place ((a.reached).row).leads referent (Ok referent) refl its_first).0

    pub its_reads : new ≡ record m { count = new.count }
    its_reads = paid.same ∙ ap (λ (x : Lent). record x { count = new.count }) (by.on).same

    pub its_few : IsLeft p m.bytes room via top ds → new.count ≤ m.count + 2 ^ 36
    its_few l = omega (arith, paid.few, by.paid, (l.asked).near)

    pub stands_at : ReferentStands new.bytes ((a.reached).row).place referent
    stands_at =
        let bytes : new.bytes ≡ (a.before).bytes = ap (λ (x : Lent). x.bytes) paid.same in
        rw bytes (stands_by referent its_first)
      where
        stands_by : (r : Referent) → FirstPassed p a.before new (site_of a.reached) ((a.reached).row).place ((a.reached).row).leads (Ok r) → ReferentStands (a.before).bytes ((a.reached).row).place r
        stands_by AText h = text_stands p a.before new word_holds room via a.reached by.left word_left its.more h
        stands_by (ATable k) h = within p a.before new word_holds room via a.reached by.left word_left its.more k h
        stands_by (AStruct size align) h = tt
        stands_by Nothing h = tt

    pub word_stands : ReferentStands new.bytes ((past.row).place - 4) referent
    word_stands = rw word_place stands_at

-- a word whose kind is known needs no asking
front_known : (p : Passing) (m : Lent) (room : ℕ) (via : List Link) (ds : List Demand) (top past : Frame) (referent : Referent) → IsLeft p m.bytes room via top ds → 0 < (top.row).left → (top.row).leads ≡ All referent → past ≡ record top { row = past_first top.row }
    → AtWord p m m room via ds top past (Ok referent)
front_known p m room via ds top past referent l more leads is = record {
  before = m;
  reached = top;
  by = record { left = ds; on = record { moves = still p.limits m.count ds; grows = omega arith; same = refl }; frame = l; same = refl; fewer = omega arith; paid = omega arith };
  front = record { more = more; is = is; first = rw leads (refl, refl) };
}

-- What it leads to was asked, or it wasn't met.
module _ (p : Passing) (m mid new : Lent) (holds : IsPassing p m.bytes) (room : ℕ) (via : List Link) (ds : List Demand) (top past : Frame) (many : ℕ) (child : Child) (result : Result Referent Stop) (a : AtWord p m mid room via ds top past result) where
  abbrev wh : IsPassing p (a.before).bytes
  wh = word_holds p m mid holds room via ds top past result a

  abbrev wl : IsLeft p (a.before).bytes room via a.reached (a.by).left
  wl = word_left p m mid holds room via ds top past result a

  stopped_behind : (h : Halt) → h ≡ record { stop = h.stop; links = many; last = Behind } → Breaks p.limits (a.before).count (a.by).left (stopped h.stop new.count) (told_links p a.before mid wh room via a.reached (a.by).left wl (a.front).more)
      → StopsHere p m new via many ds past h h.last
  stopped_behind h is b =
      then_stops p m new holds room via ds top past a.before a.reached a.by many h h.last
      (halts_behind p a.before mid wh room via a.reached (a.by).left wl (a.front).more new many h.stop h past is (a.front).is b)

  module _ (referent : Referent) (is : result ≡ Ok referent) where
    abbrev first : FirstPassed p a.before mid (site_of a.reached) ((a.reached).row).place ((a.reached).row).leads (Ok referent)
    first = its_first p m mid holds room via ds top past result a referent is

    mid_bytes : mid.bytes ≡ (a.before).bytes
    mid_bytes = ap (λ (x : Lent). x.bytes) (first_paid p a.before mid (site_of a.reached) ((a.reached).row).place ((a.reached).row).leads referent (Ok referent) refl first).0.same

    passed_by : (referent ≡ AText → ⊥) → ((j : ℕ) → referent ≡ ATable j → ⊥) → new ≡ mid → Stays p m new room via ds top past
    passed_by text table same =
        let s = passes_by p a.before mid wh room via a.reached (a.by).left wl (a.front).more referent text table first past (a.front).is in
        then_stays p m new holds room via ds top past a.before a.reached a.by (rw same s)

  pub steps : (referent : Referent) (is : result ≡ Ok referent) (turn : Result Turn Halt) → ReferentPassed p mid new (site_of a.reached) ((a.reached).row).place many child referent turn → Stepped p m new room via many ds top past child turn
  steps AText is (Ok Here) t =
      then_stays p m new holds room via ds top past a.before a.reached a.by (text_passes p a.before mid wh room via a.reached (a.by).left wl (a.front).more (first AText is) new tt t past (a.front).is)
  steps AText is (Err h) t = stopped_behind h t.0 (text_stops p a.before mid wh room via a.reached (a.by).left wl (a.front).more (first AText is) new h.stop t.1)
  steps AText is (Ok Up) t = absurd t
  steps AText is (Ok Down) t = absurd t
  steps AText is (Ok (In i)) t = absurd t
  steps (ATable k) is (Ok Down) t =
      then_down p m new holds room via ds top past a.before a.reached a.by child
      (goes_down p a.before mid wh room via a.reached (a.by).left wl (a.front).more k (first (ATable k) is) new child.at t.0 (rw (mid_bytes (ATable k) is) at t.1) t.2 past (a.front).is child (ap (λ o. record { object = o; at = child.at }) t.3))
  steps (ATable k) is (Err h) t = stopped_behind h t.0 (follow_stops p a.before mid wh room via a.reached (a.by).left wl (a.front).more k (first (ATable k) is) new h.stop t.1)
  steps (ATable k) is (Ok Here) t = absurd t
  steps (ATable k) is (Ok Up) t = absurd t
  steps (ATable k) is (Ok (In i)) t = absurd t
  steps (AStruct size align) is (Ok Here) t = passed_by (AStruct size align) is (λ e. cc) (λ j e. cc) t
  steps (AStruct size align) is (Ok Up) t = absurd t
  steps (AStruct size align) is (Ok Down) t = absurd t
  steps (AStruct size align) is (Ok (In i)) t = absurd t
  steps (AStruct size align) is (Err h) t = absurd t
  steps Nothing is (Ok Here) t = passed_by Nothing is (λ e. cc) (λ j e. cc) t
  steps Nothing is (Ok Up) t = absurd t
  steps Nothing is (Ok Down) t = absurd t
  steps Nothing is (Ok (In i)) t = absurd t
  steps Nothing is (Err h) t = absurd t

-- The same of a word whose kind is known.
module _ (p : Passing) (m : Lent) (holds : IsPassing p m.bytes) (room : ℕ) (via : List Link) (ds : List Demand) (top : Frame) (referent : Referent) (l : IsLeft p m.bytes room via top ds) (more : 0 < (top.row).left) (leads : (top.row).leads ≡ All referent) where
  abbrev front : AtWord p m m room via ds top (record top { row = past_first top.row }) (Ok referent)
  front = front_known p m room via ds top (record top { row = past_first top.row }) referent l more leads refl

  pub known_stands : ReferentStands m.bytes (top.row).place referent
  unfolding front_known
  known_stands = stands_at p m m holds room via ds top (record top { row = past_first top.row }) (Ok referent) front referent refl

  pub known_steps : (new : Lent) (many : ℕ) (child : Child) (turn : Result Turn Halt) → ReferentPassed p m new (site_of top) (top.row).place many child referent turn
      → Stepped p m new room via many ds top (record top { row = past_first top.row }) child turn
  unfolding front_known
  known_steps new many child turn t = steps p m m new holds room via ds top (record top { row = past_first top.row }) many child (Ok referent) front referent refl turn t

-- no word of a row led to what is asked
pub none_steps : (p : Passing) (m new : Lent) → IsPassing p m.bytes → (room : ℕ) (via : List Link) (ds : List Demand) (top past : Frame) → 0 < (top.row).left → WordsPassed p m new room via ds top past (Ok Nothing) → Stays p m new room via ds top past
none_steps p m new holds room via ds top past more w = elim w.last [
  | inl f ↦
      passed_by p m new new holds room via ds top past 0 (record { object = 0; at = 0 }) (Ok Nothing) (record { before = w.before; reached = w.reached; by = w.by; front = f }) Nothing refl (λ e. cc) (λ j e. cc) refl
  | inr e ↦ all_stay p m new holds room via ds top past w.before w.reached w.by e.1 e.2 e.3 more
]

-- What a pass comes to behind words that were asked by their types.
module _ (p : Passing) (m mid : Lent) (holds : IsPassing p m.bytes) (room : ℕ) (via : List Link) (ds : List Demand) (top past : Frame) (l : IsLeft p m.bytes room via top ds) (referent : Referent) (some : referent ≡ Nothing → ⊥) (w : WordsPassed p m mid room via ds top past (Ok referent)) where
  is_some : ◌≡◌ {A = Result Referent Stop} (Ok referent) (Ok Nothing) → ⊥
  is_some e = let same : referent ≡ Nothing = cc in some same

  abbrev last : AtWord p m mid room via ds top past (Ok referent)
  last = at_word p m mid room via ds top past (Ok referent) is_some w

  pub asked_place : 4 ≤ (past.row).place
  asked_place = place_from p m mid holds room via ds top past (Ok referent) last

  pub asked_stands : ReferentStands mid.bytes ((past.row).place - 4) referent
  asked_stands = word_stands p m mid holds room via ds top past (Ok referent) last referent refl

  pub asked_reads : mid ≡ record m { count = mid.count }
  asked_reads = its_reads p m mid holds room via ds top past (Ok referent) last referent refl

  pub asked_count : mid.count ≤ m.count + 2 ^ 36
  asked_count = its_few p m mid holds room via ds top past (Ok referent) last referent refl l

  pub asked_steps : (new : Lent) (many : ℕ) (child : Child) (turn : Result Turn Halt) → ReferentPassed p mid new (site_of top) ((past.row).place - 4) many child referent turn → Stepped p m new room via many ds top past child turn
  asked_steps new many child turn t =
      let site = word_site p m mid holds room via ds top past (Ok referent) last in
      let place = word_place p m mid holds room via ds top past (Ok referent) last in
      steps p m mid new holds room via ds top past many child (Ok referent) last referent refl turn
      (subst (λ n. ReferentPassed p mid new (site_of last.reached) n many child referent turn) place (subst (λ x. ReferentPassed p mid new x ((past.row).place - 4) many child referent turn) (sym site) t))

-- it stops behind one
pub word_stops : (p : Passing) (m new : Lent) → (holds : IsPassing p m.bytes) → (room : ℕ) (via : List Link) (ds : List Demand) (top past : Frame) (many : ℕ) (s : Stop) (h : Halt) → h ≡ record { stop = s; links = many; last = Behind } → WordsPassed p m new room via ds top past (Err s)
    → StopsHere p m new via many ds past h h.last
word_stops p m new holds room via ds top past many s h is w =
    let a = at_word p m new room via ds top past (Err s) (λ e. cc) w in
    let wh = word_holds p m new holds room via ds top past (Err s) a in
    let wl = word_left p m new holds room via ds top past (Err s) a in
    then_stops p m new holds room via ds top past a.before a.reached a.by many h h.last
    (halts_behind p a.before new wh room via a.reached (a.by).left wl (a.front).more new many s h past is (a.front).is (first_stops p a.before new wh room via a.reached (a.by).left wl (a.front).more s (a.front).first))
