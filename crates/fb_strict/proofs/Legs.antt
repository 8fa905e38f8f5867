-- A pass over an open buffer, within what is left, as one of the whole.
use Rattle.fb_strict.specs.{InOrder.length_failure, InOrder.where_asked, declared.inner.Inner.Inner, declared.room.Frame.Frame, declared.levels.Level.Level}
use Rattle.fb_strict.specs.{declared.levels.Unmet.Unmet, Asked.Demand, Asked.demand_fault, Asked.demands_of, Asked.demands_in, Asked.demands_reads, Passing.Passing}
use Rattle.fb_strict.specs.Passing.{wants_of, IsLeft, IsAskedRow, AreLeft, AreLinked, frame_links, IsStanding, Moves, Breaks, GoesOn, Halts, Went, Begins, Began, IsRooted}
use Rattle.fb_strict.specs.{Nested.budget_left, Nested.limits_left, Nested.later, Levels.Whole, Levels.IsBegun, Levels.asked_from, Levels.resting, Levels.passing_of}
use Rattle.fb_strict.specs.Levels.{bytes_of, unmet_by, IsOpened, Reached, Finished, Stopped, Legged, RootBegun}
use Rattle.std.proofs.Common.{◌≡◌, ℕ, zero, suc, ◌+◌, ◌^◌, ◌≤◌, List, [], ◌∷◌, ◌++◌, length, drop, true, false, Option, Some, None, option_map, Result, Ok, Err, refl, sym, ap, subst, ◌∙◌, arith, length-drop, length-append}
use Rattle.std.proofs.Math.Seq.{drop-append_seam}
use Rattle.fb_bytes.specs.Word.{Lent}
use Rattle.fb_rules.specs.declared.{fault.Fault.Fault, fault.Report.Report, link.Link.Link, site.Halt.Halt, site.LastLink.LastLink, site.LastLink.TheVariants.Behind}
use Rattle.fb_rules.specs.{declared.site.LastLink.TheVariants.InField, declared.table.Child.Child, Bounds.Bounds, Bounds.AreAllowed, Stops.reads_failure, Told.stopped, Tree.Tree}
use Rattle.fb_rules.specs.{Unfolds.Unfolds, Order.◌▷◌}
use Rattle.fb_rules.proofs.Budgets.{no_reads}
use Rattle.fb_verify.specs.Stack.{last_link}
use Rattle.fb_strict.proofs.{Buffers.length_demand, Buffers.rest_of, Buffers.long, Buffers.quiet, Looping.halts_then, Moving.onward, Shifted.shifted, Shifted.budget}
use Rattle.fb_strict.proofs.{Shifted.fault_later, Moving.same_reads, Few.first_reads, Stacks.some_deep}

-- Frames stand for the same within other limits.

module _ (p : Passing) (L : Bounds) where
  abbrev within : Passing
  within = record p { limits = L }

  row_within : (b : List ℕ) (fr : Frame) → IsAskedRow p b fr.row → IsAskedRow within b fr.row
  row_within b fr h = record { near = h.near; leads = h.leads }

  left_within : (b : List ℕ) (room : ℕ) (via : List Link) (fr : Frame) (ds : List Demand) → IsLeft p b room via fr ds → IsLeft within b room via fr ds
  left_within b room via fr ds h = record {
    object = h.object;
    near = h.near;
    head = h.head;
    fields = h.fields;
    known = h.known;
    tasks = h.tasks;
    kids = h.kids;
    unfolds = h.unfolds;
    words = h.words;
    row = h.row;
    asked = row_within b fr h.asked;
    deep = h.deep;
    way = h.way;
    passed = h.passed;
    linked = h.linked;
    all = h.all;
  }

  pub all_within : (b : List ℕ) (frames : List Frame) (n : ℕ) (ds : List Demand) → AreLeft p b frames n ds → AreLeft within b frames n ds
  unfolding AreLeft
  all_within b frames zero ds h = h
  all_within b frames (suc n) ds h = (h.0, h.1, left_within b _ _ _ h.0 h.2, all_within b frames n h.1 h.3, h.4, h.5)

-- Reads within what is left are reads after those before.

none_later : (w : ℕ) (x : Option Fault) → x ≡ None → option_map (later w) x ≡ None
none_later w x h = rw h refl

module _ (L : Bounds) (w : ℕ) (a : AreAllowed L.reads w) where
  pub moves_later : (n : ℕ) (ds : List Demand) (last : ℕ) (left : List Demand) → Moves (limits_left L w) n ds last left → Moves L (w + n) ds (w + last) left
  moves_later n ds last left h = record {
    met = h.met;
    all = h.all;
    plain = h.plain;
    none = shifted L w a n h.met ∙ none_later w _ h.none;
    count = omega (arith, h.count);
  }

  pub breaks_later : (n : ℕ) (ds : List Demand) (f : Fault) (links : List Link) → Breaks (limits_left L w) n ds f links → Breaks L (w + n) ds (later w f) links
  breaks_later n ds f links h = record {
    last = w + h.last;
    it = h.it;
    later = h.later;
    moves = moves_later n ds h.last (h.it ∷ h.later) h.moves;
    fails = ap (λ e. demand_fault h.it (w + h.last) ((h.it).chain ▷ e)) (budget L w a h.last (h.it).reads (h.it).at) ∙ fault_later L w a h.it h.last ((h.it).chain ▷ reads_failure (limits_left L w) h.last (h.it).reads (h.it).at) ∙ ap (option_map (later w)) h.fails;
    along = h.along;
  }

  pub allowed_later : (n : ℕ) → AreAllowed (budget_left L.reads w) n → AreAllowed L.reads (w + n)
  allowed_later n h = by L.reads a h
    where
      by : (o : Option ℕ) → AreAllowed o w → AreAllowed (budget_left o w) n → AreAllowed o (w + n)
      by None a h = tt
      by (Some most) a h = omega arith

-- One leg.

same_way : (last : LastLink) (h : Halt) (n m : ℕ) → last_link last (stopped h.stop n) ≡ last_link last (stopped h.stop m)
same_way Behind h n m = refl
same_way InField h n m = refl

zeroth : (w n : ℕ) → n ≡ 0 → w + n ≡ w
zeroth w n h = omega (arith, h)

module _ (w : Whole) (spent : Report) (a : AreAllowed ((w.question).limits).reads spent.reads) (frames : List Frame) (level : Level) where
  abbrev p : Passing
  p = passing_of w spent

  module _ (m : Lent) (bytes : m.bytes ≡ bytes_of w level) (none : m.count ≡ 0) where
    leg_left : (ds : List Demand) → IsOpened w frames level ds → AreLeft p m.bytes (drop level.above frames) level.many ds
    leg_left ds h = subst (λ b. AreLeft p b (drop level.above frames) level.many ds) (sym bytes) (all_within (resting w) p.limits (bytes_of w level) (drop level.above frames) level.many ds h.stack)

    -- its frames stand
    pub leg_stands : length frames ≤ 4096 → (ds : List Demand) → IsOpened w frames level ds → IsStanding p m (drop level.above frames) level.many
    leg_stands small ds h = record {
      left = ds;
      stack = leg_left ds h;
      within = let l = length-drop level.above frames in omega (arith, l, h.room);
      small = let l = length-drop level.above frames in omega (arith, l, small);
      allowed = subst (AreAllowed (p.limits).reads) (sym none) (no_reads (p.limits).reads);
      few = omega (arith, none, h.few);
    }

    abbrev Ran : (new : Lent) (past : List Frame) (many : ℕ) → Result (Option Inner) Halt → Type 0
    Ran new past many r = (ds : List Demand) → AreLeft p m.bytes (drop level.above frames) level.many ds → Went p m new ds past many r

    ran : (new : Lent) (past : List Frame) (many : ℕ) (r : Result (Option Inner) Halt) → Ran new past many r → (ds : List Demand) → IsOpened w frames level ds → Went p m new ds past many r
    ran new past many r h ds it = h ds (leg_left ds it)

    from_start : (ds : List Demand) (last : ℕ) (left : List Demand) → Moves (p.limits) m.count ds last left → Moves (w.question).limits spent.reads ds (spent.reads + last) left
    from_start ds last left h = subst (λ n. Moves (w.question).limits n ds (spent.reads + last) left) (zeroth spent.reads m.count none) (moves_later (w.question).limits spent.reads a m.count ds last left h)

    module _ (new : Lent) (then : Report) (count : then.reads ≡ spent.reads + new.count) (past : List Frame) (many : ℕ) where
      leg_ends : (ds : List Demand) → Went p m new ds past many (Ok None) → Finished w spent then ds
      leg_ends ds h = rw count (from_start ds new.count [] h.moves)

      -- the frames behind those around it are these now
      module _ (new-frames : List Frame) (front : List Frame) (joined : new-frames ≡ front ++ past) (long : length front ≡ level.above) where
        abbrev after-it : Level
        after-it = record level { many = many }

        own_frames : drop level.above new-frames ≡ past
        own_frames = ap (drop level.above) joined ∙ ap (λ n. drop n (front ++ past)) (sym long) ∙ drop-append_seam front past

        all_frames : length new-frames ≡ level.above + length past
        all_frames = let l = length-append front past in let n = ap length joined in omega (arith, l, n, long)

        leg_reaches : (ds : List Demand) (i : Inner) → IsOpened w frames level ds → Went p m new ds past many (Ok (Some i)) → Reached w spent then new-frames after-it ds i
        leg_reaches ds i it h =
            let same : past ≡ drop level.above new-frames = sym own_frames in
            let stack = all_within p (w.question).limits m.bytes past many h.left h.stack in
            record {
              last = spent.reads + h.last;
              it = h.it;
              left = h.left;
              moves = from_start ds h.last (h.it ∷ h.left) h.moves;
              inner = (h.meets).inner;
              chain = (h.meets).chain;
              count = omega (arith, count, (h.meets).count);
              allowed = subst (AreAllowed ((w.question).limits).reads) (sym count) (allowed_later (w.question).limits spent.reads a new.count (h.meets).allowed);
              stands = record { within = subst (λ b. i.at + i.size ≤ length b) bytes ((h.meets).stands).within; table = ((h.meets).stands).table };
              opened = record {
                within = it.within;
                room = omega (arith, all_frames, h.within);
                higher = omega (arith, all_frames, h.within, h.some);
                stack = subst (λ fs. AreLeft (resting w) (bytes_of w level) fs many h.left) same (subst (λ b. AreLeft (resting w) b past many h.left) bytes stack);
                few = omega (arith, same_reads p.limits h.moves, first_reads h.it h.left, none, it.few);
              };
              some = h.some;
              through = subst (λ fs. AreLinked (wants_of p) p.checks (bytes_of w level) p.rows fs many) same (subst (λ b. AreLinked (wants_of p) p.checks b p.rows past many) bytes h.linked);
              way = h.way ∙ ap (λ b. frame_links (wants_of p) b p.rows past many) bytes ∙ ap (λ fs. frame_links (wants_of p) (bytes_of w level) p.rows fs many) same;
            }

        leg_stops : level.begin + level.size ≤ length w.bytes → (ds : List Demand) (h : Halt) (u : Unmet) → u ≡ unmet_by after-it h then.reads → Went p m new ds past many (Err h) → Stopped w spent new-frames after-it ds u
        leg_stops stands ds h u is k =
            let same : past ≡ drop level.above new-frames = sym own_frames in
            let own = frame_links (wants_of p) m.bytes p.rows past h.links in
            let fault : later spent.reads (stopped h.stop new.count) ≡ stopped h.stop then.reads = ap (stopped h.stop) (sym count) in
            let broken = breaks_later (w.question).limits spent.reads a m.count ds (stopped h.stop new.count) (own ++ last_link h.last (stopped h.stop new.count)) k.breaks in
            let from = subst (λ n. Breaks (w.question).limits n ds (later spent.reads (stopped h.stop new.count)) (own ++ last_link h.last (stopped h.stop new.count))) (zeroth spent.reads m.count none) broken in
            subst (Stopped w spent new-frames after-it ds) (sym is) (record {
              links = own ++ last_link h.last (stopped h.stop new.count);
              breaks = subst (λ f. Breaks (w.question).limits spent.reads ds f (own ++ last_link h.last (stopped h.stop new.count))) fault from;
              level_is = refl;
              many = h.links;
              last = h.last;
              rest = refl;
              leads = record {
                tables = record {
                  within = stands;
                  room = omega (arith, all_frames, k.within);
                  linked = subst (λ fs. AreLinked (wants_of p) p.checks (bytes_of w level) p.rows fs h.links) same (subst (λ b. AreLinked (wants_of p) p.checks b p.rows past h.links) bytes k.linked);
                };
                room = omega (arith, all_frames, k.within);
                way = (λ k. frame_links (wants_of p) (bytes k) p.rows (same k) h.links ++ same_way h.last h new.count then.reads k);
              };
            })

        goes_by : (ds : List Demand) (r : Option Inner) → IsOpened w frames level ds → Went p m new ds past many (Ok r) → Legged w spent then new-frames after-it ds (Ok r)
        goes_by ds None it h = leg_ends ds h
        goes_by ds (Some i) it h = leg_reaches ds i it h

        module _ (pass : Passing) (pass-is : pass ≡ p) (own : List Frame) (own-is : own ≡ drop level.above frames) (r : Result (Option Inner) Halt)
            (h : (ds : List Demand) → AreLeft pass m.bytes own level.many ds → Went pass m new ds past many r) (ds : List Demand) (it : IsOpened w frames level ds) where
          went : Went p m new ds past many r
          went =
              let one = subst (λ fs. (ds : List Demand) → AreLeft pass m.bytes fs level.many ds → Went pass m new ds past many r) own-is h in
              ran new past many r (subst (λ x. (ds : List Demand) → AreLeft x m.bytes (drop level.above frames) level.many ds → Went x m new ds past many r) pass-is one) ds it

          pub leg_goes : (x : Option Inner) → r ≡ Ok x → Legged w spent then new-frames after-it ds (Ok x)
          leg_goes x is = goes_by ds x it (subst (Went p m new ds past many) is went)

          pub leg_halts : (s : Halt) → r ≡ Err s → (u : Unmet) → u ≡ unmet_by after-it s then.reads → Legged w spent then new-frames after-it ds (Err u)
          leg_halts s is u told = leg_stops it.within ds s u told (subst (Went p m new ds past many) is went)

-- A buffer is opened.

module _ (p : Passing) (m : Lent) (allowed : AreAllowed (p.limits).reads m.count) (root : Child) (y : Tree) where
  abbrev whole-ds : List Demand
  whole-ds = length_demand p m allowed root ∷ rest_of p m allowed root y

  pub root_quiet : where_asked ((p.plan).demands).unions (length_failure m.bytes) ≡ None → (wants_of p).asks root.object ≡ false → (new : Lent) → new ≡ m → (frames : List Frame) → RootBegun p m new whole-ds frames (Ok 0)
  unfolding AreLeft
  root_quiet chain unasked new same frames = ([], quiet p m allowed root chain unasked new same y, refl, omega arith)

  module _ (mid new : Lent) (same : mid ≡ m) (chain : where_asked ((p.plan).demands).unions (length_failure m.bytes) ≡ None) (is-asked : (wants_of p).asks root.object ≡ true) (frames : List Frame) where
    abbrev root-ds : List Demand
    root-ds = demands_in y (wants_of p) p.checks m.bytes p.rows []

    pub root_begins : {A : Type 0} (r : Result A Halt) → Begins p mid new root-ds frames r → 1 ≤ length frames → (a : A) → r ≡ Ok a → RootBegun p m new whole-ds frames (Ok 1)
    root_begins r h some a is =
        let b : Began p mid new root-ds frames = rw is at h in
        let on : GoesOn p m new root-ds b.left = rw same at b.on in
        let bytes = ap (λ (x : Lent). x.bytes) same in
        let stack = subst (λ x. AreLeft p x frames 1 b.left) bytes b.stack in
        rw is-asked (b.left, record { moves = onward p.limits (long p m allowed root chain root-ds) on.moves; grows = on.grows; same = on.same }, stack, some)

    pub root_halts : {A : Type 0} (r : Result A Halt) → Begins p mid new root-ds frames r → (h : Halt) → r ≡ Err h → RootBegun p m new whole-ds frames (Err h)
    root_halts r b h is =
        let k : Halts p mid new root-ds frames h = rw is at b in
        rw is-asked (halts_then p m m new (length_demand p m allowed root ∷ root-ds) root-ds frames h refl (long p m allowed root chain root-ds) (rw same at k))

module _ (w : Whole) (spent : Report) (a : AreAllowed ((w.question).limits).reads spent.reads) (level : Level) (root : Child) where
  pub rooted_within : (b : List ℕ) (room room' : ℕ) (y : Tree) → b ≡ bytes_of w level → room' ≡ room → IsRooted (resting w) (bytes_of w level) room root y → IsRooted (passing_of w spent) b room' root y
  rooted_within b room room' y bytes same h = record {
    unfolds = subst (λ b. Unfolds y (w.question).checks b (w.question).rows root.object root.at) (sym bytes) h.unfolds;
    object = h.object;
    near = h.near;
    deep = omega (arith, h.deep, same);
  }

  module _ (m new : Lent) (bytes : m.bytes ≡ bytes_of w level) (none : m.count ≡ 0) (then : Report) (count : then.reads ≡ spent.reads + new.count) (past new-frames front : List Frame) (joined : new-frames ≡ front ++ past) (long : length front ≡ level.above) (within : level.begin + level.size ≤ length w.bytes) where
    abbrev pass : Passing
    pass = passing_of w spent

    abbrev own-ds : Tree → List Demand
    own-ds y = demands_of (wants_of pass) pass.checks m.bytes pass.rows root.object y

    same_ds : (y : Tree) → own-ds y ≡ asked_from w level root y
    same_ds y = ap (λ b. demands_of (wants_of pass) pass.checks b pass.rows root.object y) bytes

    own_frames_are : drop level.above new-frames ≡ past
    own_frames_are = own_frames w spent a past level m bytes none new then count past 0 new-frames front joined long

    pub level_begins : (y : Tree) (many : ℕ) → 1 ≤ length past → demands_reads (asked_from w level root y) ≤ 2 ^ 112 → RootBegun pass m new (own-ds y) past (Ok many) → IsBegun w spent then new-frames (record level { many = many }) (asked_from w level root y)
    level_begins y many some few h =
        let moves = from_start w spent a past level m bytes none (own-ds y) new.count h.0 (h.1).moves in
        let stack = all_within pass (w.question).limits m.bytes past many h.0 h.2 in
        record {
          left = h.0;
          moves = subst (λ ds. Moves (w.question).limits spent.reads ds then.reads h.0) (same_ds y) (rw count moves);
          opened = record {
            within = within;
            room = let l = length-append front past in let n = ap length joined in omega (arith, l, n, long, h.3);
            higher = let l = length-append front past in let n = ap length joined in omega (arith, l, n, long, some);
            stack = subst (λ fs. AreLeft (resting w) (bytes_of w level) fs many h.0) (sym own_frames_are) (subst (λ b. AreLeft (resting w) b past many h.0) bytes stack);
            few = let s = same_reads (w.question).limits moves in let t = ap demands_reads (same_ds y) in omega (arith, s, t, few);
          };
        }

    pub level_halts : (y : Tree) (h : Halt) (u : Unmet) → u ≡ unmet_by level h then.reads → RootBegun pass m new (own-ds y) past (Err h) → Stopped w spent new-frames level (asked_from w level root y) u
    level_halts y h u is k = subst (λ ds. Stopped w spent new-frames level ds u) (same_ds y) (leg_stops w spent a past level m bytes none new then count past level.many new-frames front joined long within (own-ds y) h u is k)

  -- there is a frame for it
  pub some_room : (room : ℕ) (y : Tree) → IsRooted (resting w) (bytes_of w level) room root y → 1 ≤ room
  some_room room y h = omega (arith, h.deep, some_deep y)
