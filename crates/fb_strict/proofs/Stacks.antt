-- A turn over the frames of the open tables.
use Rattle.std.proofs.Common.{IsTrue, ◌≡◌, ℕ, zero, suc, ◌+◌, ◌-◌, ◌^◌, ◌<◌, ◌≤◌, List, [], ◌∷◌, ◌++◌, length, get_or, take, map, inl, inr, refl, sym, ap, subst, ◌∙◌, append_assoc, arith, Ok, Err}
use Rattle.std.proofs.{Math.ListN.set, Math.ListN.length-set, lemmas.List.get_or-set_same, lemmas.List.get_or-set_other, lemmas.List.take-set-le, lemmas.List.append-nil}
use Rattle.std.proofs.lemmas.Bool.{cases_lt}
use Rattle.fb_bytes.specs.Word.{Lent}
use Rattle.fb_schema.specs.Rows.{is_table}
use Rattle.fb_rules.specs.declared.{site.Stop.Stop, site.Halt.Halt, table.Child.Child, table.Head.Head, link.Link.Link, site.LastLink.LastLink, site.LastLink.TheVariants.Behind}
use Rattle.fb_rules.specs.{declared.site.LastLink.TheVariants.InField, Tree.Tree, Tree.node, Tree.depth, Told.stopped, Told.IsHead, Facts.IsTable}
use Rattle.fb_strict.specs.{declared.inner.Inner.Inner, declared.room.Frame.Frame, Asked.Demand, Passing.Passing, Passing.Opens, Passing.opening, Passing.IsPassing, Passing.opened}
use Rattle.fb_strict.specs.Passing.{blank, frame_link, frame_links, IsLinked, AreLinked, IsLeft, AreLeft, Moves, Breaks, GoesOn, frame_work, frames_work, Stays, GoesDown, GoesIn}
use Rattle.fb_strict.specs.Passing.{StopsHere, Halts, Turns, Enters, wants_of}
use Rattle.fb_verify.specs.Stack.{own_link}
use Rattle.fb_strict.proofs.{Lists.one_more, Moving.still, Moving.onward, Moving.before, Moving.breaks_before, Moving.breaks_then, Frames.opened_left, Frames.head_first}
use Rattle.fb_strict.proofs.{Frames.next_table, Tasking.opened_few}

module _ (p : Passing) (b : List ℕ) (frames : List Frame) (m : ℕ) (y : Frame) where
  same_frame : (n : ℕ) → n < m → get_or (set frames m y) n blank ≡ get_or frames n blank
  same_frame n lt = get_or-set_other frames m n y blank (λ e. omega arith)

  -- the frames below one that is written
  same_taken : (n : ℕ) → n ≤ m → take n (set frames m y) ≡ take n frames
  same_taken n le = take-set-le n frames m y le

  pub links_kept : (n : ℕ) → n ≤ m → frame_links (wants_of p) b p.rows (set frames m y) n ≡ frame_links (wants_of p) b p.rows frames n
  links_kept n le = ap (map (frame_link (wants_of p) b p.rows)) (same_taken n le)

  pub linked_kept : (n : ℕ) → n ≤ m → AreLinked (wants_of p) p.checks b p.rows frames n → AreLinked (wants_of p) p.checks b p.rows (set frames m y) n
  linked_kept n le h i lt = rw (same_frame i (omega arith)) (h i lt)

  -- what stands below a frame that is written
  pub kept : (n : ℕ) (ds : List Demand) → n ≤ m → AreLeft p b frames n ds → AreLeft p b (set frames m y) n ds
  unfolding AreLeft
  kept zero ds le h = h
  kept (suc n) ds le h = (h.0, h.1, rw (length-set frames m y, same_frame n (omega arith), links_kept n (omega arith)) h.2, kept n h.1 (omega arith) h.3, h.4, linked_kept n (omega arith) h.5)

  pub work_kept : (n : ℕ) → n ≤ m → frames_work p (set frames m y) n ≡ frames_work p frames n
  unfolding frames_work
  work_kept zero le = refl
  work_kept (suc n) le = rw (same_frame n (omega arith), work_kept n (omega arith)) refl

-- the links of one frame more
module _ (p : Passing) (b : List ℕ) (frames : List Frame) (n : ℕ) where
  pub links_more : n < length frames → frame_links (wants_of p) b p.rows frames (suc n) ≡ frame_links (wants_of p) b p.rows frames n ++ frame_link (wants_of p) b p.rows (get_or frames n blank) ∷ []
  links_more lt = let s : suc n ≡ n + 1 = omega arith in ap (frame_links (wants_of p) b p.rows frames) s ∙ one_more (frame_link (wants_of p) b p.rows) frames n blank lt

  pub linked_more : AreLinked (wants_of p) p.checks b p.rows frames n → IsLinked (wants_of p) p.checks b p.rows (get_or frames n blank) → AreLinked (wants_of p) p.checks b p.rows frames (suc n)
  linked_more h one i lt = elim (cases_lt i n) [ inl less ↦ h i less | inr past ↦ (let same : i ≡ n = omega (arith, past, lt) in rw same one) ]

pub some_deep : (y : Tree) → 0 < depth y
unfolding depth
some_deep (node k t kids) = omega arith

module _ (p : Passing) (m new : Lent) (frames : List Frame) (at : ℕ) (within : at < length frames) (own others : List Demand) (below : AreLeft p m.bytes frames at others) (linked : AreLinked (wants_of p) p.checks m.bytes p.rows frames at) where
  abbrev via : List Link
  via = frame_links (wants_of p) m.bytes p.rows frames at

  with_others : {left : List Demand} → GoesOn p m new own left → GoesOn p m new (own ++ others) (left ++ others)
  with_others g = record { moves = before p.limits others g.moves; grows = g.grows; same = g.same }

  pub stays_on : (past : Frame) → Stays p m new (length frames - at) via own (get_or frames at blank) past → Turns p m new (own ++ others) frames (suc at) (set frames at past) (suc at)
  unfolding AreLeft frames_work
  stays_on past s =
      let same = get_or-set_same frames at past blank within in
      record {
        left = s.left ++ others;
        on = with_others s.on;
        stack = (s.left, others, rw (length-set frames at past, same, links_kept p m.bytes frames at past at (omega arith)) s.frame, kept p m.bytes frames at past at others (omega arith) below, refl, linked_kept p m.bytes frames at past at (omega arith) linked);
        falls = rw (same, work_kept p m.bytes frames at past at (omega arith)) (omega (arith, s.falls, (s.on).grows));
      }

  pub goes_up : (past : Frame) → own ≡ [] → new ≡ m → Turns p m new (own ++ others) frames (suc at) (set frames at past) at
  unfolding frames_work
  goes_up past none same = rw (none, same) (record {
    left = others;
    on = record { moves = still p.limits m.count others; grows = omega arith; same = refl };
    stack = kept p m.bytes frames at past at others (omega arith) below;
    falls = rw (work_kept p m.bytes frames at past at (omega arith)) (omega arith);
  })

-- A buffer inside is next.
module _ (p : Passing) (m new : Lent) (frames : List Frame) (at : ℕ) (within : at < length frames) (own others : List Demand) (below : AreLeft p m.bytes frames at others) (linked : AreLinked (wants_of p) p.checks m.bytes p.rows frames at) where
  abbrev via_in : List Link
  via_in = frame_links (wants_of p) m.bytes p.rows frames at

  -- the top has its link
  links_in : (past : Frame) → frame_links (wants_of p) m.bytes p.rows (set frames at past) (suc at) ≡ via_in ++ frame_link (wants_of p) m.bytes p.rows past ∷ []
  links_in past =
      let same = get_or-set_same frames at past blank within in
      links_more p m.bytes (set frames at past) at (omega (arith, within, length-set frames at past))
      ∙ (λ i. links_kept p m.bytes frames at past at (omega arith) i ++ frame_link (wants_of p) m.bytes p.rows (same i) ∷ [])

  pub goes_in : (past : Frame) (i : Inner) → GoesIn p m new (length frames - at) via_in own (get_or frames at blank) past i → Enters p m new (own ++ others) (set frames at past) (suc at) i
  unfolding AreLeft
  goes_in past i g =
      let same = get_or-set_same frames at past blank within in
      let kept_links = linked_kept p m.bytes frames at past at (omega arith) linked in
      let ds = g.it ∷ (g.left ++ others) in
      record {
        last = m.count;
        it = g.it;
        left = g.left ++ others;
        moves = subst (λ xs. Moves p.limits m.count xs m.count ds) (sym (ap (λ xs. xs ++ others) g.all)) (still p.limits m.count ds);
        meets = g.meets;
        same = g.same;
        stack = (g.left, others, rw (length-set frames at past, same, links_kept p m.bytes frames at past at (omega arith)) g.frame, kept p m.bytes frames at past at others (omega arith) below, refl, kept_links);
        within = omega (arith, within, length-set frames at past);
        some = omega arith;
        linked = linked_more p m.bytes (set frames at past) at kept_links (rw same g.linked);
        way = g.way ∙ sym (links_in past);
      }

-- A table below the top was opened: the pass went on to its demands, and then past its head.
module _ (p : Passing) (m mid new : Lent) (frames : List Frame) (at : ℕ) (within : at < length frames) (own others : List Demand) (below : AreLeft p m.bytes frames at others) (linked : AreLinked (wants_of p) p.checks m.bytes p.rows frames at) (past fr : Frame) (child : Child) where
  abbrev pub via_below : List Link
  via_below = frame_links (wants_of p) m.bytes p.rows frames at

  abbrev pub via_past : List Link
  via_past = via_below ++ frame_link (wants_of p) m.bytes p.rows past ∷ []

  abbrev one : List Frame
  one = set frames at past

  abbrev two : List Frame
  two = set one (at + 1) fr

  long_one : length one ≡ length frames
  long_one = length-set frames at past

  under : get_or two at blank ≡ past
  under = get_or-set_other one (at + 1) at fr blank (λ e. omega arith) ∙ get_or-set_same frames at past blank within

  -- the top has its link, once a table is open below it
  pub links_deeper : at + 1 < length frames → frame_links (wants_of p) m.bytes p.rows two (suc at) ≡ via_past
  links_deeper lt =
      links_more p m.bytes two at (omega (arith, lt, long_one, length-set one (at + 1) fr))
      ∙ (λ i. (links_kept p m.bytes one (at + 1) fr at (omega arith) ∙ links_kept p m.bytes frames at past at (omega arith)) i ++ frame_link (wants_of p) m.bytes p.rows (under i) ∷ [])

  pub linked_deeper : IsLinked (wants_of p) p.checks m.bytes p.rows past → AreLinked (wants_of p) p.checks m.bytes p.rows two (suc at)
  linked_deeper h = linked_more p m.bytes two at (linked_kept p m.bytes one (at + 1) fr at (omega arith) (linked_kept p m.bytes frames at past at (omega arith) linked)) (rw under h)

  pub deeper : (g : GoesDown p m mid (length frames - at) via_below own (get_or frames at blank) past child) → at + 1 < length frames
  deeper g = omega (arith, (g.next).deep, some_deep (g.next).tree)

  pub goes_down : (g : GoesDown p m mid (length frames - at) via_below own (get_or frames at blank) past child) → (rest : List Demand) → GoesOn p mid new g.below rest → m.count < new.count → IsLeft p m.bytes (length frames - at - 1) via_past fr rest → frame_work p fr < 2 ^ 49
      → Turns p m new (own ++ others) frames (suc at) (set (set frames at past) (at + 1) fr) (suc (suc at))
  unfolding AreLeft frames_work
  goes_down g rest on more left few =
      let long = length-set frames at past in
      let long2 = length-set one (at + 1) fr in
      let here : suc at ≡ at + 1 = omega arith in
      let top = get_or-set_same one (at + 1) fr blank (omega (arith, long, deeper g)) in
      let room : length frames - at - 1 ≡ length frames - (at + 1) = omega arith in
      record {
        left = rest ++ (g.left ++ others);
        on = record {
          moves = onward p.limits (before p.limits others (g.on).moves) (regroup (before p.limits (g.left ++ others) on.moves));
          grows = omega (arith, (g.on).grows, on.grows);
          same = on.same ∙ ap (λ (x : Lent). record x { count = new.count }) (g.on).same;
        };
        stack = (
          rest,
          g.left ++ others,
          rw (links_deeper (deeper g), long2, long, here, top, sym room) left,
          (
            g.left,
            others,
            rw (links_kept p m.bytes one (at + 1) fr at (omega arith), links_kept p m.bytes frames at past at (omega arith), long2, long, under) g.frame,
            kept p m.bytes one (at + 1) fr at others (omega arith) (kept p m.bytes frames at past at others (omega arith) below),
            refl,
            linked_kept p m.bytes one (at + 1) fr at (omega arith) (linked_kept p m.bytes frames at past at (omega arith) linked),
          ),
          refl,
          linked_deeper g.linked,
        );
        falls = rw (here, top, under, work_kept p m.bytes one (at + 1) fr at (omega arith), work_kept p m.bytes frames at past at (omega arith)) (omega (arith, g.falls, few, more));
      }
    where
      regroup : {n k : ℕ} {left : List Demand} → Moves p.limits n (g.below ++ (g.left ++ others)) k left → Moves p.limits n ((g.below ++ g.left) ++ others) k left
      regroup {n} {k} {left} h = subst (λ xs. Moves p.limits n xs k left) (sym (append_assoc g.below g.left others)) h

-- The frame that is open last, of so many, and the others.
module _ (p : Passing) (b : List ℕ) (frames : List Frame) where
  pub record IsTop (at : ℕ) (ds : List Demand) : Type 0 where
    pub own : List Demand
    pub others : List Demand
    pub left : IsLeft p b (length frames - at) (frame_links (wants_of p) b p.rows frames at) (get_or frames at blank) own
    pub below : AreLeft p b frames at others
    pub all : ds ≡ own ++ others
    pub linked : AreLinked (wants_of p) p.checks b p.rows frames at

  pub top_of : (many at : ℕ) (ds : List Demand) → 0 < many → at ≡ many - 1 → AreLeft p b frames many ds → IsTop at ds
  unfolding AreLeft
  top_of zero at ds some is h = absurd (omega arith)
  top_of (suc n) at ds some is h = let same : at ≡ n = omega (arith, is) in rw same (record { own = h.0; others = h.1; left = h.2; below = h.3; all = h.4; linked = h.5 })

module _ (p : Passing) (m new : Lent) (frames : List Frame) (many at : ℕ) (some : 0 < many) (within : many ≤ length frames) (is : at ≡ many - 1) (ds : List Demand) (stack : AreLeft p m.bytes frames many ds) where
  abbrev top : Frame
  top = get_or frames at blank

  abbrev pub via_top : List Link
  via_top = frame_links (wants_of p) m.bytes p.rows frames at

  in_frames : at < length frames
  in_frames = omega (arith, some, within, is)

  many_is : suc at ≡ many
  many_is = omega (arith, some, is)

  pub stays_turned : (past : Frame) → ((room : ℕ) (via : List Link) (own : List Demand) → IsLeft p m.bytes room via top own → Stays p m new room via own top past) → Turns p m new ds frames many (set frames at past) many × (many ≤ length (set frames at past))
  stays_turned past h =
      let t = top_of p m.bytes frames many at ds some is stack in
      let r = stays_on p m new frames at in_frames t.own t.others t.below t.linked past (h (length frames - at) via_top t.own t.left) in
      (rw t.all (rw many_is at r), omega (arith, within, length-set frames at past))

  pub up_turned : (past : Frame) → ((room : ℕ) (via : List Link) (own : List Demand) → IsLeft p m.bytes room via top own → (own ≡ []) × (new ≡ m)) → Turns p m new ds frames many (set frames at past) (many - 1) × (many - 1 ≤ length (set frames at past))
  up_turned past h =
      let t = top_of p m.bytes frames many at ds some is stack in
      let e = h (length frames - at) via_top t.own t.left in
      let r = goes_up p m new frames at in_frames t.own t.others t.below t.linked past e.0 e.1 in
      let past-frames = set frames at past in
      (rw t.all (subst (λ n. Turns p m new (t.own ++ t.others) frames n past-frames (many - 1)) many_is (subst (λ n. Turns p m new (t.own ++ t.others) frames (suc at) past-frames n) is r)), omega (arith, within, length-set frames at past))

  pub in_turned : (past : Frame) (i : Inner) → ((room : ℕ) (via : List Link) (own : List Demand) → IsLeft p m.bytes room via top own → GoesIn p m new room via own top past i) → Enters p m new ds (set frames at past) many i
  in_turned past i h =
      let t = top_of p m.bytes frames many at ds some is stack in
      rw t.all (rw many_is at (goes_in p m new frames at in_frames t.own t.others t.below t.linked past i (h (length frames - at) via_top t.own t.left)))

  -- it stops: behind a word of the top's, or in a field of its table
  module _ (past : Frame) (h : Halt) where
    stopped_in : (own others : List Demand) (last : LastLink) → h.last ≡ last → ds ≡ own ++ others → AreLinked (wants_of p) p.checks m.bytes p.rows frames at → StopsHere p m new via_top many own past h last → Halts p m new ds (set frames at past) h
    stopped_in own others Behind last all linked s =
        let links = links_more p m.bytes (set frames at past) at (omega (arith, in_frames, length-set frames at past)) in
        let same = get_or-set_same frames at past blank in_frames in
        let above : frame_links (wants_of p) m.bytes p.rows (set frames at past) many ≡ via_top ++ frame_link (wants_of p) m.bytes p.rows past ∷ [] =
        ap (frame_links (wants_of p) m.bytes p.rows (set frames at past)) (sym many_is) ∙ links ∙ (λ i. links_kept p m.bytes frames at past at (omega arith) i ++ frame_link (wants_of p) m.bytes p.rows (same i) ∷ []) in
        let each = linked_more p m.bytes (set frames at past) at (linked_kept p m.bytes frames at past at (omega arith) linked) (rw same s.1) in
        let broken = breaks_before p.limits m.count own others (stopped h.stop new.count) (via_top ++ frame_link (wants_of p) m.bytes p.rows past ∷ []) s.2 in
        record {
          breaks = rw (last, s.0, all, above, append-nil (via_top ++ frame_link (wants_of p) m.bytes p.rows past ∷ [])) broken;
          linked = rw (s.0, sym many_is) each;
          within = rw last (omega (arith, s.0, within, length-set frames at past));
        }
    stopped_in own others InField last all linked s =
        let here : h.links ≡ at = omega (arith, s.0, many_is) in
        let broken = breaks_before p.limits m.count own others (stopped h.stop new.count) (via_top ++ own_link (stopped h.stop new.count)) s.1 in
        record {
          breaks = rw (last, here, all, links_kept p m.bytes frames at past at (omega arith)) broken;
          linked = rw here (linked_kept p m.bytes frames at past at (omega arith) linked);
          within = rw last (omega (arith, s.0, within, length-set frames at past));
        }

    pub stops_turned : ((room : ℕ) (via : List Link) (own : List Demand) → IsLeft p m.bytes room via top own → StopsHere p m new via many own past h h.last) → Halts p m new ds (set frames at past) h
    stops_turned stops =
        let t = top_of p m.bytes frames many at ds some is stack in
        stopped_in t.own t.others h.last refl t.all t.linked (stops (length frames - at) via_top t.own t.left)

  -- a table below is to be opened
  module _ (mid : Lent) (past : Frame) (child : Child) (h : (room : ℕ) (via : List Link) (own : List Demand) → IsLeft p m.bytes room via top own → GoesDown p m mid room via own top past child) (holds : IsPassing p m.bytes) where
    abbrev t : IsTop p m.bytes frames at ds
    t = top_of p m.bytes frames many at ds some is stack

    abbrev g : GoesDown p m mid (length frames - at) via_top t.own top past child
    g = h (length frames - at) via_top t.own t.left

    abbrev via_child : List Link
    via_child = via_top ++ frame_link (wants_of p) m.bytes p.rows past ∷ []

    pub has_frame : at + 1 < length frames
    has_frame = deeper p m mid mid frames at in_frames t.own t.others t.below t.linked past past child g

    pub its_table : IsTable p.checks m.bytes child.at
    its_table = next_table p m.bytes holds (length frames - at - 1) via_child child (g.below) g.next

    pub its_object : IsTrue (is_table p.rows child.object)
    its_object = (g.next).object

    pub its_reads : GoesOn p m mid t.own (g.below ++ g.left)
    its_reads = g.on

    pub its_paid : mid.count ≤ m.count + 2 ^ 36
    its_paid = omega (arith, g.paid, ((t.left).asked).near)

    its_bytes : mid.bytes ≡ m.bytes
    its_bytes = ap (λ (x : Lent). x.bytes) (g.on).same

    pub open_stops : (s : Stop) → Opens p mid new child (Err s) → (fr : Frame) (h : Halt) → h ≡ record { stop = s; links = many; last = Behind } → Halts p m new ds (set (set frames at past) (at + 1) fr) h
    open_stops s a fr h is =
        let o = head_first p m.bytes holds (length frames - at - 1) via_child child g.below g.next in
        let f = stopped s new.count in
        let first = subst (λ xs. Breaks p.limits mid.count xs f via_child) (sym o.1) (subst (λ b. Breaks p.limits mid.count (opening p b via_child child ++ o.0) f via_child) its_bytes (a via_child o.0)) in
        let broken = breaks_before p.limits m.count t.own t.others f via_child (breaks_then p.limits f via_child (g.on).moves (breaks_before p.limits mid.count g.below g.left f via_child first)) in
        let links = ap (frame_links (wants_of p) m.bytes p.rows (set (set frames at past) (at + 1) fr)) (sym many_is) ∙ links_deeper p m mid new frames at in_frames t.own t.others t.below t.linked past fr child has_frame in
        subst (Halts p m new ds (set (set frames at past) (at + 1) fr)) (sym is) (record {
          breaks = rw (t.all, links, append-nil via_child) broken;
          linked = rw (sym many_is) (linked_deeper p m mid new frames at in_frames t.own t.others t.below t.linked past fr child g.linked);
          within = omega (arith, within, length-set (set frames at past) (at + 1) fr, length-set frames at past);
        })

    pub down_turned : Opens p mid new child (Ok (tt {0})) → (head : Head) → IsHead p.checks m.bytes child.at head
        → (fr : Frame) → fr ≡ opened (record { object = child.object; at = child.at; head = head })
        → Turns p m new ds frames many (set (set frames at past) (at + 1) fr) (many + 1) × (many + 1 ≤ length (set (set frames at past) (at + 1) fr))
    down_turned a head is-head fr it =
        let o = opened_left p m.bytes holds (length frames - at - 1) via_child child g.below g.next head is-head in
        let on : GoesOn p mid new g.below o.left = subst (λ xs. GoesOn p mid new xs o.left) (sym o.all) (subst (λ b. GoesOn p mid new (opening p b via_child child ++ o.left) o.left) its_bytes (a.1 via_child o.left)) in
        let after = set (set frames at past) (at + 1) fr in
        let two : suc (suc at) ≡ many + 1 = omega (arith, many_is) in
        let few = opened_few p m.bytes (record { object = child.object; at = child.at; head = head }) holds in
        let r = goes_down p m mid new frames at in_frames t.own t.others t.below t.linked past fr child g o.left on (omega (arith, (g.on).grows, a.0)) (rw it o.frame) (rw it (omega (arith, few))) in
        (rw t.all (subst (λ n. Turns p m new (t.own ++ t.others) frames n after (many + 1)) many_is (subst (λ n. Turns p m new (t.own ++ t.others) frames (suc at) after n) two r)), omega (arith, has_frame, many_is, length-set (set frames at past) (at + 1) fr, length-set frames at past))
