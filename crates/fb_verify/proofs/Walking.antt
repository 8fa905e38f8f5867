-- The steps of a walk under way, with the work that they leave.
use Rattle.std.proofs.Common.{◌≡◌, ℕ, ◌+◌, ◌<◌, ◌≤◌, inl, inr, refl, List, [], ◌∷◌, ◌++◌, length, sym, ap, arith, Some, None, map, ◌∙◌, subst, Option, Result, Ok, Err, true}
use Rattle.std.specs.{Prelude.slice_get, List.All, Result.IsErrAnd}
use Rattle.std.proofs.lemmas.List.{Elements.All-push, Elements.All-pop, length-append, map-append, append-nil}
use Rattle.fb_bytes.specs.Word.{Lent}
use Rattle.fb_schema.specs.{Rows.Rows, Live.Live, Live.live_fields}
use Rattle.fb_rules.specs.{Bounds.Bounds, Bounds.AreAllowed, Fields.entries, Cost.own_reads, Cost.lead_reads, Links.field_link, Links.LeadsAlong, Told.told}
use Rattle.fb_rules.specs.{Order.own_failure, Order.element_failure, Order.Failure, Order.◌▷◌, OffsetRows.words_of, OffsetRows.first_word, OffsetRows.past_first, OffsetRows.IsLeafLead}
use Rattle.fb_rules.specs.{OffsetRows.IsRow, OffsetRows.IsAskable, Stops.reads_failure, Stops.lead_reads_failure, Stops.in_field, Stops.fault_at, declared.checks.Checks.Checks}
use Rattle.fb_rules.specs.declared.{offset_row.Row.Row, fault.Fault.Fault, link.Link.Link, site.Site.Site}
use Rattle.fb_verify.specs.{Walked.ended, PassesOn.HasPassed, Stack.work, Stack.IsFrame, Stack.frame_work, Stack.reached, Stack.Origin, Stack.IsUnderWay, Stack.Standing, Stack.frame_link}
use Rattle.fb_verify.specs.{Stack.link_to_number, Stack.own_link, Stack.IsLinked, Stack.StopsIn, Stack.blank, Stack.Waiting, Stack.IsWalking, Stack.IsStopped, Units.PassesFields}
use Rattle.fb_verify.specs.declared.{scratch.Frame.Frame, stack.Walk.Walk}
use Rattle.fb_rules.proofs.{Few.first_few, Few.own_few, Budgets.fewer_reads, Typed.typed_before, Words.row_none}
use Rattle.fb_verify.proofs.Frames.{field_within, frame_on, frame_passed, no_row}
use Rattle.fb_verify.proofs.Standings.{context_pop, context_linked, at_rest, goes_way, pass_leaf, pass_more, close, told_is, in_middle, stop, stop_at_element}
use Rattle.fb_verify.proofs.{Linked.is_linked, Steps.resumed, Steps.stops_at_field as stops_at_test}

module _ {c : Checks} {b : List ℕ} {S : Rows} {L : Bounds} {s : Origin} {below : List Frame} {top : Frame} {n d r : ℕ} (h : IsUnderWay c b S L s below top n d r) where
  -- the top, past its next field
  abbrev top_past : ℕ → Row → Frame
  top_past number row = record top { next = top.next + 1; number = number; row = row }

  -- the top, past a field that leads nowhere
  abbrev top_over : Frame
  top_over = record top { next = top.next + 1 }

  -- the walk goes on with this frame for the top, after so many reads
  pub goes_on : (next : Frame) (q : ℕ) → AreAllowed L.reads q → IsFrame c b S next → Standing c b S s below next n d q → IsUnderWay c b S L s below next n d q
  goes_on next q cheap frame standing = record { served = h.served; tables = h.tables; deepest = h.deepest; reads = cheap; links = h.links; low = h.low; frames = h.frames; frame = frame; standing = standing }

  -- the table of the top is walked to its end, and the one above it goes on
  pub table_closed : (rest : List Frame) (above : Frame) → below ≡ rest ++ above ∷ [] → (top.row).left ≡ 0 → length (live_fields S (top.table).object) ≤ top.next → IsUnderWay c b S L s rest above n d r
  table_closed rest above e rests all =
      let frames = All-pop (IsFrame c b S) below rest (Some above) e h.frames in
      let g = h.standing in
      let p = context_pop c b S rest above s.object s.position (top.table).object (top.table).at s.way g.v (rw e at g.under) in
      let walked = close c b S L s below top n d r g rests all in
      let on = resumed c b S (above.table).object (above.table).at p.0 above.next above.number (words_of b S above.row) (top.table).object (top.table).at g.v (ended g.v n d r) p.2 walked in
      let standing : Standing c b S s rest above n d r = record { v = p.0; root = g.root; under = p.1; at = inr (rw (goes_way c b S above p.0 (top.table).object (top.table).at g.v n d r p.2) at on) } in
      record {
        served = h.served;
        tables = h.tables;
        deepest = h.deepest;
        reads = h.reads;
        links = omega (arith, h.links, ap length e, length-append rest (above ∷ []));
        low = omega (arith, h.low, ap length e, length-append rest (above ∷ []));
        frames = frames.0;
        frame = frames.1;
        standing = standing;
      }

  -- a uoffset that leads to no table is passed
  pub leaf_passed : (row : Row) (q : ℕ) → row ≡ past_first top.row → 0 < (top.row).left → element_failure c b (first_word b S top.row) ≡ None → q ≡ r + (first_word b S top.row).reads + lead_reads (first_word b S top.row).lead
      → IsLeafLead (first_word b S top.row).lead → AreAllowed L.reads q → IsUnderWay c b S L s below (record top { row = row }) n d q
  leaf_passed row q re l o z k cheap = goes_on (record top { row = row }) q cheap (frame_on c b S top row re l h.frame) (pass_leaf c b S L s below top n d r h.standing row q re l o k z)

  pub leaf_falls : (row : Row) (q : ℕ) → row ≡ past_first top.row → 0 < (top.row).left → q ≡ r + (first_word b S top.row).reads + lead_reads (first_word b S top.row).lead → q + work S L below (record top { row = row }) n < r + work S L below top n
  unfolding work
  leaf_falls row q re l z = omega (arith, l, ap (λ (x : Row). x.left) re, z, first_few b S top.row)

  module _ (field : Live) (row : Row) (number q : ℕ) (l : (top.row).left ≡ 0) (i : slice_get (live_fields S (top.table).object) top.next ≡ Some field) (z : q ≡ r + own_reads b (top.table).at field) (good : IsRow b S row) where
    -- a field is passed
    pub field_passed : AreAllowed L.reads q → number ≡ field.number → own_failure c b S (top.table).at field ≡ None → entries b S (top.table).at field ≡ words_of b S row → IsUnderWay c b S L s below (top_past number row) n d q
    field_passed cheap ne o e = goes_on (top_past number row) q cheap (frame_passed c b S top number row (field_within _ _ _ i) good h.frame) (pass_more c b S L s below top n d r h.standing field row number q l i ne o e z)

    pub field_work : q + frame_work S (top_past number row) < r + frame_work S top
    field_work = omega (arith, field_within (live_fields S (top.table).object) top.next field i, good.left, own_few b (top.table).at field, z)

    -- a field that leads nowhere is passed
    pub field_skipped : AreAllowed L.reads q → row.left ≡ 0 → own_failure c b S (top.table).at field ≡ None → entries b S (top.table).at field ≡ words_of b S row → IsUnderWay c b S L s below top_over n d q
    field_skipped cheap none o e =
        let on = pass_more c b S L s below top n d r h.standing field row field.number q l i refl o e z in
        goes_on top_over q cheap (frame_passed c b S top top.number top.row (field_within _ _ _ i) (h.frame).row h.frame)
        (record { v = on.v; root = on.root; under = on.under; at = inl (record { none = l; inside = (at_rest c b S (top_past field.number row) on.v n d q none on.at).inside }) })

    pub skip_work : q + frame_work S top_over ≤ r + frame_work S top
    skip_work = omega (arith, field_within (live_fields S (top.table).object) top.next field i, own_few b (top.table).at field, z)

-- Where a walk stops that is under way, by the frames that lead there.

-- a fault names the field of the site where it is told
pub told_link : (site : Site) (r : ℕ) (e : Option Failure) (f : Fault) → told site r e ≡ Some f → own_link f ≡ link_to_number site.object site.field
told_link site r e f h = grind arith

module _ {c : Checks} {b : List ℕ} {S : Rows} {L : Bounds} {s : Origin} {below : List Frame} {top : Frame} {n d r : ℕ} (h : IsUnderWay c b S L s below top n d r) (f : Fault) where
  linked : All (IsLinked c b S) below
  linked = let g = h.standing in context_linked c b S h.served below s.object s.position (top.table).object (top.table).at s.way g.v g.under h.frames

  -- in the top's field that a fault names
  pub stops_in_field : (links : List Link) → links ≡ own_link f → LeadsAlong c b S L s.object s.position s.way f (map (frame_link b S) below ++ links) → StopsIn c b S L s below (own_link f) f
  stops_in_field links e g = record { along = rw e at g; linked = linked }

  -- behind a word of the top
  pub stops_behind : (row : Row) → row ≡ past_first top.row → 0 < (top.row).left
      → LeadsAlong c b S L s.object s.position s.way f (map (frame_link b S) below ++ frame_link b S (record top { row = past_first top.row }) ∷ [])
      → StopsIn c b S L s (below ++ record top { row = row } ∷ []) [] f
  stops_behind row re l way =
      let past : Frame = record top { row = past_first top.row } in
      let same : map (frame_link b S) (below ++ past ∷ []) ++ [] ≡ map (frame_link b S) below ++ frame_link b S past ∷ [] = append-nil (map (frame_link b S) (below ++ past ∷ [])) ∙ map-append (frame_link b S) below (past ∷ []) in
      let g = h.standing in
      let m = in_middle c b S top g.v n d r l g.at in
      let base : StopsIn c b S L s (below ++ past ∷ []) [] f = record {
        along = rw same way;
        linked = All-push (IsLinked c b S) below past linked (is_linked c b S past g.v _ (first_word b S top.row) m h.served (frame_on c b S top (past_first top.row) refl l h.frame));
      } in
      subst (λ (x : Row). StopsIn c b S L s (below ++ record top { row = x } ∷ []) [] f) (sym re) base

  -- a field of the top fails by itself
  pub field_stops : (field : Live) → (top.row).left ≡ 0 → slice_get (live_fields S (top.table).object) top.next ≡ Some field
      → told (record { object = (top.table).object; field = Some field.number }) r (own_failure c b S (top.table).at field ▷ reads_failure L r (own_reads b (top.table).at field) (top.table).at) ≡ Some f → StopsIn c b S L s below (own_link f) f
  unfolding fault_at
  field_stops field l i e =
      let g = h.standing in
      let k = (top.table).object in
      let own = own_failure c b S (top.table).at field ▷ reads_failure L r (own_reads b (top.table).at field) (top.table).at in
      let u = reached g.v k (Some field.number) n d r in
      let first : fault_at c b S L (in_field (top.table).at field) u ≡ Some f = sym (told_is u (record { object = k; field = Some field.number }) own refl refl) ∙ e in
      let inside = (at_rest c b S top g.v n d r l g.at).inside in
      let leads = stops_at_test c b S k (top.table).at g.v L f top.next (reached g.v k None n d r) field inside i (record { within = record { tables = h.tables; depth = h.deepest; reads = fewer_reads L.reads _ r (omega arith) h.reads }; first = first }) in
      stops_in_field (field_link k field ∷ []) (sym (told_link _ r _ f e)) (stop c b S L s below top n d r g f (field_link k field ∷ []) leads)

  -- a word of the top fails
  pub word_stops : (row : Row) → row ≡ past_first top.row → 0 < (top.row).left
      → told (record { object = (top.table).object; field = Some top.number }) r (element_failure c b (first_word b S top.row) ▷ lead_reads_failure L r (first_word b S top.row) (first_word b S top.row).lead) ≡ Some f
      → StopsIn c b S L s (below ++ record top { row = row } ∷ []) [] f
  word_stops row re l e = stops_behind row re l (stop_at_element c b S L s below top n d r h.standing h.tables h.deepest h.reads f l e)

-- The walk comes to the next field of the top, and goes on past it or stops there.

-- the exit of a `?`
pub err_exit : {A E : Type 0} (r : Result A E) (x : E) (P : Result A E → Type 0) → IsErrAnd r (λ e. e ≡ x) → P (Err x) → P r
err_exit (Ok a) x P h p = absurd h
err_exit (Err e) x P h p = subst (λ y. P (Err y)) (sym h) p

-- no field is under check, and this is the next
pub record AtNext (w : Walk) (m : Lent) (under : Waiting) (top : Frame) (field : Live) : Type 0 where
  pub walking : IsWalking w m under.start under.frames top
  pub rests : (top.row).left ≡ 0
  pub here : slice_get (live_fields w.schema.now (top.table).object) top.next ≡ Some field

module _ {w : Walk} {m : Lent} {under : Waiting} {top : Frame} {field : Live} (h : AtNext w m under top field) where
  pub askable : IsAskable m.bytes w.schema.now (top.table).at field field.kind
  askable =
      let k = (top.table).object in
      let g = (h.walking).standing in
      let inside = (at_rest w.checks m.bytes w.schema.now top g.v w.tables w.deepest m.count h.rests g.at).inside in
      let holds = ((h.walking).served).kinds (top.table).object top.next field h.here in
      let typed = typed_before w.checks m.bytes w.schema.now (top.table).at inside.earlier (live_fields w.schema.now k) top.next field.slot inside.passed field.kind (((h.walking).served).typed k top.next field h.here) in
      search (h.walking, holds, typed)

  -- it fails by itself
  pub next_stops : (f : Fault)
      → told (record { object = (top.table).object; field = Some field.number }) m.count (own_failure w.checks m.bytes w.schema.now (top.table).at field ▷ reads_failure w.limits m.count (own_reads m.bytes (top.table).at field) (top.table).at) ≡ Some f
      → IsStopped w m under.start under.frames f
  next_stops f e = field_stops h.walking f field h.rests h.here e

  -- or it holds, after these reads; the walk began before it
  module _ (own : own_failure w.checks m.bytes w.schema.now (top.table).at field ≡ None) {q : ℕ} (count : q ≡ m.count + own_reads m.bytes (top.table).at field) (cheap : AreAllowed (w.limits).reads q)
      {began : Lent} {first : Frame} (falls : m.count + frame_work w.schema.now top ≤ began.count + frame_work w.schema.now first) (grows : began.count ≤ q) (bytes : m.bytes ≡ began.bytes) where
    -- it leads on
    pub next_leads : (row : Row) → IsRow m.bytes w.schema.now row × (0 < row.left) → entries m.bytes w.schema.now (top.table).at field ≡ words_of m.bytes w.schema.now row
        → PassesFields w began (record m { count = q }) under first (record top { next = top.next + 1; number = field.number; row = row }) (Ok true)
    unfolding work
    next_leads row good leads =
        let walking = field_passed h.walking field row field.number q h.rests h.here count good.0 cheap refl own leads in
        let less = field_work h.walking field row field.number q h.rests h.here count good.0 in
        record { same = refl; walking = walking; falls = omega (arith, less, falls); grows = grows; bytes = bytes }

    -- it leads on nowhere
    pub next_over : top.table ≡ first.table → entries m.bytes w.schema.now (top.table).at field ≡ [] → HasPassed w began (record m { count = q }) under first (record top { next = top.next + 1 })
    next_over table none =
        let row = no_row w.checks m.bytes w.schema.now in
        let walking = field_skipped h.walking field blank.row field.number q h.rests h.here count row cheap refl own (none ∙ sym (row_none m.bytes w.schema.now blank.row refl)) in
        let work = skip_work h.walking field blank.row field.number q h.rests h.here count row in
        search (arith, walking, work, falls, grows, bytes, table)
