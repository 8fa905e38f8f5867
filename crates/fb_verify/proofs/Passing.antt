-- A walk goes on past fields that lead to no table, or stops at one.
use Rattle.std.proofs.Common.{◌≡◌, ℕ, ◌+◌, ◌-◌, ◌^◌, ◌<◌, ◌≤◌, inl, inr, Bool, true, false, IsTrue, if◌then◌else◌, List, [], ◌∷◌, map, length, get_or, option_map, refl, sym, ◌∙◌, ap, subst, arith, Option, Some, None, zero, suc, ◌*◌, drop, length-drop}
use Rattle.std.specs.{Prelude.slice_get, List.All, List.position_or_len}
use Rattle.std.proofs.lemmas.{List.length-map, List.get_or-drop, Bool.Decides.nat_tests, List.Sums.passes_at_first, List.Sums.fails_before_first, List.Sums.sum_by-le, List.Sums.sum_by-cons}
use Rattle.std.proofs.lemmas.{List.Elements.All-cons, Option.slice_get-get_or, Option.slice_get-map, Option.slice_get_within, Option.get_or_from_slice_get}
use Rattle.std.proofs.{Math.Seq.drop-cons, Common.add-one}
use Rattle.fb_bytes.specs.Word.{Lent}
use Rattle.fb_schema.specs.{Rows.Rows, Steps.act_of, Steps.step_of, Live.Live, Live.live_fields, Live.next_required, Live.next_required_of, declared.views.Act.TheVariants.Other}
use Rattle.fb_schema.specs.declared.views.Step.{Step}
use Rattle.fb_rules.specs.{Bounds.Bounds, Bounds.AreAllowed, Places.vtable_size, Places.has_slot, Places.field_place, Cost.slot_reads, Cost.own_reads, OffsetRows.first_word}
use Rattle.fb_rules.specs.{OffsetRows.past_first, Stops.reads_failure, Stops.lead_reads_failure, Told.refused, Told.stopped, Fields.to_string, Fields.entry, Fields.entries, Fields.row}
use Rattle.fb_rules.specs.Plain.{tested_by, plain_failure, plain_reads, StepsHold, steps_reads, StepTested, Stepped}
use Rattle.fb_rules.specs.{Order.Failure, Order.after, Order.◌▷◌, Order.own_failure, Order.element_failure, declared.checks.Checks.Checks, declared.fault.Fault.Fault}
use Rattle.fb_rules.specs.declared.{fault.Reason.Reason, fault.Reason.TheVariants.MissingRequired, offset_row.Row.Row, offset_row.Referent.TheVariants.Text as AText}
use Rattle.fb_rules.specs.declared.{offset_row.Leads.TheVariants.All as AllTo, site.Refusal.Refusal, site.Site.Site, site.Stop.Stop, plain.Came.Came}
use Rattle.fb_rules.specs.declared.plain.Came.TheVariants.{Past, ToEnd, ToField, ToFault}
use Rattle.fb_verify.specs.{StopsAt.IsStopAt, Stack.blank, Stack.frame_link, Stack.own_link, Stack.Origin, Stack.Waiting, Stack.IsUnderWay, Stack.IsWalking, Stack.IsAtField, Stack.IsStopped}
use Rattle.fb_verify.specs.{Stack.Standing, Stack.StopsIn, PassesOn.StepsPass, PassesOn.IsBetween, PassesOn.HasRoom, PassesOn.EndsBehind, PassesOn.CameTo, PassesOn.fields_left}
use Rattle.fb_verify.specs.declared.{scratch.Frame.Frame, stack.Walk.Walk}
use Rattle.fb_rules.proofs.{Budgets.fewer_reads, Chains.after_none, Chains.both_none, Refusals.told_after, Refusals.told_first, Words.row_none, Few.own_few, Few.slot_few}
use Rattle.fb_rules.proofs.Plains.{LeadsTo, step_at, comes, after_twice, plain_few}
use Rattle.fb_verify.proofs.{Walking.field_stops, Walking.stops_in_field, Walking.goes_on, Walking.field_skipped, Frames.field_within, Frames.frame_passed, Frames.no_row}
use Rattle.fb_verify.proofs.Standings.{at_rest, pass_more, pass_leaf, stop_at_element}

-- Fields behind the end of a table's vtable, of which none is required: they are passed without a read.

-- What the schema tells of the next required field.
abbrev is_required : Live → Bool
is_required f = f.required

abbrev first_from : List Live → ℕ → ℕ
first_from fs i = position_or_len is_required (drop i fs)

free_until : (fs : List Live) (i j : ℕ) (f : Live) → i ≤ j → j < i + first_from fs i → slice_get fs j ≡ Some f → f.required ≡ false
free_until fs i j f low lt at = grind (arith, get_or-drop i fs (j - i) f, get_or_from_slice_get fs j f f at, fails_before_first is_required (drop i fs) (j - i) f)

none_past : (fs : List Live) (i : ℕ) → next_required_of fs i ≡ None → length fs ≤ i + first_from fs i
none_past fs i e = grind (arith, nat_tests, length-drop i fs)

pub some_past : (fs : List Live) (i place : ℕ) → next_required_of fs i ≡ Some place → (place < length fs) × (place ≡ i + first_from fs i)
some_past fs i place e = grind (arith, nat_tests, length-drop i fs)

-- it is one of them, at that place or behind it, and required
pub some_found : (fs : List Live) (i place : ℕ) → next_required_of fs i ≡ Some place → (d : Live) → (i ≤ place) × (place < length fs) × ((f : Live) → slice_get fs place ≡ Some f → f.required ≡ true)
some_found fs i place some d =
    let (within, same) = some_past fs i place some in (
      omega (arith, same),
      within,
      λ f at. ap is_required (sym (get_or_from_slice_get fs place f f at) ∙ ap (λ k. get_or fs k f) same ∙ sym (get_or-drop i fs (first_from fs i) f))
          ∙ passes_at_first is_required (drop i fs) f (omega (arith, within, same, length-drop i fs)),
    )

-- A field whose slot lies behind the vtable costs no read.
pub bare_reads : (b : List ℕ) (t : ℕ) (f : Live) → has_slot b t f.slot ≡ false → own_reads b t f ≡ 0
unfolding own_reads field_place
bare_reads b t f past = rw past refl

-- Nor does it fail, where it isn't required.
module _ (c : Checks) (b : List ℕ) (S : Rows) (t : ℕ) (f : Live) (past : has_slot b t f.slot ≡ false) (free : f.required ≡ false) where
  bare_field : (own_failure c b S t f ≡ None) × (entries b S t f ≡ [])
  unfolding own_failure entries field_place
  bare_field = rw (past, free) (refl, refl)

  bare_step : (plain_failure c b t (step_of f) ≡ None) × (plain_reads b t (step_of f) ≡ 0)
  unfolding plain_failure plain_reads field_place
  bare_step = rw (past, free) (refl, refl)

-- what holds of each item from a place on holds of those that are left
all_from : {X : Type 0} (P : X → Type 0) (xs : List X) (i : ℕ) → ((j : ℕ) (x : X) → i ≤ j → slice_get xs j ≡ Some x → P x) → All P (drop i xs)
all_from P xs i h = λ k d lt. subst P (sym (get_or-drop i xs k d)) (h (i + k) (get_or xs (i + k) d) (omega arith) (slice_get-get_or xs (i + k) d (omega (arith, lt, length-drop i xs))))

module _ {c : Checks} {b : List ℕ} {S : Rows} {L : Bounds} {s : Origin} {below : List Frame} {top : Frame} {n d r : ℕ} (h : IsUnderWay c b S L s below top n d r) where
  abbrev top_fields : List Live
  top_fields = live_fields S (top.table).object

  -- the top, with this field next
  abbrev top_at : ℕ → Frame
  top_at i = record top { next = i }

  module _ (rests : (top.row).left ≡ 0) (field : Live) (here : slice_get top_fields top.next ≡ Some field) (past : vtable_size b (top.table).at < field.slot + 2) where
    -- a field behind it has no slot either
    pub no_slot_from : (i : ℕ) (f : Live) → top.next ≤ i → slice_get top_fields i ≡ Some f → has_slot b (top.table).at f.slot ≡ false
    no_slot_from i f low there = let less = (h.served).rising (top.table).object top.next i field f here there in grind (arith, nat_tests)

    module _ (stop : ℕ) (within : stop ≤ length top_fields) (free : stop ≤ top.next + first_from top_fields top.next) where
      passed_from : (m i : ℕ) → i + m ≡ stop → top.next ≤ i → IsUnderWay c b S L s below (top_at i) n d r → IsUnderWay c b S L s below (top_at stop) n d r
      passed_from zero i e low g = let same : i ≡ stop = omega (arith, e) in subst (λ j. IsUnderWay c b S L s below (top_at j) n d r) same g
      passed_from (suc m) i e low g =
          let x = get_or top_fields i field in
          let f = slice_get-get_or top_fields i field (omega (arith, e, within)) in
          let t = (top.table).at in
          let none = no_slot_from i x low f in
          let bare = bare_field c b S t x none (free_until top_fields top.next i x low (omega (arith, e, free)) f) in
          passed_from m (i + 1) (omega (arith, e)) (omega (arith, low))
          (field_skipped g x blank.row top.number r rests f (omega (arith, bare_reads b t x none)) (no_row c b S) g.reads refl bare.0 (bare.1 ∙ sym (row_none b S blank.row refl)))

      -- the table's fields before that one are passed
      pub absent_to : top.next ≤ stop → IsUnderWay c b S L s below (top_at stop) n d r
      absent_to low = passed_from (stop - top.next) top.next (omega (arith, low)) (omega arith) h

    -- the table's other fields are passed, where none of them is required
    pub none_required : next_required S (top.table).object top.next ≡ None → IsUnderWay c b S L s below (top_at (length top_fields)) n d r
    none_required none = absent_to (length top_fields) (omega arith) (none_past top_fields top.next none) (h.frame).next

    -- or those before the next required one
    pub required_next : (place : ℕ) → next_required S (top.table).object top.next ≡ Some place → IsUnderWay c b S L s below (top_at place) n d r
    required_next place some =
        let found = some_found top_fields top.next place some field in
        absent_to place (omega (arith, found.1)) (omega (arith, (some_past top_fields top.next place some).1)) found.0

    -- so that the steps of these hold, and cost nothing
    module _ (none : next_required S (top.table).object top.next ≡ None) where
      abbrev rest : List Step
      rest = drop top.next (map step_of top_fields)

      bare : (P : Step → Type 0) → ((f : Live) → has_slot b (top.table).at f.slot ≡ false → f.required ≡ false → P (step_of f)) → All P rest
      bare P h' = all_from P (map step_of top_fields) top.next (λ j s low e.
          let x = step_at top_fields j s e in
          subst P (sym x.2) (h' x.0 (no_slot_from j x.0 low x.1) (free_until top_fields top.next j x.0 low (omega (arith, none_past top_fields top.next none, slice_get_within top_fields j x.0 x.1)) x.1)))

      pub rest_holds : StepsHold c b (top.table).at rest
      rest_holds = bare (λ s'. plain_failure c b (top.table).at s' ≡ None) (λ f past' free. (bare_step c b S (top.table).at f past' free).0)

      pub rest_free : steps_reads b (top.table).at rest ≡ 0
      rest_free = omega (arith, sum_by-le (plain_reads b (top.table).at) 0 rest (bare (λ s'. plain_reads b (top.table).at s' ≤ 0) (λ f past' free. omega (arith, (bare_step c b S (top.table).at f past' free).1))))

-- a stop is its parts
pub stop_is : (s : Stop) (e : Refusal) (object number reads : ℕ) → s.refusal ≡ e → (s.site).object ≡ object → (s.site).field ≡ Some number
    → stopped (record { refusal = e; site = record { object = object; field = Some number } }) reads ≡ stopped s reads
stop_is s e object number reads a b c = rw (a, b, c) refl

-- A field that leads to no table.
module _ {c : Checks} {b : List ℕ} {S : Rows} {L : Bounds} {s : Origin} {below : List Frame} {top : Frame} {n d r : ℕ} (h : IsUnderWay c b S L s below top n d r)
    (rests : (top.row).left ≡ 0) (f : Live) (here : slice_get (live_fields S (top.table).object) top.next ≡ Some f) (plain : act_of f f.kind ≡ Other → field_place b (top.table).at f.slot ≡ None) where
  abbrev t : ℕ
  t = (top.table).at

  -- the row of a string's uoffset
  abbrev one_word : ℕ → Row
  one_word p = record { leads = AllTo AText; place = p; left = 1 }

  -- the field under check, with that row
  abbrev at_word : ℕ → Frame
  at_word p = record top { next = top.next + 1; number = f.number; row = one_word p }

  module _ (p : ℕ) (to : LeadsTo c b S t f p) where
    -- the field holds by itself
    entered : own_failure c b S t f ≡ None → Standing c b S s below (at_word p) n d (r + own_reads b t f)
    unfolding row
    entered own = pass_more c b S L s below top n d r h.standing f (one_word p) f.number (r + own_reads b t f) rests here refl own to.one refl

    -- the string is passed
    string_passed : (q : ℕ) → q ≡ r + plain_reads b t (step_of f) → plain_failure c b t (step_of f) ≡ None → Standing c b S s below (record top { next = top.next + 1 }) n d q
    string_passed q z ok =
        let parts = (both_none (own_failure c b S t f) (after (own_reads b t f) (element_failure c b (entry to_string p 0)))).0 (sym to.chain ∙ ok) in
        let lead = (after_none (own_reads b t f) (element_failure c b (entry to_string p 0))).0 parts.1 in
        let count : q ≡ r + own_reads b t f + 0 + 3 = omega (arith, z, to.reads) in
        let none : (past_first (one_word p)).left ≡ 0 = omega arith in
        let on = pass_leaf c b S L s below (at_word p) n d (r + own_reads b t f) (entered parts.0) (past_first (one_word p)) q refl (omega arith) lead tt count in
        let past : Frame = record top { next = top.next + 1; number = f.number; row = past_first (one_word p) } in
        record { v = on.v; root = on.root; under = on.under; at = inl (record { none = rests; inside = (at_rest c b S past on.v n d q none on.at).inside }) }

  -- a field that holds is passed
  pub plain_passed : (q : ℕ) → q ≡ r + plain_reads b t (step_of f) → AreAllowed L.reads q → plain_failure c b t (step_of f) ≡ None → IsUnderWay c b S L s below (record top { next = top.next + 1 }) n d q
  plain_passed q z cheap ok = elim (comes c b S t f plain) [
    | inl to ↦ field_skipped h f blank.row top.number q rests here (z ∙ ap (λ m. r + m) to.reads) (no_row c b S) cheap refl (sym to.chain ∙ ok) (to.none ∙ sym (row_none b S blank.row refl))
    | inr x ↦ goes_on h (record top { next = top.next + 1 }) q cheap (frame_passed c b S top top.number top.row (field_within _ _ _ here) (h.frame).row h.frame) (string_passed x.0 x.1 q z ok)
  ]

  -- Where it fails.
  module _ (cheap : AreAllowed L.reads (r + own_reads b t f)) (e : Refusal) (q : ℕ) where
    abbrev site : Site
    site = record { object = (top.table).object; field = Some f.number }

    abbrev fault : Fault
    fault = stopped (record { site = site; refusal = e }) q

    abbrev Stopped : Type 0
    Stopped = StopsIn c b S L s below (own_link fault) fault

    own_stops : after r (own_failure c b S t f) ≡ Some (refused e q) → Stopped
    own_stops x =
        let own = own_failure c b S t f in
        field_stops h fault f rests here (told_first site r own (reads_failure L r (own_reads b t f) t) fault (told_after site r q own e x))

    -- the link through a string's word is that to its field
    string_stops : (p : ℕ) → LeadsTo c b S t f p → (own : Option Failure) → own_failure c b S t f ≡ own → after r (own ▷ after (own_reads b t f) (element_failure c b (entry to_string p 0))) ≡ Some (refused e q) → Stopped
    string_stops p to (Some y) is x = own_stops (ap (after r) is ∙ x)
    string_stops p to None is x =
        let m = r + own_reads b t f in
        let word = first_word b S (one_word p) in
        let past : Frame = record top { next = top.next + 1; number = f.number; row = past_first (one_word p) } in
        let before : top.next + 1 - 1 ≡ top.next = omega arith in
        stops_in_field h fault (frame_link b S past ∷ []) (rw (before, here, to.kind))
        (stop_at_element c b S L s below (at_word p) n d m (entered p to is) h.tables h.deepest cheap fault (omega arith)
        (told_first site m (element_failure c b word) (lead_reads_failure L m word word.lead) fault (told_after site m q (element_failure c b word) e (sym (after_twice r (own_reads b t f) (element_failure c b word)) ∙ x))))

    pub plain_stops : after r (plain_failure c b t (step_of f)) ≡ Some (refused e q) → Stopped
    plain_stops x = elim (comes c b S t f plain) [
      | inl to ↦ own_stops (ap (after r) (sym to.chain) ∙ x)
      | inr y ↦ string_stops y.0 y.1 (own_failure c b S t f) refl (ap (after r) (sym (y.1).chain) ∙ x)
    ]

-- The slot of a field was read that stands there and may lead to a table.
pub slot_is_one : (b : List ℕ) (at o : ℕ) → IsTrue (has_slot b at o) → slot_reads b at o ≡ 1
slot_is_one b at o h = ap (λ (x : Bool). if x then 1 else 0) h

-- The walk comes to this step of the top's table, between two fields.
pub record AtStep (w : Walk) (m : Lent) (under : Waiting) (top : Frame) (steps : List Step) (step : Step) : Type 0 where
  pub walking : IsWalking w m under.start under.frames top
  pub rests : (top.row).left ≡ 0
  pub all : steps ≡ map step_of (live_fields w.schema.now (top.table).object)
  pub got : slice_get steps top.next ≡ Some step

module _ {w : Walk} {m : Lent} {under : Waiting} {top : Frame} {steps : List Step} {step : Step} (h : AtStep w m under top steps step) where
  abbrev b : List ℕ
  b = m.bytes

  abbrev table_at : ℕ
  table_at = (top.table).at

  abbrev fields : List Live
  fields = live_fields w.schema.now (top.table).object

  -- its field
  abbrev found : (f : Live) × (slice_get fields top.next ≡ Some f) × (step ≡ step_of f)
  found = step_at fields top.next step (ap (λ xs. slice_get xs top.next) (sym h.all) ∙ h.got)

  pub next_within : top.next + 1 ≤ length fields
  next_within = field_within _ _ _ found.1

  -- it is the step of the field there
  its : (f : Live) → slice_get fields top.next ≡ Some f → step ≡ step_of f
  its f here = let at : Some found.0 ≡ Some f = sym found.1 ∙ here in let same : found.0 ≡ f = cc in found.2 ∙ ap step_of same

  -- it may lead on where its field may
  pub leads_open : step.act ≡ Other → (f : Live) → slice_get fields top.next ≡ Some f → act_of f f.kind ≡ Other
  leads_open act f here = ap (λ (z : Step). z.act) (sym (its f here)) ∙ act

  pub long : length steps ≡ length fields
  long = ap length h.all ∙ length-map fields step_of

  -- where it stands is where its field does
  pub same_slot : (f : Live) → slice_get fields top.next ≡ Some f → step.slot ≡ f.slot
  same_slot f here = ap (λ (z : Step). z.slot) (its f here)

  -- it and those after it are absent, and the schema tells that none of them is required
  pub rest_absent : vtable_size b table_at < step.slot + 2 → next_required w.schema.now (top.table).object top.next ≡ None → IsWalking w m under.start under.frames (record top { next = length steps })
  rest_absent past none =
      let slot = ap (λ (z : Step). z.slot) found.2 in
      rw long (none_required h.walking h.rests found.0 found.1 (omega (arith, past, slot)) none)

  module _ (plain : step.act ≡ Other → field_place b table_at step.slot ≡ None) (at k new : ℕ) (failed : Option Reason) (told : tested_by at new failed ≡ after k (plain_failure w.checks b table_at step)) where
    abbrev plain_field : act_of found.0 (found.0).kind ≡ Other → field_place b table_at (found.0).slot ≡ None
    plain_field = λ e. ap (λ (z : Step). field_place b table_at z.slot) (sym found.2) ∙ plain (ap (λ (z : Step). z.act) found.2 ∙ e)

    -- its test holds
    pub step_passed : failed ≡ None → (q : ℕ) → q ≡ m.count + plain_reads b table_at step → AreAllowed (w.limits).reads q
        → IsUnderWay w.checks b w.schema.now w.limits under.start under.frames (record top { next = top.next + 1 }) w.tables w.deepest q
    step_passed e q z cheap =
        let none = (after_none k (plain_failure w.checks b table_at step)).0 (sym told ∙ ap (tested_by at new) e) in
        plain_passed h.walking h.rests found.0 found.1 plain_field q (z ∙ ap (λ x. m.count + plain_reads b table_at x) found.2) cheap (ap (plain_failure w.checks b table_at) (sym found.2) ∙ none)

    -- or fails, and the walk stops there
    pub stops_paid : {reason : Reason} → failed ≡ Some reason → m.count ≡ k → AreAllowed (w.limits).reads (m.count + own_reads b table_at found.0) → (stop : Stop) → IsStopAt w.schema.now top at reason stop
        → IsStopped w m under.start under.frames (stopped stop new)
    stops_paid {reason} e z cheap stop is =
        let by : Refusal = record { at = at; reason = reason } in
        let here = sym told ∙ ap (tested_by at new) e in
        let x = ap (λ z. after k (plain_failure w.checks b table_at z)) (sym found.2) ∙ here in
        subst (λ f. IsStopped w m under.start under.frames f) (stop_is stop by (top.table).object (found.0).number new is.refusal is.object (is.field found.0 found.1))
        (plain_stops h.walking h.rests found.0 found.1 plain_field cheap by new (ap (λ x'. after x' (plain_failure w.checks b table_at (step_of found.0))) z ∙ x))

    pub step_stops : {reason : Reason} → failed ≡ Some reason → m.count ≡ k → AreAllowed (w.limits).reads (m.count + 6) → (stop : Stop) → IsStopAt w.schema.now top at reason stop
        → IsStopped w m under.start under.frames (stopped stop new)
    step_stops e z room stop is = stops_paid e z (fewer_reads (w.limits).reads (m.count + own_reads b table_at found.0) (m.count + 6) (omega (arith, own_few b table_at found.0)) room) stop is

  -- its slot was read, and tells that its field stands there and may lead to a table
  pub at_field : (p : ℕ) → field_place b table_at step.slot ≡ Some p → IsTrue (has_slot b table_at step.slot) → p < 2 ^ 34 → (q : ℕ) → q ≡ m.count + slot_reads b table_at step.slot → IsAtField w b q under.start under.frames top p
  at_field p here slot near q count = record {
    before = m.count;
    count = omega (arith, count, slot_is_one b table_at step.slot slot);
    walking = h.walking;
    within = omega (arith, next_within);
    present = λ f found. rw (sym (same_slot f found)) (here, slot);
    near = near;
  }

-- A required field without a slot is the fault.
bare_told : (c : Checks) (b : List ℕ) (t k : ℕ) (step : Step) → has_slot b t step.slot ≡ false → step.required ≡ true → tested_by t k (Some MissingRequired) ≡ after k (plain_failure c b t step)
unfolding plain_failure field_place
bare_told c b t k step bare needed = rw (bare, needed) (let w : k ≡ k + 0 = omega arith in ap (λ r. tested_by t r (Some MissingRequired)) w)

bare_place : (b : List ℕ) (t o : ℕ) → has_slot b t o ≡ false → field_place b t o ≡ None
unfolding field_place
bare_place b t o bare = rw bare refl

pub required_within : {w : Walk} {m : Lent} {under : Waiting} {top : Frame} {steps : List Step} {step : Step} → AtStep w m under top steps step
    → (place : ℕ) → next_required w.schema.now (top.table).object top.next ≡ Some place → place < length (live_fields w.schema.now (top.table).object)
required_within {w} {m} {under} {top} h place some = (some_found (live_fields w.schema.now (top.table).object) top.next place some (found h).0).1

pub required_stops : {w : Walk} {m : Lent} {under : Waiting} {top : Frame} {steps : List Step} {step : Step} → AtStep w m under top steps step → vtable_size m.bytes (top.table).at < step.slot + 2
    → (place : ℕ) → next_required w.schema.now (top.table).object top.next ≡ Some place → (stop : Stop) → IsStopAt w.schema.now (record top { next = place }) (top.table).at MissingRequired stop
    → IsStopped w m under.start under.frames (stopped stop m.count)
required_stops {w} {m} {under} {top} {steps} {step} h past place some stop is =
    let fs = live_fields w.schema.now (top.table).object in
    let d = (found h).0 in
    let behind : vtable_size m.bytes (top.table).at < d.slot + 2 = omega (arith, past, ap (λ (z : Step). z.slot) (found h).2) in
    let at = some_found fs top.next place some d in
    let f = get_or fs place d in
    let got = slice_get-get_or fs place d at.1 in
    let bare = no_slot_from h.walking h.rests d (found h).1 behind place f at.0 got in
    let walking = required_next h.walking h.rests d (found h).1 behind place some in
    let its_step = ap (λ xs. slice_get xs place) h.all ∙ slice_get-map step_of fs place ∙ ap (option_map step_of) got in
    let there : AtStep w m under (record top { next = place }) steps (step_of f) = search (h, walking, its_step) in
    let its : (found there).0 ≡ f = (let w : Some (found there).0 ≡ Some f = sym (found there).1 ∙ got in cc) in
    let cheap : AreAllowed (w.limits).reads (m.count + own_reads m.bytes (top.table).at (found there).0) = fewer_reads (w.limits).reads (m.count + own_reads m.bytes (top.table).at (found there).0) m.count (omega (arith, ap (own_reads m.bytes (top.table).at) its, bare_reads m.bytes (top.table).at f bare)) (h.walking).reads in
    stops_paid there (λ e. bare_place m.bytes (top.table).at f.slot bare) (top.table).at m.count m.count (Some MissingRequired) (bare_told w.checks m.bytes (top.table).at m.count (step_of f) bare (at.2 f got)) refl refl cheap stop is

-- a test that fails tells of no fewer reads than were counted before it
pub told_grows : {at k new : ℕ} {reason : Reason} (x : Option Failure) → tested_by at new (Some reason) ≡ after k x → k ≤ new
told_grows {at} {k} {new} x h = grind arith

-- A walk goes from field to field of its top by their steps.

-- The first that is left of a list stands at its place, and the others are left behind it.
pub left_from : {A : Type 0} (xs : List A) (i : ℕ) (x : A) (more : List A) → x ∷ more ≡ drop i xs → (slice_get xs i ≡ Some x) × (more ≡ drop (suc i) xs)
left_from [] zero x more e = absurd cc
left_from [] (suc i) x more e = absurd cc
left_from (y ∷ xs) zero x more e = (let w : x ≡ y = cc in ap Some (sym w), cc)
left_from (y ∷ xs) (suc i) x more e = left_from xs i x more e

drop_from : {A : Type 0} (xs : List A) (i : ℕ) (x : A) → slice_get xs i ≡ Some x → drop i xs ≡ x ∷ drop (i + 1) xs
drop_from xs i x e = rw add-one (drop-cons xs i x (slice_get_within xs i x e) ∙ ap (λ y. y ∷ drop (suc i) xs) (get_or_from_slice_get xs i x x e))

-- The walk came from the start and the first frame so far by steps.
pub record GoesBy (w : Walk) (start m : Lent) (first : Frame) (next : ℕ) : Type 0 where
  pub forth : first.next ≤ next
  pub grows : start.count ≤ m.count
  pub bytes : m.bytes ≡ start.bytes
  pub paid : m.count + 6 * fields_left w.schema.now (record first { next = next }) ≤ start.count + 6 * fields_left w.schema.now first
  pub room : HasRoom w start first
  pub steps : StepsPass w start m first (record first { next = next })

pub goes_first : {w : Walk} {m : Lent} {first : Frame} → HasRoom w m first → GoesBy w m m first first.next
goes_first room = record { forth = omega arith; grows = omega arith; bytes = refl; paid = omega arith; room = room; steps = record { hold = λ all. all; counted = refl } }

-- it came to the end of the steps, or to one whose slot lies behind the vtable
pub ends_behind : {w : Walk} {start m : Lent} {under : Waiting} {first : Frame} {next : ℕ} → GoesBy w start m first next → IsBetween w m under (record first { next = next }) → next ≤ length (live_fields w.schema.now (first.table).object)
    → ((f : Live) → slice_get (live_fields w.schema.now (first.table).object) next ≡ Some f → vtable_size m.bytes (first.table).at < f.slot + 2) → EndsBehind w start m under first (record first { next = next })
ends_behind g between within behind = record { between = between; forth = g.forth; within = within; steps = g.steps; behind = behind; paid = g.paid; grows = g.grows; bytes = g.bytes }

module _ {w : Walk} {start m : Lent} {under : Waiting} {first : Frame} {next : ℕ} {steps : List Step} {step : Step}
    (g : GoesBy w start m first next) (h : AtStep w m under (record first { next = next }) steps step) (new : Lent) (at : ℕ) where
  abbrev top : Frame
  top = record first { next = next }

  abbrev first_at : ℕ
  first_at = (first.table).at

  -- past a field that leads on nowhere
  pub step_by : StepTested w.checks m new first_at step at None → IsBetween w new under (record first { next = next + 1 }) × GoesBy w start new first (next + 1)
  step_by e =
      let few = plain_few m.bytes first_at step in
      let within = next_within h in
      let b = start.bytes in
      let counted = (e.tested).counted refl in
      let cheap = fewer_reads (w.limits).reads new.count (start.count + 6 * fields_left w.schema.now first) (omega (arith, counted, few, g.paid, within)) (g.room).allowed in
      let ok : plain_failure w.checks b first_at step ≡ None = (after_none m.count (plain_failure w.checks b first_at step)).0 (rw g.bytes at (sym (e.tested).told)) in
      let all = map step_of (live_fields w.schema.now (first.table).object) in
      let left = drop_from all next step (ap (λ xs. slice_get xs next) (sym h.all) ∙ h.got) in (
        record { walking = rw (e.tested).bytes (step_passed h e.plain at m.count new.count None (e.tested).told refl new.count counted cheap); rests = h.rests },
        record {
          forth = omega (arith, g.forth);
          grows = omega (arith, counted, g.grows);
          bytes = (e.tested).bytes ∙ g.bytes;
          paid = omega (arith, counted, few, g.paid, within);
          room = g.room;
          steps = record {
            hold = λ more. (g.steps).hold (rw left (All-cons (λ s. plain_failure w.checks b first_at s ≡ None) step (drop (next + 1) all) ok more));
            counted = omega (arith, rw g.bytes at counted, ap (steps_reads b first_at) left, sum_by-cons (plain_reads b first_at) step (drop (next + 1) all), (g.steps).counted);
          };
        },
      )

  -- to one whose test fails, that is there and may lead to a table, or whose slot lies behind the vtable
  pub came_to : (r : Came) → (r ≡ Past → ⊥) → Stepped w.checks m new first_at step at r → CameTo w start new under first top at r
  came_to Past n e = absurd (n refl)
  came_to ToEnd n e =
      let within = next_within h in
      rw e.same (ends_behind g (record { walking = h.walking; rests = h.rests }) (omega (arith, within)) (λ f here. rw (same_slot h f here) at e.past))
  came_to ToField n e =
      let within = next_within h in
      let few = slot_few m.bytes first_at step.slot in
      let count = ap (λ (x : Lent). x.count) e.counted in
      let bytes = ap (λ (x : Lent). x.bytes) e.counted in
      let field = rw (sym bytes) at (at_field h at e.there e.slot e.near new.count count) in
      let leads = leads_open h e.open-step in
      record {
        comes = record { field = field; open-field = leads; forth = g.forth; within = omega (arith, within); paid = omega (arith, g.paid, count, few) };
        same = refl;
        grows = omega (arith, g.grows, count);
        bytes = bytes ∙ g.bytes;
      }
  came_to (ToFault reason) n e =
      let within = next_within h in
      let room = fewer_reads (w.limits).reads (m.count + 6) (start.count + 6 * fields_left w.schema.now first) (omega (arith, g.paid, within)) (g.room).allowed in
      let err = rw g.bytes at (step_stops h e.plain at m.count new.count (Some reason) (e.tested).told {reason = reason} refl refl room) in
      let grows = told_grows _ (e.tested).told in
      record { comes = record { next = omega (arith, within); err = err }; same = refl; grows = omega (arith, grows, g.grows); bytes = (e.tested).bytes ∙ g.bytes }
