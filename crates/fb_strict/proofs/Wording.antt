-- The first uoffset that is left of a frame is passed.
use Rattle.std.proofs.Common.{◌≡◌, ◌⊎◌, inl, inr, ℕ, ◌+◌, ◌^◌, ◌<◌, ◌≤◌, List, [], ◌∷◌, ◌++◌, length, Some, None, Result, Ok, Err, refl, sym, ap, subst, ◌∙◌, arith}
use Rattle.fb_bytes.specs.Word.{Lent}
use Rattle.fb_rules.specs.declared.{site.Site.Site, site.Stop.Stop, site.Halt.Halt, site.LastLink.TheVariants.Behind, table.Child.Child, link.Link.Link, offset_row.Leads.Leads}
use Rattle.fb_rules.specs.{declared.offset_row.Leads.TheVariants.All, declared.offset_row.Leads.TheVariants.ByType, Places.target, Told.told, Told.stopped, Told.IsAskedAt}
use Rattle.fb_rules.specs.{Stops.reads_failure, Bounds.AreAllowed, OffsetRows.past_first, declared.offset_row.Referent.Referent}
use Rattle.fb_rules.specs.declared.offset_row.Referent.TheVariants.{Text as AText, Table as ATable}
use Rattle.fb_strict.specs.{declared.room.Frame.Frame, InOrder.where_asked, InOrder.element_failure, InOrder.element_reads, InOrder.text_failure, InOrder.text_reads, Asked.Demand}
use Rattle.fb_strict.specs.{Asked.reading, Asked.first_referent, Asked.element_demands, Asked.demands_in, Passing.Passing, Passing.wants_of, Passing.IsPassing, Passing.TextStands}
use Rattle.fb_strict.specs.Passing.{TextPassed, Moves, frame_link, IsLinked, IsLeft, Breaks, GoesOn, FirstPassed, Stays, GoesDown, StopsHere, frame_work}
use Rattle.fb_strict.proofs.Moving.{still, one, onward, breaks, breaks_then, told_is as told_is_fault, ends_at, met, unmet}
use Rattle.fb_strict.proofs.{Few.element_few, Frames.asked_first, Frames.under, Frames.beside, Frames.IsText, Frames.to_text, Frames.word_link, Frames.word_linked, Frames.through}

-- so many reads were made for what it is asked by its type
pub record IsPaid (m new : Lent) : Type 0 where
  pub few : new.count ≤ m.count + 2
  pub grows : m.count ≤ new.count
  pub same : new ≡ record m { count = new.count }

module _ (p : Passing) (m new : Lent) (site : Site) (place : ℕ) where
  paid_by : (leads : Leads) (o : Referent) → FirstPassed p m new site place leads (Ok o) → IsPaid m new × (o ≡ first_referent (wants_of p) m.bytes p.rows leads)
  paid_by (All referent) o h = (rw h.1 (record { few = omega arith; grows = omega arith; same = refl }), let e = h.0 in cc)
  paid_by (ByType e q) o h =
      let few = element_few (p.plan).demands.unions m.bytes p.rows e q in
      let c = ap (λ (x : Lent). x.count) h.0.counted in
      (record { few = omega (arith, c, few); grows = omega (arith, c); same = h.0.counted ∙ ap (λ n. record m { count = n }) (sym c) }, h.1)

  pub first_paid : (leads : Leads) (o : Referent) (r : Result Referent Stop) → r ≡ Ok o → FirstPassed p m new site place leads r → IsPaid m new × (o ≡ first_referent (wants_of p) m.bytes p.rows leads)
  first_paid leads o r is h = paid_by leads o (rw is at h)

module _ (p : Passing) (m new : Lent) (links : List Link) (k n place : ℕ) where
  abbrev site : Site
  site = record { object = k; field = Some n }

  abbrev front : Leads → List Demand
  front leads = element_demands (p.plan).demands p.checks m.bytes p.rows links k n place leads

  -- what it is asked by its type was asked
  asked_by : (leads : Leads) (o : Referent) (rest : List Demand) → FirstPassed p m new site place leads (Ok o) → GoesOn p m new (front leads ++ rest) rest
  asked_by (All referent) o rest h = rw h.1 (record { moves = still p.limits m.count rest; grows = omega arith; same = refl })
  asked_by (ByType e q) o rest h = met p m new (record { links = links; object = k; field = Some n; at = place; reads = element_reads (p.plan).demands.unions m.bytes p.rows e q; chain = where_asked (p.plan).demands.unions (element_failure p.checks m.bytes p.rows e q place); inner = None }) rest o (Ok o) refl refl h.0

  breaks_by : (leads : Leads) (s : Stop) (rest : List Demand) → FirstPassed p m new site place leads (Err s) → Breaks p.limits m.count (front leads ++ rest) (stopped s new.count) links
  breaks_by (All referent) s rest h = absurd (let e = h.0 in cc)
  breaks_by (ByType e q) s rest h = unmet p m new (record { links = links; object = k; field = Some n; at = place; reads = element_reads (p.plan).demands.unions m.bytes p.rows e q; chain = where_asked (p.plan).demands.unions (element_failure p.checks m.bytes p.rows e q place); inner = None }) rest {A = Referent} s (Err s) refl h.0

module _ (p : Passing) (m mid : Lent) (holds : IsPassing p m.bytes) (room : ℕ) (via : List Link) (fr : Frame) (ds : List Demand) (l : IsLeft p m.bytes room via fr ds) (more : 0 < (fr.row).left) where
  abbrev here : Site
  here = record { object = (fr.table).object; field = Some fr.number }

  abbrev links : List Link
  links = through p m.bytes holds room via fr ds l more

  abbrev pub past_word : Frame
  past_word = record fr { row = past_first fr.row }

  -- the links through the word, as the frame tells them behind it
  abbrev pub told_links : List Link
  told_links = via ++ frame_link (wants_of p) m.bytes p.rows past_word ∷ []

  links_told : links ≡ told_links
  links_told = word_link p m.bytes holds room via fr ds l more

  pub is_linked : IsLinked (wants_of p) p.checks m.bytes p.rows past_word
  is_linked = word_linked p m.bytes holds room via fr ds l more

  pub first_stops : (s : Stop) → FirstPassed p m mid here (fr.row).place (fr.row).leads (Err s) → Breaks p.limits m.count ds (stopped s mid.count) told_links
  first_stops s h =
      let f = asked_first p m.bytes holds room via fr ds l more in
      let b = subst (λ xs. Breaks p.limits m.count xs (stopped s mid.count) links) (sym f.1) (breaks_by p m mid links (fr.table).object fr.number (fr.row).place (fr.row).leads s f.0 h) in
      subst (λ ls. Breaks p.limits m.count ds (stopped s mid.count) ls) links_told b

  -- it stops behind the word
  pub halts_behind : (new : Lent) (many : ℕ) (s : Stop) (h : Halt) (past : Frame) → h ≡ record { stop = s; links = many; last = Behind } → past ≡ record fr { row = past_first fr.row } → Breaks p.limits m.count ds (stopped s new.count) told_links
      → StopsHere p m new via many ds past h h.last
  halts_behind new many s h past is same b = rw same (subst (λ (x : Halt). StopsHere p m new via many ds past_word x x.last) (sym is) (refl, is_linked, b))

  falls : frame_work p (record fr { row = past_first fr.row }) < frame_work p fr
  falls = omega (arith, more)

  -- what it leads to, as it was told
  told_is : (r : Referent) → FirstPassed p m mid here (fr.row).place (fr.row).leads (Ok r) → r ≡ first_referent (wants_of p) m.bytes p.rows (fr.row).leads
  told_is r h = (first_paid p m mid here (fr.row).place (fr.row).leads r (Ok r) refl h).1

  pub passes_by : (r : Referent) → (r ≡ AText → ⊥) → ((j : ℕ) → r ≡ ATable j → ⊥) → FirstPassed p m mid here (fr.row).place (fr.row).leads (Ok r) → (past : Frame) → past ≡ record fr { row = past_first fr.row } → Stays p m mid room via ds fr past
  passes_by r text table h past is =
      let o = told_is r h in
      let b = beside p m.bytes holds room via fr ds l more (λ e. text (o ∙ e)) (λ j e. table j (o ∙ e)) in
      rw is (record {
        left = b.left;
        on = subst (λ xs. GoesOn p m mid xs b.left) (sym b.all) (asked_by p m mid links (fr.table).object fr.number (fr.row).place (fr.row).leads r b.left h);
        frame = b.frame;
        falls = falls;
      })

  -- a text
  module _ (h : FirstPassed p m mid here (fr.row).place (fr.row).leads (Ok AText)) where
    its_text : IsText p m.bytes holds room via fr ds l more
    its_text = to_text p m.bytes holds room via fr ds l more (sym (told_is AText h))

    pub text_stands : TextStands m.bytes (fr.row).place
    text_stands = its_text.stands

    its_paid : IsPaid m mid
    its_paid = (first_paid p m mid here (fr.row).place (fr.row).leads AText (Ok AText) refl h).0

    bytes : mid.bytes ≡ m.bytes
    bytes = ap (λ (x : Lent). x.bytes) its_paid.same

    abbrev at : ℕ
    at = target m.bytes (fr.row).place

    abbrev text_read : Demand
    text_read = reading links (fr.table).object (Some fr.number) (fr.row).place (text_reads m.bytes at)

    abbrev text_asked : Demand
    text_asked = record { links = links; object = (fr.table).object; field = Some fr.number; at = (fr.row).place; reads = 0; chain = text_failure m.bytes at; inner = None }

    before_text : (rest : List Demand) → GoesOn p m mid (front p m mid links (fr.table).object fr.number (fr.row).place (fr.row).leads ++ (text_read ∷ (text_asked ∷ rest))) (text_read ∷ (text_asked ∷ rest))
    before_text rest = asked_by p m mid links (fr.table).object fr.number (fr.row).place (fr.row).leads AText (text_read ∷ (text_asked ∷ rest)) h

    module _ (new : Lent) where
      -- once its reads are counted
      read_all : new ≡ record mid { count = mid.count + text_reads m.bytes at } → AreAllowed (p.limits).reads new.count → (rest : List Demand) → Moves p.limits mid.count (text_read ∷ rest) new.count rest
      read_all is a rest =
          let n = ap (λ (x : Lent). x.count) is in
          subst (λ c. Moves p.limits mid.count (text_read ∷ rest) c rest) (sym n) (one p.limits mid.count text_read rest refl refl (subst (AreAllowed (p.limits).reads) n a))

      -- what was told of the bytes that are lent
      abbrev Read : Type 0
      Read = new ≡ record mid { count = mid.count + text_reads m.bytes at }

      counted : new ≡ record mid { count = mid.count + text_reads mid.bytes (target mid.bytes (fr.row).place) } → Read
      counted h = h ∙ ap (λ b. record mid { count = mid.count + text_reads b (target b (fr.row).place) }) bytes

      whole : text_failure mid.bytes (target mid.bytes (fr.row).place) ≡ None → text_failure m.bytes at ≡ None
      whole h = ap (λ b. text_failure b (target b (fr.row).place)) (sym bytes) ∙ h

      pub text_passes : (a : Unit {0}) → TextPassed p mid new here (fr.row).place (Ok a) → (past : Frame) → past ≡ record fr { row = past_first fr.row } → Stays p m new room via ds fr past
      text_passes a t past is =
          let read = counted t.0 in
          let x = its_text in
          let n = ap (λ (x : Lent). x.count) read in
          let none : new.count + 0 ≡ new.count = omega arith in
          let two = subst (λ c. Moves p.limits new.count (text_asked ∷ x.left) c x.left) none (one p.limits new.count text_asked x.left refl (whole t.2) (subst (AreAllowed (p.limits).reads) (sym none) t.1)) in
          let first = before_text x.left in
          rw is (record {
            left = x.left;
            on = subst (λ xs. GoesOn p m new xs x.left) (sym x.all) (record {
              moves = onward p.limits first.moves (onward p.limits (read_all read t.1 (text_asked ∷ x.left)) two);
              grows = omega (arith, first.grows, n);
              same = read ∙ ap (λ (x : Lent). record x { count = mid.count + text_reads m.bytes at }) its_paid.same ∙ ap (λ c. record m { count = c }) (sym n);
            });
            frame = x.frame;
            falls = falls;
          })

      stops_by : (s : Stop) (rest : List Demand) → (told here mid.count (reads_failure p.limits mid.count (text_reads m.bytes at) (fr.row).place) ≡ Some (stopped s new.count))
          ⊎ (Read × AreAllowed (p.limits).reads new.count × (told here new.count (text_failure m.bytes at) ≡ Some (stopped s new.count)))
          → Breaks p.limits mid.count (text_read ∷ (text_asked ∷ rest)) (stopped s new.count) links
      stops_by s rest (inl t) = breaks p.limits mid.count text_read (text_asked ∷ rest) (stopped s new.count) (sym (told_is_fault text_read mid.count _) ∙ t)
      stops_by s rest (inr t) =
          breaks_then p.limits (stopped s new.count) links (read_all t.0 t.1 (text_asked ∷ rest)) (breaks p.limits new.count text_asked rest (stopped s new.count) (ends_at text_asked new.count _ (stopped s new.count) (sym (told_is_fault text_asked new.count _) ∙ t.2)))

      pub text_stops : (s : Stop) → TextPassed p mid new here (fr.row).place (Err s) → Breaks p.limits m.count ds (stopped s new.count) told_links
      text_stops s t =
          let x = its_text in
          let first = before_text x.left in
          let its : (told here mid.count (reads_failure p.limits mid.count (text_reads m.bytes at) (fr.row).place) ≡ Some (stopped s new.count)) ⊎ (Read × AreAllowed (p.limits).reads new.count × (told here new.count (text_failure m.bytes at) ≡ Some (stopped s new.count))) = elim t [
            | inl e ↦ inl (ap (λ b. told here mid.count (reads_failure p.limits mid.count (text_reads b (target b (fr.row).place)) (fr.row).place)) (sym bytes) ∙ e)
            | inr e ↦ inr (counted e.0, e.1, ap (λ b. told here new.count (text_failure b (target b (fr.row).place))) (sym bytes) ∙ e.2)
          ] in
          let b = subst (λ xs. Breaks p.limits m.count xs (stopped s new.count) links) (sym x.all) (breaks_then p.limits (stopped s new.count) links first.moves (stops_by s x.left its)) in
          subst (λ ls. Breaks p.limits m.count ds (stopped s new.count) ls) links_told b

  module _ (j : ℕ) (h : FirstPassed p m mid here (fr.row).place (fr.row).leads (Ok (ATable j))) where
    object_is : first_referent (wants_of p) m.bytes p.rows (fr.row).leads ≡ ATable j
    object_is = sym (told_is (ATable j) h)

    pub within : (fr.row).place + 4 ≤ length m.bytes
    within = (under p m.bytes holds room via fr ds l more j object_is).within

    abbrev word_read : Demand
    word_read = reading links (fr.table).object (Some fr.number) (fr.row).place 1

    pub follow_stops : (new : Lent) (s : Stop) → IsAskedAt {A = ℕ} here p.limits mid new None 1 (fr.row).place (Err s) → Breaks p.limits m.count ds (stopped s new.count) told_links
    follow_stops new s f =
        let u = under p m.bytes holds room via fr ds l more j object_is in
        let rest = demands_in u.tree (wants_of p) p.checks m.bytes p.rows links ++ u.left in
        let one = asked_by p m mid links (fr.table).object fr.number (fr.row).place (fr.row).leads (ATable j) (word_read ∷ rest) h in
        let b = subst (λ xs. Breaks p.limits m.count xs (stopped s new.count) links) (sym u.all) (breaks_then p.limits (stopped s new.count) links one.moves (unmet p mid new word_read rest s (Err s) refl f)) in
        subst (λ ls. Breaks p.limits m.count ds (stopped s new.count) ls) links_told b

    pub goes_down : (new : Lent) (at : ℕ) → IsAskedAt {A = ℕ} here p.limits mid new None 1 (fr.row).place (Ok at) → at ≡ target m.bytes (fr.row).place → at < 2 ^ 33 → (past : Frame) → past ≡ record fr { row = past_first fr.row }
        → (child : Child) → child ≡ record { object = j; at = at } → GoesDown p m new room via ds fr past child
    goes_down new at f target-is near past is child it =
        let u = under p m.bytes holds room via fr ds l more j object_is in
        let below = demands_in u.tree (wants_of p) p.checks m.bytes p.rows links in
        let one = asked_by p m mid links (fr.table).object fr.number (fr.row).place (fr.row).leads (ATable j) (word_read ∷ (below ++ u.left)) h in
        let two = met p mid new word_read (below ++ u.left) at (Ok at) refl refl f in
        rw (is, it) (record {
          below = below;
          left = u.left;
          on = subst (λ xs. GoesOn p m new xs (below ++ u.left)) (sym u.all) (record {
            moves = onward p.limits one.moves two.moves;
            grows = omega (arith, one.grows, two.grows);
            same = two.same ∙ ap (λ (x : Lent). record x { count = new.count }) one.same;
          });
          paid = omega (arith, (first_paid p m mid here (fr.row).place (fr.row).leads (ATable j) (Ok (ATable j)) refl h).0.few, ap (λ (x : Lent). x.count) f.counted);
          next = record { tree = u.tree; unfolds = rw (sym target-is) at u.unfolds; object = u.object; near = near; deep = u.deep; all = ap (demands_in u.tree (wants_of p) p.checks m.bytes p.rows) links_told };
          frame = u.frame;
          linked = is_linked;
          falls = omega (arith, falls);
        })
