-- The walk stands at a uoffset that leads to a table, which it counts, and goes on in that table.
use Rattle.std.proofs.Common.{◌≡◌, ℕ, ◌+◌, ◌*◌, ◌<◌, max, List, [], ◌∷◌, ◌++◌, length, take, refl, sym, ◌∙◌, ap, arith, Some, ◌≤◌, inl, None}
use Rattle.std.proofs.{Math.Seq.take-append_seam, lemmas.List.length-append, lemmas.List.Sums.sum_by_push, lemmas.List.Elements.All-push}
use Rattle.fb_bytes.specs.Word.{Lent}
use Rattle.fb_schema.specs.{Rows.Rows, Live.live_fields}
use Rattle.fb_rules.specs.{Bounds.AreAllowed, Bounds.Bounds, Cost.head_reads, Cost.lead_reads, OffsetRows.past_first, OffsetRows.first_word, OffsetRows.words_of, Way.way_to_table, Way.Way}
use Rattle.fb_rules.specs.{Told.way_at, Told.stopped, Told.told, Told.IsHead, Stops.budget_failure, Stops.reads_failure, Stops.in_head, Stops.fault_at, Order.◌▷◌, Order.head_failure}
use Rattle.fb_rules.specs.declared.{table.Child.Child, table.Table.Table, offset_row.Row.Row}
use Rattle.fb_rules.specs.declared.{site.LastLink.TheVariants.Behind, site.LastLink.TheVariants.InField, site.Site.Site, site.Stop.Stop, checks.Checks.Checks, fault.Fault.Fault}
use Rattle.fb_verify.specs.{Turns.IsAtChild, Turns.Halts, Turns.frame_of, Units.LeadsToTable}
use Rattle.fb_verify.specs.Stack.{Standing, Origin, Waiting, IsAtTable, IsStopped, IsWalking, StopsIn, frame_work, work, opened, IsUnderWay, IsFrame, reached, frame_link}
use Rattle.fb_verify.specs.declared.{scratch.Frame.Frame, stack.Walk.Walk}
use Rattle.fb_rules.proofs.{Budgets.fewer_reads, Few.first_few, Few.head_few}
use Rattle.fb_verify.proofs.{Flats.head_fails, Pushes.take_all, Standings.context_push, Standings.told_is, Standings.fresh, Standings.links_is, Standings.waits_for, Standings.stop}
use Rattle.fb_verify.proofs.{Linked.linked_by, Steps.same_way, Steps.stops_at_head, Steps.stops_below, Walking.stops_behind, Frames.frame_on, Frames.frame_opened, Frames.work_opened}

-- Offset words that were passed leave less work.
module _ (S : Rows) (L : Bounds) (below : List Frame) (old new : Frame) (n r q : ℕ) (same : new ≡ record old { row = new.row }) (paid : q + 4 * (new.row).left ≤ r + 4 * (old.row).left) where
  width : length (live_fields S (new.table).object) ≡ length (live_fields S (old.table).object)
  width = ap (λ (x : Frame). length (live_fields S (x.table).object)) same

  next : new.next ≡ old.next
  next = ap (λ (x : Frame). x.next) same

  pub words_work : (new.row).left ≤ (old.row).left → q + work S L below new n ≤ r + work S L below old n
  unfolding work
  words_work less = omega (arith, paid, less, width, next)

-- the first word that is left of the top leads to a table
pub at_table : {w : Walk} {m new : Lent} {s : Origin} {below : List Frame} {top : Frame} {child : Child} → IsWalking w m s below top → 0 < (top.row).left → LeadsToTable w m new top.row child
    → IsAtTable w m.bytes (m.count + (first_word m.bytes w.schema.now top.row).reads + lead_reads (first_word m.bytes w.schema.now top.row).lead) s below top (m.count + 4 * (top.row).left) child
at_table {m = m} h more e = record { before = m.count; count = refl; walking = h; more = more; holds = e.ok; leads = e.leads; table = e.table; at = e.at; near = e.near; paid = omega arith }

module _ {w : Walk} {b : List ℕ} {q : ℕ} {s : Origin} {below : List Frame} {top : Frame} {most : ℕ} {child : Child} (o : IsAtTable w b q s below top most child) where
  abbrev S : Rows
  S = w.schema.now

  abbrev c : Checks
  c = w.checks

  abbrev L : Bounds
  L = w.limits

  -- the reads of the word are few
  pub word_few : q ≤ most + 4
  word_few = omega (arith, o.count, o.paid, first_few b S top.row)

  module _ (m : ℕ) (mi : m ≡ length below + 1) where
    -- the table can't be opened, or has no head
    pub child_stops : (row : Row) → row ≡ past_first top.row → (site : Site) → site ≡ record { object = (top.table).object; field = Some top.number } → (f : Fault)
        → (told site q (budget_failure L (way_at m w.tables w.deepest q site) child.at) ▷ told (record { object = child.object; field = None }) q (head_failure c b child.at ▷ reads_failure L q (head_reads c) child.at)) ≡ Some f
        → StopsIn c b S L s (below ++ record top { row = row } ∷ []) [] f
    unfolding fault_at
    child_stops row re site is f e =
        let h = o.walking in
        let g = h.standing in
        let k = (top.table).object in
        let x = first_word b S top.row in
        let v = reached g.v k (Some top.number) w.tables w.deepest o.before in
        let wait = waits_for c b S L s below top w.tables w.deepest o.before g child.object child.at o.more o.holds o.leads o.at in
        let one : lead_reads x.lead ≡ 1 = rw o.leads refl in
        let u : Way = record (way_at m w.tables w.deepest q (record { object = k; field = Some top.number })) { leading = x.reads + 1 } in
        let u_is : way_to_table x v ≡ u = same_way _ _ (omega (arith, mi, links_is c b S L s below top w.tables w.deepest o.before g)) refl refl (omega (arith, o.count, one)) refl refl refl in
        let i = told_is u (record { object = k; field = Some top.number }) (budget_failure L u child.at) refl refl in
        let j = told_is (record u { object = child.object; field = None }) (record { object = child.object; field = None }) (head_failure c b child.at ▷ reads_failure L q (head_reads c) child.at) refl refl in
        let first : fault_at c b S L (in_head child.object child.at) u ≡ Some f = rw (i, j) at (rw is at e) in
        let at_head = stops_at_head c b S child.object child.at u L f (record { within = record { tables = h.tables; depth = h.deepest; reads = fewer_reads L.reads _ o.before (omega (arith, o.count, one)) h.reads }; first = first }) in
        let below_it = stops_below c b S k (top.table).at g.v L f top.next top.number (words_of b S (past_first top.row)) child.object child.at (way_to_table x v) wait [] (rw (sym u_is) at at_head) in
        let past : Frame = record top { row = past_first top.row } in
        let linked = ap (λ y. y ∷ []) (linked_by c b S past g.v wait.v wait.x wait.in_field) in
        stops_behind h f row re o.more (stop c b S L s below top w.tables w.deepest o.before g f (frame_link b S past ∷ []) (below_it.0, below_it.1, below_it.2 ∙ linked))

    module _ (row : Row) (re : row ≡ past_first top.row) (table : Table) (is : table ≡ record { object = child.object; at = child.at; head = table.head }) (ok : head_failure c b child.at ≡ None)
        (fewer : w.tables < (w.limits).tables) (shallow : m < (w.limits).depth) (low : m < 4096) where
      -- the top, past the word
      abbrev top_on : Frame
      top_on = record top { row = row }

      object_is : table.object ≡ child.object
      object_is = ap (λ (x : Table). x.object) is

      at_is : table.at ≡ child.at
      at_is = ap (λ (x : Table). x.at) is

      -- it is opened
      pub child_opened : IsHead c b child.at table.head → AreAllowed (w.limits).reads (q + head_reads c) → IsUnderWay c b S L s (below ++ top_on ∷ []) (opened table) (w.tables + 1) (max w.deepest (m + 1)) (q + head_reads c)
      child_opened head cheap =
          let h = o.walking in
          let g = h.standing in
          let x = first_word b S top.row in
          let u = way_to_table x (reached g.v (top.table).object (Some top.number) w.tables w.deepest o.before) in
          let one : lead_reads x.lead ≡ 1 = rw o.leads refl in
          let wait = waits_for c b S L s below top w.tables w.deepest o.before g child.object table.at o.more o.holds o.leads (at_is ∙ o.at) in
          let push = context_push c b S below top_on s.object s.position s.way g.v child.object table.at u g.under (rw re wait) in
          let links = links_is c b S L s below top w.tables w.deepest o.before g in
          let standing : Standing c b S s (below ++ top_on ∷ []) (opened table) (w.tables + 1) (max w.deepest (m + 1)) (q + head_reads c) =
          record { v = u; root = g.root; under = rw object_is push; at = inl (fresh c b S L s table u m w.tables w.deepest q (omega (arith, mi, links)) refl refl (omega (arith, o.count, one)) (rw at_is ok)) } in
          let frames = All-push (IsFrame c b S) below top_on h.frames (frame_on c b S top row re o.more h.frame) in
          let frame = frame_opened c b S table (rw object_is o.table) (rw at_is o.near) (rw at_is head) in
          search (arith, h, cheap, frames, frame, standing, length-append below (top_on ∷ []))

      pub child_work : q + head_reads c + work S L (below ++ top_on ∷ []) (opened table) (w.tables + 1) < o.before + work S L below top w.tables
      unfolding work
      child_work = omega (arith, o.more, ap (λ (x : Row). x.left) re, o.count, first_few b S top.row, head_few c, fewer, sum_by_push (frame_work S) below top_on, work_opened c b S table (o.walking).served)

-- a table is its parts
pub table_is : (t : Table) (k p : ℕ) → t.object ≡ k → t.at ≡ p → t ≡ record { object = k; at = p; head = t.head }
table_is t k p e f = rw (sym e, sym f) refl

module _ {w : Walk} {b : List ℕ} {q : ℕ} (base : ℕ) {s : Origin} {below : List Frame} {top : Frame} {most : ℕ} {child : Child} (o : IsAtTable w b q s below top most child)
    (m : ℕ) (mi : m ≡ length below + 1) (row : Row) (re : row ≡ past_first top.row) (fewer : w.tables < (w.limits).tables) (deep : m < (w.limits).depth) where
  -- once it is counted, the walk is to open it
  pub at_child : (low : m < 4096) → AreAllowed (w.limits).reads (q + head_reads w.checks) → (then : Walk) → then ≡ record w { tables = w.tables + 1; deepest = max w.deepest (m + 1) }
      → IsAtChild then (record { bytes = b; count = q; base = base }) s (below ++ record top { row = row } ∷ []) child
  at_child low cheap then is =
      let site : Site = record { object = (top.table).object; field = Some top.number } in
      rw is (record {
        opens = λ table k p head ok. child_opened o m mi row re table (table_is table child.object child.at k p) ok fewer deep low head cheap;
        table = o.table;
        near = o.near;
        stops = λ at reads reason e.
            child_stops o m mi row re site refl _
            (head_fails w.checks b w.limits (way_at m w.tables w.deepest q site) site child.object child.at at q reads reason deep fewer e);
      })

-- Which leaves less work than where the words before it were passed.
pub down_falls : {w : Walk} {b : List ℕ} {q : ℕ} (r : ℕ) {s : Origin} {below : List Frame} {top : Frame} {child : Child} (o : IsAtTable w b q s below top (r + 4 * (top.row).left) child) (row : Row) → row ≡ past_first top.row
    → w.tables < (w.limits).tables → q + 3 + work w.schema.now w.limits (below ++ record top { row = row } ∷ []) (frame_of child) (w.tables + 1) < r + work w.schema.now w.limits below top w.tables
unfolding work
down_falls {w} r {s} {below} {top} {child} o row re fewer =
    let pushed = sum_by_push (frame_work w.schema.now) below (record top { row = row }) in
    omega (arith, word_few o, o.more, ap (λ (x : Row). x.left) re, fewer, pushed, ((o.walking).served).few child.object, o.count, o.paid)

-- Where a walk stops.
module _ {w then : Walk} {m new : Lent} {under : Waiting} {past : Frame} {links : ℕ} (many : links ≡ length under.frames) (bytes : new.bytes ≡ m.bytes) (low : length under.frames < (w.limits).depth) where
  -- behind a word of the top
  pub halts_behind : (stop : Stop) → then.halt ≡ record { stop = stop; links = links + 1; last = Behind } → StopsIn w.checks m.bytes w.schema.now w.limits under.start (under.frames ++ past ∷ []) [] (stopped stop new.count)
      → Halts w then m new under past
  halts_behind stop is e =
      let all : take (links + 1) (under.frames ++ past ∷ []) ≡ under.frames ++ past ∷ [] = take_all (under.frames ++ past ∷ []) (links + 1) (omega (arith, many, length-append under.frames (past ∷ []))) in
      record { links = rw is (omega (arith, many)); deep = rw is (omega (arith, many, low)); err = rw is (rw all e); bytes = bytes }

  -- in a field of the top
  pub halts_in_field : (then.halt).links ≡ links → (then.halt).last ≡ InField → IsStopped w m under.start under.frames (stopped (then.halt).stop new.count) → Halts w then m new under past
  halts_in_field is last e =
      let some : take (then.halt).links (under.frames ++ past ∷ []) ≡ under.frames = ap (λ i. take i (under.frames ++ past ∷ [])) (is ∙ many) ∙ take-append_seam under.frames (past ∷ []) in
      record { links = omega (arith, is, many); deep = rw last (omega (arith, is, many, low)); err = rw (last, some) e; bytes = bytes }
