-- Turns through the words of the top's row.
use Rattle.std.proofs.Common.{◌≡◌, ℕ, zero, suc, ◌+◌, ◌*◌, ◌%◌, ◌^◌, ◌<◌, ◌≤◌, true, max, List, [], ◌∷◌, ◌++◌, map, length, take, inl, inr, refl, sym, ◌∙◌, ap, arith, Some, None}
use Rattle.std.proofs.lemmas.{Bool.cases_eq, List.length-append, List.take_all}
use Rattle.fb_bytes.specs.Word.{Lent}
use Rattle.fb_schema.specs.{Rows.Rows, Live.live_fields, Steps.is_plain, Steps.step_of, declared.views.Step.Step}
use Rattle.fb_rules.specs.{Bounds.AreAllowed, Cost.head_reads, OffsetRows.first_word, OffsetRows.past_first, Order.after, Order.element_failure, Places.is_aligned}
use Rattle.fb_rules.specs.{Plain.StandsAt, Plain.tested_by, declared.checks.Checks.Checks, declared.table.Child.Child, declared.fault.Reason.Reason, declared.offset_row.Row.Row}
use Rattle.fb_rules.specs.declared.site.{LastLink.TheVariants.Behind, LastLink.TheVariants.InField, Stop.Stop}
use Rattle.fb_verify.specs.{StopsAt.IsStopAt, Flat.in_head, Flat.frame_at, Flat.MayPass, Flat.PassesFlat, Stack.Waiting, Stack.IsAtTable, Stack.IsWalking, Stack.HaltsIn, Stack.links_left}
use Rattle.fb_verify.specs.{Turns.IsShort, Turns.IsAtChild, Turns.GoesDown, Turns.GoesOn, Turns.Halts, Turns.RowStands, Turns.deepest_with, Turns.with_tables, declared.scratch.Frame.Frame}
use Rattle.fb_verify.specs.declared.stack.Walk.{Walk}
use Rattle.fb_rules.proofs.{Budgets.fewer_reads, Few.first_few, Few.head_few}
use Rattle.fb_verify.proofs.{Turns.words_work, Turns.at_child, Turns.down_falls, Turns.halts_behind, Flats.flat_work, Flats.word_fails}

pub two : (m : ℕ) → m + 2 ≡ m + 1 + 1
two m = omega arith

-- the walk goes on where it is
pub stays : (w : Walk) (m : Lent) (under : Waiting) (top : Frame) → IsWalking w m under.start under.frames top → IsShort m.count → GoesOn w w m m under top top
stays w m under top h short = record { same = refl; walking = h; table = refl; falls = omega arith; grows = omega arith; bytes = refl; short = short }

-- The words of a row that stand.

pub word_stands : {c : Checks} {b : List ℕ} {row : Row} → RowStands c b row → 0 < row.left → StandsAt c b row.place
word_stands h more = record { near = omega (arith, h.near); within = omega (arith, h.within, more); aligned = h.aligned }

pub fewer_left : (row past : Row) → past ≡ past_first row → 0 < row.left → past.left < row.left
fewer_left row past same more = omega (arith, ap (λ (x : Row). x.left) same)

next_word : (p : ℕ) → (p + 4) % 4 ≡ p % 4
next_word p = omega arith

pub next_stands : {c : Checks} {b : List ℕ} {row past : Row} → RowStands c b row → 0 < row.left → past ≡ past_first row → RowStands c b past
unfolding is_aligned
next_stands {row = row} h more is = rw is (record { near = omega (arith, h.near, more); within = omega (arith, h.within, more); aligned = rw (next_word row.place) h.aligned })

-- Tables that were counted.

pub none_with : (w : Walk) (links n : ℕ) → n ≡ 0 → with_tables w links n ≡ w
none_with w links n e = rw e (ap (λ t. record w { tables = t }) (omega arith))

deeper : (d links n m : ℕ) → m ≡ n + 1 → deepest_with d links m ≡ max (deepest_with d links n) links
deeper d links n zero e = absurd (omega arith)
deeper d links zero (suc m) e = refl
deeper d links (suc n) (suc m) e = omega arith

pub one_with : (w : Walk) (links n m : ℕ) → m ≡ n + 1 → with_tables w links m ≡ record w { tables = w.tables + n + 1; deepest = max (deepest_with w.deepest links n) links }
one_with w links n m e = let t : w.tables + m ≡ w.tables + n + 1 = omega (arith, e) in ap (λ k. record w { tables = k; deepest = deepest_with w.deepest links m }) t ∙ ap (λ d. record w { tables = w.tables + n + 1; deepest = d }) (deeper w.deepest links n m e)

module _ {w then : Walk} {m new : Lent} {under : Waiting} {top past : Frame} (on : GoesOn w then m new under top past) where
  -- a word is passed that leads to no table
  pub word_passed : (last : Frame) (q : Lent) → IsWalking then q under.start under.frames last → last ≡ record past { row = last.row } → q.count + 4 * (last.row).left ≤ new.count + 4 * (past.row).left → (last.row).left ≤ (past.row).left
      → new.count ≤ q.count → q.bytes ≡ new.bytes → IsShort q.count → GoesOn w then m q under top last
  word_passed last q h same paid less grows bytes short = record {
    same = on.same;
    walking = h;
    table = ap (λ (x : Frame). x.table) same ∙ on.table;
    falls = omega (arith, on.falls, words_work w.schema.now w.limits under.frames past last then.tables new.count q.count same paid less);
    grows = omega (arith, on.grows, grows);
    bytes = bytes ∙ on.bytes;
    short = short;
  }

  -- or it fails, and the walk stops behind it
  pub word_halts : {at : ℕ} {reason : Reason} (q : Lent) (last : Frame) (stop : Stop) (halted : Walk) (links : ℕ) → links ≡ length under.frames → q.bytes ≡ new.bytes → 0 < (past.row).left
      → tested_by at q.count (Some reason) ≡ after new.count (element_failure then.checks new.bytes (first_word new.bytes then.schema.now past.row))
      → stop ≡ record { refusal = record { at = at; reason = reason }; site = record { object = (past.table).object; field = Some past.number } }
      → last ≡ record past { row = past_first past.row } → halted.halt ≡ record { stop = stop; links = links + 1; last = Behind } → Halts w halted m q under last
  word_halts {at} {reason} q last stop halted links many kept more told is behind halts =
      let same = on.same in
      let fails = word_fails on.walking (past_first past.row) refl more (record { at = at; reason = reason }) new.count q.count refl (sym told) stop is in
      halts_behind many (kept ∙ on.bytes) (rw (ap (λ (x : Walk). x.limits) same) at (on.walking).links) stop halts
      (rw (behind, sym (ap (λ (x : Walk). x.checks) same), sym (ap (λ (x : Walk). x.schema) same), sym (ap (λ (x : Walk). x.limits) same)) (rw on.bytes at fails))

-- the next ones were passed until one leads to a table, which was counted
pub record Counts (w then counted : Walk) (m new mid : Lent) (under : Waiting) (top past : Frame) (row : Row) (child : Child) (links : ℕ) : Type 0 where
  pub on : GoesOn w then m new under top past
  pub kept : mid.bytes ≡ new.bytes
  pub grows : new.count ≤ mid.count
  pub at : IsAtTable then mid.bytes mid.count under.start under.frames past (new.count + 4 * (past.row).left) child
  pub word : row ≡ past_first past.row
  pub many : links ≡ length under.frames + 1
  pub fewer : then.tables < (then.limits).tables
  pub deep : links < (w.limits).depth
  pub low : links < 4096
  pub cheap : AreAllowed (w.limits).reads (mid.count + 3)
  pub is : counted ≡ record then { tables = then.tables + 1; deepest = max then.deepest (links + 1) }

module _ {w then counted : Walk} {m new mid : Lent} {under : Waiting} {top past : Frame} {row : Row} {child : Child} {links : ℕ} (h : Counts w then counted m new mid under top past row child links) where
  limits : then.limits ≡ w.limits
  limits = ap (λ (x : Walk). x.limits) (h.on).same

  schema : then.schema.now ≡ w.schema.now
  schema = ap (λ (x : Walk). x.schema.now) (h.on).same

  abbrev waits : Frame
  waits = record past { row = row }

  abbrev below : Waiting
  below = record { start = under.start; frames = under.frames ++ waits ∷ [] }

  pub counted_same : counted ≡ record w { tables = counted.tables; deepest = counted.deepest }
  counted_same =
      h.is ∙ ap (λ (x : Walk). record x { tables = then.tables + 1; deepest = max then.deepest (links + 1) }) (h.on).same
      ∙ sym (ap (λ (x : Walk). record w { tables = x.tables; deepest = x.deepest }) h.is)

  -- it is to be opened
  pub comes_down : IsAtChild counted mid under.start below.frames child
  comes_down =
      at_child mid.base h.at links h.many row h.word h.fewer (rw limits h.deep) h.low
      (fewer_reads (then.limits).reads (mid.count + head_reads then.checks) (mid.count + 3) (omega (arith, head_few then.checks)) (rw limits h.cheap)) counted h.is

  pub goes_down : IsShort (mid.count + 3) → GoesDown w counted m mid under top waits child
  goes_down short =
      let fall = down_falls new.count h.at row h.word h.fewer in
      record {
        same = counted_same;
        down = comes_down;
        deep = omega (arith, h.many, h.deep);
        falls = rw (ap (λ (x : Walk). x.tables) h.is) (omega (arith, (h.on).falls, rw (schema, limits) at fall));
        grows = omega (arith, (h.on).grows, h.grows);
        bytes = h.kept ∙ (h.on).bytes;
        short = short;
      }

  -- or it may be passed, if its fields lead to no table
  pub flat_comes : {c : Checks} {S : Rows} {steps : List Step} {room : ℕ} → c ≡ w.checks → S ≡ w.schema.now → steps ≡ map step_of (live_fields w.schema.now child.object) → length steps < 2 ^ 32
      → is_plain w.schema.now child.object ≡ true → AreAllowed (w.limits).reads room → mid.count + 3 + 6 * length steps < room → room ≤ 2 ^ 56 → MayPass (record { walk = counted; under = below }) mid c S child.object child.at steps
  flat_comes {c} {S} {steps} {room} checks rows its few plain allowed paid short =
      let same = ap (λ (x : Walk). x.schema.now) counted_same in
      record {
        opens = comes_down.opens;
        room = fewer_reads (counted.limits).reads (mid.count + 3 + 6 * length steps) room (omega arith) (rw (ap (λ (x : Walk). x.limits) counted_same) allowed);
        short = omega arith;
        near = comes_down.near;
        same = checks ∙ sym (ap (λ (x : Walk). x.checks) counted_same);
        its = rw same its;
        schema = rows ∙ sym same;
        plain = rw same plain;
        few = few;
      }

  -- which passes it whole
  pub table_passed : (next at : ℕ) (q : Lent) → PassesFlat counted mid q below child.object child.at next at None → IsShort q.count → GoesOn w counted m q under top waits
  table_passed next at q p short =
      let most : q.count ≤ (h.at).before + 200000 = omega (arith, p.paid refl, (h.at).count, first_few mid.bytes then.schema.now past.row, ((p.walking refl under.frames waits refl).served).few child.object) in
      let fall = flat_work w.schema.now w.limits under.frames past row then.tables (h.at).before q.count h.word (h.at).more (rw limits at h.fewer) most in
      record {
        same = counted_same;
        walking = p.walking refl under.frames waits refl;
        table = (h.on).table;
        falls = rw (ap (λ (x : Walk). x.tables) h.is) (omega (arith, (h.on).falls, fall, (h.at).paid));
        grows = omega (arith, (h.on).grows, h.grows, p.grows);
        bytes = p.bytes ∙ h.kept ∙ (h.on).bytes;
        short = short;
      }

  -- or the walk stops in it
  pub table_halts : (next at : ℕ) (reason : Reason) (q : Lent) (halted : Walk) → PassesFlat counted mid q below child.object child.at next at (Some reason) → (halted.halt).links ≡ links
      → (next ≡ in_head → halted.halt ≡ record { stop = record { refusal = record { at = at; reason = reason }; site = record { object = child.object; field = None } }; links = links; last = Behind })
      → ((next ≡ in_head → ⊥) → IsStopAt counted.schema.now (frame_at child.object next) at reason (halted.halt).stop × ((halted.halt).last ≡ InField)) → Halts w halted m q under waits
  table_halts next at reason q halted p many_links head field =
      let all : take links (under.frames ++ waits ∷ []) ≡ under.frames ++ waits ∷ [] = take_all links (under.frames ++ waits ∷ []) (omega (arith, h.many, length-append under.frames (waits ∷ []))) in
      let ends : HaltsIn counted mid under.start below.frames halted.halt q.count × ((halted.halt).links + links_left (halted.halt).last ≤ (w.limits).depth) =
      elim (cases_eq next in_head) [
        | inl e ↦ (rw (head e) (comes_down.stops at q.count reason (p.head e)), rw (head e) (omega (arith, h.deep)))
        | inr e ↦ let g = field e in (rw g.1 (p.field e (halted.halt).stop g.0), rw g.1 (omega (arith, many_links, h.deep)))
      ] in
      record {
        links = omega (arith, many_links, h.many);
        deep = ends.1;
        err = rw (many_links, all, sym (ap (λ (x : Walk). x.checks) (h.on).same), sym schema, sym limits, sym (h.kept ∙ (h.on).bytes)) (rw (ap (λ (x : Walk). x.checks) h.is, ap (λ (x : Walk). x.schema.now) h.is, ap (λ (x : Walk). x.limits) h.is) at ends.0);
        bytes = p.bytes ∙ h.kept ∙ (h.on).bytes;
      }
