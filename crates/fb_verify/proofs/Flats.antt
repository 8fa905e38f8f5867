-- A table whose fields lead to no table is passed whole; uoffsets that are left of a field are passed one by one.
use Rattle.std.proofs.Common.{◌≡◌, ℕ, ◌+◌, ◌*◌, ◌^◌, ◌<◌, ◌≤◌, IsTrue, Bool, true, false, List, [], ◌∷◌, ◌++◌, map, length, refl, sym, ◌∙◌, ap, subst, arith, Option, Some, None, Result, Ok, Err}
use Rattle.std.proofs.lemmas.{Bool.lt-ltb, List.length-map}
use Rattle.fb_bytes.specs.Word.{Lent}
use Rattle.fb_schema.specs.{Rows.Rows, Rows.is_table, Live.live_fields, Steps.is_plain, Steps.step_of, declared.views.Step.Step}
use Rattle.fb_schema.proofs.Numbers.{slice_get_some}
use Rattle.fb_rules.specs.{Bounds.Bounds, Places.target, Fields.Lead, Fields.Entry, Fields.to_table, Cost.head_reads, Cost.lead_reads, Stops.budget_failure, Stops.reads_failure}
use Rattle.fb_rules.specs.{Stops.lead_reads_failure, OffsetRows.lead_to, OffsetRows.first_word, OffsetRows.word_at, OffsetRows.past_first, OffsetRows.IsLeafLead, Way.Way}
use Rattle.fb_rules.specs.{Told.told, Told.refused, Told.stopped, Told.IsHead, Order.Failure, Order.after, Order.◌▷◌, Order.head_failure, Order.lead_failure, Order.element_failure}
use Rattle.fb_rules.specs.{Plain.tested_by, Plain.IsTested, Plain.StepsHold, Plain.steps_reads, declared.checks.Checks.Checks, declared.fault.Reason.Reason, declared.table.Head.Head}
use Rattle.fb_rules.specs.declared.{table.Table.Table, offset_row.Row.Row, offset_row.Leads.TheVariants.All, offset_row.Referent.Referent, offset_row.Referent.TheVariants.Table as ATable}
use Rattle.fb_rules.specs.declared.site.{Refusal.Refusal, Site.Site, Stop.Stop}
use Rattle.fb_verify.specs.{PassesOn.HasRoom, PassesOn.IsBetween, PassesOn.PassesOn, Flat.in_head, Flat.Going, Flat.MayPass, Flat.PassesFlat}
use Rattle.fb_verify.specs.{Stack.opened, Stack.Waiting, Stack.Origin, Stack.IsUnderWay, Stack.IsAtTable, Stack.StopsIn, Stack.work, declared.scratch.Frame.Frame, declared.stack.Walk.Walk}
use Rattle.fb_rules.proofs.{Budgets.fewer_reads, Chains.after_none, Few.head_few, Plains.after_twice, Plains.never_leads, Refusals.told_after, Refusals.told_first, Words.first_place}
use Rattle.fb_verify.proofs.{Passing.told_grows, Walking.word_stops, Walking.table_closed}

-- a field of a table of which none leads on isn't there to lead on
pub never_on : {w : Walk} {m new : Lent} {under : Waiting} {top past : Frame} {at : ℕ} → is_plain w.schema.now (top.table).object ≡ true → past.table ≡ top.table → PassesOn w m new under top past at (Ok true) → ⊥
never_on {w} {m} {new} {under} {top} {past} plain same e =
    let fs = live_fields w.schema.now (top.table).object in
    let f = slice_get_some fs past.next (rw same at ((e.comes).field).within) in
    never_leads fs past.next f.0 plain f.1 ((e.comes).open-field f.0 f.1)

-- why passing fields failed
abbrev pub reason_of : Result Bool Reason → Option Reason
reason_of (Ok more) = None
reason_of (Err reason) = Some reason

-- its head was tested, and holds
module _ {going : Going} {m mid : Lent} {c : Checks} {S : Rows} {k t tested : ℕ} {steps : List Step} {result : Option Reason} (r : MayPass going m c S k t steps)
    (e : IsTested m mid tested (head_failure (going.walk).checks m.bytes t) (head_reads (going.walk).checks) result) (none : result ≡ None) (head : Head) where
  abbrev table : Table
  table = record { head = head; object = k; at = t }

  pub flat_holds : head_failure (going.walk).checks m.bytes t ≡ None
  flat_holds = (after_none m.count _).0 (sym e.told ∙ ap (tested_by tested mid.count) none)

  -- there are as many steps as fields
  pub flat_many : length steps ≡ length (live_fields (going.walk).schema.now k)
  flat_many = ap length r.its ∙ length-map (live_fields (going.walk).schema.now k) step_of

  -- its fields are to be passed
  pub flat_between : IsHead (going.walk).checks m.bytes t head → IsBetween going.walk mid going.under (opened table)
  flat_between is = record { walking = rw (e.bytes, e.counted none) (r.opens table refl refl is flat_holds); rests = refl }

  pub flat_room : HasRoom going.walk mid (opened table)
  flat_room =
      let few = head_few (going.walk).checks in
      record { allowed = fewer_reads ((going.walk).limits).reads _ _ (omega (arith, e.counted none, flat_many, few)) r.room; short = omega (arith, e.counted none, flat_many, few, r.short) }

  -- they were passed, or one fails
  pub flat_came : {new : Lent} {next at : ℕ} (came : Result Bool Reason) → PassesOn going.walk mid new going.under (opened table) (record (opened table) { next = next }) at came → PassesFlat going.walk m new going.under k t next at (reason_of came)
  flat_came (Ok true) h = absurd (never_on r.plain refl h)
  flat_came (Ok false) h = record {
    walking = λ _ rest above is. (table_closed (h.comes).walking rest above is refl (h.comes).all);
    paid = λ _. omega (arith, (h.comes).ends, e.counted none, head_few (going.walk).checks);
    grows = omega (arith, h.grows, e.counted none);
    bytes = h.bytes ∙ e.bytes;
    head = λ _. tt;
    within = λ _. tt;
    field = λ _. tt;
  }
  flat_came (Err reason) h = record {
    walking = λ x. absurd cc;
    paid = λ x. absurd cc;
    grows = omega (arith, h.grows, e.counted none);
    bytes = h.bytes ∙ e.bytes;
    head = λ x. absurd (omega (arith, x, (h.comes).next, flat_many, r.few));
    within = λ _. (h.comes).next;
    field = λ _ s is. rw (sym e.bytes) ((h.comes).err s (record { refusal = is.refusal; object = is.object; field = is.field }));
  }

-- its fields were passed: they hold, for so many reads
pub flat_kept : {w : Walk} {m new : Lent} {under : Waiting} {table : Table} {next at : ℕ} → is_plain w.schema.now table.object ≡ true → (more : Bool) → PassesOn w m new under (opened table) (record (opened table) { next = next }) at (Ok more)
    → StepsHold w.checks m.bytes table.at (map step_of (live_fields w.schema.now table.object)) × (new.count ≡ m.count + steps_reads m.bytes table.at (map step_of (live_fields w.schema.now table.object))) × (new.count ≤ m.count + 6 * length (live_fields w.schema.now table.object))
flat_kept plain true e = absurd (never_on plain refl e)
flat_kept plain false e = ((e.comes).hold, (e.comes).counted, omega (arith, (e.comes).ends))

-- its head fails
pub head_flat : {w : Walk} {m new : Lent} {under : Waiting} {k t at : ℕ} {reason : Reason} → tested_by at new.count (Some reason) ≡ after m.count (head_failure w.checks m.bytes t) → new.bytes ≡ m.bytes → PassesFlat w m new under k t in_head at (Some reason)
head_flat {w} {m} {new} {under} {k} {t} told bytes = record {
  walking = λ x. absurd cc;
  paid = λ x. absurd cc;
  grows = told_grows (head_failure w.checks m.bytes t) told;
  bytes = bytes;
  head = λ _. told;
  within = λ no. absurd (no refl);
  field = λ no. absurd (no refl);
}

-- The first word of a row: its type is read, and then it is tested with what it leads to.
pub word_told : (c : Checks) (b : List ℕ) (S : Rows) (row : Row) (lead : Lead) → lead ≡ (first_word b S row).lead → (m mid : ℕ) → mid ≡ m + (first_word b S row).reads → (x : Option Failure) → x ≡ after mid (lead_failure c b row.place lead)
    → x ≡ after m (element_failure c b (first_word b S row))
unfolding element_failure
word_told c b S row lead e m mid z x told =
    let w = first_word b S row in
    rw (e, z) at told ∙ ap (λ p. after (m + w.reads) (lead_failure c b p w.lead)) (sym (first_place b S row)) ∙ sym (after_twice m w.reads (lead_failure c b w.place w.lead))

module _ {c : Checks} {b : List ℕ} {S : Rows} {L : Bounds} {s : Origin} {below : List Frame} {top : Frame} {n d r : ℕ} (h : IsUnderWay c b S L s below top n d r) where
  -- the first word that is left
  abbrev word : Entry
  word = first_word b S top.row

  -- where all that are left refer to the same, none reads a type
  module _ (referent : Referent) (leads : (top.row).leads ≡ All referent) where
    pub all_lead : lead_to referent ≡ word.lead
    all_lead = ap (λ l. (word_at b S l (top.row).place).lead) (sym leads)

    pub all_free : word.reads ≡ 0
    all_free = ap (λ l. (word_at b S l (top.row).place).reads) leads

    pub all_told : (x : Option Failure) → x ≡ after r (lead_failure c b (top.row).place (lead_to referent)) → x ≡ after r (element_failure c b word)
    all_told x told = word_told c b S top.row (lead_to referent) all_lead r r (omega (arith, all_free)) x told

  -- where it fails
  pub word_fails : (row : Row) → row ≡ past_first top.row → 0 < (top.row).left → (e : Refusal) → (m q : ℕ) → r ≡ m → after m (element_failure c b word) ≡ Some (refused e q) → (stop : Stop) → stop ≡ record { refusal = e; site = record { object = (top.table).object; field = Some top.number } }
      → StopsIn c b S L s (below ++ record top { row = row } ∷ []) [] (stopped stop q)
  word_fails row re l e m q z x stop is =
      let site : Site = record { object = (top.table).object; field = Some top.number } in
      let told = ap (λ w. after w (element_failure c b word)) z ∙ x in
      let fault = stopped (record { refusal = e; site = site }) q in
      subst (λ (y : Stop). StopsIn c b S L s (below ++ record top { row = row } ∷ []) [] (stopped y q)) (sym is)
      (word_stops h fault row re l (told_first site r (element_failure c b word) (lead_reads_failure L r word word.lead) fault (told_after site r q (element_failure c b word) e told)))

-- what is no table is a leaf
pub is_leaf : (referent : Referent) → ((k : ℕ) → referent ≡ ATable k → ⊥) → IsLeafLead (lead_to referent)
is_leaf (ATable k) n = n k refl
is_leaf _ n = tt

-- The first word that is left of a row of words to tables of one object.
module _ (w : Walk) {b : List ℕ} {start : Origin} {below : List Frame} {top : Frame} {r : ℕ} (h : IsUnderWay w.checks b w.schema.now w.limits start below top w.tables w.deepest r)
    (k : ℕ) (leads : (top.row).leads ≡ All (ATable k)) (more : 0 < (top.row).left) where
  module _ (new : ℕ) (at : ℕ) (result : Option Reason) (told : tested_by at new result ≡ after r (lead_failure w.checks b (top.row).place (to_table k))) where
    pub word_tells : tested_by at new result ≡ after r (element_failure w.checks b (first_word b w.schema.now top.row))
    word_tells = all_told h (ATable k) leads (tested_by at new result) told

    -- where it holds, the walk stands at that table
    pub at_flat : result ≡ None → IsTrue (is_table w.schema.now k) → new ≡ r + 1 → at ≡ target b (top.row).place → at < 2 ^ 33
        → IsAtTable w b new start below top (r + 4 * (top.row).left) (record { object = k; at = at })
    at_flat none table paid is near = record {
      before = r;
      count = omega (arith, paid, all_free h (ATable k) leads, ap lead_reads (sym (all_lead h (ATable k) leads)));
      walking = h;
      more = more;
      holds = (after_none r (element_failure w.checks b (first_word b w.schema.now top.row))).0 (sym word_tells ∙ ap (tested_by at new) none);
      leads = sym (all_lead h (ATable k) leads);
      table = table;
      at = is;
      near = near;
      paid = omega arith;
    }

-- A table is passed, and the words behind it leave less work.
pub flat_work : (S : Rows) (L : Bounds) (below : List Frame) (top : Frame) (row : Row) (n r u : ℕ) → row ≡ past_first top.row → 0 < (top.row).left → n < L.tables
    → u ≤ r + 200000 → u + work S L below (record top { row = row }) (n + 1) < r + work S L below top n
unfolding work
flat_work S L below top row n r u re more fewer cost = omega (arith, more, fewer, cost, ap (λ (x : Row). x.left) re)

-- The limits allow it, and its head fails.
pub head_fails : (c : Checks) (b : List ℕ) (L : Bounds) (v : Way) (site : Site) (k t at q new : ℕ) (reason : Reason) → v.links < L.depth → v.passed < L.tables → tested_by at new (Some reason) ≡ after q (head_failure c b t)
    → (told site q (budget_failure L v t) ▷ told (record { object = k; field = None }) q (head_failure c b t ▷ reads_failure L q (head_reads c) t))
    ≡ Some (stopped (record { refusal = record { at = at; reason = reason }; site = record { object = k; field = None } }) new)
head_fails c b L v site k t at q new reason deep fewer x =
    let e : Refusal = record { at = at; reason = reason } in
    let here : Site = record { object = k; field = None } in
    let f = stopped (record { refusal = e; site = here }) new in
    rw (lt-ltb v.links L.depth deep, lt-ltb v.passed L.tables fewer) (told_first here q (head_failure c b t) (reads_failure L q (head_reads c) t) f (told_after here q new (head_failure c b t) e (sym x)))
