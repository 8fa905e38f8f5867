-- From the walk of the root table to the verdict.
use Rattle.std.proofs.Common.{◌≡◌, ℕ, ◌+◌, ◌^◌, ◌<◌, ◌≤◌, IsTrue, inl, inr, List, [], ◌++◌, length, map, refl, sym, ◌∙◌, ap, arith, Some, None, Result, Ok, Err}
use Rattle.std.proofs.lemmas.List.Elements.{All-nil}
use Rattle.fb_bytes.specs.Word.{Lent}
use Rattle.fb_schema.specs.Rows.{is_table}
use Rattle.fb_rules.specs.{Bounds.AreAllowed, Bounds.Bounds, Question.Question, Places.target, Tree.size, Tree.depth, Cost.tree_cost, WellFormed.base, WellFormed.start_reads}
use Rattle.fb_rules.specs.{Way.way_to_start, Way.way_to_root, Links.LeadsAlong, Links.StopsAlong, Told.told, Told.stopped, Told.way_at, Told.IsAskedAt, MostReads.most_reads}
use Rattle.fb_rules.specs.{Verdict.Reports, Verdict.HasNone, Stops.reads_failure, Stops.fault_at, Stops.Stops, Order.◌▷◌, Order.start_failure, declared.start.Ident.Ident}
use Rattle.fb_rules.specs.declared.{fault.Fault.Fault, fault.Report.Report, site.LastLink.LastLink, site.LastLink.TheVariants.Behind, site.Site.Site, site.Stop.Stop, link.Link.Link}
use Rattle.fb_verify.specs.{Sealed.Sealed, Sealed.IsUnfolded, Sealed.asked_of, Walked.TableWalked, Walked.ended}
use Rattle.fb_verify.specs.{Stack.HaltsAlong, Stack.IsLinked, Stack.StopsIn, Stack.frame_link, Stack.last_link, declared.scratch.Frame.Frame}
use Rattle.fb_rules.proofs.{Budgets.fewer_reads, Budgets.no_reads, Chains.start_none, Overruns.stops_nowhere, Price.cost_is_bounded, Price.reads_are_bounded}
use Rattle.fb_verify.proofs.{Steps.same_way, Standings.told_is}

module _ (q : Question) (b : List ℕ) where
  abbrev root_site : Site
  root_site = record { object = q.root; field = None }

  -- the root's way, as the walk has it
  root_way : (r : ℕ) → r ≡ start_reads q.start q.ident → way_at 0 0 0 r root_site ≡ way_to_root q.root q.start q.ident
  root_way r e = same_way _ _ refl refl refl (omega (arith, e)) refl refl refl

  -- a fault before the root table, to which no link leads
  stops_at_start : (f : Fault) → told root_site 0 (start_failure q.checks b q.start q.ident ▷ reads_failure q.limits 0 (start_reads q.start q.ident) (base q.start)) ≡ Some f → StopsAlong q b f []
  unfolding fault_at
  stops_at_start f h =
      inl (record { within = record { tables = omega arith; depth = omega arith; reads = no_reads q.limits.reads }; first = sym (told_is (way_to_start q.root) root_site _ refl refl) ∙ h }, refl)

  -- a fault at the root table or below
  stops_below_start : (t r : ℕ) (f : Fault) (links : List Link) → start_failure q.checks b q.start q.ident ≡ None → t ≡ target b (base q.start)
      → r ≡ start_reads q.start q.ident → LeadsAlong q.checks b q.rows q.limits q.root t (way_at 0 0 0 r root_site) f links → StopsAlong q b f links
  stops_below_start t r f links o p e h = inr ((start_none q.checks b q.start q.ident).0 o, rw (p, root_way r e) at h)

  -- the root table was walked
  reports : (t r n d paid count : ℕ) → start_failure q.checks b q.start q.ident ≡ None → t ≡ target b (base q.start) → r ≡ start_reads q.start q.ident
      → TableWalked q.checks b q.rows q.root t (way_at 0 0 0 r root_site) (ended (way_at 0 0 0 r root_site) n d paid) → n ≤ q.limits.tables → d ≤ q.limits.depth → AreAllowed q.limits.reads paid
      → count ≡ paid → Reports q b (record { tables = n; depth = d; reads = count })
  reports t r n d paid count o p e h a x w z =
      let y = h.found in
      let s : n ≡ size y = omega (arith, ap (λ v. v.passed) h.after) in
      let i : d ≡ depth y = omega (arith, ap (λ v. v.deepest) h.after) in
      let m : paid ≡ start_reads q.start q.ident + tree_cost y q.checks b q.rows = omega (arith, e, ap (λ v. v.paid) h.after) in
      record {
        found = y;
        well_formed = record { starts = (start_none q.checks b q.start q.ident).0 o; unfolds = rw p at h.unfolds };
        within = record { tables = omega (arith, s); depth = omega (arith, i); reads = fewer_reads q.limits.reads _ paid (omega (arith, m)) w };
        tables = s;
        depth = i;
        reads = z ∙ m;
      }

-- The same by what a walk asked before its root table, where nothing was read before.
module _ (q : Question) (m new : Lent) (fresh : m.count ≡ 0) where
  abbrev Begins : Result (Unit {0}) Stop → Type 0
  Begins r = IsAskedAt (root_site q m.bytes) q.limits m new (start_failure q.checks m.bytes q.start q.ident) (start_reads q.start q.ident) (base q.start) r

  spent : {o : Unit {0}} → Begins (Ok o) → new.count ≡ start_reads q.start q.ident
  spent h = omega (arith, fresh, ap (λ (x : Lent). x.count) h.counted)

  -- where the start fails, no frame leads there
  pub halts_at_start : (s : Stop) → Begins (Err s) → HaltsAlong q m.bytes [] Behind (stopped s new.count)
  halts_at_start s h = record { along = stops_at_start q m.bytes _ (rw fresh at h.err); linked = All-nil (IsLinked q.checks m.bytes q.rows) }

  -- where the walk fails, frames lead there from its root table
  pub halts_below : {o : Unit {0}} (t : ℕ) → t ≡ target m.bytes (base q.start) → Begins (Ok o) → (way : List Frame) (last : LastLink) (f : Fault)
      → StopsIn q.checks m.bytes q.rows q.limits (record { object = q.root; position = t; way = way_at 0 0 0 new.count (root_site q m.bytes) }) way (last_link last f) f → HaltsAlong q m.bytes way last f
  halts_below t at h way last f stops = record { along = stops_below_start q m.bytes t new.count _ _ h.ok at (spent h) stops.along; linked = stops.linked }

  -- where it doesn't, the report tells what it came to
  pub reports_all : {o : Unit {0}} (t : ℕ) → t ≡ target m.bytes (base q.start) → Begins (Ok o) → (n d paid count : ℕ)
      → TableWalked q.checks m.bytes q.rows q.root t (way_at 0 0 0 new.count (root_site q m.bytes)) (ended (way_at 0 0 0 new.count (root_site q m.bytes)) n d paid) → n ≤ q.limits.tables → d ≤ q.limits.depth → AreAllowed q.limits.reads paid
      → count ≡ paid → Reports q m.bytes (record { tables = n; depth = d; reads = count })
  reports_all t at h n d paid count walked = reports q m.bytes t new.count n d paid count h.ok at (spent h) walked

module _ {q : Question} {b : List ℕ} where
  -- where frames lead to a fault, there is one
  pub fault_along : {frames : List Frame} {last : LastLink} {f : Fault} → HaltsAlong q b frames last f → Stops q b f
  fault_along h = let along = h.along in grind arith

  pub links_along : {frames : List Frame} {last : LastLink} {f g : Fault} {c : List ℕ} {links : List Link} → HaltsAlong q b frames last f → g ≡ f → c ≡ b → links ≡ map (frame_link c q.rows) frames ++ last_link last g → StopsAlong q b g links
  links_along h fault bytes is = rw (is, fault, bytes) h.along

  -- and no tree
  pub none_along : {frames : List Frame} {last : LastLink} {f : Fault} → HaltsAlong q b frames last f → HasNone q b
  none_along h y i j = stops_nowhere q b y _ i j (fault_along h)

  -- the price
  pub price_of_no : {frames : List Frame} {last : LastLink} {f : Fault} → HaltsAlong q b frames last f → f.reads ≤ most_reads q.rows q.limits (length b)
  price_of_no h = reads_are_bounded q b _ (fault_along h)

  pub price_of_yes : {r : Report} → Reports q b r → r.reads ≤ most_reads q.rows q.limits (length b)
  price_of_yes h = omega (arith, h.reads, cost_is_bounded q b h.found h.well_formed h.within)

-- what is sealed is what was verified
pub sealed_kept : {v w : Sealed} {b : List ℕ} → v ≡ w → w.bytes ≡ b → v ≡ record w { bytes = b; report = v.report }
sealed_kept {w = w} sealed same = rw sealed (ap (λ (x : List ℕ). record w { bytes = x }) same)

-- and it unfolds, where a report tells so
pub unfolded : (v : Sealed) {b : List ℕ} → v.bytes ≡ b → (ident : Ident) (L : Bounds) → length b < 2 ^ 31 → IsTrue (is_table v.schema v.root) → Reports (asked_of v ident L) b v.report → IsUnfolded v
unfolded v same ident L short table h = record {
  short = rw same short;
  root_is_table = table;
  ident = ident;
  limits = L;
  found = h.found;
  well_formed = rw same h.well_formed;
  tables = h.tables;
  depth = h.depth;
  reads = rw same h.reads;
}
