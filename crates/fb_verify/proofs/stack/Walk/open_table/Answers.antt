use Rattle.std.proofs.Common.{◌≡◌, refl, ℕ, ◌<◌, ◌≤◌, nat_lt, true, false, Option, Some, arith}
use Rattle.std.proofs.lemmas.Bool.Decides.{nat_tests}
use Rattle.fb_rules.specs.{Bounds.Bounds, Stops.budget_failure, Told.told, Told.stopped, Told.way_at, Order.◌▷◌}
use Rattle.fb_rules.specs.declared.{fault.Fault.Fault, fault.Reason.TheVariants.TooDeep, fault.Reason.TheVariants.TooManyTables, site.Site.Site}
use Rattle.fb_verify.proofs.stack.Walk.open_table.Goals as goal

-- as many tables are open as may be
too_deep : (L : Bounds) (site : Site) (links passed deepest paid at : ℕ) (rest : Option Fault) → L.depth ≤ links
    → told site paid (budget_failure L (way_at links passed deepest paid site) at) ▷ rest ≡ Some (stopped (record { refusal = record { at = at; reason = TooDeep }; site = site }) paid)
too_deep L site links passed deepest paid at rest h =
    let t : nat_lt links L.depth ≡ false = grind (arith, nat_tests) in
    rw t (grind arith)

-- or as many were opened as may be
too_many : (L : Bounds) (site : Site) (links passed deepest paid at : ℕ) (rest : Option Fault) → links < L.depth → L.tables ≤ passed
    → told site paid (budget_failure L (way_at links passed deepest paid site) at) ▷ rest ≡ Some (stopped (record { refusal = record { at = at; reason = TooManyTables }; site = site }) paid)
too_many L site links passed deepest paid at rest l h =
    let t : nat_lt links L.depth ≡ true = grind (arith, nat_tests) in
    let u : nat_lt passed L.tables ≡ false = grind (arith, nat_tests) in
    rw (t, u) (grind arith)

pub returns-then-links-depth : goal.returns-then-links-depth
returns-then-links-depth c = record {
  err = too_deep c.args.self.now.limits c.args.site c.args.links c.args.self.now.tables c.args.self.now.deepest c.args.loan.now.count c.args.child.at _ (rw c.depth.ensures.value at c.if-links-depth.true);
  bytes = refl;
}

pub returns-then-self-tables_of : goal.returns-then-self-tables_of
returns-then-self-tables_of c = record {
  err = too_many c.args.self.now.limits c.args.site c.args.links c.args.self.now.tables c.args.self.now.deepest c.args.loan.now.count c.args.child.at _ (rw c.depth.ensures.value at c.if-links-depth.false) (rw c.tables_of.ensures at c.if-self-tables_of.true);
  bytes = refl;
}

pub returns-in-Ok : goal.returns-in-Ok
returns-in-Ok c =
    let e = c.in-Ok.ensures in
    let depth = c.depth.ensures in
    let fewer = c.tables_of.ensures in
    record {
      allowed = record { deep = rw depth.value at c.if-links-depth.false; low = omega (arith, c.if-links-depth.false, depth.in_range); fewer = rw fewer at c.if-self-tables_of.false; small = rw fewer at c.tables_of.type_inv };
      ok = e.asked.ok;
      head = e.head;
      table = refl;
      reads = e.asked.reads;
      opened = rw c.max-self.ensures refl;
      counted = e.asked.counted;
      bytes = e.asked.bytes;
    }
