use Rattle.std.proofs.Common.{subst, arith}
use Rattle.fb_schema.specs.{Live.widest, FlatRows.flat_rows, Served.IsServed, Served.HaveKinds}
use Rattle.fb_schema.proofs.{Kinded.have_kinds, TypedLemmas.served_by}
use Rattle.fb_schema.proofs.schema.Schema.lawful.Goals as goal

pub returns-clause-served : goal.returns-clause-served
unfolding widest
returns-clause-served g c =
    let s = c.self.inside in
    let few = c.self.invariant.fields.few in
    let most = c.self.invariant.fields.widest in
    subst IsServed c.self.view_is (served_by (flat_rows s.rows) c.self.invariant.legal (omega arith))

pub returns-clause-kinds : goal.returns-clause-kinds
returns-clause-kinds g c = let s = c.self.inside in subst HaveKinds c.self.view_is (have_kinds (flat_rows s.rows) c.self.invariant.legal)
