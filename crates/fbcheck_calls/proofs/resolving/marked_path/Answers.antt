use Rattle.std.proofs.Common.{ℕ, ◌≤◌, ◌+◌, List, length, take, arith}
use Rattle.fb_schema.specs.Rows.{Rows}
use Rattle.fb_access.specs.{Resolving.Resolves, declared.step.Step.Step}
use Rattle.fbcheck_calls.specs.{Marked.HasMark, Marked.at_zero, Resolved.IsPathFor, declared.steps.PlainPath.PlainPath}
use Rattle.fbcheck_calls.proofs.StarLemmas.{before_refused, before_short, each_after}
use Rattle.fbcheck_calls.proofs.resolving.marked_path.Goals as goal

pub returns-in-Err : goal.returns-in-Err
returns-in-Err c =
    let found = rw (c.deref.ensures.value, c.in-Ok.ensures) at c.in_ok-path.ensures in
    before_refused c.args.schema.now c.args.root c.args.text.now c.args.at c.requires.mark found.path found.resolves c.in-Err.fault c.in-Err.ensures.refused

-- the steps before are fewer than there is room for
few : (S : Rows) (root : ℕ) (text : List ℕ) (at : ℕ) (mark : HasMark text at) (p : PlainPath) (found : IsPathFor S root (at_zero text at) p) (before : List Step) → Resolves S root (take at text) before → length before + 1 ≤ 31
few S root text at mark p found before g =
    let short = before_short S root text at mark found.path found.resolves before g in
    let within : length found.path ≤ 31 = found.written.front.within in
    omega arith

pub overflow_cast-each : goal.overflow_cast-each
overflow_cast-each c =
    let most = few _ _ _ _ c.requires.mark c.in_ok-path.path (rw (c.deref.ensures.value, c.in-Ok.ensures) at c.in_ok-path.ensures) c.in-Ok-resolve.before c.in-Ok-resolve.ensures.steps in
    rw c.steps.ensures (omega (arith, most))

pub overflow_add-each : goal.overflow_add-each
overflow_add-each c =
    let most = few _ _ _ _ c.requires.mark c.in_ok-path.path (rw (c.deref.ensures.value, c.in-Ok.ensures) at c.in_ok-path.ensures) c.in-Ok-resolve.before c.in-Ok-resolve.ensures.steps in
    rw c.steps.ensures (omega (arith, most))

pub returns : goal.returns
returns c =
    let found = rw (c.deref.ensures.value, c.in-Ok.ensures) at c.in_ok-path.ensures in
    let each = each_after c.args.schema.now c.args.root c.args.text.now c.args.at c.requires.mark found.path found.resolves c.in-Ok-resolve.before c.in-Ok-resolve.ensures.steps in
    record {
      path = found.path;
      resolves = found.resolves;
      fits = found.fits;
      written = record { count = found.written.count; front = found.written.front };
      each = rw c.steps.ensures each;
    }
