use Rattle.std.proofs.Common.{◌++◌}
use Rattle.fb_access.proofs.Tested.{changed}
use Rattle.fbcheck_calls.proofs.{AgainLemmas.end_at, AgainLemmas.end_is_other, AgainLemmas.from_root, AgainLemmas.root_is_other, EachLemmas.seen_is_told}
use Rattle.fbcheck_calls.proofs.each.find.Goals as goal

pub returns-in_err-spot : goal.returns-in_err-spot
returns-in_err-spot c =
    changed _ _ _ _ c.from_residual-in_err-spot.ensures.1 (root_is_other c.args.window.now c.args.schema.now c.args.start c.args.root c.in_ok-first.first c.in_ok-first.ensures.0 c.in_err-spot.ensures)

pub returns-in_default : goal.returns-in_default
returns-in_default c =
    let none = rw c.in_default.is at c.in_ok-spot.ensures in
    λ rest fit. none rest (from_root c.args.window.now c.args.schema.now c.args.start c.args.root c.in_ok-first.first (c.args.before.now ++ rest) c.in_ok-first.ensures.0 fit)

pub returns-in_err-seen : goal.returns-in_err-seen
returns-in_err-seen c =
    let go = rw c.in-Some.is at c.in_ok-spot.ensures in
    changed _ _ _ _ c.from_residual-in_err-seen.ensures.1 (end_is_other c.args.window.now c.args.schema.now c.args.start c.args.root c.in_ok-first.first c.in-Some.spot c.args.before.now c.in_ok-first.ensures.0 go c.in_err-seen.ensures)

pub returns : goal.returns
returns c =
    let go = rw c.in-Some.is at c.in_ok-spot.ensures in
    let b = c.args.window.now in
    let S = c.args.schema.now in
    let first = c.in_ok-first.first in
    let same = c.in_ok-first.ensures.0 in
    record {
      tested = go.tested;
      ends = end_at b S c.args.start c.args.root first c.in-Some.spot c.args.before.now same go;
      other = end_is_other b S c.args.start c.args.root first c.in-Some.spot c.args.before.now same go;
      fit = λ rest h. go.fit rest (from_root b S c.args.start c.args.root first (c.args.before.now ++ rest) same h);
      told = seen_is_told b S c.in-Some.spot c.in_ok-seen.seen c.in_ok-seen.ensures c.elements_of-elements.result c.elements_of-elements.ensures;
    }
