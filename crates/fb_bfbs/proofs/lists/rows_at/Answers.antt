use Rattle.std.proofs.Common.{[], ◌∷◌, length-append, refl, arith, rules}
use Rattle.fb_access.specs.declared.step.Step.TheVariants.{Element}
use Rattle.fb_bfbs.specs.Seen.{seen, behind}
use Rattle.fb_bfbs.proofs.Sure.{element_allowed, at_element}
use Rattle.fb_bfbs.proofs.Composed.{said_after, no_rows, one_row_more, all_rows, seen_count, one_more_few}
use Rattle.fb_bfbs.proofs.lists.rows_at.Goals as goal

pub count_at-count-requires : goal.count_at-count-requires
count_at-count-requires g c = (g.R.FromTable.number, c.requires)

pub go-element-requires : goal.go-element-requires
go-element-requires g c = element_allowed _ g.R.FromTable.number _ c.requires

pub from_table-requires : goal.from_table-requires
from_table-requires g c = λ k. ((refl, tt), at_element _ _ g.R.FromTable.number _ _ c.requires c.count_at-count.ensures.count (omega arith) c.go-element.ensures.same c.go-element.ensures.leads)

pub loop-j-init : goal.loop-j-init
loop-j-init g c = record {
  place = refl;
  count = search rules;
  within = omega arith;
  rows = λ p way more. rw c.in_ok-rows.ensures.items (no_rows g.R.FromTable.is_row (behind (seen p) way));
  few = rw c.in_ok-rows.ensures.items (λ k d lt. absurd (omega arith));
}

pub loop-j-preserved : goal.loop-j-preserved
loop-j-preserved g c = record {
  place = refl;
  count = rw c.in_ok-push.ensures.items (omega (arith, length-append c.loop-j.rows.items (c.in_ok-row.row ∷ []), c.loop-j.invariant.count));
  within = omega arith;
  rows = λ p way more. one_row_more g.R.FromTable.is_row (behind (seen p) way) c.loop-j.rows.items c.in_ok-row.row _ c.loop-j.j c.in_ok-push.ensures.items c.loop-j.invariant.count (c.loop-j.invariant.rows p way more) (c.in_ok-row.ensures.row p (Element c.loop-j.j ∷ way) (said_after (behind (seen p) way) c.args.place.now c.go-element.result (Element c.loop-j.j) more c.go-element.ensures.same c.go-element.ensures.leads));
  few = one_more_few g.R.FromTable.listed c.loop-j.rows.items c.in_ok-row.row _ c.in_ok-push.ensures.items c.loop-j.invariant.few (rw c.go-element.ensures.same at c.in_ok-row.ensures.few);
}

pub returns-clause-rows : goal.returns-clause-rows
returns-clause-rows g c = λ p way more. all_rows g.R.FromTable.is_row (behind (seen p) way) c.loop-j.rows.items c.count_at-count.result (more _ _ (seen_count c.args.place.now _ c.count_at-count.ensures.count)) (omega arith) (c.loop-j.invariant.rows p way more)

pub returns-clause-few : goal.returns-clause-few
returns-clause-few g c = let all = c.loop-j.rows.ok.0 in omega (arith, c.count_at-count.ensures.few)
