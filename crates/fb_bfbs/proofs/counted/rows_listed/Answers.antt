use Rattle.std.proofs.Common.{[], ◌∷◌, ◌++◌, refl, arith, length-append}
use Rattle.std.proofs.lemmas.List.Sums.{sum_by-append, sum_by-cons}
use Rattle.fb_schema.specs.declared.kinds.Kind.TheVariants.{Tables}
use Rattle.fb_access.specs.declared.step.Step.TheVariants.{Element}
use Rattle.fb_bfbs.specs.{Seen.seen, Seen.behind, Sums.Lists, Sums.listed_rows}
use Rattle.fb_bfbs.proofs.{Sure.element_allowed, KnownFields.field_known, Sure.at_field, Counts.element_lists, Counts.lists_here}
use Rattle.fb_bfbs.proofs.Composed.{said_after, no_rows, one_row_more, all_rows, seen_count}
use Rattle.fb_bfbs.proofs.counted.rows_listed.Goals as goal

pub count_at-count-requires : goal.count_at-count-requires
count_at-count-requires c = (c.requires.object, c.requires.at)

pub go-element-requires : goal.go-element-requires
go-element-requires c = element_allowed _ _ _ c.requires.at

pub go_to-listed-requires : goal.go_to-listed-requires
go_to-listed-requires c = field_known _ _ (Tables c.args.object) tt (element_lists _ _ _ _ _ c.requires c.count_at-count.ensures.count c.loop-j-test.true c.go-element.ensures.same c.go-element.ensures.leads)

pub count_at-requires : goal.count_at-requires
count_at-requires c =
    let lists = element_lists _ _ _ _ _ c.requires c.count_at-count.ensures.count c.loop-j-test.true c.go-element.ensures.same c.go-element.ensures.leads in
    (c.args.object, at_field _ _ _ (Tables c.args.object) lists c.go_to-listed.ensures.same c.go_to-listed.ensures.here)

pub loop-j-init : goal.loop-j-init
loop-j-init c = record { place = refl; within = omega (arith); small = omega (arith); rows = ([], refl, refl, λ p way more. no_rows Lists (behind (seen p) way)) }

pub loop-j-preserved : goal.loop-j-preserved
loop-j-preserved c =
    let (counts, length_is, total, so_far) = c.loop-j.invariant.rows in
    let n = c.count_at.result in
    record {
      place = refl;
      within = omega (arith, c.loop-j-test.true);
      small = omega (arith, c.loop-j.invariant.small, c.from.ensures, c.count_at.type_inv);
      rows = (
        counts ++ n ∷ [],
        omega (arith, length-append counts (n ∷ []), length_is),
        omega (arith, sum_by-append listed_rows counts (n ∷ []), sum_by-cons listed_rows n [], total, c.from.ensures),
        λ p way more. one_row_more Lists (behind (seen p) way) counts n _ c.loop-j.j refl length_is (so_far p way more) (lists_here c.go-element.result c.go_to-listed.result n c.go_to-listed.ensures.same c.go_to-listed.ensures.leads c.count_at.ensures.count p (Element c.loop-j.j ∷ way) (said_after (behind (seen p) way) c.args.place.now c.go-element.result (Element c.loop-j.j) more c.go-element.ensures.same c.go-element.ensures.leads)),
      );
    }

pub returns : goal.returns
returns c =
    let (counts, length_is, total, so_far) = c.loop-j.invariant.rows in
    (counts, λ p way more. all_rows Lists (behind (seen p) way) counts c.count_at-count.result (more _ _ (seen_count c.args.place.now _ c.count_at-count.ensures.count)) (omega (arith, length_is, c.loop-j-test.false, c.loop-j.invariant.within)) (so_far p way more), total)
