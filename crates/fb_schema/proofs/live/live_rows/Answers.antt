use Rattle.std.proofs.Common.{◌≡◌, ◌<◌, ◌+◌, ◌++◌, ◌∷◌, [], ℕ, List, cond, not, true, false, get_or, filter, take, length, ap, sym, ◌∙◌, arith, rules}
use Rattle.std.proofs.lemmas.List.{append-nil, Elements.filter_more, Sorted.IsNonDecreasingBy-from_sort_by_key, Sorted.length_permutation}
use Rattle.std.proofs.Math.Seq.{take-length}
use Rattle.std.specs.List.Sorted.{IsNonDecreasingBy}
use Rattle.fb_schema.specs.{Live.is_live, Rows.field_of, declared.rows.FieldRow.FieldRow}
use Rattle.fb_schema.proofs.LiveLemmas.{live_value, live_rising, shorter}
use Rattle.fb_schema.proofs.live.live_rows.Goals as goal
use Rattle.fb_schema.proofs.live.live_rows.Goals.{After-sort_unstable_by_key, then-not-field+in_ok-push, else-not-field}

all : (g : _) (c : After-sort_unstable_by_key g) → c.loop-field.live.items ≡ filter (λ r. is_live (field_of r)) c.args.fields.now
all g c =
    let rows = c.args.fields.now in
    let whole : c.loop-field.field-index ≡ length rows = omega arith in
    c.loop-field.invariant ∙ ap (λ n. filter (λ r. is_live (field_of r)) (take n rows)) whole ∙ ap (filter (λ r. is_live (field_of r))) (take-length rows)

up : (g : _) (c : After-sort_unstable_by_key g) → IsNonDecreasingBy (λ (r : FieldRow). r.slot) c.sort_unstable_by_key.new.self.items
up g c = IsNonDecreasingBy-from_sort_by_key (λ (r : FieldRow). r.slot) c.sort_unstable_by_key.new.self.items c.sort_unstable_by_key.ensures.sorted (λ a r q k. search rules)

pub returns-clause-value : goal.returns-clause-value
returns-clause-value g c = live_value c.args.fields.now c.loop-field.live.items c.sort_unstable_by_key.new.self.items c.requires (all g (goal.at.returns-clause-value g c).After-sort_unstable_by_key) c.sort_unstable_by_key.ensures.permutation (up g (goal.at.returns-clause-value g c).After-sort_unstable_by_key)

pub returns-clause-rising : goal.returns-clause-rising
returns-clause-rising g c = live_rising c.args.fields.now c.loop-field.live.items c.sort_unstable_by_key.new.self.items c.requires (all g (goal.at.returns-clause-rising g c).After-sort_unstable_by_key) c.sort_unstable_by_key.ensures.permutation (up g (goal.at.returns-clause-rising g c).After-sort_unstable_by_key)

pub returns-clause-fewer : goal.returns-clause-fewer
returns-clause-fewer g c =
    let old = c.loop-field.live.items in
    let short = shorter (λ r. is_live (field_of r)) c.args.fields.now in
    let same = ap length (all g (goal.at.returns-clause-fewer g c).After-sort_unstable_by_key) in
    let kept = length_permutation old c.sort_unstable_by_key.new.self.items c.sort_unstable_by_key.ensures.permutation in
    omega arith

-- one row more: it is kept where it is live
row_kept : (rows kept : List FieldRow) (i : ℕ) (d : FieldRow) → i < length rows → kept ≡ filter (λ r. is_live (field_of r)) (take i rows) → (get_or rows i d).deprecated ≡ false → kept ++ get_or rows i d ∷ [] ≡ filter (λ r. is_live (field_of r)) (take (i + 1) rows)
row_kept rows kept i d lt before live =
    let test = λ (r : FieldRow). is_live (field_of r) in
    let row = get_or rows i d in
    ap (λ k. k ++ row ∷ []) before ∙ sym (filter_more test rows i d lt ∙ ap (λ b. filter test (take i rows) ++ cond (not b) (row ∷ []) []) live)

row_left : (rows kept : List FieldRow) (i : ℕ) (d : FieldRow) → i < length rows → kept ≡ filter (λ r. is_live (field_of r)) (take i rows) → (get_or rows i d).deprecated ≡ true → kept ≡ filter (λ r. is_live (field_of r)) (take (i + 1) rows)
row_left rows kept i d lt before dead =
    let test = λ (r : FieldRow). is_live (field_of r) in
    let row = get_or rows i d in
    before ∙ sym (append-nil (filter test (take i rows))) ∙ sym (filter_more test rows i d lt ∙ ap (λ b. filter test (take i rows) ++ cond (not b) (row ∷ []) []) dead)

pub loop-field-preserved : goal.loop-field-preserved
loop-field-preserved g c = elim c.if-not-field.branch [
  | then-not-field+in_ok-push w ↦ ap (λ v. v.items) w.live-is ∙ w.in_ok-push.ensures.items ∙ row_kept c.args.fields.now c.loop-field.live.items c.loop-field.field-index _ c.loop-field-test.true c.loop-field.invariant w.if-not-field.true
  | else-not-field w ↦ ap (λ v. v.items) w.live-is ∙ row_left c.args.fields.now c.loop-field.live.items c.loop-field.field-index _ c.loop-field-test.true c.loop-field.invariant w.if-not-field.false
]
