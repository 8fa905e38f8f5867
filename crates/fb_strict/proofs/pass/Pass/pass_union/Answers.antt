use Rattle.std.proofs.Common.{◌≡◌, ◌⊎◌, inl, inr, ℕ, List, Option, Some, None, refl, sym, ap, subst, ◌∙◌}
use Rattle.std.specs.Prelude.{IsSome}
use Rattle.fb_bytes.specs.Word.{Lent}
use Rattle.fb_schema.specs.{declared.kinds.Kind.Kind, Rows.Rows, Targets.kind_to}
use Rattle.fb_rules.specs.{declared.offset_row.Row.Row, declared.offset_row.Referent.Referent, declared.offset_row.Referent.TheVariants.Nothing, Plain.place_from, Plain.IsTested}
use Rattle.fb_rules.specs.{Places.field_place, Fields.type_place}
use Rattle.fb_strict.specs.{declared.tasks.Ask.TheVariants.Union as AskUnion, declared.demands.Demands.Demands, Planned.Planned, Skipped.Wants, InOrder.where_asked}
use Rattle.fb_strict.specs.{InOrder.member_at, InOrder.union_failure, InOrder.union_reads, Asked.asked_referent, Passing.Passing, Passing.wants_of, Passing.word_row}
use Rattle.fb_strict.specs.Passing.{task_row}
use Rattle.fb_strict.proofs.Answered.{tested_after, failed_none, nothing_after, place_is}
use Rattle.fb_strict.proofs.pass.Pass.pass_union.Goals as goal

-- a member that refers to something is one
no_member : (w : Wants) (member : Option Kind) → IsSome member ⊎ (asked_referent w member ≡ Nothing)
no_member w None = inr refl
no_member w (Some kind) = inl refl

module _ (w : Wants) (b : List ℕ) (S : Rows) (types : Option ℕ) (e : ℕ) (old : Row) (t value : ℕ) where
  -- nothing is put where nothing is asked
  no_place : (at at' : ℕ) (r : Referent) → r ≡ Nothing → word_row at r old ≡ word_row at' r old
  no_place at at' r is = rw is refl

  puts : (at : ℕ) (q : Option ℕ) → place_from t value ≡ q → (member : Option Kind) → member ≡ member_at b S e types q → (IsSome member → at ≡ value) → (past : Row) → past ≡ word_row at (asked_referent w member) old → past ≡ task_row w b S types q (AskUnion e) old
  puts at None is member same place past row = row ∙ ap (λ o. word_row at (asked_referent w o) old) same
  puts at (Some p) is member same place past row =
      let there : word_row at (asked_referent w member) old ≡ word_row p (asked_referent w member) old = elim (no_member w member) [
        | inl some ↦ ap (λ x. word_row x (asked_referent w member) old) (place some ∙ sym (place_is t value p is))
        | inr none ↦ no_place at p (asked_referent w member) none
      ] in
      row ∙ there ∙ ap (λ o. word_row p (asked_referent w o) old) same

-- src/pass.rt
pub returns : goal.returns
returns g c =
    let m = c.args.reads.now in
    let mid = c.read_places-places.new.reads in
    let p = c.read_places-places.ensures.places in
    let u = c.test_union-failed in
    let checks = ap (λ (x : Passing). x.checks) c.self.view_is in
    let rows = ap (λ (x : Passing). x.rows) c.self.view_is in
    let bytes = ap (λ (x : Lent). x.bytes) c.read_places-places.ensures.counted in
    let t = c.args.table.at in
    let o = type_place m.bytes t c.args.slot in
    let q = field_place m.bytes t c.args.slot in
    let e = c.args.union in
    let k = c.args.self.now in
    let x = (k.plan).demands.unions in
    let plan = ap (λ (x : Passing). x.plan) c.self.view_is in
    let asked = ap (λ (D : Demands). D.unions) c.demands-asked.ensures ∙ ap (λ (q : Planned). q.demands.unions) plan in
    let tested = subst (λ (b : List ℕ). IsTested mid u.new.reads u.new.at (where_asked x (union_failure k.checks b k.rows e t o q)) (union_reads x b k.rows e o q) u.result) bytes (rw (p.types, p.value, checks, rows, asked) at u.ensures.tested) in
    let a = c.in_ok-answer.ensures m _ _ (tested_after m mid u.new.reads u.new.at _ _ _ u.result c.read_places-places.ensures.counted tested) in
    let none = failed_none mid u.new.reads u.new.at _ u.result _ tested (nothing_after _ _ a.ok) in
    record {
      asked = a;
      row = puts (wants_of k) m.bytes k.rows o e c.args.row.now t c.read_places-places.result.value u.new.at q p.value (kind_to u.new.target) (rw (p.types, p.value, bytes, rows) at (u.ensures.member none)) (u.ensures.place none) _
          (c.put_word.ensures ∙ ap (λ r. word_row u.new.at r c.args.row.now) c.asked_referent.ensures);
    }
