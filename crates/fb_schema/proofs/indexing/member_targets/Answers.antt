use Rattle.std.proofs.Common.{◌≡◌, true, false, sym, ◌∙◌}
use Rattle.fb_schema.proofs.indexing.member_targets.Goals as goal
use Rattle.fb_schema.proofs.indexing.member_targets.Goals.{then-is_union+in_ok-put_targets, else-is_union}

pub returns : goal.returns
returns g c = elim c.if-is_union.branch [
  | then-is_union+in_ok-put_targets w ↦ λ union clear. rw w.found-is (w.in_ok-put_targets.ensures c.args.members.now (record {
    clear = clear;
    rise = rw w.deref.ensures.value c.in_ok-values.ensures;
    are = w.deref-then-is_union.ensures.value ∙ c.in_ok-kinds.ensures;
  }))
  | else-is_union w ↦ λ union clear. absurd (let e : true ≡ false = sym union ∙ w.if-is_union.false in cc)
]
