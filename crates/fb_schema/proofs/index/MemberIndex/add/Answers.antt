use Rattle.std.proofs.Common.{◌≡◌, ◌∷◌, [], ◌++◌, ℕ, slice_index_or, slice_get, Some, None, map, refl, subst, ◌∙◌, ap}
use Rattle.fb_schema.specs.{Flat.part, FlatLists.lists_of, Index.kept_members, FlatRows.borrowed_rows, Rows.member_of_row, Targets.AreTargets, Demands.first_code}
use Rattle.fb_schema.specs.{Demands.members_asked, Sorting.IsOrderOf, Sorting.member_cmp, Sorting.member_key}
use Rattle.std.proofs.lemmas.Option.{slice_get-get_or}
use Rattle.fb_schema.proofs.{Blank.blank_enum, Numbers.get_or_default, TargetLemmas.have_step, UnionLemmas.members_clear, IndexLemmas.on_ok, IndexLemmas.with_made}
use Rattle.fb_schema.proofs.IndexLemmas.{matched_step}
use Rattle.fb_schema.proofs.index.MemberIndex.add.Goals as goal

pub returns : goal.returns
returns g c =
    let rows = borrowed_rows c.args.rows.now in
    let all = c.args.rows.now.members.now in
    let enums = c.args.rows.now.enums.now in
    let i = c.args.n in
    let row = slice_index_or enums i blank_enum in
    let index = c.args.self.now in
    let lt = c.requires.here in
    let is = get_or_default enums i blank_enum row lt in
    let there : slice_get enums i ≡ Some row = slice_get-get_or enums i blank_enum lt in
    let list = part all row.members in
    let found = c.in_ok-found.found in
    let kept : c.kept_members-members.result.now ≡ kept_members row.is_union list = c.kept_members-members.ensures.value ∙ ap (kept_members row.is_union) c.part.ensures.value in
    on_ok c.push-2.result _ _ (λ last. record {
      targets = have_step rows all enums i row (lists_of index.places) _ (lists_of index.targets) _ found.places.items found.targets.items lt is c.requires.before.targets
          (c.in_ok-push.ensures ∙ ap (λ xs. lists_of index.places ++ xs ∷ []) c.deref.ensures.value) (last ∙ ap (λ xs. lists_of index.targets ++ xs ∷ []) c.deref-2.ensures.value)
          (λ union. subst (λ ms. ((q : ℕ) → first_code (members_asked rows (map member_of_row ms) q) ≡ None) → AreTargets rows (map member_of_row ms) found.places.items found.targets.items) (kept ∙ ap (λ b. kept_members b list) union)
          (c.in_ok-found.ensures union) (members_clear rows all enums refl c.requires.legal i row there union));
      names = with_made c.in_order.result _ _ _ c.in_ok-push_made.ensures c.in_order.ensures
          (λ order more are. matched_step (λ row order. IsOrderOf member_cmp (map member_key (kept_members row.is_union (part all row.members))) order) enums i row (lists_of index.names) _ order.items lt is c.requires.before.names
          more (subst (λ ms. IsOrderOf member_cmp (map member_key ms) order.items) kept are));
    }) c.push-2.ensures
