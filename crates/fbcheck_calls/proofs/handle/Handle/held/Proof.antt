-- The pointer is tested against null, as the right to free its block allows.
use Rattle.std.proofs.Common.{◌≡◌, List, [], ◌∷◌, ◌++◌, refl, sym, ap, ◌∙◌, subst, lit<, Some, None, option_map}
use mir.Val.{Val, vptr, vcons, vnil}
use base.{Logic.SProp, Logic.ent, Logic.emp, Logic.id⊢, Fml.ftrue}
use prog.Wp.{WpFn}
use types.Kit.{‵, raw, ◌⊛◌, at_ret, ◌$◌, ◌∵◌, !, qed, by, move, keep, split, fsplit, fjoin, suffices, use0, use1}
use types.{Run.stop, Run.fld, Run.lit, Run.of_opd, Run.bin, Run.no_more, Run.and_then, Run.first, Run.branches, Run.exec, Run.returns, Run.enter, ByLocal.alloc_all, ByLocal.pass_all}
use types.{ByLocal.free_all, ByLocal.look_at, ByLocal.get, ByLocal.get_in, ByLocal.sets, ByLocal.sets_last, ByLocal.env, Part.agg, Part.sub, Part.whole, Match.live}
use contract.{Monad.fact, Monad.fact_i, Running.tables}
use denote.{Exit.yes, RattleType.RattleType, RattleType.owns, Signature.types_at, Signature.type_at, Signature.plain, RawPtr.Ptr, RawPtr.block_ptr, RawPtr.null_ptr, RawPtr.ptr_val}
use denote.{RawPtr.tests_null, Steps.nothing, Param.layout, Triple.Walked.Stays, Triple.Walked.stay_dropped, Triple.Walked.walk_of, Triple.Walked.Goes-dropped}
use Rattle.core.proofs.{alloc.Shapes.after, atomic.Steps.Ptr-Good, cell.Inside.Good, option.Made.Some-of, option.Made.none_of}
use Rattle.std.proofs.raw_atomic.Walks.{proved_at, leaves}
use Rattle.std.specs.contracts.impls.GlobalAllocator.TheImpl.{ghosts}
use Rattle.std_alloc.proofs.ResultValues.{and_tt}
use Rattle.fbcheck_calls.proofs.Owned.{pair, Apart, apart_good, apart_in, handle_good, handle_out, either_kept, Inside, Z, LZ}
use Rattle.fbcheck_calls.proofs.handle.Handle.held.Statement.{statement}
use Rattle.fbcheck_calls.proofs.handle.Handle.held.Code as code
use Rattle.fbcheck_calls.specs.contracts.handle.Handle as handle
use Rattle.fbcheck_calls.specs.contracts.handle.Handle.held.{ended, clauses, Key.name as #self}

pub held_spec : {M : Type 1} → statement M
held_spec 𝓤 𝓛 𝓜 𝓡 wired =
    let 𝓣 = tables 𝓤 𝓛.H 𝓜 𝓡 𝓡.env in let c = clauses 𝓛 𝓜.mem 𝓡.returns in let fn = code.function in let D : RattleType = Apart Inside Z LZ ghosts in
    let stays : Stays ended.signature.params ended.kept = (stay_dropped (plain (λ _. handle.the_row)) yes, tt) in
    proved_at 𝓛 ended stays c 𝓜 𝓡 (Goes-dropped 𝓛 0 (plain (λ _. handle.the_row)) yes (λ κs x f. refl), tt) #self fn (code.unfolded 𝓤 𝓛.H 𝓜 𝓡 wired) (λ z are.
    let κs = z.0.0 in let v = z.0.3.0 in let a = v.alloc in let Out : RattleType = type_at ended.signature.result κs in
    let Post : Val → SProp 𝓤 = (walk_of 𝓛 ended stays c).post z in let Run : List Val → SProp 𝓤 = λ ws. WpFn 𝓤 𝓛.H 𝓣.C 𝓣.Λ fn ws Post in
    let at_word : (w : Val) → z.0.4.0 ≡ w ∷ [] → ent 𝓤 (Run (w ∷ [])) (Run (z.0.4.0 ++ [])) = λ w e. subst (λ (us : List Val). ent 𝓤 (Run (w ∷ [])) (Run us)) (sym (λ i. e i ++ [])) (id⊢ 𝓤 (Run (w ∷ []))) in
    qed 𝓛 ((‵ ftrue ⊛ ‵ (owns (types_at ended.signature.params κs) z.0.3 z.0.4)) ∷ raw ((c κs z.0.3).requires z.1) ∷ []) ∵
    split ! $ move ! (1 ∷ []) $ fsplit ! $ handle_out ! v z.0.4.0 (λ h is good. either_kept ! a v.inside v.at
    -- nothing is held: the pointer is null
    (λ none null. let w : Val = pair (ptr_val null_ptr) h in let result : Val = live 0 vnil in let fits : Good (layout Out) result = (tt, (record { fits = lit< tt }, tt)) in
    suffices ! (Run (w ∷ [])) (at_word w (is ∙ ap (λ (p : Ptr). pair (ptr_val p) h ∷ []) null)) $
    enter ! 𝓣.C 𝓣.Λ fn (w ∷ []) Post $ alloc_all ! (λ l. pass_all ! refl (handle_good null_ptr h good, tt) $ let Ev = env fn.locals l in
    sets ! (of_opd ! (get_in ! (fld ! refl (stop !)) (sub ! 0 refl (whole !)))) refl (Ptr-Good null_ptr) $ sets ! (of_opd ! (get_in ! (fld ! refl (stop !)) (sub ! 1 refl (whole !)))) refl good $
    sets ! (bin ! (get ! refl) (lit ! tt) tt) refl (tt, tt) $ first ! $ branches ! (get ! refl)
    (λ _. sets_last ! (agg ! (and_then ! (lit ! tt) (no_more !))) refl fits $ exec ! 𝓣.C 𝓣.Λ Ev (after 4 fn.body) (at_ret Ev Post) $ sets ! (of_opd ! (get ! refl)) refl fits $
    use0 𝓛 (raw (fact 𝓤 (option_map (λ (d : D.Denot). d.value) None ≡ v.inside))) (fact_i 𝓤 _ (emp 𝓤) (sym none)) $
    use0 𝓛 (‵ (Out.own_val None (result ∷ []))) (none_of 𝓛 D) $ nothing ! $ nothing ! $ fjoin ! $
    returns ! (look_at ! 0 refl) $ free_all ! refl $ keep ! (4 ∷ 0 ∷ 1 ∷ 2 ∷ []) $ by ! (leaves 𝓛 ended stays c z result None (tt, tt) (tt, tt)))
    (λ wrong. absurd wrong)))
    -- something is held: the pointer is that of its box
    (λ b o x some at tests. let w : Val = pair (vptr b o) h in let made : Val = pair (vptr b o) h in let result : Val = live 1 (vcons made vnil) in
    let typed = apart_good Inside Z LZ ghosts b o h good in let d : D.Denot = record { at = block_ptr b o; alloc = a; value = x } in
    let fits : Good (layout Out) result = (and_tt _ typed.0, (record { fits = lit< tt }, (typed.1, tt))) in
    suffices ! (Run (w ∷ [])) (at_word w (is ∙ ap (λ (p : Ptr). pair (ptr_val p) h ∷ []) at)) $
    enter ! 𝓣.C 𝓣.Λ fn (w ∷ []) Post $ alloc_all ! (λ l. pass_all ! refl (typed, tt) $ let Ev = env fn.locals l in
    sets ! (of_opd ! (get_in ! (fld ! refl (stop !)) (sub ! 0 refl (whole !)))) refl (tt, tt) $ sets ! (of_opd ! (get_in ! (fld ! refl (stop !)) (sub ! 1 refl (whole !)))) refl good $
    sets ! (bin ! (get ! refl) (lit ! tt) (tests_null (block_ptr b o) tests)) refl (tt, tt) $ first ! $ branches ! (get ! refl)
    (λ wrong. absurd wrong)
    (λ _. sets ! (of_opd ! (get ! refl)) refl (tt, tt) $ sets ! (agg ! (and_then ! (get ! refl) (and_then ! (get ! refl) (no_more !)))) refl typed $
    sets_last ! (agg ! (and_then ! (lit ! tt) (and_then ! (get ! refl) (no_more !)))) refl fits $ exec ! 𝓣.C 𝓣.Λ Ev (after 4 fn.body) (at_ret Ev Post) $ sets ! (of_opd ! (get ! refl)) refl fits $
    apart_in Inside Z LZ ghosts ! b o h a x $ use1 𝓛 (‵ (Out.own_val (Some d) (result ∷ []))) (Some-of 𝓛 D d made) $
    use0 𝓛 (raw (fact 𝓤 (Some x ≡ v.inside))) (fact_i 𝓤 (Some x ≡ v.inside) (emp 𝓤) (sym some)) $ nothing ! $ nothing ! $ fjoin ! $
    returns ! (look_at ! 0 refl) $ free_all ! refl $ keep ! (3 ∷ 0 ∷ 2 ∷ 1 ∷ []) $ by ! (leaves 𝓛 ended stays c z result (Some d) (tt, tt) (tt, tt)))))))
