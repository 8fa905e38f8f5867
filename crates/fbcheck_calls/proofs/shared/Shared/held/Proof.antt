-- The pointer leads to what is lent, and it is lent for ever.
use Rattle.std.proofs.Common.{◌≡◌, List, [], ◌∷◌, ◌++◌, refl, sym, ap, ◌∙◌, subst}
use mir.Val.{Val, vptr, vstruct, vcons, vnil, of_list}
use base.{Logic.SProp, Logic.ent, Logic.emp, Logic.never, Logic.id⊢, Logic.fst∗, Fml.ftrue}
use prog.Wp.{WpFn}
use types.{Logic.sem, Kit.‵, Kit.raw, Kit.◌⊛◌, Kit.at_ret, Kit.◌$◌, Kit.◌∵◌, Kit.!, Kit.qed, Kit.by, Kit.move, Kit.keep, Kit.drop, Kit.split, Kit.fsplit, Kit.fjoin, Kit.fpick, Kit.suffices}
use types.{Kit.use0, Kit.feq_i, Kit.feq_l, Run.stop, Run.fld, Run.of_opd, Run.addr, Run.first, Run.blocks, Run.exec, Run.returns, Run.enter, ByLocal.alloc_all, ByLocal.pass_all}
use types.{ByLocal.free_all, ByLocal.look_at, ByLocal.get, ByLocal.get_in, ByLocal.through, ByLocal.sets, ByLocal.sets_last, ByLocal.env, Part.sub, Part.whole}
use contract.{Monad.fact, Monad.fact_i, Running.tables}
use denote.{Exit.yes, RattleType.RattleType, RattleType.owns, Memory.shared_of, Signature.types_at, Signature.plain, RawPtr.Ptr, RawPtr.ptr_val, RawPtr.in_a_block, Struct.Lending.lent_at}
use denote.{Steps.nothing, Opens.hide, Triple.Walked.Stays, Triple.Walked.stay_dropped, Triple.Walked.walk_of, Triple.Walked.Goes-dropped}
use Rattle.core.proofs.alloc.Shapes.{after}
use Rattle.std.proofs.raw_atomic.Walks.{proved_at, leaves}
use Rattle.fbcheck_calls.proofs.shared.Shared.held.Code as code
use Rattle.fbcheck_calls.proofs.shared.Shared.held.Statement.{statement}
use Rattle.fbcheck_calls.specs.contracts.shared.Shared as shared
use Rattle.fbcheck_calls.specs.contracts.held.Held as inner
use Rattle.fbcheck_calls.specs.contracts.shared.Shared.held.{ended, clauses, Key.name as #self}

pub held_spec : {M : Type 1} → statement M
held_spec 𝓤 𝓛 𝓜 𝓡 wired =
    let 𝓣 = tables 𝓤 𝓛.H 𝓜 𝓡 𝓡.env in let c = clauses 𝓛 𝓜.mem 𝓡.returns in let fn = code.function in let R : RattleType = inner.the_row in
    let stays : Stays ended.signature.params ended.kept = (stay_dropped (plain (λ _. shared.the_row)) yes, tt) in
    proved_at 𝓛 ended stays c 𝓜 𝓡 (Goes-dropped 𝓛 0 (plain (λ _. shared.the_row)) yes (λ κs x f. refl), tt) #self fn (code.unfolded 𝓤 𝓛.H 𝓜 𝓡 wired) (λ z are.
    let κs = z.0.0 in let v = z.0.3.0 in
    let Post : Val → SProp 𝓤 = (walk_of 𝓛 ended stays c).post z in let Run : List Val → SProp 𝓤 = λ ws. WpFn 𝓤 𝓛.H 𝓣.C 𝓣.Λ fn ws Post in
    qed 𝓛 ((‵ ftrue ⊛ ‵ (owns (types_at ended.signature.params κs) z.0.3 z.0.4)) ∷ raw ((c κs z.0.3).requires z.1) ∷ []) ∵
    split ! $ move ! (1 ∷ []) $ fsplit ! $
    fsplit ! $ fpick ! (λ vss. fsplit ! $ feq_l ! (λ all. fsplit ! $ feq_l ! (λ front. drop ! $
    in_a_block ! v.at (λ p. lent_at R p v.held []) (fst∗ 𝓤 (never 𝓤) (sem 𝓛 (shared_of R v.held 0 0 []))) (λ b o e. fsplit ! $ drop ! $ hide ! $
    let w : Val = vstruct (vcons (vptr b o) vnil) in let r : Val = vptr b o in
    let word : z.0.4.0 ≡ w ∷ [] = all ∙ (λ j. vstruct (of_list ((front ∙ ap (λ (p : Ptr). ptr_val p ∷ []) e) j ++ [])) ∷ []) in
    suffices ! (Run (w ∷ [])) (subst (λ (us : List Val). ent 𝓤 (Run (w ∷ [])) (Run us)) (sym (λ i. word i ++ [])) (id⊢ 𝓤 (Run (w ∷ [])))) $
    enter ! 𝓣.C 𝓣.Λ fn (w ∷ []) Post $ alloc_all ! (λ l. pass_all ! refl ((tt, (tt, tt)), tt) $ let En = env fn.locals l in
    sets ! (of_opd ! (get_in ! (fld ! refl (stop !)) (sub ! 0 refl (whole !)))) refl (tt, tt) $ first ! $ blocks ! $
    sets ! (of_opd ! (get ! refl)) refl (tt, tt) $
    sets_last ! (addr ! (through ! refl (stop !))) refl (tt, tt) $ exec ! 𝓣.C 𝓣.Λ En (after 2 fn.body) (at_ret En Post) $ sets ! (of_opd ! (get ! refl)) refl (tt, tt) $
    feq_i ! (List Val) (r ∷ []) (r ∷ []) refl $ fjoin ! $
    use0 𝓛 (raw (fact 𝓤 (v.held ≡ v.held))) (fact_i 𝓤 (v.held ≡ v.held) (emp 𝓤) refl) $ nothing ! $ nothing ! $ fjoin ! $
    returns ! (look_at ! 0 refl) $ free_all ! refl $ keep ! (4 ∷ 0 ∷ 2 ∷ 1 ∷ []) $
    by ! (leaves 𝓛 ended stays c z r (record { ref_ptr = (b, o); now = v.held }) (tt, tt) (tt, tt))))))))
