-- The pointer has another type, and the same memory.
use Rattle.std.proofs.Common.{◌≡◌, List, [], ◌∷◌, ◌++◌, refl, sym, subst, Some}
use mir.Val.{Val, vptr}
use base.{Logic.SProp, Logic.ent, Logic.emp, Logic.id⊢, Fml.ftrue}
use prog.Wp.{WpFn}
use types.Kit.{‵, raw, ◌⊛◌, ◌$◌, ◌∵◌, !, qed, by, move, keep, split, fsplit, fjoin, suffices, use0}
use types.Run.{stop, fld, of_opd, no_more, and_then, returns, enter}
use types.{ByLocal.alloc_all, ByLocal.pass_all, ByLocal.free_all, ByLocal.look_at, ByLocal.get, ByLocal.get_in, ByLocal.sets, Part.agg, Part.sub, Part.whole}
use contract.{Monad.fact, Monad.fact_i, Running.tables}
use denote.{Exit.no, RattleType.RattleType, RattleType.owns, Signature.types_at, Signature.plain, RawPtr.block_ptr, Steps.nothing}
use denote.Triple.Walked.{Stays, stay_dropped, walk_of, Goes-dropped}
use Rattle.std.proofs.raw_atomic.Walks.{proved_at, leaves}
use Rattle.std.specs.contracts.impls.GlobalAllocator.TheImpl.{ghosts}
use Rattle.fbcheck_calls.proofs.{Owned.pair, Owned.Apart, Owned.apart_good, Owned.apart_out, Owned.handle_in, Owned.Inside, Owned.Z, Owned.LZ, handle.Handle.holding.Statement.statement}
use Rattle.fbcheck_calls.proofs.handle.Handle.holding.Code as code
use Rattle.fbcheck_calls.specs.contracts.handle.Handle.holding.{ended, clauses, Key.name as #self}

pub holding_spec : {M : Type 1} → statement M
holding_spec 𝓤 𝓛 𝓜 𝓡 wired =
    let 𝓣 = tables 𝓤 𝓛.H 𝓜 𝓡 𝓡.env in let c = clauses 𝓛 𝓜.mem 𝓡.returns in let fn = code.function in let D : RattleType = Apart Inside Z LZ ghosts in
    let stays : Stays ended.signature.params ended.kept = (stay_dropped (plain (λ _. D)) no, tt) in
    proved_at 𝓛 ended stays c 𝓜 𝓡 (Goes-dropped 𝓛 0 (plain (λ _. D)) no (λ κs x f. refl), tt) #self fn (code.unfolded 𝓤 𝓛.H 𝓜 𝓡 wired) (λ z are.
    let κs = z.0.0 in let v = z.0.3.0 in let a = v.alloc in
    let Post : Val → SProp 𝓤 = (walk_of 𝓛 ended stays c).post z in let Run : List Val → SProp 𝓤 = λ ws. WpFn 𝓤 𝓛.H 𝓣.C 𝓣.Λ fn ws Post in
    qed 𝓛 ((‵ ftrue ⊛ ‵ (owns (types_at ended.signature.params κs) z.0.3 z.0.4)) ∷ raw ((c κs z.0.3).requires z.1) ∷ []) ∵
    split ! $ move ! (1 ∷ []) $ fsplit ! $ apart_out Inside Z LZ ghosts ! v z.0.4.0 (λ b o h e ws good.
    let w : Val = pair (vptr b o) h in let typed = apart_good Inside Z LZ ghosts b o h good in
    suffices ! (Run (w ∷ [])) (subst (λ (us : List Val). ent 𝓤 (Run (w ∷ [])) (Run us)) (sym (λ i. ws i ++ [])) (id⊢ 𝓤 (Run (w ∷ [])))) $
    enter ! 𝓣.C 𝓣.Λ fn (w ∷ []) Post $ alloc_all ! (λ l. pass_all ! refl (typed, tt) $
    sets ! (of_opd ! (get_in ! (fld ! refl (stop !)) (sub ! 0 refl (whole !)))) refl (tt, tt) $ sets ! (of_opd ! (get_in ! (fld ! refl (stop !)) (sub ! 1 refl (whole !)))) refl good $
    sets ! (of_opd ! (get ! refl)) refl (tt, tt) $ sets ! (agg ! (and_then ! (get ! refl) (and_then ! (get ! refl) (no_more !)))) refl typed $
    handle_in ! (block_ptr b o) h a (Some v.value) $
    use0 𝓛 (raw (fact 𝓤 (Some v.value ≡ Some v.value))) (fact_i 𝓤 (Some v.value ≡ Some v.value) (emp 𝓤) refl) $ nothing ! $ nothing ! $ fjoin ! $
    returns ! (look_at ! 0 refl) $ free_all ! refl $ keep ! (4 ∷ 0 ∷ 2 ∷ 1 ∷ []) $
    by ! (leaves 𝓛 ended stays c z w (record { at = block_ptr b o; alloc = a; inside = Some v.value }) (tt, tt) (tt, tt)))))
