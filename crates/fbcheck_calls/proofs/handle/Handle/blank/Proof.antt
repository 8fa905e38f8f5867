-- A pointer that leads nowhere, which owns nothing.
use Rattle.std.proofs.Common.{◌≡◌, List, [], ◌∷◌, ◌++◌, refl, sym, subst, None}
use mir.Val.{Val}
use base.{Logic.SProp, Logic.ent, Logic.emp, Logic.id⊢, Fml.ftrue}
use prog.Wp.{WpFn}
use types.Kit.{‵, raw, ◌⊛◌, ◌$◌, ◌∵◌, !, qed, by, move, keep, split, fsplit, fjoin, suffices, use0, use1, feq_i, feq_l}
use types.{Run.no_more, Run.and_then, Run.returns, Run.enter, ByLocal.alloc_all, ByLocal.pass_all, ByLocal.free_all, ByLocal.look_at, ByLocal.get, ByLocal.sets, Part.agg}
use contract.{Monad.fact, Monad.fact_i, Running.tables}
use denote.{Builtin.RawPtr, Exit.yes, RattleType.owns, RawPtr.Ptr, RawPtr.null_ptr, RawPtr.ptr_val, Signature.types_at, Signature.plain, Steps.nothing, Steps.heard}
use denote.Triple.Walked.{Stays, stay_dropped, walk_of, Goes-dropped}
use Rattle.core.proofs.{alloc.Calls.handle_tells, atomic.Steps.Ptr-Good}
use Rattle.std.proofs.raw_atomic.Walks.{proved_at, leaves}
use Rattle.std.specs.contracts.impls.GlobalAllocator.TheImpl.{ghosts}
use Rattle.fbcheck_calls.proofs.{Owned.pair, Owned.al, Owned.handle_good, Owned.handle_in, Owned.Z, Owned.LZ, handle.Handle.blank.Statement.statement}
use Rattle.fbcheck_calls.proofs.handle.Handle.blank.Code as code
use Rattle.fbcheck_calls.specs.contracts.handle.Handle as handle
use Rattle.fbcheck_calls.specs.contracts.handle.Handle.blank.{ended, clauses, Key.name as #self}

pub blank_spec : {M : Type 1} → statement M
blank_spec 𝓤 𝓛 𝓜 𝓡 wired =
    let 𝓣 = tables 𝓤 𝓛.H 𝓜 𝓡 𝓡.env in let c = clauses 𝓛 𝓜.mem 𝓡.returns in let fn = code.function in
    let stays : Stays ended.signature.params ended.kept = (stay_dropped (plain (λ _. RawPtr)) yes, (stay_dropped (plain (λ _. Z)) yes, tt)) in
    proved_at 𝓛 ended stays c 𝓜 𝓡 (Goes-dropped 𝓛 0 (plain (λ _. RawPtr)) yes (λ κs x f. refl), (Goes-dropped 𝓛 0 (plain (λ _. Z)) yes (λ κs x f. refl), tt)) #self fn (code.unfolded 𝓤 𝓛.H 𝓜 𝓡 wired) (λ z are.
    let κs = z.0.0 in let p = z.0.3.0 in let a = z.0.3.1.0 in
    let Post : Val → SProp 𝓤 = (walk_of 𝓛 ended stays c).post z in let Run : List Val → SProp 𝓤 = λ ws. WpFn 𝓤 𝓛.H 𝓣.C 𝓣.Λ fn ws Post in
    qed 𝓛 ((‵ ftrue ⊛ ‵ (owns (types_at ended.signature.params κs) z.0.3 z.0.4)) ∷ raw ((c κs z.0.3).requires z.1) ∷ []) ∵
    move ! (1 ∷ []) $ use1 𝓛 (raw (fact 𝓤 (p ≡ null_ptr))) (id⊢ 𝓤 _) $ heard ! (p ≡ null_ptr) (λ null.
    split ! $ move ! (1 ∷ []) $ fsplit ! $ feq_l ! (λ first. fsplit ! $ handle_tells (al Z LZ ghosts) ! a z.0.4.1.0 (λ h second good.
    suffices ! (Run (ptr_val p ∷ h ∷ [])) (subst (λ (us : List Val). ent 𝓤 (Run (ptr_val p ∷ h ∷ [])) (Run us)) (sym (λ i. first i ++ (second i ++ []))) (id⊢ 𝓤 (Run (ptr_val p ∷ h ∷ [])))) $
    enter ! 𝓣.C 𝓣.Λ fn (ptr_val p ∷ h ∷ []) Post $ alloc_all ! (λ l. pass_all ! refl (Ptr-Good p, (good, tt)) $
    let d : handle.the_row.Denot = record { at = p; alloc = a; inside = None } in
    sets ! (agg ! (and_then ! (get ! refl) (and_then ! (get ! refl) (no_more !)))) refl (handle_good p h good) $
    feq_i ! Ptr p null_ptr null $ handle_in ! p h a None $
    use0 𝓛 (raw (fact 𝓤 (d.inside ≡ d.inside))) (fact_i 𝓤 (d.inside ≡ d.inside) (emp 𝓤) refl) $ nothing ! $ nothing ! $ fjoin ! $ nothing ! $ fjoin ! $
    returns ! (look_at ! 0 refl) $ free_all ! refl $ keep ! (4 ∷ 0 ∷ 2 ∷ 1 ∷ []) $
    by ! (leaves 𝓛 ended stays c z (pair (ptr_val p) h) d (tt, (tt, tt)) (tt, (tt, tt))))))))
