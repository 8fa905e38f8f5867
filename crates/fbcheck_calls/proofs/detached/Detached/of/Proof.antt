-- The box gives up its pointer and its allocator, and what it owned is now the pair's.
use Rattle.std.proofs.Common.{◌≡◌, List, [], ◌∷◌, ◌++◌, refl, sym, ap, ◌∙◌, subst}
use mir.{Syntax.Args, Syntax.a_type, Syntax.dcons, Syntax.dnil, Raw.raw as bare, Val.Val, Val.vptr, Val.vstruct, Val.of_list, MapTy.inst_fn}
use base.{Logic.SProp, Logic.ent, Logic.emp, Logic.never, Logic.id⊢, Logic.fst∗, Fml.ftrue, Fml.fsep, Fml.flft}
use prog.Wp.{WpFn}
use types.{Logic.sem, Kit.‵, Kit.raw, Kit.◌⊛◌, Kit.some, Kit.later, Kit.◌$◌, Kit.◌∵◌, Kit.!, Kit.qed, Kit.by, Kit.move, Kit.keep, Kit.drop, Kit.split, Kit.split3, Kit.join, Kit.fsplit}
use types.{Kit.fjoin, Kit.fpick, Kit.pick, Kit.suffices, Kit.use0, Kit.use1, Kit.await, Kit.rewrite, Kit.feq_l, Run.stop, Run.fld, Run.of_opd, Run.no_more, Run.and_then, Run.returns}
use types.{Run.enter, ByLocal.alloc_all, ByLocal.pass_all, ByLocal.free_all, ByLocal.look_at, ByLocal.get, ByLocal.get_in, ByLocal.sets, ByLocal.lands_as, Part.agg, Part.sub, Part.whole}
use contract.{Monad.fact, Monad.fact_i, Running.tables}
use denote.{Exit.no, RattleType.RattleType, RattleType.owns, Signature.types_at, Signature.plain, Builtin.RawPtr}
use denote.{RawPtr.Ptr, RawPtr.block_ptr, RawPtr.null_ptr, RawPtr.ptr_val, RawPtr.in_a_block, Steps.nothing, Steps.only, Steps.heard, Param.param, Param.layout, Param.bounded}
use denote.{Param.Laws.param_laws, Struct.Tuple.Tuple, Triple.Spec.triple_of, Triple.Call.calls_at, Triple.Walked.Stays, Triple.Walked.stay_dropped, Triple.Walked.walk_of}
use Rattle.core.proofs.{alloc.Calls.Goes-blank, alloc.Calls.handle_tells, atomic.Steps.fm}
use Rattle.std.proofs.raw_atomic.Walks.{proved_at, leaves}
use Rattle.std_alloc.proofs.BoxSteps.Form as box
use Rattle.std_alloc.proofs.{BoxSteps.Steps.box_out, BoxSteps.Steps.box_in, boxed.Box.into_raw_with_allocator.Met.met}
use Rattle.std_alloc.specs.Box.Ownership.{box_owns}
use Rattle.std_alloc.specs.contracts.boxed.Box.into_raw_with_allocator as callee
use Rattle.fbcheck_calls.proofs.{Owned.pair, Owned.apart_good, Owned.apart_in, detached.Detached.of.Statement.statement}
use Rattle.fbcheck_calls.proofs.detached.Detached.of.Code as code
use Rattle.fbcheck_calls.specs.contracts.detached.Detached.of.{ended, clauses, Key.name as #self}

pub of_spec : {M : Type 1} → statement M
of_spec 𝓤 𝓛 𝓜 𝓡 wired T A L LA g d dx dd allocator glue glued =
    let 𝓣 = tables 𝓤 𝓛.H 𝓜 𝓡 𝓡.env in
    let R : RattleType = param 0 T in let Z : RattleType = param 1 A in let LZ = param_laws 1 A LA in
    let E : box.Bx = record { row = T; laws = L; al = record { row = A; laws = LA; g = g; d = d; drops = dd } } in
    let En = ended T A g d dx dd in let c = clauses T A g d dx dd 𝓛 𝓜.mem 𝓡.returns in
    let inst : Args = bounded (a_type ∷ a_type ∷ []) (T, (A, tt)) (dcons d (dcons dx (dcons dd dnil))) in let fn = inst_fn inst code.function in
    let stays : Stays En.signature.params En.kept = (stay_dropped (plain (λ _. box.B E)) no, tt) in
    proved_at 𝓛 En stays c 𝓜 𝓡 (Goes-blank 𝓛 2 (plain (λ _. box.B E)) no (λ κs x f. tt), tt) (#self inst) fn (code.unfolded 𝓤 𝓛.H 𝓜 𝓡 wired (T, (A, tt)) d dx dd) (λ z are.
    let κs = z.0.0 in let qs = z.0.1 in let v = z.0.3.0 in let a = v.alloc in
    let Post : Val → SProp 𝓤 = (walk_of 𝓛 En stays c).post z in let Run : List Val → SProp 𝓤 = λ ws. WpFn 𝓤 𝓛.H 𝓣.C 𝓣.Λ fn ws Post in
    let tokens = ‵ (flft κs.0 qs.0) ⊛ ‵ (flft κs.1.0 qs.1.0) ⊛ ‵ ftrue in
    qed 𝓛 ((tokens ⊛ ‵ (owns (types_at En.signature.params κs) z.0.3 z.0.4)) ∷ raw ((c κs z.0.3).requires z.1) ∷ []) ∵
    split ! $ move ! (1 ∷ []) $ fsplit ! $ box_out E ! v z.0.4.0 (λ b o h e ws good. box_in E ! v b o v.value e refl $
    let w : Val = box.word E h b o in let typed = apart_good R Z LZ g b o h good in
    let k = triple_of 𝓛 (callee.signature T A g d dd dx) (callee.spec T A g d dd dx 𝓛 𝓜.mem 𝓡.returns) in
    let y : k.Ghost = ((κs, qs, tt, (v, tt), (w ∷ [], tt)), tt) in let Pair = Tuple (RawPtr ∷ Z ∷ []) in
    -- the call
    fjoin ! $ move ! (1 ∷ 0 ∷ []) $ join ! $ join ! $ use1 𝓛 (raw (k.pre y)) (id⊢ 𝓤 _) $
    suffices ! (Run (w ∷ [])) (subst (λ (us : List Val). ent 𝓤 (Run (w ∷ [])) (Run us)) (sym (λ i. ws i ++ [])) (id⊢ 𝓤 (Run (w ∷ [])))) $
    enter ! 𝓣.C 𝓣.Λ fn (w ∷ []) Post $ alloc_all ! (λ l. pass_all ! refl (typed, tt) $ sets ! (of_opd ! (get ! refl)) refl typed $
    calls_at ! (fm 𝓛 𝓜 𝓡) k (met 𝓤 𝓛 𝓜 𝓡 (code.calls-std_alloc::boxed::Box::into_raw_with_allocator 𝓡.env wired) T A L LA g d dd dx allocator glued glue) y (and_then ! (get ! refl) (no_more !)) (λ u.
    use1 𝓛 (later (some (λ (r : Ptr × A.Denot). (tokens ⊛ ‵ (Pair.own_val r (u ∷ []))) ⊛ some (λ (_ : (Unit {0} × (Unit {0} × Unit {0})) × Unit {0}).
    ‵ (fsep (fsep ftrue (fsep ftrue ftrue)) ftrue) ⊛ (raw (fact 𝓤 (r.1 ≡ a)) ⊛ ‵ (box_owns (g.dealloc_token a) R r.0 v.value)))))) (id⊢ 𝓤 _) $
    await ! tt $ pick ! (λ r. split ! $ move ! (1 ∷ []) $ pick ! (λ _. split3 ! $ drop ! $ heard ! (r.1 ≡ a) (λ same.
    -- the pointer is in a block, and the result of the call is a pair of it and the allocator
    in_a_block ! r.0 (λ p. box_owns (g.dealloc_token a) R p v.value) (fst∗ 𝓤 (never 𝓤) (sem 𝓛 (g.dealloc_token a (bare (layout T)) null_ptr))) (λ b' o' at.
    move ! (1 ∷ []) $ split ! $ move ! (1 ∷ []) $ fpick ! (λ vss. fsplit ! $ feq_l ! (λ all. fsplit ! $ feq_l ! (λ front. fsplit ! $
    rewrite ! 0 (λ (s : A.Denot). ‵ (A.own_val s vss.1.0)) same refl $ handle_tells E.al ! a vss.1.0 (λ h' back good'.
    let made = apart_good R Z LZ g b' o' h' good' in
    lands_as ! (ap only (all ∙ (λ j. vstruct (of_list ((front ∙ ap (λ (p : Ptr). ptr_val p ∷ []) at) j ++ (back j ++ []))) ∷ []))) refl made $
    sets ! (of_opd ! (get_in ! (fld ! refl (stop !)) (sub ! 0 refl (whole !)))) refl (tt, tt) $ sets ! (of_opd ! (get_in ! (fld ! refl (stop !)) (sub ! 1 refl (whole !)))) refl good' $
    -- the struct
    sets ! (of_opd ! (get ! refl)) refl good' $ sets ! (agg ! (and_then ! (get ! refl) (and_then ! (get ! refl) (no_more !)))) refl made $
    move ! (3 ∷ 0 ∷ []) $ apart_in R Z LZ g ! b' o' h' a v.value $
    use0 𝓛 (raw (fact 𝓤 (v.value ≡ v.value))) (fact_i 𝓤 (v.value ≡ v.value) (emp 𝓤) refl) $ nothing ! $ nothing ! $ fjoin ! $
    returns ! (look_at ! 0 refl) $ free_all ! refl $ keep ! (4 ∷ 0 ∷ 2 ∷ 1 ∷ []) $
    by ! (leaves 𝓛 En stays c z (pair (vptr b' o') h') (record { at = block_ptr b' o'; alloc = a; value = v.value }) ((tt, (tt, tt)), tt) (tt, tt))))))))))))))
