-- What a box that was taken apart, and a handle, are in the machine and own: steps of a walk that take such a value
-- apart (`_out`) and put it together (`_in`). Assumes `Logic`.
use Rattle.std.proofs.Common.{◌≡◌, ℕ, true, List, [], ◌∷◌, ◌++◌, refl, subst, Option, Some, None, ◌&&◌}
use lib.Dec.{T}
use seplogic.Ra.Ura.{Ura}
use mir.{Syntax.impl, Syntax.tnil, Syntax.dnil, Raw.raw as bare, Val.Val, Val.vptr, Val.vstruct, Val.vcons, Val.vnil, Val.of_list, Val.has_ty, Val.WT}
use base.{Logic.ent, Logic.guard, Logic.never, Logic.via, Logic.fst∗, Logic.snd∗, Logic.guard_i, Fraction.full_share}
use types.Logic.{Logic, sem}
use types.Kit.{Item, Goal, Seq, Step, step, ‵, given, ◌$◌, move, drop, use1, learn, fsplit, fjoin, fpick, fpack, feq_i, feq_l}
use contract.Monad.{fact_use}
use denote.{RattleType.RattleType, RattleType.Valss, Builtin.RawPtr, Memory.lone, Param.layout, Param.Laws.Laws, RawPtr.Ptr, RawPtr.block_ptr, RawPtr.null_ptr, RawPtr.ptr_val}
use denote.{RawPtr.in_a_block, RawPtr.lies_at, RawPtr.Testable, Steps.nothing, Struct.Owning.fields, Struct.Owning.shape, Struct.Owning.to, Struct.Struct.within}
use Rattle.core.proofs.{alloc.Calls.Al, alloc.Calls.handle_tells, cell.Inside.Good}
use Rattle.core.specs.declared.alloc.Allocator.{Ghosts}
use Rattle.std_alloc.proofs.ResultValues.{and_tt}
use Rattle.std_alloc.specs.Box.Ownership.{box_owns}
use Rattle.std.proofs.GlobalToken.{dealloc_token-Testable}
use Rattle.std.proofs.alloc.Global.TheLaws as heap_laws
use Rattle.std.specs.contracts.alloc.Global as heap
use Rattle.std.specs.{contracts.impls.GlobalAllocator.TheImpl.ghosts, declared.alloc.Global.Global}
use Rattle.fbcheck_calls.specs.Owns.{held}
use Rattle.fbcheck_calls.specs.contracts.detached.Detached as detached
use Rattle.fbcheck_calls.specs.contracts.handle.Handle as handle
use Rattle.fbcheck_calls.specs.contracts.held.Held as inside

-- a struct of a pointer and an allocator
abbrev pub pair : Val → Val → Val
pair at alloc = vstruct (vcons at (vcons alloc vnil))

-- an allocator by its row, as the steps of a call take it
abbrev pub al : (Z : RattleType) → Laws Z → Ghosts Z.Denot → Al
al Z L g = record { row = Z; laws = L; g = g; d = impl [] tnil dnil; drops = impl [] tnil dnil }

-- ---- a box that was taken apart
module _ (R Z : RattleType) (L : Laws Z) (g : Ghosts Z.Denot) where
  abbrev pub Apart : RattleType
  Apart = detached.the_row R Z g

  -- what the box owns at p
  abbrev boxed : Z.Denot → R.Denot → Ptr → base.Fml.Fml
  boxed a x p = box_owns (g.dealloc_token a) R p x

  pub apart_good : (b o : ℕ) (h : Val) → Good (layout Z) h → T (has_ty (layout Z) h && true) × WT (pair (vptr b o) h)
  apart_good b o h good = (and_tt (has_ty (layout Z) h) good.0, (tt, (good.1, tt)))

  module _ {M : Type 1} {𝓤 : Ura M} {𝓛 : Logic 𝓤} {K : Type 0} {Γ : List (Item 𝓤)} {G : Goal 𝓤 𝓛.H} where
    pub apart_out : K → (d : Apart.Denot) (vs : List Val)
        → ((b o : ℕ) (h : Val) → d.at ≡ block_ptr b o → vs ≡ pair (vptr b o) h ∷ [] → Good (layout Z) h
        → Seq K 𝓛 (‵ (boxed d.alloc d.value (block_ptr b o)) ∷ ‵ (Z.own_val d.alloc (h ∷ [])) ∷ Γ) G)
        → Seq K 𝓛 (‵ (Apart.own_val d vs) ∷ Γ) G
    apart_out t d vs next =
        fsplit t $ fpick t (λ vss. fsplit t $ feq_l t (λ whole. fsplit t $ feq_l t (λ front. fsplit t $
        handle_tells (al Z L g) t d.alloc vss.1.0 (λ h back good. move t (1 ∷ []) $ drop t $ move t (1 ∷ []) $
        in_a_block t d.at (boxed d.alloc d.value) (fst∗ 𝓤 (never 𝓤) (sem 𝓛 (g.dealloc_token d.alloc (bare (lone R.mir)) null_ptr))) (λ b o e.
        let with_front : vs ≡ vstruct (of_list (ptr_val d.at ∷ (vss.1.0 ++ []))) ∷ [] = subst (λ (us : List Val). vs ≡ vstruct (of_list (us ++ (vss.1.0 ++ []))) ∷ []) front whole in
        let with_back : vs ≡ vstruct (of_list (ptr_val d.at ∷ h ∷ [])) ∷ [] = subst (λ (us : List Val). vs ≡ vstruct (of_list (ptr_val d.at ∷ (us ++ []))) ∷ []) back with_front in
        next b o h e (subst (λ (p : Ptr). vs ≡ vstruct (of_list (ptr_val p ∷ h ∷ [])) ∷ []) e with_back) good)))))

    pub apart_in : K → (b o : ℕ) (h : Val) (a : Z.Denot) (x : R.Denot)
        → Step K 𝓛 (‵ (Apart.own_val (record { at = block_ptr b o; alloc = a; value = x }) (pair (vptr b o) h ∷ [])) ∷ Γ) G
        (‵ (boxed a x (block_ptr b o)) ∷ ‵ (Z.own_val a (h ∷ [])) ∷ Γ) G
    apart_in t b o h a x = step (λ next. let v : Val = pair (vptr b o) h in
        nothing t $ move t (2 ∷ 0 ∷ []) $ fjoin t $ feq_i t (List Val) (vptr b o ∷ []) (vptr b o ∷ []) refl $ fjoin t $ feq_i t (List Val) (v ∷ []) (v ∷ []) refl $ fjoin t $
        fpack t (Valss (RawPtr ∷ Z ∷ [])) (within (shape (detached.the_type R Z g)) (block_ptr b o, (a, tt)) (v ∷ [])) (vptr b o ∷ [], (h ∷ [], tt)) $ fjoin t $ next)

-- ---- a handle
abbrev pub Z : RattleType
Z = heap.the_row

abbrev pub LZ : Laws Z
LZ = heap_laws.the_row_laws

abbrev pub Inside : RattleType
Inside = inside.the_row

-- what the box of what is held owns at p
abbrev pub owned : Global → Inside.Denot → Ptr → base.Fml.Fml
owned a x p = box_owns (ghosts.dealloc_token a) Inside p x

-- what a handle owns with a pointer p
abbrev pub kept : Global → Option Inside.Denot → Ptr → base.Fml.Fml
kept a s p = held (ghosts.dealloc_token a) Inside p s

pub handle_good : (p : Ptr) (h : Val) → Good (layout Z) h → Good (layout handle.the_row) (pair (ptr_val p) h)
handle_good (block_ptr b o) h good = (and_tt (has_ty (layout Z) h) good.0, (tt, (good.1, tt)))
handle_good null_ptr h good = (and_tt (has_ty (layout Z) h) good.0, (record { fits = lib.Dec.lit< tt }, (good.1, tt)))

module _ {M : Type 1} {𝓤 : Ura M} {𝓛 : Logic 𝓤} {K : Type 0} {Γ : List (Item 𝓤)} {G : Goal 𝓤 𝓛.H} where
  pub handle_out : K → (d : handle.the_row.Denot) (vs : List Val)
      → ((h : Val) → vs ≡ pair (ptr_val d.at) h ∷ [] → Good (layout Z) h
      → Seq K 𝓛 (‵ (kept d.alloc d.inside d.at) ∷ ‵ (Z.own_val d.alloc (h ∷ [])) ∷ Γ) G)
      → Seq K 𝓛 (‵ (handle.the_row.own_val d vs) ∷ Γ) G
  handle_out t d vs next =
      fsplit t $ fpick t (λ vss. fsplit t $ feq_l t (λ whole. fsplit t $ feq_l t (λ front. fsplit t $
      handle_tells (al Z LZ ghosts) t d.alloc vss.1.0 (λ h back good. move t (1 ∷ []) $ drop t $ move t (1 ∷ []) $
      let with_front : vs ≡ vstruct (of_list (ptr_val d.at ∷ (vss.1.0 ++ []))) ∷ [] = subst (λ (us : List Val). vs ≡ vstruct (of_list (us ++ (vss.1.0 ++ []))) ∷ []) front whole in
      next h (subst (λ (us : List Val). vs ≡ vstruct (of_list (ptr_val d.at ∷ (us ++ []))) ∷ []) back with_front) good))))

  pub handle_in : K → (p : Ptr) (h : Val) (a : Global) (s : Option Inside.Denot)
      → Step K 𝓛 (‵ (handle.the_row.own_val (record { at = p; alloc = a; inside = s }) (pair (ptr_val p) h ∷ [])) ∷ Γ) G
      (‵ (kept a s p) ∷ ‵ (Z.own_val a (h ∷ [])) ∷ Γ) G
  handle_in t p h a s = step (λ next. let v : Val = pair (ptr_val p) h in let d : handle.the_row.Denot = record { at = p; alloc = a; inside = s } in
      nothing t $ move t (2 ∷ 0 ∷ []) $ fjoin t $ feq_i t (List Val) (ptr_val p ∷ []) (ptr_val p ∷ []) refl $ fjoin t $ feq_i t (List Val) (v ∷ []) (v ∷ []) refl $ fjoin t $
      fpack t (Valss (fields handle.the_type)) (within (shape handle.the_type) (to handle.the_type d) (v ∷ [])) (ptr_val p ∷ [], (h ∷ [], tt)) $ fjoin t $ next)

-- the right to free a box shows that its pointer may be compared with null
owned_Testable : {M : Type 1} {𝓤 : Ura M} (𝓛 : Logic 𝓤) (a : Global) (x : Inside.Denot) (p : Ptr) → ent 𝓤 (sem 𝓛 (owned a x p)) (guard 𝓤 (Testable p) (sem 𝓛 (owned a x p)))
owned_Testable {𝓤 = 𝓤} 𝓛 a x p =
    fact_use 𝓤 (Testable p) (via 𝓤 _ (snd∗ 𝓤 (sem 𝓛 (lies_at Inside full_share p x)) (sem 𝓛 (ghosts.dealloc_token a (bare (lone Inside.mir)) p))) (dealloc_token-Testable 𝓛 a (bare (lone Inside.mir)) p))
    (guard_i 𝓤 (Testable p) (sem 𝓛 (owned a x p)))

-- the two cases of a handle: nothing, or something
module _ {M : Type 1} {𝓤 : Ura M} {𝓛 : Logic 𝓤} {K : Type 0} {Γ : List (Item 𝓤)} {G : Goal 𝓤 𝓛.H} where
  pub either_kept : K → (a : Global) (s : Option Inside.Denot) (p : Ptr)
      → (s ≡ None → p ≡ null_ptr → Seq K 𝓛 Γ G)
      → ((b o : ℕ) (x : Inside.Denot) → s ≡ Some x → p ≡ block_ptr b o → Testable (block_ptr b o) → Seq K 𝓛 (‵ (owned a x (block_ptr b o)) ∷ Γ) G)
      → Seq K 𝓛 (‵ (kept a s p) ∷ Γ) G
  either_kept t a None p nothing_there one = feq_l t (λ e. nothing_there refl e)
  either_kept t a (Some x) p nothing_there one =
      in_a_block t p (owned a x) (fst∗ 𝓤 (never 𝓤) (sem 𝓛 (ghosts.dealloc_token a (bare (lone Inside.mir)) null_ptr))) (λ b o e.
      use1 𝓛 (given (Testable (block_ptr b o)) (‵ (owned a x (block_ptr b o)))) (owned_Testable 𝓛 a x (block_ptr b o)) $ learn t (λ tests. one b o x refl e tests))
