-- A table whose fields are all small is passed to the first slot that lies behind its vtable.
use Rattle.std.proofs.Common.{◌≡◌, ℕ, zero, suc, ◌+◌, ◌≤◌, Bool, true, false, List, [], ◌∷◌, map, drop, length, get_or, refl, sym, ◌∙◌, ap, arith, None, Some, Ok, length-drop}
use Rattle.std.proofs.lemmas.{Bool.Decides.nat_tests, List.length-map, List.drop_all, List.get_or-drop, List.Elements.All-nil, Option.slice_get-get_or, Option.slice_get_within}
use Rattle.std.specs.Prelude.{slice_get, option_map}
use Rattle.fb_bytes.specs.Word.{Lent}
use Rattle.fb_schema.specs.{Live.Live, Live.live_fields, Live.next_required, Live.next_required_of, Steps.are_small, Steps.act_of, Steps.is_small_act, Steps.step_of, Steps.chain_of, Steps.end_step}
use Rattle.fb_schema.specs.declared.{kinds.Kind.Kind, views.Step.Step}
use Rattle.fb_schema.proofs.PositionLemmas.{no_position}
use Rattle.fb_rules.specs.{Plain.plain_failure, Plain.steps_reads}
use Rattle.fb_rules.proofs.Plains.{has_act}
use Rattle.fb_verify.specs.{PassesOn.EndsBehind, PassesOn.PassesOn, Stack.Waiting, declared.scratch.Frame.Frame, declared.stack.Walk.Walk}
use Rattle.fb_verify.proofs.Passing.{none_required, rest_holds, rest_free}

-- the step at a place of the chain is that of the field there, or the one behind the last
pub chain_has : (P : Step → Type 0) (fs : List Live) (i : ℕ) (d : Step) → i ≤ length fs → ((f : Live) → slice_get fs i ≡ Some f → P (step_of f)) → (i ≡ length fs → P end_step) → P (get_or (chain_of fs) i d)
chain_has P [] zero d le field end = end refl
chain_has P [] (suc i) d le field end = absurd (omega (arith, le))
chain_has P (f ∷ fs) zero d le field end = field f refl
chain_has P (f ∷ fs) (suc i) d le field end = chain_has P fs i d (omega (arith, le)) field (λ e. end (ap suc e))

-- what is small may be absent
free_kind : (f : Live) (k : Kind) (r : Bool) → f.required ≡ r → is_small_act (act_of f k) ≡ true → r ≡ false
free_kind f k r e small = grind (arith, nat_tests, e, small)

-- so none of them is required
pub small_none : (fs : List Live) (i : ℕ) → are_small fs ≡ true → next_required_of fs i ≡ None
small_none fs i small = ap (option_map (λ j. i + j)) (no_position (λ f. f.required) (drop i fs) (λ j d lt needed.
    let f = get_or (drop i fs) j d in
    let here : slice_get fs (i + j) ≡ Some f = slice_get-get_or fs (i + j) d (omega (arith, lt, length-drop i fs)) ∙ ap Some (sym (get_or-drop i fs j d)) in
    let free : f.required ≡ false = free_kind f f.kind f.required refl (has_act is_small_act fs (i + j) f small here) in
    let clash : true ≡ false = sym needed ∙ free in cc))

-- fields of the top were passed to the last of them
pub ends_all : (w : Walk) (m new : Lent) (under : Waiting) (top : Frame) (at next : ℕ) → length (live_fields w.schema.now (top.table).object) ≤ next → EndsBehind w m new under top (record top { next = next })
    → PassesOn w m new under top (record top { next = next }) at (Ok false)
ends_all w m new under top at next all e =
    let fs = live_fields w.schema.now (top.table).object in
    let none : drop next (map step_of fs) ≡ [] = drop_all next (map step_of fs) (omega (arith, all, length-map fs step_of)) in
    record {
      comes = record {
        walking = (e.between).walking;
        forth = e.forth;
        within = e.within;
        all = all;
        ends = e.paid;
        hold = (e.steps).hold (rw none (All-nil (λ s. plain_failure w.checks m.bytes (top.table).at s ≡ None)));
        counted = omega (arith, (e.steps).counted, ap (steps_reads m.bytes (top.table).at) none);
      };
      same = refl;
      grows = e.grows;
      bytes = e.bytes;
    }

-- or up to one behind the vtable, where none of the others is required
pub ends_absent : (w : Walk) (m new : Lent) (under : Waiting) (top : Frame) (at next : ℕ) (f : Live) → slice_get (live_fields w.schema.now (top.table).object) next ≡ Some f
    → EndsBehind w m new under top (record top { next = next }) → next_required w.schema.now (top.table).object next ≡ None
    → PassesOn w m new under top (record top { next = length (live_fields w.schema.now (top.table).object) }) at (Ok false)
ends_absent w m new under top at next f here e none =
    let fs = live_fields w.schema.now (top.table).object in
    let b = e.between in
    let slot = e.behind f here in
    let free = rw e.bytes at (rest_free b.walking b.rests f here slot none) in
    record {
      comes = record {
        walking = none_required b.walking b.rests f here slot none;
        forth = omega (arith, e.forth, slice_get_within fs next f here);
        within = omega arith;
        all = omega arith;
        ends = omega (arith, e.paid);
        hold = (e.steps).hold (rw e.bytes at (rest_holds b.walking b.rests f here slot none));
        counted = omega (arith, (e.steps).counted, free);
      };
      same = refl;
      grows = e.grows;
      bytes = e.bytes;
    }
