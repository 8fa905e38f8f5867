-- At most one strict answer applies to a question, and what a strict ok says beside.
use Rattle.std.proofs.Common.{◌≡◌, ℕ, inl, inr, List, Result, Ok, Err, ap, subst}
use Rattle.fb_rules.specs.{declared.fault.Fault.Fault, declared.fault.Report.Report, Question.Question, Places.target, WellFormed.base}
use Rattle.fb_rules.proofs.{Overruns.one_tree, Overruns.stops_nowhere, OneFault.stops_once}
use Rattle.fb_strict.specs.{Planned.Planned, Nested.Refused, Nested.ComeTo, Nested.EndsWith, Nested.IsBad, Nested.spent_alone, Nested.asked_of, Strictly.ReportsStrictly}
use Rattle.fb_strict.specs.{Strictly.HasNoneStrictly, Strictly.StopsStrictly, Laws.StrictIsOk, Laws.UnionsLeadInside, Laws.AllTextsAreUtf8, Laws.NoFieldIsUnknown}
use Rattle.fb_strict.specs.Laws.{HasOneStrictVerdict}
use Rattle.fb_strict.proofs.{Reading.value_inside, Reading.element_inside, Reading.texts_utf8, Reading.slots_known, Buffers.plan_closed, Nesting.come_to_one_end, Inside.good_is_ok}
use Rattle.fb_strict.proofs.Inside.{good_is_strict, same_tree}

pub strict_is_ok : StrictIsOk
strict_is_ok p q b r h = good_is_ok p q b r h

pub unions_lead_inside : UnionsLeadInside
unions_lead_inside p q b r y plan asked h u =
    let same : h.found ≡ y = one_tree q.checks b q.rows h.found y q.root (target b (base q.start)) h.well_formed.unfolds u in
    let tree = (good_is_strict p q b r h.found (plan_closed q.rows p plan) h h.well_formed).tables in
    let strict = rw same at tree in
    (value_inside y p.demands q.checks b q.rows asked strict, element_inside y p.demands q.checks b q.rows asked strict)

pub texts_are_utf8 : AllTextsAreUtf8
texts_are_utf8 p q b r y plan asked h u =
    let same : h.found ≡ y = one_tree q.checks b q.rows h.found y q.root (target b (base q.start)) h.well_formed.unfolds u in
    let tree = (good_is_strict p q b r h.found (plan_closed q.rows p plan) h h.well_formed).tables in
    texts_utf8 y p.demands q.checks b q.rows asked (rw same at tree)

pub no_field_is_unknown : NoFieldIsUnknown
no_field_is_unknown p q b r y plan asked h u =
    let same : h.found ≡ y = one_tree q.checks b q.rows h.found y q.root (target b (base q.start)) h.well_formed.unfolds u in
    let tree = (good_is_strict p q b r h.found (plan_closed q.rows p plan) h h.well_formed).tables in
    slots_known y p.demands q.checks b q.rows asked (rw same at tree)

-- whatever a buffer with those inside it comes to, it is one
ends_once : (p : Planned) (q : Question) (b : List ℕ) (x y : Result Report Refused) → EndsWith p q b x → EndsWith p q b y → x ≡ y
ends_once p q b x y g h =
    let same : h.found ≡ g.found = same_tree q b h.found g.found h.well_formed g.well_formed in
    let other = subst (λ t. ComeTo h.course p q 0 b (spent_alone q b t) (asked_of p q b t) y) same h.comes in
    come_to_one_end p q 0 b (spent_alone q b g.found) (asked_of p q b g.found) g.course h.course x y g.comes other

module _ (p : Planned) (q : Question) (b : List ℕ) where
  one_report : (r s : Report) → ReportsStrictly p q b r → ReportsStrictly p q b s → r ≡ s
  one_report r s g h = let e = ends_once p q b (Ok r) (Ok s) g h in cc

  not_both : (r : Report) (f : Fault) → ReportsStrictly p q b r → IsBad p q b f → ⊥
  not_both r f g h = let e = ends_once p q b (Ok r) (Err (record { fault = f; links = h.0 })) g h.1 in cc

  -- nothing stops in a good buffer
  never_both : (r : Report) (f : Fault) → ReportsStrictly p q b r → StopsStrictly p q b f → ⊥
  never_both r f g (inl h) = stops_nowhere q b g.found f g.well_formed g.within h
  never_both r f g (inr h) = not_both r f g h

  one_fault : (f g : Fault) → StopsStrictly p q b f → StopsStrictly p q b g → f ≡ g
  one_fault f g (inl h) (inl i) = stops_once q b f g h i
  one_fault f g (inl h) (inr i) = absurd (stops_nowhere q b (i.1).found f (i.1).well_formed (i.1).within h)
  one_fault f g (inr h) (inl i) = absurd (stops_nowhere q b (h.1).found g (h.1).well_formed (h.1).within i)
  one_fault f g (inr h) (inr i) =
      let x : Refused = record { fault = f; links = h.0 } in
      let y : Refused = record { fault = g; links = i.0 } in
      let e = ends_once p q b (Err x) (Err y) h.1 i.1 in
      let same : x ≡ y = cc in
      ap (λ (e : Refused). e.fault) same

  -- where it stops, nothing can be reported
  pub stops_has_none : (f : Fault) → StopsStrictly p q b f → HasNoneStrictly p q b
  stops_has_none f h r g = never_both r f g h

pub one_verdict : HasOneStrictVerdict
one_verdict p q b (Ok r) (Ok s) g h = ap Ok (one_report p q b r s g h)
one_verdict p q b (Ok r) (Err f) g h = absurd (never_both p q b r f g h)
one_verdict p q b (Err f) (Ok r) g h = absurd (never_both p q b r f h g)
one_verdict p q b (Err f) (Err e) g h = ap Err (one_fault p q b f e g h)
