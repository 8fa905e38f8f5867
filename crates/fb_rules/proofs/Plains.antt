-- Fields that lead to no table are passed by their steps.
use Rattle.std.proofs.Common.{◌≡◌, ℕ, zero, suc, ◌+◌, ◌≤◌, ◌⊎◌, inl, inr, Bool, true, false, List, [], ◌∷◌, map, get_or, refl, sym, ◌∙◌, ap, subst, arith, Option, Some, None}
use Rattle.std.specs.Prelude.{slice_get}
use Rattle.std.proofs.lemmas.Bool.Decides.{nat_tests}
use Rattle.fb_schema.proofs.Numbers.{both_true}
use Rattle.fb_schema.specs.declared.{kinds.Kind.Kind, views.Act.Act, views.Step.Step, kinds.Kind.TheVariants.Scalar, kinds.Kind.TheVariants.Text, kinds.Kind.TheVariants.Struct}
use Rattle.fb_schema.specs.declared.{kinds.Kind.TheVariants.Table, kinds.Kind.TheVariants.Scalars, kinds.Kind.TheVariants.Structs, views.Act.TheVariants.Other}
use Rattle.fb_schema.specs.{Rows.Rows, Live.Live, Served.IsAlignment, Served.KindHolds, Steps.inline_act, Steps.act_of, Steps.bit_of, Steps.bits_of, Steps.is_plain_act}
use Rattle.fb_schema.specs.Steps.{are_plain, are_small, have_acts, is_small_act, step_of}
use Rattle.std.specs.List.{All}
use Rattle.std.proofs.lemmas.Option.{slice_get-get_or}
use Rattle.fb_rules.specs.Alike.{IsSmallStep}
use Rattle.fb_rules.specs.{declared.checks.Checks.Checks, Places.field_place, Fields.to_string, Fields.entry, Fields.entries, Cost.slot_reads, Cost.own_reads, Order.Failure}
use Rattle.fb_rules.specs.Order.{after, ◌▷◌, table_failure, inline_field_failure, lead_failure, own_failure, element_failure}
use Rattle.fb_rules.specs.Plain.{step_failure, step_reads, IsStep, HasBit, plain_failure, plain_reads}
use Rattle.fb_rules.proofs.Few.{slot_few}

-- The step at a place is that of the field there.
pub step_at : (fs : List Live) (i : ℕ) (s : Step) → slice_get (map step_of fs) i ≡ Some s → (f : Live) × (slice_get fs i ≡ Some f) × (s ≡ step_of f)
step_at [] i s e = absurd (let w : None ≡ Some s = e in cc)
step_at (f ∷ fs) zero s e = (f, refl, (let w : step_of f ≡ s = cc in sym w))
step_at (f ∷ fs) (suc i) s e = step_at fs i s e

-- What is done at all of these fields passes a test, and so it does at each.
pub has_act : (p : Act → Bool) (fs : List Live) (i : ℕ) (f : Live) → have_acts p fs ≡ true → slice_get fs i ≡ Some f → p (act_of f f.kind) ≡ true
has_act p [] i f all e = absurd (let w : None ≡ Some f = e in cc)
has_act p (g ∷ fs) zero f all e =
    let same : g ≡ f = cc in
    sym (ap (λ (z : Live). p (act_of z z.kind)) same) ∙ (both_true (p (act_of g g.kind)) (have_acts p fs) all).0
has_act p (g ∷ fs) (suc i) f all e = has_act p fs i f (both_true (p (act_of g g.kind)) (have_acts p fs) all).1 e

-- Where no field leads to a table, none does.
pub never_leads : (fs : List Live) (i : ℕ) (f : Live) → are_plain fs ≡ true → slice_get fs i ≡ Some f → act_of f f.kind ≡ Other → ⊥
never_leads fs i f plain e a = let clash : true ≡ false = sym (has_act is_plain_act fs i f plain e) ∙ ap is_plain_act a in cc

-- Where all are small, each has the step of one, and none is required.
small_act : (a : Act) (s : Step) → s.act ≡ a → is_small_act a ≡ true → IsSmallStep s
small_act a s is h = grind (arith, is, h)

pub small_at : (fs : List Live) (i : ℕ) (f : Live) → are_small fs ≡ true → slice_get fs i ≡ Some f → IsSmallStep (step_of f)
small_at fs i f small e = small_act (act_of f f.kind) (step_of f) refl (has_act is_small_act fs i f small e)

pub small_steps : (fs : List Live) → are_small fs ≡ true → All IsSmallStep (map step_of fs)
small_steps fs small i d lt =
    let s = step_at fs i (get_or (map step_of fs) i d) (slice_get-get_or (map step_of fs) i d lt) in
    subst IsSmallStep (sym s.2) (small_at fs i s.0 small s.1)

-- it is asked for its own size and alignment
inline_step : (c : Checks) (b : List ℕ) (t p : ℕ) (s : Step) → step_failure c b t s p (inline_act s.required s.size s.align) ≡ inline_field_failure c b t p s.size s.align
inline_step c b t p s = grind (arith, nat_tests)

inline_free : (required : Bool) (size align : ℕ) → step_reads (inline_act required size align) ≡ 0
inline_free required size align = grind arith

-- one of five acts is its own
inline_is : (s : Step) (required : Bool) (size align : ℕ) → s.required ≡ required → IsAlignment s.align → IsStep s (inline_act required size align)
inline_is s required size align free h = grind (arith, free, h)

-- What is asked for its own alignment has one, and what has a bit of its size may be absent.
pub kind_step : (S : Rows) (f : Live) (kind : Kind) → KindHolds S f kind → IsStep (step_of f) (act_of f kind)
kind_step S f (Scalar s) h = inline_is (step_of f) f.required f.size f.align refl h
kind_step S f (Struct k) h = inline_is (step_of f) f.required f.size f.align refl h
kind_step S f (Scalars s) h = h
kind_step S f (Structs k) h = h
kind_step S f _ h = tt

-- What holds of each field's step holds of each step.
pub each_step : (P : Step → Type 0) (fs : List Live) (i : ℕ) (s : Step) → ((f : Live) → slice_get fs i ≡ Some f → P (step_of f)) → slice_get (map step_of fs) i ≡ Some s → P s
each_step P fs i s h e = let x = step_at fs i s e in subst P (sym x.2) (h x.0 x.1)

-- A step has the bit of its act.
bit_is : (s : Step) (act : Act) → s.bit ≡ bit_of act → HasBit s act
bit_is s Other e = inl e
bit_is s _ e = e

pub bit_at : (s : Step) (f : Live) (kind : Kind) → s.bit ≡ bits_of f kind → HasBit s (act_of f kind)
bit_at s f (Table k) e = inr e
bit_at s f kind e = bit_is s (act_of f kind) e

-- A step reads four times at most.
pub plain_few : (b : List ℕ) (t : ℕ) (s : Step) → plain_reads b t s ≤ 4
unfolding plain_reads
plain_few b t s = grind (arith, slot_few)

-- reads in two parts
pub after_twice : (m n : ℕ) (x : Option Failure) → after m (after n x) ≡ after (m + n) x
after_twice m n x = grind arith

-- a field that leads nowhere is tested by itself
pub record LeadsNowhere (c : Checks) (b : List ℕ) (S : Rows) (t : ℕ) (f : Live) : Type 0 where
  pub none : entries b S t f ≡ []
  pub chain : plain_failure c b t (step_of f) ≡ own_failure c b S t f
  pub reads : plain_reads b t (step_of f) ≡ own_reads b t f

-- one whose uoffset at p leads to a string by itself, and then that string
pub record LeadsTo (c : Checks) (b : List ℕ) (S : Rows) (t : ℕ) (f : Live) (p : ℕ) : Type 0 where
  pub kind : f.kind ≡ Text
  pub one : entries b S t f ≡ entry to_string p 0 ∷ []
  pub chain : plain_failure c b t (step_of f) ≡ own_failure c b S t f ▷ after (own_reads b t f) (element_failure c b (entry to_string p 0))
  pub reads : plain_reads b t (step_of f) ≡ own_reads b t f + 3

-- two chains after the same reads
after_both : (n : ℕ) (x y : Option Failure) → after n (x ▷ y) ≡ after n x ▷ after (n + 0) (after 0 y)
after_both n x y = grind arith

module _ (c : Checks) (b : List ℕ) (S : Rows) (t : ℕ) (f : Live) where
  -- what a field comes to that is passed by its step
  abbrev pub Comes : Type 0
  Comes = LeadsNowhere c b S t f ⊎ ((p : ℕ) × LeadsTo c b S t f p)

  come : (place : Option ℕ) → field_place b t f.slot ≡ place → (kind : Kind) → f.kind ≡ kind → (act_of f kind ≡ Other → field_place b t f.slot ≡ None) → Comes
  unfolding own_failure own_reads entries element_failure plain_failure plain_reads
  come None here kind e n = inl (record { none = rw here; chain = rw here; reads = rw here })
  come (Some p) here (Scalar s) e n = inl (record { none = rw (here, e); chain = rw (here, e, inline_step); reads = rw (here, e, inline_free) })
  come (Some p) here (Struct k) e n = inl (record { none = rw (here, e); chain = rw (here, e, inline_step); reads = rw (here, e, inline_free) })
  come (Some p) here Text e n = inr (p, record { kind = e; one = rw (here, e); chain = rw (here, e, after_both (slot_reads b t f.slot) (table_failure c b t p 4) (lead_failure c b p to_string)); reads = rw (here, e) (omega arith) })
  come (Some p) here (Scalars s) e n = inl (record { none = rw (here, e); chain = rw (here, e); reads = rw (here, e) })
  come (Some p) here (Structs k) e n = inl (record { none = rw (here, e); chain = rw (here, e); reads = rw (here, e) })
  come (Some p) here _ e n = absurd (let w : Some p ≡ None = sym here ∙ n refl in cc)

  pub comes : (act_of f f.kind ≡ Other → field_place b t f.slot ≡ None) → Comes
  comes n = come (field_place b t f.slot) refl f.kind refl n
