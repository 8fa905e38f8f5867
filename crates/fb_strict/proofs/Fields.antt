-- What is left of the fields of a table: the next one that has a task.
use Rattle.std.proofs.Common.{◌≡◌, ℕ, zero, suc, ◌≤◌, List, [], ◌∷◌, ◌++◌, Option, Some, None, option_map, Bool, true, false, if◌then◌else◌, append_assoc, refl, sym, ap, subst, ◌∙◌, ◌⊎◌, inl, inr, max, arith}
use Rattle.std.specs.List.{cons_option}
use Rattle.std.specs.Prelude.{slice_get}
use Rattle.fb_schema.specs.{declared.kinds.Kind.Kind, declared.kinds.Kind.TheVariants.Scalars, declared.kinds.Scalar.TheVariants.UByte, Rows.Rows, Live.Live, Live.live_fields}
use Rattle.fb_schema.specs.Served.{IsServed}
use Rattle.fb_rules.specs.{declared.checks.Checks.Checks, declared.link.Link.Link, Links.field_link, Links.element_link, Places.field_place, Fields.type_place, Fields.IsField}
use Rattle.fb_rules.specs.{Fields.entries_of, Fields.entries_at, Fields.entries, Tree.Kids, Tree.no_kids, Tree.kid, Tree.kids_depth, Tree.Elements, Tree.no_elements, Tree.element}
use Rattle.fb_rules.specs.{Tree.elements_depth, Unfolds.FieldsUnfold, Unfolds.ElementsUnfold, declared.offset_row.Leads.Leads}
use Rattle.fb_rules.proofs.Typed.{typed_by}
use Rattle.fb_strict.specs.{declared.tasks.Held.Held, declared.tasks.Ask.Ask, declared.tasks.Ask.TheVariants.Bytes, declared.tasks.Task.Task, Demanded.held_of, Skipped.Wants}
use Rattle.fb_strict.specs.{Skipped.is_kind_asked, Planned.ask_by, Planned.ask_of, Planned.asked_of, Planned.task_with, Planned.task_of, Planned.tasks_in, Asked.Demand}
use Rattle.fb_strict.specs.{Asked.held_demands, Asked.field_demands, Asked.row_leads, Asked.row_place, Asked.demands_in_fields, Asked.demands_in_row, Passing.task_failure}
use Rattle.fb_strict.specs.Passing.{task_reads, task_inner, IsKnown, AreKnown}
use Rattle.fb_strict.proofs.{How.IsHeld, How.IsOfKind, How.how, How.not_by_kind, Unasked.nothing_asked}

-- what is asked is what its kind says
module _ (w : Wants) (S : Rows) where
  asked_if : (x : Bool) (o : Option Ask) (ask : Ask) → (if x then o else None) ≡ Some ask → o ≡ Some ask
  asked_if true o ask h = h
  asked_if false o ask h = absurd (cc)

  pub asked_by : (kind : Kind) (ask : Ask) → ask_of w S kind ≡ Some ask → ask_by kind ≡ Some ask
  asked_by kind ask h = asked_if (is_kind_asked w S kind) (ask_by kind) ask h

module _ (b : List ℕ) (S : Rows) (t : ℕ) (f : Live) where
  none_at : f.kind ≡ Scalars UByte → (place : Option ℕ) → entries_at b S t f place ≡ []
  none_at kind None = refl
  none_at kind (Some p) = ap (entries_of b S t f p) kind

  -- a vector of bytes has no uoffsets
  pub no_entries : f.kind ≡ Scalars UByte → entries b S t f ≡ []
  unfolding entries
  no_entries kind = none_at kind (field_place b t f.slot)

module _ (c : Checks) (b : List ℕ) (S : Rows) where
  -- the fields of a table that unfolds are known

  field_met : (t : ℕ) (kids : Kids) (fs : List Live) (j : ℕ) (h : Live) → FieldsUnfold kids c b S t fs → slice_get fs j ≡ Some h → IsField c b S t h
  unfolding FieldsUnfold
  field_met t (kid ys kids) (f ∷ fs) zero h u e = let same : f ≡ h = cc in rw same at u.0
  field_met t (kid ys kids) (f ∷ fs) (suc j) h u e = field_met t kids fs j h u.2 e
  field_met t kids fs j h u e = absurd (grind arith)

  all_known : (t : ℕ) (fs : List Live) → ((i : ℕ) (f : Live) → slice_get fs i ≡ Some f → IsKnown c b S t f) → AreKnown c b S t fs
  unfolding AreKnown
  all_known t [] h = tt
  all_known t (f ∷ fs) h = (h 0 f refl, all_known t fs (λ i g e. h (suc i) g e))

  pub fields_known : (k t : ℕ) (kids : Kids) → IsServed S → FieldsUnfold kids c b S t (live_fields S k) → AreKnown c b S t (live_fields S k)
  fields_known k t kids served u =
      let fs = live_fields S k in
      all_known t fs (λ i f e. record {
        own = field_met t kids fs i f u e;
        typed = typed_by c b S t fs i f.slot (λ kind h. field_met t kids fs h.place h.field u h.found) f.kind (served.typed k i f e);
        kind = served.kinds k i f e;
        sized = served.sized k i f e;
      })

  module _ (w : Wants) (via : List Link) (k t : ℕ) where
    -- what is demanded of the uoffsets of a field
    abbrev word_demands : Live → Elements → List Demand
    word_demands f ys = demands_in_row ys w c b S (λ j. via ++ element_link b k t f j ∷ []) k f.number 0 (row_place b (field_place b t f.slot) f.kind) (row_leads w b S (type_place b t f.slot) f.kind)

    -- a field with a task is demanded one thing
    abbrev pub task_demand : List Link → ℕ → ℕ → (types place : Option ℕ) → Ask → Demand
    task_demand links n slot types place ask = record { links = links; object = k; field = Some n; at = t; reads = task_reads w.demands b S t slot types place ask; chain = task_failure w.demands c b S t slot types place ask; inner = task_inner b ask place }

    by_kind : (links : List Link) (n slot : ℕ) (types place : Option ℕ) (kind : Kind) (ask : Ask) → ask_by kind ≡ Some ask → field_demands w.demands c b S links k n t slot types place kind ≡ task_demand links n slot types place ask ∷ []
    by_kind links n slot types place kind ask h = grind arith

    one_demand : (links : List Link) (n slot : ℕ) (types place : Option ℕ) (kind : Kind) (ask : Ask) → ask_of w S kind ≡ Some ask → field_demands w.demands c b S links k n t slot types place kind ≡ task_demand links n slot types place ask ∷ []
    one_demand links n slot types place kind ask h = by_kind links n slot types place kind ask (asked_by w S kind ask h)

    -- its task
    pub record IsTask (f : Live) (task : Task) : Type 0 where
      pub ask : asked_of w S k f ≡ Some task.ask
      pub number : task.number ≡ f.number
      pub slot : task.slot ≡ f.slot

    its_task : (f : Live) (task : Task) (o : Option Ask) → asked_of w S k f ≡ o → option_map (task_with f) o ≡ Some task → IsTask f task
    its_task f task None is h = absurd (cc)
    its_task f task (Some ask) is h = let same : task_with f ask ≡ task = cc in subst (IsTask f) same (record { ask = is; number = refl; slot = refl })

    pub task_is : (f : Live) (task : Task) → task_of w S k f ≡ Some task → IsTask f task
    task_is f task h = its_task f task (asked_of w S k f) refl h

    -- what holds something has no uoffsets

    none_row : (way : ℕ → List Link) (n j p : ℕ) (leads : Leads) (ys : Elements) → ElementsUnfold ys c b S [] → demands_in_row ys w c b S way k n j p leads ≡ []
    unfolding ElementsUnfold demands_in_row
    none_row way n j p leads no_elements u = refl
    none_row way n j p leads (element y ys) u = absurd u

    no_words : (f : Live) (ys : Elements) → f.kind ≡ Scalars UByte → ElementsUnfold ys c b S (entries b S t f) → word_demands f ys ≡ []
    no_words f ys kind u = none_row _ f.number 0 _ _ ys (subst (ElementsUnfold ys c b S) (no_entries b S t f kind) u)

    -- so a field that is asked is demanded one thing, and what its uoffsets are
    module _ (f : Live) (ys : Elements) (u : ElementsUnfold ys c b S (entries b S t f)) (rest : List Demand) where
      abbrev links : List Link
      links = via ++ field_link k f ∷ []

      abbrev types : Option ℕ
      types = type_place b t f.slot

      abbrev place : Option ℕ
      place = field_place b t f.slot

      abbrev by_its_kind : List Demand
      by_its_kind = field_demands w.demands c b S links k f.number t f.slot types place f.kind

      abbrev of_both : Option Held → List Demand
      of_both o = held_demands b links k f.number t f.slot place o ++ ((if is_kind_asked w S f.kind then by_its_kind ++ word_demands f ys else []) ++ rest)

      gated : (x : Bool) (o : Option Ask) (ask : Ask) → (if x then o else None) ≡ Some ask → x ≡ true
      gated true o ask h = refl
      gated false o ask h = absurd (cc)

      one_of : (ask : Ask) → IsHeld w S k f ask ⊎ IsOfKind w S k f ask → of_both (held_of w.demands k f) ≡ task_demand links f.number f.slot types place ask ∷ (word_demands f ys ++ rest)
      one_of ask (inl h) =
          let quiet = not_by_kind w S k f h.held h.is in
          let none = sym (no_words f ys h.kind u) in
          ap of_both h.is
          ∙ (λ i. task_demand links f.number f.slot types place (Bytes h.held) ∷ ((if quiet i then by_its_kind ++ word_demands f ys else []) ++ rest))
          ∙ (λ i. task_demand links f.number f.slot types place (sym h.same i) ∷ (none i ++ rest))
      one_of ask (inr h) =
          let asked = gated (is_kind_asked w S f.kind) (ask_by f.kind) ask h.is in
          let one = one_demand links f.number f.slot types place f.kind ask h.is in
          ap of_both h.none ∙ (λ i. (if asked i then by_its_kind ++ word_demands f ys else []) ++ rest) ∙ append_assoc by_its_kind (word_demands f ys) rest ∙ ap (λ xs. xs ++ (word_demands f ys ++ rest)) one

    -- the next of these fields that has a task, past those that have none
    pub record IsNextField (kids : Kids) (fs : List Live) (task : Task) (more : List Task) : Type 0 where
      pub field : Live
      pub its : task_of w S k field ≡ Some task
      pub known : IsKnown c b S t field
      pub words : Elements
      pub unfolds : ElementsUnfold words c b S (entries b S t field)
      pub others : List Live
      pub others_known : AreKnown c b S t others
      pub others_kids : Kids
      pub others_unfold : FieldsUnfold others_kids c b S t others
      pub tasks : more ≡ tasks_in w S k others
      pub deep : max (elements_depth words) (kids_depth others_kids) ≤ kids_depth kids
      pub all : demands_in_fields kids w c b S via k t fs ≡ task_demand (via ++ field_link k field ∷ []) field.number field.slot (type_place b t field.slot) (field_place b t field.slot) task.ask ∷ (word_demands field words ++ demands_in_fields others_kids w c b S via k t others)

    module _ (task : Task) (more : List Task) where
      by_task : (ys : Elements) (kids : Kids) (f : Live) (fs : List Live) (u : FieldsUnfold (kid ys kids) c b S t (f ∷ fs)) → AreKnown c b S t (f ∷ fs) → (tasks_in w S k fs ≡ task ∷ more → IsNextField kids fs task more)
          → (o : Option Task) → task_of w S k f ≡ o → cons_option o (tasks_in w S k fs) ≡ task ∷ more → IsNextField (kid ys kids) (f ∷ fs) task more
      unfolding FieldsUnfold AreKnown demands_in_fields kids_depth
      by_task ys kids f fs u a later (Some x) is h =
          let same : x ≡ task = cc in
          let i = task_is f task (is ∙ ap Some same) in
          let rest = demands_in_fields kids w c b S via k t fs in
          record {
            field = f;
            its = is ∙ ap Some same;
            known = a.0;
            words = ys;
            unfolds = u.1;
            others = fs;
            others_known = a.1;
            others_kids = kids;
            others_unfold = u.2;
            tasks = cc;
            deep = omega arith;
            all = one_of f ys u.1 rest task.ask (how w S k f task.ask i.ask);
          }
      by_task ys kids f fs u a later None is h =
          let r = later h in
          record {
            field = r.field;
            its = r.its;
            known = r.known;
            words = r.words;
            unfolds = r.unfolds;
            others = r.others;
            others_known = r.others_known;
            others_kids = r.others_kids;
            others_unfold = r.others_unfold;
            tasks = r.tasks;
            deep = omega (arith, r.deep);
            all = nothing_asked w S f fs ys kids c b via k t is ∙ r.all;
          }

      pub next_field : (kids : Kids) (fs : List Live) → FieldsUnfold kids c b S t fs → AreKnown c b S t fs → tasks_in w S k fs ≡ task ∷ more → IsNextField kids fs task more
      unfolding FieldsUnfold AreKnown
      next_field kids [] u a h = absurd (cc)
      next_field no_kids (f ∷ fs) u a h = absurd u
      next_field (kid ys kids) (f ∷ fs) u a h = by_task ys kids f fs u a (next_field kids fs u.2 a.1) (task_of w S k f) refl h

    -- where no task is left, nothing is demanded
    none_by : (ys : Elements) (kids : Kids) (f : Live) (fs : List Live) (u : FieldsUnfold (kid ys kids) c b S t (f ∷ fs)) → (tasks_in w S k fs ≡ [] → demands_in_fields kids w c b S via k t fs ≡ [])
        → (o : Option Task) → task_of w S k f ≡ o → cons_option o (tasks_in w S k fs) ≡ [] → demands_in_fields (kid ys kids) w c b S via k t (f ∷ fs) ≡ []
    unfolding FieldsUnfold demands_in_fields
    none_by ys kids f fs u later (Some x) is h = absurd (cc)
    none_by ys kids f fs u later None is h = nothing_asked w S f fs ys kids c b via k t is ∙ later h

    pub no_field : (kids : Kids) (fs : List Live) → FieldsUnfold kids c b S t fs → tasks_in w S k fs ≡ [] → demands_in_fields kids w c b S via k t fs ≡ []
    unfolding FieldsUnfold demands_in_fields
    no_field no_kids fs u h = refl
    no_field (kid ys kids) [] u h = absurd u
    no_field (kid ys kids) (f ∷ fs) u h = none_by ys kids f fs u (no_field kids fs u.2) (task_of w S k f) refl h
