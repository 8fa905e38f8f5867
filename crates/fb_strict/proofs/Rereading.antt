-- What of the field of a frame's last task can be read again, and the link that is read.
use Rattle.std.proofs.Common.{◌⊎◌, inl, inr, ◌≡◌, ℕ, ◌-◌, ◌<◌, List, [], Some, refl, sym, ap, subst, ◌∙◌, arith}
use Rattle.std.specs.Prelude.{slice_get, slice_index_or}
use Rattle.std.proofs.lemmas.Option.{get_or_from_slice_get}
use Rattle.fb_bytes.specs.Word.{word}
use Rattle.fb_schema.specs.declared.kinds.Kind.{Kind, TheVariants.Scalar, TheVariants.Text, TheVariants.Struct, TheVariants.Table, TheVariants.Union, TheVariants.Scalars}
use Rattle.fb_schema.specs.declared.kinds.Kind.TheVariants.{Texts, Structs, Tables, Unions}
use Rattle.fb_schema.specs.Live.{Live}
use Rattle.fb_rules.specs.{Places.target, Places.field_place, Fields.type_place, Fields.type_count}
use Rattle.fb_rules.proofs.Typed.{present}
use Rattle.fb_strict.specs.declared.{room.Frame.Frame, tasks.Ask.Ask, tasks.Task.Task, tasks.Ask.TheVariants.Text as AskText, tasks.Ask.TheVariants.Texts as AskTexts}
use Rattle.fb_strict.specs.declared.tasks.Ask.TheVariants.{Union as AskUnion, Unions as AskUnions, Table as GoInto, Tables as GoIntoEach, Bytes as AskBytes}
use Rattle.fb_strict.specs.{Planned.IsPlan, Planned.ask_by, Passing.Passing, Passing.wants_of, Passing.IsKnown, Passing.IsTaskable, Passing.ask_words, Passing.task_words}
use Rattle.fb_strict.specs.{Passing.task_link, Passing.link_behind, Passing.frame_link, Passing.IsLinked, Reread.WordsStand, Reread.MemberStands}
use Rattle.fb_strict.proofs.{How.IsHeld, How.IsOfKind, How.how, Fields.asked_by, Fields.IsTask, Fields.task_is, Tasking.taskable_how}

-- a vector of unions has as many types as uoffsets
module _ (p : Passing) (b : List ℕ) (t : ℕ) (f : Live) (known : IsKnown p.checks b p.rows t f) (place : ℕ) (there : field_place b t f.slot ≡ Some place) where
  counts_by : (kind : Kind) → f.kind ≡ kind → (e : ℕ) → ask_by kind ≡ Some (AskUnions e) → word b (target b place) 4 ≡ type_count b (type_place b t f.slot)
  counts_by (Unions e') kind e h = (present p.checks b p.rows t f place (Unions e') known.own there kind).counts_agree
  counts_by (Table j) kind e h = absurd (cc)
  counts_by (Tables j) kind e h = absurd (cc)
  counts_by (Union e') kind e h = absurd (cc)
  counts_by (Scalar s) kind e h = absurd (cc)
  counts_by Text kind e h = absurd (cc)
  counts_by (Struct j) kind e h = absurd (cc)
  counts_by (Scalars s) kind e h = absurd (cc)
  counts_by Texts kind e h = absurd (cc)
  counts_by (Structs j) kind e h = absurd (cc)

  pub counts : (e : ℕ) → ask_by f.kind ≡ Some (AskUnions e) → word b (target b place) 4 ≡ type_count b (type_place b t f.slot)
  counts e h = counts_by f.kind refl e h

module _ (p : Passing) (b : List ℕ) (plan : IsPlan p.rows (p.plan).demands p.plan) (fr : Frame) (h : IsLinked (wants_of p) p.checks b p.rows fr) where
  abbrev t : ℕ
  t = (fr.table).at

  abbrev task : Task
  task = (h.last).task

  is_task : IsTask p.checks b p.rows (wants_of p) [] (fr.table).object t (h.last).field task
  is_task = task_is p.checks b p.rows (wants_of p) [] (fr.table).object t (h.last).field task (h.last).its

  its_how : IsHeld (wants_of p) p.rows (fr.table).object (h.last).field task.ask ⊎ IsOfKind (wants_of p) p.rows (fr.table).object (h.last).field task.ask
  its_how = how (wants_of p) p.rows (fr.table).object (h.last).field task.ask is_task.ask

  taskable : IsTaskable b p.rows t task.slot (field_place b t task.slot) task.ask
  taskable =
      subst (λ o. IsTaskable b p.rows t o (field_place b t o) task.ask) (sym is_task.slot)
      (taskable_how p b plan (fr.table).object t (h.last).field (h.last).known task.ask its_how)

  module _ (place : ℕ) (there : field_place b t task.slot ≡ Some place) where
    its_words : task_words b t task ≡ ask_words b (Some place) task.ask
    its_words = ap (λ o. ask_words b o task.ask) there

    pub more_words : (fr.row).left < ask_words b (Some place) task.ask
    more_words = omega (arith, h.more, its_words)

    words_by : (ask : Ask) → IsTaskable b p.rows t task.slot (field_place b t task.slot) ask → WordsStand b place ask
    words_by AskText able = tt
    words_by AskTexts able = able place there
    words_by (GoInto j) able = tt
    words_by (AskUnion e) able = tt
    words_by (GoIntoEach j) able = able place there
    words_by (AskUnions e) able = able.1 place there
    words_by (AskBytes held) able = tt

    pub words_stand : WordsStand b place task.ask
    words_stand = words_by task.ask taskable

    kind_how : IsHeld (wants_of p) p.rows (fr.table).object (h.last).field task.ask ⊎ IsOfKind (wants_of p) p.rows (fr.table).object (h.last).field task.ask → (e : ℕ) → task.ask ≡ AskUnions e → ask_by ((h.last).field).kind ≡ Some (AskUnions e)
    kind_how (inl x) e is = absurd (let w : AskBytes x.held ≡ AskUnions e = sym x.same ∙ is in cc)
    kind_how (inr x) e is = asked_by (wants_of p) p.rows ((h.last).field).kind task.ask x.is ∙ ap Some is

    counts_here : (e : ℕ) → task.ask ≡ AskUnions e → word b (target b place) 4 ≡ type_count b (type_place b t task.slot)
    counts_here e is =
        let f = (h.last).field in
        let slot = is_task.slot in
        let n = counts p b t f (h.last).known place (ap (field_place b t) (sym slot) ∙ there) e (kind_how its_how e is) in
        subst (λ o. word b (target b place) 4 ≡ type_count b (type_place b t o)) (sym slot) n

    member_by : (ask : Ask) → task.ask ≡ ask → IsTaskable b p.rows t task.slot (field_place b t task.slot) ask → (j : ℕ) → j < ask_words b (Some place) ask → MemberStands b t task.slot j ask
    member_by AskText is able i less = tt
    member_by AskTexts is able i less = tt
    member_by (GoInto j) is able i less = tt
    member_by (GoIntoEach j) is able i less = tt
    member_by (AskUnion e) is able i less = able.1
    member_by (AskBytes held) is able i less = tt
    member_by (AskUnions e) is able i less = (able.0, omega (arith, less, counts_here e is))

    pub member_stands : (j : ℕ) → j < ask_words b (Some place) task.ask → MemberStands b t task.slot j task.ask
    member_stands j less = member_by task.ask refl taskable j less

    -- the link, by what is read
    pub link_read : (before : ℕ) → before ≡ ask_words b (Some place) task.ask - (fr.row).left - 1 → task_link b (fr.table).object t task before ≡ frame_link (wants_of p) b p.rows fr
    link_read before is =
        let n : before ≡ task_words b t task - (fr.row).left - 1 = omega (arith, is, its_words) in
        ap (task_link b (fr.table).object t task) n ∙ ap (link_behind b fr) (sym (h.last).found)

-- a task that is looked up
pub at_index : (ts : List Task) (i : ℕ) (d its : Task) → slice_get ts i ≡ Some its → slice_index_or ts i d ≡ its
at_index ts i d its h = get_or_from_slice_get ts i its d h
