-- A frame of whose field no word is left: its next task, or its end.
use Rattle.std.proofs.Common.{◌≡◌, ℕ, zero, suc, ◌+◌, ◌-◌, ◌^◌, ◌<◌, ◌≤◌, IsTrue, List, [], ◌∷◌, ◌++◌, length, drop, Option, Some, None, Bool, true, false, if◌then◌else◌, ◌*◌, ◌⊎◌, Ok, Err, inl, inr, refl, sym, ap, subst, ◌∙◌, arith}
use Rattle.std.specs.{Prelude.slice_get, Borrow.Bor, Slice.IsItemAt, List.cons_option}
use Rattle.std.proofs.lemmas.{Bool.cases_lt, Option.slice_get_within, Option.slice_get_past, Option.slice_get-get_or}
use Rattle.fb_bytes.specs.Word.{Lent, word}
use Rattle.fb_schema.specs.declared.kinds.Kind.{Kind, TheVariants.Scalar, TheVariants.Text, TheVariants.Struct, TheVariants.Table, TheVariants.Union, TheVariants.Scalars}
use Rattle.fb_schema.specs.declared.kinds.Kind.TheVariants.{Texts, Structs, Tables, Unions}
use Rattle.fb_schema.specs.{Rows.Rows, Rows.is_table, Rows.is_some_table, Live.Live, Live.live_fields, declared.kinds.Scalar.TheVariants.UByte, Kinds.kind_size}
use Rattle.fb_rules.specs.declared.{checks.Checks.Checks, offset_row.Row.Row, site.Site.Site, site.Stop.Stop, site.Halt.Halt, site.LastLink.TheVariants.InField}
use Rattle.fb_rules.specs.{declared.table.Table.Table as TableOf, declared.link.Link.Link, Told.stopped, Places.field_place, Places.target, Fields.type_place, Links.element_of}
use Rattle.fb_rules.specs.{Links.type_of, Links.element_link, Links.field_link, Fields.entries, Tree.Elements, Tree.no_elements, Tree.element, Unfolds.ElementsUnfold}
use Rattle.fb_verify.specs.Stack.{link_to_number, own_link}
use Rattle.fb_rules.proofs.{Typed.present, Words.row_none}
use Rattle.fb_strict.specs.declared.{inner.Inner.Inner, room.Frame.Frame, tasks.Held.TheVariants.Buffer, tasks.Held.TheVariants.Flex, tasks.Ask.Ask, tasks.Task.Task}
use Rattle.fb_strict.specs.declared.tasks.Ask.TheVariants.{Text as AskText, Texts as AskTexts, Union as AskUnion, Unions as AskUnions, Table as GoInto, Tables as GoIntoEach}
use Rattle.fb_strict.specs.{declared.tasks.Ask.TheVariants.Bytes as AskBytes, Skipped.Wants, Skipped.is_kind_asked, Holding.held_in, Demanded.held_by, Demanded.held_of}
use Rattle.fb_strict.specs.{declared.tasks.Held.Held, Planned.ask_by, Planned.asked_of, Planned.task_of, Planned.tasks_in, Planned.wants_in, Planned.Planned, Planned.IsPlan}
use Rattle.fb_strict.specs.{Asked.Demand, Asked.row_leads, Asked.row_place, Asked.demands_in_fields, Asked.demands_in_row, Passing.Passing, Passing.IsPassing, Passing.BytesStand}
use Rattle.fb_strict.specs.Passing.{IsAskedRow, IsTaskable, IsKnown, IsLeft, ask_words, task_words, ask_element, ask_member, task_link, task_row, frame_link, frame_work, opened}
use Rattle.fb_strict.specs.Passing.{task_inner, IsTasked, IsInner, TaskDone, GoesOn, GoesIn, Stays, StopsHere, Breaks, wants_of}
use Rattle.fb_strict.proofs.{How.IsHeld, How.IsOfKind, How.how, Moving.met, Moving.unmet, Moving.told_there, Fields.asked_by, Fields.IsNextField, Fields.next_field}
use Rattle.fb_strict.proofs.{Fields.no_field, Fields.task_demand, Fields.IsTask, Fields.task_is, Words.IsPut, Words.put_none, Words.put, Words.all_put}

drop_at : {X : Type 0} (xs : List X) (i j : ℕ) (x : X) → slice_get xs i ≡ Some x → j ≡ i + 1 → drop i xs ≡ x ∷ drop j xs
drop_at [] i j x h e = absurd (cc)
drop_at (y ∷ xs) zero zero x h e = absurd (omega arith)
drop_at (y ∷ xs) zero (suc j) x h e = let same : y ≡ x = cc in let none : j ≡ 0 = omega arith in rw (same, none) refl
drop_at (y ∷ xs) (suc i) zero x h e = absurd (omega arith)
drop_at (y ∷ xs) (suc i) (suc j) x h e = drop_at xs i j x h (omega arith)

drop_past : {X : Type 0} (xs : List X) (i : ℕ) → slice_get xs i ≡ None → drop i xs ≡ []
drop_past [] zero h = refl
drop_past [] (suc i) h = refl
drop_past (y ∷ xs) zero h = absurd (cc)
drop_past (y ∷ xs) (suc i) h = drop_past xs i h

-- a field that is known can be asked
module _ (p : Passing) (b : List ℕ) (t : ℕ) (f : Live) (known : IsKnown p.checks b p.rows t f) where
  pub taskable_by : (kind : Kind) → f.kind ≡ kind → (ask : Ask) → ask_by kind ≡ Some ask → IsTaskable b p.rows t f.slot (field_place b t f.slot) ask
  taskable_by (Table j) kind ask h = let same : GoInto j ≡ ask = cc in subst (λ (x : Ask). IsTaskable b p.rows t f.slot (field_place b t f.slot) x) same tt
  taskable_by (Tables j) kind ask h =
      let same : GoIntoEach j ≡ ask = cc in
      subst (λ (x : Ask). IsTaskable b p.rows t f.slot (field_place b t f.slot) x) same
      (λ q is. let v = present p.checks b p.rows t f q (Tables j) known.own is kind in record { offset = (v.offset).within; count = (v.vector).count })
  taskable_by (Union e) kind ask h =
      let same : AskUnion e ≡ ask = cc in subst (λ (x : Ask). IsTaskable b p.rows t f.slot (field_place b t f.slot) x) same (rw kind at known.kind, rw kind at known.typed)
  taskable_by (Unions e) kind ask h =
      let same : AskUnions e ≡ ask = cc in
      subst (λ (x : Ask). IsTaskable b p.rows t f.slot (field_place b t f.slot) x) same (
        rw kind at known.typed,
        λ q is. let v = (present p.checks b p.rows t f q (Unions e) known.own is kind).field in record { offset = (v.offset).within; count = (v.vector).count },
      )
  taskable_by (Scalar s) kind ask h = absurd (cc)
  taskable_by Text kind ask h = let same : AskText ≡ ask = cc in subst (λ (x : Ask). IsTaskable b p.rows t f.slot (field_place b t f.slot) x) same tt
  taskable_by (Struct j) kind ask h = absurd (cc)
  taskable_by (Scalars s) kind ask h = absurd (cc)
  taskable_by Texts kind ask h =
      let same : AskTexts ≡ ask = cc in
      subst (λ (x : Ask). IsTaskable b p.rows t f.slot (field_place b t f.slot) x) same
      (λ q is. let v = present p.checks b p.rows t f q Texts known.own is kind in record { offset = (v.offset).within; count = (v.vector).count })
  taskable_by (Structs j) kind ask h = absurd (cc)

-- and so can one that holds something
module _ (p : Passing) (b : List ℕ) (plan : IsPlan p.rows (p.plan).demands p.plan) (k t : ℕ) (f : Live) (known : IsKnown p.checks b p.rows t f) where
  byte_size : f.kind ≡ Scalars UByte → f.size ≡ 1
  byte_size kind = (known.sized).size ∙ ap (kind_size p.rows) kind

  bytes_stand : f.kind ≡ Scalars UByte → (q : ℕ) → field_place b t f.slot ≡ Some q → BytesStand b q
  bytes_stand kind q is =
      let v = present p.checks b p.rows t f q (Scalars UByte) known.own is kind in
      let size = byte_size kind in
      let within = (v.vector).within in
      record { vector = record { offset = (v.offset).within; count = (v.vector).count }; within = bytes_within (target b q + 4) (word b (target b q) 4) f.size (length b) size within }
    where
      bytes_within : (at n size len : ℕ) → size ≡ 1 → at + n * size ≤ len → at + n ≤ len
      bytes_within at n size len one h = let same : n * size ≡ n * 1 = ap (λ m. n * m) one in omega (arith, same, h)

  taskable_bytes : (held : Held) → held_in (p.plan).demands.holds k f.slot ≡ Some held → f.kind ≡ Scalars UByte → IsTaskable b p.rows t f.slot (field_place b t f.slot) (AskBytes held)
  taskable_bytes Flex is kind = tt
  taskable_bytes (Buffer root) is kind = (plan.held k f.slot root is, bytes_stand kind)

  held_at : (held : Held) → held_of (p.plan).demands k f ≡ Some held → f.kind ≡ Scalars UByte → held_in (p.plan).demands.holds k f.slot ≡ Some held
  held_at held is kind = sym (ap (held_by (held_in (p.plan).demands.holds k f.slot)) kind) ∙ is

  pub taskable_how : (ask : Ask) → IsHeld (wants_of p) p.rows k f ask ⊎ IsOfKind (wants_of p) p.rows k f ask → IsTaskable b p.rows t f.slot (field_place b t f.slot) ask
  taskable_how ask (inl h) = rw h.same (taskable_bytes h.held (held_at h.held h.is h.kind) h.kind)
  taskable_how ask (inr h) = taskable_by p b t f known f.kind refl ask (asked_by (wants_of p) p.rows f.kind ask h.is)

from_none : {n k : ℕ} → n ≡ k → 0 + n ≡ k
from_none h = omega (arith, h)

-- the words of a field that is asked are put
module _ (p : Passing) (b : List ℕ) (holds : IsPassing p b) (way : ℕ → List Link) (k t : ℕ) (f : Live) (words : Elements) (old : Row) (rests : old.left ≡ 0) (asked : IsAskedRow p b old) (known : IsKnown p.checks b p.rows t f) where
  asked_kind : (x : Bool) (o : Option Ask) (ask : Ask) → (if x then o else None) ≡ Some ask → x ≡ true
  asked_kind true o ask h = refl
  asked_kind false o ask h = absurd (cc)

  pub put_how : (ask : Ask) → IsHeld (wants_of p) p.rows k f ask ⊎ IsOfKind (wants_of p) p.rows k f ask → ElementsUnfold words p.checks b p.rows (entries b p.rows t f)
      → IsPut p b holds words way k f.number (row_place b (field_place b t f.slot) f.kind) (row_leads (wants_of p) b p.rows (type_place b t f.slot) f.kind) (task_row (wants_of p) b p.rows (type_place b t f.slot) (field_place b t f.slot) ask old)
  put_how ask (inl h) u = rw h.same (put_none p b holds way k t f words old rests asked known h.held h.kind u)
  put_how ask (inr h) u = put p b holds way k t f words old rests asked known ask (asked_kind (is_kind_asked (wants_of p) p.rows f.kind) (ask_by f.kind) ask h.is) (asked_by (wants_of p) p.rows f.kind ask h.is) u

-- the link through a word of a field, by its task
module _ (w : Wants) (c : Checks) (b : List ℕ) (S : Rows) (via : List Link) (k t : ℕ) (f : Live) (task : Task) (is : IsTask c b S w via k t f task) (j : ℕ) where
  same_element : (kind : Kind) (ask : Ask) → ask_by kind ≡ Some ask → element_of j kind ≡ ask_element j ask
  same_element kind ask h = grind arith

  same_member : (kind : Kind) (ask : Ask) → ask_by kind ≡ Some ask → type_of b t f j kind ≡ ask_member b (type_place b t f.slot) j ask
  same_member kind ask h = grind arith

  element_how : IsHeld w S k f task.ask ⊎ IsOfKind w S k f task.ask → element_of j f.kind ≡ ask_element j task.ask
  element_how (inl h) = ap (element_of j) h.kind ∙ sym (ap (ask_element j) h.same)
  element_how (inr h) = same_element f.kind task.ask (asked_by w S f.kind task.ask h.is)

  member_how : IsHeld w S k f task.ask ⊎ IsOfKind w S k f task.ask → type_of b t f j f.kind ≡ ask_member b (type_place b t f.slot) j task.ask
  member_how (inl h) = ap (type_of b t f j) h.kind ∙ sym (ap (ask_member b (type_place b t f.slot) j) h.same)
  member_how (inr h) = same_member f.kind task.ask (asked_by w S f.kind task.ask h.is)

  link_is : element_link b k t f j ≡ task_link b k t task j
  link_is =
      let number = sym is.number in
      let asked = how w S k f task.ask is.ask in
      let its_element = element_how asked in
      let its_member = member_how asked ∙ ap (λ o. ask_member b (type_place b t o) j task.ask) (sym is.slot) in
      λ i. record { object = k; field = number i; element = its_element i; member = its_member i }

module _ (p : Passing) (b : List ℕ) (holds : IsPassing p b) (room : ℕ) (via : List Link) (fr : Frame) (ds : List Demand) (l : IsLeft p b room via fr ds) (rests : (fr.row).left ≡ 0) where
  abbrev k : ℕ
  k = (fr.table).object

  abbrev t : ℕ
  t = (fr.table).at

  abbrev tasks : List Task
  tasks = tasks_in (wants_of p) p.rows k (live_fields p.rows k)

  abbrev of_fields : List Demand
  of_fields = demands_in_fields l.kids (wants_of p) p.checks b p.rows via k t l.fields

  -- its row stands for nothing
  only_fields : (words : Elements) → ElementsUnfold words p.checks b p.rows [] → ds ≡ demands_in_row words (wants_of p) p.checks b p.rows l.way k fr.number l.passed (fr.row).place (fr.row).leads ++ of_fields → ds ≡ of_fields
  unfolding ElementsUnfold demands_in_row
  only_fields no_elements u all = all
  only_fields (element y ys) u all = absurd u

  fields_left : ds ≡ of_fields
  fields_left = only_fields l.words (subst (λ xs. ElementsUnfold l.words p.checks b p.rows xs) (row_none b p.rows fr.row rests) l.row) l.all

  -- the frame after its next task
  abbrev pub after_task : Task → Frame
  after_task task = record {
    table = fr.table;
    next = fr.next + 1;
    number = task.number;
    row = task_row (wants_of p) b p.rows (type_place b t task.slot) (field_place b t task.slot) task.ask fr.row;
  }

  pub record IsAtTask (task : Task) : Type 0 where
    pub taskable : IsTaskable b p.rows t task.slot (field_place b t task.slot) task.ask
    pub left : List Demand
    pub frame : IsLeft p b room via (after_task task) left
    pub all : ds ≡ task_demand p.checks b p.rows (wants_of p) via k t (via ++ link_to_number k (Some task.number)) task.number task.slot (type_place b t task.slot) (field_place b t task.slot) task.ask ∷ left
    pub falls : frame_work p (after_task task) < frame_work p fr
    pub last : IsTasked (wants_of p) p.checks b p.rows fr.table (fr.next + 1)
    pub its : last.task ≡ task

  at_field : (task : Task) → slice_get tasks fr.next ≡ Some task → (f : IsNextField p.checks b p.rows (wants_of p) via k t l.kids l.fields task (drop (fr.next + 1) tasks)) → (n : ℕ) → n ≡ (f.field).number → (o : ℕ) → o ≡ (f.field).slot → (ask : Ask)
      → asked_of (wants_of p) p.rows k f.field ≡ Some ask → task ≡ record { number = n; slot = o; ask = ask } → IsTask p.checks b p.rows (wants_of p) via k t f.field task → IsAtTask task
  at_field task found f n number o slot ask is same i =
      let way = λ (j : ℕ). via ++ element_link b k t f.field j ∷ [] in
      let asked = how (wants_of p) p.rows k f.field ask is in
      let g = put_how p b holds way k t f.field f.words fr.row rests l.asked f.known ask asked f.unfolds in
      let its_demand = λ (x : Ask). task_demand p.checks b p.rows (wants_of p) via k t (via ++ field_link k f.field ∷ []) (f.field).number (f.field).slot (type_place b t (f.field).slot) (field_place b t (f.field).slot) x in
      let near = (g.asked).near in
      let within = slice_get_within tasks fr.next task found in
      let own = taskable_how p b holds.plan k t f.field f.known ask asked in
      let all_words = all_put p b holds way k t f.field f.words fr.row rests l.asked f.known in
      let here : fr.next + 1 - 1 ≡ fr.next = omega arith in
      let asks_same : ask ≡ task.ask = (let e = sym is ∙ i.ask in cc) in
      let last : IsTasked (wants_of p) p.checks b p.rows fr.table (fr.next + 1) = record { object = l.object; near = l.near; head = l.head; some = omega arith; task = task; found = rw here found; field = f.field; its = f.its; known = f.known } in
      let words_same : ask_words b (field_place b t (f.field).slot) ask ≡ task_words b t task = rw (asks_same, i.slot) refl in
      rw (same, number, slot) (record {
        taskable = own;
        left = demands_in_row g.left (wants_of p) p.checks b p.rows way k (f.field).number 0 _ _ ++ demands_in_fields f.others_kids (wants_of p) p.checks b p.rows via k t f.others;
        frame = record {
          object = l.object;
          near = l.near;
          head = l.head;
          fields = f.others;
          known = f.others_known;
          tasks = f.tasks;
          kids = f.others_kids;
          unfolds = f.others_unfold;
          words = g.left;
          row = g.unfolds;
          asked = g.asked;
          deep = omega (arith, l.deep, f.deep, g.deep);
          way = way;
          passed = 0;
          linked = λ m. record {
            last = last;
            count = from_none (all_words (field_place b t (f.field).slot) ask m ∙ words_same);
            through = λ j. ap (λ x. via ++ x ∷ []) (link_is (wants_of p) p.checks b p.rows via k t f.field task i j);
          };
          all = refl;
        };
        all = fields_left ∙ f.all ∙ (λ i. its_demand (sym asks_same i) ∷ (g.same i ++ demands_in_fields f.others_kids (wants_of p) p.checks b p.rows via k t f.others));
        falls = omega (arith, near, within);
        last = last;
        its = same ∙ (λ i. record { number = number i; slot = slot i; ask = ask });
      })

  pub at_task : (task : Task) → slice_get tasks fr.next ≡ Some task → IsAtTask task
  at_task task found =
      let f = next_field p.checks b p.rows (wants_of p) via k t task (drop (fr.next + 1) tasks) l.kids l.fields l.unfolds l.known (sym l.tasks ∙ drop_at tasks fr.next (fr.next + 1) task found refl) in
      let i = task_is p.checks b p.rows (wants_of p) via k t f.field task f.its in
      at_field task found f task.number i.number task.slot i.slot task.ask i.ask refl i

  pub at_end : slice_get tasks fr.next ≡ None → ds ≡ []
  at_end past = fields_left ∙ no_field p.checks b p.rows (wants_of p) via k t l.kids l.fields l.unfolds (sym l.tasks ∙ drop_past tasks fr.next past)

-- The task was done.
module _ (p : Passing) (m new : Lent) (holds : IsPassing p m.bytes) (room : ℕ) (via : List Link) (fr : Frame) (ds : List Demand) (l : IsLeft p m.bytes room via fr ds) (rests : (fr.row).left ≡ 0) (task : Task)
    (found : slice_get (tasks_in (wants_of p) p.rows (fr.table).object (live_fields p.rows (fr.table).object)) fr.next ≡ Some task) where
  abbrev here : Site
  here = record { object = (fr.table).object; field = Some task.number }

  abbrev its_demand : Demand
  its_demand = task_demand p.checks m.bytes p.rows (wants_of p) via (fr.table).object (fr.table).at (via ++ link_to_number (fr.table).object (Some task.number)) task.number task.slot (type_place m.bytes (fr.table).at task.slot) (field_place m.bytes (fr.table).at task.slot) task.ask

  pub stays_at : (row : Row) → TaskDone p m new (fr.table).at here task.slot task.ask fr.row row (Ok None) → Stays p m new room via ds fr (record { table = fr.table; next = fr.next + 1; number = task.number; row = row })
  stays_at row h =
      let a = at_task p m.bytes holds room via fr ds l rests task found in
      rw (h.passed).row (record {
        left = a.left;
        on = subst (λ xs. GoesOn p m new xs a.left) (sym a.all) (met p m new its_demand a.left {A = Option Inner} None (Ok None) (sym h.inner) refl (h.passed).asked);
        frame = a.frame;
        falls = a.falls;
      })

  -- the link to a buffer inside
  link_in : (fr' : Frame) (root : ℕ) → fr'.table ≡ fr.table → task.ask ≡ AskBytes (Buffer root) → slice_get (tasks_in (wants_of p) p.rows (fr.table).object (live_fields p.rows (fr.table).object)) (fr'.next - 1) ≡ Some task
      → link_to_number (fr.table).object (Some task.number) ≡ frame_link (wants_of p) m.bytes p.rows fr' ∷ []
  link_in fr' root table is found = rw (table, found, is) refl

  -- the task's field holds a buffer
  record IsInside (i : Inner) : Type 0 where
    root : ℕ
    is : task.ask ≡ AskBytes (Buffer root)
    place : ℕ
    there : field_place m.bytes (fr.table).at task.slot ≡ Some place
    inner : IsInner p m.bytes i

  buffer_by : (i : Inner) (ask : Ask) → task.ask ≡ ask → (o : Option ℕ) → field_place m.bytes (fr.table).at task.slot ≡ o → Some i ≡ task_inner m.bytes ask o → IsTaskable m.bytes p.rows (fr.table).at task.slot o ask → IsInside i
  buffer_by i (AskBytes (Buffer k)) is (Some q) there h able =
      let stands = able.1 q refl in
      let within = stands.within in
      let same : record { at = target m.bytes q + 4; size = word m.bytes (target m.bytes q) 4; root = k } ≡ i = cc in
      record { root = k; is = is; place = q; there = there; inner = subst (IsInner p m.bytes) same (record { within = within; table = able.0 }) }
  buffer_by i (AskBytes (Buffer k)) is None there h able = absurd (cc)
  buffer_by i (AskBytes Flex) is o there h able = absurd (cc)
  buffer_by i AskText is o there h able = absurd (cc)
  buffer_by i AskTexts is o there h able = absurd (cc)
  buffer_by i (GoInto k) is o there h able = absurd (cc)
  buffer_by i (GoIntoEach k) is o there h able = absurd (cc)
  buffer_by i (AskUnion e) is o there h able = absurd (cc)
  buffer_by i (AskUnions e) is o there h able = absurd (cc)

  word_in : (root place : ℕ) (ask : Ask) (o : Option ℕ) → ask ≡ AskBytes (Buffer root) → o ≡ Some place → (task_row (wants_of p) m.bytes p.rows (type_place m.bytes (fr.table).at task.slot) o ask fr.row).left < ask_words m.bytes o ask
  word_in root place ask o is there = rw (is, there) (omega (arith, rests))

  pub goes_in_at : (row : Row) (i : Inner) → TaskDone p m new (fr.table).at here task.slot task.ask fr.row row (Ok (Some i)) → GoesIn p m new room via ds fr (record { table = fr.table; next = fr.next + 1; number = task.number; row = row }) i
  goes_in_at row i h =
      let a = at_task p m.bytes holds room via fr ds l rests task found in
      let x = buffer_by i task.ask refl (field_place m.bytes (fr.table).at task.slot) refl h.inner a.taskable in
      let past = after_task p m.bytes holds room via fr ds l rests task in
      let asked = (h.passed).asked in
      let next : fr.next + 1 - 1 ≡ fr.next = omega arith in
      let counted = ap (λ (m' : Lent). m'.count) asked.counted in
      rw (h.passed).row (record {
        it = its_demand;
        left = a.left;
        all = a.all;
        meets = record { inner = sym h.inner; stands = x.inner; chain = asked.ok; count = counted; allowed = asked.reads };
        same = asked.counted ∙ ap (λ n. record m { count = n }) (sym counted);
        frame = a.frame;
        linked = record { last = a.last; more = subst (λ k. (past.row).left < task_words m.bytes (fr.table).at k) (sym a.its) (word_in x.root x.place task.ask (field_place m.bytes (fr.table).at task.slot) x.is x.there) };
        way = ap (λ ls. via ++ ls) (link_in past x.root refl x.is (rw next found));
        falls = a.falls;
      })

  pub stops_at : (row : Row) (s : Stop) → TaskDone p m new (fr.table).at here task.slot task.ask fr.row row (Err s) → Breaks p.limits m.count ds (stopped s new.count) (via ++ own_link (stopped s new.count))
  stops_at row s d =
      let h = d.passed in
      let a = at_task p m.bytes holds room via fr ds l rests task found in
      let b = unmet p m new its_demand a.left {A = Option Inner} s (Err s) refl h.asked in
      let there = told_there p m new its_demand a.left {A = Option Inner} s (Err s) refl h.asked in
      let own : via ++ own_link (stopped s new.count) ≡ via ++ link_to_number (fr.table).object (Some task.number) = λ i. via ++ link_to_number (there.0 i) (there.1 i) in
      rw (a.all, own) b

-- it stops in its field
one_less : (n : ℕ) → 0 < n → n - 1 + 1 ≡ n
one_less n h = omega (arith, h)

pub halts_in : (p : Passing) (m new : Lent) (via : List Link) (many : ℕ) (ds : List Demand) (past : Frame) (s : Stop) (h : Halt) → 0 < many → h ≡ record { stop = s; links = many - 1; last = InField }
    → Breaks p.limits m.count ds (stopped s new.count) (via ++ own_link (stopped s new.count)) → StopsHere p m new via many ds past h h.last
halts_in p m new via many ds past s h some is b = subst (λ (x : Halt). StopsHere p m new via many ds past x x.last) (sym is) (one_less many some, b)

-- the tasks of an object, as the plan has them
pub within_objects : (S : Rows) (k : ℕ) → IsTrue (is_table S k) → k < length S.objects
within_objects S k h = elim (cases_lt k (length S.objects)) [ inl lt ↦ lt | inr past ↦ absurd (let none = ap is_some_table (slice_get_past S.objects k past) in let w : true ≡ false = sym h ∙ none in cc) ]

pub tasks_are : (S : Rows) (plan : Planned) (k : ℕ) (ts : List Task) → IsPlan S plan.demands plan → IsTrue (is_table S k) → slice_get plan.tasks k ≡ Some ts → ts ≡ tasks_in (wants_in plan) S k (live_fields S k)
tasks_are S plan k ts h is e = let same = sym e ∙ h.tasks k (within_objects S k is) in cc

-- what `get` lends of a slice
pub item_some : {A : Type 0} (xs : List A) (i : ℕ) (r : Option (Bor A)) (x : Bor A) → IsItemAt xs i r → r ≡ Some x → slice_get xs i ≡ Some x.now
item_some xs i r x h e =
    let g = subst (λ o. IsItemAt xs i o) e h in
    slice_get-get_or xs i x.now g.3.0 ∙ ap Some (sym (g.4 (omega arith) x.now))

-- tasks are few

few_by : (w : Wants) (S : Rows) (k : ℕ) (f : Live) (fs : List Live) (o : Option Task) → length (tasks_in w S k fs) ≤ length fs → length (cons_option o (tasks_in w S k fs)) ≤ length fs + 1
few_by w S k f fs None h = omega (arith, h)
few_by w S k f fs (Some x) h = omega (arith, h)

pub few_tasks : (w : Wants) (S : Rows) (k : ℕ) (fs : List Live) → length (tasks_in w S k fs) ≤ length fs
few_tasks w S k [] = omega arith
few_tasks w S k (f ∷ fs) = omega (arith, few_by w S k f fs (task_of w S k f) (few_tasks w S k fs))

pub opened_few : (p : Passing) (b : List ℕ) (table : TableOf) → IsPassing p b → frame_work p (opened table) < 2 ^ 48
opened_few p b table holds = let few = few_tasks (wants_of p) p.rows table.object (live_fields p.rows table.object) in let most = (holds.served).few table.object in omega (arith, few, most)
