-- The plan of a pass: which objects are asked, and of each what is asked of its fields.
use Rattle.std.specs.Prelude.{◌≡◌, ◌↔◌, ◌<◌, ℕ, Bool, true, false, ◌||◌, if◌then◌else◌, List, length, slice_get, slice_index_or, filter_map, Option, Some, None, option_map, IsTrue}
use Rattle.fb_schema.specs.declared.kinds.Kind.{Kind, TheVariants.Text, TheVariants.Table, TheVariants.Union, TheVariants.Texts, TheVariants.Tables, TheVariants.Unions}
use Rattle.fb_schema.specs.{Rows.Rows, Rows.is_table, Live.Live, Live.live_fields}
use Rattle.fb_strict.specs.declared.tasks.{Ask.Ask, Task.Task, Ask.TheVariants.Text as AskText, Ask.TheVariants.Texts as AskTexts, Ask.TheVariants.Union as AskUnion}
use Rattle.fb_strict.specs.declared.tasks.Ask.TheVariants.{Unions as AskUnions, Table as GoInto, Tables as GoIntoEach, Bytes as AskBytes}
use Rattle.fb_strict.specs.{declared.tasks.Held.TheVariants.Buffer, Demanded.Demanded, Demanded.held_of, Holding.held_in, Skipped.Wants, Skipped.is_kind_asked}
use Rattle.fb_strict.specs.Skipped.{ReachesDemand}
use Rattle.fb_rules.specs.Order.{◌▷◌}

-- which objects these marks say
abbrev pub marked : List Bool → ℕ → Bool
marked marks k = slice_index_or marks k false

-- what is wanted where they say which are asked
abbrev pub marked_wants : Demanded → List Bool → Wants
marked_wants D marks = record { demands = D; asks = marked marks }

-- the same where all are whose slots are
abbrev pub all_wants : Demanded → List Bool → Wants
all_wants D marks = record { demands = D; asks = λ k. D.known_fields || marked marks k }

-- what is asked of a field of this kind, if anything is
abbrev pub ask_by : Kind → Option Ask
ask_by Text = Some AskText
ask_by (Table k) = Some (GoInto k)
ask_by (Union e) = Some (AskUnion e)
ask_by Texts = Some AskTexts
ask_by (Tables k) = Some (GoIntoEach k)
ask_by (Unions e) = Some (AskUnions e)
ask_by _ = None

abbrev pub ask_of : Wants → Rows → Kind → Option Ask
ask_of w S kind = if is_kind_asked w S kind then ask_by kind else None

-- what is asked of the field f of the object k: what its bytes hold, or else by its kind
abbrev pub asked_of : Wants → Rows → ℕ → Live → Option Ask
asked_of w S k f = option_map AskBytes (held_of w.demands k f) ▷ ask_of w S f.kind

-- the task of a field of which this is asked
abbrev pub task_with : Live → Ask → Task
task_with f ask = record { number = f.number; slot = f.slot; ask = ask }

abbrev pub task_of : Wants → Rows → ℕ → Live → Option Task
task_of w S k f = option_map (task_with f) (asked_of w S k f)

-- the tasks of these fields of the object k, in their order
abbrev pub tasks_in : Wants → Rows → ℕ → List Live → List Task
tasks_in w S k fs = filter_map (task_of w S k) fs

-- what is demanded, which objects are asked, and the tasks of each
pub record Planned : Type 0 where
  pub demands : Demanded
  pub marks : List Bool
  pub tasks : List (List Task)

abbrev pub wants_in : Planned → Wants
wants_in p = all_wants p.demands p.marks

-- a buffer that a field holds has a root table
abbrev pub HoldsTables : Rows → Demanded → Type 0
HoldsTables S D = (k slot root : ℕ) → held_in D.holds k slot ≡ Some (Buffer root) → IsTrue (is_table S root)

-- the plan of these rows, for what is demanded: exactly the objects are marked from whose tables something is reached
-- that is demanded of fields
pub record IsPlan (S : Rows) (D : Demanded) (p : Planned) : Type 0 where
  pub demands : p.demands ≡ D
  pub asked : (k : ℕ) → (marked p.marks k ≡ true) ↔ ReachesDemand D S k
  pub marks : length p.marks ≡ length S.objects
  pub held : HoldsTables S p.demands
  pub long : length p.tasks ≡ length S.objects
  pub tasks : (k : ℕ) → k < length S.objects → slice_get p.tasks k ≡ Some (tasks_in (wants_in p) S k (live_fields S k))

-- there is no other
abbrev pub OnePlanLaw : Type 0
OnePlanLaw = (S : Rows) (D : Demanded) (p q : Planned) → IsPlan S D p → IsPlan S D q → p ≡ q

-- while it is made: what is demanded is reached from each object that is marked
abbrev pub AreFounded : Demanded → Rows → List Bool → Type 0
AreFounded D S marks = (k : ℕ) → marked marks k ≡ true → ReachesDemand D S k

-- exactly those are marked
pub record AreMarks (D : Demanded) (S : Rows) (marks : List Bool) : Type 0 where
  pub asked : (k : ℕ) → (marked marks k ≡ true) ↔ ReachesDemand D S k
  pub long : length marks ≡ length S.objects

-- the tasks of so many objects
pub record AreTasks (w : Wants) (S : Rows) (n : ℕ) (tasks : List (List Task)) : Type 0 where
  pub long : length tasks ≡ n
  pub at : (k : ℕ) → k < n → slice_get tasks k ≡ Some (tasks_in w S k (live_fields S k))
