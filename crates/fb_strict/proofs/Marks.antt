-- Objects are marked exactly where something is reached from their tables that is demanded.
use Rattle.std.proofs.Common.{◌≡◌, ◌↔◌, ℕ, zero, suc, ◌+◌, ◌<◌, ◌≤◌, List, [], ◌∷◌, ◌++◌, length, length-append, map, get_or, slice_get, inl, inr, Option, Some, None, Bool, true, false, sym, subst, ◌∙◌, ap, refl, arith}
use Rattle.std.specs.List.{list_any}
use Rattle.std.specs.Prelude.{◌||◌}
use Rattle.fb_strict.proofs.Lists.{or_by, or_first, or_later}
use Rattle.fb_strict.specs.{Demanded.Demanded, Leading.KindIsThere, Skipped.Wants, Skipped.is_member_asked, Skipped.some_member, Skipped.is_kind_asked, Skipped.has_held}
use Rattle.fb_strict.specs.{Skipped.has_asked, Skipped.reaches_demand, Skipped.ReachesDemand, Marking.AreClosed, declared.tasks.Task.Task, Planned.marked, Planned.marked_wants}
use Rattle.fb_strict.specs.Planned.{all_wants, tasks_in, AreFounded, AreMarks, AreTasks, OnePlanLaw}
use Rattle.std.proofs.lemmas.{Option.slice_get_past, Bool.cases_lt}
use Rattle.fb_schema.specs.declared.kinds.Kind.{Kind, TheVariants.Scalar, TheVariants.Text, TheVariants.Struct, TheVariants.Table, TheVariants.Union, TheVariants.Scalars}
use Rattle.fb_schema.specs.declared.kinds.Kind.TheVariants.{Texts, Structs, Tables, Unions}
use Rattle.fb_schema.specs.{Rows.Rows, Rows.Object, Rows.is_table, Rows.is_some_table, Live.Live, Live.live_in, Live.live_fields, Live.live_of_view, Members.member_of}
use Rattle.fb_schema.specs.{Served.IsServed, Served.KindHolds, declared.views.FieldView.FieldView}

-- an object that is no table has no live fields
no_fields_in : (S : Rows) (o : Option Object) → is_some_table o ≡ false → live_in S o ≡ []
no_fields_in S None h = refl
no_fields_in S (Some o) h = grind arith

pub no_fields : (S : Rows) (k : ℕ) → is_table S k ≡ false → live_fields S k ≡ []
unfolding live_fields
no_fields S k h = no_fields_in S (slice_get S.objects k) h

pub past_all : (S : Rows) (k : ℕ) → length S.objects ≤ k → is_table S k ≡ false
past_all S k h = ap is_some_table (slice_get_past S.objects k h)

module _ (D : Demanded) (S : Rows) where
  -- what is wanted where these objects are asked
  abbrev wants : (ℕ → Bool) → Wants
  wants asks = record { demands = D; asks = asks }

  -- and what is reached by fewer than n fields
  abbrev reaching : ℕ → Wants
  reaching n = wants (reaches_demand n D S)

  module _ (asks : ℕ → Bool) where
    module _ (founded : (k : ℕ) → asks k ≡ true → ReachesDemand D S k) where
      -- what is asked by these marks is reached by some number of fields
      found_member : (o : Option Kind) → is_member_asked (wants asks) o ≡ true → (n : ℕ) × (is_member_asked (reaching n) o ≡ true)
      found_member (Some (Table k)) h = founded k h
      found_member None h = absurd (grind arith)
      found_member (Some (Scalar s)) h = absurd (grind arith)
      found_member (Some Text) h = (0, h)
      found_member (Some (Struct k)) h = absurd (grind arith)
      found_member (Some (Union e)) h = absurd (grind arith)
      found_member (Some (Scalars s)) h = absurd (grind arith)
      found_member (Some Texts) h = absurd (grind arith)
      found_member (Some (Structs k)) h = absurd (grind arith)
      found_member (Some (Tables k)) h = absurd (grind arith)
      found_member (Some (Unions e)) h = absurd (grind arith)

      found_some : (e n : ℕ) → some_member (wants asks) S e n ≡ true → (m : ℕ) × (some_member (reaching m) S e n ≡ true)
      unfolding some_member
      found_some e zero h = absurd (grind arith)
      found_some e (suc n) h = elim (or_by (is_member_asked (wants asks) (member_of S e n)) (some_member (wants asks) S e n) h) [
        | inl own ↦ (let a = found_member (member_of S e n) own in (a.0, or_first (is_member_asked (reaching a.0) (member_of S e n)) (some_member (reaching a.0) S e n) a.1))
        | inr later ↦ (let a = found_some e n later in (a.0, or_later (is_member_asked (reaching a.0) (member_of S e n)) (some_member (reaching a.0) S e n) a.1))
      ]

      found_union : (e : ℕ) → (D.unions || some_member (wants asks) S e 256) ≡ true → (n : ℕ) × ((D.unions || some_member (reaching n) S e 256) ≡ true)
      found_union e h = elim (or_by D.unions (some_member (wants asks) S e 256) h) [
        | inl own ↦ (0, or_first D.unions (some_member (reaching 0) S e 256) own)
        | inr later ↦ (let a = found_some e 256 later in (a.0, or_later D.unions (some_member (reaching a.0) S e 256) a.1))
      ]

      found_kind : (kind : Kind) → is_kind_asked (wants asks) S kind ≡ true → (n : ℕ) × (is_kind_asked (reaching n) S kind ≡ true)
      found_kind (Table k) h = founded k h
      found_kind (Tables k) h = founded k h
      found_kind (Union e) h = found_union e h
      found_kind (Unions e) h = found_union e h
      found_kind (Scalar s) h = absurd (grind arith)
      found_kind Text h = (0, h)
      found_kind (Struct k) h = absurd (grind arith)
      found_kind (Scalars s) h = absurd (grind arith)
      found_kind Texts h = (0, h)
      found_kind (Structs k) h = absurd (grind arith)

      found_among : (fs : List Live) → list_any (λ (f : Live). is_kind_asked (wants asks) S f.kind) fs ≡ true → (n : ℕ) × (list_any (λ (f : Live). is_kind_asked (reaching n) S f.kind) fs ≡ true)
      found_among [] h = absurd (grind arith)
      found_among (f ∷ fs) h = elim (or_by (is_kind_asked (wants asks) S f.kind) (list_any (λ (f : Live). is_kind_asked (wants asks) S f.kind) fs) h) [
        | inl own ↦ (let a = found_kind f.kind own in (a.0, or_first (is_kind_asked (reaching a.0) S f.kind) (list_any (λ (f : Live). is_kind_asked (reaching a.0) S f.kind) fs) a.1))
        | inr later ↦ (let a = found_among fs later in (a.0, or_later (is_kind_asked (reaching a.0) S f.kind) (list_any (λ (f : Live). is_kind_asked (reaching a.0) S f.kind) fs) a.1))
      ]

      -- so it is from an object with such a field
      pub reaches : (k : ℕ) → has_asked (wants asks) S k ≡ true → ReachesDemand D S k
      unfolding reaches_demand
      reaches k h = elim (or_by (list_any (λ (f : Live). is_kind_asked (wants asks) S f.kind) (live_fields S k)) (has_held D S k) h) [
        | inl own ↦ (let a = found_among (live_fields S k) own in (suc a.0, or_first _ (has_held D S k) a.1))
        | inr held ↦ (suc 0, or_later _ (has_held D S k) held)
      ]

    -- marks that are closed have each object from which it is
    module _ (closed : (k : ℕ) → asks k ≡ false → has_asked (wants asks) S k ≡ false) where
      module _ (less : ℕ → Bool) (up : (k : ℕ) → less k ≡ true → asks k ≡ true) where
        more_or : (a b x y : Bool) → (a ≡ true → b ≡ true) → (x ≡ true → y ≡ true) → (a || x) ≡ true → (b || y) ≡ true
        more_or a b x y first later h = elim (or_by a x h) [ inl own ↦ or_first b y (first own) | inr more ↦ or_later b y (later more) ]

        more_member : (o : Option Kind) → is_member_asked (wants less) o ≡ true → is_member_asked (wants asks) o ≡ true
        more_member o h = grind (arith, up)

        more_some : (e n : ℕ) → some_member (wants less) S e n ≡ true → some_member (wants asks) S e n ≡ true
        unfolding some_member
        more_some e zero h = h
        more_some e (suc n) h = more_or _ _ _ _ (more_member (member_of S e n)) (more_some e n) h

        more_kind : (kind : Kind) → is_kind_asked (wants less) S kind ≡ true → is_kind_asked (wants asks) S kind ≡ true
        more_kind (Union e) h = more_or D.unions D.unions _ _ (λ x. x) (more_some e 256) h
        more_kind (Unions e) h = more_or D.unions D.unions _ _ (λ x. x) (more_some e 256) h
        more_kind (Table k) h = up k h
        more_kind (Tables k) h = up k h
        more_kind (Scalar s) h = h
        more_kind Text h = h
        more_kind (Struct k) h = h
        more_kind (Scalars s) h = h
        more_kind Texts h = h
        more_kind (Structs k) h = h

        more_among : (fs : List Live) → list_any (λ (f : Live). is_kind_asked (wants less) S f.kind) fs ≡ true → list_any (λ (f : Live). is_kind_asked (wants asks) S f.kind) fs ≡ true
        more_among [] h = h
        more_among (f ∷ fs) h = more_or _ _ _ _ (more_kind f.kind) (more_among fs) h

      not_left : (k : ℕ) (x : Bool) → asks k ≡ x → has_asked (wants asks) S k ≡ true → asks k ≡ true
      not_left k true is h = is
      not_left k false is h = absurd (let z = closed k is in let w : false ≡ true = sym z ∙ h in cc)

      pub reached : (n k : ℕ) → reaches_demand n D S k ≡ true → asks k ≡ true
      unfolding reaches_demand
      reached zero k h = absurd (grind arith)
      reached (suc n) k h = not_left k (asks k) refl (more_or (reaches_demand n D S) (reached n) _ _ _ _ (more_among (reaches_demand n D S) (reached n) (live_fields S k)) (λ x. x) h)

  -- marks that are founded and closed are exact
  pub exact : (marks : List Bool) → AreFounded D S marks → AreClosed D S marks → length marks ≡ length S.objects → AreMarks D S marks
  exact marks founded closed long = record { asked = λ k. (founded k, λ r. reached (marked marks) closed r.0 k r.1); long = long }

-- what is asked of fields alone doesn't ask slots
module _ (D : Demanded) (S : Rows) (marks : List Bool) where
  abbrev less : Wants
  less = all_wants (record D { known_fields = false }) marks

  abbrev plain : Wants
  plain = marked_wants D marks

  same_member : (o : Option Kind) → is_member_asked less o ≡ is_member_asked plain o
  same_member (Some (Table k)) = refl
  same_member None = refl
  same_member (Some (Scalar s)) = refl
  same_member (Some Text) = refl
  same_member (Some (Struct k)) = refl
  same_member (Some (Union e)) = refl
  same_member (Some (Scalars s)) = refl
  same_member (Some Texts) = refl
  same_member (Some (Structs k)) = refl
  same_member (Some (Tables k)) = refl
  same_member (Some (Unions e)) = refl

  same_some : (e n : ℕ) → some_member less S e n ≡ some_member plain S e n
  unfolding some_member
  same_some e zero = refl
  same_some e (suc n) = λ i. same_member (member_of S e n) i || same_some e n i

  same_kind : (kind : Kind) → is_kind_asked less S kind ≡ is_kind_asked plain S kind
  same_kind (Union e) = ap (λ x. D.unions || x) (same_some e 256)
  same_kind (Unions e) = ap (λ x. D.unions || x) (same_some e 256)
  same_kind (Table k) = refl
  same_kind (Tables k) = refl
  same_kind (Scalar s) = refl
  same_kind Text = refl
  same_kind (Struct k) = refl
  same_kind (Scalars s) = refl
  same_kind Texts = refl
  same_kind (Structs k) = refl

  pub same_own : (k : ℕ) → has_asked less S k ≡ has_asked plain S k
  same_own k = ap (λ test. list_any test (live_fields S k) || has_held D S k) (λ i (f : Live). same_kind f.kind i)

-- a list with an item more at its end
pub before : {X : Type 0} (xs : List X) (x : X) (k : ℕ) → k < length xs → slice_get (xs ++ x ∷ []) k ≡ slice_get xs k
before [] x k lt = absurd (omega arith)
before (y ∷ xs) x zero lt = refl
before (y ∷ xs) x (suc k) lt = before xs x k (omega arith)

pub last : {X : Type 0} (xs : List X) (x : X) (k : ℕ) → k ≡ length xs → slice_get (xs ++ x ∷ []) k ≡ Some x
last [] x zero e = refl
last [] x (suc k) e = absurd (omega arith)
last (y ∷ xs) x zero e = absurd (omega arith)
last (y ∷ xs) x (suc k) e = last xs x k (omega arith)

-- the union is there that a field of a table names
there_by : (S : Rows) (f : Live) (kind : Kind) → KindHolds S f kind → KindIsThere S kind
there_by S f (Union e) h = h
there_by S f (Unions e) h = h
there_by S f (Scalar s) h = tt
there_by S f Text h = tt
there_by S f (Struct k) h = tt
there_by S f (Table k) h = tt
there_by S f (Scalars s) h = tt
there_by S f Texts h = tt
there_by S f (Structs k) h = tt
there_by S f (Tables k) h = tt

map_get : {X Y : Type 0} (g : X → Y) (xs : List X) (i : ℕ) (d : X) → i < length xs → slice_get (map g xs) i ≡ Some (g (get_or xs i d))
map_get g [] i d lt = absurd (omega (arith, lt))
map_get g (x ∷ xs) zero d lt = refl
map_get g (x ∷ xs) (suc i) d lt = map_get g xs i d (omega (arith, lt))

pub kind_there : (S : Rows) (k : ℕ) (fields : List FieldView) (i : ℕ) (d : FieldView) → IsServed S → map live_of_view fields ≡ live_fields S k → i < length fields → KindIsThere S (get_or fields i d).kind
kind_there S k fields i d served same lt =
    let f = live_of_view (get_or fields i d) in
    there_by S f f.kind (served.kinds k i f (ap (λ fs. slice_get fs i) (sym same) ∙ map_get live_of_view fields i d lt))

-- the tasks of one object more
module _ (w : Wants) (S : Rows) (n : ℕ) where
  pub tasks_then : (tasks : List (List Task)) (ts : List Task) → AreTasks w S n tasks → ts ≡ tasks_in w S n (live_fields S n) → AreTasks w S (n + 1) (tasks ++ ts ∷ [])
  tasks_then tasks ts h is = record {
    long = length-append tasks (ts ∷ []) ∙ ap (λ m. m + 1) h.long;
    at = λ k lt. elim (cases_lt k n) [ inl below ↦ before tasks ts k (omega (arith, h.long)) ∙ h.at k below | inr here ↦ let at : k ≡ n = omega (arith, lt, here) in rw at (last tasks ts n (sym h.long) ∙ ap Some is) ];
  }

-- There is one plan.

-- lists with the same items
same_items : {X : Type 0} (xs ys : List X) → length xs ≡ length ys → ((k : ℕ) → k < length xs → slice_get xs k ≡ slice_get ys k) → xs ≡ ys
same_items [] [] long h = refl
same_items [] (y ∷ ys) long h = absurd (omega (arith, long))
same_items (x ∷ xs) [] long h = absurd (omega (arith, long))
same_items (x ∷ xs) (y ∷ ys) long h =
    let one : Some x ≡ Some y = h 0 (omega arith) in
    let first : x ≡ y = cc in
    let rest = same_items xs ys (omega (arith, long)) (λ k lt. h (suc k) (omega (arith, lt))) in
    rw (first, rest) refl

same_mark : (x y : Bool) → (x ≡ true → y ≡ true) → (y ≡ true → x ≡ true) → x ≡ y
same_mark true y to back = sym (to refl)
same_mark false true to back = back refl
same_mark false false to back = refl

-- marks that say the same objects
same_marks : (xs ys : List Bool) → length xs ≡ length ys → ((k : ℕ) → (marked xs k ≡ true) ↔ (marked ys k ≡ true)) → xs ≡ ys
same_marks [] [] long h = refl
same_marks [] (y ∷ ys) long h = absurd (omega (arith, long))
same_marks (x ∷ xs) [] long h = absurd (omega (arith, long))
same_marks (x ∷ xs) (y ∷ ys) long h =
    let first = same_mark x y (h 0).0 (h 0).1 in
    let rest = same_marks xs ys (omega (arith, long)) (λ k. h (suc k)) in
    rw (first, rest) refl

pub one_plan : OnePlanLaw
one_plan S D p q h i =
    let demands : p.demands ≡ q.demands = h.demands ∙ sym i.demands in
    let marks : p.marks ≡ q.marks = same_marks p.marks q.marks (h.marks ∙ sym i.marks) (λ k. ((λ m. (i.asked k).1 ((h.asked k).0 m)), (λ m. (h.asked k).1 ((i.asked k).0 m)))) in
    let tasks : p.tasks ≡ q.tasks =
    same_items p.tasks q.tasks (h.long ∙ sym i.long) (λ k lt.
    let within : k < length S.objects = subst (λ n. k < n) h.long lt in
    h.tasks k within ∙ ap Some (λ j. tasks_in (all_wants (demands j) (marks j)) S k (live_fields S k)) ∙ sym (i.tasks k within)) in
    λ j. record { demands = demands j; marks = marks j; tasks = tasks j }
