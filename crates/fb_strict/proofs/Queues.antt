-- The queue of the objects that are marked, and the marks once each of them was followed.
use Rattle.std.proofs.Common.{◌≡◌, ◌⊎◌, inl, inr, ℕ, zero, suc, ◌+◌, ◌<◌, ◌≤◌, List, [], ◌∷◌, ◌++◌, length, length-append, replicate, slice_get, get_or, Option, Some, None, Bool, true, false, not, cond, sym, ◌∙◌, ap, subst, refl, arith}
use Rattle.std.specs.List.{list_any, count_by}
use Rattle.std.specs.Prelude.{◌||◌, is_some}
use Rattle.fb_strict.proofs.{Lists.or_by, Lists.or_first, Lists.or_later, Marks.no_fields, Marks.past_all, Marks.before, Marks.last, Marks.reaches, Leading.none_on}
use Rattle.fb_strict.proofs.Leading.{first_or_later}
use Rattle.fb_strict.specs.{Demanded.Demanded, Demanded.flags, Demanded.held_of, declared.leads.Edge.Edge, Leading.MemberLeads, Leading.KindLeads, Leading.OneOf, Leading.LeadsTo}
use Rattle.fb_strict.specs.{Leading.IsOn, Leading.is_first, Leading.is_later, Marking.IsQueue, Marking.NoneMarked, Marking.Grew, Marking.Spread, Marking.AreClosed}
use Rattle.fb_strict.specs.{Marking.OwnMarked, Planned.marked, Planned.marked_wants, Planned.AreFounded, Skipped.Wants, Skipped.is_member_asked, Skipped.some_member}
use Rattle.fb_strict.specs.Skipped.{is_kind_asked, has_held, has_asked, ReachesDemand}
use Rattle.std.proofs.{Math.ListN.set, lemmas.List.length-set, lemmas.List.length-replicate, lemmas.List.Sums.sum_by-set, lemmas.Option.slice_get_within}
use Rattle.std.proofs.lemmas.{Option.slice_get-get_or, Bool.cases_lt, Bool.cases_Bool}
use Rattle.fb_schema.specs.declared.kinds.Kind.{Kind, TheVariants.Scalar, TheVariants.Text, TheVariants.Struct, TheVariants.Table, TheVariants.Union, TheVariants.Scalars}
use Rattle.fb_schema.specs.declared.kinds.Kind.TheVariants.{Texts, Structs, Tables, Unions}
use Rattle.fb_schema.specs.{Rows.Rows, Rows.is_table, Live.Live, Live.live_fields, Members.member_of}

-- marks

marked_then : (marks : List Bool) (k j : ℕ) → marked (set marks k true) j ≡ true → (j ≡ k) ⊎ (marked marks j ≡ true)
marked_then [] k j h = absurd (grind arith)
marked_then (m ∷ ms) zero zero h = inl refl
marked_then (m ∷ ms) zero (suc j) h = inr h
marked_then (m ∷ ms) (suc k) zero h = inr h
marked_then (m ∷ ms) (suc k) (suc j) h = elim (marked_then ms k j h) [ inl e ↦ inl (ap suc e) | inr l ↦ inr l ]

marked_still : (marks : List Bool) (k j : ℕ) → marked marks j ≡ true → marked (set marks k true) j ≡ true
marked_still [] k j h = h
marked_still (m ∷ ms) zero zero h = refl
marked_still (m ∷ ms) zero (suc j) h = h
marked_still (m ∷ ms) (suc k) zero h = h
marked_still (m ∷ ms) (suc k) (suc j) h = marked_still ms k j h

marked_at : (marks : List Bool) (k : ℕ) → k < length marks → marked (set marks k true) k ≡ true
marked_at [] k lt = absurd (omega arith)
marked_at (m ∷ ms) zero lt = refl
marked_at (m ∷ ms) (suc k) lt = marked_at ms k (omega arith)

none_marked : (n k : ℕ) → marked (replicate n false) k ≡ true → ⊥
none_marked zero k h = absurd (grind arith)
none_marked (suc n) zero h = absurd (grind arith)
none_marked (suc n) (suc k) h = none_marked n k h

-- fewer objects are left
abbrev left : Bool → ℕ
left m = cond (not m) 1 0

one_fewer : (marks : List Bool) (k : ℕ) → k < length marks → marked marks k ≡ false → count_by not (set marks k true) + 1 ≡ count_by not marks
one_fewer marks k lt is =
    let moved = sum_by-set left marks k true false lt in
    let one = ap (λ m. left m) is in
    omega (arith, moved, one)

-- the queue

module _ (P : ℕ → Type 0) (marks : List Bool) (queue : List ℕ) where
  pub grew_none : IsQueue marks queue → Grew P marks queue marks queue
  grew_none q = record { queued = q; long = refl; kept = λ k h. h; only = λ k h. inl h; ahead = λ i k h. h; weight = refl }

  module _ (mid : List Bool) (some : List ℕ) (g : Grew P marks queue mid some) where
    pub grew_more : (Q : ℕ → Type 0) (marks' : List Bool) (queue' : List ℕ) → ((k : ℕ) → Q k → P k) → Grew Q mid some marks' queue' → Grew P marks queue marks' queue'
    grew_more Q marks' queue' to h = record {
      queued = h.queued;
      long = h.long ∙ g.long;
      kept = λ k m. h.kept k (g.kept k m);
      only = λ k m. elim (h.only k m) [ inl l ↦ g.only k l | inr r ↦ inr (to k r) ];
      ahead = λ i k at. h.ahead i k (g.ahead i k at);
      weight = h.weight ∙ g.weight;
    }

-- the same of more objects
grew_as : (P Q : ℕ → Type 0) (marks : List Bool) (queue : List ℕ) (marks' : List Bool) (queue' : List ℕ) → ((k : ℕ) → P k → Q k) → Grew P marks queue marks' queue' → Grew Q marks queue marks' queue'
grew_as P Q marks queue marks' queue' to g = record {
  queued = g.queued;
  long = g.long;
  kept = g.kept;
  only = λ k m. elim (g.only k m) [ inl l ↦ inl l | inr r ↦ inr (to k r) ];
  ahead = g.ahead;
  weight = g.weight;
}

-- of the same, said otherwise
pub spread_as : (P Q : ℕ → Type 0) (marks : List Bool) (queue : List ℕ) (marks' : List Bool) (queue' : List ℕ) → ((k : ℕ) → P k → Q k) → ((k : ℕ) → Q k → P k) → Spread P marks queue marks' queue' → Spread Q marks queue marks' queue'
spread_as P Q marks queue marks' queue' to back s = record { grew = grew_as P Q marks queue marks' queue' to s.grew; all = λ k h. s.all k (back k h) }

-- and then of others
pub spread_both : (P Q : ℕ → Type 0) (marks : List Bool) (queue : List ℕ) (mid : List Bool) (some : List ℕ) (marks' : List Bool) (queue' : List ℕ) → Spread P marks queue mid some → Spread Q mid some marks' queue' → Spread (λ k. P k ⊎ Q k) marks queue marks' queue'
spread_both P Q marks queue mid some marks' queue' s r = record {
  grew = grew_more (λ k. P k ⊎ Q k) marks queue mid some (grew_as P (λ k. P k ⊎ Q k) marks queue mid some (λ k h. inl h) s.grew) Q marks' queue' (λ k h. inr h) r.grew;
  all = λ k led. elim led [ inl l ↦ r.grew.kept k (s.all k l) | inr q ↦ r.all k q ];
}

module _ (marks : List Bool) (queue : List ℕ) (q : IsQueue marks queue) (object : ℕ) where
  -- an object that is marked
  pub spread_none : marked marks object ≡ true → Spread (λ k. k ≡ object) marks queue marks queue
  spread_none is = record { grew = grew_none (λ k. k ≡ object) marks queue q; all = λ k at. ap (marked marks) at ∙ is }

  -- one that isn't
  module _ (within : object < length marks) (is : marked marks object ≡ false) where
    queued_then : IsQueue (set marks object true) (queue ++ object ∷ [])
    queued_then = record {
      all = λ k h. elim (marked_then marks object k h) [
        | inl at ↦ (length queue, last queue object (length queue) refl ∙ ap Some (sym at))
        | inr was ↦ (let a = q.all k was in (a.0, before queue object a.0 (slice_get_within queue a.0 k a.1) ∙ a.1))
      ];
      only = λ i k got. elim (cases_lt i (length queue)) [
        | inl low ↦ marked_still marks object k (q.only i k (sym (before queue object i low) ∙ got))
        | inr high ↦
            let most = slice_get_within (queue ++ object ∷ []) i k got in
            let long = length-append queue (object ∷ []) in
            let same : Some object ≡ Some k = sym (last queue object i (omega (arith, most, high, long))) ∙ got in
            let at : object ≡ k = cc in
            subst (λ j. marked (set marks object true) j ≡ true) at (marked_at marks object within)
      ];
    }

    pub spread_one : Spread (λ k. k ≡ object) marks queue (set marks object true) (queue ++ object ∷ [])
    spread_one = record {
      grew = record {
        queued = queued_then;
        long = length-set marks object true;
        kept = λ k h. marked_still marks object k h;
        only = λ k h. elim (marked_then marks object k h) [ inl at ↦ inr at | inr was ↦ inl was ];
        ahead = λ i k got. before queue object i (slice_get_within queue i k got) ∙ got;
        weight = let fewer = one_fewer marks object within is in let long = length-append queue (object ∷ []) in omega (arith, fewer, long);
      };
      all = λ k at. ap (marked (set marks object true)) at ∙ marked_at marks object within;
    }

-- the objects of which something is demanded by themselves

module _ (D : Demanded) (S : Rows) where
  none_asked : (k : ℕ) → marked [] k ≡ true → ReachesDemand D S k
  none_asked k h = absurd (grind arith)

  pub own_none : (marks : List Bool) (queue : List ℕ) → NoneMarked (length S.objects) marks queue → OwnMarked D S 0 marks queue
  own_none marks queue new =
      let none = λ (k : ℕ) (h : marked marks k ≡ true). none_marked (length S.objects) k (sym (ap (λ ms. marked ms k) new.marks_are) ∙ h) in
      record {
        queued = record {
          all = λ k h. absurd (none k h);
          only = λ i k got. absurd (let w : None ≡ Some k = sym (ap (λ (xs : List ℕ). slice_get xs i) new.queue_is) ∙ got in cc);
        };
        long = ap length new.marks_are ∙ length-replicate (length S.objects) false;
        founded = λ k h. absurd (none k h);
        all = λ k lt h. absurd (omega (arith, lt));
      }

  module _ (n : ℕ) (marks : List Bool) (queue : List ℕ) (h : OwnMarked D S n marks queue) where
    pub own_more : has_asked (marked_wants D []) S n ≡ true → (marks' : List Bool) (queue' : List ℕ) → Spread (λ k. k ≡ n) marks queue marks' queue' → OwnMarked D S (n + 1) marks' queue'
    own_more is marks' queue' s = record {
      queued = s.grew.queued;
      long = s.grew.long ∙ h.long;
      founded = λ k m. elim (s.grew.only k m) [ inl was ↦ h.founded k was | inr at ↦ subst (ReachesDemand D S) (sym at) (reaches D S (marked []) none_asked n is) ];
      all = λ k lt asked. elim (cases_lt k n) [ inl below ↦ s.grew.kept k (h.all k below asked) | inr here ↦ s.all k (omega (arith, lt, here)) ];
    }

    pub own_same : has_asked (marked_wants D []) S n ≡ false → OwnMarked D S (n + 1) marks queue
    own_same isnt = record {
      queued = h.queued;
      long = h.long;
      founded = h.founded;
      all = λ k lt asked. elim (cases_lt k n) [
        | inl below ↦ h.all k below asked
        | inr here ↦
            let at : k ≡ n = omega (arith, lt, here) in
            let w : true ≡ false = sym asked ∙ ap (has_asked (marked_wants D []) S) at ∙ isnt in
            absurd (cc)
      ];
    }

    pub own_all : length S.objects ≤ n → OwnMarked D S (length S.objects) marks queue
    own_all most = record { queued = h.queued; long = h.long; founded = h.founded; all = λ k lt asked. h.all k (omega (arith, lt, most)) asked }

  pub none_own : (k : ℕ) → is_table S k ≡ false → has_asked (marked_wants D []) S k ≡ false
  none_own k isnt = ap (λ fs. list_any (λ (f : Live). is_kind_asked (marked_wants D []) S f.kind) fs || list_any (λ (f : Live). is_some (held_of D k f)) fs) (no_fields S k isnt)

-- a chain is followed to this place, and for each edge on it from e all are marked of which V e holds
pub record Followed (V : ℕ → ℕ → Type 0) (edges : List Edge) (top : ℕ) (marks : List Bool) (queue : List ℕ) (marks' : List Bool) (queue' : List ℕ) (p : ℕ) : Type 0 where
  pub grew : Grew (λ k. (e : ℕ) × IsOn edges e top × V e k) marks queue marks' queue'
  pub rest : (e : ℕ) → IsOn edges e p → IsOn edges e top
  pub done : (e : ℕ) → IsOn edges e top → ((k : ℕ) → V e k → marked marks' k ≡ true) ⊎ IsOn edges e p
  pub low : p ≤ length edges

module _ (V : ℕ → ℕ → Type 0) (edges : List Edge) (top : ℕ) (marks : List Bool) (queue : List ℕ) where
  pub followed_none : IsQueue marks queue → top ≤ length edges → Followed V edges top marks queue marks queue top
  followed_none q low = record { grew = grew_none (λ k. (e : ℕ) × IsOn edges e top × V e k) marks queue q; rest = λ e on. on; done = λ e on. inr on; low = low }

  module _ (mid : List Bool) (some : List ℕ) (p : ℕ) (h : Followed V edges top marks queue mid some p) where
    pub followed_more : (i : ℕ) (d : Edge) → p ≡ i + 1 → slice_get edges i ≡ Some d → d.before ≤ i
        → (marks' : List Bool) (queue' : List ℕ) → Spread (V d.from) mid some marks' queue' → Followed V edges top marks queue marks' queue' d.before
    followed_more i d at got back marks' queue' s = record {
      grew = grew_more (λ k. (e : ℕ) × IsOn edges e top × V e k) marks queue mid some h.grew (V d.from) marks' queue' (λ k v. (d.from, h.rest d.from (is_first p i d at got refl), v)) s.grew;
      rest = λ e on. h.rest e (is_later p i d at got on);
      done = λ e on. elim (h.done e on) [
        | inl was ↦ inl (λ k v. s.grew.kept k (was k v))
        | inr now ↦ elim (first_or_later edges e p i d at got now) [ inl is ↦ inl (λ k v. s.all k (subst (λ m. V m k) is v)) | inr on ↦ inr on ]
      ];
      low = (let low = h.low in omega (arith, at, back, low));
    }

    pub followed_all : p ≡ 0 → Spread (λ k. (e : ℕ) × IsOn edges e top × V e k) marks queue mid some
    followed_all z = record { grew = h.grew; all = λ k led. elim (h.done led.0 led.1) [ inl is ↦ is k led.2 | inr none ↦ absurd (none_on edges led.0 p z none) ] }

-- what is asked

module _ (D : Demanded) (S : Rows) (asks : ℕ → Bool) where
  abbrev w : Wants
  w = record { demands = D; asks = asks }

  abbrev own : Wants
  own = marked_wants D []

  -- one member that is asked is enough
  pub has_member : (e n value : ℕ) → value < n → is_member_asked w (member_of S e value) ≡ true → some_member w S e n ≡ true
  unfolding some_member
  has_member e zero value lt is = absurd (omega (arith, lt))
  has_member e (suc n) value lt is = elim (cases_lt value n) [
    | inl below ↦ or_later (is_member_asked w (member_of S e n)) (some_member w S e n) (has_member e n value below is)
    | inr here ↦ (let same : value ≡ n = omega (arith, lt, here) in or_first (is_member_asked w (member_of S e n)) (some_member w S e n) (ap (λ v. is_member_asked w (member_of S e v)) (sym same) ∙ is))
  ]

  pub no_member_yet : (e : ℕ) → some_member w S e 0 ≡ false
  unfolding some_member
  no_member_yet e = refl

  pub no_more_member : (e n more : ℕ) → more ≡ n + 1 → some_member w S e n ≡ false → is_member_asked w (member_of S e n) ≡ false → some_member w S e more ≡ false
  unfolding some_member
  no_more_member e n zero is none isnt = absurd (omega (arith, is))
  no_more_member e n (suc more) is none isnt = let same : more ≡ n = omega (arith, is) in rw (same, none, isnt) refl

  -- a member is asked by itself, or is a table that is
  member_by : (o : Option Kind) → is_member_asked w o ≡ true → (is_member_asked own o ≡ true) ⊎ ((t : ℕ) × (asks t ≡ true) × (o ≡ Some (Table t)))
  member_by (Some (Table k)) h = inr (k, h, refl)
  member_by None h = absurd (grind arith)
  member_by (Some (Scalar s)) h = absurd (grind arith)
  member_by (Some Text) h = inl h
  member_by (Some (Struct k)) h = absurd (grind arith)
  member_by (Some (Union e)) h = absurd (grind arith)
  member_by (Some (Scalars s)) h = absurd (grind arith)
  member_by (Some Texts) h = absurd (grind arith)
  member_by (Some (Structs k)) h = absurd (grind arith)
  member_by (Some (Tables k)) h = absurd (grind arith)
  member_by (Some (Unions e)) h = absurd (grind arith)

  some_by : (e n : ℕ) → some_member w S e n ≡ true → (some_member own S e n ≡ true) ⊎ ((t : ℕ) × (asks t ≡ true) × MemberLeads S e n t)
  unfolding some_member
  some_by e zero h = absurd (grind arith)
  some_by e (suc n) h = elim (or_by (is_member_asked w (member_of S e n)) (some_member w S e n) h) [
    | inl here ↦ elim (member_by (member_of S e n) here) [
      | inl itself ↦ inl (or_first (is_member_asked own (member_of S e n)) (some_member own S e n) itself)
      | inr m ↦ inr (m.0, m.1, (n, omega arith, m.2))
    ]
    | inr more ↦ elim (some_by e n more) [
      | inl itself ↦ inl (or_later (is_member_asked own (member_of S e n)) (some_member own S e n) itself)
      | inr m ↦ inr (m.0, m.1, ((m.2).0, omega (arith, (m.2).1), (m.2).2))
    ]
  ]

  union_by : (e : ℕ) (x : Bool) → D.unions ≡ x → (D.unions || some_member w S e 256) ≡ true
      → ((D.unions || some_member own S e 256) ≡ true) ⊎ ((t : ℕ) × (asks t ≡ true) × ((D.unions ≡ false) × MemberLeads S e 256 t))
  union_by e true is h = inl (or_first D.unions (some_member own S e 256) is)
  union_by e false is h = elim (or_by D.unions (some_member w S e 256) h) [
    | inl does ↦ inl (or_first D.unions (some_member own S e 256) does)
    | inr more ↦ elim (some_by e 256 more) [ inl itself ↦ inl (or_later D.unions (some_member own S e 256) itself) | inr m ↦ inr (m.0, m.1, (is, m.2)) ]
  ]

  -- a field is asked by itself, or leads to what is
  kind_by : (kind : Kind) → is_kind_asked w S kind ≡ true → (is_kind_asked own S kind ≡ true) ⊎ ((t : ℕ) × (asks t ≡ true) × KindLeads (flags D) S kind t)
  kind_by (Table k) h = inr (k, h, refl)
  kind_by (Tables k) h = inr (k, h, refl)
  kind_by (Union e) h = union_by e D.unions refl h
  kind_by (Unions e) h = union_by e D.unions refl h
  kind_by (Scalar s) h = inl h
  kind_by Text h = inl h
  kind_by (Struct k) h = inl h
  kind_by (Scalars s) h = inl h
  kind_by Texts h = inl h
  kind_by (Structs k) h = inl h

  -- one of these fields is
  asked_by : (fs : List Live) → list_any (λ (f : Live). is_kind_asked w S f.kind) fs ≡ true → (list_any (λ (f : Live). is_kind_asked own S f.kind) fs ≡ true) ⊎ ((t : ℕ) × (asks t ≡ true) × OneOf (KindLeads (flags D) S) fs t)
  asked_by [] h = absurd (grind arith)
  asked_by (f ∷ fs) h = elim (or_by (is_kind_asked w S f.kind) (list_any (λ (f : Live). is_kind_asked w S f.kind) fs) h) [
    | inl is ↦ elim (kind_by f.kind is) [
      | inl itself ↦ inl (or_first (is_kind_asked own S f.kind) (list_any (λ (f : Live). is_kind_asked own S f.kind) fs) itself)
      | inr led ↦ inr (led.0, led.1, inl led.2)
    ]
    | inr more ↦ elim (asked_by fs more) [
      | inl itself ↦ inl (or_later (is_kind_asked own S f.kind) (list_any (λ (f : Live). is_kind_asked own S f.kind) fs) itself)
      | inr led ↦ inr (led.0, led.1, inr led.2)
    ]
  ]

  -- what leads to an object that is asked is asked
  module _ (t : ℕ) (is : asks t ≡ true) where
    led_member : (e n value : ℕ) → value < n → member_of S e value ≡ Some (Table t) → some_member w S e n ≡ true
    led_member e n value lt at = has_member e n value lt (ap (is_member_asked w) at ∙ is)

    led_kind : (kind : Kind) → KindLeads (flags D) S kind t → is_kind_asked w S kind ≡ true
    led_kind (Table k) h = ap asks (sym h) ∙ is
    led_kind (Tables k) h = ap asks (sym h) ∙ is
    led_kind (Union e) h = or_later D.unions (some_member w S e 256) (led_member e 256 (h.1).0 (h.1).1 (h.1).2)
    led_kind (Unions e) h = or_later D.unions (some_member w S e 256) (led_member e 256 (h.1).0 (h.1).1 (h.1).2)
    led_kind (Scalar s) h = absurd h
    led_kind Text h = absurd h
    led_kind (Struct k) h = absurd h
    led_kind (Scalars s) h = absurd h
    led_kind Texts h = absurd h
    led_kind (Structs k) h = absurd h

    led_asked : (fs : List Live) → OneOf (KindLeads (flags D) S) fs t → list_any (λ (f : Live). is_kind_asked w S f.kind) fs ≡ true
    led_asked [] h = absurd h
    led_asked (f ∷ fs) (inl h) = or_first (is_kind_asked w S f.kind) (list_any (λ (f : Live). is_kind_asked w S f.kind) fs) (led_kind f.kind h)
    led_asked (f ∷ fs) (inr h) = or_later (is_kind_asked w S f.kind) (list_any (λ (f : Live). is_kind_asked w S f.kind) fs) (led_asked fs h)

-- the first n objects in the queue were followed
pub record FollowedFirst (D : Demanded) (S : Rows) (L : ℕ → ℕ → Type 0) (marks : List Bool) (queue : List ℕ) (n : ℕ) : Type 0 where
  pub queued : IsQueue marks queue
  pub long : length marks ≡ length S.objects
  pub founded : AreFounded D S marks
  pub own : (k : ℕ) → has_asked (marked_wants D []) S k ≡ true → marked marks k ≡ true
  pub led : (i t : ℕ) → i < n → slice_get queue i ≡ Some t → (k : ℕ) → L k t → marked marks k ≡ true
  pub low : n ≤ length queue

-- where L says which object leads to which
module _ (D : Demanded) (S : Rows) (L : ℕ → ℕ → Type 0) (whole : (k t : ℕ) → LeadsTo (flags D) S k t → L k t) (only : (k t : ℕ) → L k t → LeadsTo (flags D) S k t) where
  pub first_none : (marks : List Bool) (queue : List ℕ) → OwnMarked D S (length S.objects) marks queue → FollowedFirst D S L marks queue 0
  first_none marks queue u = record {
    queued = u.queued;
    long = u.long;
    founded = u.founded;
    own = λ k h. elim (cases_lt k (length S.objects)) [
      | inl lt ↦ u.all k lt h
      | inr past ↦ (let w : true ≡ false = sym h ∙ none_own D S k (past_all S k past) in absurd (cc))
    ];
    led = λ i t lt got k on. absurd (omega (arith, lt));
    low = omega arith;
  }

  module _ (marks : List Bool) (queue : List ℕ) (n : ℕ) (h : FollowedFirst D S L marks queue n) where
    -- what leads to an object is there
    pub from_within : (t k : ℕ) → L k t → k < length marks
    from_within t k on = elim (cases_lt k (length S.objects)) [
      | inl lt ↦ subst (λ m. k < m) (sym h.long) lt
      | inr past ↦ absurd (subst (λ fs. OneOf (KindLeads (flags D) S) fs t) (no_fields S k (past_all S k past)) (only k t on))
    ]

    pub first_more : (t : ℕ) → slice_get queue n ≡ Some t → (marks' : List Bool) (queue' : List ℕ) → Spread (λ k. L k t) marks queue marks' queue' → FollowedFirst D S L marks' queue' (n + 1)
    first_more t got marks' queue' s = record {
      queued = s.grew.queued;
      long = s.grew.long ∙ h.long;
      founded = λ k m. elim (s.grew.only k m) [
        | inl was ↦ h.founded k was
        | inr on ↦ reaches D S (marked marks) h.founded k (or_first _ (has_held D S k) (led_asked D S (marked marks) t (h.queued.only n t got) (live_fields S k) (only k t on)))
      ];
      own = λ k asked. s.grew.kept k (h.own k asked);
      led = λ i u lt at k on. elim (cases_lt i n) [
        | inl below ↦
            let v = get_or queue i 0 in
            let low = h.low in
            let was = slice_get-get_or queue i 0 (omega (arith, below, low)) in
            let same : Some v ≡ Some u = sym (s.grew.ahead i v was) ∙ at in
            let what : u ≡ v = cc in
            s.grew.kept k (h.led i v below was k (subst (L k) what on))
        | inr here ↦ (let is : i ≡ n = omega (arith, lt, here) in
            let same : Some t ≡ Some u = sym (s.grew.ahead n t got) ∙ ap (slice_get queue') (sym is) ∙ at in
            let what : u ≡ t = cc in s.all k (subst (L k) what on))
      ];
      low = (let more = slice_get_within queue' n t (s.grew.ahead n t got) in omega (arith, more));
    }

    by_field : (k : ℕ) → has_asked (marked_wants D marks) S k ≡ true → (has_asked (marked_wants D []) S k ≡ true) ⊎ ((t : ℕ) × (marked marks t ≡ true) × OneOf (KindLeads (flags D) S) (live_fields S k) t)
    by_field k does = elim (or_by (list_any (λ (f : Live). is_kind_asked (marked_wants D marks) S f.kind) (live_fields S k)) (has_held D S k) does) [
      | inl kinds ↦ elim (asked_by D S (marked marks) (live_fields S k) kinds) [ inl itself ↦ inl (or_first _ (has_held D S k) itself) | inr led ↦ inr led ]
      | inr held ↦ inl (or_later _ (has_held D S k) held)
    ]

    pub first_all : length queue ≤ n → AreClosed D S marks
    first_all most k un = elim (cases_Bool (has_asked (marked_wants D marks) S k)) [
      | inr isnt ↦ isnt
      | inl does ↦ absurd (elim (by_field k does) [
        | inl itself ↦ (let w : false ≡ true = sym un ∙ h.own k itself in cc)
        | inr led ↦
            let t = led.0 in
            let at = h.queued.all t led.1 in
            let low = slice_get_within queue at.0 t at.1 in
            let on = whole k t led.2 in
            let w : false ≡ true = sym un ∙ h.led at.0 t (omega (arith, low, most)) at.1 k on in cc
      ])
    ]
