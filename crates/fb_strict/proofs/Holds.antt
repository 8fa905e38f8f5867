-- What marks say that the bytes of fields hold.
use Rattle.std.proofs.Common.{◌≡◌, ℕ, zero, suc, ◌-◌, ◌<◌, List, [], ◌∷◌, ◌++◌, length, map, get_or, take, if◌then◌else◌, Option, Some, None, Result, Ok, Err, subst, Bool, true, false, refl, sym, ◌∙◌, arith}
use Rattle.std.specs.Prelude.{◌==◌, slice_index_or, is_some, slice_get, ◌&&◌, IsErrAnd, IfErr, IsTrue, option_map, option_and_then, ◌⊎◌}
use Rattle.std.proofs.lemmas.Bool.Decides.{nat_tests}
use Rattle.std.specs.List.{find, cons_option, list_any}
use Rattle.std.proofs.Common.{inl, inr, ap}
use Rattle.fb_rules.specs.Order.{◌▷◌}
use Rattle.fb_bfbs.specs.{Marks.Held as HeldBy, Marks.buffer, Marks.flex, ByteFields.IsField, ByteFields.is_at, ByteFields.is_bytes, Marks.Marked}
use Rattle.fb_strict.specs.{declared.demands.Demands.Demands, declared.holding.Holding.Holding, declared.tasks.Held.TheVariants.Buffer, Holding.name_of, Holding.holding_with}
use Rattle.fb_strict.specs.{Holding.holding_of, Holding.holdings_in, Holding.holdings_if, Holding.held_in, declared.tasks.Held.Held, Demanded.held_by, Holding.found_within}
use Rattle.fb_strict.specs.{Holding.has_bytes, Holding.meant, Holding.is_lost, Holding.IsPlanFault, declared.holding.PlanFault.PlanFault}
use Rattle.fb_strict.specs.declared.holding.PlanFault.TheVariants.{OutOfMemory, NoSuchTable}
use Rattle.fb_schema.specs.{declared.kinds.Kind.Kind, Live.Live, Live.live_fields, Rows.Rows, Rows.is_table, Rows.table_named}
use Rattle.fb_strict.proofs.{Tasking.within_objects, Marks.no_fields}

pub no_bytes : (S : Rows) (k slot : ℕ) → is_table S k ≡ false → has_bytes S k slot ≡ false
no_bytes S k slot h = rw (no_fields S k h) refl

-- A look-up, namespace by namespace.
module _ (S : Rows) (owner name : List ℕ) where
  one_less : (n k : ℕ) → suc n - 1 ≡ k → k ≡ n
  one_less n k h = omega (arith, h)

  -- no namespace ends there
  pub past : (n k : ℕ) → 0 < n → n - 1 ≡ k → (slice_index_or owner k 0 == 46) ≡ false → found_within S owner name n ≡ found_within S owner name k
  unfolding found_within
  past zero k some less isnt = absurd (omega arith)
  past (suc n) k some less isnt = let same = one_less n k less in rw same (let at : (slice_index_or owner n 0 == 46) ≡ false = rw same at isnt in rw at refl)

  -- one does, and has no such table
  pub not_there : (n k : ℕ) → 0 < n → n - 1 ≡ k → (slice_index_or owner k 0 == 46) ≡ true → table_named S (take n owner ++ name) ≡ None → found_within S owner name n ≡ found_within S owner name k
  unfolding found_within
  not_there zero k some less dot none = absurd (omega arith)
  not_there (suc n) k some less dot none = let same = one_less n k less in rw same (let at : (slice_index_or owner n 0 == 46) ≡ true = rw same at dot in rw (at, none) refl)

  -- one does, and has one
  pub there : (n k : ℕ) (o : Option ℕ) → 0 < n → n - 1 ≡ k → (slice_index_or owner k 0 == 46) ≡ true → table_named S (take n owner ++ name) ≡ o → is_some o ≡ true → found_within S owner name n ≡ o
  unfolding found_within
  there zero k o some less dot is found = absurd (omega arith)
  there (suc n) k (Some t) some less dot is found = let same = one_less n k less in let at : (slice_index_or owner n 0 == 46) ≡ true = rw same at dot in rw (at, is) refl
  there (suc n) k None some less dot is found = absurd (cc)

  -- none is around
  pub by_itself : (n : ℕ) → n ≡ 0 → found_within S owner name n ≡ table_named S name
  unfolding found_within
  by_itself n is = rw is refl

-- A field of a kind.

pub of_bytes : (o : Option Held) (kind : Kind) → is_bytes kind ≡ true → held_by o kind ≡ o
of_bytes o kind h = grind arith

pub of_others : (o : Option Held) (kind : Kind) → is_bytes kind ≡ false → held_by o kind ≡ None
of_others o kind h = grind arith

-- The first item that passes a test.

module _ {X : Type 0} (p : X → Bool) where
  find_by : (x : X) (xs : List X) (y : Bool) → p x ≡ y → (if y then Some x else find p xs) ≡ find p (x ∷ xs)
  find_by x xs y is = sym (grind arith)

  pub find_first : (xs : List X) (i : ℕ) (x : X) → slice_get xs i ≡ Some x → p x ≡ true → ((j : ℕ) (y : X) → j < i → slice_get xs j ≡ Some y → p y ≡ false) → find p xs ≡ Some x
  find_first [] i x at is none = absurd (cc)
  find_first (z ∷ zs) zero x at is none = let same : z ≡ x = cc in sym (find_by z zs true (ap p same ∙ is)) ∙ ap Some same
  find_first (z ∷ zs) (suc i) x at is none = sym (find_by z zs false (none 0 z (omega arith) refl)) ∙ find_first zs i x at is (λ j y low there. none (suc j) y (omega (arith, low)) there)

  pub find_none : (xs : List X) → ((j : ℕ) (y : X) → slice_get xs j ≡ Some y → p y ≡ false) → find p xs ≡ None
  find_none [] none = refl
  find_none (z ∷ zs) none = sym (find_by z zs false (none 0 z refl)) ∙ find_none zs (λ j y there. none (suc j) y there)

-- Marks.

pub bytes_within : (S : Rows) (k slot : ℕ) → has_bytes S k slot ≡ true → k < length S.objects
bytes_within S k slot h = by (is_table S k) refl
  where
    by : (x : Bool) → is_table S k ≡ x → k < length S.objects
    by true is = within_objects S k is
    by false is = absurd (let none = no_bytes S k slot is in let w : true ≡ false = sym h ∙ none in cc)

-- a field of bytes stands in a slot that has one
some_passes : {X : Type 0} (p : X → Bool) (xs : List X) → list_any p xs ≡ true → (i : ℕ) × (x : X) × (slice_get xs i ≡ Some x) × (p x ≡ true)
some_passes p [] h = absurd (grind arith)
some_passes {X = X} p (x ∷ xs) h = by (p x) refl (some_passes p xs)
  where
    by : (y : Bool) → p x ≡ y → (list_any p xs ≡ true → (i : ℕ) × (z : X) × (slice_get xs i ≡ Some z) × (p z ≡ true)) → (i : ℕ) × (z : X) × (slice_get (x ∷ xs) i ≡ Some z) × (p z ≡ true)
    by true is later = (zero, x, refl, is)
    by false is later = let found = later (grind arith) in (suc found.0, found.1, found.2, found.3)

pub bytes_stand : (S : Rows) (k slot : ℕ) → has_bytes S k slot ≡ true → ((f : Live) → IsField S k (is_at slot) f → ⊥) → ⊥
bytes_stand S k slot has none = let (i, f, at, is) = some_passes (is_at slot) (live_fields S k) has in none f (record { place = i; at = at; is = is })

pub lost_at : (S : Rows) (ms : List Marked) (i : ℕ) (m : Marked) → slice_get ms i ≡ Some m → (f : PlanFault) → IsPlanFault S (m ∷ []) f → IsPlanFault S ms f
lost_at S ms i m at OutOfMemory h = tt
lost_at S ms i m at (NoSuchTable k slot) (zero, m', got, lost, object, slot-is) = let same : m ≡ m' = cc in (i, m, at, rw same lost, rw same object, rw same slot-is)
lost_at S ms i m at (NoSuchTable k slot) (suc j, m', got, lost, object, slot-is) = absurd (cc)

pub lost_here : (S : Rows) (m : Marked) → has_bytes S m.object m.slot ≡ true → meant S m.object m.held ≡ None → is_lost S m ≡ true
lost_here S m has none = rw (has, none) refl

-- Tests of numbers.

pub are_equal : (a b : ℕ) → a ≡ b → (a == b) ≡ true
are_equal a b h = grind (arith, nat_tests)

pub are_not : (a b : ℕ) → (a ≡ b → ⊥) → (a == b) ≡ false
are_not a b h = grind (arith, nat_tests)

pub both_are : (x y : Bool) → x ≡ true → y ≡ true → (x && y) ≡ true
both_are x y h i = rw (h, i) refl

pub first_isnt : (x y : Bool) → x ≡ false → (x && y) ≡ false
first_isnt x y h = rw h refl

pub second_isnt : (x y : Bool) → x ≡ true → y ≡ false → (x && y) ≡ false
second_isnt x y h i = rw (h, i) refl

pub found_none : (o : Option ℕ) (x : Bool) → x ≡ is_some o → x ≡ false → o ≡ None
found_none None x h i = refl
found_none (Some t) x h i = absurd (cc)

-- an item of a list of which a function makes another
pub item_made : {X Y : Type 0} (f : X → Y) (xs : List X) (i : ℕ) (d : X) → i < length xs → slice_get (map f xs) i ≡ Some (f (get_or xs i d))
item_made f [] i d lt = absurd (omega (arith, lt))
item_made f (x ∷ xs) zero d lt = refl
item_made f (x ∷ xs) (suc i) d lt = item_made f xs i d (omega (arith, lt))

-- what `?` answers
pub err_told : {B : Type 0} (r : Result B PlanFault) (x : PlanFault) (P : PlanFault → Type 0) → IsErrAnd r (λ e. e ≡ x) → P x → IfErr r P
err_told (Ok a) x P h p = tt
err_told (Err e) x P h p = subst P (sym h) p

-- Buffers that marks say have root tables.

found_by : (S : Rows) (o : Option ℕ) (t : ℕ) → option_and_then (λ n. if is_table S n then Some n else None) o ≡ Some t → IsTrue (is_table S t)
found_by S None t h = absurd (cc)
found_by S (Some n) t h = by (is_table S n) refl h
  where
    by : (x : Bool) → is_table S n ≡ x → (if x then Some n else None) ≡ Some t → IsTrue (is_table S t)
    by true is e = let same : n ≡ t = cc in subst (λ k. IsTrue (is_table S k)) same is
    by false is e = absurd (cc)

found_table : (S : Rows) (name : List ℕ) (t : ℕ) → table_named S name ≡ Some t → IsTrue (is_table S t)
unfolding table_named
found_table S name t h = found_by S _ t h

if_some : (x : Bool) (o : Option ℕ) (t : ℕ) → (if x then o else None) ≡ Some t → o ≡ Some t
if_some true o t h = h
if_some false o t h = absurd (cc)

either : (a b : Option ℕ) (t : ℕ) → (a ▷ b) ≡ Some t → (a ≡ Some t) ⊎ (b ≡ Some t)
either None b t h = inr h
either (Some n) b t h = inl h

within_table : (S : Rows) (owner name : List ℕ) (n t : ℕ) → found_within S owner name n ≡ Some t → IsTrue (is_table S t)
unfolding found_within
within_table S owner name zero t h = found_table S name t h
within_table S owner name (suc n) t h =
    let dot = slice_index_or owner n 0 == 46 in
    let there = table_named S (take (suc n) owner ++ name) in
    elim (either (if dot then there else None) (found_within S owner name n) t h) [
      | inl here ↦ found_table S (take (suc n) owner ++ name) t (if_some dot there t here)
      | inr later ↦ within_table S owner name n t later
    ]

made_of : (o : Option ℕ) (root : ℕ) → option_map Buffer o ≡ Some (Buffer root) → o ≡ Some root
made_of None root h = absurd (cc)
made_of (Some n) root h = let same : n ≡ root = cc in ap Some same

meant_table : (S : Rows) (k : ℕ) (h : HeldBy) (root : ℕ) → meant S k h ≡ Some (Buffer root) → IsTrue (is_table S root)
meant_table S k (buffer name) root e = within_table S (name_of S k) name _ root (made_of _ root e)
meant_table S k flex root e = absurd (cc)

holding_meant : (m : Marked) (x : Bool) (o : Option Held) (h : Holding) → (if x then option_map (holding_with m) o else None) ≡ Some h → o ≡ Some h.held
holding_meant m true (Some held) h e = let same : holding_with m held ≡ h = cc in ap Some (ap (λ (g : Holding). g.held) same)
holding_meant m true None h e = absurd (cc)
holding_meant m false o h e = absurd (cc)

first_holds : (h : Holding) (x : Bool) (rest : Option Holding) (held : Held) → option_map (λ (g : Holding). g.held) (if x then Some h else rest) ≡ Some held → (h.held ≡ held) ⊎ (option_map (λ (g : Holding). g.held) rest ≡ Some held)
first_holds h true rest held e = inl (cc)
first_holds h false rest held e = inr e

pub marks_hold : (S : Rows) (ms : List Marked) (k slot root : ℕ) → held_in (holdings_in S ms) k slot ≡ Some (Buffer root) → IsTrue (is_table S root)
marks_hold S [] k slot root e = absurd (cc)
marks_hold S (m ∷ ms) k slot root e = by (holding_of S m) refl e (marks_hold S ms k slot root)
  where
    by : (o : Option Holding) → holding_of S m ≡ o → held_in (cons_option o (holdings_in S ms)) k slot ≡ Some (Buffer root) → (held_in (holdings_in S ms) k slot ≡ Some (Buffer root) → IsTrue (is_table S root)) → IsTrue (is_table S root)
    by None is e later = later e
    by (Some h) is e later =
        let its = holding_meant m (has_bytes S m.object m.slot) (meant S m.object m.held) h is in
        let p = λ (g : Holding). (g.object == k) && (g.slot == slot) in
        elim (first_holds h (p h) (find p (holdings_in S ms)) (Buffer root) (ap (option_map (λ (g : Holding). g.held)) (find_by p h (holdings_in S ms) (p h) refl) ∙ e)) [
          | inl here ↦ meant_table S m.object m.held root (its ∙ ap Some here)
          | inr more ↦ later more
        ]

pub if_hold : (d : Demands) (S : Rows) (ms : List Marked) (k slot root : ℕ) → held_in (holdings_if d S ms) k slot ≡ Some (Buffer root) → IsTrue (is_table S root)
if_hold d S ms k slot root e = by d.nested e
  where
    by : (x : Bool) → held_in (if x then holdings_in S ms else []) k slot ≡ Some (Buffer root) → IsTrue (is_table S root)
    by true e = marks_hold S ms k slot root e
    by false e = absurd (cc)
