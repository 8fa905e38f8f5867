-- One text put behind another.
use Rattle.std.proofs.Common.{◌≡◌, ℕ, ◌+◌, ◌<◌, ◌≤◌, Bool, true, false, List, [], ◌++◌, arith, length, drop, take, get_or, refl, ap, subst, sym, ◌∙◌, append-nil, append_assoc, true≢false}
use Rattle.std.proofs.{KnownBytes.Appends-nil, lemmas.List.flat_map_more, lemmas.List.take_all, lemmas.List.take_more}
use Rattle.std.specs.List.{flat_map}
use Rattle.fb_bytes.specs.Ends.{one_more}
use Rattle.fb_run.specs.{AllTold.WritesFront, Ends.Writer, Texts.Texts, Texts.silent, Texts.to_rejects, Puts.AreCut, Puts.Puts, Puts.PutsAll, Puts.PutsAs, Puts.PutsFront}
use Rattle.fb_run.specs.{Puts.PutsTold, Puts.Queue, Puts.Queues, declared.fault.RunFault.RunFault}
use Rattle.fb_run.specs.declared.fault.RunFault.TheVariants as run
use Rattle.fb_run.proofs.{AnswerLemmas.front_spelled, BehindLemmas.behind_more, BehindLemmas.front_behind, BehindLemmas.front_more, InPieces.front-more}

-- both were put, however it came with each
as_then : (f g h : Bool) (one other : List ℕ) (a b c : Queue) → PutsAs f g one a b → PutsAs g h other b c → PutsAs f h (one ++ other) a c
as_then false false false one other a b c first second = (behind_more first.0 second.0, second.1 ∙ first.1)
as_then false false true one other a b c first second = (front_behind other first.0 second.0, second.1 ∙ ap one_more first.1)
as_then false true true one other a b c first second =
    let front : WritesFront (a.waits ++ (one ++ other)) a.writer.bytes b.writer.bytes a.written b.written = front_more a.waits one other first.0 in (
      subst (λ (w : Writer). WritesFront (a.waits ++ (one ++ other)) a.writer.bytes w.bytes a.written c.written) (sym second.1)
          (subst (λ (n : ℕ). WritesFront (a.waits ++ (one ++ other)) a.writer.bytes b.writer.bytes a.written n) (sym second.0) front),
      ap (λ (w : Writer). w.failures) second.1 ∙ first.1,
    )
as_then true true true one other a b c first second = (second.0 ∙ first.0, second.1 ∙ first.1)
as_then false true false one other a b c first second = absurd second
as_then true true false one other a b c first second = absurd second
as_then true false h one other a b c first second = absurd first

pub puts_then : (one other : List ℕ) (a b c : Queue) → Puts one a b → Puts other b c → Puts (one ++ other) a c
puts_then one other a b c first second = as_then a.failed b.failed c.failed one other a b c first second

-- three, one behind another, and one behind two
pub three_puts : (one other third : List ℕ) (a b c d : Queue) → Puts one a b → Puts other b c → Puts third c d → Puts (one ++ (other ++ third)) a d
three_puts one other third a b c d first second last = puts_then one (other ++ third) a b d first (puts_then other third b c d second last)

pub two_then : (one other third : List ℕ) (a b c : Queue) → Puts (one ++ other) a b → Puts third b c → Puts (one ++ (other ++ third)) a c
two_then one other third a b c first last = subst (λ l. Puts l a c) (append_assoc one other third) (puts_then (one ++ other) third a b c first last)

-- nothing was
as_none : (f : Bool) (q : Queue) → PutsAs f f [] q q
as_none false q = (record { front = []; whole = append-nil q.waits; wrote = Appends-nil q.writer.bytes; written_is = λ few. omega arith }, refl)
as_none true q = (refl, refl)

pub puts_none : (q : Queue) → Puts [] q q
puts_none q = as_none q.failed q

-- the same text otherwise written
pub puts_same : (one other : List ℕ) (a b : Queue) → one ≡ other → Puts other a b → Puts one a b
puts_same one other a b same puts = subst (λ l. Puts l a b) (sym same) puts

pub puts_still : (one : List ℕ) (a b : Queue) → Puts (one ++ []) a b → Puts one a b
puts_still one a b puts = subst (λ l. Puts l a b) (append-nil one) puts

-- it waits
pub puts_waiting : (one : List ℕ) (a b : Queue) → b ≡ record a { waits = a.waits ++ one } → Puts one a b
puts_waiting one a b is = subst (Puts one a) (sym is) (as_waiting a.failed)
  where
    as_waiting : (f : Bool) → PutsAs f f one a (record a { waits = a.waits ++ one })
    as_waiting false = (record { front = []; whole = refl; wrote = Appends-nil a.writer.bytes; written_is = λ few. omega arith }, refl)
    as_waiting true = (refl, refl)

-- where no write has failed by now, none had before
as_before : (f g : Bool) (one : List ℕ) (a b : Queue) → PutsAs f g one a b → g ≡ false → f ≡ false
as_before false g one a b put now = refl
as_before true false one a b put now = absurd put
as_before true true one a b put now = absurd (true≢false now)

pub was_unfailed : (one : List ℕ) (a b : Queue) → Puts one a b → b.failed ≡ false → a.failed ≡ false
was_unfailed one a b put now = as_before a.failed b.failed one a b put now

-- some bytes more, each as it is written
pub spelled_more : (f : ℕ → List ℕ) (head bytes front rest : List ℕ) (n : ℕ) (more rest' : List ℕ) (a b c : Queue) → rest' ≡ drop n rest → more ≡ flat_map f (take n rest) → bytes ≡ front ++ rest
    → Puts (head ++ flat_map f front) a b → Puts more b c → (next : List ℕ) × (bytes ≡ next ++ rest') × Puts (head ++ flat_map f next) a c
spelled_more f head bytes front rest n more rest' a b c at is whole first second = (
  front ++ take n rest,
  front-more bytes front rest rest' n whole at,
  subst (λ l. Puts l a c) (append_assoc head (flat_map f front) more ∙ ap (λ l. head ++ l) (sym (front_spelled f front rest n more is)))
      (puts_then (head ++ flat_map f front) more a b c first second),
)

module _ {A : Type 0} (f : A → List ℕ) (xs : List A) (head : List ℕ) (a b : Queue) where
  -- the next of many behind a head
  pub puts_each : (i : ℕ) (d : A) {x : List ℕ} (c : Queue) → i < length xs → x ≡ f (get_or xs i d) → Puts (head ++ flat_map f (take i xs)) a b → Puts x b c
      → Puts (head ++ flat_map f (take (i + 1) xs)) a c
  puts_each i d {x} c inside is first second =
      let next : flat_map f (take (i + 1) xs) ≡ flat_map f (take i xs) ++ f (get_or xs i d) = ap (flat_map f) (take_more xs i d inside) ∙ sym (flat_map_more f [] (take i xs) (get_or xs i d)) in
      subst (λ l. Puts l a c) (append_assoc head (flat_map f (take i xs)) x ∙ ap (λ l. head ++ (flat_map f (take i xs) ++ l)) is ∙ ap (λ l. head ++ l) (sym next))
      (puts_then (head ++ flat_map f (take i xs)) x a b c first second)

  -- all of them, and a tail
  pub puts_tail : (i : ℕ) (tail : List ℕ) (c : Queue) → length xs ≤ i → Puts (head ++ flat_map f (take i xs)) a b → Puts tail b c → Puts (head ++ (flat_map f xs ++ tail)) a c
  puts_tail i tail c past first last =
      subst (λ l. Puts l a c) (append_assoc head (flat_map f (take i xs)) tail ∙ ap (λ l. head ++ (flat_map f l ++ tail)) (take_all i xs past))
      (puts_then (head ++ flat_map f (take i xs)) tail a b c first last)

module _ {Holds : Type 0} (text : List ℕ) (a b : Queue) where
  -- all of a text was put
  pub front_all : Puts text a b → PutsFront Holds text a b
  front_all puts = record { front = text; left = []; whole = sym (append-nil text); all = λ _. refl; puts = puts }

  -- or none of it
  front_none : (Holds → ⊥) → Puts [] a b → PutsFront Holds text a b
  front_none never puts = record { front = []; left = text; whole = refl; all = λ holds. absurd (never holds); puts = puts }

  -- where it holds, all of it was
  pub front_whole : PutsFront Holds text a b → Holds → Puts text a b
  front_whole part holds = puts_same text part.front a b (part.whole ∙ ap (λ l. part.front ++ l) (part.all holds) ∙ append-nil part.front) part.puts

  -- and nothing more
  pub front_still : (c : Queue) {Next : Type 0} → (Next → Holds) → PutsFront Holds text a b → Puts [] b c → PutsFront Next text a c
  front_still c holds part none = record {
    front = part.front;
    left = part.left;
    whole = part.whole;
    all = λ next. part.all (holds next);
    puts = puts_still part.front a c (puts_then part.front [] a b c part.puts none);
  }

-- all of a text was put, and a front of another behind it
pub front_then : {Holds : Type 0} (text other : List ℕ) (a b c : Queue) → Puts text a b → PutsFront Holds other b c → PutsFront Holds (text ++ other) a c
front_then text other a b c first part = record {
  front = text ++ part.front;
  left = part.left;
  whole = ap (λ l. text ++ l) part.whole ∙ sym (append_assoc text part.front part.left);
  all = part.all;
  puts = puts_then text part.front a b c first part.puts;
}

-- behind a write that failed, nothing more is written
puts_after : (text : List ℕ) (q : Queue) → q.failed ≡ true → Puts text q q
puts_after text q cut = subst (λ f. PutsAs f f text q q) (sym cut) (refl, refl)

-- all that is told was put
pub all_told : (told : Texts) (before after : Queues) → PutsAll told before after → PutsTold told before after
all_told told before after puts = (puts.0, puts.1, front_all told.rejects before.rejects after.rejects puts.2)

module _ (message : List ℕ) (before after : Queues) where
  -- a bad message waits
  pub kept_told : (rejects : Queue) → rejects ≡ record before.rejects { waits = before.rejects.waits ++ message } → PutsAll silent (record before { rejects = rejects }) after → PutsTold (to_rejects message) before after
  kept_told rejects is puts = (
    puts.0,
    puts.1,
    front_all message before.rejects after.rejects
        (puts_still message before.rejects after.rejects (puts_then message [] before.rejects rejects after.rejects (puts_waiting message before.rejects rejects is) puts.2)),
  )

  -- or it was put behind all that waited, which was written
  pub passed_told : (mid : Queues) (rejects : Queue) → PutsAll silent before mid → Puts message mid.rejects rejects → PutsAll silent (record mid { rejects = rejects }) after → PutsTold (to_rejects message) before after
  passed_told mid rejects first put last = (
    puts_then [] [] before.out mid.out after.out first.0 last.0,
    puts_then [] [] before.notes mid.notes after.notes first.1 last.1,
    front_all message before.rejects after.rejects
        (puts_still message before.rejects after.rejects (puts_then message [] before.rejects rejects after.rejects (puts_then [] message before.rejects mid.rejects rejects first.2 put) last.2)),
  )

  -- or a write of that failed
  pub cut_told : (fault : RunFault) → AreCut after fault → PutsAll silent before after → PutsTold (to_rejects message) before after
  cut_told (run.WriteFault written) cut puts = (puts.0, puts.1, front_none message before.rejects after.rejects (λ fine. true≢false (sym cut.0 ∙ fine.0)) puts.2)
  cut_told (run.NoteFault written) cut puts = (puts.0, puts.1, front_none message before.rejects after.rejects (λ fine. true≢false (sym cut.0 ∙ fine.1)) puts.2)
  cut_told (run.RejectFault written) cut puts = (
    puts.0,
    puts.1,
    front_all message before.rejects after.rejects (puts_then [] message before.rejects after.rejects after.rejects puts.2 (puts_after message after.rejects cut.0)),
  )
  cut_told _ never puts = absurd never
