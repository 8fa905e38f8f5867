-- A buffer inside is entered.
use Rattle.std.proofs.Common.{◌≡◌, ℕ, ◌+◌, ◌-◌, ◌^◌, ◌≤◌, List, take, drop, inr, Result, Ok, Err, sym, ap, subst, ◌∙◌, arith, length-take}
use Rattle.std.proofs.lemmas.List.{take-take, drop-drop, drop-take}
use Rattle.fb_rules.specs.{declared.fault.Report.Report, declared.link.Link.Link, declared.table.Child.Child, Tree.Tree, Unfolds.Unfolds, WellFormed.IsWellFormed}
use Rattle.fb_rules.specs.WellFormed.{IsWithin}
use Rattle.fb_strict.specs.{declared.inner.Inner.Inner, declared.room.Frame.Frame, declared.levels.Level.Level, declared.levels.Unmet.Unmet, Planned.wants_in, Asked.demands_of}
use Rattle.fb_strict.specs.{Asked.demands_reads, Passing.IsInner, Passing.IsRooted, Nested.and_walk, Nested.question_inside, Levels.Whole, Levels.IsAsking, Levels.resting}
use Rattle.fb_strict.specs.Levels.{bytes_of, asked_from, walk_at, IsWalkedAt, IsBegun, Begun, Stopped, inside_of, IsWalkedIn, spent_inside, asked_inside, level_inside, IsEnteredAt}
use Rattle.fb_strict.specs.Levels.{HasBroken, HasEntered}
use Rattle.fb_strict.proofs.{Walking.short_bytes, Verdicts.walk_few, Verdicts.pass_few}

-- bytes in bytes
bytes_in : (n a s b : ℕ) (xs : List ℕ) → a + n ≤ s → take n (drop (b + a) xs) ≡ take n (drop a (take s (drop b xs)))
bytes_in n a s b xs le =
    ap (take n) (sym (drop-drop a b xs)) ∙ sym (drop-take a n (drop b xs)) ∙ ap (drop a) (sym (take-take (a + n) s (drop b xs) le)) ∙ drop-take a n (take s (drop b xs))

module _ (w : Whole) (around : Level) (i : Inner) (inner : IsInner (resting w) (bytes_of w around) i) where
  abbrev pub level_of : Level
  level_of = level_inside around i

  pub same_bytes : bytes_of w level_of ≡ inside_of w around i
  same_bytes =
      let t = length-take around.size (drop around.begin w.bytes) in
      bytes_in i.size i.at around.size around.begin w.bytes (omega (arith, t, inner.within))

  module _ (asking : IsAsking w) (spent mid : Report) (child : Child) (y : Tree) (h : IsWalkedAt w level_of i.root spent mid child y) where
    walked_in : IsWalkedIn w spent around i y
    walked_in =
        let f = subst (λ b. IsWellFormed (walk_at w level_of i.root spent) b y) same_bytes h.well_formed in
        record { well_formed = record { starts = f.starts; unfolds = f.unfolds }; within = subst (λ b. IsWithin (walk_at w level_of i.root spent) b y) same_bytes h.within }

    pub enter_rooted : (n : ℕ) → ((w.question).limits).depth ≡ n → IsRooted (resting w) (bytes_of w level_of) (n - (around.above + around.many)) child y
    enter_rooted n long =
        let own = (h.well_formed).unfolds in
        let at = subst (λ t. Unfolds y (w.question).checks (bytes_of w level_of) (w.question).rows i.root t) (sym h.at) own in
        record {
          unfolds = subst (λ k. Unfolds y (w.question).checks (bytes_of w level_of) (w.question).rows k child.at) (sym h.object) at;
          object = rw h.object inner.table;
          near = h.near;
          deep = omega (arith, long, (h.within).depth);
        }

    pub enter_few : (n : ℕ) → ((w.question).limits).depth ≡ n → demands_reads (asked_from w level_of child y) ≤ 2 ^ 112
    enter_few n long = pass_few (resting w) (bytes_of w level_of) (n - (around.above + around.many)) child y (enter_rooted n long) (omega (arith, (h.within).tables, asking.many)) asking.served (short_bytes w level_of asking)

    pub enter_spent : mid.reads ≤ spent.reads + 2 ^ 112
    enter_spent =
        let few = walk_few (walk_at w level_of i.root spent) (bytes_of w level_of) y h.well_formed h.within (omega (arith, asking.many)) asking.wide (short_bytes w level_of asking) in
        let same = ap (λ (r : Report). r.reads) h.then_is in
        omega (arith, few, same)

    same_asked : asked_from w level_of child y ≡ asked_inside w around i y
    same_asked = λ k. demands_of (wants_in w.plan) (w.question).checks (same_bytes k) (w.question).rows (h.object k) y

    same_spent : mid ≡ spent_inside w spent around i y
    same_spent = h.then_is ∙ ap (λ b. and_walk spent (question_inside w.question i) b (around.above + around.many) y) same_bytes

    enter_begins : (then : Report) (frames : List Frame) (level : Level) → level ≡ record level_of { many = level.many } → then ≡ record mid { reads = then.reads } → IsBegun w mid then frames level (asked_from w level_of child y) → IsEnteredAt w spent then frames around i level
    enter_begins then frames level is same begun = record {
      tree = y;
      walked = walked_in;
      begun = subst (λ m. IsBegun w m then frames level (asked_inside w around i y)) same_spent (subst (IsBegun w mid then frames level) same_asked begun);
      same = same ∙ ap (λ (m : Report). record m { reads = then.reads }) same_spent;
      begin = ap (λ (l : Level). l.begin) is;
      size = ap (λ (l : Level). l.size) is;
      bytes = ap (bytes_of w) is ∙ same_bytes;
      above = ap (λ (l : Level). l.above) is;
    }

    enter_breaks : (frames : List Frame) (u : Unmet) → Stopped w mid frames level_of (asked_from w level_of child y) u → HasBroken w spent frames around i u
    enter_breaks frames u k =
        let one = subst (λ ds. Stopped w mid frames level_of ds u) same_asked k in
        record { tree = y; walked = walked_in; stopped = subst (λ m. Stopped w m frames level_of (asked_inside w around i y) u) same_spent one }

    pub enter_ends : (then : Report) (frames : List Frame) (row : List Link) (r : Result Level Unmet) → then ≡ record mid { reads = then.reads } → Begun w mid then frames level_of (asked_from w level_of child y) r → HasEntered w spent then frames row around i r
    enter_ends then frames row (Ok level) same h = enter_begins then frames level h.1 same h.0
    enter_ends then frames row (Err u) same h = inr (enter_breaks frames u h)
