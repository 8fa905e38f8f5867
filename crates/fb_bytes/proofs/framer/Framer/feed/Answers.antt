use Rattle.std.proofs.Common.{rules, ◌≡◌, ℕ, List, min, ◌+◌, ◌-◌, ◌<◌, ◌≤◌, true, Err, ◌++◌, length, take, drop, sym, ap, ap₂, ◌∙◌, refl, arith, true≢false, length-append, length-drop, length-take}
use Rattle.fb_bytes.specs.{declared.cut.Cut.Cut, declared.stream_fault.StreamFault.TheVariants.Oversize, Messages.declared, Messages.IsMessage, Framing.Framing, Framing.held_bytes}
use Rattle.fb_bytes.proofs.{MessageLemmas.declared_front, FramingLemmas.Completes, FramingLemmas.completed-held, FramingLemmas.completed-front, FramingLemmas.completed-long}
use Rattle.fb_bytes.proofs.FramingLemmas.{completed-stream, completed-oversize, completed-grown, completed-unfinished, fed-fits, framed-room, framed-within, framed-over}
use Rattle.fb_bytes.proofs.framer.Framer.feed.Goals as goal
use Rattle.fb_bytes.proofs.framer.Framer.feed.Goals.{After-number_in-declared}

-- the prefix is whole with what the piece gave to it
completes : (g : _) (c : After-number_in-declared g) → Completes c.self.inside.prefix c.fill_prefix-used.new.prefix c.self.inside.body.items c.args.piece.now c.self.inside.filled c.fill_prefix-used.result
completes g c = record {
  four = c.self.invariant.four;
  four' = search rules;
  sum = search rules;
  within = search rules;
  bytes = c.fill_prefix-used.ensures.bytes;
  full = c.self.invariant.full;
  front = c.self.invariant.front;
}

held_before : (g : _) (c : After-number_in-declared g) → held_bytes c.self.inside.prefix c.self.inside.filled c.self.inside.body.items ≡ c.args.self.now.held
held_before g c = ap (λ (v : Framing). v.held) c.self.view_is

cut_before : (g : _) (c : After-number_in-declared g) → c.self.inside.cut ≡ c.args.self.now.cut
cut_before g c = ap (λ (v : Framing). v.cut) c.self.view_is

limit_before : (g : _) (c : After-number_in-declared g) → c.self.inside.cut.limit ≡ c.args.self.now.cut.limit
limit_before g c = ap (λ (u : Cut). u.limit) (cut_before g c)

-- On numbers, and what is as long as its prefix tells.

no_more : (more room used n : ℕ) → more ≡ min room (n - used) → used ≤ n → used + more ≤ n
no_more more room used n e h = omega arith

whole_message : (cut : Cut) (told : ℕ) (bytes prefix : List ℕ) → length bytes ≡ 4 + told → told ≡ declared cut.order prefix → declared cut.order bytes ≡ declared cut.order prefix → declared cut.order prefix ≤ cut.limit - 4 → 8 ≤ cut.limit → IsMessage cut bytes
whole_message cut told bytes prefix long is number all low = record { prefixed = omega arith; whole = omega arith; within = omega arith }

-- the stream begins with that prefix, and tells its number
front_of : (g : _) (c : After-number_in-declared g) → take 4 (c.args.self.now.held ++ c.args.piece.now) ≡ c.fill_prefix-used.new.prefix
front_of g c = ap (λ l. take 4 (l ++ c.args.piece.now)) (sym (held_before g c)) ∙ completed-stream _ _ _ _ _ _ (completes g c)

number_of : (g : _) (c : After-number_in-declared g) → declared c.args.self.now.cut.order (c.args.self.now.held ++ c.args.piece.now) ≡ declared c.self.inside.cut.order c.fill_prefix-used.new.prefix
number_of g c = declared_front _ _ _ (front_of g c) ∙ ap (λ (u : Cut). declared u.order c.fill_prefix-used.new.prefix) (sym (cut_before g c))

pub returns-then-declared-self-clause-fault : goal.returns-then-declared-self-clause-fault
returns-then-declared-self-clause-fault g c = λ fine.
    let f = c.self.inside in
    let used = c.fill_prefix-used.result in
    let prefix' = c.fill_prefix-used.new.prefix in
    let body = f.body.items in
    let piece = c.args.piece.now in
    let d = (goal.at.returns-then-declared-self-clause-fault g c).After-number_in-declared in
    let w = completes g d in
    let cut = cut_before g d in
    let limit = limit_before g d in
    let front = front_of g d in
    let number = number_of g d in
    let told : c.number_in-declared.result ≡ declared f.cut.order prefix' = c.number_in-declared.ensures in
    let over : f.cut.limit < 4 + declared f.cut.order prefix' = search rules in
    let alone = completed-oversize f.cut f.prefix prefix' body piece f.filled used w (c.self.invariant.within (search rules)) over in
    record {
      oversize = (omega (arith, length-take 4 (c.args.self.now.held ++ piece), ap length front, w.four'), omega arith);
      number = told ∙ sym number;
      after = ap₂ (λ c h. record { cut = c; held = h; failed = true }) cut (alone ∙ sym front);
    }

pub returns-then-declared-self-clause-oversize : goal.returns-then-declared-self-clause-oversize
returns-then-declared-self-clause-oversize g c = λ fine over.
    ap (λ n. Err (Oversize n)) (returns-then-declared-self-clause-fault g c fine).number

pub returns-in-Ok-clause-ok : goal.returns-in-Ok-clause-ok
returns-in-Ok-clause-ok g c =
    let f = c.self.inside in
    let used = c.fill_prefix-used.result in
    let more = c.in-Ok.more.used in
    let prefix' = c.fill_prefix-used.new.prefix in
    let body = f.body.items in
    let body' = c.grow.new.body.items in
    let piece = c.args.piece.now in
    let now = held_bytes prefix' (f.filled + used) body' in
    let d = (goal.at.returns-in-Ok-clause-ok g c).After-number_in-declared in
    let w = completes g d in
    let held = held_before g d in
    let cut = cut_before g d in
    let grown = completed-grown f.prefix prefix' body body' piece f.filled used more w c.in-Ok.ensures.held in
    let at4 : length now ≡ length (held_bytes prefix' 4 body') = ap (λ n. length (held_bytes prefix' n body')) w.sum in
    let number : declared f.cut.order now ≡ declared f.cut.order prefix' = declared_front f.cut.order now prefix' grown.1 in
    let told : c.number_in-declared.result ≡ declared f.cut.order prefix' = c.number_in-declared.ensures in
    let all : declared f.cut.order prefix' ≤ f.cut.limit - 4 = rw (← told) c.if-declared-self.false in
    let low = c.self.invariant.low in
    record {
      cut = cut;
      fine = (sym (ap (λ (v : Framing). v.failed) c.self.view_is) ∙ c.if-self.false, c.if-self.false);
      within = no_more _ _ _ _ c.in-Ok.ensures.used w.within;
      held = grown.0 ∙ ap (λ l. l ++ take (used + more) piece) held;
      message = λ whole. whole_message _ _ _ _ (at4 ∙ c.in-Ok.ensures.whole.0 whole) told number all low;
      partial = λ part.
          let short : length (held_bytes prefix' 4 body') ≡ 4 + c.number_in-declared.result → ⊥ = λ e. true≢false (sym (c.in-Ok.ensures.whole.1 e) ∙ part) in
          let fits : length (held_bytes prefix' 4 body') ≤ 4 + c.number_in-declared.result = c.in-Ok.ensures.fits in
          let grew = ap length c.in-Ok.ensures.held in
          let room = c.in-Ok.ensures.used in
          let least = length-append (held_bytes prefix' 4 body) (take more (drop used piece)) in
          let taken = length-take more (drop used piece) in
          let rest = length-drop used piece in
          (λ _. (omega arith, omega arith), omega arith);
    }

pub returns-in-Ok-clause-oversize : goal.returns-in-Ok-clause-oversize
returns-in-Ok-clause-oversize g c = λ fine over.
    absurd (fed-fits c.args.self.now _ c.args.piece.now _ _ (returns-in-Ok-clause-ok g c) over)

pub returns-in-Err-clause-fault : goal.returns-in-Err-clause-fault
returns-in-Err-clause-fault g c = λ fine.
    let f = c.self.inside in
    let used = c.fill_prefix-used.result in
    let prefix' = c.fill_prefix-used.new.prefix in
    let body = f.body.items in
    let piece = c.args.piece.now in
    let before = held_bytes prefix' 4 body in
    let d = (goal.at.returns-in-Err-clause-fault g c).After-number_in-declared in
    let w = completes g d in
    let held = held_before g d in
    let cut = cut_before g d in
    let limit = limit_before g d in
    let front = front_of g d in
    let number = number_of g d in
    let told : c.number_in-declared.result ≡ declared f.cut.order prefix' = c.number_in-declared.ensures in
    let was : before ≡ c.args.self.now.held ++ take used piece = completed-held f.prefix prefix' body piece f.filled used w ∙ ap (λ l. l ++ take used piece) held in
    let short : length before < 4 + declared c.args.self.now.cut.order (c.args.self.now.held ++ piece) = omega (arith, c.in-Err.ensures.short) in
    let long = completed-long f.prefix prefix' body piece f.filled used w in
    let same = ap (λ n. held_bytes prefix' n c.grow.new.body.items) w.sum ∙ c.in-Err.ensures.err in
    let begun : declared f.cut.order before ≡ declared f.cut.order prefix' = declared_front f.cut.order before prefix' (completed-front f.prefix prefix' body piece f.filled used w) in
    let all : declared f.cut.order prefix' ≤ f.cut.limit - 4 = search rules in
    let low = c.self.invariant.low in
    record {
      unfinished = completed-unfinished c.args.self.now.cut c.args.self.now.held piece used (omega (arith, ap length was));
      prefixed = omega (arith, length-take 4 (c.args.self.now.held ++ piece), ap length front, w.four');
      some = omega arith;
      fits = omega arith;
      held = (used, w.within, same ∙ was);
      part = λ four. (omega (arith, ap length same, ap (declared f.cut.order) same), omega (arith, ap (declared f.cut.order) same));
      cut = cut;
      failed = refl;
    }

pub returns-in-Err-clause-oversize : goal.returns-in-Err-clause-oversize
returns-in-Err-clause-oversize g c = λ fine over.
    let starved = returns-in-Err-clause-fault g c fine in
    absurd (omega (arith, starved.fits, over.1))

-- What the fields keep.

pub invariant_of-self-in-Ok : goal.invariant_of-self-in-Ok
invariant_of-self-in-Ok g c =
    let f = c.self.inside in
    let used = c.fill_prefix-used.result in
    let prefix' = c.fill_prefix-used.new.prefix in
    let w = completes g (goal.at.invariant_of-self-in-Ok g c).After-number_in-declared in
    let told : c.number_in-declared.result ≡ declared f.cut.order prefix' = c.number_in-declared.ensures in
    let grown = completed-grown f.prefix prefix' f.body.items c.grow.new.body.items c.args.piece.now f.filled used c.in-Ok.more.used w c.in-Ok.ensures.held in
    let front = ap (λ n. take 4 (held_bytes prefix' n c.grow.new.body.items)) (sym w.sum) ∙ grown.1 in
    framed-within f.cut f.prefix prefix' f.body.items c.args.piece.now f.filled used f.failed w c.self.invariant c.grow.new.body.items _ (omega (arith, told, c.if-declared-self.false)) front (omega (arith, told, c.in-Ok.ensures.fits))

pub invariant_of-self-in-Err : goal.invariant_of-self-in-Err
invariant_of-self-in-Err g c =
    let f = c.self.inside in
    let used = c.fill_prefix-used.result in
    let prefix' = c.fill_prefix-used.new.prefix in
    let w = completes g (goal.at.invariant_of-self-in-Err g c).After-number_in-declared in
    let told : c.number_in-declared.result ≡ declared f.cut.order prefix' = c.number_in-declared.ensures in
    let same = c.in-Err.ensures.err in
    let front = ap (take 4) same ∙ completed-front f.prefix prefix' f.body.items c.args.piece.now f.filled used w in
    framed-within f.cut f.prefix prefix' f.body.items c.args.piece.now f.filled used f.failed w c.self.invariant c.grow.new.body.items _ (omega (arith, told, c.if-declared-self.false)) front (omega (arith, told, ap length same, c.in-Err.ensures.short))

pub invariant_of-self-then-declared-self : goal.invariant_of-self-then-declared-self
invariant_of-self-then-declared-self g c =
    let f = c.self.inside in
    let prefix' = c.fill_prefix-used.new.prefix in
    let w = completes g (goal.at.invariant_of-self-then-declared-self g c).After-number_in-declared in
    let told : c.number_in-declared.result ≡ declared f.cut.order prefix' = c.number_in-declared.ensures in
    framed-over f.cut f.prefix prefix' f.body.items c.args.piece.now f.filled c.fill_prefix-used.result f.failed w c.self.invariant c.if-self.false (omega (arith, told, c.if-declared-self.true))

pub grow-requires-clause-fits : goal.grow-requires-clause-fits
grow-requires-clause-fits g c =
    let f = c.self.inside in
    let prefix' = c.fill_prefix-used.new.prefix in
    let w = completes g (goal.at.grow-requires-clause-fits g c).After-number_in-declared in
    let told : c.number_in-declared.result ≡ declared f.cut.order prefix' = c.number_in-declared.ensures in
    omega (arith, told, framed-room f.cut f.prefix prefix' f.body.items c.args.piece.now f.filled c.fill_prefix-used.result f.failed w c.self.invariant)
