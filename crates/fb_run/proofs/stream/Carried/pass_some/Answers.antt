use Rattle.std.proofs.Common.{◌≡◌, ◌<◌, ◌++◌, ◌∙◌, ℕ, List, [], arith, rules, ap, length, refl, subst, sym, take}
use Rattle.std.proofs.lemmas.List.{nil_from_length}
use Rattle.fb_bytes.specs.{Framing.Framing, Messages.IsMessage, Messages.IsPartial, declared.cut.Cut.Cut}
use Rattle.fb_run.specs.{Pieces.PassesBy, Pieces.carry_of, Puts.queues_of}
use Rattle.fb_run.proofs.RunLemmas.{err_exit}
use Rattle.fb_run.proofs.StreamLemmas.{feed_halts, held_stands, message_passes, message_stops, open_sound, still_ready}
use Rattle.fb_run.proofs.stream.Carried.pass_some.Goals as goal

pub returns-in_err-add : goal.returns-in_err-add
returns-in_err-add g c =
    let message = c.in-Some.message.now in
    let n = length message in
    let none : c.args.self.now.framer.held ≡ [] = nil_from_length c.args.self.now.framer.held (omega (arith, c.held.ensures.value)) in
    err_exit _ _ (PassesBy _ _ _ _) c.from_residual.ensures.1
    (message_stops c.args.rest.now message n (carry_of g.K.Sink g.N.Sink g.R.Sink c.args.self.now c.args.writer.now c.args.notes.now c.args.rejects.now)
    (carry_of g.K.Sink g.N.Sink g.R.Sink (record c.args.self.now { room = c.add.new.room; output = c.add.new.self }) c.add.new.writer c.add.new.notes c.add.new.rejects)
    (c.in-Some.ensures.front ∙ ap (λ (l : List ℕ). l ++ take n c.args.rest.now) (sym none)) (subst (λ (u : Cut). IsMessage u message) c.cut.ensures.value c.in-Some.ensures.whole)
    c.requires.unfailed c.requires.due c.in_err-add.field-0.0 c.in_err-add.ensures.told)

pub returns-in-Some : goal.returns-in-Some
returns-in-Some g c =
    let message = c.in-Some.message.now in
    let n = length message in
    let none : c.args.self.now.framer.held ≡ [] = nil_from_length c.args.self.now.framer.held (omega (arith, c.held.ensures.value)) in
    message_passes c.args.rest.now message n (carry_of g.K.Sink g.N.Sink g.R.Sink c.args.self.now c.args.writer.now c.args.notes.now c.args.rejects.now)
    (carry_of g.K.Sink g.N.Sink g.R.Sink (record c.args.self.now { room = c.add.new.room; output = c.add.new.self }) c.add.new.writer c.add.new.notes c.add.new.rejects)
    (c.in-Some.ensures.front ∙ ap (λ (l : List ℕ). l ++ take n c.args.rest.now) (sym none)) (subst (λ (u : Cut). IsMessage u message) c.cut.ensures.value c.in-Some.ensures.whole)
    c.requires.unfailed c.requires.due c.in-Some.ensures.within c.in-Some.ensures.some none (still_ready c.requires.ready c.add.ensures.room) c.in_ok-add.ensures.told

pub returns-in_err-taken : goal.returns-in_err-taken
returns-in_err-taken g c =
    err_exit _ _ (PassesBy _ _ _ _) c.from_residual-in_err-taken.ensures.1 (
      λ first bytes stands.
          feed_halts c.args.checker.now first bytes c.args.rest.now (carry_of g.K.Sink g.N.Sink g.R.Sink c.args.self.now c.args.writer.now c.args.notes.now c.args.rejects.now) c.feed.new.self c.in_err-taken.field-0.0 c.requires.ready.cut c.requires.unfailed c.requires.due (c.in_err-taken.ensures.fault c.requires.ready.fine) stands,
      open_sound (queues_of g.K.Sink g.N.Sink g.R.Sink c.args.self.now.output c.args.writer.now c.args.notes.now c.args.rejects.now) c.requires.unfailed,
    )

pub returns-in_default-message : goal.returns-in_default-message
returns-in_default-message g c =
    let feeds = c.in_ok-taken.ensures.ok in
    let part : IsPartial c.feed.new.self.cut c.feed.new.self.held = search rules in
    record {
      within = feeds.within;
      some = search rules;
      goes_on = record {
        onward = λ first bytes stands. held_stands c.args.checker.now first bytes c.args.rest.now c.in_ok-taken.taken.used c.in_ok-taken.taken.whole (carry_of g.K.Sink g.N.Sink g.R.Sink c.args.self.now c.args.writer.now c.args.notes.now c.args.rejects.now) c.feed.new.self c.requires.ready.cut feeds part stands;
        ready = record { fits = c.requires.ready.fits; fine = feeds.fine.1; cut = feeds.cut ∙ c.requires.ready.cut; short = rw feeds.cut c.requires.ready.short; part = part };
        unfailed = c.requires.unfailed;
        few = omega arith;
      };
      one = record { messages = omega arith; bad = omega arith };
    }

pub returns-in_err-add-2 : goal.returns-in_err-add-2
returns-in_err-add-2 g c =
    let whole = c.in-Some-message.ensures.whole.0 refl in
    let bytes_are = c.in-Some-message.ensures.bytes in
    let feeds = c.in_ok-taken.ensures.ok in
    err_exit _ _ (PassesBy _ _ _ _) c.from_residual-in_err-add-2.ensures.1
    (message_stops c.args.rest.now c.in-Some-message.message.now c.in_ok-taken.taken.used (carry_of g.K.Sink g.N.Sink g.R.Sink c.args.self.now c.args.writer.now c.args.notes.now c.args.rejects.now)
    (carry_of g.K.Sink g.N.Sink g.R.Sink (record c.args.self.now { room = c.add-2.new.room; framer = c.feed.new.self; output = c.add-2.new.self }) c.add-2.new.writer c.add-2.new.notes c.add-2.new.rejects)
    (bytes_are ∙ feeds.held) (subst (λ (u : Cut). IsMessage u c.in-Some-message.message.now) (feeds.cut ∙ c.requires.ready.cut) (subst (IsMessage c.feed.new.self.cut) (sym bytes_are) whole.1))
    c.requires.unfailed c.requires.due c.in_err-add-2.field-0.0 c.in_err-add-2.ensures.told)

pub returns : goal.returns
returns g c =
    let whole = c.in-Some-message.ensures.whole.0 refl in
    let bytes_are = c.in-Some-message.ensures.bytes in
    let feeds = c.in_ok-taken.ensures.ok in
    let some : 0 < c.in_ok-taken.taken.used = search rules in
    message_passes c.args.rest.now c.in-Some-message.message.now c.in_ok-taken.taken.used (carry_of g.K.Sink g.N.Sink g.R.Sink c.args.self.now c.args.writer.now c.args.notes.now c.args.rejects.now)
    (carry_of g.K.Sink g.N.Sink g.R.Sink (record c.args.self.now { room = c.add-2.new.room; framer = c.next.new.self; output = c.add-2.new.self }) c.add-2.new.writer c.add-2.new.notes c.add-2.new.rejects)
    (bytes_are ∙ feeds.held) (subst (λ (u : Cut). IsMessage u c.in-Some-message.message.now) (feeds.cut ∙ c.requires.ready.cut) (subst (IsMessage c.feed.new.self.cut) (sym bytes_are) whole.1))
    c.requires.unfailed c.requires.due feeds.within some (ap (λ (f : Framing). f.held) (c.next.ensures.whole whole)) (search rules) c.in_ok-add-2.ensures.told
