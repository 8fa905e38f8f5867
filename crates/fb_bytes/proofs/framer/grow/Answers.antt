use Rattle.std.proofs.Common.{◌≡◌, ◌+◌, ◌-◌, ◌++◌, length, vec_len, sym, ap, ◌∙◌, arith, length-take}
use Rattle.std.proofs.lemmas.List.{take-take}
use Rattle.fb_bytes.specs.Framing.{held_bytes}
use Rattle.fb_bytes.proofs.FramingLemmas.{drop_take, grown-length, held-body, held-empty, on-err, told-whole}
use Rattle.fb_bytes.proofs.framer.grow.Goals as goal
use Rattle.fb_bytes.proofs.framer.grow.Goals.{In_ok-append, Joined-is_empty, then-is_empty, else-is_empty}

pub append-requires-clause-front : goal.append-requires-clause-front
append-requires-clause-front g c = λ four. take-take 4 (c.args.at + c.min-used.result) c.args.piece.now (omega arith) ∙ c.requires.front four

pub returns-clause-held : goal.returns-clause-held
returns-clause-held g c = c.in_ok-append.ensures ∙ ap (λ l. held_bytes c.args.prefix.now 4 c.args.body.now.items ++ l) (drop_take c.args.at c.min-used.result c.args.piece.now)

before : (g : _) (c : Joined-is_empty g) → c.if-is_empty.before ≡ length (held_bytes c.args.prefix.now 4 c.args.body.now.items)
before g c =
    let items = c.args.body.now.items in
    let long : vec_len c.args.body.now ≡ length items = omega (arith, c.args.body.now.ok.0) in
    elim c.if-is_empty.branch [
      | then-is_empty w ↦ w.before-is ∙ sym (held-empty c.args.prefix.now items _ long c.requires.four w.if-is_empty.ensures)
      | else-is_empty w ↦ w.before-is ∙ w.len-before.ensures ∙ sym (held-body c.args.prefix.now items _ long w.if-is_empty.ensures)
    ]

-- as many more are held as were added
grew : (g : _) (c : In_ok-append g) → length (held_bytes c.args.prefix.now 4 c.append.new.body.items) ≡ length (held_bytes c.args.prefix.now 4 c.args.body.now.items) + c.min-used.result
grew g c = grown-length _ _ c.args.piece.now c.args.at c.min-used.result (returns-clause-held g c) (omega (arith, c.min-used.ensures))

pub returns-clause-fits : goal.returns-clause-fits
returns-clause-fits g c =
    omega (arith, grew g c, before g (goal.at.returns-clause-fits g c).Joined-is_empty, c.min-used.ensures, c.requires.fits)

pub returns-clause-whole : goal.returns-clause-whole
returns-clause-whole g c =
    let b = before g (goal.at.returns-clause-whole g c).Joined-is_empty in
    let more = grew g c in
    told-whole c.min-used.result (c.args.declared + 4 - c.if-is_empty.before) _ _ (λ all. omega (arith, all, more, b, c.requires.fits)) (λ whole. omega (arith, whole, more, b))

pub returns-in_err-append-clause-short : goal.returns-in_err-append-clause-short
returns-in_err-append-clause-short g c =
    let b = before g (goal.at.returns-in_err-append-clause-short g c).Joined-is_empty in
    on-err c.from_residual.result (omega (arith, c.in_err-append.ensures.1, length-take (c.args.at + c.min-used.result) c.args.piece.now, b, c.min-used.ensures))
