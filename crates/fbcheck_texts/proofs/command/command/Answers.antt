use Rattle.std.proofs.Common.{◌≡◌, ◌<◌, ◌≤◌, ◌+◌, ◌∙◌, ℕ, List, ◌∷◌, add-one, ap, drop, drop-cons, fold, length, map, slice_index_or, sym}
use Rattle.std.proofs.Math.ListN.{drop_of_length-le}
use Rattle.clap.specs.Simple.{App, app_of, with_rule}
use Rattle.fbcheck_texts.specs.{CommandLine.program, OptionTable.choice_rule, declared.command.Choice.Choice}
use Rattle.fbcheck_texts.proofs.command.command.Goals as goal

-- one option more, and what is left makes the program of what stands then
one_more : (a b : App) (xs : List Choice) (i : ℕ) (d : Choice) → i < length xs → b ≡ with_rule a (choice_rule (slice_index_or xs i d))
    → fold with_rule a (map choice_rule (drop i xs)) ≡ program → fold with_rule b (map choice_rule (drop (i + 1) xs)) ≡ program
one_more a b xs i d lt is all =
    let left : drop i xs ≡ slice_index_or xs i d ∷ drop (i + 1) xs = rw add-one (drop-cons xs i d lt) in
    ap (λ (c : App). fold with_rule c (map choice_rule (drop (i + 1) xs))) is ∙ sym (ap (λ (l : List Choice). fold with_rule a (map choice_rule l)) left) ∙ all

-- where none is left, what stands is the program
none_left : (a : App) (xs : List Choice) (i : ℕ) → length xs ≤ i → fold with_rule a (map choice_rule (drop i xs)) ≡ program → a ≡ program
none_left a xs i le all = ap (λ (l : List Choice). fold with_rule a (map choice_rule l)) (sym (drop_of_length-le xs le)) ∙ all

pub loop-choice-preserved : goal.loop-choice-preserved
loop-choice-preserved c =
    let added = c.in_ok-command.ensures.shape c.choice_arg.ensures.1
    ∙ ap (with_rule (app_of c.loop-choice.command)) c.choice_arg.ensures.0 in
    one_more _ _ _ _ _ c.loop-choice-test.true added c.loop-choice.invariant

pub returns : goal.returns
returns c = record { app = none_left _ _ _ c.loop-choice-test.false c.loop-choice.invariant }
