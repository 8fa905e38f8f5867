use Rattle.std.proofs.Common.{◌∙◌, ◌++◌, List, ap, option_map, Bor, ℕ}
use Rattle.fbcheck_texts.specs.FaultJson.{hint_part, hint_text}
use Rattle.fbcheck_texts.proofs.FaultJsonLemmas.{fault_told, five_put}
use Rattle.fbcheck_texts.proofs.fault_json.told_fault.Goals as goal

pub returns : goal.returns
returns c =
    five_put c.new-line.result.items _ _ _ _ _ _ _ _ _ _ _ (fault_told (option_map (λ (f : Bor (List ℕ)). f.now) c.args.file) c.args.fault.now (hint_text c.args.behind.now) c.args.status)
    c.new-line.ensures.items c.in_ok-put_head.ensures c.in_ok-extend_from_slice.ensures.items c.in_ok-put_text.ensures
    (c.in_ok-put_hint.ensures ∙ ap (λ (h : List ℕ). c.put_text.new.text.items ++ hint_part h) c.hint_text.ensures) c.in_ok-put_status.ensures
