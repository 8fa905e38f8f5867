use Rattle.std.proofs.Common.{◌∙◌, ◌++◌, List, ap, option_map, Bor, ℕ}
use Rattle.fb_run.specs.Json.{json_text, text_json}
use Rattle.fbcheck_texts.specs.FaultJson.{hint_text}
use Rattle.fbcheck_texts.proofs.FaultJsonLemmas.{four_put, hint_told}
use Rattle.fbcheck_texts.proofs.fault_json.told_hint.Goals as goal

pub returns : goal.returns
returns c =
    four_put c.new-line.result.items _ _ _ _ _ _ _ _ _ (hint_told (option_map (λ (f : Bor (List ℕ)). f.now) c.args.file) (hint_text c.args.hint.now))
    c.new-line.ensures.items c.in_ok-put_head.ensures c.in_ok-extend_from_slice.ensures.items
    (c.in_ok-put_text.ensures ∙ ap (λ (h : List ℕ). c.extend_from_slice.new.self.items ++ json_text (text_json h)) c.hint_text.ensures) c.in_ok-extend_from_slice-2.ensures.items
