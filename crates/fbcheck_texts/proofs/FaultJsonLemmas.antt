-- The lines of faults and hints by their parts, and which of both they are.
use Rattle.std.proofs.Common.{◌≡◌, ℕ, List, [], ◌∷◌, ◌++◌, Option, Some, None, codes, decimal, sym, subst, append_assoc}
use mathlib.Core.Logic.{inl, inr}
use Rattle.json.specs.Print.{escape_byte}
use Rattle.fb_run.specs.{Json.json_text, Json.text_json, declared.options.LineForm.LineForm, declared.options.LineForm.TheVariants.Json as in_json}
use Rattle.fb_run.proofs.JsonLemmas.{first_member, next_member, no_more, number_text}
use Rattle.fbcheck_texts.specs.FaultJson.{IsLineIn, fault_json, head_part, hint_json, hint_part}

-- the object of a fault, and of a hint
pub fault_told : (file : Option (List ℕ)) (fault hint : List ℕ) (status : ℕ)
    → json_text (fault_json file fault hint status) ++ codes "\n"
    ≡ head_part file ++ (codes "\"fault\":" ++ (json_text (text_json fault) ++ (hint_part hint ++ (codes ",\"status\":" ++ (decimal status ++ codes "}\n")))))
unfolding escape_byte
fault_told None fault [] status = simp (first_member, next_member, no_more, number_text, append_assoc)
fault_told None fault (b ∷ hint) status = simp (first_member, next_member, no_more, number_text, append_assoc)
fault_told (Some name) fault [] status = simp (first_member, next_member, no_more, number_text, append_assoc)
fault_told (Some name) fault (b ∷ hint) status = simp (first_member, next_member, no_more, number_text, append_assoc)

pub hint_told : (file : Option (List ℕ)) (hint : List ℕ)
    → json_text (hint_json file hint) ++ codes "\n" ≡ head_part file ++ (codes "\"hint\":" ++ (json_text (text_json hint) ++ codes "}\n"))
unfolding escape_byte
hint_told None hint = simp (first_member, no_more, append_assoc)
hint_told (Some name) hint = simp (first_member, next_member, no_more, append_assoc)

-- a line that is put by its parts, one behind the other
pub four_put : (t0 t1 t2 t3 t4 a b c d whole : List ℕ) → whole ≡ a ++ (b ++ (c ++ d)) → t0 ≡ [] → t1 ≡ t0 ++ a → t2 ≡ t1 ++ b → t3 ≡ t2 ++ c → t4 ≡ t3 ++ d → t4 ≡ whole
four_put t0 t1 t2 t3 t4 a b c d whole is none p1 p2 p3 p4 = rw (p4, p3, p2, p1, none, is) (simp append_assoc)

pub five_put : (t0 t1 t2 t3 t4 t5 a b c d e whole : List ℕ) → whole ≡ a ++ (b ++ (c ++ (d ++ e))) → t0 ≡ [] → t1 ≡ t0 ++ a → t2 ≡ t1 ++ b → t3 ≡ t2 ++ c → t4 ≡ t3 ++ d
    → t5 ≡ t4 ++ e → t5 ≡ whole
five_put t0 t1 t2 t3 t4 t5 a b c d e whole is none p1 p2 p3 p4 p5 = rw (p5, p4, p3, p2, p1, none, is) (simp append_assoc)

-- a line that is the object where faults are told in JSON, and one that is the plain line
pub object_in : (form : LineForm) (told plain line : List ℕ) → form ≡ in_json → line ≡ told → IsLineIn form told plain line
object_in form told plain line json is = subst (λ (f : LineForm). IsLineIn f told plain line) (sym json) (inl is)

pub plain_in : (form : LineForm) (told plain line : List ℕ) → line ≡ plain → IsLineIn form told plain line
plain_in in_json told plain line is = inr is
plain_in _ told plain line is = is
