-- The summary as JSON by its parts.
use Rattle.std.proofs.Common.{◌≡◌, ℕ, ◌+◌, ◌%◌, ◌^◌, ◌<◌, ◌≤◌, ◌==◌, Bool, true, false, List, [], ◌∷◌, ◌++◌, codes, decimal, length, refl, sym, ap, ◌∙◌, arith, append_assoc}
use Rattle.std.specs.Prelude.{if◌then◌else◌}
use Rattle.std.proofs.lemmas.Fmt.{decimal_by_steps}
use Rattle.json.specs.{Json.object, Json.Members, Json.no_members, Json.member, Print.escape, Print.escape_byte, Print.quoted}
use Rattle.json.proofs.Printed.Strings.{escape_byte_plain}
use Rattle.fb_rules.specs.Reasons.{reason_count}
use Rattle.fb_run.specs.{Json.count_json, Json.following, Json.json_text, JsonSums.reasons_members, JsonSums.summary_in, Sums.count_of, Sums.counts_part, Sums.in_form}
use Rattle.fb_run.specs.{Sums.reasons_from, Sums.summary_part, Sums.verdicts_part, declared.options.LineForm.LineForm, declared.tally.Tally.Tally}
use Rattle.fb_run.specs.declared.options.LineForm.TheVariants as form
use Rattle.fb_run.proofs.JsonLemmas.{escape_more, first_member, next_member, no_more, number_text}

-- digits stand in a string as they are
digit_stays : (d : ℕ) → d < 10 → escape_byte (48 + d) ≡ (48 + d) ∷ []
digit_stays d few = escape_byte_plain (48 + d) (λ e. omega arith) (λ e. omega arith) (omega arith)

decimal_stays : (n : ℕ) → n < 2 ^ 64 → escape (decimal n) ≡ decimal n
decimal_stays =
    decimal_by_steps (λ n ds. escape ds ≡ ds) (λ n few. ap (λ l. l ++ []) (digit_stays n few))
    (λ n ds large stay. escape_more ds (48 + n % 10) ∙ (λ i. stay i ++ digit_stays (n % 10) (omega arith) i))

-- the key of a reason's count
key_text : (n : ℕ) → n < 2 ^ 64 → quoted (codes "V" ++ decimal n) ≡ codes "\"V" ++ (decimal n ++ codes "\"")
unfolding escape_byte
key_text n few = ap (λ l. codes "\"V" ++ (l ++ codes "\"")) (decimal_stays n few)

-- the count of a reason, before what is written of the other members
abbrev given_part : ℕ → ℕ → List ℕ
given_part k count = in_form form.Json (codes " V") (codes ",\"V") ++ decimal k ++ in_form form.Json (codes "=") (codes "\":") ++ decimal count

given_text : (k count : ℕ) (more : Members) → k < 2 ^ 64
    → following (member (codes "V" ++ decimal k) (count_json count) more) ++ codes "\n" ≡ given_part k count ++ (following more ++ codes "\n")
given_text k count more few =
    ap (λ l. l ++ codes "\n") (
    next_member (codes "V" ++ decimal k) (count_json count) more
    ∙ ap (λ l. 44 ∷ (l ++ (58 ∷ (json_text (count_json count) ++ following more)))) (key_text k few)
    )
    ∙ simp (number_text, append_assoc)

reason_text : (none : Bool) (k count : ℕ) (more : Members) (text : List ℕ) → k < 2 ^ 64 → following more ++ codes "\n" ≡ text
    → following (if none then more else member (codes "V" ++ decimal k) (count_json count) more) ++ codes "\n" ≡ (if none then [] else given_part k count) ++ text
reason_text true k count more text few is = is
reason_text false k count more text few is = given_text k count more few ∙ ap (λ l. given_part k count ++ l) is

reasons_text : (k : ℕ) (counts : List ℕ) (rest : Members) → k + length counts ≤ 2 ^ 64
    → following (reasons_members k counts rest) ++ codes "\n" ≡ reasons_from form.Json k counts (following rest ++ codes "\n")
reasons_text k [] rest few = refl
reasons_text k (count ∷ counts) rest few =
    reason_text (count == 0) k count (reasons_members (k + 1) counts rest) (reasons_from form.Json (k + 1) counts (following rest ++ codes "\n")) (omega (arith, few))
    (reasons_text (k + 1) counts rest (omega (arith, few)))

-- what stands before the reasons, and behind them
head_text : (tally : Tally) (rest : Members)
    → json_text (object (member (codes "messages") (count_json (count_of tally)) (member (codes "yes") (count_json tally.yes) (member (codes "no") (count_json tally.no) rest)))) ++ codes "\n"
    ≡ verdicts_part form.Json tally (following rest ++ codes "\n")
unfolding escape_byte
head_text tally rest = ap (λ l. l ++ codes "\n") (first_member (codes "messages") (count_json (count_of tally)) _) ∙ simp (next_member, number_text, append_assoc)

tail_text : (tally : Tally)
    → following (member (codes "bytes") (count_json tally.bytes) (member (codes "tables") (count_json tally.tables) (member (codes "reads") (count_json tally.reads) no_members))) ++ codes "\n"
    ≡ counts_part form.Json tally
unfolding escape_byte
tail_text tally = simp (next_member, no_more, number_text, append_assoc)

-- the line in either form
pub summary_parts : (f : LineForm) (tally : Tally) → length tally.reasons ≡ reason_count → summary_part f tally ≡ summary_in f tally
summary_parts form.Plain tally places = refl
summary_parts form.Json tally places =
    sym (
    head_text tally (reasons_members 1 tally.reasons (member (codes "bytes") (count_json tally.bytes) (member (codes "tables") (count_json tally.tables) (member (codes "reads") (count_json tally.reads) no_members))))
    ∙ ap (λ l. verdicts_part form.Json tally l) (reasons_text 1 tally.reasons _ (omega (arith, places)) ∙ ap (λ l. reasons_from form.Json 1 tally.reasons l) (tail_text tally))
    )
