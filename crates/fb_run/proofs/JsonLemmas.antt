-- The text of JSON by its parts.
use Rattle.std.proofs.Common.{◌≡◌, ℕ, suc, ◌+◌, ◌<◌, ◌≤◌, ◌/◌, ◌%◌, ◌^◌, Bool, true, false, cond, List, [], ◌∷◌, ◌++◌, Option}
use Rattle.std.proofs.Common.{Some, None, codes, decimal, length, fold, get_or, drop, Fits, w8, refl, sym, ap, ◌∙◌, arith, rules, append_assoc, append-nil, inl, inr, min}
use Rattle.std.specs.{Prelude.if◌then◌else◌, Prelude.nat_lt, Str.is_utf8, Str.IsUtf8, List.All, List.flat_map}
use Rattle.std.proofs.lemmas.{Bool.cases_lt, Bool.false_from_ne_true, Bool.Decides.nat_tests, List.drop_more, List.drop_all, List.flat_map_more, List.Elements.All-get_or}
use Rattle.std.proofs.lemmas.{Str.IsUtf8-from_is_utf8, Str.is_utf8-from_IsUtf8, List.Sums.fold-append}
use Rattle.hex.specs.Hex.{encode_lower, encode_with, lower_digits}
use Rattle.fb_run.specs.AnswerText.{spelled}
use Rattle.fb_run.specs.declared.value_text.Spelling.TheVariants as spelling
use Rattle.fb_run.proofs.AnswerLemmas.{digits_each}
use Rattle.std.proofs.Math.Facts.{Fits-lt-pow}
use Rattle.json.specs.{Token.Token, Tree.json_tokens, Tree.items_tokens, Tree.members_tokens}
use Rattle.json.specs.Json.{Json, null, boolean, number, string, array, object, Items, no_items, item, Members, no_members, member}
use Rattle.json.specs.Print.{print_from, ends, escape, escape_byte, quoted}
use Rattle.json.proofs.Printed.Tokens.{print_from-append}
use Rattle.fb_schema.specs.Rows.{Rows}
use Rattle.fb_rules.specs.declared.{fault.Fault.Fault, fault.Report.Report}
use Rattle.fb_access.specs.Denotes.{Shown, nothing, no_element, other_member, table}
use Rattle.fb_run.specs.declared.spot.Spot.{Spot}
use Rattle.fb_run.specs.Json.{AreValues, IsValue, IsValuesMember, json_text, text_json, value_json, labelled, digits_json, line_json, yes_members, no_members_of}
use Rattle.fb_run.specs.Json.{place_member, members_text, member_part, following, begin_part, counts_part, reason_part, names_part, end_part, json_yes, json_no}

-- a comma, behind a value
abbrev comma : Bool → List ℕ
comma after = cond after (44 ∷ []) []

-- whether a value ended behind these tokens
abbrev ended : Bool → List Token → Bool
ended after ts = fold (λ _ t. ends t) after ts

mutual
  ends_json : (j : Json) (after : Bool) → ended after (json_tokens j) ≡ true
  ends_json null after = refl
  ends_json (boolean b) after = refl
  ends_json (number s) after = refl
  ends_json (string s) after = refl
  ends_json (array js) after = ends_items js false
  ends_json (object ms) after = ends_members ms false

  ends_items : (js : Items) (after : Bool) → ended after (items_tokens js) ≡ true
  ends_items no_items after = refl
  ends_items (item j js) after = fold-append (λ _ t. ends t) after (json_tokens j) (items_tokens js) ∙ ends_items js (ended after (json_tokens j))

  ends_members : (ms : Members) (after : Bool) → ended after (members_tokens ms) ≡ true
  ends_members no_members after = refl
  ends_members (member k j ms) after = fold-append (λ _ t. ends t) false (json_tokens j) (members_tokens ms) ∙ ends_members ms (ended false (json_tokens j))

-- a value behind another has a comma before it
begins_json : (after : Bool) (j : Json) → print_from after (json_tokens j) ≡ comma after ++ json_text j
unfolding print_from json_text
begins_json true null = refl
begins_json true (boolean b) = refl
begins_json true (number s) = refl
begins_json true (string s) = refl
begins_json true (array js) = refl
begins_json true (object ms) = refl
begins_json false j = refl

-- a value, and what stands behind it
value_then : (after : Bool) (j : Json) (ts : List Token) → print_from after (json_tokens j ++ ts) ≡ comma after ++ (json_text j ++ print_from true ts)
value_then after j ts =
    print_from-append after (json_tokens j) ts
    ∙ ap (λ a. print_from after (json_tokens j) ++ print_from a ts) (ends_json j after)
    ∙ ap (λ l. l ++ print_from true ts) (begins_json after j)
    ∙ append_assoc (comma after) (json_text j) (print_from true ts)

-- the text of a number, and of a string
pub number_text : (s : List ℕ) → json_text (number s) ≡ s
unfolding print_from json_text
number_text s = append-nil s

pub string_text : (s : List ℕ) → json_text (string s) ≡ quoted s
unfolding print_from json_text
string_text s = append-nil (quoted s)

-- a member, and what stands behind it
member_then : (behind : Bool) (key : List ℕ) (j : Json) (ms : Members)
    → members_text behind (member key j ms) ≡ comma behind ++ (quoted key ++ (58 ∷ (json_text j ++ following ms)))
unfolding members_text print_from
member_then true key j ms = ap (λ l. 44 ∷ ((quoted key ++ 58 ∷ []) ++ l)) (value_then false j (members_tokens ms)) ∙ ap (λ l. 44 ∷ l) (append_assoc (quoted key) (58 ∷ []) _)
member_then false key j ms = ap (λ l. (quoted key ++ 58 ∷ []) ++ l) (value_then false j (members_tokens ms)) ∙ append_assoc (quoted key) (58 ∷ []) _

pub next_member : (key : List ℕ) (j : Json) (ms : Members) → following (member key j ms) ≡ 44 ∷ (quoted key ++ (58 ∷ (json_text j ++ following ms)))
next_member key j ms = member_then true key j ms

-- the same by what is written
part_then : (behind : Bool) (key : List ℕ) (j : Json) (ms : Members) → members_text behind (member key j ms) ≡ member_part behind key j ++ following ms
part_then behind key j ms = member_then behind key j ms ∙ simp (string_text, append_assoc)

-- the end of an object
none_left : (behind : Bool) → members_text behind no_members ≡ codes "}"
unfolding members_text print_from
none_left true = refl
none_left false = refl

pub no_more : following no_members ≡ codes "}"
no_more = none_left true

-- an object
pub object_text : (ms : Members) → json_text (object ms) ≡ codes "{" ++ members_text false ms
unfolding members_text print_from json_text
object_text ms = refl

pub first_member : (key : List ℕ) (j : Json) (ms : Members) → json_text (object (member key j ms)) ≡ 123 ∷ (quoted key ++ (58 ∷ (json_text j ++ following ms)))
first_member key j ms = object_text (member key j ms) ∙ ap (λ l. 123 ∷ l) (member_then false key j ms)

-- a member's name by what is put
pub key_spelled : (path : List ℕ) → json_text (string path) ++ codes ":" ≡ codes "\"" ++ (flat_map (spelled spelling.Json) path ++ codes "\":")
key_spelled path = ap (λ l. l ++ codes ":") (string_text path) ∙ ap (λ l. 34 ∷ l) (append_assoc (escape path) (codes "\"") (codes ":"))

-- what is always told alike
pub fixed_texts : (json_text null ≡ codes "null") × (json_text (boolean true) ≡ codes "true") × (json_text (boolean false) ≡ codes "false")
    × (json_text (value_json no_element) ≡ codes "{\"absent\":\"no-element\"}") × (json_text (value_json other_member) ≡ codes "{\"absent\":\"other-member\"}")
    × (json_text (value_json table) ≡ codes "{\"table\":true}")
unfolding print_from json_text escape_byte
fixed_texts = (refl, refl, refl, refl, refl, refl)

-- the words of floats that are no numbers
pub word_texts : (json_text (string (codes "NaN")) ≡ codes "\"NaN\"") × (json_text (string (codes "Infinity")) ≡ codes "\"Infinity\"")
    × (json_text (string (codes "-Infinity")) ≡ codes "\"-Infinity\"")
unfolding print_from json_text escape_byte
word_texts = (refl, refl, refl)

-- an object of one member
pub labelled_text : (key : List ℕ) (j : Json) → json_text (labelled key j) ≡ 123 ∷ (quoted key ++ (58 ∷ (json_text j ++ codes "}")))
labelled_text key j = first_member key j no_members ∙ ap (λ l. 123 ∷ (quoted key ++ (58 ∷ (json_text j ++ l)))) no_more

-- hexadecimal digits stand in a string as they are
abbrev StaysAs : ℕ → Type 0
StaysAs b = escape_byte b ≡ b ∷ []

sixteen : All StaysAs lower_digits
unfolding escape_byte
sixteen = search rules

digits_stay : (bytes : List ℕ) → ((k : ℕ) → Fits w8 (get_or bytes k 0)) → escape (encode_lower bytes) ≡ encode_lower bytes
unfolding encode_with
digits_stay [] h = refl
digits_stay (b ∷ bytes) h =
    let small : b < 2 ^ 8 = Fits-lt-pow (h 0) in
    let high = All-get_or StaysAs lower_digits (b / 16) 0 (omega arith) sixteen in
    let low = All-get_or StaysAs lower_digits (b % 16) 0 (omega arith) sixteen in
    λ i. high i ++ (low i ++ digits_stay bytes (λ k. h (suc k)) i)

-- an object of one member whose value is digits, and one whose value is a number
pub labelled_digits : (key bytes : List ℕ) → ((k : ℕ) → Fits w8 (get_or bytes k 0))
    → json_text (labelled key (digits_json bytes)) ≡ codes "{" ++ (json_text (string key) ++ ((codes ":\"" ++ encode_lower bytes) ++ codes "\"}"))
labelled_digits key bytes h = labelled_text key (digits_json bytes) ∙ simp (string_text, digits_stay bytes h, append_assoc)

-- the same by what is put
pub digits_put : (bytes : List ℕ) → ((k : ℕ) → Fits w8 (get_or bytes k 0)) → escape (encode_lower bytes) ≡ flat_map (spelled spelling.Digits) bytes
digits_put bytes small = digits_stay bytes small ∙ sym (digits_each bytes)

-- an object of one member that is a string, behind what opens both
member_put : (key s : List ℕ) → json_text (labelled key (string s)) ≡ 123 ∷ (quoted key ++ (58 ∷ 34 ∷ (escape s ++ codes "\"}")))
member_put key s = labelled_text key (string s) ∙ ap (λ l. 123 ∷ (quoted key ++ (58 ∷ (l ++ codes "}")))) (string_text s) ∙ ap (λ l. 123 ∷ (quoted key ++ (58 ∷ 34 ∷ l))) (append_assoc (escape s) (codes "\"") (codes "}"))

pub float_put : (s : List ℕ) → json_text (labelled (codes "float") (string s)) ≡ codes "{\"float\":\"" ++ (escape s ++ codes "\"}")
unfolding escape_byte
float_put s = member_put (codes "float") s

pub struct_put : (s : List ℕ) → json_text (labelled (codes "struct") (string s)) ≡ codes "{\"struct\":\"" ++ (escape s ++ codes "\"}")
unfolding escape_byte
struct_put s = member_put (codes "struct") s

pub bytes_put : (s : List ℕ) → json_text (labelled (codes "bytes") (string s)) ≡ codes "{\"bytes\":\"" ++ (escape s ++ codes "\"}")
unfolding escape_byte
bytes_put s = member_put (codes "bytes") s

pub string_put : (bytes : List ℕ) → json_text (string bytes) ≡ codes "\"" ++ (flat_map (spelled spelling.Json) bytes ++ codes "\"")
string_put bytes = string_text bytes

pub vector_put : (s : List ℕ) → json_text (labelled (codes "vector") (number s)) ≡ codes "{\"vector\":" ++ (s ++ codes "}")
unfolding escape_byte
vector_put s = labelled_text (codes "vector") (number s) ∙ ap (λ l. codes "{\"vector\":" ++ (l ++ codes "}")) (number_text s)

pub union_put : (s : List ℕ) → json_text (labelled (codes "union") (number s)) ≡ codes "{\"union\":" ++ (s ++ codes "}")
unfolding escape_byte
union_put s = labelled_text (codes "union") (number s) ∙ ap (λ l. codes "{\"union\":" ++ (l ++ codes "}")) (number_text s)

-- a text that is UTF-8, and one that isn't
pub text_is_string : (bytes : List ℕ) → IsUtf8 bytes → text_json bytes ≡ string bytes
text_is_string bytes h = rw (is_utf8-from_IsUtf8 bytes h)

pub text_is_bytes : (bytes : List ℕ) → (IsUtf8 bytes → ⊥) → text_json bytes ≡ labelled (codes "bytes") (digits_json bytes)
text_is_bytes bytes h = rw (false_from_ne_true (is_utf8 bytes) (λ e. h (IsUtf8-from_is_utf8 bytes e)))

-- one byte more of a string
pub escape_more : (xs : List ℕ) (b : ℕ) → escape (xs ++ b ∷ []) ≡ escape xs ++ escape_byte b
escape_more xs b = sym (flat_map_more escape_byte [] xs b)

-- a line by its beginning and the rest
pub begun : (file : Option (List ℕ)) (spot : Spot) (rest : Members) → json_text (line_json file spot rest) ≡ begin_part file spot ++ following rest
unfolding escape_byte
begun None spot rest = simp (first_member, next_member, number_text, append_assoc)
begun (Some file) spot rest = simp (first_member, next_member, number_text, append_assoc)

-- the place in words, where there is one
pub place_parts : (place : List ℕ) → following (place_member (Some place)) ≡ codes ",\"place\":" ++ (json_text (text_json place) ++ codes "}")
unfolding escape_byte
place_parts place = simp (next_member, no_more)

-- whatever completes the values from number i on, behind this text, completes them all behind the one before
abbrev pub Completes : List (List ℕ) → List Shown → ℕ → List ℕ → List ℕ → Type 0
Completes paths shown i text before =
    (rest : Members) → AreValues (drop i paths) (drop i shown) rest
    → (all : Members) × AreValues paths shown all × (text ++ members_text (nat_lt 0 i) rest ≡ before ++ members_text false all)

nat_lt_next : (i : ℕ) → nat_lt 0 (i + 1) ≡ true
nat_lt_next i = grind (arith, nat_tests)

-- at first, with one value more, and at the end, where the object is closed
pub none_yet : (paths : List (List ℕ)) (shown : List Shown) (text : List ℕ) → Completes paths shown 0 text text
none_yet paths shown text rest are = (rest, are, refl)

pub one_value_more : (paths : List (List ℕ)) (shown : List Shown) (i : ℕ) (text text' before : List ℕ) (value : Json) → i < length paths → i < length shown
    → Completes paths shown i text before → IsValue (get_or shown i nothing) value → text' ≡ text ++ member_part (nat_lt 0 i) (get_or paths i []) value
    → Completes paths shown (i + 1) text' before
one_value_more paths shown i text text' before value few enough completes is more rest are =
    let key = get_or paths i [] in
    let next : AreValues (drop i paths) (drop i shown) (member key value rest) = rw (drop_more paths i [] few, drop_more shown i nothing enough) (value, rest, is, are, refl) in
    let all = completes (member key value rest) next in (
      all.0,
      all.1,
      ap (λ b. text' ++ members_text b rest) (nat_lt_next i) ∙ ap (λ l. l ++ following rest) more ∙ append_assoc text (member_part (nat_lt 0 i) key value) (following rest)
          ∙ ap (λ l. text ++ l) (sym (part_then (nat_lt 0 i) key value rest)) ∙ all.2,
    )

none_valued : (paths : List (List ℕ)) → AreValues paths [] no_members
none_valued [] = refl
none_valued (path ∷ paths) = refl

pub values_end : (paths : List (List ℕ)) (shown : List Shown) (i : ℕ) (text text' before : List ℕ) → min (length paths) (length shown) ≤ i
    → Completes paths shown i text before → text' ≡ text ++ codes "}" → (all : Members) × AreValues paths shown all × (text' ≡ before ++ members_text false all)
values_end paths shown i text text' before over completes more =
    let ended : AreValues (drop i paths) (drop i shown) no_members = elim (cases_lt i (length paths)) [
      | inl fewer ↦ rw (drop_all i shown (omega arith)) (none_valued (drop i paths))
      | inr few ↦ rw (drop_all i paths few) refl
    ] in
    let all = completes no_members ended in
    (all.0, all.1, more ∙ ap (λ l. text ++ l) (sym (none_left (nat_lt 0 i))) ∙ all.2)

-- what a line has of values, where paths are asked for, and where none are
pub asked_parts : (paths : List (List ℕ)) (shown : List Shown) (values : Members) → 0 < length paths → AreValues paths shown values
    → (member_of : Members) × IsValuesMember paths shown member_of × (following member_of ≡ codes ",\"values\":{" ++ (members_text false values ++ codes "}"))
unfolding escape_byte
asked_parts [] shown values some are = absurd (omega arith)
asked_parts (path ∷ paths) shown values some are =
    (member (codes "values") (object values) no_members, (values, are, refl), simp (next_member, object_text, no_more))

pub none_asked : (paths : List (List ℕ)) (shown : List Shown) → length paths ≡ 0 → IsValuesMember paths shown no_members
none_asked [] shown none = refl
none_asked (path ∷ paths) shown none = absurd (omega arith)

-- a member's name and its value are that member
pub part_put : (behind : Bool) (path key more : List ℕ) (value : Json) → path ≡ key → more ≡ json_text value
    → ((if behind then codes "," else []) ++ (json_text (string path) ++ codes ":")) ++ more ≡ member_part behind key value
part_put behind path key more value same is =
    rw (same, is) (append_assoc (if behind then codes "," else []) (json_text (string key) ++ codes ":") (json_text value)
    ∙ ap (λ l. (if behind then codes "," else []) ++ l) (append_assoc (json_text (string key)) (codes ":") (json_text value)))

-- the end of an object and of a line
pub line_end : (head text inner all : List ℕ) → text ≡ inner → all ≡ head ++ (inner ++ codes "}") → head ++ (text ++ codes "}\n") ≡ all ++ codes "\n"
line_end head text inner all is whole =
    rw (is, whole) (sym (append_assoc head (inner ++ codes "}") (codes "\n") ∙ ap (λ l. head ++ l) (append_assoc inner (codes "}") (codes "\n"))))

-- the lines by what is written
pub yes_line : (file : Option (List ℕ)) (spot : Spot) (report : Report) (values : Members)
    → json_yes file spot report values ≡ begin_part file spot ++ (counts_part report ++ (following values ++ codes "\n"))
unfolding escape_byte
yes_line file spot report values = ap (λ l. l ++ codes "\n") (begun file spot (yes_members report values)) ∙ simp (next_member, fixed_texts.1, number_text, append_assoc)

pub no_line : (file : Option (List ℕ)) (spot : Spot) (rows : Rows) (fault : Fault) (place : Option (List ℕ))
    → json_no file spot rows fault place
    ≡ begin_part file spot ++ (reason_part fault.reason ++ ((codes ",\"at\":" ++ decimal fault.at) ++ (names_part rows fault ++ (end_part fault.reads place ++ codes "\n"))))
unfolding escape_byte
no_line file spot rows fault place =
    ap (λ l. l ++ codes "\n") (begun file spot (no_members_of rows fault place)) ∙ simp (next_member, fixed_texts.2, number_text, append_assoc)
