-- Rows of CSV and their fields.
use Rattle.std.proofs.Common.{◌≡◌, ◌∙◌, ℕ, ◌+◌, ◌<◌, ◌≤◌, Bool, true, false, List, [], ◌∷◌, ◌++◌, Option, Some, ap, append-nil, append_assoc, arith, codes, get_or, length, length-take-le, map, refl, subst, sym, take, take_all}
use Rattle.std.specs.Prelude.{if◌then◌else◌, nat_lt}
use Rattle.std.specs.{List.AllZip, List.flat_map, Float.Float, Float.Format, Float.nan, Float.inf, Float.fin}
use Rattle.std.proofs.lemmas.{Bool.lt-ltb, List.flat_map_more, List.length-map, List.map-append, List.take_more, Slice.Zip.AllZip-long}
use Rattle.json.specs.Json.{Json, number, string}
use Rattle.fb_access.specs.{Denotes.Shown, Denotes.shown, declared.answer.Answer.Answer}
use Rattle.fb_run.specs.{AnswerText.doubled, AnswerText.spelled, Json.IsReal, Wanted.Wanted, Csv.AreJoined, Csv.IsRow, Csv.IsWritten, Csv.bare_text, Csv.behind_comma, Csv.edge}
use Rattle.fb_run.specs.Csv.{field_of, head_field, joined, name_field, notation_of, real_text, row_end, written}
use Rattle.fb_run.specs.declared.{value_text.Spelling.TheVariants.Doubled, values.Notation.Notation, values.Notation.TheVariants.AsJson, values.Notation.TheVariants.Field}
use Rattle.fb_run.specs.declared.values.Notation.TheVariants.{OnlyField}
use Rattle.fb_run.proofs.{FoundLemmas.both_more, JsonLemmas.number_text, JsonLemmas.word_texts}

-- a comma, behind another field
abbrev pub comma : Bool → List ℕ
comma behind = if behind then codes "," else []

-- one field more
pub joined_more : (fields : List (List ℕ)) (field : List ℕ) → joined (fields ++ field ∷ []) ≡ joined fields ++ (comma (nat_lt 0 (length fields)) ++ field)
joined_more [] field = append-nil field
joined_more (first ∷ fields) field =
    sym (flat_map_more behind_comma first fields field) ∙ ap (λ b. joined (first ∷ fields) ++ (comma b ++ field)) (sym (lt-ltb 0 (length (first ∷ fields)) (omega arith)))

-- the field of one value more
pub field_more : (notation : Notation) (answers : List Answer) (i : ℕ) (d : Answer) (text more : List ℕ) → i < length answers → AreJoined notation (map shown (take i answers)) text
    → IsWritten notation (shown (get_or answers i d)) more → AreJoined notation (map shown (take (i + 1) answers)) (text ++ (comma (nat_lt 0 i) ++ more))
field_more notation answers i d text more inside (fields, all, is) one =
    let long : length fields ≡ i = AllZip-long (IsWritten notation) (map shown (take i answers)) fields all ∙ length-map (take i answers) shown ∙ length-take-le i answers (omega (arith, inside)) in
    let next : map shown (take (i + 1) answers) ≡ map shown (take i answers) ++ shown (get_or answers i d) ∷ [] = ap (map shown) (take_more answers i d inside) ∙ map-append shown (take i answers) (get_or answers i d ∷ []) in (
      fields ++ more ∷ [],
      subst (λ values. AllZip (IsWritten notation) values (fields ++ more ∷ [])) (sym next) (both_more (IsWritten notation) (map shown (take i answers)) fields (shown (get_or answers i d)) more all one),
      ap (λ l. l ++ (comma (nat_lt 0 i) ++ more)) is ∙ ap (λ n. joined fields ++ (comma (nat_lt 0 n) ++ more)) (sym long) ∙ sym (joined_more fields more),
    )

pub fields_all : (notation : Notation) (answers : List Answer) (i : ℕ) (text : List ℕ) → length answers ≤ i → AreJoined notation (map shown (take i answers)) text → AreJoined notation (map shown answers) text
fields_all notation answers i text past are = subst (λ l. AreJoined notation (map shown l) text) (take_all i answers past) are

-- a row by its parts
pub row_of : (label : Option (List ℕ)) (values : List Shown) (notation : Notation) (text : List ℕ) → notation ≡ notation_of label values → AreJoined notation values text
    → IsRow label values (name_field label ++ (text ++ row_end))
row_of label values notation text is are = (text, subst (λ n. AreJoined n values text) is are, refl)

-- a row's name by what is put
pub name_put : (name : List ℕ) → name_field (Some name) ≡ codes "\"" ++ (flat_map (spelled Doubled) name ++ codes "\",")
name_put name = append_assoc (codes "\"") (flat_map doubled name ++ codes "\"") (codes ",") ∙ ap (λ l. codes "\"" ++ l) (append_assoc (flat_map doubled name) (codes "\"") (codes ","))

-- what stands for a float is the field of what has numbers and words as they are
pub bare_real : (f : Format) (x : Float) (value : Json) (absent : List ℕ) (told : Shown) → ((digits : List ℕ) → field_of absent told (number digits) ≡ digits)
    → ((word : List ℕ) → field_of absent told (string word) ≡ word) → IsReal f x value → bare_text value ≡ field_of absent told value
bare_real f nan value absent told digits words is = rw is (sym (words (codes "NaN")))
bare_real f (inf false) value absent told digits words is = rw is (sym (words (codes "Infinity")))
bare_real f (inf true) value absent told digits words is = rw is (sym (words (codes "-Infinity")))
bare_real f (fin s m e) value absent told digits words (text, numeral, is) = rw is (sym (digits text))

pub real_written : (notation : Notation) (f : Format) (x : Float) (value : Json) (told : Shown) → ((absent digits : List ℕ) → field_of absent told (number digits) ≡ digits)
    → ((absent word : List ℕ) → field_of absent told (string word) ≡ word) → IsReal f x value → real_text notation value ≡ written notation told value
real_written AsJson f x value told digits words is = refl
real_written Field f x value told digits words is = bare_real f x value [] told (digits []) (words []) is
real_written OnlyField f x value told digits words is = bare_real f x value (codes "\"\"") told (digits (codes "\"\"")) (words (codes "\"\"")) is

-- a word, or a number, by what is put
pub words_put : (notation : Notation) → (edge notation ++ (codes "NaN" ++ edge notation) ≡ real_text notation (string (codes "NaN")))
    × (edge notation ++ (codes "Infinity" ++ edge notation) ≡ real_text notation (string (codes "Infinity")))
    × (edge notation ++ (codes "-Infinity" ++ edge notation) ≡ real_text notation (string (codes "-Infinity")))
words_put AsJson = (sym word_texts.0, sym word_texts.1, sym word_texts.2)
words_put Field = (refl, refl, refl)
words_put OnlyField = (refl, refl, refl)

pub number_put : (notation : Notation) (digits : List ℕ) → digits ≡ real_text notation (number digits)
number_put AsJson digits = sym (number_text digits)
number_put Field digits = refl
number_put OnlyField digits = refl

-- the text of one path more in a head
abbrev pub text_of : Wanted → List ℕ
text_of wanted = wanted.text

pub head_more : (paths : List Wanted) (i : ℕ) (d : Wanted) (before now between after : List ℕ) → i < length paths → now ≡ before ++ joined (map head_field (map text_of (take i paths)))
    → between ≡ now ++ comma (nat_lt 0 i) → after ≡ between ++ head_field (get_or paths i d).text → after ≡ before ++ joined (map head_field (map text_of (take (i + 1) paths)))
head_more paths i d before now between after inside first second third =
    let fields = map head_field (map text_of (take i paths)) in
    let field = head_field (get_or paths i d).text in
    let long : length fields ≡ i = length-map (map text_of (take i paths)) head_field ∙ length-map (take i paths) text_of ∙ length-take-le i paths (omega (arith, inside)) in
    let next : map head_field (map text_of (take (i + 1) paths)) ≡ fields ++ field ∷ [] =
    ap (λ l. map head_field (map text_of l)) (take_more paths i d inside) ∙ ap (map head_field) (map-append text_of (take i paths) (get_or paths i d ∷ []))
    ∙ map-append head_field (map text_of (take i paths)) (text_of (get_or paths i d) ∷ []) in
    third ∙ ap (λ l. l ++ field) (second ∙ ap (λ l. l ++ comma (nat_lt 0 i)) first)
    ∙ append_assoc (before ++ joined fields) (comma (nat_lt 0 i)) field ∙ append_assoc before (joined fields) (comma (nat_lt 0 i) ++ field)
    ∙ ap (λ l. before ++ l) (ap (λ n. joined fields ++ (comma (nat_lt 0 n) ++ field)) (sym long) ∙ sym (joined_more fields field) ∙ ap joined (sym next))

-- a head by its parts
pub head_made : (before one two three file fields : List ℕ) → one ≡ before ++ file → two ≡ one ++ fields → three ≡ two ++ row_end → three ≡ before ++ (file ++ (fields ++ row_end))
head_made before one two three file fields first second third =
    third ∙ ap (λ l. l ++ row_end) (second ∙ ap (λ l. l ++ fields) first) ∙ append_assoc (before ++ file) fields row_end ∙ append_assoc before file (fields ++ row_end)
