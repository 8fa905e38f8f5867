-- The text of a way is read back as the parts of its links.
use Rattle.std.proofs.Common.{◌≡◌, ℕ, zero, suc, ◌<◌, ◌^◌, Bool, true, ◌||◌, ◌==◌, if◌then◌else◌, IsTrue, List, [], ◌∷◌, ◌++◌, length, get_or, Option, codes, decimal, refl, sym, ◌∙◌, ap, subst, arith, append_assoc, append-nil, inl, inr}
use Rattle.std.proofs.lemmas.{Bool.Decides.nat_tests, Fmt.decimal_digit, Fmt.decimal_nonempty, Fmt.first_decimal, Fmt.digits_decimal, Fmt.digits_value-decimal}
use Rattle.std.proofs.lemmas.Str.Parse.{IsDigitsTest, FoldsDigits, IsNumeralModel, numerals_by_fold}
use Rattle.std.specs.{Int.IsInRange, List.AllByRecursion}
use Rattle.fb_schema.specs.{declared.kinds.Kind.TheVariants.Table, Rows.Rows}
use Rattle.fb_rules.specs.declared.link.Link.{Link}
use Rattle.fb_access.proofs.Words.{AreDigits}
use Rattle.fb_access.specs.Grammar.{goes_on, is_digit, number_from, number_of, Part, field, IsName, IsNumber, IsPart, spelling}
use Rattle.fb_access.specs.{Resolving.Follows, Location.name_text, Location.named, Location.link_member, Location.element_text, Location.link_text, Location.path_text}
use Rattle.fb_access.specs.LocationLaws.{field_parts, element_parts, member_parts, link_parts, parts_of, IsShort, IsNameIfAny, IsNamed, AreNamed, AreDotted, WaysResolve}

-- Names of the grammar are written as they are.
kept_if : (b x : Bool) (c : ℕ) → b ≡ true → (if b || x then c else 63) ≡ c
kept_if b x c e = grind arith

kept_rest : (cs : List ℕ) → AllByRecursion (λ x. IsTrue (goes_on x)) cs → name_text cs ≡ cs
kept_rest [] h = refl
kept_rest (c ∷ cs) h = λ i. kept_if (goes_on c) (c == 46) c h.0 i ∷ kept_rest cs h.1 i

kept_name : (name : List ℕ) → IsName name → name_text name ≡ name
kept_name name h = grind (arith, kept_rest)

-- Numbers are read back.
in_range : (c : ℕ) → is_digit c ≡ true → IsInRange 48 57 c
in_range c e = grind (arith, nat_tests)

digit_in : (c : ℕ) → IsInRange 48 57 c → is_digit c ≡ true
digit_in c h = grind (arith, nat_tests)

tells : IsDigitsTest AreDigits
tells = record { empty = tt; parts = λ c cs d. (in_range c d.0, d.1); more = λ c cs k d. (digit_in c k, d) }

folds : FoldsDigits number_from
folds = record { empty = λ n. refl; more = λ n c cs k. ap (λ m. number_from m cs) (omega arith) }

own : IsNumeralModel AreDigits (number_from 0)
own = numerals_by_fold AreDigits tells number_from folds

pub read_back : (j : ℕ) → j < 2 ^ 32 → number_of (decimal j) ≡ j
read_back j h = digits_value-decimal own j (omega arith)

is_number : (j : ℕ) → j < 2 ^ 32 → IsNumber (decimal j)
is_number zero h = subst IsNumber (sym (decimal_digit 0 (omega arith))) (inl (refl, refl))
is_number (suc k) h = go (decimal (suc k)) refl where
  big : suc k < 2 ^ 64
  big = omega arith

  go : (ds : List ℕ) → decimal (suc k) ≡ ds → IsNumber ds
  go [] e = let some : 0 < length (decimal (suc k)) = decimal_nonempty (suc k) big in absurd (omega (arith, some, ap length e))
  go (d ∷ ds) e =
      let first : 48 < d = subst (λ l. 48 < get_or l 0 0) e (first_decimal (suc k) (omega arith) big) in
      let value : number_from 0 (d ∷ ds) ≡ suc k = ap (number_from 0) (sym e) ∙ digits_value-decimal own (suc k) big in
      inr (λ same. omega (arith, same, first), subst AreDigits e (digits_decimal own (suc k) big), omega (arith, value))

-- Lists of parts.
all_append : (ps qs : List Part) → AllByRecursion IsPart ps → AllByRecursion IsPart qs → AllByRecursion IsPart (ps ++ qs)
all_append [] qs a b = b
all_append (p ∷ ps) qs a b = grind (arith, all_append ps qs)

spelling_append : (ps qs : List Part) → spelling (ps ++ qs) ≡ spelling ps ++ spelling qs
spelling_append [] qs = refl
spelling_append (p ∷ ps) qs = grind (arith, append_assoc, spelling_append ps qs)

-- The parts of a link.
element_are : (e : Option ℕ) → IsShort e → AllByRecursion IsPart (element_parts e)
element_are e h = grind (arith, is_number)

member_are : (m : Option (List ℕ)) → IsNameIfAny m → AllByRecursion IsPart (member_parts m)
member_are m h = grind arith

element_spelled : (e : Option ℕ) → spelling (element_parts e) ≡ element_text e
element_spelled e = grind arith

member_spelled : (m : Option (List ℕ)) → IsNameIfAny m → spelling (member_parts m) ≡ named (codes "@") m
member_spelled m h = grind (arith, append-nil, kept_name)

-- what a link has behind its field's name
module _ (S : Rows) (link : Link) (h : IsNamed S link) where
  behind : List Part
  behind = element_parts link.element ++ member_parts (link_member S link)

  behind_are : AllByRecursion IsPart behind
  unfolding behind
  behind_are = all_append (element_parts link.element) (member_parts (link_member S link)) (element_are link.element h.element) (member_are (link_member S link) h.member)

  behind_spelled : spelling behind ≡ element_text link.element ++ named (codes "@") (link_member S link)
  unfolding behind
  behind_spelled = spelling_append (element_parts link.element) (member_parts (link_member S link)) ∙ (λ i. element_spelled link.element i ++ member_spelled (link_member S link) h.member i)

  parts_are : link_parts S link ≡ field h.name ∷ behind
  unfolding behind
  parts_are = ap (λ n. field_parts n ++ element_parts link.element ++ member_parts (link_member S link)) h.found

  text_is : link_text S link ≡ h.name ++ spelling behind
  text_is = grind (arith, append_assoc, behind_spelled, codes, kept_name)

-- all parts of links, and how they are spelled
all_are : (S : Rows) (links : List Link) → AreNamed S links → AllByRecursion IsPart (parts_of S links)
all_are S [] h = tt
all_are S (link ∷ links) h = all_append (link_parts S link) (parts_of S links) (subst (AllByRecursion IsPart) (sym (parts_are S link h.0)) ((h.0).is_name, behind_are S link h.0)) (all_are S links h.1)

link_spelled : (S : Rows) (link : Link) → IsNamed S link → spelling (link_parts S link) ≡ codes "." ++ link_text S link
link_spelled S link h = ap spelling (parts_are S link h) ∙ ap (λ (t : List ℕ). 46 ∷ t) (sym (text_is S link h))

dotted_text : (S : Rows) (link : Link) (links : List Link) → AreNamed S links → AreDotted S (link ∷ links) → path_text S (link ∷ links) ≡ link_text S link ++ spelling (parts_of S links)
dotted_text S link [] h d = sym (append-nil (link_text S link))
dotted_text S link (next ∷ links) h d =
    (λ i. link_text S link ++ d.0 i ++ dotted_text S next links h.1 d.1 i)
    ∙ append_assoc (link_text S link) (codes ".") (link_text S next ++ spelling (parts_of S links))
    ∙ ap (λ (t : List ℕ). link_text S link ++ (t ++ spelling (parts_of S links))) (sym (link_spelled S next h.0))
    ∙ ap (λ (t : List ℕ). link_text S link ++ t) (sym (spelling_append (link_parts S next) (parts_of S links)))

pub ways_resolve : WaysResolve
ways_resolve S root link links steps last h dotted follows =
    let name = (h.0).name in
    let parts = behind S link h.0 ++ parts_of S links in
    let all : parts_of S (link ∷ links) ≡ field name ∷ parts = ap (λ ps. ps ++ parts_of S links) (parts_are S link h.0) in
    record {
      name = name;
      parts = parts;
      last = last;
      reading = record {
        is_name = (h.0).is_name;
        are_parts = all_append (behind S link h.0) (parts_of S links) (behind_are S link h.0) (all_are S links h.1);
        spelled = dotted_text S link links h.1 dotted
            ∙ ap (λ t. t ++ spelling (parts_of S links)) (text_is S link h.0)
            ∙ append_assoc name (spelling (behind S link h.0)) (spelling (parts_of S links))
            ∙ ap (λ t. name ++ t) (sym (spelling_append (behind S link h.0) (parts_of S links)));
      };
      follows = subst (λ ps. Follows S (Table root) ps steps last) all follows;
    }
