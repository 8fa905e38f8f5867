-- The number options of the program's command hold a number after each parse.
use Rattle.std.proofs.Common.{zero, suc, not, ◌&&◌, ◌≡◌, ◌∙◌, ap, ℕ, Bool, true, false, List, [], ◌∷◌, ◌<◌, ◌≤◌, length, map, Option, Some, None, codes, refl, sym, subst, inl, inr, arith}
use Rattle.std.proofs.lemmas.{Bool.not-true, List.length-map, List.Folds.list_all_at, Slice.Eq.bytes_eq-Decides}
use Rattle.std.specs.{List.All, List.slice_index_or, List.list_all, Prelude.pos, Prelude.if◌then◌else◌, Str.bytes_eq}
use Rattle.clap.specs.{Facts.args_of, Facts.least_values, Facts.unwrap_or_range, Texts.items_of, Walk.Rule, Walk.Text, Walk.rule_of, Words.found_of, Words.one_text, Values.Accepts}
use Rattle.clap.specs.{Values.read_as, Values.reading_of, Simple.App, Simple.IsSimple, Simple.is_ready, Simple.is_ready_leaf, declared.builder.arg.Arg.Arg}
use Rattle.clap.specs.declared.builder.{range.ValueRange.ValueRange, value_parser.ValueParser.ValueParser}
use Rattle.clap.specs.declared.builder.value_parser.ValueParser.TheVariants as parser
use Rattle.clap.specs.declared.parser.matches.ArgMatches.{ArgMatches}
use Rattle.clap.proofs.{OnLiterals.clap_on_literals, SimpleLemmas.ready_simple, SimpleLemmas.simple_groups, WalkLemmas.both}
use Rattle.fbcheck_texts.specs.CommandLine.{program, value_rule}
use Rattle.fbcheck_texts.specs.Matched.{HoldsNumber, HoldsWideNumber, IsReadOf, TakesNumber, TakesWideNumber, is_free_name, option_named, rule_alone}
use Rattle.fbcheck_texts.proofs.DefaultLemmas.{IsDefaulted, default_reads}

rule_at : (xs : List Arg) (k : ℕ) (d : Arg) → rule_of (slice_index_or xs k d) ≡ slice_index_or (map rule_of xs) k (rule_of d)
rule_at [] k d = refl
rule_at (x ∷ xs) zero d = refl
rule_at (x ∷ xs) (suc k) d = rule_at xs k d

free_at : (id : Text) (rs : List Rule) (j : ℕ) (e : Rule) → is_free_name id rs ≡ true → j < length rs → bytes_eq (slice_index_or rs j e).id id ≡ true → ⊥
free_at id rs j e free lt same = let taken = list_all_at (λ (r : Rule). not (bytes_eq r.id id)) rs j e lt (ap not same) in cc

-- a rule is at place k, and no other has this name
record IsAloneAt (name : Text) (rs : List Rule) (r : Rule) (k : ℕ) : Type 0 where
  low : k < length rs
  at : (d : Rule) → slice_index_or rs k d ≡ r
  alone : (j : ℕ) (e : Rule) → j < length rs → bytes_eq (slice_index_or rs j e).id name ≡ true → j ≡ k

alone_first : (name : Text) (r : Rule) (rs : List Rule) → is_free_name name rs ≡ true → (j : ℕ) (e : Rule) → j < length (r ∷ rs) → bytes_eq (slice_index_or (r ∷ rs) j e).id name ≡ true → j ≡ zero
alone_first name r rs free zero e lt same = refl
alone_first name r rs free (suc j) e lt same = absurd (free_at name rs j e free (omega arith) same)

alone_next : (name : Text) (x r : Rule) (rs : List Rule) (k : ℕ) → bytes_eq x.id name ≡ false → IsAloneAt name rs r k → (j : ℕ) (e : Rule) → j < length (x ∷ rs)
    → bytes_eq (slice_index_or (x ∷ rs) j e).id name ≡ true → j ≡ suc k
alone_next name x r rs k other is zero e lt same = let bad : false ≡ true = sym other ∙ same in cc
alone_next name x r rs k other is (suc j) e lt same = ap suc (is.alone j e (omega arith) same)

alone_at : (name : Text) (rs : List Rule) (r : Rule) → rule_alone name rs ≡ Some r → (k : ℕ) × IsAloneAt name rs r k
alone_at name [] r is = cc
alone_at name (x ∷ xs) r is = go (alone_at name xs r) (bytes_eq x.id name) (is_free_name name xs) refl refl is
  where
    go : (rule_alone name xs ≡ Some r → (k : ℕ) × IsAloneAt name xs r k) → (named free : Bool) → bytes_eq x.id name ≡ named → is_free_name name xs ≡ free → (if named then (if free then Some x else None) else rule_alone name xs) ≡ Some r
        → (k : ℕ) × IsAloneAt name (x ∷ xs) r k
    go rec true true named free one = let same : x ≡ r = cc in (zero, record { low = omega arith; at = λ d. same; alone = alone_first name x xs free })
    go rec true false named free one = cc
    go rec false free named is_free one =
        let rest = rec one in
        (suc rest.0, record { low = omega (arith, rest.1.low); at = λ d. rest.1.at d; alone = alone_next name x r xs rest.0 named rest.1 })

differs : (a b : Text) → not (bytes_eq a b) ≡ true → a ≡ b → ⊥
differs a b unequal e = let never : true ≡ false = sym ((bytes_eq-Decides a b).1 e) ∙ not-true (bytes_eq a b) unequal in cc

-- the program's rule of this name, which stands at one place alone
record IsOwn (name : Text) (r : Rule) : Type 0 where
  k : ℕ
  is : IsAloneAt name program.top.rules r k
  some : name ≡ [] → ⊥
  no_help : name ≡ codes "help" → ⊥
  no_version : name ≡ codes "version" → ⊥

owned : (name : Text) (r : Rule) → option_named name ≡ Some r → IsOwn name r
owned name r is = go (not (bytes_eq name []) && (not (bytes_eq name (codes "help")) && not (bytes_eq name (codes "version")))) refl is
  where
    go : (b : Bool) → (not (bytes_eq name []) && (not (bytes_eq name (codes "help")) && not (bytes_eq name (codes "version")))) ≡ b
        → (if b then rule_alone name program.top.rules else None) ≡ Some r → IsOwn name r
    go false apart one = cc
    go true apart one =
        let some = both (not (bytes_eq name [])) (not (bytes_eq name (codes "help")) && not (bytes_eq name (codes "version"))) apart in
        let helpless = both (not (bytes_eq name (codes "help"))) (not (bytes_eq name (codes "version"))) some.1 in
        let found = alone_at name program.top.rules r one in
        record {
          k = found.0;
          is = found.1;
          some = differs name [] some.0;
          no_help = differs name (codes "help") helpless.0;
          no_version = differs name (codes "version") helpless.1;
        }

ready : is_ready program.top ≡ true
unfolding clap_on_literals
ready = refl

some_arg : (xs : List Arg) → 0 < length xs → Arg
some_arg [] lt = absurd (omega arith)
some_arg (x ∷ xs) lt = x

least_one : (a : Arg) → a.num_vals ≡ None → 1 ≤ least_values a
least_one a none = subst (λ (o : Option ValueRange). 1 ≤ (unwrap_or_range o).start_inclusive) (sym none) (omega arith)

-- a text that passed this parser, as it is read
abbrev Holds : Option Text → ValueParser → Type 0
Holds found q = (ignore_case : Bool) × (t : Text) × (found ≡ Some (read_as (reading_of q) t)) × Accepts ignore_case q t

-- the option of this name, of which the rule has this parser and a default
holds_value : (words : List Text) (m : ArgMatches) → IsReadOf words m → (q : ValueParser) (name default : Text)
    → option_named name ≡ Some (value_rule name q default) → Holds (one_text (found_of m) name) q
holds_value words m read q name default named =
    let c = read.command in
    let p = read.parsed in
    let mine = owned name (value_rule name q default) named in
    let k = mine.k in
    let rules : map rule_of (args_of c) ≡ program.top.rules = ap (λ (a : App). a.top.rules) read.is in
    let long : length (args_of c) ≡ length program.top.rules = sym (length-map (args_of c) rule_of) ∙ ap length rules in
    let low : k < length (args_of c) = omega (arith, mine.is.low) in
    let d = some_arg (args_of c) (omega arith) in
    let a = slice_index_or (args_of c) k d in
    let rule : rule_of a ≡ value_rule name q default = rule_at (args_of c) k d ∙ ap (λ l. slice_index_or l k (rule_of d)) rules ∙ mine.is.at (rule_of d) in
    let id : a.id.now ≡ name = ap (λ (r : Rule). r.id) rule in
    let simple : IsSimple c = ready_simple c (ap (λ (x : App). is_ready x.top) read.is ∙ ready) (ap (λ (x : App). list_all is_ready_leaf x.subs) read.is) in
    let one = simple.args k d low in
    let local : All (λ x. x.groups.items ≡ []) (args_of c) = simple_groups c (ap (λ (x : App). list_all (λ (r : Rule). r.is_simple) x.top.rules) read.is) in
    let some : length (items_of a.default_vals) ≡ 1 = sym (length-map (items_of a.default_vals) _) ∙ ap (λ (r : Rule). length r.defaults) rule in
    let defaulted : IsDefaulted c k d q = record {
      low = low;
      default = (one.default_ifs, omega arith);
      set = ap (λ (r : Rule). r.action) rule;
      whole = one.delimiter;
      least = least_one a (ap (λ (r : Rule). r.range) rule);
      parser = ap (λ (r : Rule). r.parser) rule;
      alone = λ j e under same. mine.is.alone j (rule_of e) (omega (arith, ap length rules, length-map (args_of c) rule_of))
          (rw (← ap (λ (r : Rule). r.id) (rule_at (args_of c) j e ∙ ap (λ l. slice_index_or l j (rule_of e)) rules), ← id) same);
      named = λ e. mine.some (sym id ∙ e);
      own = λ auto. elim auto [ inl h ↦ mine.no_help (sym id ∙ h) | inr h ↦ mine.no_version (sym id ∙ h) ];
    } in
    let found = default_reads c m p k d q defaulted ((p.from.same_groups local).1 ∙ simple.groups) simple.globals in
    (a.ignore_case, found.0, subst (λ (t : Text). one_text (found_of m) t ≡ Some (read_as (reading_of q) found.0)) id found.1, found.2)

-- the option of this name takes a number, and the matches hold one
pub holds_number : (words : List Text) (m : ArgMatches) → IsReadOf words m → (least most : ℕ) (name : Text) → TakesNumber name least most
    → HoldsNumber (one_text (found_of m) name) least most
holds_number words m read least most name takes =
    let held = holds_value words m read (parser.Signed (pos least) (pos most)) name _ takes in
    (held.1, held.2, held.3)

-- the same of any number from the least on
pub holds_wide_number : (words : List Text) (m : ArgMatches) → IsReadOf words m → (least : ℕ) (name : Text) → TakesWideNumber name least
    → HoldsWideNumber (one_text (found_of m) name) least
holds_wide_number words m read least name takes =
    let held = holds_value words m read (parser.Unsigned least 18446744073709551615) name _ takes in
    (held.1, held.2, held.3)
