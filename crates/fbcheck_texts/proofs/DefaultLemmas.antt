-- An option with a default has a value after each parse, and that value passed its parser.
use Rattle.std.proofs.Common.{zero, suc, ◌≡◌, ◌∙◌, ◌<◌, ◌≤◌, ap, ℕ, Bool, true, false, List, [], ◌∷◌, length, Some, None, refl, sym, subst, inl, inr, arith}
use Rattle.std.specs.{Borrow.Bor, List.All, List.slice_index_or, Prelude.find, Prelude.option_map, Prelude.slice_get, Str.bytes_eq}
use Rattle.std.proofs.lemmas.{List.Elements.All-head, List.Elements.All-tail, Slice.Eq.bytes_eq-Decides}
use Rattle.clap.specs.{Built.IsAuto, Built.IsParsedFrom, Built.SameRules, Matches.found_of, Matches.matched_of, Matches.one_text, Values.Accepts, Values.read_as, Values.reading_of}
use Rattle.clap.specs.Facts.{args_of, groups_of, least_values, parser_of, parser_of_value, Entry, EntryPasses, HasIn, HasReading, PassesArg, WantsDefault}
use Rattle.clap.specs.declared.builder.{action.ArgAction.TheVariants.Count, action.ArgAction.TheVariants.Set, arg.Arg.Arg, command.Command.Command}
use Rattle.clap.specs.declared.builder.{command.Command.TheViews.out-Command, value_parser.Reading.Reading, value_parser.ValueParser.ValueParser}
use Rattle.clap.specs.declared.parser.matches.ArgMatches.{ArgMatches}
use Rattle.clap.proofs.CallerLemmas.{default_present, same_rules_by_id}

-- argument k takes a value by the parser q, has a default, and shares its id with no other
pub record IsDefaulted (command : Command) (k : ℕ) (d : Arg) (q : ValueParser) : Type 0 where
  pub low : k < length (args_of command)
  pub default : WantsDefault (slice_index_or (args_of command) k d)
  pub set : (slice_index_or (args_of command) k d).action ≡ Some Set
  pub whole : (slice_index_or (args_of command) k d).val_delim ≡ None
  pub least : 1 ≤ least_values (slice_index_or (args_of command) k d)
  pub parser : (slice_index_or (args_of command) k d).value_parser ≡ Some q
  pub alone : (j : ℕ) (e : Arg) → j < length (args_of command)
      → bytes_eq (slice_index_or (args_of command) j e).id.now (slice_index_or (args_of command) k d).id.now ≡ true → j ≡ k
  pub named : (slice_index_or (args_of command) k d).id.now ≡ [] → ⊥
  pub own : IsAuto (slice_index_or (args_of command) k d) → ⊥

-- the first entry of an id, with what holds of each entry
abbrev FirstOf : (Entry → Type 0) → List Entry → List ℕ → Type 0
FirstOf P xs id = (e : Entry) × (option_map (λ e. e.1) (find (λ e. bytes_eq e.0.now id) xs) ≡ Some e.1) × (e.0.now ≡ id) × P e

first_entry : (P : Entry → Type 0) (xs : List Entry) (id : List ℕ) → All P xs → HasIn xs id → FirstOf P xs id
first_entry P [] id each has = absurd (omega (arith, has.1))
first_entry P (x ∷ xs) id each has =
    go (bytes_eq x.0.now id) refl has.0 has.1 has.2 (λ rest. first_entry P xs id (All-tail P x xs each) rest)
  where
    go : (b : Bool) → bytes_eq x.0.now id ≡ b → (i : ℕ) → i < length (x ∷ xs) → ((d : Entry) → bytes_eq (slice_index_or (x ∷ xs) i d).0.now id ≡ true)
        → (HasIn xs id → FirstOf P xs id) → FirstOf P (x ∷ xs) id
    go true is i lt at rec = (x, rw is refl, (bytes_eq-Decides x.0.now id).0 is, All-head P x xs each)
    go false is zero lt at rec =
        let bad : false ≡ true = sym is ∙ at x in
        cc
    go false is (suc i) lt at rec =
        let more = rec (i, omega arith, at) in
        (more.0, rw is more.1, more.2, more.3)

-- the first value of an entry, and how it is read
first_reading : (P : List ℕ → Type 0) (how : Reading) (vs : List (Bor (List ℕ))) → 0 < length vs → All (λ v. P v.now) vs
    → (t : List ℕ) × (option_map (λ s. read_as how s.now) (slice_get vs 0) ≡ Some (read_as how t)) × P t
first_reading P how [] some each = absurd (omega arith)
first_reading P how (v ∷ vs) some each = (v.now, refl, All-head (λ w. P w.now) v vs each)

module _ (command : Command) (m : ArgMatches) (p : IsParsedFrom command m) (k : ℕ) (d : Arg) (q : ValueParser) (is : IsDefaulted command k d q) (none : groups_of p.built ≡ []) where
  abbrev arg : Arg
  arg = slice_index_or (args_of command) k d

  same_rules : (j : ℕ) (x : Arg) → j < length (args_of p.built) → slice_index_or (args_of p.built) j x ≡ x → bytes_eq x.id.now arg.id.now ≡ true → SameRules arg x
  same_rules = same_rules_by_id command m p k d is.low is.alone is.own

  parser_is : (x : Arg) → SameRules arg x → parser_of x ≡ q
  parser_is x s = ap parser_of_value (s.parser q is.parser)

  accepted : (t : List ℕ) → PassesArg p.built arg.id.now t → Accepts arg.ignore_case q t
  accepted t any =
      let s = same_rules any.0 any.1 any.2 any.3 any.4.0 in
      let by_q : Accepts any.1.ignore_case q t = subst (λ (w : ValueParser). Accepts any.1.ignore_case w t) (parser_is any.1 s) any.4.1 in
      subst (λ (b : Bool). Accepts b q t) s.ignore_case by_q

  read_by : (r : Reading) → HasReading p.built arg.id.now r → r ≡ reading_of q
  read_by r any =
      let s = same_rules any.0 any.1 any.2 any.3 any.4.0 in
      sym any.4.1 ∙ ap reading_of (parser_is any.1 s)

  no_group : (e : Entry) → e.0.now ≡ arg.id.now → EntryPasses p.built e → e.1.is_group ≡ true → ⊥
  no_group e id passes group = elim (passes.3 group) [
    | inl empty ↦ is.named (sym id ∙ empty)
    | inr some ↦
        let bad : 0 < 0 = rw none at some in
        omega arith
  ]

  has_value : (e : Entry) → e.0.now ≡ arg.id.now → EntryPasses p.built e → 0 < length e.1.vals.items
  has_value e id passes = elim passes.1 [
    | inl group ↦ absurd (no_group e id passes group.0)
    | inr (inl some) ↦ some
    | inr (inr (inl counts)) ↦
        let any = counts.1 in
        let s = same_rules any.0 any.1 any.2 any.3 (rw (← id) any.4.0) in
        let set : any.1.action ≡ Some Set = s.action Set is.set in
        let bad : Set ≡ Count = rw set at any.4.1 in
        cc
    | inr (inr (inr any)) ↦
        let s = same_rules any.0 any.1 any.2 any.3 (rw (← id) any.4.0) in
        elim any.4.1 [
          | inl zero' ↦
              let some = s.least is.set is.least in
              absurd (omega arith)
          | inr splits ↦
              let bad : false ≡ true = rw (s.val_delim, is.whole) at splits in
              cc
        ]
  ]

  entry_reads : (e : Entry) → matched_of (found_of m) arg.id.now ≡ Some e.1 → e.0.now ≡ arg.id.now → EntryPasses p.built e
      → (t : List ℕ) × (one_text (found_of m) arg.id.now ≡ Some (read_as (reading_of q) t)) × Accepts arg.ignore_case q t
  entry_reads e found id passes =
      let each : All (λ v. PassesArg p.built arg.id.now v.now) e.1.vals.items = elim passes.0 [
        | inl group ↦ absurd (no_group e id passes group)
        | inr all ↦ subst (λ (w : List ℕ). All (λ v. PassesArg p.built w v.now) e.1.vals.items) id all
      ] in
      let how : e.1.reading ≡ reading_of q = elim passes.4 [
        | inl group ↦ absurd (no_group e id passes group)
        | inr reads ↦ read_by e.1.reading (subst (λ (w : List ℕ). HasReading p.built w e.1.reading) id reads)
      ] in
      let first = first_reading (PassesArg p.built arg.id.now) e.1.reading e.1.vals.items (has_value e id passes) each in
      (first.0, rw found first.1 ∙ ap (λ (r : Reading). Some (read_as r first.0)) how, accepted first.0 first.2)

  pub default_reads : (out-Command command).has_globals ≡ false
      → (t : List ℕ) × (one_text (found_of m) arg.id.now ≡ Some (read_as (reading_of q) t)) × Accepts arg.ignore_case q t
  default_reads globals =
      let parsed = p.parsed (p.from.globals ∙ globals) in
      let entry = first_entry (EntryPasses p.built) (found_of m).entries.items arg.id.now parsed.values (default_present command m p globals k d is.low is.default) in
      entry_reads entry.0 entry.1 entry.2 entry.3
