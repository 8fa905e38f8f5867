-- What is left of the uoffsets of a field.
use Rattle.std.proofs.Common.{◌≡◌, inl, inr, ℕ, ◌+◌, ◌*◌, ◌<◌, ◌≤◌, IsTrue, List, [], ◌∷◌, length, Option, Some, None, true, false, refl, ap, subst, ◌∙◌, arith}
use Rattle.fb_bytes.specs.Word.{word}
use Rattle.fb_schema.specs.declared.kinds.Kind.{Kind, TheVariants.Scalar, TheVariants.Text, TheVariants.Struct, TheVariants.Table, TheVariants.Union, TheVariants.Scalars}
use Rattle.fb_schema.specs.declared.kinds.Kind.TheVariants.{Texts, Structs, Tables, Unions}
use Rattle.fb_schema.specs.{Rows.is_table, Rows.is_union, Live.Live, Members.member_of, Served.MemberHolds, declared.kinds.Scalar.TheVariants.UByte}
use Rattle.fb_rules.specs.declared.{offset_row.Row.Row, offset_row.Leads.Leads, offset_row.Leads.TheVariants.All, offset_row.Referent.Referent, link.Link.Link}
use Rattle.fb_rules.specs.declared.offset_row.Referent.TheVariants.{Text as AText, Table as ATable, Struct as AStruct, Nothing}
use Rattle.fb_rules.specs.{Places.target, Places.field_place, OffsetRows.words_of, OffsetRows.TypesFit, Fields.Lead, Fields.to_table, Fields.to_struct, Fields.to_string}
use Rattle.fb_rules.specs.Fields.{to_nothing, lead_of, row, union_row, union_entry, entries_of, entries_at, entries, type_place, types_begin, type_count, union_type}
use Rattle.fb_rules.specs.{Tree.node, Tree.Elements, Tree.no_elements, Tree.element, Tree.leaf, Tree.table, Tree.elements_depth, Unfolds.Unfolds, Unfolds.ElementsUnfold}
use Rattle.fb_rules.specs.Unfolds.{ElementUnfolds}
use Rattle.fb_rules.proofs.{Typed.present, Words.row_none}
use Rattle.fb_strict.specs.declared.tasks.{Held.Held, Ask.Ask, Ask.TheVariants.Text as AskText, Ask.TheVariants.Texts as AskTexts, Ask.TheVariants.Union as AskUnion}
use Rattle.fb_strict.specs.declared.tasks.Ask.TheVariants.{Unions as AskUnions, Table as GoInto, Tables as GoIntoEach, Bytes as AskBytes}
use Rattle.fb_strict.specs.{Planned.ask_by, Skipped.is_kind_asked, InOrder.member_at, Asked.asked_referent, Asked.row_leads, Asked.row_place, Asked.demands_in_row}
use Rattle.fb_strict.specs.{Asked.demands_below, Passing.Passing, Passing.wants_of, Passing.IsPassing, Passing.word_row, Passing.task_row, Passing.ask_words, Passing.IsAskedRow}
use Rattle.fb_strict.specs.Passing.{IsKnown}
use Rattle.fb_strict.proofs.{Fields.no_entries, Referents.IsAnswered, Referents.answered_member, Referents.member_table}

module _ (p : Passing) (b : List ℕ) (holds : IsPassing p b) where
  -- the words of a field were put into a row: they stand for the same demands as those that the field has
  pub record IsPut (words : Elements) (way : ℕ → List Link) (k n place : ℕ) (leads : Leads) (new : Row) : Type 0 where
    pub left : Elements
    pub unfolds : ElementsUnfold left p.checks b p.rows (words_of b p.rows new)
    pub asked : IsAskedRow p b new
    pub deep : elements_depth left ≤ elements_depth words
    pub same : demands_in_row words (wants_of p) p.checks b p.rows way k n 0 place leads ≡ demands_in_row left (wants_of p) p.checks b p.rows way k n 0 new.place new.leads

  -- none were
  nothing_put : (words : Elements) (way : ℕ → List Link) (k n place : ℕ) (leads : Leads) (old : Row) → old.left ≡ 0 → IsAskedRow p b old → demands_in_row words (wants_of p) p.checks b p.rows way k n 0 place leads ≡ []
      → IsPut words way k n place leads old
  unfolding ElementsUnfold demands_in_row elements_depth
  nothing_put words way k n place leads old rests asked none =
      record { left = no_elements; unfolds = rw (row_none b p.rows old rests) tt; asked = asked; deep = omega arith; same = none }

  empty_put : (words : Elements) (way : ℕ → List Link) (k n place : ℕ) (leads : Leads) (old : Row) → old.left ≡ 0 → IsAskedRow p b old → ElementsUnfold words p.checks b p.rows [] → IsPut words way k n place leads old
  unfolding ElementsUnfold demands_in_row
  empty_put no_elements way k n place leads old rests asked u = nothing_put no_elements way k n place leads old rests asked refl
  empty_put (element y ys) way k n place leads old rests asked u = absurd u

  -- one word that leads to a table that is asked
  table_put : (words : Elements) (way : ℕ → List Link) (k n place j : ℕ) → ElementsUnfold words p.checks b p.rows (record { lead = to_table j; place = place; reads = 0 } ∷ []) → (wants_of p).asks j ≡ true → IsTrue (is_table p.rows j)
      → IsPut words way k n place (All (ATable j)) (record { leads = All (ATable j); place = place; left = 1 })
  unfolding ElementsUnfold ElementUnfolds row
  table_put no_elements way k n place j u asks is = absurd u
  table_put (element leaf ys) way k n place j u asks is = absurd u.0
  table_put (element (table y) ys) way k n place j u asks is =
      let within = ((u.0).0).within in
      let short = holds.short in
      record { left = element (table y) ys; unfolds = u; asked = record { near = omega (arith, within, short); leads = λ m. (asks, is) }; deep = omega arith; same = refl }

  -- or to a text
  text_put : (words : Elements) (way : ℕ → List Link) (k n place : ℕ) → ElementsUnfold words p.checks b p.rows (record { lead = to_string; place = place; reads = 0 } ∷ []) → (wants_of p).demands.utf8 ≡ true
      → IsPut words way k n place (All AText) (record { leads = All AText; place = place; left = 1 })
  unfolding ElementsUnfold ElementUnfolds row
  text_put no_elements way k n place u on = absurd u
  text_put (element (table y) ys) way k n place u on = absurd u.0
  text_put (element leaf ys) way k n place u on =
      let within = ((u.0).0).within in
      let short = holds.short in
      record { left = element leaf ys; unfolds = u; asked = record { near = omega (arith, within, short); leads = λ m. on }; deep = omega arith; same = refl }

  -- one that leads to nothing that is
  quiet_put : (words : Elements) (way : ℕ → List Link) (k n place : ℕ) (lead : Lead) (old : Row) → old.left ≡ 0 → IsAskedRow p b old → ElementsUnfold words p.checks b p.rows (record { lead = lead; place = place; reads = 0 } ∷ [])
      → ((j : ℕ) → lead ≡ to_table j → (wants_of p).asks j ≡ false) → IsPut words way k n place (All Nothing) old
  unfolding ElementsUnfold ElementUnfolds Unfolds demands_in_row demands_below
  quiet_put no_elements way k n place lead old rests asked u quiet = absurd u
  quiet_put (element y (element z ys)) way k n place lead old rests asked u quiet = absurd u.1
  quiet_put (element leaf no_elements) way k n place lead old rests asked u quiet = nothing_put (element leaf no_elements) way k n place (All Nothing) old rests asked refl
  quiet_put (element (table (node k' t' kids)) no_elements) way k n place (to_table j) old rests asked u quiet =
      let no : (wants_of p).asks k' ≡ false = ap (wants_of p).asks u.0.1.0 ∙ quiet j refl in
      nothing_put (element (table (node k' t' kids)) no_elements) way k n place (All Nothing) old rests asked (rw no refl)
  quiet_put (element (table y) no_elements) way k n place (to_struct size align) old rests asked u quiet = absurd u.0
  quiet_put (element (table y) no_elements) way k n place to_string old rests asked u quiet = absurd u.0
  quiet_put (element (table y) no_elements) way k n place to_nothing old rests asked u quiet = absurd u.0

  -- the word of a union, by what its type says that it leads to
  referent_put : (words : Elements) (way : ℕ → List Link) (k n place : ℕ) (lead : Lead) (referent : Referent) (old : Row) → old.left ≡ 0 → IsAskedRow p b old → IsAnswered (wants_of p) referent lead
      → ((j : ℕ) → lead ≡ to_table j → IsTrue (is_table p.rows j)) → ElementsUnfold words p.checks b p.rows (record { lead = lead; place = place; reads = 0 } ∷ [])
      → IsPut words way k n place (All referent) (word_row place referent old)
  referent_put words way k n place lead AText old rests asked a tables u = let t = a.text refl in text_put words way k n place (rw t.0 at u) t.1
  referent_put words way k n place lead (ATable j) old rests asked a tables u = let t = a.table j refl in table_put words way k n place j (rw t.0 at u) t.1 (tables j t.0)
  referent_put words way k n place lead (AStruct size align) old rests asked a tables u = absurd (a.no_struct size align refl)
  referent_put words way k n place lead Nothing old rests asked a tables u = quiet_put words way k n place lead old rests asked u (λ j e. elim (a.quiet j e) [ inl is ↦ absurd (cc) | inr isnt ↦ isnt ])

  member_put : (words : Elements) (way : ℕ → List Link) (k n place : ℕ) (member : Option Kind) (old : Row) → old.left ≡ 0 → IsAskedRow p b old → MemberHolds p.rows member → ElementsUnfold words p.checks b p.rows (union_entry p.rows place member)
      → IsPut words way k n place (All (asked_referent (wants_of p) member)) (word_row place (asked_referent (wants_of p) member) old)
  member_put words way k n place None old rests asked holds u = empty_put words way k n place (All Nothing) old rests asked u
  member_put words way k n place (Some kind) old rests asked holds u =
      referent_put words way k n place (lead_of p.rows (Some kind)) (asked_referent (wants_of p) (Some kind)) old rests asked (answered_member (wants_of p) p.rows (Some kind)) (λ j e. member_table (wants_of p) p.rows (Some kind) j holds e) u

  -- the words of a field with a task
  module _ (way : ℕ → List Link) (k t : ℕ) (f : Live) (words : Elements) (old : Row) (rests : old.left ≡ 0) (asked : IsAskedRow p b old) (known : IsKnown p.checks b p.rows t f) where
    abbrev types : Option ℕ
    types = type_place b t f.slot

    -- those of a vector of unions, by where its types are
    unions_put : (place e : ℕ) → target b place + 4 + 4 * word b (target b place) 4 ≤ length b → IsTrue (is_union p.rows e) → TypesFit b t f.slot → (o : Option ℕ) → types ≡ o → word b (target b place) 4 ≡ type_count b o
        → ElementsUnfold words p.checks b p.rows (union_row b p.rows e (types_begin b o) (target b place + 4) (word b (target b place) 4))
        → IsPut words way k f.number (target b place + 4) (row_leads (wants_of p) b p.rows o (Unions e)) (task_row (wants_of p) b p.rows o (Some place) (AskUnions e) old)
    unfolding union_row
    unions_put place e v union fit None at many u = empty_put words way k f.number (target b place + 4) (row_leads (wants_of p) b p.rows None (Unions e)) old rests asked (rw many at u)
    unions_put place e v union fit (Some q) at many u =
        let short = holds.short in
        record {
          left = words;
          unfolds = u;
          asked = record { near = omega (arith, v, short); leads = λ m. (union, omega (arith, many, fit.types q at)) };
          deep = omega arith;
          same = refl;
        }

    put_some : (place : ℕ) → field_place b t f.slot ≡ Some place → (kind : Kind) → f.kind ≡ kind → (ask : Ask) → is_kind_asked (wants_of p) p.rows kind ≡ true → ask_by kind ≡ Some ask → ElementsUnfold words p.checks b p.rows (entries_of b p.rows t f place kind)
        → IsPut words way k f.number (row_place b (Some place) kind) (row_leads (wants_of p) b p.rows types kind) (task_row (wants_of p) b p.rows types (Some place) ask old)
    put_some place is (Table j) kind ask a h u =
        let same : GoInto j ≡ ask = cc in
        subst (λ (x : Ask). IsPut words way k f.number place (All (ATable j)) (task_row (wants_of p) b p.rows types (Some place) x old)) same (table_put words way k f.number place j u a (rw kind at known.kind))
    put_some place is Text kind ask a h u =
        let same : AskText ≡ ask = cc in
        subst (λ (x : Ask). IsPut words way k f.number place (All AText) (task_row (wants_of p) b p.rows types (Some place) x old)) same (text_put words way k f.number place u a)
    put_some place is Texts kind ask a h u =
        let same : AskTexts ≡ ask = cc in
        let v = ((present p.checks b p.rows t f place Texts known.own is kind).vector).within in
        let short = holds.short in
        subst (λ (x : Ask). IsPut words way k f.number (target b place + 4) (All AText) (task_row (wants_of p) b p.rows types (Some place) x old)) same
        (record { left = words; unfolds = u; asked = record { near = omega (arith, v, short); leads = λ m. a }; deep = omega arith; same = refl })
    put_some place is (Tables j) kind ask a h u =
        let same : GoIntoEach j ≡ ask = cc in
        let v = ((present p.checks b p.rows t f place (Tables j) known.own is kind).vector).within in
        let short = holds.short in
        subst (λ (x : Ask). IsPut words way k f.number (target b place + 4) (All (ATable j)) (task_row (wants_of p) b p.rows types (Some place) x old)) same
        (record { left = words; unfolds = u; asked = record { near = omega (arith, v, short); leads = λ m. (a, rw kind at known.kind) }; deep = omega arith; same = refl })
    put_some place is (Union e) kind ask a h u =
        let same : AskUnion e ≡ ask = cc in
        subst (λ (x : Ask). IsPut words way k f.number place (row_leads (wants_of p) b p.rows types (Union e)) (task_row (wants_of p) b p.rows types (Some place) x old)) same
        (member_put words way k f.number place (member_of p.rows e (union_type b types)) old rests asked ((holds.served).members e (union_type b types)) u)
    put_some place is (Unions e) kind ask a h u =
        let same : AskUnions e ≡ ask = cc in
        let its = present p.checks b p.rows t f place (Unions e) known.own is kind in
        let v = ((its.field).vector).within in
        subst (λ (x : Ask). IsPut words way k f.number (target b place + 4) (row_leads (wants_of p) b p.rows types (Unions e)) (task_row (wants_of p) b p.rows types (Some place) x old)) same
        (unions_put place e (omega (arith, v)) (rw kind at known.kind) (rw kind at known.typed) types refl its.counts_agree u)
    put_some place is (Scalar s) kind ask a h u = absurd (cc)
    put_some place is (Struct j) kind ask a h u = absurd (cc)
    put_some place is (Scalars s) kind ask a h u = absurd (cc)
    put_some place is (Structs j) kind ask a h u = absurd (cc)

    -- as many words as its field has, where there are any
    pub all_put : (o : Option ℕ) (ask : Ask) → 0 < (task_row (wants_of p) b p.rows types o ask old).left → (task_row (wants_of p) b p.rows types o ask old).left ≡ ask_words b o ask
    all_put None ask more = absurd (omega (arith, more, rests))
    all_put (Some place) AskText more = refl
    all_put (Some place) AskTexts more = refl
    all_put (Some place) (GoInto j) more = refl
    all_put (Some place) (GoIntoEach j) more = refl
    all_put (Some place) (AskUnions e) more = of_types types more
      where
        of_types : (o : Option ℕ) → 0 < (task_row (wants_of p) b p.rows o (Some place) (AskUnions e) old).left → (task_row (wants_of p) b p.rows o (Some place) (AskUnions e) old).left ≡ word b (target b place) 4
        of_types None more = absurd (omega (arith, more, rests))
        of_types (Some q) more = refl
    all_put (Some place) (AskBytes held) more = absurd (omega (arith, more, rests))
    all_put (Some place) (AskUnion e) more = of_member (asked_referent (wants_of p) (member_at b p.rows e types (Some place))) more
      where
        of_member : (r : Referent) → 0 < (word_row place r old).left → (word_row place r old).left ≡ 1
        of_member Nothing more = absurd (omega (arith, more, rests))
        of_member AText more = refl
        of_member (ATable j) more = refl
        of_member (AStruct size align) more = refl

    put_at : (o : Option ℕ) → field_place b t f.slot ≡ o → (ask : Ask) → is_kind_asked (wants_of p) p.rows f.kind ≡ true → ask_by f.kind ≡ Some ask → ElementsUnfold words p.checks b p.rows (entries_at b p.rows t f o)
        → IsPut words way k f.number (row_place b o f.kind) (row_leads (wants_of p) b p.rows types f.kind) (task_row (wants_of p) b p.rows types o ask old)
    put_at None is ask a h u = empty_put words way k f.number 0 (row_leads (wants_of p) b p.rows types f.kind) old rests asked u
    put_at (Some place) is ask a h u = put_some place is f.kind refl ask a h u

    -- those of a field that holds something are none
    kept : (held : Held) (o : Option ℕ) → old ≡ task_row (wants_of p) b p.rows types o (AskBytes held) old
    kept held None = refl
    kept held (Some q) = refl

    pub put_none : (held : Held) → f.kind ≡ Scalars UByte → ElementsUnfold words p.checks b p.rows (entries b p.rows t f)
        → IsPut words way k f.number (row_place b (field_place b t f.slot) f.kind) (row_leads (wants_of p) b p.rows types f.kind) (task_row (wants_of p) b p.rows types (field_place b t f.slot) (AskBytes held) old)
    put_none held kind u =
        subst (IsPut words way k f.number (row_place b (field_place b t f.slot) f.kind) (row_leads (wants_of p) b p.rows types f.kind)) (kept held (field_place b t f.slot))
        (empty_put words way k f.number _ _ old rests asked (subst (ElementsUnfold words p.checks b p.rows) (no_entries b p.rows t f kind) u))

    pub put : (ask : Ask) → is_kind_asked (wants_of p) p.rows f.kind ≡ true → ask_by f.kind ≡ Some ask → ElementsUnfold words p.checks b p.rows (entries b p.rows t f)
        → IsPut words way k f.number (row_place b (field_place b t f.slot) f.kind) (row_leads (wants_of p) b p.rows types f.kind) (task_row (wants_of p) b p.rows types (field_place b t f.slot) ask old)
    unfolding entries
    put ask a h u = put_at (field_place b t f.slot) refl ask a h u
