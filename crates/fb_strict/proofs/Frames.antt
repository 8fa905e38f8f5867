-- What frames stand for, as the pass goes on.
use Rattle.std.proofs.Common.{◌≡◌, inl, inr, ℕ, ◌+◌, ◌-◌, ◌^◌, ◌<◌, ◌≤◌, IsTrue, List, [], ◌∷◌, ◌++◌, length, Some, true, false, refl, sym, ap, subst, ◌∙◌, append_assoc, max, arith}
use Rattle.fb_bytes.specs.Word.{word}
use Rattle.fb_schema.specs.{Rows.is_table, Live.live_fields, Members.member_of}
use Rattle.fb_rules.specs.declared.{offset_row.Leads.Leads, offset_row.Leads.TheVariants.All, offset_row.Leads.TheVariants.ByType, offset_row.Referent.Referent, table.Child.Child, table.Head.Head, link.Link.Link}
use Rattle.fb_rules.specs.declared.offset_row.Referent.TheVariants.{Text as AText, Table as ATable, Struct as AStruct, Nothing}
use Rattle.fb_rules.specs.{Places.target, Facts.IsTable, Told.IsHead}
use Rattle.fb_rules.specs.OffsetRows.{words_of, word_at, first_word, past_first, leads_after}
use Rattle.fb_rules.specs.Fields.{Lead, to_table, to_struct, to_string, to_nothing, Entry}
use Rattle.fb_rules.specs.Tree.{Tree, node, kids_depth, Elements, no_elements, element, Element, leaf, table, elements_depth, element_depth, depth}
use Rattle.fb_rules.specs.Unfolds.{Unfolds, ElementsUnfold, ElementUnfolds}
use Rattle.fb_rules.proofs.Words.{row_front, row_none, first_place}
use Rattle.fb_strict.specs.declared.{room.Frame.Frame}
use Rattle.fb_strict.specs.Asked.{Demand, reading, first_referent, element_demands, text_demands, demands_in, demands_in_fields, demands_in_row, demands_below}
use Rattle.fb_strict.specs.Passing.{Passing, wants_of, IsPassing, blank, opened, opening, AreAskedWords, TextStands, task_words, task_link, link_behind, frame_link, IsLinked, IsOnWay, IsLeft, IsNext}
use Rattle.fb_strict.proofs.{Fields.fields_known, Referents.IsAnswered, Referents.a_table, Referents.a_text, Referents.answered_member, Referents.member_table}

-- the frame of a table that was opened
module _ (p : Passing) (b : List ℕ) (holds : IsPassing p b) (room : ℕ) (via : List Link) (child : Child) (ds : List Demand) where
  -- it stands for what follows the reading of the head
  pub record IsOpened (fr : Frame) : Type 0 where
    pub left : List Demand
    pub frame : IsLeft p b room via fr left
    pub all : ds ≡ opening p b via child ++ left

  opens : (tree : Tree) → Unfolds tree p.checks b p.rows child.object child.at → IsTrue (is_table p.rows child.object) → child.at < 2 ^ 33 → depth tree ≤ room → ds ≡ demands_in tree (wants_of p) p.checks b p.rows via
      → (head : Head) → IsHead p.checks b child.at head → IsOpened (opened (record { head = head; object = child.object; at = child.at }))
  unfolding Unfolds demands_in depth ElementsUnfold demands_in_row elements_depth
  opens (node k' t' kids) u o near deep all head h =
      record {
        left = demands_in_fields kids (wants_of p) p.checks b p.rows via child.object child.at (live_fields p.rows child.object);
        frame = record {
          object = o;
          near = near;
          head = h;
          fields = live_fields p.rows child.object;
          known = fields_known p.checks b p.rows child.object child.at kids holds.served u.3;
          tasks = refl;
          kids = kids;
          unfolds = u.3;
          words = no_elements;
          row = rw (row_none b p.rows blank.row refl) tt;
          asked = record { near = omega arith; leads = λ m. absurd (omega arith) };
          deep = omega (arith, deep);
          way = λ j. via;
          passed = 0;
          linked = λ m. absurd (omega arith);
          all = refl;
        };
        all = rw (u.0, u.1) at all;
      }

  pub opened_left : IsNext p b room via child ds → (head : Head) → IsHead p.checks b child.at head → IsOpened (opened (record { head = head; object = child.object; at = child.at }))
  opened_left n head h = opens n.tree n.unfolds n.object n.near n.deep n.all head h

  -- the reading of the head comes first
  read_first : (tree : Tree) → Unfolds tree p.checks b p.rows child.object child.at → ds ≡ demands_in tree (wants_of p) p.checks b p.rows via
      → (rest : List Demand) × (ds ≡ opening p b via child ++ rest)
  unfolding Unfolds demands_in
  read_first (node k' t' kids) u all = (demands_in_fields kids (wants_of p) p.checks b p.rows via child.object child.at (live_fields p.rows child.object), rw (u.0, u.1) at all)

  pub head_first : IsNext p b room via child ds → (rest : List Demand) × (ds ≡ opening p b via child ++ rest)
  head_first n = read_first n.tree n.unfolds n.all

  table_of : (tree : Tree) → Unfolds tree p.checks b p.rows child.object child.at → IsTable p.checks b child.at
  unfolding Unfolds
  table_of (node k' t' kids) u = u.2

  pub next_table : IsNext p b room via child ds → IsTable p.checks b child.at
  next_table n = table_of n.tree n.unfolds

-- What an element stands for.

module _ (p : Passing) (b : List ℕ) where
  -- it leads to a table that is asked
  pub record IsTableBelow (y : Element) (links : List Link) (k n place j : ℕ) (referent : Referent) : Type 0 where
    pub tree : Tree
    pub unfolds : Unfolds tree p.checks b p.rows j (target b place)
    pub within : place + 4 ≤ length b
    pub deep : depth tree ≤ element_depth y
    pub all : demands_below y (wants_of p) p.checks b p.rows links k n place referent ≡ reading links k (Some n) place 1 ∷ demands_in tree (wants_of p) p.checks b p.rows links

  table_below : (y : Element) (links : List Link) (k n place j : ℕ) (referent : Referent) → ElementUnfolds y p.checks b p.rows place (to_table j) → (wants_of p).asks j ≡ true → IsTableBelow y links k n place j referent
  unfolding ElementUnfolds Unfolds demands_below element_depth
  table_below leaf links k n place j referent u asks = absurd u
  table_below (table (node k' t' kids)) links k n place j referent u asks =
      let yes : (wants_of p).asks k' ≡ true = ap (wants_of p).asks u.1.0 ∙ asks in
      record { tree = node k' t' kids; unfolds = u.1; within = (u.0).within; deep = omega arith; all = rw yes refl }

  -- to a text that is asked
  text_below : (y : Element) (links : List Link) (k n place : ℕ) → ElementUnfolds y p.checks b p.rows place to_string
      → (demands_below y (wants_of p) p.checks b p.rows links k n place AText ≡ text_demands b links k n place) × TextStands b place
  unfolding ElementUnfolds demands_below
  text_below leaf links k n place u = (refl, record { offset = (u.0).within; count = (u.1).count; within = let h = (u.1).within in omega (arith, h) })
  text_below (table y) links k n place u = absurd u

  -- or to nothing that is
  none_below : (y : Element) (links : List Link) (k n place : ℕ) (lead : Lead) → ElementUnfolds y p.checks b p.rows place lead → ((j : ℕ) → lead ≡ to_table j → (wants_of p).asks j ≡ false)
      → demands_below y (wants_of p) p.checks b p.rows links k n place Nothing ≡ []
  unfolding ElementUnfolds Unfolds demands_below
  none_below leaf links k n place lead u quiet = refl
  none_below (table (node k' t' kids)) links k n place (to_table j) u quiet = let no : (wants_of p).asks k' ≡ false = ap (wants_of p).asks u.1.0 ∙ quiet j refl in rw no refl
  none_below (table y) links k n place (to_struct size align) u quiet = absurd u
  none_below (table y) links k n place to_string u quiet = absurd u
  none_below (table y) links k n place to_nothing u quiet = absurd u

-- a row without its first word
asked_on : (p : Passing) (b : List ℕ) (n : ℕ) (leads : Leads) → 0 < n → AreAskedWords p b n leads → AreAskedWords p b (n - 1) (leads_after leads)
asked_on p b n (All (ATable k)) m h = h
asked_on p b n (All AText) m h = h
asked_on p b n (All (AStruct size align)) m h = h
asked_on p b n (All Nothing) m h = h
asked_on p b n (ByType e q) m h = (h.0, omega (arith, h.1))

-- The first word of a row that is left.
module _ (p : Passing) (b : List ℕ) (holds : IsPassing p b) (room : ℕ) (via : List Link) (fr : Frame) (ds : List Demand) (l : IsLeft p b room via fr ds) (more : 0 < (fr.row).left) where
  abbrev pub past : Frame
  past = record fr { row = past_first fr.row }

  -- the links through it
  abbrev pub through : List Link
  through = l.way l.passed

  on_way : IsOnWay (wants_of p) p.checks b p.rows via fr l.way l.passed
  on_way = l.linked more

  -- once it's passed, the frame has its link
  pub word_linked : IsLinked (wants_of p) p.checks b p.rows past
  word_linked = let w = on_way in record { last = w.last; more = omega (arith, w.count, more) }

  pub word_link : through ≡ via ++ frame_link (wants_of p) b p.rows past ∷ []
  word_link =
      let w = on_way in
      let before : l.passed ≡ task_words b (fr.table).at (w.last).task - ((fr.row).left - 1) - 1 = omega (arith, w.count, more) in
      w.through l.passed ∙ ap (λ x. via ++ x ∷ []) (ap (task_link b (fr.table).object (fr.table).at (w.last).task) before ∙ ap (link_behind b past) (sym (w.last).found))

  -- and goes on to the next
  next_on_way : IsOnWay (wants_of p) p.checks b p.rows via past l.way (l.passed + 1)
  next_on_way = let w = on_way in record { last = w.last; count = omega (arith, w.count, more); through = w.through }

  -- what it is asked by its type
  abbrev pub front : List Demand
  front = element_demands (p.plan).demands p.checks b p.rows through (fr.table).object fr.number (fr.row).place (fr.row).leads

  -- and what it leads to
  abbrev pub referent : Referent
  referent = first_referent (wants_of p) b p.rows (fr.row).leads

  -- what stands for it, and for the others
  record IsFront : Type 0 where
    y : Element
    lead : ElementUnfolds y p.checks b p.rows (fr.row).place (first_word b p.rows fr.row).lead
    deep : element_depth y < room
    left : List Demand
    frame : IsLeft p b room via past left
    all : ds ≡ front ++ (demands_below y (wants_of p) p.checks b p.rows through (fr.table).object fr.number (fr.row).place referent ++ left)

  abbrev others : List Demand
  others = demands_in_fields l.kids (wants_of p) p.checks b p.rows via (fr.table).object (fr.table).at l.fields

  by_words : (words : Elements) (x : Entry) → ElementsUnfold words p.checks b p.rows (x ∷ words_of b p.rows (past_first fr.row)) → max (elements_depth words) (kids_depth l.kids) < room
      → x.place ≡ (fr.row).place → x.lead ≡ (first_word b p.rows fr.row).lead → ds ≡ demands_in_row words (wants_of p) p.checks b p.rows l.way (fr.table).object fr.number l.passed (fr.row).place (fr.row).leads ++ others → IsFront
  unfolding ElementsUnfold demands_in_row elements_depth
  by_words no_elements x u deep at lead all = absurd u
  by_words (element y ys) x u deep at lead all = record {
    y = y;
    lead = rw (at, lead) at u.0;
    deep = omega (arith, deep);
    left = demands_in_row ys (wants_of p) p.checks b p.rows l.way (fr.table).object fr.number (l.passed + 1) ((fr.row).place + 4) (leads_after (fr.row).leads) ++ others;
    frame = record {
      object = l.object;
      near = l.near;
      head = l.head;
      fields = l.fields;
      known = l.known;
      tasks = l.tasks;
      kids = l.kids;
      unfolds = l.unfolds;
      words = ys;
      row = u.1;
      asked = record { near = omega (arith, (l.asked).near, more); leads = λ m. asked_on p b (fr.row).left (fr.row).leads more ((l.asked).leads more) };
      deep = omega (arith, deep);
      way = l.way;
      passed = l.passed + 1;
      linked = λ m. next_on_way;
      all = refl;
    };
    all = all ∙ regroup front (demands_below y (wants_of p) p.checks b p.rows through (fr.table).object fr.number (fr.row).place referent) _ others;
  }
    where
      regroup : (ws xs ys zs : List Demand) → (ws ++ (xs ++ ys)) ++ zs ≡ ws ++ (xs ++ (ys ++ zs))
      regroup ws xs ys zs = simp append_assoc

  front_of : IsFront
  front_of = by_words l.words (first_word b p.rows fr.row) (subst (λ xs. ElementsUnfold l.words p.checks b p.rows xs) (row_front b p.rows fr.row more) l.row) l.deep (first_place b p.rows fr.row) refl l.all

  -- it leads to a table of this object
  pub record IsUnder (j : ℕ) : Type 0 where
    pub tree : Tree
    pub unfolds : Unfolds tree p.checks b p.rows j (target b (fr.row).place)
    pub object : IsTrue (is_table p.rows j)
    pub within : (fr.row).place + 4 ≤ length b
    pub deep : depth tree ≤ room - 1
    pub left : List Demand
    pub frame : IsLeft p b room via past left
    pub all : ds ≡ front ++ (reading through (fr.table).object (Some fr.number) (fr.row).place 1 ∷ (demands_in tree (wants_of p) p.checks b p.rows through ++ left))

  -- to a text
  pub record IsText : Type 0 where
    pub stands : TextStands b (fr.row).place
    pub left : List Demand
    pub frame : IsLeft p b room via past left
    pub all : ds ≡ front ++ (text_demands b through (fr.table).object fr.number (fr.row).place ++ left)

  -- or to nothing that is asked
  pub record IsBeside : Type 0 where
    pub left : List Demand
    pub frame : IsLeft p b room via past left
    pub all : ds ≡ front ++ left

  -- what it leads to is what its row tells
  answered_by : (leads : Leads) (place : ℕ) → AreAskedWords p b (fr.row).left leads → IsAnswered (wants_of p) (first_referent (wants_of p) b p.rows leads) (word_at b p.rows leads place).lead
  answered_by (All (ATable k)) place h = a_table (wants_of p) k h.0
  answered_by (All AText) place h = a_text (wants_of p) h
  answered_by (All (AStruct size align)) place h = absurd h
  answered_by (All Nothing) place h = absurd h
  answered_by (ByType e q) place h = answered_member (wants_of p) p.rows (member_of p.rows e (word b q 1))

  answered : IsAnswered (wants_of p) referent (first_word b p.rows fr.row).lead
  answered = answered_by (fr.row).leads (fr.row).place ((l.asked).leads more)

  object_by : (leads : Leads) (place : ℕ) → AreAskedWords p b (fr.row).left leads → (j : ℕ) → (word_at b p.rows leads place).lead ≡ to_table j → IsTrue (is_table p.rows j)
  object_by (All (ATable k)) place h j e = let same : k ≡ j = cc in rw same at h.1
  object_by (All AText) place h j e = absurd (cc)
  object_by (All (AStruct size align)) place h j e = absurd h
  object_by (All Nothing) place h j e = absurd h
  object_by (ByType e' q) place h j e = member_table (wants_of p) p.rows (member_of p.rows e' (word b q 1)) j ((holds.served).members e' (word b q 1)) e

  pub under : (j : ℕ) → referent ≡ ATable j → IsUnder j
  under j is =
      let a = answered.table j is in
      let f = front_of in
      let t = table_below p b f.y through (fr.table).object fr.number (fr.row).place j referent (rw a.0 at f.lead) a.1 in
      let object = object_by (fr.row).leads (fr.row).place ((l.asked).leads more) j a.0 in
      record { tree = t.tree; unfolds = t.unfolds; object = object; within = t.within; deep = omega (arith, t.deep, f.deep); left = f.left; frame = f.frame; all = rw t.all at f.all }

  pub to_text : referent ≡ AText → IsText
  to_text is =
      let a = answered.text is in
      let f = front_of in
      let t = text_below p b f.y through (fr.table).object fr.number (fr.row).place (rw a.0 at f.lead) in
      record { stands = t.1; left = f.left; frame = f.frame; all = f.all ∙ ap (λ ys. front ++ (ys ++ f.left)) (ap (demands_below f.y (wants_of p) p.checks b p.rows through (fr.table).object fr.number (fr.row).place) is ∙ t.0) }

  none_by : (r : Referent) → referent ≡ r → (r ≡ AText → ⊥) → ((j : ℕ) → r ≡ ATable j → ⊥) → r ≡ Nothing
  none_by AText is no_text no_table = absurd (no_text refl)
  none_by (ATable j) is no_text no_table = absurd (no_table j refl)
  none_by (AStruct size align) is no_text no_table = absurd (answered.no_struct size align is)
  none_by Nothing is no_text no_table = refl

  pub beside : (referent ≡ AText → ⊥) → ((j : ℕ) → referent ≡ ATable j → ⊥) → IsBeside
  beside no_text no_table =
      let none = none_by referent refl no_text no_table in
      let f = front_of in
      let quiet : (j : ℕ) → (first_word b p.rows fr.row).lead ≡ to_table j → (wants_of p).asks j ≡ false = λ j e. elim (answered.quiet j e) [ inl is ↦ absurd (no_table j is) | inr isnt ↦ isnt ] in
      let t = none_below p b f.y through (fr.table).object fr.number (fr.row).place _ f.lead quiet in
      record { left = f.left; frame = f.frame; all = f.all ∙ ap (λ ys. front ++ (ys ++ f.left)) (ap (demands_below f.y (wants_of p) p.checks b p.rows through (fr.table).object fr.number (fr.row).place) none ∙ t) }

  -- what it is asked by its type comes first
  pub asked_first : (rest : List Demand) × (ds ≡ front ++ rest)
  asked_first = let f = front_of in (demands_below f.y (wants_of p) p.checks b p.rows through (fr.table).object fr.number (fr.row).place referent ++ f.left, f.all)
