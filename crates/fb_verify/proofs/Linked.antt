-- Frames whose row was left behind a word, and the links through these words.
use Rattle.std.proofs.Common.{◌≡◌, ℕ, ◌+◌, ◌-◌, ◌<◌, List, ◌∷◌, length, refl, sym, ◌∙◌, ap, subst, arith, Some, None}
use Rattle.std.specs.Prelude.{slice_get}
use Rattle.std.proofs.lemmas.List.{length-drop}
use Rattle.fb_schema.specs.{Rows.Rows, Live.Live, Live.live_fields, Served.IsServed, declared.kinds.Kind.Kind}
use Rattle.fb_rules.specs.{Fields.IsPresent, Fields.IsField, Fields.Entry, Fields.entries_of, Fields.entries_at, Fields.entries, Places.field_place, Tree.elements_length, Way.Way}
use Rattle.fb_rules.specs.{Links.element_of, Links.type_of, Links.element_link, OffsetRows.words_of, OffsetRows.IsTyped, declared.checks.Checks.Checks}
use Rattle.fb_verify.specs.{Walked.IsInField, Stack.word_count, Stack.CountStands, Stack.TypeStands, Stack.frame_link, Stack.link_behind, Stack.IsFrame, Stack.IsLinked}
use Rattle.fb_verify.specs.declared.scratch.Frame.{Frame}
use Rattle.fb_rules.proofs.{Typed.present, Typed.typed_before, Words.row_length, Words.union_row_length, Words.row_words}

module _ (c : Checks) (b : List ℕ) (S : Rows) (fr : Frame) (w v : Way) (x : Entry) (h : IsInField c b S (fr.table).object (fr.table).at w fr.next fr.number (x ∷ words_of b S fr.row) v) where
  here : slice_get (live_fields S (fr.table).object) (fr.next - 1) ≡ Some h.field
  here = let e : fr.next - 1 ≡ h.i = omega (arith, h.next_is) in rw e h.found

  -- the words before one are those that are neither it nor left behind it
  count : length (entries b S (fr.table).at h.field) ≡ elements_length h.before + 1 + (fr.row).left
  count =
      let es = entries b S (fr.table).at h.field in
      omega (arith, length-drop (elements_length h.before) es, ap length h.left_is, row_words b S fr.row)

  -- the link through the word behind which the frame's row was left
  pub linked_by : element_link b (fr.table).object (fr.table).at h.field (elements_length h.before) ≡ frame_link b S fr
  linked_by =
      let e : elements_length h.before ≡ length (entries b S (fr.table).at h.field) - (fr.row).left - 1 = omega (arith, count) in
      ap (λ j. element_link b (fr.table).object (fr.table).at h.field j) e ∙ ap (link_behind b S fr) (sym here)

  pub is_linked : IsServed S → IsFrame c b S fr → IsLinked c b S fr
  is_linked serves frame =
      let i = h.inside in
      record {
        frame = frame;
        some = omega (arith, h.next_is);
        field = h.field;
        found = here;
        own = h.own;
        typed = typed_before c b S (fr.table).at i.earlier (live_fields S (fr.table).object) h.i (h.field).slot i.passed (h.field).kind (serves.typed (fr.table).object h.i h.field h.found);
        more = omega (arith, count);
      }

-- What of a field that holds can be read again where it leads on.
module _ (c : Checks) (b : List ℕ) (S : Rows) (t p : ℕ) (g : Live) (left : ℕ) where
  -- how many words it has, that the count can be read, and that as many types are there
  pub record Stands (kind : Kind) : Type 0 where
    pub words : length (entries_of b S t g p kind) ≡ word_count b p kind
    pub count : CountStands b p kind
    pub types : (j : ℕ) → j < word_count b p kind → IsTyped b t g.slot kind → TypeStands b t g.slot j kind

  stands_by : (kind : Kind) → IsPresent c b S t g p kind → left < length (entries_of b S t g p kind) → Stands kind
  stands_by kind h more = grind (arith, row_length, union_row_length)

-- The same of the field of a frame that is linked.
module _ {c : Checks} {b : List ℕ} {S : Rows} {fr : Frame} (h : IsLinked c b S fr) (g : Live) (found : slice_get (live_fields S (fr.table).object) (fr.next - 1) ≡ Some g) where
  abbrev t : ℕ
  t = (fr.table).at

  is_field : h.field ≡ g
  is_field = cc

  -- it stands somewhere
  pub is_there : field_place b t g.slot ≡ None → ⊥
  unfolding entries
  is_there none = let same = is_field in grind arith

  module _ (p : ℕ) (place : field_place b t g.slot ≡ Some p) where
    words_are : entries b S t h.field ≡ entries_of b S t g p g.kind
    unfolding entries
    words_are = ap (λ x. entries b S t x) is_field ∙ ap (entries_at b S t g) place

    own : IsField c b S t g
    own = rw is_field at h.own

    pub stands : Stands c b S t p g (fr.row).left g.kind
    stands = stands_by c b S t p g (fr.row).left g.kind (present c b S t g p g.kind own place refl) (omega (arith, h.more, ap length words_are))

    count_is : length (entries b S t h.field) ≡ word_count b p g.kind
    count_is = ap length words_are ∙ stands.words

    pub more_left : (fr.row).left < word_count b p g.kind
    more_left = omega (arith, h.more, count_is)

    pub type_stands : (j : ℕ) → j < word_count b p g.kind → TypeStands b t g.slot j g.kind
    type_stands j l = stands.types j l (subst (λ x. IsTyped b t x.slot x.kind) is_field h.typed)

    -- the link, by what is read
    pub link_read : (j : ℕ) → j ≡ word_count b p g.kind - (fr.row).left - 1 → record { object = (fr.table).object; field = g.number; element = element_of j g.kind; member = type_of b t g j g.kind } ≡ frame_link b S fr
    link_read j e =
        let n : j ≡ length (entries b S t g) - (fr.row).left - 1 = omega (arith, e, count_is, ap (λ x. length (entries b S t x)) is_field) in
        ap (λ i. element_link b (fr.table).object t g i) n ∙ ap (link_behind b S fr) (sym found)
