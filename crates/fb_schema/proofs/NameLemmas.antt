-- The live fields of a legal table are found by name.
use Rattle.std.proofs.Common.{◌≡◌, ℕ, zero, suc, ◌<◌, true, false, IsTrue, if◌then◌else◌, List, [], ◌∷◌, length, get_or, slice_get, map, filter, option_map, option_and_then, Option, Some, refl, sym, ◌∙◌, ap, arith, nat_cmp, Equal}
use Rattle.fb_schema.proofs.{RowLemmas.rises_at, Kinded.live_long, Kinded.live_at, WalkLemmas.mapped_at, LiveLemmas.sorted_rises, LiveLemmas.sorted_members}
use Rattle.fb_schema.proofs.{LiveLemmas.filter_apart, LiveLemmas.filter_contains, Numbers.get_or_default, Numbers.slice_get_some, Numbers.negated, LegalLemmas.legal_slots}
use Rattle.fb_schema.proofs.LegalLemmas.{legal_names}
use Rattle.std.proofs.lemmas.{List.length-map, List.get_or-map, Option.slice_get-get_or, List.Elements.Contains-get_or, Map.Lookups.exact_bytes}
use Rattle.std.specs.Cmp.Lexicographic.{slice_cmp}
use Rattle.fb_schema.specs.{declared.kinds.Kind.Kind, declared.flat.ObjectPart.ObjectPart, declared.views.FieldView.FieldView, declared.rows.FieldRow.FieldRow, Demands.IsLegal}
use Rattle.fb_schema.specs.{Index.view_name, Kinds.kind_of, Sorting.IsAgain, Sorting.name_cmp, Flat.part, FlatRows.object_in, Live.Live, Live.by_slot, Live.is_live, Live.live_rows}
use Rattle.fb_schema.specs.{Live.live_as, Live.live_of, Live.live_of_view, Live.live_in, Live.AreApart, Rows.Rows, Rows.Field, Rows.field_of, Rows.is_some_table}

-- no two live fields have one name, where no two fields have
live_names : (fields : List Field) → AreApart fields → ((i j : ℕ) (d : Field) → i < length fields → j < length fields → (get_or fields i d).name ≡ (get_or fields j d).name → i ≡ j)
    → (i j : ℕ) (d : Field) → i < j → j < length (by_slot (filter is_live fields)) → (get_or (by_slot (filter is_live fields)) i d).name ≡ (get_or (by_slot (filter is_live fields)) j d).name → ⊥
live_names fields apart one i j d lt within e =
    let live = by_slot (filter is_live fields) in
    let x = get_or live i d in
    let y = get_or live j d in
    let a = filter_contains is_live fields x ((sorted_members x (filter is_live fields)).0 (Contains-get_or live i d (omega arith))) in
    let b = filter_contains is_live fields y ((sorted_members y (filter is_live fields)).0 (Contains-get_or live j d within)) in
    let x_at : get_or fields a.0 d ≡ x = get_or_default fields a.0 d x a.1 ∙ a.2 in
    let y_at : get_or fields b.0 d ≡ y = get_or_default fields b.0 d y b.1 ∙ b.2 in
    let same : a.0 ≡ b.0 = one a.0 b.0 d a.1 b.1 (ap (λ (f : Field). f.name) x_at ∙ e ∙ ap (λ (f : Field). f.name) (sym y_at)) in
    let up = rises_at live (sorted_rises (filter is_live fields) (filter_apart is_live fields apart)) i j x y (slice_get-get_or live i d (omega arith)) (slice_get-get_or live j d within) lt in
    grind (arith, same, x_at, y_at, up)

named_alike : (rows : Rows) (live : List Field) (g : Field) (f : Live) (kind : Option Kind) → option_map (live_as rows live g) kind ≡ Some f → f.name ≡ g.name
named_alike rows live g f kind e = grind (arith, e)

-- the views of a table's live fields have names of their own
pub view_not_again : (rows : Rows) (n : ℕ) (all : List FieldRow) (row : ObjectPart) → IsLegal rows → slice_get rows.objects n ≡ Some (object_in all row) → row.is_struct ≡ false → (views : List FieldView) → map live_of_view views ≡ live_in rows (Some (object_in all row))
    → (q : ℕ) → IsAgain name_cmp (map view_name views) q → ⊥
view_not_again rows n all row legal at table views same q a =
    let fields = map field_of (part all row.fields) in
    let live = by_slot (filter is_live fields) in
    let listed : live_rows (object_in all row) ≡ live = ap (λ b. if b then [] else live) table in
    let long : length views ≡ length live = sym (length-map views live_of_view) ∙ ap length same ∙ live_long rows legal n (object_in all row) at ∙ ap length listed in
    let within : q < length views = rw length-map at a.within in
    let first : a.earlier < length views = let lt = a.before in omega arith in
    let v = (slice_get_some views q within).0 in
    let f = (slice_get_some live q (let w = within in omega arith)).0 in
    let name_at : (k : ℕ) → k < length views → (get_or views k v).name.now ≡ (get_or live k f).name =
    λ k lt.
    let row_at = ap (λ ls. slice_get ls k) listed ∙ slice_get-get_or live k f (omega arith) in
    let view_at = mapped_at live_of_view views k (get_or views k v) (slice_get-get_or views k v lt) in
    named_alike rows (live_rows (object_in all row)) (get_or live k f) (live_of_view (get_or views k v)) (kind_of rows (get_or live k f).ty)
    (sym (live_at rows legal n (object_in all row) at k ∙ ap (option_and_then (live_of rows (live_rows (object_in all row)))) row_at) ∙ sym (ap (λ ls. slice_get ls k) same) ∙ view_at) in
    let e = get_or-map view_name views a.earlier v v.name first in
    let g = get_or-map view_name views q v v.name within in
    let tied : slice_cmp nat_cmp (get_or views a.earlier v).name.now (get_or views q v).name.now ≡ Equal = ap (λ z. name_cmp z (get_or views q v).name) (sym e) ∙ ap (name_cmp (get_or (map view_name views) a.earlier v.name)) (sym g) ∙ a.alike v.name in
    live_names fields (legal_slots rows legal n (object_in all row) at table) (legal_names rows legal n (object_in all row) at table) a.earlier q f a.before (omega arith)
    (sym (name_at a.earlier first) ∙ exact_bytes _ _ tied ∙ name_at q within)

-- a table's row
pub table_at : (all : List FieldRow) (objects : List ObjectPart) (n : ℕ) → IsTrue (is_some_table (slice_get (map (object_in all) objects) n)) → (row : ObjectPart) × (slice_get objects n ≡ Some row) × (row.is_struct ≡ false)
table_at all [] n h = absurd (let w : false ≡ true = h in cc)
table_at all (o ∷ os) zero h = (o, refl, negated o.is_struct h)
table_at all (o ∷ os) (suc n) h = table_at all os n h
