-- How many rows a schema file says that it has, and how many it describes.
use Rattle.std.proofs.Common.{◌≡◌, ℕ, ◌+◌, ◌-◌, ◌≤◌, ◌<◌, ◌↔◌, Bool, true, false, nat_le, IsTrue, List, [], ◌∷◌, map, length, refl, sym, ◌∙◌, ap, subst, arith}
use Rattle.std.proofs.lemmas.{Bool.false≢true, Bool.Decides.nat_tests, List.Sums.sum_by-cons}
use Rattle.fb_schema.specs.{declared.kinds.Kind.TheVariants.Tables, Rows.Object, Rows.Enum, Rows.Rows}
use Rattle.std.specs.List.{sum_by}
use Rattle.fb_access.specs.{Denotes.Leads, Denotes.value, Denotes.vector, Held.Placed, declared.step.Step.TheVariants.Field as ToField, declared.step.Step.TheVariants.Element}
use Rattle.fb_bfbs.specs.{Says.Says, Says.after, Says.AreRows, Describes.IsObjectRow, Describes.IsEnumRow, Describes.Describes, Seen.IsRowAt, Seen.AreRowsAt, Seen.IsListOfLists}
use Rattle.fb_bfbs.specs.{Seen.HasField, Seen.seen, Sums.rows_count, Sums.Lists, Sums.listed_rows, Sums.HasRows, Sums.IsToldFew, Sums.IsPaid, Sums.ArePaid, Sums.most_rows}
use Rattle.fb_bfbs.proofs.{FixedFields.always, Sure.at_element, Composed.mapped_rows, Composed.row_here, Composed.seen_in, Composed.seen_after, OneFile.IsSingle, OneFile.IsOnly}
use Rattle.fb_bfbs.proofs.OneFile.{only_rows}

abbrev fields_of : Object → ℕ
fields_of o = length o.fields

abbrev members_of : Enum → ℕ
members_of e = length e.members

-- a table that lists so many rows
pub lists_here : (p r : Placed) (n : ℕ) → r.sealed ≡ p.sealed → Leads (p.sealed).bytes (p.sealed).schema p.spot (ToField 1) r.spot
    → value (r.sealed).bytes (r.sealed).schema r.spot ≡ vector n → IsRowAt Lists p n
lists_here p r n same leads count = row_here Lists (λ D E m h a. h _ _ a) p n (seen_in p r (ToField 1) (vector n) same leads (sym count))

-- an element of such a list is a table that lists tables
pub element_lists : (p r : Placed) (listed j n : ℕ) → (h : IsListOfLists p listed) → value (p.sealed).bytes (p.sealed).schema p.spot ≡ vector n → j < n → r.sealed ≡ p.sealed → Leads (p.sealed).bytes (p.sealed).schema p.spot (Element j) r.spot → HasField r 1 (Tables listed)
element_lists p r listed j n h count less same leads = always (at_element p r h.object j n h.at count less same leads) h.sure

-- whether two such lists are few
pub over_told : (a b most : ℕ) → most < a → IsTrue false ↔ (a + b ≤ most)
over_told a b most h = (λ w. absurd (let f : false ≡ true = w in cc), λ le. absurd (omega arith))

pub under_told : (a b most : ℕ) → a ≤ most → IsTrue (nat_le b (most - a)) ↔ (a + b ≤ most)
under_told a b most h = grind (arith, nat_tests)

-- what isn't few
pub past : (few : Bool) (n most : ℕ) → (IsTrue few ↔ (n ≤ most)) → few ≡ false → most < n
past few n most told e = let no : n ≤ most → ⊥ = λ le. false≢true (sym e ∙ told.1 le) in omega arith

pub told_few : (p q r : Placed) (a b most : ℕ) (few : Bool) → q.sealed ≡ p.sealed → Leads (p.sealed).bytes (p.sealed).schema p.spot (ToField 0) q.spot → r.sealed ≡ p.sealed → Leads (p.sealed).bytes (p.sealed).schema p.spot (ToField 1) r.spot
    → (os : List ℕ) × AreRowsAt Lists q os × (a ≡ sum_by listed_rows os) → (es : List ℕ) × AreRowsAt Lists r es × (b ≡ sum_by listed_rows es) → IsTrue few ↔ (a + b ≤ most) → IsToldFew (seen p) most few
told_few p q r a b most few same leads same_too leads_too (os, objects, first) (es, enums, second) told = record {
  rows = a + b;
  has = record {
    objects = os;
    enums = es;
    fields = objects p (ToField 0 ∷ []) (seen_after p q (ToField 0) same leads);
    members = enums p (ToField 1 ∷ []) (seen_after p r (ToField 1) same_too leads_too);
    total = rw (first, second) refl;
  };
  told = told;
}

-- a list has one length
only_list : IsOnly Lists
only_list D m n h a b = let e = h (ToField 1 ∷ []) (vector m) (vector n) a b in cc

pub sum_mapped : {X Y : Type 0} (f : Y → ℕ) (g : X → Y) (xs : List X) → sum_by f (map g xs) ≡ sum_by (λ x. f (g x)) xs
sum_mapped f g [] = refl
sum_mapped f g (x ∷ xs) = sum_by-cons f (g x) (map g xs) ∙ ap (λ n. f (g x) + n) (sum_mapped f g xs) ∙ sym (sum_by-cons (λ y. f (g y)) x xs)

objects_listed : (D : Says) (os : List Object) → AreRows IsObjectRow D os → AreRows Lists D (map fields_of os)
objects_listed D os rows = mapped_rows Lists D fields_of os (record { count = rows.count; each = λ j o e. ((rows.each j o e).fields).count })

enums_listed : (D : Says) (es : List Enum) → AreRows IsEnumRow D es → AreRows Lists D (map members_of es)
enums_listed D es rows = mapped_rows Lists D members_of es (record { count = rows.count; each = λ j e is. ((rows.each j e is).members).count })

-- what a file describes is as much as it says that it has
pub counted : (D : Says) (rows : Rows) (n : ℕ) → IsSingle D → HasRows D n → Describes D rows → n ≡ rows_count rows
counted D rows n single has described =
    let objects = only_rows Lists only_list (after D (ToField 0)) has.objects (map fields_of rows.objects) (λ steps x y. single (ToField 0 ∷ steps) x y) has.fields (objects_listed (after D (ToField 0)) rows.objects described.objects) in
    let enums = only_rows Lists only_list (after D (ToField 1)) has.enums (map members_of rows.enums) (λ steps x y. single (ToField 1 ∷ steps) x y) has.members (enums_listed (after D (ToField 1)) rows.enums described.enums) in
    rw (has.total, objects, enums, sum_mapped listed_rows fields_of rows.objects, sum_mapped listed_rows members_of rows.enums)

-- rows that are paid for, by what the file says that it has
pub paid_rows : (D : Says) (rows : Rows) (n : ℕ) → IsSingle D → Describes D rows → ArePaid D rows n → IsPaid rows n
paid_rows D rows n single described paid = record {
  count = subst (λ m. m ≤ most_rows n) (counted D rows paid.count single paid.has described) paid.few;
  names = paid.names;
}
