-- The live fields and the members of legal rows are found by their names.
use Rattle.std.proofs.Common.{◌≡◌, ℕ, zero, suc, ◌<◌, ◌&&◌, pos, Bool, true, List, [], ◌∷◌, get_or, slice_get, find, option_map, unsigned_abs, IsTrue, Option, Some, None, refl, sym, ◌∙◌, ap, subst, arith}
use Rattle.fb_access.proofs.{StepLaws.some_same, Found.found_there, MemberKinds.union_row, MemberKinds.found_among, MemberKinds.clear}
use Rattle.std.proofs.lemmas.Bool.{false≢true, and_parts, and_from, or_left, or_right}
use Rattle.std.specs.{Cmp.signed_Decides, Ordering.int_eq, Str.bytes_eq}
use Rattle.std.proofs.lemmas.{Option.slice_get-get_or, Option.get_or_from_slice_get, Option.slice_get_within, Slice.Eq.bytes_eq-Decides}
use Rattle.fb_schema.specs.Demands.{IsLegal, first_code, stands_before, same_field_name, same_member_name, table_field_demands, member_demands, demands_of_member}
use Rattle.fb_schema.specs.{Live.Live, Live.live_fields, Served.IsServed, declared.kinds.Kind.Kind, Rows.Field, Rows.Object, Rows.Member, Rows.Enum, Rows.Rows, Rows.is_union}
use Rattle.fb_schema.specs.Members.{is_member_value, members_of, member_of, member_named, member_name}
use Rattle.fb_schema.proofs.{DemandLaws.clear_line, FindLemmas.found_item, Kinded.row_of, RowLemmas.IsRowOf, RowLemmas.asked, UnionLemmas.real_not_zero}
use Rattle.fb_access.specs.Resolving.{field_with_name}

-- Lists.

-- an item that is like this one stands before its place
stands : {X : Type 0} (same : X → X → Bool) (xs : List X) (p q : ℕ) (x y : X) → slice_get xs p ≡ Some x → p < q → same x y ≡ true → stands_before same xs q y ≡ true
stands same [] p q x y a lt h = absurd (let w : None ≡ Some x = a in cc)
stands same (z ∷ zs) p zero x y a lt h = absurd (omega arith)
stands same (z ∷ zs) zero (suc q) x y a lt h = or_left (same z y) (stands_before same zs q y) (ap (λ v. same v y) (some_same a) ∙ h)
stands same (z ∷ zs) (suc p) (suc q) x y a lt h = or_right (same z y) (stands_before same zs q y) (stands same zs p q x y a (omega arith) h)

-- one of two numbers is below the other, or they are one
apart : (P : Type 0) (m n : ℕ) → (m < n → P) → (n < m → P) → (m ≡ n → P) → P
apart P m n a b c = grind arith

alike : (a b : List ℕ) → a ≡ b → bytes_eq a b ≡ true
alike a b e = grind (arith, bytes_eq-Decides)

-- Fields.
module _ (S : Rows) (legal : IsLegal S) (k : ℕ) where
  -- no field of a table has the name of one before it
  not_before : (o : Object) (i j : ℕ) (f g : Field) (r : IsRowOf S k i o f) (s : IsRowOf S k j o g) → f.name ≡ g.name → r.place < s.place → ⊥
  not_before o i j f g r s e lt =
      let none = clear_line (table_field_demands S g _ _ _ _) (asked S legal k j o g s) 0 _ refl in
      false≢true (sym none ∙ stands same_field_name o.fields r.place s.place f g r.there lt (alike f.name g.name e))

  -- live fields of one name have one row
  one_row : (o : Object) (i j : ℕ) (f g : Field) (r : IsRowOf S k i o f) (s : IsRowOf S k j o g) → f.name ≡ g.name → f ≡ g
  one_row o i j f g r s e =
      apart (f ≡ g) r.place s.place (λ lt. absurd (not_before o i j f g r s e lt)) (λ lt. absurd (not_before o j i g f s r (sym e) lt)) (λ same. some_same (sym r.there ∙ ap (slice_get o.fields) same ∙ s.there))

  one_slot : (i j : ℕ) (f g : Live) → slice_get (live_fields S k) i ≡ Some f → slice_get (live_fields S k) j ≡ Some g → f.name ≡ g.name → f.slot ≡ g.slot
  one_slot i j f g a b e =
      let u = row_of S legal k i f a in
      let v = row_of S legal k j g b in
      let object : v.object ≡ u.object = some_same (sym v.row.at ∙ u.row.at) in
      let name : u.field.name ≡ v.field.name = ap (λ (l : Live). l.name) (sym u.same) ∙ e ∙ ap (λ (l : Live). l.name) v.same in
      let row : u.field ≡ v.field = one_row u.object i j u.field v.field u.row (subst (λ o. IsRowOf S k j o v.field) object v.row) name in
      ap (λ (l : Live). l.slot) u.same ∙ ap (λ (f : Field). f.slot) row ∙ ap (λ (l : Live). l.slot) (sym v.same)

  pub found_by_name : IsServed S → (i : ℕ) (f : Live) → slice_get (live_fields S k) i ≡ Some f → field_with_name S k f.name ≡ Some f
  found_by_name served i f a =
      let fs = live_fields S k in
      let here : get_or fs i f ≡ f = get_or_from_slice_get fs i f f a in
      found_item (λ g. bytes_eq g.name f.name) fs i f (slice_get_within fs i f a) (ap (λ (g : Live). bytes_eq g.name f.name) here ∙ alike f.name f.name refl) (λ j within e.
      let g = get_or fs j f in
      let b = slice_get-get_or fs j f within in
      let slots = one_slot j i g f b a ((bytes_eq-Decides g.name f.name).0 e) in
      apart (j ≡ i) j i (λ lt. absurd (let r = served.rising k j i g f b a lt in omega (arith, r, slots))) (λ lt. absurd (let r = served.rising k i j f g a b lt in omega (arith, r, slots))) (λ same. same))
      ∙ ap Some here

-- Members.
module _ (S : Rows) (legal : IsLegal S) (e : ℕ) (row : Enum) (at : slice_get S.enums e ≡ Some row) (union : row.is_union ≡ true) where
  -- no member that has a value has the name of such a one before it
  no_name_before : (i j : ℕ) (m n : Member) → slice_get row.members i ≡ Some m → slice_get row.members j ≡ Some n → is_member_value m.value ≡ true → is_member_value n.value ≡ true → m.name ≡ n.name → i < j → ⊥
  no_name_before i j m n a b real_m real_n same lt =
      let asked : first_code (member_demands S n _ _) ≡ None = sym (ap (λ x. first_code (demands_of_member S row.members j x)) b) ∙ clear S e row at union legal j in
      let none = clear_line (member_demands S n _ _) asked 1 _ refl in
      let here : same_member_name m n ≡ true = rw (real_not_zero m.value real_m, real_not_zero n.value real_n, alike m.name n.name same) refl in
      false≢true (sym none ∙ stands same_member_name row.members i j m n a lt here)

  -- the member of this place is found by its name
  found_member : (i : ℕ) (m : Member) → slice_get row.members i ≡ Some m → is_member_value m.value ≡ true → find (λ n. bytes_eq n.name m.name) (members_of S e) ≡ Some m
  found_member i m a real =
      let ms = row.members in
      let p : Member → Bool = λ n. is_member_value n.value && bytes_eq n.name m.name in
      let here : get_or ms i m ≡ m = get_or_from_slice_get ms i m m a in
      found_among S e row at union (λ n. bytes_eq n.name m.name)
      ∙ found_item p ms i m (slice_get_within ms i m a) (ap p here ∙ and_from (is_member_value m.value) (bytes_eq m.name m.name) real (alike m.name m.name refl)) (λ j within h.
      let n = get_or ms j m in
      let b = slice_get-get_or ms j m within in
      let real_n = (and_parts (is_member_value n.value) (bytes_eq n.name m.name) h).0 in
      let same = (bytes_eq-Decides n.name m.name).0 (and_parts (is_member_value n.value) (bytes_eq n.name m.name) h).1 in
      apart (j ≡ i) j i (λ lt. absurd (no_name_before j i n m b a real_n real same lt)) (λ lt. absurd (no_name_before i j m n a b real real_n (sym same) lt)) (λ e. e))
      ∙ ap Some here

  -- what has a value is found by its name again
  value_again : (y : ℕ) (m : Member) → find (λ n. int_eq n.value (pos y)) (members_of S e) ≡ Some m → (find (λ n. bytes_eq n.name m.name) (members_of S e) ≡ Some m) × (unsigned_abs m.value ≡ y)
  value_again y m h =
      let t = found_there (λ n. is_member_value n.value && int_eq n.value (pos y)) row.members m (sym (found_among S e row at union (λ n. int_eq n.value (pos y))) ∙ h) in
      let real = (and_parts (is_member_value m.value) (int_eq m.value (pos y)) t.2).0 in
      (found_member t.0 m t.1 real, ap unsigned_abs ((signed_Decides m.value (pos y)).0 (and_parts (is_member_value m.value) (int_eq m.value (pos y)) t.2).1))

-- the value of a member that has a name is found by this name
pub named_again : (S : Rows) (e y : ℕ) (name : List ℕ) → IsLegal S → IsTrue (is_union S e) → member_name S e y ≡ Some name → member_named S e name ≡ Some y
unfolding member_name member_named
named_again S e y name legal there h = go (find (λ n. int_eq n.value (pos y)) (members_of S e)) refl h where
  go : (m : Option Member) → find (λ n. int_eq n.value (pos y)) (members_of S e) ≡ m → option_map (λ (n : Member). n.name) m ≡ Some name → option_map (λ (n : Member). unsigned_abs n.value) (find (λ n. bytes_eq n.name name) (members_of S e)) ≡ Some y
  go None f i = absurd (let w : None ≡ Some name = i in cc)
  go (Some m) f i =
      let u = union_row (slice_get S.enums e) there in
      let v = value_again S legal e u.0 u.1 u.2 y m f in
      let same : m.name ≡ name = some_same i in
      ap (option_map (λ (n : Member). unsigned_abs n.value)) (subst (λ t. find (λ n. bytes_eq n.name t) (members_of S e) ≡ Some m) same v.0) ∙ ap Some v.1

-- a type that has a member has a name
pub has_name : (S : Rows) (e y : ℕ) (kind : Kind) → member_of S e y ≡ Some kind → member_name S e y ≡ None → ⊥
unfolding member_name member_of
has_name S e y kind h none = grind arith
