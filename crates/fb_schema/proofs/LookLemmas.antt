-- What the look-ups read.
use Rattle.std.proofs.Common.{◌≡◌, Bool, false, true, refl, ℕ, ℤ, pos, negsuc, Bor, Option, None, option_map, zero, suc, ◌<◌, ◌≤◌, ◌^◌, List, [], ◌∷◌, length, get_or, slice_get, map, Some, IsTrue, sym, subst, ◌∙◌, ap, arith}
use Rattle.std.proofs.lemmas.{Option.slice_get-map, Option.slice_get_past, List.length-map}
use Rattle.fb_schema.specs.{declared.index.Sorts.Sorts, declared.views.Step.Step, declared.flat.FlatRows.FlatRows, declared.flat.RowLists.RowLists, FlatRows.object_in, FlatRows.enum_in, FlatRows.flat_rows}
use Rattle.fb_schema.specs.{FlatRows.borrowed_rows, Live.Live, Live.live_of, Live.live_in, Live.live_rows, Live.live_fields, Live.widest, Live.widest_of, Rows.Rows, Rows.Object}
use Rattle.fb_schema.specs.{Rows.entry_at, Rows.is_table, Rows.is_some_table, Rows.Enum, Rows.is_union, Rows.is_some_union, Steps.chain_of, Steps.sorts_of}
use Rattle.fb_schema.proofs.Kept.{kept_fewer}

-- rows that are lent are the same
pub lent_same : {A : Type 0} (flat : FlatRows A) (lent : RowLists) → lent.objects.now ≡ flat.objects.items → lent.fields.now ≡ flat.fields.items → lent.enums.now ≡ flat.enums.items → lent.members.now ≡ flat.members.items → borrowed_rows lent ≡ flat_rows flat
lent_same flat lent objects fields enums members = λ i. record { objects = map (object_in (fields i)) (objects i); enums = map (enum_in (members i)) (enums i) }

-- what is made of the item that there may be at a place
read_made : {X Y : Type 0} (g : Option X → Y) (xs : List X) (n : ℕ) (y : Y) → slice_get (map (λ x. g (Some x)) xs) n ≡ Some y → y ≡ g (slice_get xs n)
read_made g xs n y e = grind (arith, slice_get-map (λ x. g (Some x)) xs n, e)

pub live_read : (rows : Rows) (objects : List Object) (lists : List (List Live)) (n : ℕ) (y : List Live) → lists ≡ map (λ o. live_in rows (Some o)) objects → slice_get lists n ≡ Some y → y ≡ live_in rows (slice_get objects n)
live_read rows objects lists n y e at = read_made (live_in rows) objects n y (ap (λ ls. slice_get ls n) (sym e) ∙ at)

-- the steps of a table's live fields, and the one behind them
pub chain_read : (rows : Rows) (lists : List (List Step)) (n : ℕ) (y : List Step) → lists ≡ map (λ o. chain_of (live_in rows (Some o))) rows.objects → slice_get lists n ≡ Some y → y ≡ chain_of (live_fields rows n)
unfolding live_fields
chain_read rows lists n y e at = read_made (λ o. chain_of (live_in rows o)) rows.objects n y (ap (λ ls. slice_get ls n) (sym e) ∙ at)

read_sorts : (rows : Rows) (objects : List Object) (n : ℕ) (x : Sorts) → IsTrue (is_some_table (slice_get objects n)) → x ≡ get_or (map (λ o. sorts_of (live_in rows (Some o))) objects) n x → x ≡ sorts_of (live_in rows (slice_get objects n))
read_sorts rows [] n x t h = absurd cc
read_sorts rows (o ∷ os) zero x t h = h
read_sorts rows (o ∷ os) (suc n) x t h = read_sorts rows os n x t h

-- what the index tells of all of them
pub sorts_read : (rows : Rows) (sorts : List Sorts) (n : ℕ) (x : Sorts) → sorts ≡ map (λ o. sorts_of (live_in rows (Some o))) rows.objects → IsTrue (is_table rows n) → x ≡ get_or sorts n x → x ≡ sorts_of (live_fields rows n)
unfolding live_fields
sorts_read rows sorts n x h t at = read_sorts rows rows.objects n x t (at ∙ ap (λ xs. get_or xs n x) h)

count_within : (rows : Rows) (objects : List Object) (n : ℕ) → length (live_in rows (slice_get objects n)) ≤ widest_of objects
count_within rows [] n = omega arith
count_within rows (o ∷ os) zero = let e = kept_fewer (live_of rows (live_rows o)) (live_rows o) in omega arith
count_within rows (o ∷ os) (suc n) = let h = count_within rows os n in omega arith

-- no table has more live fields than the widest
pub within_widest : (rows : Rows) (n : ℕ) → length (live_fields rows n) ≤ widest rows
unfolding live_fields widest
within_widest rows n = count_within rows rows.objects n

-- a list as long as a table's live fields is short
pub few_read : (rows seen : Rows) (most n : ℕ) → most ≡ widest_of rows.objects → most ≤ 32766 → rows ≡ seen → n ≤ widest seen → n < 2 ^ 32
unfolding widest
few_read rows seen most n e few same h = let w = ap widest same in omega arith

-- The entry that an index names, of rows as they are kept.
pub entry_found : {X Y : Type 0} (f : X → Y) (xs : List X) (index : ℤ) (found : Option (Bor X)) → option_map (λ x. x.now) found ≡ entry_at xs index → option_map (λ x. f x.now) found ≡ entry_at (map f xs) index
entry_found f xs (pos k) found e = grind (arith, slice_get-map f xs k, e)
entry_found f xs (negsuc k) found e = grind (arith, e)

-- what is at a place passes a test that nothing fails only where an item stands there
listed_at : {X : Type 0} (p : Option X → Bool) → p None ≡ false → (xs : List X) (n : ℕ) → IsTrue (p (slice_get xs n)) → n < length xs
listed_at p none [] n h = absurd (let w : false ≡ true = sym none ∙ h in cc)
listed_at p none (x ∷ xs) zero h = omega arith
listed_at p none (x ∷ xs) (suc n) h = let e = listed_at p none xs n h in omega arith

-- a list with an item for each object reaches as far as the tables
pub table_listed : {Y : Type 0} (lists : List Y) (rows seen : Rows) (n : ℕ) → length lists ≡ length rows.objects → rows ≡ seen → IsTrue (is_table seen n) → n < length lists
table_listed lists rows seen n long same t =
    let lt = listed_at is_some_table refl rows.objects n (subst (λ r. IsTrue (is_table r n)) (sym same) t) in
    omega (arith, lt, long)

-- the same of what is made of the enums and of unions
pub union_within : {X : Type 0} (f : X → Enum) (enums : List X) (rows seen : Rows) (n : ℕ) → rows.enums ≡ map f enums → rows ≡ seen → IsTrue (is_union seen n) → n < length enums
union_within f enums rows seen n made same u =
    let lt = listed_at is_some_union refl rows.enums n (subst (λ r. IsTrue (is_union r n)) (sym same) u) in
    let as_long = ap length made ∙ length-map enums f in
    omega (arith, lt, as_long)

-- nothing is made of items past the last
pub past_mapped : {X Y : Type 0} (f : X → Y) (xs : List X) (n : ℕ) → length xs ≤ n → slice_get (map f xs) n ≡ None
past_mapped f xs n le = slice_get-map f xs n ∙ ap (option_map f) (slice_get_past xs n le)
