-- At most one answer applies to the bytes of a schema file.
use Rattle.std.proofs.Common.{◌≡◌, ℕ, ◌<◌, ◌≤◌, ◌^◌, List, [], ◌∷◌, length, refl, sym, ◌∙◌, ap, subst, arith, inl, inr, Option, Some, None, Result, Ok, Err}
use Rattle.std.specs.Borrow.{Bor}
use Rattle.fb_schema.specs.{Rows.Rows, Rows.table_named, Demands.IsLegal, Demands.IsFirstIllegal, declared.fault.SchemaFault.SchemaFault}
use Rattle.fb_schema.proofs.DemandLaws.{one_first, no_first_if_legal}
use Rattle.fb_rules.specs.{Bounds.Bounds, Stops.Stops, declared.fault.Fault.Fault, declared.start.Start.TheVariants.Bare}
use Rattle.fb_rules.proofs.{OneFault.stops_once, Overruns.stops_nowhere}
use Rattle.fb_access.specs.{declared.step.Step.TheVariants.Field as ToField, declared.spot.Spot.Spot, declared.spot.Spot.TheVariants.AtAbsent, Denotes.Leads, Denotes.next_spot}
use Rattle.fb_access.specs.Denotes.{root_spot, text, nothing, value}
use Rattle.fb_access.proofs.Callers.{shows_one}
use Rattle.fb_bfbs.specs.declared.load_fault.LoadFault.TheVariants.{NotWellFormed, BadSchema, RootNotListed, OutOfMemory, TooLong, TooMuchShared}
use Rattle.fb_bfbs.specs.{Fixed.fixed, Says.text_or_nothing, Sums.IsOver, Sums.names_length, declared.loading.Loaded.Loaded, declared.load_fault.LoadFault.LoadFault}
use Rattle.fb_bfbs.specs.{Describes.Describes, Describes.NamesRoot, Describes.IsRoot, Describes.HasStrayRoot, Loads.asked_within, Loads.ArePaidFor, Loads.SharesTooMuch}
use Rattle.fb_bfbs.specs.{Loads.IsSchemaFile, Loads.IsBadSchema, Loads.IsLoaded, Loads.told, Loads.schema_number, LoadLaws.DescribesOnce, LoadLaws.ident_bytes, LoadLaws.IsSameLoad}
use Rattle.fb_bfbs.specs.LoadLaws.{IsSameAnswer, Applies}
use Rattle.fb_bfbs.proofs.{Counts.counted, OneFile.IsSingle, OneFile.describes_once, OneFile.one_text, OneFile.text_is_something}

-- a file says one thing of each path
pub file_is_single : (b : List ℕ) → IsSingle (told b)
file_is_single b = λ steps x y h i. shows_one b fixed (root_spot b Bare schema_number) steps x y h i

pub one_description : DescribesOnce
one_description b rows others x y = describes_once (told b) rows others (file_is_single b) x y

-- where nothing is, no field is a text
nothing_has_no_text : (b : List ℕ) (S : Rows) (p q : Spot) (n : ℕ) (name : List ℕ) → nothing ≡ value b S p → Leads b S p (ToField n) q → text name ≡ value b S q → ⊥
unfolding next_spot value
nothing_has_no_text b S AtAbsent q n name e l f = let w : q ≡ AtAbsent = cc in let v : text name ≡ nothing = subst (λ s. text name ≡ value b S s) w f in cc
nothing_has_no_text b S p q n name e l f = absurd cc

module _ (b : List ℕ) where
  -- a root table that has a name isn't absent
  name_of_no_root : (name : List ℕ) → NamesRoot (told b) name → told b (ToField 4 ∷ []) nothing → ⊥
  name_of_no_root name x y =
      let way = x.1 in
      let other = y.1 in
      let first = way.1 in
      let same = other.1 in
      let m : other.0 ≡ way.0 = cc in
      nothing_has_no_text b fixed way.0 way.2.0 0 name (subst (λ p. nothing ≡ value b fixed p) (sym other.2 ∙ m) y.2) way.2.1 (subst (λ p. text name ≡ value b fixed p) (sym way.2.2) x.2)

  -- a root that is listed is not stray
  listed_or_stray : (rows : Rows) (root : Option ℕ) → IsRoot (told b) rows root → HasStrayRoot (told b) rows → ⊥
  listed_or_stray rows None x y = name_of_no_root y.0 y.1 x
  listed_or_stray rows (Some n) x y =
      let e : x.0 ≡ y.0 = one_text (told b) (file_is_single b) (ToField 4 ∷ ToField 0 ∷ []) x.1 y.1 in
      let none : table_named rows x.0 ≡ None = subst (λ name. table_named rows name ≡ None) (sym e) y.2 in
      let some = x.2 in
      cc

  -- there is one root
  one_root : (rows : Rows) (x y : Option ℕ) → IsRoot (told b) rows x → IsRoot (told b) rows y → x ≡ y
  one_root rows None None h i = refl
  one_root rows None (Some m) h i = absurd (name_of_no_root i.0 i.1 h)
  one_root rows (Some n) None h i = absurd (name_of_no_root h.0 h.1 i)
  one_root rows (Some n) (Some m) h i =
      let e : h.0 ≡ i.0 = one_text (told b) (file_is_single b) (ToField 4 ∷ ToField 0 ∷ []) h.1 i.1 in
      let a : table_named rows i.0 ≡ Some n = subst (λ name. table_named rows name ≡ Some n) e h.2 in
      let c = i.2 in
      cc

  -- there is one identifier
  one_ident : (x y : Option (Bor (List ℕ))) → told b (ToField 2 ∷ []) (text_or_nothing x) → told b (ToField 2 ∷ []) (text_or_nothing y) → ident_bytes x ≡ ident_bytes y
  one_ident None None h i = refl
  one_ident None (Some s) h i = absurd (text_is_something (told b) (file_is_single b) (ToField 2 ∷ []) i h)
  one_ident (Some r) None h i = absurd (text_is_something (told b) (file_is_single b) (ToField 2 ∷ []) h i)
  one_ident (Some r) (Some s) h i = ap Some (one_text (told b) (file_is_single b) (ToField 2 ∷ []) h i)

module _ (b : List ℕ) (L : Bounds) where
  too_long_and_short : 2 ^ 31 ≤ length b → length b < 2 ^ 31 → ⊥
  too_long_and_short long short = omega (arith, long, short)

  file_and_stop : (f : Fault) → IsSchemaFile b L → Stops (asked_within L) b f → ⊥
  file_and_stop f file stops = stops_nowhere (asked_within L) b file.found f file.well_formed file.within stops

  legal_and_bad : (rows : Rows) (f : SchemaFault) → Describes (told b) rows → IsLegal rows → IsBadSchema b L f → ⊥
  legal_and_bad rows f described legal bad =
      no_first_if_legal rows legal f (subst (λ r. IsFirstIllegal r f) (one_description b bad.rows rows bad.described described) bad.first)

  -- rows that are paid for aren't too many, nor too long their names
  paid_and_over : (rows : Rows) → Describes (told b) rows → ArePaidFor b L rows → SharesTooMuch b L → ⊥
  paid_and_over rows described paid s = go s.over where
    go : IsOver (told b) (length b) → ⊥
    go (inl (m, has, more)) = omega (arith, more, (paid s.budget).count, counted (told b) rows m (file_is_single b) has described)
    go (inr (others, same, more)) = omega (arith, more, (paid s.budget).names, ap names_length (one_description b others rows same described))

  one_load : (x y : Loaded) → IsLoaded b L x → IsLoaded b L y → IsSameLoad x y
  one_load x y h i =
      let same = one_description b x.schema y.schema h.rows i.rows in
      record {
        schema = same;
        root = one_root b y.schema x.root y.root (subst (λ r. IsRoot (told b) r x.root) same h.root) i.root;
        ident = one_ident b x.ident y.ident h.ident i.ident;
      }

  load_and_fault : (x : Loaded) (f : LoadFault) → IsLoaded b L x → Applies b L (Err f) → ⊥
  load_and_fault x (NotWellFormed f) h i = file_and_stop f h.file i.1
  load_and_fault x (BadSchema f) h i = legal_and_bad x.schema f h.rows h.legal i
  load_and_fault x RootNotListed h i = listed_or_stray b x.schema x.root h.root (subst (HasStrayRoot (told b)) (one_description b i.rows x.schema i.described h.rows) i.stray)
  load_and_fault x OutOfMemory h i = absurd i
  load_and_fault x TooMuchShared h i = paid_and_over x.schema h.rows h.paid i
  load_and_fault x TooLong h i = too_long_and_short i h.file.short

  one_fault : (f g : LoadFault) → Applies b L (Err f) → Applies b L (Err g) → f ≡ g
  one_fault OutOfMemory g h i = absurd h
  one_fault f OutOfMemory h i = absurd i
  one_fault TooLong TooLong h i = refl
  one_fault TooLong (NotWellFormed g) h i = absurd (too_long_and_short h i.0)
  one_fault (NotWellFormed f) TooLong h i = absurd (too_long_and_short i h.0)
  one_fault TooLong g h i = absurd (too_long_and_short h i.file.short)
  one_fault f TooLong h i = absurd (too_long_and_short i h.file.short)
  one_fault (NotWellFormed f) (NotWellFormed g) h i = ap NotWellFormed (stops_once (asked_within L) b f g h.1 i.1)
  one_fault (NotWellFormed f) g h i = absurd (file_and_stop f i.file h.1)
  one_fault f (NotWellFormed g) h i = absurd (file_and_stop g h.file i.1)
  one_fault (BadSchema f) (BadSchema g) h i = ap BadSchema (one_first i.rows f g (subst (λ r. IsFirstIllegal r f) (one_description b h.rows i.rows h.described i.described) h.first) i.first)
  one_fault (BadSchema f) RootNotListed h i = absurd (legal_and_bad i.rows f i.described i.legal h)
  one_fault RootNotListed (BadSchema g) h i = absurd (legal_and_bad h.rows g h.described h.legal i)
  one_fault RootNotListed RootNotListed h i = refl
  one_fault TooMuchShared TooMuchShared h i = refl
  one_fault TooMuchShared g h i = absurd (paid_and_over i.rows i.described i.paid h)
  one_fault f TooMuchShared h i = absurd (paid_and_over h.rows h.described h.paid i)

  pub one_answer : (x y : Result Loaded LoadFault) → Applies b L x → Applies b L y → IsSameAnswer x y
  one_answer (Ok x) (Ok y) h i = one_load x y h i
  one_answer (Ok x) (Err g) h i = absurd (load_and_fault x g h i)
  one_answer (Err f) (Ok y) h i = absurd (load_and_fault y f i h)
  one_answer (Err f) (Err g) h i = one_fault f g h i
