-- The laws of the first illegal demand.
use Rattle.std.proofs.Common.{◌≡◌, ℕ, zero, suc, ◌<◌, ◌≤◌, ◌⊎◌, inl, inr, Bool, true, false, List, [], ◌∷◌, length, slice_get, Option, Some, None, refl, sym, ◌∙◌, ap, subst, arith, if◌then◌else◌}
use Rattle.fb_schema.specs.{declared.fault.Code.Code, declared.fault.SchemaFault.SchemaFault, Rows.Object, Rows.Enum, Rows.Rows, Demands.Demand, Demands.Key, Demands.IsBefore}
use Rattle.fb_schema.specs.Demands.{IsBroken, IsLegal, IsFirstIllegal, demands_at, demands_of_object, demands_of_enum, first_code, part_of}
use Rattle.fb_schema.proofs.Numbers.{slice_get_past}
use Rattle.std.proofs.lemmas.Option.{same_Some}

-- a broken demand of a list
abbrev pub IsBrokenIn : List Demand → ℕ → Code → Type 0
IsBrokenIn ds line code = slice_get ds line ≡ Some (record { code = code; broken = true })

found_here : (b : Bool) (c code : Code) (rest : Option Code) → (if b then Some c else rest) ≡ Some code → ((b ≡ true) × (c ≡ code)) ⊎ ((b ≡ false) × (rest ≡ Some code))
found_here b c code rest e = grind arith

-- where no demand of a list is broken, the one at this line isn't
pub clear_line : (ds : List Demand) → first_code ds ≡ None → (line : ℕ) (d : Demand) → slice_get ds line ≡ Some d → d.broken ≡ false
clear_line [] h line d e = absurd (cc)
clear_line (x ∷ ds) h zero d e = grind (arith, h, e)
clear_line (x ∷ ds) h (suc line) d e = clear_line ds (grind (arith, h)) line d e

pub none_broken : (ds : List Demand) → first_code ds ≡ None → (line : ℕ) (code : Code) → IsBrokenIn ds line code → ⊥
none_broken ds h line code b = let w : true ≡ false = clear_line ds h line (record { code = code; broken = true }) b in cc

-- the line of the first broken demand
pub first_line : (ds : List Demand) (code : Code) → first_code ds ≡ Some code → (line : ℕ) × IsBrokenIn ds line code × ((m : ℕ) (c : Code) → m < line → IsBrokenIn ds m c → ⊥)
first_line [] code h = absurd (cc)
first_line (d ∷ ds) code h = elim (found_here d.broken d.code code (first_code ds) h) [
  | inl e ↦ (0, (let w : d ≡ (record { code = code; broken = true }) = λ i. record { code = e.1 i; broken = e.0 i } in ap Some w), λ m c lt. absurd (omega arith))
  | inr e ↦ (let later = first_line ds code e.1 in (suc later.0, later.1, first_before d ds e.0 later.0 later.2))
] where
  first_before : (d : Demand) (ds : List Demand) → d.broken ≡ false → (line : ℕ) → ((m : ℕ) (c : Code) → m < line → IsBrokenIn ds m c → ⊥) → (m : ℕ) (c : Code) → m < suc line → IsBrokenIn (d ∷ ds) m c → ⊥
  first_before d ds whole line none zero c lt b = let q = ap (λ (d : Demand). d.broken) (same_Some d _ b) in let w : true ≡ false = sym q ∙ whole in cc
  first_before d ds whole line none (suc m) c lt b = none m c (omega arith) b

-- no demand is broken at this place of this owner
abbrev pub IsClear : Rows → ℕ → ℕ → ℕ → Type 0
IsClear rows level n place = first_code (demands_at rows level n place) ≡ None

-- nor at any lower level, nor before this owner of its level, nor before this place of it
pub record AreLevelsClear (rows : Rows) (level : ℕ) : Type 0 where
  pub at : (l m place : ℕ) → l < level → IsClear rows l m place

pub record AreClearBelow (rows : Rows) (level n : ℕ) : Type 0 where
  pub at : (m place : ℕ) → m < n → IsClear rows level m place

pub record IsClearBelow (rows : Rows) (level n place : ℕ) : Type 0 where
  pub at : (p : ℕ) → p < place → IsClear rows level n p

pub first_illegal : (rows : Rows) (level n place : ℕ) (code : Code) → AreLevelsClear rows level → AreClearBelow rows level n → IsClearBelow rows level n place → first_code (demands_at rows level n place) ≡ Some code → IsFirstIllegal rows (record { code = code; owner = n; part = part_of place })
first_illegal rows level n place code levels owners clear h =
    let l = first_line (demands_at rows level n place) code h in
    record {
      key = record { level = level; number = n; place = place; line = l.0 };
      broken = l.1;
      owner = refl;
      part = refl;
      first = λ k c before b. (
          let lower_level : k.level < level → ⊥ = λ lt. none_broken _ (levels.at k.level k.number k.place lt) k.line c b in
          let lower_owner : k.level ≡ level → k.number < n → ⊥ = λ e lt. none_broken _ (owners.at k.number k.place lt) k.line c (rw e at b) in
          let lower_place : k.level ≡ level → k.number ≡ n → k.place < place → ⊥ = λ e f lt. none_broken _ (clear.at k.place lt) k.line c (rw (e, f) at b) in
          let lower_line : k.level ≡ level → k.number ≡ n → k.place ≡ place → k.line < l.0 → ⊥ = λ e f g lt. l.2 k.line c lt (rw (e, f, g) at b) in
          grind (arith, before, lower_level, lower_owner, lower_place, lower_line));
    }

-- how many levels there are, how many owners a level has, and how many places an owner
unfoldable pub levels_end : ℕ
levels_end = 2

unfoldable pub owners_end : Rows → ℕ → ℕ
owners_end rows zero = length rows.objects
owners_end rows (suc level) = length rows.enums

unfoldable pub object_end : Option Object → ℕ
object_end None = 0
object_end (Some o) = suc (length o.fields)

unfoldable pub enum_end : Option Enum → ℕ
enum_end None = 0
enum_end (Some e) = suc (length e.members)

unfoldable pub places_end : Rows → ℕ → ℕ → ℕ
places_end rows zero n = object_end (slice_get rows.objects n)
places_end rows (suc level) n = enum_end (slice_get rows.enums n)

pub past_levels : (rows : Rows) (level n place : ℕ) → levels_end ≤ level → IsClear rows level n place
unfolding levels_end
past_levels rows zero n place h = absurd (omega arith)
past_levels rows (suc zero) n place h = absurd (omega arith)
past_levels rows (suc (suc level)) n place h = refl

pub past_owners : (rows : Rows) (level n place : ℕ) → owners_end rows level ≤ n → IsClear rows level n place
unfolding owners_end
past_owners rows zero n place h = ap (λ o. first_code (demands_of_object rows n place o)) (slice_get_past rows.objects n h)
past_owners rows (suc zero) n place h = ap (λ e. first_code (demands_of_enum rows place e)) (slice_get_past rows.enums n h)
past_owners rows (suc (suc level)) n place h = refl

nothing_asked : (b : Bool) → first_code (if b then [] else []) ≡ None
nothing_asked b = grind arith

past_fields : (rows : Rows) (n place : ℕ) (o : Option Object) → object_end o ≤ place → first_code (demands_of_object rows n place o) ≡ None
unfolding object_end
past_fields rows n place None h = refl
past_fields rows n zero (Some o) h = absurd (omega arith)
past_fields rows n (suc p) (Some o) h = rw (slice_get_past o.fields p (omega arith)) (nothing_asked o.is_struct)

past_members : (rows : Rows) (place : ℕ) (e : Option Enum) → enum_end e ≤ place → first_code (demands_of_enum rows place e) ≡ None
unfolding enum_end
past_members rows place None h = refl
past_members rows zero (Some e) h = refl
past_members rows (suc p) (Some e) h = rw (slice_get_past e.members p (omega arith)) (nothing_asked e.is_union)

pub past_places : (rows : Rows) (level n place : ℕ) → places_end rows level n ≤ place → IsClear rows level n place
unfolding places_end
past_places rows zero n place h = past_fields rows n place (slice_get rows.objects n) h
past_places rows (suc zero) n place h = past_members rows place (slice_get rows.enums n) h
past_places rows (suc (suc level)) n place h = refl

pub is_legal : (rows : Rows) → ((level n place : ℕ) → IsClear rows level n place) → IsLegal rows
is_legal rows clear = record { none = λ k c b. none_broken _ (clear k.level k.number k.place) k.line c b }

pub no_levels : (rows : Rows) → AreLevelsClear rows 0
no_levels rows = record { at = λ l m place lt. absurd (omega arith) }

-- two keys of which neither is before the other
same_key : (a b : Key) → (IsBefore a b → ⊥) → (IsBefore b a → ⊥) → a ≡ b
same_key a b h k = grind (arith, h, k)

-- At most one fault is the first.
pub one_first : (rows : Rows) (f g : SchemaFault) → IsFirstIllegal rows f → IsFirstIllegal rows g → f ≡ g
one_first rows f g a b =
    let same = same_key a.key b.key (λ before. b.first a.key f.code before a.broken) (λ before. a.first b.key g.code before b.broken) in
    let there : IsBroken rows b.key f.code = subst (λ (k : Key). IsBroken rows k f.code) same a.broken in
    let code = ap (λ (d : Demand). d.code) (same_Some _ _ (sym there ∙ b.broken)) in
    let owner : f.owner ≡ g.owner = a.owner ∙ ap (λ (k : Key). k.number) same ∙ sym b.owner in
    let part : f.part ≡ g.part = a.part ∙ ap (λ (k : Key). part_of k.place) same ∙ sym b.part in
    λ i. record { code = code i; owner = owner i; part = part i }

-- Of legal rows no fault is the first.
pub no_first_if_legal : (rows : Rows) → IsLegal rows → (f : SchemaFault) → IsFirstIllegal rows f → ⊥
no_first_if_legal rows legal f first = legal.none first.key f.code first.broken
