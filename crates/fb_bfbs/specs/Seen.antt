-- What is seen from a place in a schema file.
use Rattle.std.specs.Prelude.{◌≡◌, ℕ, ℤ, List, [], ◌∷◌, Some, option_map}
use Rattle.fb_schema.specs.declared.kinds.{Kind.Kind, Kind.TheVariants.Scalar as AScalar, Kind.TheVariants.Table, Kind.TheVariants.Tables, Scalar.TheVariants.Int}
use Rattle.fb_schema.specs.Live.{Live}
use Rattle.fb_access.specs.{Fitting.numbered, Fitting.next_kind, Denotes.Leads, Denotes.Shown, Held.Placed, declared.step.Step.Step}
use Rattle.fb_access.specs.{declared.step.Step.TheVariants.Field as ToField, Here.IsHere, Here.sure_kind, Here.Shows}
use Rattle.fb_bfbs.specs.{Fixed.fixed, Says.Says, Says.after, Says.AreRows}

-- which steps lead from here to which value
abbrev pub seen : Placed → Says
seen p = Shows (p.sealed).bytes (p.sealed).schema p.spot

-- by the fixed table, a value of this kind is here
pub record IsAt (p : Placed) (kind : Kind) : Type 0 where
  pub by_fixed : (p.sealed).schema ≡ fixed
  pub here : IsHere p.spot kind

-- a table is here whose field of this number is of this kind, and always there
pub record HasField (p : Placed) (number : ℕ) (kind : Kind) : Type 0 where
  pub object : ℕ
  pub at : IsAt p (Table object)
  pub sure : sure_kind fixed (Table object) (ToField number) ≡ Some kind

-- a table is here whose field of this number is an Int with this default
pub record HasInt (p : Placed) (number : ℕ) (default : ℤ) : Type 0 where
  pub object : ℕ
  pub at : IsAt p (Table object)
  pub sure : sure_kind fixed (Table object) (ToField number) ≡ Some (AScalar Int)
  pub default_is : option_map (λ f. f.default) (numbered fixed object number) ≡ Some default

-- a table is here whose field of this number is of this kind, with this default
pub record IsKnown (p : Placed) (number : ℕ) (kind : Kind) (default : ℤ) : Type 0 where
  pub object : ℕ
  pub at : IsAt p (Table object)
  pub live : Live
  pub found : numbered fixed object number ≡ Some live
  pub kind_is : live.kind ≡ kind
  pub default_is : live.default ≡ default

-- a table is here whose field of this number is of this kind, and may be absent
pub record MayHaveField (p : Placed) (number : ℕ) (kind : Kind) : Type 0 where
  pub object : ℕ
  pub at : IsAt p (Table object)
  pub field : next_kind fixed (Table object) (ToField number) ≡ Some kind

-- a vector of tables is here
abbrev pub IsVector : Placed → Type 0
IsVector p = (object : ℕ) × IsAt p (Tables object)

-- a vector of tables is here, each of which lists tables of this object in its field of number 1, which is always there
pub record IsListOfLists (p : Placed) (listed : ℕ) : Type 0 where
  pub object : ℕ
  pub at : IsAt p (Tables object)
  pub sure : sure_kind fixed (Table object) (ToField 1) ≡ Some (Tables listed)

-- one step on, a value of this kind is here
pub record IsOneOn (p : Placed) (s : Step) (r : Placed) (kind : Kind) : Type 0 where
  pub at : IsAt r kind
  pub same : r.sealed ≡ p.sealed
  pub leads : Leads (p.sealed).bytes (p.sealed).schema p.spot s r.spot

-- whatever the first says, the second says
abbrev pub Within : Says → Says → Type 0
Within D E = (steps : List Step) (x : Shown) → D steps x → E steps x

-- what is said after these steps, of which the last stands first
abbrev pub behind : Says → List Step → Says
behind D [] = D
behind D (s ∷ way) = after (behind D way) s

-- a table that is read as this row is here: from wherever steps lead here, the file says such a row behind them
abbrev pub IsRowAt : {R : Type 0} → (Says → R → Type 0) → Placed → R → Type 0
IsRowAt Is q row = (p : Placed) (way : List Step) → Within (seen q) (behind (seen p) way) → Is (behind (seen p) way) row

-- the tables that are read as these rows are the elements of a vector that is here
abbrev pub AreRowsAt : {R : Type 0} → (Says → R → Type 0) → Placed → List R → Type 0
AreRowsAt Is q rows = (p : Placed) (way : List Step) → Within (seen q) (behind (seen p) way) → AreRows Is (behind (seen p) way) rows
