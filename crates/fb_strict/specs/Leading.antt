-- Which tables lead to an object, as chains have it that are followed backwards from the object.
use Rattle.std.specs.Prelude.{◌≡◌, ◌⊎◌, ◌+◌, ◌^◌, ◌<◌, ◌≤◌, ℕ, List, [], ◌∷◌, length, slice_get, slice_index_or, Some, false, IsTrue}
use Rattle.fb_schema.specs.declared.kinds.Kind.{Kind, TheVariants.Table, TheVariants.Union, TheVariants.Tables, TheVariants.Unions}
use Rattle.fb_schema.specs.{Rows.Rows, Rows.is_union, Live.Live, Live.live_fields, Members.member_of}
use Rattle.fb_strict.specs.declared.{demands.Demands.Demands, leads.Edge.Edge, leads.Ends.Ends, leads.Ends.TheVariants.Objects, leads.Ends.TheVariants.Enums}

-- a member of a union whose value is below n is a table of the object t
abbrev pub MemberLeads : Rows → (e n t : ℕ) → Type 0
MemberLeads S e n t = (value : ℕ) × (value < n) × (member_of S e value ≡ Some (Table t))

-- a field of this kind leads to tables of the object t: a union's isn't followed where unions are asked themselves
abbrev pub KindLeads : Demands → Rows → Kind → ℕ → Type 0
KindLeads D S (Table k) t = t ≡ k
KindLeads D S (Union e) t = (D.unions ≡ false) × MemberLeads S e 256 t
KindLeads D S (Tables k) t = t ≡ k
KindLeads D S (Unions e) t = (D.unions ≡ false) × MemberLeads S e 256 t
KindLeads D S _ t = ⊥

-- a field of this kind names the object t, or the union t
abbrev pub KindNames : Ends → Kind → ℕ → Type 0
KindNames Objects (Table k) t = t ≡ k
KindNames Objects (Tables k) t = t ≡ k
KindNames Enums (Union e) t = t ≡ e
KindNames Enums (Unions e) t = t ≡ e
KindNames _ _ t = ⊥

-- the union is there that a field of this kind names
abbrev pub KindIsThere : Rows → Kind → Type 0
KindIsThere S (Union e) = IsTrue (is_union S e)
KindIsThere S (Unions e) = IsTrue (is_union S e)
KindIsThere S _ = Unit {0}

-- one of these fields has a kind of which P holds
abbrev pub OneOf : (Kind → ℕ → Type 0) → List Live → ℕ → Type 0
OneOf P [] t = ⊥
OneOf P (f ∷ fs) t = P f.kind t ⊎ OneOf P fs t

-- one of the object k leads to tables of the object t
abbrev pub LeadsTo : Demands → Rows → ℕ → ℕ → Type 0
LeadsTo D S k t = OneOf (KindLeads D S) (live_fields S k) t

-- or names it
abbrev pub Names : Ends → Rows → ℕ → ℕ → Type 0
Names ends S k t = OneOf (KindNames ends) (live_fields S k) t

-- an edge from k is on the chain that begins at the edge before this place; at 0 none begins
pub data IsOn (edges : List Edge) (k : ℕ) : ℕ → Type 0 where
  is_first : (p i : ℕ) (e : Edge) → p ≡ i + 1 → slice_get edges i ≡ Some e → e.from ≡ k → IsOn edges k p
  is_later : (p i : ℕ) (e : Edge) → p ≡ i + 1 → slice_get edges i ≡ Some e → IsOn edges k e.before → IsOn edges k p

-- where the chain of t begins
abbrev pub last_to : List ℕ → ℕ → ℕ
last_to lasts t = slice_index_or lasts t 0

-- an edge from k is on the chain of t
abbrev pub IsFrom : List ℕ → List Edge → ℕ → ℕ → Type 0
IsFrom lasts edges k t = IsOn edges k (last_to lasts t)

-- each chain begins at an edge that is there, and goes on at earlier ones; there are few
pub record IsChained (lasts : List ℕ) (edges : List Edge) : Type 0 where
  pub begins : (t : ℕ) → last_to lasts t ≤ length edges
  pub goes_back : (i : ℕ) (e : Edge) → slice_get edges i ≡ Some e → e.before ≤ i
  pub few : length lasts ≤ 2 ^ 32

-- there are no edges
pub record HasNone (lasts : List ℕ) (edges : List Edge) : Type 0 where
  pub lasts_are : lasts ≡ []
  pub edges_are : edges ≡ []

-- t has a chain, and those that were there begin as they did
pub record Grown (t : ℕ) (lasts lasts' : List ℕ) : Type 0 where
  pub same : (u : ℕ) → last_to lasts' u ≡ last_to lasts u
  pub within : t < length lasts'
  pub few : length lasts ≤ 2 ^ 32 → length lasts' ≤ 2 ^ 32

-- edges from there were added to the chains of those of which P holds
pub record Added (from : ℕ) (P : ℕ → Type 0) (lasts : List ℕ) (edges : List Edge) (lasts' : List ℕ) (edges' : List Edge) : Type 0 where
  pub chained : IsChained lasts' edges'
  pub kept : (k t : ℕ) → IsFrom lasts edges k t → IsFrom lasts' edges' k t
  pub added : (t : ℕ) → P t → IsFrom lasts' edges' from t
  pub only : (k t : ℕ) → IsFrom lasts' edges' k t → IsFrom lasts edges k t ⊎ ((k ≡ from) × P t)

-- edges were added from each k below n to all t of which Q k holds
pub record HaveBelow (Q : ℕ → ℕ → Type 0) (n : ℕ) (lasts : List ℕ) (edges : List Edge) : Type 0 where
  pub chained : IsChained lasts edges
  pub whole : (k t : ℕ) → k < n → Q k t → IsFrom lasts edges k t
  pub only : (k t : ℕ) → IsFrom lasts edges k t → Q k t

-- and from all
pub record Have (Q : ℕ → ℕ → Type 0) (lasts : List ℕ) (edges : List Edge) : Type 0 where
  pub chained : IsChained lasts edges
  pub whole : (k t : ℕ) → Q k t → IsFrom lasts edges k t
  pub only : (k t : ℕ) → IsFrom lasts edges k t → Q k t

-- an edge from the object k is on the chain of the object t; or one is on that of a union, from which one is on the
-- chain of the object t
abbrev pub Leads : (tables : List ℕ) → List Edge → (unions : List ℕ) → List Edge → (members : List ℕ) → List Edge → ℕ → ℕ → Type 0
Leads tables to_tables unions to_unions members to_members k t = IsFrom tables to_tables k t ⊎ ((e : ℕ) × IsFrom unions to_unions k e × IsFrom members to_members e t)

-- exactly the objects lead so to one that lead to it
pub record AreLeads (D : Demands) (S : Rows) (tables : List ℕ) (to_tables : List Edge) (unions : List ℕ) (to_unions : List Edge) (members : List ℕ) (to_members : List Edge) : Type 0 where
  pub of_tables : IsChained tables to_tables
  pub of_unions : IsChained unions to_unions
  pub of_members : IsChained members to_members
  pub whole : (k t : ℕ) → LeadsTo D S k t → Leads tables to_tables unions to_unions members to_members k t
  pub only : (k t : ℕ) → Leads tables to_tables unions to_unions members to_members k t → LeadsTo D S k t
