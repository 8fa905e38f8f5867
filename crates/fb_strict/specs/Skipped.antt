-- The objects of which nothing is asked: nothing that is demanded is reached from a table of them.
use Rattle.std.specs.Prelude.{◌≡◌, ℕ, zero, suc, ◌||◌, Bool, true, false, List, Option, Some, is_some}
use Rattle.std.specs.List.{list_any}
use Rattle.fb_schema.specs.declared.kinds.Kind.{Kind, TheVariants.Text, TheVariants.Table, TheVariants.Union, TheVariants.Texts, TheVariants.Tables, TheVariants.Unions}
use Rattle.fb_schema.specs.{Rows.Rows, Live.Live, Live.live_fields, Members.member_of}
use Rattle.fb_rules.specs.{declared.checks.Checks.Checks, Tree.Tree, Unfolds.Unfolds}
use Rattle.fb_strict.specs.{Demanded.Demanded, Demanded.held_of, Strict.IsStrict}

-- what is wanted of the buffers of a schema: what is demanded of them, and which objects are asked
pub record Wants : Type 0 where
  pub demands : Demanded
  pub asks : ℕ → Bool

-- whether what a member of this kind is, is asked
abbrev pub is_member_asked : Wants → Option Kind → Bool
is_member_asked w (Some (Table k)) = w.asks k
is_member_asked w (Some Text) = w.demands.utf8
is_member_asked w _ = false

-- whether one of the members of a union is whose values are below n
unfoldable pub some_member : Wants → Rows → (e n : ℕ) → Bool
some_member w S e zero = false
some_member w S e (suc n) = is_member_asked w (member_of S e n) || some_member w S e n

-- whether a field of this kind is asked, or leads to what is
abbrev pub is_kind_asked : Wants → Rows → Kind → Bool
is_kind_asked w S Text = w.demands.utf8
is_kind_asked w S (Table k) = w.asks k
is_kind_asked w S (Union e) = w.demands.unions || some_member w S e 256
is_kind_asked w S Texts = w.demands.utf8
is_kind_asked w S (Tables k) = w.asks k
is_kind_asked w S (Unions e) = w.demands.unions || some_member w S e 256
is_kind_asked w S _ = false

-- whether a live field of the object k holds something
abbrev pub has_held : Demanded → Rows → ℕ → Bool
has_held D S k = list_any (λ (f : Live). is_some (held_of D k f)) (live_fields S k)

-- whether one is asked
abbrev pub has_asked : Wants → Rows → ℕ → Bool
has_asked w S k = list_any (λ (f : Live). is_kind_asked w S f.kind) (live_fields S k) || has_held w.demands S k

-- an object that isn't asked has no field that is, nor are its slots
abbrev pub IsClosed : Wants → Rows → Type 0
IsClosed w S = (k : ℕ) → w.asks k ≡ false → (w.demands.known_fields ≡ false) × (has_asked w S k ≡ false)

-- so a tree of it is strict
abbrev pub SkipLaw : Type 0
SkipLaw = (w : Wants) (S : Rows) → IsClosed w S → (y : Tree) (c : Checks) (b : List ℕ) (k t : ℕ) → w.asks k ≡ false → Unfolds y c b S k t → IsStrict y w.demands c b S

-- whether anything that is demanded of fields is about a table of the object k, or about one to which it leads by fewer
-- than n fields
unfoldable pub reaches_demand : ℕ → Demanded → Rows → ℕ → Bool
reaches_demand zero D S k = false
reaches_demand (suc n) D S k = has_asked (record { demands = D; asks = reaches_demand n D S }) S k

-- by any number of them
abbrev pub ReachesDemand : Demanded → Rows → ℕ → Type 0
ReachesDemand D S k = (n : ℕ) × (reaches_demand n D S k ≡ true)
