-- What is answered in the room of a handle, or where it holds none.
use Rattle.std.proofs.Common.{◌≡◌, ℕ, List, Option, Some, None, option_map, sym, subst, ap, ◌∙◌}
use Rattle.fbcheck_calls.specs.{Answered.levels, Bases.Based, Placed.IsLocated, Placed.IsLocatedBy, Reached.IsRead, Reached.IsReadBy, declared.outcome.Outcome.Outcome}
use Rattle.fbcheck_calls.specs.declared.{held.Held.Held, held.Held.TheVariants.Schema, options.Options.Options, steps.PlainPath.PlainPath, values.Value.Value}

-- the levels of what was taken out of a handle, and of a handle that held nothing
module _ {B : Type 0} (value : B → Held) (taken : Option B) (inside : Option Held) (are : option_map value taken ≡ inside) where
  pub levels_taken : (box : B) (now held : Held) → taken ≡ Some box → now ≡ value box → now ≡ held → levels inside ≡ levels (Some held)
  levels_taken box now held is lent holds = ap levels (sym are ∙ ap (option_map value) is ∙ ap Some (sym lent ∙ holds))

  pub levels_of_none : taken ≡ None → levels inside ≡ 64
  levels_of_none is = ap levels (sym are ∙ ap (option_map value) is)

-- in as much room by a schema, what was read, and what was located
module _ (held : Held) (s : Based) (room n : ℕ) (by_schema : held ≡ Schema s) (so_many : room ≡ n) (o : Options) (b : List ℕ) (a : Outcome) where
  pub read_by : (paths : List PlainPath) (values values' : List Value) → IsRead s n o b paths values values' a → IsReadBy held room o b paths values values' a
  read_by paths values values' read =
      subst (λ (h : Held). IsReadBy h room o b paths values values' a) (sym by_schema) (subst (λ m. IsRead s m o b paths values values' a) (sym so_many) read)

  pub located_by : (text text' : List ℕ) (written : ℕ) → IsLocated s n o b text text' 0 written a → IsLocatedBy held room o b text text' written a
  located_by text text' written located =
      subst (λ (h : Held). IsLocatedBy h room o b text text' written a) (sym by_schema) (subst (λ m. IsLocated s m o b text text' 0 written a) (sym so_many) located)
