-- How a field is asked: by what it holds, or else by its kind.
use Rattle.std.proofs.Common.{◌≡◌, ◌⊎◌, inl, inr, ℕ, Option, Some, None, option_map, false, refl, sym, ap, arith}
use Rattle.fb_schema.specs.{declared.kinds.Kind.Kind, declared.kinds.Kind.TheVariants.Scalars, declared.kinds.Scalar.TheVariants.UByte, Rows.Rows, Live.Live}
use Rattle.fb_rules.specs.Order.{◌▷◌}
use Rattle.fb_strict.specs.{declared.tasks.Held.Held, declared.tasks.Ask.Ask, declared.tasks.Ask.TheVariants.Bytes, Holding.held_in, Demanded.held_by, Demanded.held_of}
use Rattle.fb_strict.specs.{Skipped.Wants, Skipped.is_kind_asked, Planned.ask_of, Planned.asked_of, Planned.task_with}

kind_by : (o : Option Held) (kind : Kind) (held : Held) → held_by o kind ≡ Some held → kind ≡ Scalars UByte
kind_by o kind held h = grind arith

pub none_by : (kind : Kind) → held_by None kind ≡ None
none_by kind = grind arith

module _ (w : Wants) (S : Rows) (k : ℕ) (f : Live) where
  -- it holds something
  pub record IsHeld (ask : Ask) : Type 0 where
    pub held : Held
    pub is : held_of w.demands k f ≡ Some held
    pub kind : f.kind ≡ Scalars UByte
    pub same : ask ≡ Bytes held

  -- it is asked by its kind
  pub record IsOfKind (ask : Ask) : Type 0 where
    pub none : held_of w.demands k f ≡ None
    pub is : ask_of w S f.kind ≡ Some ask

  by_held : (o : Option Held) → held_of w.demands k f ≡ o → (ask : Ask) → (option_map Bytes o ▷ ask_of w S f.kind) ≡ Some ask → IsHeld ask ⊎ IsOfKind ask
  by_held (Some held) is ask e = let same : Bytes held ≡ ask = cc in inl (record { held = held; is = is; kind = kind_by (held_in w.demands.holds k f.slot) f.kind held is; same = sym same })
  by_held None is ask e = inr (record { none = is; is = e })

  pub how : (ask : Ask) → asked_of w S k f ≡ Some ask → IsHeld ask ⊎ IsOfKind ask
  how ask e = by_held (held_of w.demands k f) refl ask e

  -- what holds something isn't asked by its kind
  pub not_by_kind : (held : Held) → held_of w.demands k f ≡ Some held → is_kind_asked w S f.kind ≡ false
  not_by_kind held is = ap (is_kind_asked w S) (kind_by (held_in w.demands.holds k f.slot) f.kind held is)

  unheld_by : (o : Option Held) → held_of w.demands k f ≡ o → option_map (task_with f) (option_map Bytes o ▷ ask_of w S f.kind) ≡ None → (held_of w.demands k f ≡ None) × (option_map (task_with f) (ask_of w S f.kind) ≡ None)
  unheld_by (Some held) is h = absurd (cc)
  unheld_by None is h = (is, h)

  -- a field without a task holds nothing
  pub unheld : option_map (task_with f) (asked_of w S k f) ≡ None → (held_of w.demands k f ≡ None) × (option_map (task_with f) (ask_of w S f.kind) ≡ None)
  unheld h = unheld_by (held_of w.demands k f) refl h
