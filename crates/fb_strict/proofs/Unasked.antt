-- A field without a task is asked nothing.
use Rattle.std.proofs.Common.{◌≡◌, None, option_map, Bool, true, false, refl, if◌then◌else◌}
use Rattle.fb_schema.specs.declared.kinds.Kind.{Kind, TheVariants.Scalar, TheVariants.Text, TheVariants.Struct, TheVariants.Table, TheVariants.Union, TheVariants.Scalars}
use Rattle.fb_schema.specs.declared.kinds.Kind.TheVariants.{Texts, Structs, Tables, Unions}
use Rattle.fb_schema.specs.{Rows.Rows, Live.Live}
use Rattle.fb_strict.specs.{Skipped.Wants, Skipped.is_kind_asked, Planned.ask_by, Planned.task_with, Asked.demands_in_fields, Asked.TasksLaw}
use Rattle.fb_strict.proofs.How.{unheld}

-- each kind that is asked has an ask
module _ (w : Wants) (S : Rows) (f : Live) where
  no_task : (kind : Kind) (x : Bool) → is_kind_asked w S kind ≡ x → option_map (task_with f) (if x then ask_by kind else None) ≡ None → x ≡ false
  no_task kind false is h = refl
  no_task (Table k) true is h = absurd (cc)
  no_task (Union e) true is h = absurd (cc)
  no_task (Tables k) true is h = absurd (cc)
  no_task (Unions e) true is h = absurd (cc)
  no_task (Scalar s) true is h = absurd (cc)
  no_task Text true is h = absurd (cc)
  no_task (Struct k) true is h = absurd (cc)
  no_task (Scalars s) true is h = absurd (cc)
  no_task Texts true is h = absurd (cc)
  no_task (Structs k) true is h = absurd (cc)

  pub unasked : option_map (task_with f) (if is_kind_asked w S f.kind then ask_by f.kind else None) ≡ None → is_kind_asked w S f.kind ≡ false
  unasked h = no_task f.kind (is_kind_asked w S f.kind) refl h

pub nothing_asked : TasksLaw
unfolding demands_in_fields
nothing_asked w S f fs ys kids c b via k t none =
    let u = unheld w S k f none in
    let quiet = unasked w S f u.1 in
    rw (u.0, quiet) refl
