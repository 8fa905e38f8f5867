-- The root table of the fixed table, and paths that are none.
use Rattle.std.proofs.Common.{◌≡◌, IfSome, IsTrue, inl, ℕ, List, None, Option, Some, refl, sym, subst}
use Rattle.std.proofs.KnownBytes.{Keeps-refl}
use Rattle.std.specs.Prelude.{Err, Ok}
use Rattle.std.specs.Borrow.{Bor}
use Rattle.fb_schema.specs.Rows.{Rows, is_table}
use Rattle.fb_rules.specs.Bounds.{Bounds}
use Rattle.fb_strict.specs.Planned.{IsPlan, Planned}
use Rattle.fb_bfbs.specs.{Fixed.fixed, Loads.IsLoaded, Marks.IsMarksFault, declared.load_fault.LoadFault.LoadFault, declared.loading.Loaded.Loaded}
use Rattle.fb_bfbs.specs.declared.load_fault.LoadFault.TheVariants as load
use Rattle.fb_bfbs.proofs.OneLoad.{one_answer as one_load}
use Rattle.fb_run.specs.Ends.{Ends}
use Rattle.fbcheck_texts.specs.declared.fault.AskFault.{AskFault, TheVariants.NoSuchTable, TheVariants.OutOfMemory, TheVariants.Path, TheVariants.UnmarkedBytes}
use Rattle.fbcheck_texts.specs.declared.choices.Settings.{Settings}
use Rattle.fbcheck_serve.specs.Asked.{IsAskedPlan, IsFound, Own, asked_root, path_texts}
use Rattle.fbcheck_serve.specs.{Checking.IsIdle, Checking.IsPathless, Checking.IsPlanless, Checking.IsSchema, Checking.LacksJob}

-- the table Schema of the fixed table is a table
pub schema_is_table : (rows : Rows) → rows ≡ fixed → IsTrue (is_table rows 9)
unfolding fixed
schema_is_table rows is = subst (λ (r : Rows). IsTrue (is_table r 9)) (sym is) refl

-- a path that is none leaves nothing to check by
pub path_untold : (file : Option (Bor (List ℕ))) (settings : Settings) (rows : Rows) (own : Own) (root : ℕ) (fault : AskFault) → IsSchema file rows own
    → asked_root rows own settings ≡ Some root → IsPathless rows root (path_texts settings) fault → LacksJob file settings fault
path_untold file settings rows own root (Path fault) schema is fails = (rows, own, schema, (root, is, fails), tt)
path_untold file settings rows own root OutOfMemory schema is fails = tt
path_untold file settings rows own root _ schema is fails = absurd fails

-- nor do marks that keep strict checks from being made
pub planless_untold : (file : Option (Bor (List ℕ))) (settings : Settings) (rows : Rows) (own : Own) (fault : AskFault) → IsSchema file rows own → IsFound rows own settings
    → IsPlanless file rows settings fault → LacksJob file settings fault
planless_untold file settings rows own UnmarkedBytes schema found has = (rows, own, schema, found, has)
planless_untold file settings rows own NoSuchTable schema found has = (rows, own, schema, found, has)
planless_untold file settings rows own OutOfMemory schema found has = tt
planless_untold file settings rows own _ schema found has = absurd has

-- a plan that is asked is that of the rows
pub planned : (file : Option (Bor (List ℕ))) (rows : Rows) (settings : Settings) (plan : Option Planned) → IsAskedPlan file rows settings plan → IfSome plan (λ p. IsPlan rows p.demands p)
planned file rows settings None asked = tt
planned file rows settings (Some plan) asked = subst (λ D. IsPlan rows D plan) (sym asked.3.demands) asked.3

-- a file that was loaded has no fault that keeps its marks from being read
pub marks_read : (b : List ℕ) (L : Bounds) (loaded : Loaded) (f : LoadFault) → IsLoaded b L loaded → IsMarksFault b L f → (f ≡ load.OutOfMemory → ⊥) → ⊥
marks_read b L loaded load.OutOfMemory h i other = other refl
marks_read b L loaded load.TooMuchShared h i other =
    one_load b L (Ok loaded) (Err load.TooMuchShared) h (record { file = i.file; budget = i.budget; over = inl (i.many.rows, i.many.has, i.many.many) })
marks_read b L loaded (load.BadSchema fault) h i other = i
marks_read b L loaded load.RootNotListed h i other = i
marks_read b L loaded (load.NotWellFormed fault) h i other = one_load b L (Ok loaded) (Err (load.NotWellFormed fault)) h i
marks_read b L loaded load.TooLong h i other = one_load b L (Ok loaded) (Err load.TooLong) h i

-- nothing happened
pub idle : (ends : Ends) → IsIdle ends ends
idle ends = (Keeps-refl ends.reader.left, (Keeps-refl ends.outs.writer.bytes, Keeps-refl ends.outs.notes.bytes, Keeps-refl ends.outs.rejects.bytes))
