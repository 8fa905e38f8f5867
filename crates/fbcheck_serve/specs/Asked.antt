-- What the settings ask, by a schema that has a root table of its own, or none.
use Rattle.std.specs.Prelude.{◌≡◌, ℕ, ◌&&◌, ◌||◌, not, Bool, IsTrue, false, List, Option, Some, None, Result, Ok, Err, Vec, option_map, map, string_bytes, [], ◌∷◌, ◌⊎◌, codes, if◌then◌else◌}
use Rattle.std.specs.{Borrow.Bor, Global.Global, List.AllZip}
use Rattle.fb_schema.specs.Rows.{Rows, table_named}
use Rattle.fb_access.specs.{declared.step.Step.Step, declared.path_fault.PathFault.PathFault, Resolving.Resolves, Resolving.IsFault}
use Rattle.fb_rules.specs.declared.start.Ident.{Ident, TheVariants.Any, TheVariants.Want}
use Rattle.fb_bfbs.specs.{LoadLaws.own_ident, Marks.Marked}
use Rattle.fb_strict.specs.{declared.demands.Demands.Demands, Demanded.Demanded, Demanded.demanded as holding, Holding.holdings_if, Planned.IsPlan, Planned.Planned}
use Rattle.fb_run.specs.{Job.Job, Job.job_of, Wanted.Wanted, declared.options.Rejects.Rejects, declared.options.Options.Options, declared.options.Rejects.TheVariants.Dropped}
use Rattle.fb_run.specs.declared.options.Rejects.TheVariants.{Kept}
use Rattle.fbcheck_texts.specs.{declared.choices.Settings.Settings, declared.fault.AskFault.AskFault}
use Rattle.fbcheck_texts.specs.declared.fault.AskFault.TheVariants.{Path, NoRoot, NoIdent, UnmarkedBytes, NoSuchTable, OutOfMemory}
use Rattle.fbcheck_serve.specs.{FileMarks.ArePlanMarks, Inputs.label_of, Inputs.with_label}

-- the root table: the listed one of the name that is asked for, or else the schema's own
abbrev pub root_of : Rows → Option (List ℕ) → Option ℕ → Option ℕ
root_of rows None own = own
root_of rows (Some name) own = table_named rows name

-- what a schema has of its own: its root table and the bytes of its file identifier, where it declares them
pub record Own : Type 0 where
  pub root : Option ℕ
  pub ident : Option (List ℕ)

-- the root table that the settings ask for
abbrev pub asked_root : Rows → Own → Settings → Option ℕ
asked_root rows own settings = root_of rows (option_map string_bytes settings.root) own.root

-- a text names this path from the root
abbrev pub IsPath : Rows → ℕ → List ℕ → Wanted → Type 0
IsPath rows root text wanted = (wanted.text ≡ text) × Resolves rows root text wanted.steps

-- each text names the path in its place, and there are no others
abbrev pub ArePaths : Rows → ℕ → List (List ℕ) → List Wanted → Type 0
ArePaths rows root = AllZip (IsPath rows root)

-- the first text that names no path from the root has this fault
abbrev pub IsPathFault : Rows → ℕ → List (List ℕ) → PathFault → Type 0
IsPathFault rows root [] fault = ⊥
IsPathFault rows root (text ∷ texts) fault =
    IsFault rows root text fault ⊎ ((steps : List Step) × Resolves rows root text steps × IsPathFault rows root texts fault)

-- the texts of the paths that the settings ask for
abbrev pub path_texts : Settings → List (List ℕ)
path_texts settings = map string_bytes settings.paths.items

-- the identifier that is asked for
abbrev pub ident_of : Option (List ℕ) → Ident
ident_of None = Any
ident_of (Some bytes) = Want bytes

-- the identifier that the settings ask for: the schema's own where they say so, or else that of the settings
abbrev pub asked_ident : Own → Settings → Option Ident
asked_ident own settings = if settings.schema_ident then own_ident own.ident else Some (ident_of settings.ident)

-- whether bad buffers are kept, by whether a file for them is named
abbrev pub rejects_of : {A : Type 0} → Option A → Rejects
rejects_of None = Dropped
rejects_of (Some name) = Kept

-- what the settings ask of each buffer, from this root, with these paths, this identifier and this plan
abbrev pub options_of : Settings → ℕ → Vec Wanted Global → Ident → Option Planned → Options
options_of settings root paths ident plan = record {
  root = root;
  ident = ident;
  paths = paths;
  terms = settings.terms;
  rejects = rejects_of settings.rejects;
  label = None;
  plan = plan;
}

-- what lines of standard input begin with where no file is named: its name, where names are asked for
abbrev pub own_label : Settings → Option (List ℕ)
own_label settings = label_of settings.with_filename (codes "-")

-- the settings ask for a root, paths and an identifier, which there are
pub record IsFound (rows : Rows) (own : Own) (settings : Settings) : Type 0 where
  pub root : ℕ
  pub root_is : asked_root rows own settings ≡ Some root
  pub paths : Vec Wanted Global
  pub paths_are : ArePaths rows root (path_texts settings) paths.items
  pub ident : Ident
  pub ident_is : asked_ident own settings ≡ Some ident

-- what the settings demand of buffers beside the rules of the format
abbrev pub demanded : Settings → Demands
demanded settings = record {
  unions = settings.strict;
  nested = settings.strict && not settings.plain_bytes;
  known_fields = settings.known_fields;
  utf8 = settings.utf8;
}

-- whether they demand anything
abbrev pub is_demanding : Settings → Bool
is_demanding settings = settings.strict || (settings.known_fields || settings.utf8)

-- what is demanded where these marks say what fields hold
abbrev pub demanded_by : Rows → Settings → List Marked → Demanded
demanded_by rows settings marks = holding (demanded settings) (holdings_if (demanded settings) rows marks)

-- where they do, the plan of the rows for that is asked, by the marks of a schema file, and else none
abbrev pub IsAskedPlan : Option (Bor (List ℕ)) → Rows → Settings → Option Planned → Type 0
IsAskedPlan file rows settings None = is_demanding settings ≡ false
IsAskedPlan file rows settings (Some plan) =
    IsTrue (is_demanding settings) × (marks : List Marked) × ArePlanMarks file (demanded settings).nested marks × IsPlan rows (demanded_by rows settings marks) plan

-- the buffers are checked from the root, with the paths, by the identifier and as strictly as the settings ask
pub record IsAsked (file : Option (Bor (List ℕ))) (rows : Rows) (own : Own) (settings : Settings) (job : Job) : Type 0 where
  pub found : IsFound rows own settings
  pub plan : Option Planned
  pub plan_is : IsAskedPlan file rows settings plan
  pub job_is : job ≡ with_label (own_label settings) (job_of rows (options_of settings found.root found.paths found.ident plan))

-- the settings ask for a root and paths, and for the schema's own identifier, which has neither no bytes nor four
pub record LacksIdent (rows : Rows) (own : Own) (settings : Settings) : Type 0 where
  pub root : ℕ
  pub root_is : asked_root rows own settings ≡ Some root
  pub paths : List Wanted
  pub paths_are : ArePaths rows root (path_texts settings) paths
  pub none : asked_ident own settings ≡ None

-- the first of the paths that the settings ask for which is none has this fault from the root
abbrev pub HasPathFault : Rows → Own → Settings → PathFault → Type 0
HasPathFault rows own settings fault =
    (root : ℕ) × (asked_root rows own settings ≡ Some root) × IsPathFault rows root (path_texts settings) fault

-- by these rows and what the schema has of its own, the settings ask that the buffers are checked by a job, or have
-- nothing to check them by; what a schema file's marks are asked comes beside that
abbrev pub AsksBy : Option (Bor (List ℕ)) → Rows → Own → Settings → Result Job AskFault → Type 0
AsksBy file rows own settings (Ok job) = IsAsked file rows own settings job
AsksBy file rows own settings (Err NoRoot) = asked_root rows own settings ≡ None
AsksBy file rows own settings (Err (Path fault)) = HasPathFault rows own settings fault
AsksBy file rows own settings (Err NoIdent) = LacksIdent rows own settings
AsksBy file rows own settings (Err UnmarkedBytes) = IsFound rows own settings
AsksBy file rows own settings (Err NoSuchTable) = IsFound rows own settings
AsksBy file rows own settings (Err _) = ⊥

-- why a text gives no path
abbrev pub PathFails : Rows → ℕ → List ℕ → AskFault → Type 0
PathFails rows root text (Path fault) = IsFault rows root text fault
PathFails rows root text OutOfMemory = Unit {0}
PathFails rows root text _ = ⊥
