-- A schema file and the settings ask at most one thing.
use Rattle.std.proofs.Common.{◌≡◌, ℕ, List, [], ◌∷◌, refl, sym, ◌∙◌, ap, subst, map, Bool, true, false, Option, Some, None, Result, Ok, Err, length}
use mathlib.Core.Logic.{inl, inr}
use Rattle.std.specs.{Borrow.Bor, Global.Global, Prelude.Vec}
use Rattle.fb_schema.specs.Rows.{Rows}
use Rattle.fb_access.specs.{declared.step.Step.Step, declared.path_fault.PathFault.PathFault, Resolving.IsFault, Resolving.Resolves}
use Rattle.fb_access.proofs.OneAnswer.{one_answer}
use Rattle.fb_rules.specs.declared.start.Ident.{Ident}
use Rattle.fb_run.specs.{Job.Job, Job.job_of, Wanted.Wanted}
use Rattle.fb_bfbs.proofs.{OneLoad.one_answer as one_load, OneMarks.marks_once}
use Rattle.fb_bfbs.specs.{ByteFields.HasUnmarked, Marks.Marked, Marks.marked as seen_mark, declared.marks.Builtins.Builtins, declared.load_fault.LoadFault.LoadFault}
use Rattle.fb_bfbs.specs.declared.load_fault.LoadFault.TheVariants as load
use Rattle.fb_bfbs.specs.{LoadLaws.Applies, LoadLaws.IsSameLoad, LoadLaws.ident_bytes, declared.loading.Loaded.Loaded}
use Rattle.fb_strict.specs.Planned.{IsPlan, Planned}
use Rattle.fb_strict.proofs.Marks.{one_plan}
use Rattle.fbcheck_texts.specs.{declared.choices.Settings.Settings, declared.fault.AskFault.AskFault}
use Rattle.fbcheck_texts.specs.declared.fault.AskFault.TheVariants.{Load, Path, NoRoot, NoIdent, UnmarkedBytes, NoSuchTable, OutOfMemory}
use Rattle.fbcheck_serve.specs.Asked.{ArePaths, AsksBy, IsAsked, IsAskedPlan, demanded, demanded_by, IsFound, IsPath, LacksIdent, IsPathFault, HasPathFault, Own, asked_root}
use Rattle.fbcheck_serve.specs.{Asked.options_of, Asked.own_label, Asked.path_texts, Inputs.with_label, CheckLaws.AsksOnce, ByteFields.has_lost, FileMarks.ArePlanMarks}
use Rattle.fbcheck_serve.specs.{FileMarks.IsMarkedFile, FileMarks.schema_limits, Checking.AsksMarks, Checking.HasLostMark, Checking.HasUnmarkedBytes, Checking.MayAsk}
use Rattle.fbcheck_serve.specs.{Checking.IsSchema, Checking.IsNoSchema, Checking.own_of}

module _ (rows : Rows) (root : ℕ) where
  one_path : (text : List ℕ) (x y : Wanted) → IsPath rows root text x → IsPath rows root text y → x ≡ y
  one_path text x y h i =
      let e : Ok x.steps ≡ Ok y.steps = one_answer rows root text (Ok x.steps) (Ok y.steps) h.1 i.1 in
      let same : x.steps ≡ y.steps = cc in
      ap (λ t. record { text = t; steps = x.steps }) (h.0 ∙ sym i.0) ∙ ap (λ s. record { text = y.text; steps = s }) same

  one_paths : (texts : List (List ℕ)) (xs ys : List Wanted) → ArePaths rows root texts xs → ArePaths rows root texts ys → xs ≡ ys
  one_paths [] [] [] h i = refl
  one_paths [] [] (y ∷ ys) h i = absurd i
  one_paths [] (x ∷ xs) ys h i = absurd h
  one_paths (t ∷ texts) [] ys h i = absurd h
  one_paths (t ∷ texts) (x ∷ xs) [] h i = absurd i
  one_paths (t ∷ texts) (x ∷ xs) (y ∷ ys) h i = ap (λ w. w ∷ xs) (one_path t x y h.0 i.0) ∙ ap (λ l. y ∷ l) (one_paths texts xs ys h.1 i.1)

  -- a text that names a path has no fault
  steps_or_fault : (text : List ℕ) (x : List Step) (f : PathFault) → Resolves rows root text x → IsFault rows root text f → ⊥
  steps_or_fault text x f h i = let e : Ok x ≡ Err f = one_answer rows root text (Ok x) (Err f) h i in cc

  paths_or_fault : (texts : List (List ℕ)) (xs : List Wanted) (f : PathFault) → ArePaths rows root texts xs → IsPathFault rows root texts f → ⊥
  paths_or_fault [] xs f h i = i
  paths_or_fault (t ∷ texts) [] f h i = h
  paths_or_fault (t ∷ texts) (x ∷ xs) f h (inl fault) = steps_or_fault t x.steps f h.0.1 fault
  paths_or_fault (t ∷ texts) (x ∷ xs) f h (inr (steps, resolves, rest)) = paths_or_fault texts xs f h.1 rest

  one_path_fault : (texts : List (List ℕ)) (f g : PathFault) → IsPathFault rows root texts f → IsPathFault rows root texts g → f ≡ g
  one_path_fault [] f g h i = absurd h
  one_path_fault (t ∷ texts) f g (inl h) (inl i) = let e : Err f ≡ Err g = one_answer rows root t (Err f) (Err g) h i in cc
  one_path_fault (t ∷ texts) f g (inl h) (inr (steps, resolves, rest)) = absurd (steps_or_fault t steps f resolves h)
  one_path_fault (t ∷ texts) f g (inr (steps, resolves, rest)) (inl i) = absurd (steps_or_fault t steps g resolves i)
  one_path_fault (t ∷ texts) f g (inr (steps, resolves, rest)) (inr (others, leads, more)) = one_path_fault texts f g rest more

-- a job without its plan
same_marks : (file : Option (Bor (List ℕ))) (marks others : List Marked) (builtins other : Builtins) → IsMarkedFile file marks builtins → IsMarkedFile file others other
    → (marks ≡ others) × (builtins ≡ other)
same_marks None marks others builtins other h i = absurd h
same_marks (Some bytes) marks others builtins other h i =
    let w = marks_once bytes.now (map seen_mark h.0.fields.items) (map seen_mark i.0.fields.items) h.0.builtins i.0.builtins h.1.says i.1.says in
    (h.2 ∙ w.0 ∙ sym i.2, h.3 ∙ w.1 ∙ sym i.3)

-- where nested buffers may be asked, no field of bytes and no mark keeps them from it
module _ (file : Option (Bor (List ℕ))) (rows : Rows) (settings : Settings) where
  may_or_unmarked : MayAsk file rows settings → HasUnmarkedBytes file rows settings → ⊥
  may_or_unmarked may has =
      let asked = may has.0 in
      let w = same_marks file asked.0 has.1 asked.1 has.2 asked.2 has.3 in
      asked.3.all (subst (λ m. HasUnmarked rows m asked.1) (sym w.0) (subst (λ b. HasUnmarked rows has.1 b) (sym w.1) has.4))

  may_or_lost : MayAsk file rows settings → HasLostMark file rows settings → ⊥
  may_or_lost may has =
      let asked = may has.0 in
      let w = same_marks file asked.0 has.1 asked.1 has.2 asked.2 has.3 in
      let e : true ≡ false = sym has.4.lost ∙ ap (has_lost rows) (sym w.0) ∙ asked.3.found in
      cc

  unmarked_or_lost : HasUnmarkedBytes file rows settings → HasLostMark file rows settings → ⊥
  unmarked_or_lost h i =
      let w = same_marks file h.1 i.1 h.2 i.2 h.3 i.3 in
      i.4.all (subst (λ m. HasUnmarked rows m i.2) w.0 (subst (λ b. HasUnmarked rows h.1 b) w.1 h.4))

-- nor do other marks serve for a plan
same_plan_marks : (file : Option (Bor (List ℕ))) (nested : Bool) (marks others : List Marked) → ArePlanMarks file nested marks → ArePlanMarks file nested others → marks ≡ others
same_plan_marks (Some bytes) true marks others h i = (same_marks (Some bytes) marks others h.0 i.0 h.1 i.1).0
same_plan_marks (Some bytes) false marks others h i = h ∙ sym i
same_plan_marks None nested marks others h i = h ∙ sym i

same_root : (r : Option ℕ) (n m : ℕ) → r ≡ Some n → r ≡ Some m → n ≡ m
same_root r n m e f = let w : Some n ≡ Some m = sym e ∙ f in cc

module _ (rows : Rows) (own : Own) (settings : Settings) where
  abbrev texts : List (List ℕ)
  texts = path_texts settings

  -- a job is the same by the same paths
  same_job : (root : ℕ) (ident : Ident) (plan : Option Planned) (x y : Vec Wanted Global) → x.items ≡ y.items
      → job_of rows (options_of settings root x ident plan) ≡ job_of rows (options_of settings root y ident plan)
  same_job root ident plan x y same = ap (λ (paths : List Wanted). record (job_of rows (options_of settings root x ident plan)) { paths = paths }) same

  same_found : (h i : IsFound rows own settings) (plan : Option Planned) → job_of rows (options_of settings h.root h.paths h.ident plan) ≡ job_of rows (options_of settings i.root i.paths i.ident plan)
  same_found h i plan =
      let r = same_root (asked_root rows own settings) h.root i.root h.root_is i.root_is in
      let s = one_paths rows i.root texts h.paths.items i.paths.items (subst (λ n. ArePaths rows n texts h.paths.items) r h.paths_are) i.paths_are in
      let w : Some h.ident ≡ Some i.ident = sym h.ident_is ∙ i.ident_is in
      let a : h.ident ≡ i.ident = cc in
      ap (λ n. job_of rows (options_of settings n h.paths h.ident plan)) r ∙ same_job i.root h.ident plan h.paths i.paths s
      ∙ ap (λ d. job_of rows (options_of settings i.root i.paths d plan)) a

  same_plan : (file : Option (Bor (List ℕ))) (p q : Option Planned) → IsAskedPlan file rows settings p → IsAskedPlan file rows settings q → p ≡ q
  same_plan file None None h i = refl
  same_plan file None (Some q) h i = let w : true ≡ false = sym i.0 ∙ h in cc
  same_plan file (Some p) None h i = let w : true ≡ false = sym h.0 ∙ i in cc
  same_plan file (Some p) (Some q) h i =
      let w = same_plan_marks file (demanded settings).nested h.1 i.1 h.2 i.2 in
      ap (λ r. Some r) (one_plan rows (demanded_by rows settings i.1) p q (subst (λ m. IsPlan rows (demanded_by rows settings m) p) w h.3) i.3)

  abbrev job_by : IsFound rows own settings → Option Planned → Job
  job_by h plan = with_label (own_label settings) (job_of rows (options_of settings h.root h.paths h.ident plan))

  one_job : (file : Option (Bor (List ℕ))) (x y : Job) → IsAsked file rows own settings x → IsAsked file rows own settings y → x ≡ y
  one_job file x y h i =
      h.job_is ∙ ap (job_by h.found) (same_plan file h.plan i.plan h.plan_is i.plan_is) ∙ ap (λ (j : Job). with_label (own_label settings) j) (same_found h.found i.found i.plan)
      ∙ sym i.job_is

  found_or_fault : (root : ℕ) (paths : List Wanted) (f : PathFault) → asked_root rows own settings ≡ Some root → ArePaths rows root texts paths → HasPathFault rows own settings f → ⊥
  found_or_fault root paths f is are i =
      let r = same_root (asked_root rows own settings) root i.0 is i.1 in
      paths_or_fault rows i.0 texts paths f (rw r at are) i.2

  one_fault_of_path : (f g : PathFault) → HasPathFault rows own settings f → HasPathFault rows own settings g → f ≡ g
  one_fault_of_path f g h i =
      let r = same_root (asked_root rows own settings) h.0 i.0 h.1 i.1 in
      one_path_fault rows i.0 texts f g (subst (λ n. IsPathFault rows n texts f) r h.2) i.2

  -- where there are a root, paths and an identifier, none is missing
  rooted_or_not : (root : ℕ) → asked_root rows own settings ≡ Some root → asked_root rows own settings ≡ None → ⊥
  rooted_or_not root some none = let w : Some root ≡ None = sym some ∙ none in cc

  no_root_found : IsFound rows own settings → asked_root rows own settings ≡ None → ⊥
  no_root_found h none = rooted_or_not h.root h.root_is none

  no_path_found : IsFound rows own settings → (f : PathFault) → HasPathFault rows own settings f → ⊥
  no_path_found h f i = found_or_fault h.root h.paths.items f h.root_is h.paths_are i

  no_ident_found : IsFound rows own settings → LacksIdent rows own settings → ⊥
  no_ident_found h i = let w : Some h.ident ≡ None = sym h.ident_is ∙ i.none in cc

-- what is asked by these rows, with what is asked of a file's marks
abbrev AsksAll : Option (Bor (List ℕ)) → Rows → Own → Settings → Result Job AskFault → Type 0
AsksAll file rows own settings answer = AsksBy file rows own settings answer × AsksMarks file rows settings answer

module _ (file : Option (Bor (List ℕ))) (rows : Rows) (own : Own) (settings : Settings) where
  asks_by_once : (x y : Result Job AskFault) → AsksAll file rows own settings x → AsksAll file rows own settings y → x ≡ y
  asks_by_once (Ok x) (Ok y) h i = ap (λ j. Ok j) (one_job rows own settings file x y h.0 i.0)
  asks_by_once (Ok x) (Err NoRoot) h i = absurd (no_root_found rows own settings h.0.found i.0)
  asks_by_once (Ok x) (Err (Path g)) h i = absurd (no_path_found rows own settings h.0.found g i.0)
  asks_by_once (Ok x) (Err NoIdent) h i = absurd (no_ident_found rows own settings h.0.found i.0)
  asks_by_once (Ok x) (Err UnmarkedBytes) h i = absurd (may_or_unmarked file rows settings h.1 i.1)
  asks_by_once (Ok x) (Err NoSuchTable) h i = absurd (may_or_lost file rows settings h.1 i.1)
  asks_by_once (Err NoRoot) (Ok y) h i = absurd (no_root_found rows own settings i.0.found h.0)
  asks_by_once (Err NoRoot) (Err NoRoot) h i = refl
  asks_by_once (Err NoRoot) (Err (Path g)) h i = absurd (rooted_or_not rows own settings (i.0).0 (i.0).1 h.0)
  asks_by_once (Err NoRoot) (Err NoIdent) h i = absurd (rooted_or_not rows own settings (i.0).root (i.0).root_is h.0)
  asks_by_once (Err NoRoot) (Err UnmarkedBytes) h i = absurd (no_root_found rows own settings i.0 h.0)
  asks_by_once (Err NoRoot) (Err NoSuchTable) h i = absurd (no_root_found rows own settings i.0 h.0)
  asks_by_once (Err (Path f)) (Ok y) h i = absurd (no_path_found rows own settings i.0.found f h.0)
  asks_by_once (Err (Path f)) (Err NoRoot) h i = absurd (rooted_or_not rows own settings (h.0).0 (h.0).1 i.0)
  asks_by_once (Err (Path f)) (Err (Path g)) h i = ap (λ f. Err (Path f)) (one_fault_of_path rows own settings f g h.0 i.0)
  asks_by_once (Err (Path f)) (Err NoIdent) h i = absurd (found_or_fault rows own settings (i.0).root (i.0).paths f (i.0).root_is (i.0).paths_are h.0)
  asks_by_once (Err (Path f)) (Err UnmarkedBytes) h i = absurd (no_path_found rows own settings i.0 f h.0)
  asks_by_once (Err (Path f)) (Err NoSuchTable) h i = absurd (no_path_found rows own settings i.0 f h.0)
  asks_by_once (Err NoIdent) (Ok y) h i = absurd (no_ident_found rows own settings i.0.found h.0)
  asks_by_once (Err NoIdent) (Err NoRoot) h i = absurd (rooted_or_not rows own settings (h.0).root (h.0).root_is i.0)
  asks_by_once (Err NoIdent) (Err (Path g)) h i = absurd (found_or_fault rows own settings (h.0).root (h.0).paths g (h.0).root_is (h.0).paths_are i.0)
  asks_by_once (Err NoIdent) (Err NoIdent) h i = refl
  asks_by_once (Err NoIdent) (Err UnmarkedBytes) h i = absurd (no_ident_found rows own settings i.0 h.0)
  asks_by_once (Err NoIdent) (Err NoSuchTable) h i = absurd (no_ident_found rows own settings i.0 h.0)
  asks_by_once (Err UnmarkedBytes) (Ok y) h i = absurd (may_or_unmarked file rows settings i.1 h.1)
  asks_by_once (Err UnmarkedBytes) (Err NoRoot) h i = absurd (no_root_found rows own settings h.0 i.0)
  asks_by_once (Err UnmarkedBytes) (Err (Path g)) h i = absurd (no_path_found rows own settings h.0 g i.0)
  asks_by_once (Err UnmarkedBytes) (Err NoIdent) h i = absurd (no_ident_found rows own settings h.0 i.0)
  asks_by_once (Err UnmarkedBytes) (Err UnmarkedBytes) h i = refl
  asks_by_once (Err UnmarkedBytes) (Err NoSuchTable) h i = absurd (unmarked_or_lost file rows settings h.1 i.1)
  asks_by_once (Err NoSuchTable) (Ok y) h i = absurd (may_or_lost file rows settings i.1 h.1)
  asks_by_once (Err NoSuchTable) (Err NoRoot) h i = absurd (no_root_found rows own settings h.0 i.0)
  asks_by_once (Err NoSuchTable) (Err (Path g)) h i = absurd (no_path_found rows own settings h.0 g i.0)
  asks_by_once (Err NoSuchTable) (Err NoIdent) h i = absurd (no_ident_found rows own settings h.0 i.0)
  asks_by_once (Err NoSuchTable) (Err UnmarkedBytes) h i = absurd (unmarked_or_lost file rows settings i.1 h.1)
  asks_by_once (Err NoSuchTable) (Err NoSuchTable) h i = refl
  asks_by_once (Err (Load f)) y h i = absurd h.0
  asks_by_once (Err OutOfMemory) y h i = absurd h.0
  asks_by_once x (Err _) h i = absurd i.0

-- a file that gives no schema has that fault
as_fault : (bytes : Bor (List ℕ)) (f : LoadFault) → IsNoSchema (Some bytes) f → Applies bytes.now (schema_limits (length bytes.now)) (Err f)
as_fault bytes load.OutOfMemory h = absurd h
as_fault bytes _ h = h

schema_or_none : (file : Option (Bor (List ℕ))) (rows : Rows) (own : Own) (f : LoadFault) → IsSchema file rows own → IsNoSchema file f → ⊥
schema_or_none None rows own f h i = i
schema_or_none (Some bytes) rows own f h i = one_load bytes.now (schema_limits (length bytes.now)) (Ok h.0) (Err f) h.1 (as_fault bytes f i)

one_no_schema : (file : Option (Bor (List ℕ))) (f g : LoadFault) → IsNoSchema file f → IsNoSchema file g → f ≡ g
one_no_schema None f g h i = absurd h
one_no_schema (Some bytes) f g h i = one_load bytes.now (schema_limits (length bytes.now)) (Err f) (Err g) (as_fault bytes f h) (as_fault bytes g i)

same_rows : (file : Option (Bor (List ℕ))) (rows others : Rows) (own other : Own) → IsSchema file rows own → IsSchema file others other → rows ≡ others
same_rows None rows others own other h i = h.0 ∙ sym i.0
same_rows (Some bytes) rows others own other h i =
    let e = one_load bytes.now (schema_limits (length bytes.now)) (Ok h.0) (Ok i.0) h.1 i.1 in
    h.2 ∙ e.schema ∙ sym i.2

same_own_of : (x y : Loaded) → IsSameLoad x y → own_of x ≡ own_of y
same_own_of x y same =
    ap (λ r. record { root = r; ident = ident_bytes x.ident }) same.root ∙ ap (λ t. record { root = y.root; ident = t }) same.ident

same_own : (file : Option (Bor (List ℕ))) (rows others : Rows) (own other : Own) → IsSchema file rows own → IsSchema file others other → own ≡ other
same_own None rows others own other h i = h.1 ∙ sym i.1
same_own (Some bytes) rows others own other h i =
    let e = one_load bytes.now (schema_limits (length bytes.now)) (Ok h.0) (Ok i.0) h.1 i.1 in
    h.3 ∙ same_own_of h.0 i.0 e ∙ sym i.3

-- what is asked by the rows of a file
abbrev AsksOf : Option (Bor (List ℕ)) → Settings → Result Job AskFault → Type 0
AsksOf file settings answer = (rows : Rows) × (own : Own) × IsSchema file rows own × AsksBy file rows own settings answer × AsksMarks file rows settings answer

of_one_file : (file : Option (Bor (List ℕ))) (settings : Settings) (x y : Result Job AskFault) → AsksOf file settings x → AsksOf file settings y → x ≡ y
of_one_file file settings x y h i =
    let r = same_rows file h.0 i.0 h.1 i.1 h.2 i.2 in
    let o = same_own file h.0 i.0 h.1 i.1 h.2 i.2 in
    asks_by_once file i.0 i.1 settings x y (subst (λ own. AsksAll file i.0 own settings x) o (subst (λ rows. AsksAll file rows h.1 settings x) r (h.3, h.4))) (i.3, i.4)

pub asks_once : AsksOnce
asks_once file settings (Err (Load f)) (Err (Load g)) h i = ap (λ f. Err (Load f)) (one_no_schema file f g h i)
asks_once file settings (Err (Load f)) y h i = absurd (schema_or_none file i.0 i.1 f i.2 h)
asks_once file settings x (Err (Load g)) h i = absurd (schema_or_none file h.0 h.1 g h.2 i)
asks_once file settings x y h i = of_one_file file settings x y h i
