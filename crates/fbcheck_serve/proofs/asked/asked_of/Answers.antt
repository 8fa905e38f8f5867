use Rattle.std.proofs.Common.{List, Option, ap, ℕ, rules, subst, sym, ◌∙◌}
use Rattle.fbcheck_texts.specs.declared.{fault.AskFault.TheVariants.NoRoot}
use Rattle.fbcheck_serve.specs.{Asked.IsFound, Asked.LacksIdent, Asked.options_of, Inputs.label_of, Inputs.with_label, Checking.LacksJob, Checking.own_of}
use Rattle.fb_run.specs.Job.{Serves, job_of}
use Rattle.fb_run.proofs.RunLemmas.{err_is}
use Rattle.fbcheck_serve.proofs.{AskedLemmas.path_untold, AskedLemmas.planless_untold, AskedLemmas.planned, ByteLemmas.hinted}
use Rattle.fbcheck_serve.proofs.asked.asked_of.Goals as goal

pub returns-clause-job : goal.returns-clause-job
returns-clause-job c =
    let loaded = c.in-Ok.loaded in
    let found : IsFound loaded.schema (own_of loaded) c.args.settings.now = record {
      root = c.in-Some.root;
      root_is = sym c.find_root.ensures.number ∙ c.in-Some.is;
      paths = c.in_ok-paths.paths;
      paths_are = rw c.as_slice.ensures.value at c.in_ok-paths.ensures.paths;
      ident = c.in-Some-find_ident.ident;
      ident_is = sym (c.find_ident.ensures loaded.root) ∙ c.in-Some-find_ident.is;
    } in (
      loaded.schema,
      own_of loaded,
      c.in-Ok.ensures.schema,
      record {
        found = found;
        plan = c.in_ok-plan.plan;
        plan_is = c.in_ok-plan.ensures.plan;
        job_is = ap (job_of loaded.schema) c.options-options.ensures ∙ ap (λ (label : Option (List ℕ)). with_label label (job_of loaded.schema (options_of c.args.settings.now c.in-Some.root c.in_ok-paths.paths
            c.in-Some-find_ident.ident c.in_ok-plan.plan))) (c.in-Ok-label.ensures ∙ ap (λ (name : List ℕ). label_of c.args.settings.now.with_filename name) c.as_bytes.ensures.value);
      },
      c.in_ok-plan.ensures.may,
    )

pub returns-in_default-find_ident-clause-none : goal.returns-in_default-find_ident-clause-none
returns-in_default-find_ident-clause-none c =
    let loaded = c.in-Ok.loaded in
    let lacks : LacksIdent loaded.schema (own_of loaded) c.args.settings.now = record {
      root = c.in-Some.root;
      root_is = sym c.find_root.ensures.number ∙ c.in-Some.is;
      paths = c.in_ok-paths.paths.items;
      paths_are = rw c.as_slice.ensures.value at c.in_ok-paths.ensures.paths;
      none = sym (c.find_ident.ensures loaded.root) ∙ search rules;
    } in
    rw c.plain.ensures (loaded.schema, own_of loaded, c.in-Ok.ensures.schema, lacks, tt)

pub returns-in-Err-clause-none : goal.returns-in-Err-clause-none
returns-in-Err-clause-none c = c.schemaless.ensures

pub returns-in_err-paths-clause-none : goal.returns-in_err-paths-clause-none
returns-in_err-paths-clause-none c =
    let loaded = c.in-Ok.loaded in
    rw (err_is _ _ c.from_residual.ensures.1)
    (path_untold c.args.schema_bytes c.args.settings.now loaded.schema (own_of loaded) c.in-Some.root _ c.in-Ok.ensures.schema
    (sym c.find_root.ensures.number ∙ c.in-Some.is) (rw c.as_slice.ensures.value at c.in_err-paths.ensures.none))

pub plan_of-requires : goal.plan_of-requires
plan_of-requires c = (own_of c.in-Ok.loaded, c.in-Ok.ensures.schema)

pub returns-in_err-plan-clause-none : goal.returns-in_err-plan-clause-none
returns-in_err-plan-clause-none c =
    let loaded = c.in-Ok.loaded in
    let found : IsFound loaded.schema (own_of loaded) c.args.settings.now = record {
      root = c.in-Some.root;
      root_is = sym c.find_root.ensures.number ∙ c.in-Some.is;
      paths = c.in_ok-paths.paths;
      paths_are = rw c.as_slice.ensures.value at c.in_ok-paths.ensures.paths;
      ident = c.in-Some-find_ident.ident;
      ident_is = sym (c.find_ident.ensures loaded.root) ∙ c.in-Some-find_ident.is;
    } in
    rw (err_is _ _ c.from_residual-in_err-plan.ensures.1)
    (planless_untold c.args.schema_bytes c.args.settings.now loaded.schema (own_of loaded) _ c.in-Ok.ensures.schema found c.in_err-plan.ensures.no)

pub returns-in_default-clause-none : goal.returns-in_default-clause-none
returns-in_default-clause-none c =
    hinted (LacksJob c.args.schema_bytes c.args.settings.now) NoRoot c.new.result.fault c.root_hint-hint.result c.new.ensures
    (c.in-Ok.loaded.schema, own_of c.in-Ok.loaded, c.in-Ok.ensures.schema, sym c.find_root.ensures.number ∙ c.in_default.is, tt) tt

pub returns-in_default-label-clause-none : goal.returns-in_default-label-clause-none
returns-in_default-label-clause-none c = rw c.plain-in_default-label.ensures tt

pub returns-clause-serves : goal.returns-clause-serves
returns-clause-serves c =
    subst (Serves c.in-Ok.loaded.schema) (sym c.options-options.ensures) (record {
      table = c.in-Some.ensures.table;
      fits = c.in_ok-paths.ensures.fits;
      few = rw (c.in_ok-paths.ensures.count, c.as_slice.ensures.value) c.requires.few;
      terms = c.requires.terms;
      planned = planned c.args.schema_bytes c.in-Ok.loaded.schema c.args.settings.now c.in_ok-plan.plan c.in_ok-plan.ensures.plan;
    })

pub returns-clause-head : goal.returns-clause-head
returns-clause-head c = c.in_ok-head.ensures.head c.in-Ok.loaded.schema

pub returns-in_err-head-clause-none : goal.returns-in_err-head-clause-none
returns-in_err-head-clause-none c =
    rw (err_is _ _ c.from_residual-in_err-head.ensures.1)
    (rw c.in_err-head.ensures.none tt)
