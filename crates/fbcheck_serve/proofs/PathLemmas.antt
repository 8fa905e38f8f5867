-- Texts that name paths, one after another.
use Rattle.std.proofs.Common.{◌≡◌, ℕ, ◌+◌, ◌<◌, suc, List, [], ◌∷◌, ◌++◌, length, take, drop, drop-cons, get_or, map, refl, sym, ap, ◌∙◌, take-append-drop}
use mathlib.Core.Logic.{inl, inr}
use Rattle.std.specs.Prelude.{String, string_bytes}
use Rattle.std.specs.Global.{Global}
use Rattle.std.proofs.lemmas.List.{map-append, take_more}
use Rattle.fb_access.specs.{Resolving.IsFault, declared.path_fault.PathFault.PathFault}
use Rattle.fb_schema.specs.Rows.{Rows}
use Rattle.fb_run.specs.Wanted.{Wanted}
use Rattle.fb_run.proofs.FoundLemmas.{both_more}
use Rattle.fbcheck_texts.specs.declared.fault.AskFault.{AskFault}
use Rattle.fbcheck_texts.specs.declared.fault.AskFault.TheVariants.{OutOfMemory, Path}
use Rattle.fbcheck_serve.specs.{Asked.ArePaths, Asked.IsPath, Asked.IsPathFault, Asked.PathFails, Checking.IsPathless}

module _ (rows : Rows) (root : ℕ) where
  -- the next text fails, behind those that name paths
  fails_at : (before : List (List ℕ)) (paths : List Wanted) (text : List ℕ) (after : List (List ℕ)) (fault : PathFault)
      → ArePaths rows root before paths → IsFault rows root text fault → IsPathFault rows root (before ++ text ∷ after) fault
  fails_at [] paths text after fault h is = inl is
  fails_at (t ∷ before) [] text after fault h is = absurd h
  fails_at (t ∷ before) (p ∷ paths) text after fault h is = inr (p.steps, h.0.1, fails_at before paths text after fault h.1 is)

  module _ (texts : List (String Global)) (i : ℕ) (text : String Global) (inside : i < length texts) (is : text ≡ get_or texts i text) where
    all_texts : map string_bytes texts ≡ map string_bytes (take i texts) ++ string_bytes text ∷ map string_bytes (drop (suc i) texts)
    all_texts =
        ap (map string_bytes) (sym (take-append-drop i texts)) ∙ map-append string_bytes (take i texts) (drop i texts)
        ∙ rw (drop-cons texts i text inside, ← is) refl

    -- it fails
    pub path_told : (paths : List Wanted) (fault : AskFault) → ArePaths rows root (map string_bytes (take i texts)) paths → PathFails rows root (string_bytes text) fault
        → IsPathless rows root (map string_bytes texts) fault
    path_told paths (Path fault) h fails = rw all_texts (fails_at (map string_bytes (take i texts)) paths (string_bytes text) (map string_bytes (drop (suc i) texts)) fault h fails)
    path_told paths OutOfMemory h fails = tt
    path_told paths _ h fails = absurd fails

    -- or names the next path
    pub paths_more : (paths paths' : List Wanted) (path : Wanted) → ArePaths rows root (map string_bytes (take i texts)) paths → IsPath rows root (string_bytes text) path
        → paths' ≡ paths ++ path ∷ [] → ArePaths rows root (map string_bytes (take (i + 1) texts)) paths'
    paths_more paths paths' path h leads added =
        rw (take_more texts i text inside, ← is, map-append string_bytes (take i texts) (text ∷ []), added)
        (both_more (IsPath rows root) (map string_bytes (take i texts)) paths (string_bytes text) path h leads)
