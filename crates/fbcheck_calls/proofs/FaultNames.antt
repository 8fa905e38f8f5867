-- The names of faults by the numbers that are told of them.
use Rattle.std.proofs.Common.{◌≡◌, ◌≢◌, ℕ, refl, sym, ap, ◌∙◌, Bool, true, false, not, ◌&&◌, ◌==◌, List, [], ◌∷◌, map, slice_get, Option, Some, None}
use Rattle.std.proofs.lemmas.Bool.{false≢true}
use Rattle.fb_access.specs.{PathCodes.path_code, declared.path_fault.PathFault.PathFault}
use Rattle.fb_access.specs.declared.path_fault.PathFault.TheVariants as path
use Rattle.fb_bfbs.specs.Codes.{code_text}
use Rattle.fb_bfbs.specs.declared.load_fault.LoadFault.TheVariants as load
use Rattle.fb_bytes.specs.declared.stream_fault.StreamFault.TheVariants as stream
use Rattle.fb_schema.specs.declared.fault.Code.{Code, TheVariants.NoSuchObject, TheVariants.NoSuchEnum, TheVariants.Unsupported, TheVariants.BadSlot, TheVariants.NoTypeField}
use Rattle.fb_schema.specs.declared.fault.Code.TheVariants.{BadStruct, BadMember, NameTwice, OutOfMemory as NoMemory}
use Rattle.fb_rules.specs.{Reasons.reason_number, Reasons.reason_text, Reasons.reasons, declared.fault.Reason.Reason, declared.fault.Reason.TheVariants.WrongPrefix}
use Rattle.fbcheck_calls.specs.{Names.FaultsHaveTheirNames, Names.IsCodeName, Names.IsFaultName, Names.IsPathName, Names.IsReasonName, Told.code_number}
use Rattle.fbcheck_calls.specs.declared.outcome.Outcome.TheVariants.{Bad, NoSchema, BadStream, BadPath}

-- what stands at its number in a list of names is the name of each that has this number
module _ (X : Type 0) (number : X → ℕ) (text : X → List ℕ) (names : List (List ℕ)) (at : (x : X) → slice_get names (number x) ≡ Some (text x)) where
  same_name : (x y : X) → number y ≡ number x → Some (text y) ≡ Some (text x)
  same_name x y e = sym (at y) ∙ (ap (λ n. slice_get names n) e ∙ at x)

abbrev reason_names : List (List ℕ)
reason_names = [] ∷ map reason_text reasons

reason_at : (r : Reason) → slice_get reason_names (reason_number r) ≡ Some (reason_text r)
reason_at WrongPrefix = refl
reason_at _ = refl

reason_named : (r : Reason) (name : Option (List ℕ)) → IsReasonName (reason_number r) name → name ≡ Some (reason_text r)
reason_named r (Some text) h = ap Some h.2 ∙ same_name Reason reason_number reason_text reason_names reason_at r h.0 h.1
reason_named r None h = absurd (h r refl)

abbrev code_names : List (List ℕ)
code_names = [] ∷ map code_text (NoSuchObject ∷ NoSuchEnum ∷ Unsupported ∷ BadSlot ∷ NoTypeField ∷ BadStruct ∷ BadMember ∷ NameTwice ∷ NoMemory ∷ [])

code_at : (c : Code) → slice_get code_names (code_number c) ≡ Some (code_text c)
code_at NoSuchObject = refl
code_at _ = refl

code_named : (c : Code) (name : Option (List ℕ)) → IsCodeName (code_number c) name → name ≡ Some (code_text c)
code_named c (Some text) h = ap Some h.2 ∙ same_name Code code_number code_text code_names code_at c h.0 h.1
code_named c None h = absurd (h c refl)

abbrev path_names : List (List ℕ)
path_names = [] ∷ map (λ (f : PathFault). (path_code f).1) (path.BadText 0 ∷ path.NoSuchField 0 ∷ path.NotIndexable 0 ∷ path.NotAUnion 0 ∷ path.NoSuchMember 0 ∷ path.NotATable 0 ∷ path.OutOfMemory ∷ [])

path_at : (f : PathFault) → slice_get path_names (path_code f).0 ≡ Some (path_code f).1
path_at (path.BadText at) = refl
path_at _ = refl

path_named : (f : PathFault) (name : Option (List ℕ)) → IsPathName (path_code f).0 name → name ≡ Some (path_code f).1
path_named f (Some text) h = ap Some h.2 ∙ same_name PathFault (λ g. (path_code g).0) (λ g. (path_code g).1) path_names path_at f h.0 h.1
path_named f None h = absurd (h f refl)

-- a status with which no fault is told by a number
abbrev is_bare : ℕ → Bool
is_bare s = not (s == 1) && (not (s == 8) && (not (s == 9) && not (s == 17)))

is_not : (k s : ℕ) → is_bare k ≡ false → is_bare s ≡ true → s ≢ k
is_not k s held bare e = false≢true (sym held ∙ (sym (ap is_bare e) ∙ bare))

unnamed : (s n : ℕ) (name : Option (List ℕ)) → is_bare s ≡ true → IsFaultName s n name → name ≡ None
unnamed s n name bare h = h.of_nothing (is_not 1 s refl bare) (is_not 8 s refl bare) (is_not 9 s refl bare) (is_not 17 s refl bare)

pub its_name : FaultsHaveTheirNames
its_name (Bad f) name h = reason_named f.reason name (h.of_buffer refl)
its_name (NoSchema (load.NotWellFormed f)) name h = reason_named f.reason name (h.of_file refl)
its_name (NoSchema (load.BadSchema f)) name h = code_named f.code name (h.of_rows refl)
its_name (BadPath path.OutOfMemory) name h = unnamed 11 0 name refl h
its_name (BadPath f) name h = path_named f name (h.of_text refl)
its_name (NoSchema load.OutOfMemory) name h = unnamed _ 0 name refl h
its_name (BadStream stream.Failed) name h = unnamed _ 0 name refl h
its_name _ name h = unnamed _ 0 name refl h
