-- What is answered of a path, and of the values at the ends of paths.
use Rattle.std.specs.Prelude.{◌≡◌, ℕ, ◌<◌, List, length, Option, None, IsSomeAnd}
use Rattle.fb_schema.specs.declared.kinds.Kind.TheVariants.{Table}
use Rattle.fb_access.specs.{Fitting.StepsFit, Resolving.Resolves, Resolving.Refuses, declared.path_fault.PathFault.PathFault, declared.step.Step.Step}
use Rattle.fb_bfbs.specs.declared.loading.Loaded.{Loaded}
use Rattle.fb_rules.specs.Question.{Question}
use Rattle.fbcheck_calls.specs.{Answered.IsChecked, Answered.IsUnserved, Answered.Serves, Answered.Starts, Asked.AreKnown, Asked.root_asked, Asked.start_asked, Bases.Based}
use Rattle.fbcheck_calls.specs.{Marked.IsEach, Marked.IsFirstMark, Marked.plain_text, Steps.AllFit, Steps.IsFirstMisfit, Steps.IsPathOf, Values.AreValues, declared.outcome.Outcome.Outcome}
use Rattle.fbcheck_calls.specs.declared.{held.Held.Held, held.Held.TheVariants.Schema, held.Held.TheVariants.Room, options.Options.Options, steps.PlainPath.PlainPath, values.Value.Value}
use Rattle.fbcheck_calls.specs.declared.outcome.Outcome.TheVariants.{Done, Good, Bad, UnknownOptions, NoRoot, NoRoom, BadPath, Misfit, TooLong}

-- the text, with [0] for its first [*], resolves from the root to the steps of the path, of which that one stands for each
-- element
pub record ResolvesTo (l : Loaded) (text : List ℕ) (p : PlainPath) (root : ℕ) : Type 0 where
  pub mark : Option ℕ
  pub first_mark : IsFirstMark text mark
  pub path : List Step
  pub resolves : Resolves l.schema root (plain_text text mark) path
  pub fits : StepsFit l.schema (Table root) path
  pub written : IsPathOf path p
  pub each : IsEach l.schema root text mark path p.each

-- it resolves to more steps than there is room for
pub record LacksRoom (l : Loaded) (text : List ℕ) (root : ℕ) : Type 0 where
  pub mark : Option ℕ
  pub first_mark : IsFirstMark text mark
  pub path : List Step
  pub resolves : Resolves l.schema root (plain_text text mark) path
  pub long : 31 < length path

-- it has this fault, or memory ran out
pub record IsRefused (l : Loaded) (text : List ℕ) (fault : PathFault) (root : ℕ) : Type 0 where
  pub mark : Option ℕ
  pub first_mark : IsFirstMark text mark
  pub refuses : Refuses l.schema root (plain_text text mark) fault

-- the path of a text, from the root that the options ask
pub record IsResolved (l : Loaded) (o : Options) (text : List ℕ) (p : PlainPath) : Type 0 where
  pub known : AreKnown o
  pub from : IsSomeAnd (root_asked l o) (ResolvesTo l text p)

-- why there is none
abbrev pub IsUnresolved : Loaded → Options → List ℕ → Outcome → Type 0
IsUnresolved l o text UnknownOptions = AreKnown o → ⊥
IsUnresolved l o text NoRoot = AreKnown o × (root_asked l o ≡ None)
IsUnresolved l o text (BadPath fault) = AreKnown o × IsSomeAnd (root_asked l o) (IsRefused l text fault)
IsUnresolved l o text NoRoom = AreKnown o × IsSomeAnd (root_asked l o) (LacksRoom l text)
IsUnresolved l o text _ = ⊥

-- what is answered of a text, with the path before and after
abbrev pub IsPathBy : Loaded → Options → List ℕ → PlainPath → PlainPath → Outcome → Type 0
IsPathBy l o text p p' Done = IsResolved l o text p'
IsPathBy l o text p p' a = IsUnresolved l o text a × (p' ≡ p)

abbrev pub IsPath : Held → Options → List ℕ → PlainPath → PlainPath → Outcome → Type 0
IsPath (Schema s) o text p p' a = IsPathBy s.loaded o text p p' a
IsPath (Room r) o text p p' a = (a ≡ NoRoot) × (p' ≡ p)

-- the paths fit the schema from the root that the options ask
abbrev pub AllFitAsked : Loaded → Options → List PlainPath → Type 0
AllFitAsked l o paths = IsSomeAnd (root_asked l o) (λ root. AllFit l.schema root paths)

-- the check of a buffer begins, and the paths fit from its root
abbrev pub StartsRead : Based → ℕ → Options → List ℕ → List PlainPath → Question → Type 0
StartsRead s n o b paths begun = Starts s n o b begun × AllFit s.loaded.schema begun.root paths

-- why no values are looked for
abbrev pub IsUnread : Based → ℕ → Options → List ℕ → List PlainPath → Outcome → Type 0
IsUnread s n o b paths TooLong = IsChecked s n o b TooLong × AllFitAsked s.loaded o paths
IsUnread s n o b paths (Misfit place) = Serves s n o (λ plan root ident. IsFirstMisfit s.loaded.schema root paths place)
IsUnread s n o b paths a = IsUnserved s n o a

-- what is answered where the values in a buffer are asked for: where all paths fit, what a check answers, with the
-- values of a good buffer; else the first that doesn't, whatever is in the buffer
abbrev pub IsRead : Based → ℕ → Options → List ℕ → List PlainPath → List Value → List Value → Outcome → Type 0
IsRead s n o b paths v v' (Good r) =
    IsChecked s n o b (Good r) × AllFitAsked s.loaded o paths × IsSomeAnd (root_asked s.loaded o) (λ root. AreValues b s.loaded.schema (start_asked o) root paths v')
IsRead s n o b paths v v' (Bad f) = IsChecked s n o b (Bad f) × AllFitAsked s.loaded o paths × (v' ≡ v)
IsRead s n o b paths v v' a = IsUnread s n o b paths a × (v' ≡ v)

abbrev pub IsReadBy : Held → ℕ → Options → List ℕ → List PlainPath → List Value → List Value → Outcome → Type 0
IsReadBy (Schema s) n o b paths v v' a = IsRead s n o b paths v v' a
IsReadBy (Room r) n o b paths v v' a = (a ≡ NoRoot) × (v' ≡ v)
