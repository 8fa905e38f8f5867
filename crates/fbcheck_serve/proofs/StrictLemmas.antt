-- What a schema file's marks let strict checks ask.
use Rattle.std.proofs.Common.{◌≡◌, IfErr, IfOk, OnOk, ℕ, List, None, Option, Result, Some, map, true, false, refl, length}
use Rattle.std.specs.Prelude.{not, Err, Ok}
use Rattle.std.specs.Borrow.{Bor}
use Rattle.std.proofs.lemmas.Bool.{not-true}
use Rattle.clap.proofs.WalkLemmas.{both}
use Rattle.fb_schema.specs.Rows.{Rows}
use Rattle.fb_bfbs.specs.{ByteFields.HasUnmarked, Marks.AreMarks, Marks.marked, declared.marks.Marks.Marks}
use Rattle.fb_strict.specs.Planned.{IsPlan, Planned}
use Rattle.fbcheck_texts.specs.declared.fault.AskFault.{AskFault, TheVariants.NoSuchTable, TheVariants.OutOfMemory, TheVariants.UnmarkedBytes}
use Rattle.fbcheck_texts.specs.declared.{hint.Unasked.Unasked, choices.Settings.Settings}
use Rattle.fbcheck_serve.specs.{Asked.IsAskedPlan, Asked.demanded, Asked.demanded_by, Asked.is_demanding, ByteFields.LacksPlan, ByteFields.Misses, ByteFields.has_lost}
use Rattle.fbcheck_serve.specs.{Checking.IsPlanBy, Checking.IsPlanless, Checking.LacksPlanBy, Checking.MayAsk, Checking.NeedsMarks, FileMarks.IsMarkedFile, FileMarks.schema_limits}

-- Whose marks are asked.

-- nothing is asked of marks where nested buffers aren't
pub may_unless_nested : (file : Option (Bor (List ℕ))) (rows : Rows) (settings : Settings) → (demanded settings).nested ≡ false → MayAsk file rows settings
may_unless_nested None rows settings none needs = absurd needs
may_unless_nested (Some bytes) rows settings none needs = absurd (let never = rw (needs.0, needs.1) at none in cc)

-- nor where nothing is demanded
pub may_undemanded : (file : Option (Bor (List ℕ))) (rows : Rows) (settings : Settings) → is_demanding settings ≡ false → MayAsk file rows settings
may_undemanded None rows settings none needs = absurd needs
may_undemanded (Some bytes) rows settings none needs = absurd (let never = rw needs.0 at none in cc)

-- but else they are
pub needed : (bytes : Bor (List ℕ)) (settings : Settings) → (demanded settings).nested ≡ true → NeedsMarks (Some bytes) settings
needed bytes settings is = let (strict, marked) = both settings.strict (not settings.plain_bytes) is in (strict, not-true settings.plain_bytes marked)

-- a plan by the marks of a file
pub by_marks : (bytes : Bor (List ℕ)) (rows : Rows) (settings : Settings) (plan : Planned) → is_demanding settings ≡ true → (demanded settings).nested ≡ true → IsPlanBy bytes.now rows settings plan
    → IsAskedPlan (Some bytes) rows settings (Some plan) × MayAsk (Some bytes) rows settings
by_marks bytes rows settings plan is nested by =
    let marks = map marked by.read.fields.items in
    let are : IsMarkedFile (Some bytes) marks by.read.builtins = (by.read, by.are, refl, refl) in
    ((is, marks, rw nested (by.read.builtins, are), by.plan_is), λ needs. (marks, by.read.builtins, are, by.told))

-- Where there is none.

pub planless_by : (bytes : Bor (List ℕ)) (rows : Rows) (settings : Settings) → NeedsMarks (Some bytes) settings → (fault : AskFault) → LacksPlanBy bytes.now rows fault
    → IsPlanless (Some bytes) rows settings fault
planless_by bytes rows settings needs OutOfMemory lacks = tt
planless_by bytes rows settings needs UnmarkedBytes (read, are, has) = (needs, map marked read.fields.items, read.builtins, (read, are, refl, refl), has)
planless_by bytes rows settings needs NoSuchTable (read, are, has) = (needs, map marked read.fields.items, read.builtins, (read, are, refl, refl), has)
planless_by bytes rows settings needs _ (read, are, never) = absurd never

module _ (bytes : List ℕ) (rows : Rows) (read : Marks) (are : AreMarks bytes (schema_limits (length bytes)) read) where
  -- a field of bytes without a mark
  pub unmarked_by : (fault : AskFault) → Misses rows (map marked read.fields.items) read.builtins fault → LacksPlanBy bytes rows fault
  unmarked_by OutOfMemory misses = tt
  unmarked_by _ misses = (read, are, misses)

  module _ (all : HasUnmarked rows (map marked read.fields.items) read.builtins → ⊥) where
    -- a mark without a table
    lost_by : (fault : AskFault) → LacksPlan rows (map marked read.fields.items) fault → LacksPlanBy bytes rows fault
    lost_by OutOfMemory lacks = tt
    lost_by NoSuchTable lacks = (read, are, record { all = all; lost = lacks })
    lost_by _ lacks = absurd lacks

    pub planned_not : (r : Result Planned Unasked) → IfErr r (λ u. LacksPlan rows (map marked read.fields.items) u.fault) → IfErr r (λ u. LacksPlanBy bytes rows u.fault)
    planned_not (Ok plan) lacks = tt
    planned_not (Err u) lacks = lost_by u.fault lacks

    -- and neither
    pub planned_so : (settings : Settings) (r : Result Planned Unasked) → (demanded settings).nested ≡ true → IfOk r (IsPlan rows (demanded_by rows settings (map marked read.fields.items)))
        → OnOk r ((demanded settings).nested ≡ true → has_lost rows (map marked read.fields.items) ≡ false) → IfOk r (IsPlanBy bytes rows settings)
    planned_so settings (Ok plan) nested is found = record { read = read; are = are; told = record { all = all; found = found nested }; plan_is = is }
    planned_so settings (Err u) nested is found = tt
