-- What of the field of a task can be read again, once the pass went through a word of it.
use Rattle.std.specs.Prelude.{ℕ, ◌<◌, List}
use Rattle.fb_rules.specs.{Fields.type_place, Fields.type_count, OffsetRows.TypeFits, OffsetRows.TypesFit}
use Rattle.fb_strict.specs.declared.tasks.Ask.{Ask, TheVariants.Texts as AskTexts, TheVariants.Union as AskUnion, TheVariants.Unions as AskUnions, TheVariants.Tables as GoIntoEach}
use Rattle.fb_strict.specs.Passing.{CountStands}

-- where it is a vector that stands at p, its count
abbrev pub WordsStand : List ℕ → (p : ℕ) → Ask → Type 0
WordsStand b p AskTexts = CountStands b p
WordsStand b p (GoIntoEach k) = CountStands b p
WordsStand b p (AskUnions e) = CountStands b p
WordsStand b p _ = Unit {0}

-- where it is a union, or a vector of these of which j are passed, the type
abbrev pub MemberStands : List ℕ → (t slot : ℕ) → ℕ → Ask → Type 0
MemberStands b t slot j (AskUnion e) = TypeFits b t slot
MemberStands b t slot j (AskUnions e) = TypesFit b t slot × (j < type_count b (type_place b t slot))
MemberStands b t slot j _ = Unit {0}
