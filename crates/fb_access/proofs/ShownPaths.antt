-- The examples of texts of paths, by computing.
use Rattle.std.proofs.Common.{◌≡◌, ℕ, List, [], ◌∷◌, ◌++◌, length, Err, codes, refl, inl, inr, arith, rules}
use Rattle.std.specs.List.{AllByRecursion}
use Rattle.std.proofs.lemmas.Bool.{false≢true}
use Rattle.fb_schema.specs.{Live.live_fields, Kinds.shape_of, Kinds.kind_of, Kinds.base_types, Members.member_of, Members.member_named, declared.kinds.Kind.Kind, declared.kinds.Kind.TheVariants.Table}
use Rattle.fb_schema.specs.Parts.{part_at, part_named}
use Rattle.fb_access.specs.Grammar.{Part, field, element, member, spelling, IsName, IsPart, IsNumber, IsReading}
use Rattle.fb_access.specs.{Resolving.fitting, Resolving.Follows, Samples.rows, declared.step.Step.Step, declared.misfit.Misfit.Misfit}
use Rattle.fb_access.specs.PathTests.{Words, Spellings, LeadsBy, IsUnfit, Resolved, Unfit}

-- all that is computed
computing : ℕ
unfolding live_fields shape_of kind_of base_types member_of member_named part_at part_named
computing = 0

begins_with_zero : IsNumber (codes "07") → ⊥
begins_with_zero (inl h) = absurd cc
begins_with_zero (inr h) = h.0 refl

-- a name and parts, and the text that they spell
reads : (name : List ℕ) (parts : List Part) → IsName name → AllByRecursion IsPart parts → IsReading (name ++ spelling parts) name parts
reads name parts is_name are_parts = record { is_name = is_name; are_parts = are_parts; spelled = refl }

-- parts that follow one another
leads : {text name : List ℕ} {parts : List Part} {steps : List Step} (last : Kind) → IsReading text name parts → Follows rows (Table 0) (field name ∷ parts) steps last → LeadsBy text steps
leads {name = name} {parts = parts} last reading follows = record { name = name; parts = parts; last = last; reading = reading; follows = follows }

-- parts of which one doesn't fit behind those before it
misfits : {text name : List ℕ} {parts : List Part} {misfit : Misfit} (steps : List Step) (last : Kind) (before : List Part) (part : Part) (after : List Part) → IsReading text name parts → field name ∷ parts ≡ before ++ part ∷ after → Follows rows (Table 0) before steps last → fitting rows last part ≡ Err misfit → IsUnfit text misfit (length before)
misfits {name = name} {parts = parts} steps last before part after reading all follows unfit = record { name = name; parts = parts; reading = reading; before = before; part = part; after = after; all = all; number = refl; steps = steps; last = last; follows = follows; unfit = unfit }

ten : IsNumber (codes "10")
ten = inr (λ e. absurd (omega (arith, e)), (refl, (refl, tt)), omega arith)

pub words_shown : Words
words_shown = search (rules, false≢true, begins_with_zero)

pub spellings_shown : Spellings
spellings_shown = search (rules, ten)

pub resolved_shown : Resolved
unfolding computing
resolved_shown = record {
  a_field = leads _ (reads (codes "text") [] (refl, (refl, (refl, (refl, tt)))) tt) (_, refl, _, refl, (refl, refl));
  behind_a_deprecated_field = leads _ (reads (codes "longs") (element (codes "7") ∷ []) (refl, (refl, (refl, (refl, (refl, tt))))) (inr (λ e. absurd (omega (arith, e)), (refl, tt), omega arith), tt)) (_, refl, _, refl, (_, refl, _, refl, (refl, refl)));
  of_a_table = leads _ (reads (codes "table") (field (codes "ubyte") ∷ []) (refl, (refl, (refl, (refl, (refl, tt))))) ((refl, (refl, (refl, (refl, (refl, tt))))), tt)) (_, refl, _, refl, (_, refl, _, refl, (refl, refl)));
  of_a_struct = leads _ (reads (codes "struct") (field (codes "y") ∷ []) (refl, (refl, (refl, (refl, (refl, (refl, tt)))))) ((refl, tt), tt)) (_, refl, _, refl, (_, refl, _, refl, (refl, refl)));
  of_an_array = leads _ (reads (codes "struct") (field (codes "z") ∷ element (codes "3") ∷ []) (refl, (refl, (refl, (refl, (refl, (refl, tt)))))) ((refl, tt), (inr (λ e. absurd (omega (arith, e)), (refl, tt), omega arith), tt))) (_, refl, _, refl, (_, refl, _, refl, (_, refl, _, refl, (refl, refl))));
  of_a_member = leads _ (reads (codes "us") (element (codes "1") ∷ member (codes "A") ∷ field (codes "byte") ∷ []) (refl, (refl, tt)) (inr (λ e. absurd (omega (arith, e)), (refl, tt), omega arith), ((refl, tt), ((refl, (refl, (refl, (refl, tt)))), tt)))) (_, refl, _, refl, (_, refl, _, refl, (_, refl, _, refl, (_, refl, _, refl, (refl, refl)))));
}

pub unfit_shown : Unfit
unfolding computing
unfit_shown = record {
  no_field = misfits _ _ (field (codes "table") ∷ []) (field (codes "none")) [] (reads (codes "table") (field (codes "none") ∷ []) (refl, (refl, (refl, (refl, (refl, tt))))) ((refl, (refl, (refl, (refl, tt)))), tt)) refl (_, refl, _, refl, (refl, refl)) refl;
  a_deprecated_field = misfits _ _ [] (field (codes "old")) [] (reads (codes "old") [] (refl, (refl, (refl, tt))) tt) refl (refl, refl) refl;
  no_vector = misfits _ _ (field (codes "table") ∷ []) (element (codes "0")) [] (reads (codes "table") (element (codes "0") ∷ []) (refl, (refl, (refl, (refl, (refl, tt))))) (inl (refl, refl), tt)) refl (_, refl, _, refl, (refl, refl)) refl;
  no_union = misfits _ _ (field (codes "tables") ∷ element (codes "0") ∷ []) (member (codes "A")) [] (reads (codes "tables") (element (codes "0") ∷ member (codes "A") ∷ []) (refl, (refl, (refl, (refl, (refl, (refl, tt)))))) (inl (refl, refl), ((refl, tt), tt))) refl (_, refl, _, refl, (_, refl, _, refl, (refl, refl))) refl;
  no_member = misfits _ _ (field (codes "us") ∷ element (codes "0") ∷ []) (member (codes "B")) [] (reads (codes "us") (element (codes "0") ∷ member (codes "B") ∷ []) (refl, (refl, tt)) (inl (refl, refl), ((refl, tt), tt))) refl (_, refl, _, refl, (_, refl, _, refl, (refl, refl))) refl;
  no_part = misfits _ _ (field (codes "us") ∷ element (codes "0") ∷ member (codes "W") ∷ []) (field (codes "w")) [] (reads (codes "us") (element (codes "0") ∷ member (codes "W") ∷ field (codes "w") ∷ []) (refl, (refl, tt)) (inl (refl, refl), ((refl, tt), ((refl, tt), tt)))) refl (_, refl, _, refl, (_, refl, _, refl, (_, refl, _, refl, (refl, refl)))) refl;
  no_table = misfits _ _ (field (codes "n") ∷ []) (field (codes "x")) [] (reads (codes "n") (field (codes "x") ∷ []) (refl, tt) ((refl, tt), tt)) refl (_, refl, _, refl, (refl, refl)) refl;
}
