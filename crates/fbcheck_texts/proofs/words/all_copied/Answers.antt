use Rattle.std.proofs.Common.{◌≡◌, ◌∙◌, None, Some, ap, map, string_bytes, subst}
use Rattle.std.specs.Prelude.{IfOk}
use Rattle.clap.specs.Words.{found_of}
use Rattle.fbcheck_texts.proofs.WordsLemmas.{texts_held}
use Rattle.fbcheck_texts.proofs.words.all_copied.Goals as goal

pub returns-in-Some : goal.returns-in-Some
returns-in-Some c =
    subst (λ texts. IfOk c.copies.result (λ v. map string_bytes v.items ≡ texts))
    (texts_held (found_of c.args.matches.now) c.args.id.now (Some (map (λ s. s.now) c.in-Some.texts.now)) c.in-Some.ensures) c.copies.ensures

pub returns-in-None : goal.returns-in-None
returns-in-None c = ap (map string_bytes) c.new.ensures.items ∙ texts_held (found_of c.args.matches.now) c.args.id.now None c.in-None.ensures
